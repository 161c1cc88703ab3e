-- What never changes of an entry, and its state, tell it.
use Rattle.std.proofs.Common.{◌≡◌, ◌↔◌, ℕ, Bool, true, false, IsTrue, MatchBool, refl, ap, sym, ◌∙◌}
use Rattle.bac_protocol.specs.Server.{ServerTransaction, State}
use Rattle.bac_protocol.specs.Server.State.{Dropped}
use Rattle.bac_responder.specs.TransactionViews.{entry_of, entry_view, state_view}
use Rattle.bac_responder.specs.declared.server_transaction.Origin.{Origin}
use Rattle.bac_responder.specs.declared.server_transaction.State as code

module _ (a b : Origin) (s t : code.State) where
  pub by_state : (r : Bool) → ((z : State) → entry_of a z ≡ entry_of b z)
      → MatchBool r ((c : ℕ) → state_view c s ≡ state_view c t) ((c : ℕ) → state_view c s ≡ state_view c t → ⊥)
      → IsTrue r ↔ (entry_view a s ≡ entry_view b t)
  by_state true origin states =
      let choice : a.terms.choice ≡ b.terms.choice = ap (λ (e : ServerTransaction). e.choice) (origin Dropped) in (
        λ _. origin (state_view a.terms.choice s) ∙ ap (λ (z : State). entry_of b z) (states a.terms.choice)
            ∙ ap (λ (c : ℕ). entry_of b (state_view c t)) choice,
        λ _. refl,
      )
  by_state false origin differ =
      let choice : a.terms.choice ≡ b.terms.choice = ap (λ (e : ServerTransaction). e.choice) (origin Dropped) in (
        λ never. absurd cc,
        λ same. absurd (differ a.terms.choice (ap (λ (e : ServerTransaction). e.state) same ∙ ap (λ (c : ℕ). state_view c t) (sym choice))),
      )

  pub by_origin : (r : Bool) → r ≡ false
      → MatchBool r ((z : State) → entry_of a z ≡ entry_of b z) ((y z : State) → entry_of a y ≡ entry_of b z → ⊥)
      → IsTrue r ↔ (entry_view a s ≡ entry_view b t)
  by_origin true is differ = absurd cc
  by_origin false is differ = (λ never. absurd cc, λ same. absurd (differ _ _ same))

pub where_same : (A B : Type 0) (r : Bool) → r ≡ true → MatchBool r A B → A
where_same A B true is a = a
where_same A B false is b = absurd cc
