-- A transaction that awaits replies is updated in its slot.
use Rattle.std.proofs.Common.{◌≡◌, ℕ, Bool, true, false, List, [], ◌∷◌, Option, Some, None, is_some}
use Rattle.std.proofs.Common.{if◌then◌else◌, refl, sym, ap, subst, ◌∙◌}
use Rattle.std.specs.Option.{option_map}
use Rattle.bac_slots.specs.Slots.{value_at, with_value, keep}
use Rattle.bac_explain.specs.declared.finding.Finding.{Finding}
use Rattle.bac_explain.specs.declared.key.TransactionKey.{TransactionKey}
use Rattle.bac_explain.specs.declared.transaction.Transaction.{Transaction}
use Rattle.bac_explain.specs.Keys.{same_key}
use Rattle.bac_explain.specs.KeyViews.{key_view}
use Rattle.bac_explain.specs.Tables.{Transactions, Heard, awaited, goes_on}
use Rattle.bac_explain.specs.Transactions.{TransactionView, is_awaited}
use Rattle.bac_explain.specs.Views.{code_same_key, slots_view, transaction_view}
use Rattle.bac_explain.proofs.Seen.{Item, value_seen, set_back_seen}

-- the transaction with the key, by its slot
some_seen : (key : TransactionKey) (slots : List Item) (t : Transaction) → Some t ≡ value_at code_same_key key slots
    → value_at same_key (key_view key) (slots_view slots) ≡ Some (transaction_view t)
some_seen key slots t e = sym (value_seen key slots) ∙ ap (option_map transaction_view) (sym e)

awaited_is : (now : ℕ) (o : Option TransactionView) (t : TransactionView) → o ≡ Some t → true ≡ is_some (keep (is_awaited now) o) → keep (is_awaited now) o ≡ Some t
awaited_is now o t e alive =
    ap (keep (is_awaited now)) e ∙ go (is_awaited now t) (subst (λ (x : Option TransactionView). true ≡ is_some (keep (is_awaited now) x)) e alive)
  where
    go : (b : Bool) → true ≡ is_some (if b then Some t else None) → (if b then Some t else None) ≡ Some t
    go true e = refl
    go false e = absurd cc

-- the transaction is updated
pub goes_heard : (H : Option TransactionView → Transactions → Heard) (now : ℕ) (key : TransactionKey) (slots new : List Item) (old : Transactions)
    (t w : Transaction) (f : Option Finding) → slots_view slots ≡ old → true ≡ is_some (awaited now (key_view key) old)
    → Some t ≡ value_at code_same_key key slots → new ≡ with_value code_same_key key w slots
    → record { slots = with_value same_key (key_view key) (transaction_view w) (slots_view slots); closed = None; finding = f }
    ≡ H (Some (transaction_view t)) (slots_view slots)
    → record { slots = slots_view new; closed = None; finding = f } ≡ H (awaited now (key_view key) old) old
goes_heard H now key slots new old t w f view alive at set step =
    let is = awaited_is now (value_at same_key (key_view key) (slots_view slots)) (transaction_view t) (some_seen key slots t at)
    (subst (λ (l : Transactions). true ≡ is_some (awaited now (key_view key) l)) (sym view) alive) in
    ap (λ l. record { slots = l; closed = None; finding = f }) (set_back_seen key w slots new set) ∙ step
    ∙ ap (λ o. H o (slots_view slots)) (sym is) ∙ ap (λ l. H (awaited now (key_view key) l) l) view

-- there is no such transaction
pub none_heard : (H : Option TransactionView → Transactions → Heard) (now : ℕ) (key : TransactionKey) (slots new : List Item) (old : Transactions)
    (f : Option Finding) → slots_view slots ≡ old → None ≡ value_at code_same_key key slots → new ≡ slots
    → record { slots = slots_view slots; closed = None; finding = f } ≡ H None (slots_view slots)
    → record { slots = slots_view new; closed = None; finding = f } ≡ H (awaited now (key_view key) old) old
none_heard H now key slots new old f view at same step =
    let none : awaited now (key_view key) (slots_view slots) ≡ None =
    ap (keep (is_awaited now)) (sym (value_seen key slots) ∙ ap (option_map transaction_view) (sym at)) in
    ap (λ l. record { slots = slots_view l; closed = None; finding = f }) same ∙ step
    ∙ ap (λ o. H o (slots_view slots)) (sym none) ∙ ap (λ l. H (awaited now (key_view key) l) l) view

-- if the transaction is unchanged, so are the slots
pub same_slots : (key : TransactionKey) (slots new : List Item) (old : Transactions) (t w : Transaction) → slots_view slots ≡ old
    → Some t ≡ value_at code_same_key key slots → new ≡ with_value code_same_key key w slots → transaction_view w ≡ transaction_view t
    → slots_view new ≡ old
same_slots key slots new old t w view at set same =
    set_back_seen key w slots new set ∙ ap (λ x. with_value same_key (key_view key) x (slots_view slots)) same
    ∙ set_back (slots_view slots) (some_seen key slots t at) ∙ view
  where
    set_back : (l : Transactions) → value_at same_key (key_view key) l ≡ Some (transaction_view t)
        → with_value same_key (key_view key) (transaction_view t) l ≡ l
    set_back [] e = absurd cc
    set_back (s ∷ l) e = go (same_key s.key (key_view key)) e (set_back l)
      where
        go : (b : Bool) → (if b then Some s.value else value_at same_key (key_view key) l) ≡ Some (transaction_view t)
            → (value_at same_key (key_view key) l ≡ Some (transaction_view t) → with_value same_key (key_view key) (transaction_view t) l ≡ l)
            → (if b then record s { value = transaction_view t } ∷ l else s ∷ with_value same_key (key_view key) (transaction_view t) l) ≡ s ∷ l
        go true e rest = ap (λ o. record s { value = value_in o } ∷ l) (sym e)
          where
            value_in : Option TransactionView → TransactionView
            value_in None = s.value
            value_in (Some x) = x
        go false e rest = ap (λ m. s ∷ m) (rest e)

-- the transaction with a key is updated
pub repeat_heard : (key : TransactionKey) (slots new : List Item) (old : Transactions) (t w : Transaction) (f : Option Finding)
    (step : TransactionView → TransactionView × Option Finding) → slots_view slots ≡ old → Some t ≡ value_at code_same_key key slots
    → new ≡ with_value code_same_key key w slots → transaction_view w ≡ (step (transaction_view t)).0 → f ≡ (step (transaction_view t)).1
    → (v : TransactionView) → value_at same_key (key_view key) old ≡ Some v
    → record { slots = slots_view new; closed = None; finding = f } ≡ goes_on (key_view key) old (step v)
repeat_heard key slots new old t w f step view at set seen finding v is =
    let same : transaction_view t ≡ v = ap value_in (sym (some_seen key slots t at) ∙ ap (value_at same_key (key_view key)) view ∙ is) in
    (λ i. record {
      slots = (set_back_seen key w slots new set ∙ ap (λ x. with_value same_key (key_view key) x (slots_view slots)) seen) i;
      closed = None;
      finding = finding i;
    }) ∙ ap (λ l. goes_on (key_view key) l (step (transaction_view t))) view ∙ ap (λ x. goes_on (key_view key) old (step x)) same
  where
    value_in : Option TransactionView → TransactionView
    value_in None = transaction_view t
    value_in (Some x) = x

pub repeat_none : (key : TransactionKey) (slots : List Item) (old : Transactions) → slots_view slots ≡ old → None ≡ value_at code_same_key key slots
    → (v : TransactionView) → value_at same_key (key_view key) old ≡ Some v → ⊥
repeat_none key slots old view at v is =
    none_some (ap (option_map transaction_view) at ∙ value_seen key slots ∙ ap (value_at same_key (key_view key)) view ∙ is)
  where
    none_some : None ≡ Some v → ⊥
    none_some e = absurd cc

pub alive_of : (b : Bool) (o : Option TransactionView) → b ≡ true → b ≡ is_some o → true ≡ is_some o
alive_of b o alive is = sym alive ∙ is
