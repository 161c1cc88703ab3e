-- Transactions that were printed one after the other.
use Rattle.std.proofs.Common.{◌≡◌, ℕ, Bool, true, false, List, [], ◌∷◌, ◌++◌, Option, refl, sym, ap, subst, append_assoc}
use Rattle.std.specs.Io.KnownBytes.{Appends}
use Rattle.std.proofs.KnownBytes.{Appends-nil, Appends-trans}
use Rattle.bac_explain.specs.Tables.{Transactions}
use Rattle.bac_explain_report.specs.Accounts.{Account}
use Rattle.bac_explain_report.specs.Rest.{AreShown, ArePrinted, IsStep, IsStepIn, Printing}
use Rattle.bac_explain_report.specs.declared.selection.ReportOptions.{ReportOptions}
use Rattle.bac_explain_report.specs.Counting.{Sums}

module _ (IsOne : Printing) where
  -- some were printed, and the others follow
  pub record IsSoFar (start now : Account) (old new : Option (List ℕ)) : Type 0 where
    pub text : List ℕ
    pub printed : Appends old new text
    pub then : (more : List ℕ) (final : Sums) → AreShown IsOne now.options.selection now.slots now.sums more final
        → AreShown IsOne start.options.selection start.slots start.sums (text ++ more) final

  pub none_so_far : (a : Account) (out : Option (List ℕ)) → IsSoFar a a out out
  none_so_far a out = record { text = []; printed = Appends-nil out; then = λ more final r. r }

  -- what a step prints, and the others after it
  record GoesOn (o : ReportOptions) (slots : Transactions) (sums : Sums) (next : Account) (old new : Option (List ℕ)) : Type 0 where
    pub text : List ℕ
    pub printed : Appends old new text
    pub then : (more : List ℕ) (final : Sums) → AreShown IsOne next.options.selection next.slots next.sums more final
        → AreShown IsOne o.selection slots sums (text ++ more) final

  goes_on : (o : ReportOptions) (slots : Transactions) (sums : Sums) (next : Account) (b c : Option (List ℕ)) → IsStepIn IsOne o slots sums next b c true
      → GoesOn o slots sums next b c
  goes_on o [] sums next b c t = absurd t
  goes_on o (s ∷ slots) sums next b c t = record {
    text = t.1.text;
    printed = t.1.printed;
    then = λ more final r. record {
      first = t.1.text;
      is_shown = t.1.is_shown;
      others = more;
      is = refl;
      are_others = subst (λ (a : Account). AreShown IsOne a.options.selection a.slots a.sums more final) t.0 r;
    };
  }

  pub more_so_far : (start now next : Account) (a b c : Option (List ℕ)) (m : Bool) → IsSoFar start now a b → IsStep IsOne now next b c m → m ≡ true
      → IsSoFar start next a c
  more_so_far start now next a b c m sofar step e =
      let g = goes_on now.options now.slots now.sums next b c (subst (λ (q : Bool). IsStep IsOne now next b c q) e step) in
      record {
        text = sofar.text ++ g.text;
        printed = Appends-trans a b c _ _ sofar.printed g.printed;
        then = λ more final r. subst (λ (l : List ℕ). AreShown IsOne start.options.selection start.slots start.sums l final)
            (sym (append_assoc sofar.text g.text more)) (sofar.then (g.text ++ more) final (g.then more final r));
      }

  finished : (o : ReportOptions) (slots : Transactions) (sums : Sums) (next : Account) (b c : Option (List ℕ)) → IsStepIn IsOne o slots sums next b c false
      → AreShown IsOne o.selection slots sums [] next.sums × (c ≡ b)
  finished o [] sums next b c t = ((refl, ap (λ (a : Account). a.sums) t.0), t.1)
  finished o (s ∷ slots) sums next b c t = absurd t

  pub all_printed : (start now next : Account) (a b c : Option (List ℕ)) (m : Bool) → IsSoFar start now a b → IsStep IsOne now next b c m → m ≡ false
      → ArePrinted IsOne start next.sums a c
  all_printed start now next a b c m sofar step e =
      let f = finished now.options now.slots now.sums next b c (subst (λ (q : Bool). IsStep IsOne now next b c q) e step) in
      record {
        text = sofar.text ++ [];
        are = sofar.then [] next.sums f.0;
        printed = Appends-trans a b c _ _ sofar.printed (subst (λ (o : Option (List ℕ)). Appends b o []) (sym f.1) (Appends-nil b));
      }
