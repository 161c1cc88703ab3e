-- The endings of an ask in a log, in code.
use Rattle.std.proofs.Common.{◌≡◌, ℕ, zero, suc, ◌+◌, ◌≤◌, List, [], ◌∷◌, ◌++◌, length, map, take, drop, Some, None, slice_get, sym, ap}
use Rattle.std.proofs.Common.{◌∙◌, length-append, refl, arith}
use Rattle.std.specs.Prelude.{reverse}
use Rattle.std.proofs.lemmas.List.{append-nil, length-map, length-reverse, map-append, reverse-append, take-append-drop, length-take}
use Rattle.bac_world.specs.Once.{Fact}
use Rattle.bac_network.specs.declared.fact.Fact as code
use Rattle.bac_network.specs.Views.{fact_view, log_view}
use Rattle.bac_liveness.specs.StraightRuns.{ending_in}
use Rattle.bac_network.specs.Logs.{IsSince}
use Rattle.bac_network.proofs.Grown.{same_ends}

-- the facts before the ask, in code
module _ (since ask : ℕ) (log : List code.Fact) (h : IsSince since ask (log_view log)) where
  abbrev front : List code.Fact
  front = take since log

  views_many : (l : List code.Fact) → length (log_view l) ≡ length l
  views_many l = length-reverse (map fact_view l) ∙ length-map l fact_view

  pub since_within : since ≤ length log
  since_within =
      let all : length (log_view log) ≡ length h.newer + length h.older = ap (λ l. length l) h.is ∙ length-append h.newer h.older in
      let many = views_many log in let old = h.many in omega arith

  split : log_view log ≡ log_view (drop since log) ++ log_view front
  split = ap log_view (sym (take-append-drop since log)) ∙ ap reverse (map-append fact_view front (drop since log))
      ∙ reverse-append (map fact_view front) (map fact_view (drop since log))

  front_many : length (log_view front) ≡ length h.older
  front_many = views_many front ∙ (let e = length-take since log in let w = since_within in let m = h.many in omega arith)

  pub none_before : ending_in ask (log_view front) ≡ None
  none_before = ap (ending_in ask) (same_ends (log_view (drop since log)) (log_view front) h.newer h.older (sym split ∙ h.is) front_many) ∙ h.none

-- one fact more, in code
pub one_more : (log : List code.Fact) (at : ℕ) (f : code.Fact) → slice_get log at ≡ Some f → log_view (take (at + 1) log) ≡ fact_view f ∷ log_view (take at log)
one_more log at f is =
    ap log_view (taken log at f is) ∙ ap reverse (map-append fact_view (take at log) (f ∷ []))
    ∙ reverse-append (map fact_view (take at log)) (fact_view f ∷ [])
  where
    taken : (xs : List code.Fact) (n : ℕ) (x : code.Fact) → slice_get xs n ≡ Some x → take (n + 1) xs ≡ take n xs ++ x ∷ []
    taken [] n x e = absurd cc
    taken (y ∷ xs) zero x e = let same : y ≡ x = cc in ap (λ z. z ∷ []) same
    taken (y ∷ xs) (suc n) x e =
        let next : suc n + 1 ≡ suc (n + 1) = omega arith in ap (λ k. take k (y ∷ xs)) next ∙ ap (λ l. y ∷ l) (taken xs n x e)

-- of any log all facts can be looked at
pub since_all : (ask : ℕ) (log : List Fact) → IsSince 0 ask log
since_all ask log = record { newer = log; older = []; is = sym (append-nil log); many = refl; none = refl }
