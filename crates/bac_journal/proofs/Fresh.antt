-- What is kept of nodes that have asked nothing.
use Rattle.std.proofs.Common.{◌≡◌, false, ℕ, zero, suc, ◌+◌, ◌<◌, ◌⊎◌, arith, map, take, List, [], ◌∷◌, ◌++◌, length, Option, Some, None, slice_get, refl, sym, ap, subst, inl, inr, ◌∙◌}
use Rattle.std.specs.Prelude.{option_and_then}
use Rattle.std.specs.Option.{option_map}
use Rattle.std.proofs.lemmas.List.{length-map}
use Rattle.std.proofs.lemmas.Option.{slice_get-map}
use Rattle.std.specs.Global.{Vec}
use Rattle.bac_protocol.specs.Transaction.{Key}
use Rattle.bac_world.proofs.Steps.{decide_number}
use Rattle.bac_journal.specs.declared.asks.Cell.{Cell}
use Rattle.bac_journal.specs.declared.asks.Row.{Row}
use Rattle.bac_journal.specs.Index.{cell_at, cell_in, cells_of, number_at, newest_at, places_of, ArePlaces}
use Rattle.bac_journal.specs.Journals.{AreEmpty, AreFresh, IsFreshRow}
use Rattle.bac_protocol.specs.Service.{Octets}
use Rattle.bac_journal.specs.Lives.{fresh_life}
use Rattle.bac_journal.specs.Records.{IsKept}
use Rattle.bac_journal.proofs.Lists.{get_push, get_push_other}

-- there is no cell
no_cell : (nodes : ℕ) (rows : List Row) → AreFresh nodes rows → (k : Key) → cell_at rows k ≡ None
no_cell nodes rows fresh k = go (slice_get rows k.client) refl
  where
    look : Option (Vec Cell) → Option Cell
    look o = option_and_then (λ (p : Vec Cell). slice_get p.items k.invoke_id) o

    page : (r : Row) → IsFreshRow nodes r → (o : Option (Vec Cell)) → slice_get r.pages.items k.server ≡ o → look o ≡ None
    page r f None e = refl
    page r f (Some p) e = ap (λ l. slice_get l k.invoke_id) (f.empty k.server p e)

    go : (o : Option Row) → slice_get rows k.client ≡ o → option_and_then (cell_in k.server k.invoke_id) o ≡ None
    go None e = refl
    go (Some r) e = page r (fresh k.client r e) (slice_get r.pages.items k.server) refl

none_newest : (nodes : ℕ) (rows : List Row) → AreFresh nodes rows → (k : Key) → newest_at rows k ≡ None
none_newest nodes rows fresh k = ap (λ (o : Option Cell). option_and_then (λ (c : Cell). c.newest) o) (no_cell nodes rows fresh k)

places_fresh : (nodes : ℕ) (r : Row) → IsFreshRow nodes r → ArePlaces nodes (places_of r)
places_fresh nodes r f = record {
  many = length-map r.pages.items cells_of ∙ f.many;
  whole = λ s n at. inl (go s n (slice_get r.pages.items s) refl (sym (slice_get-map cells_of r.pages.items s) ∙ at));
}
  where
    go : (s n : ℕ) (o : Option (Vec Cell)) → slice_get r.pages.items s ≡ o → option_map cells_of o ≡ Some n → n ≡ 0
    go s n None e g = absurd cc
    go s n (Some p) e g = let is : length p.items ≡ n = cc in sym is ∙ ap (λ l. length l) (f.empty s p e)

none_number : (nodes : ℕ) (rows : List Row) → AreFresh nodes rows → (c t : ℕ) → number_at rows c t ≡ None
none_number nodes rows fresh c t = go (slice_get rows c) refl
  where
    go : (o : Option Row) → slice_get rows c ≡ o → option_and_then (λ (r : Row). slice_get r.numbers.items t) o ≡ None
    go None e = refl
    go (Some r) e = ap (λ l. slice_get l t) (fresh c r e).numbers

pub fresh_kept : (rows : List Row) (nodes : ℕ) → length rows ≡ nodes → AreFresh nodes rows → IsKept rows [] []
fresh_kept rows nodes many fresh = record {
  newest_is = λ k lk. none_newest nodes rows fresh k;
  number_is = λ c t. none_number nodes rows fresh c t;
  counted = λ c r at. ap (λ l. length l) (fresh c r at).numbers;
  places = λ c r at. subst (λ n. ArePlaces n (places_of r)) (sym many) (places_fresh nodes r (fresh c r at));
  sent = λ k c lk at. absurd (let e : None ≡ Some c = sym (no_cell nodes rows fresh k) ∙ at in cc);
  before = λ n c at. absurd cc;
  placed = λ n c at. absurd cc;
}

pub fresh_push : (nodes : ℕ) (rows : List Row) (r : Row) → AreFresh nodes rows → IsFreshRow nodes r → AreFresh nodes (rows ++ r ∷ [])
fresh_push nodes rows r fresh f c q at = go (decide_number c (length rows))
  where
    go : ((c ≡ length rows) ⊎ (c ≡ length rows → ⊥)) → IsFreshRow nodes q
    go (inl is) =
        let same : r ≡ q = let e : Some r ≡ Some q = sym (get_push rows r) ∙ ap (slice_get (rows ++ r ∷ [])) (sym is) ∙ at in cc in
        subst (IsFreshRow nodes) same f
    go (inr ne) = fresh c q (sym (get_push_other rows r c ne) ∙ at)

pub empty_push : (pages : List (Vec Cell)) (p : Vec Cell) → AreEmpty pages → p.items ≡ [] → AreEmpty (pages ++ p ∷ [])
empty_push pages p all empty s q at = go (decide_number s (length pages))
  where
    go : ((s ≡ length pages) ⊎ (s ≡ length pages → ⊥)) → q.items ≡ []
    go (inl is) =
        let same : p ≡ q = let e : Some p ≡ Some q = sym (get_push pages p) ∙ ap (slice_get (pages ++ p ∷ [])) (sym is) ∙ at in cc in
        ap (λ (v : Vec Cell). v.items) (sym same) ∙ empty
    go (inr ne) = all s q (sym (get_push_other pages p s ne) ∙ at)

-- one life more
pub fresh_more : (links : List Octets) (i : ℕ) → i < length links
    → map fresh_life (take (i + 1) links) ≡ map fresh_life (take i links) ++ record { active = false; sends_until = 0 } ∷ []
fresh_more links i h = ap (λ n. map fresh_life (take n links)) (let on : i + 1 ≡ suc i = omega arith in on) ∙ go links i h
  where
    go : (ls : List Octets) (k : ℕ) → k < length ls
        → map fresh_life (take (suc k) ls) ≡ map fresh_life (take k ls) ++ record { active = false; sends_until = 0 } ∷ []
    go [] k lt = absurd (omega (arith, lt))
    go (l ∷ ls) zero lt = refl
    go (l ∷ ls) (suc k) lt = ap (λ t. fresh_life l ∷ t) (go ls k (omega (arith, lt)))
