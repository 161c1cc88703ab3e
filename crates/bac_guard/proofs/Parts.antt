-- The parts of a text, and the blocks that they are.
use Rattle.std.proofs.Common.{◌≡◌, ℕ, suc, ◌+◌, ◌-◌, ◌<◌, ◌≤◌, List, [], ◌∷◌, ◌++◌, length, slice_get, Some, refl, ap, sym, subst, ◌∙◌, append_assoc, length-append, arith}
use Rattle.std.specs.List.{before_first, after_first, position_or_len}
use Rattle.std.proofs.lemmas.List.Splits.{length-slice_split, slice_split_first, slice_split_none}
use Rattle.std.proofs.lemmas.List.Sums.{fails_before_first}
use Rattle.bac_guard.specs.declared.block.Block.{Block}
use Rattle.bac_guard.specs.declared.fault.BlockFlaw.{BlockFlaw}
use Rattle.bac_guard.specs.Texts.{AreBlocks, AreFew, HasFlaw, HasFlawAt, IsBlock, is_comma, parts_of}

-- ---- the first part

pub first_of : (text part others : List ℕ) → position_or_len is_comma text < length text → part ≡ before_first is_comma text
    → others ≡ after_first is_comma text → parts_of text ≡ part ∷ parts_of others
first_of text part others l e f =
    slice_split_first is_comma text 0 l ∙ ap (λ (p : List ℕ). p ∷ parts_of (after_first is_comma text)) (sym e)
    ∙ ap (λ (o : List ℕ). part ∷ parts_of o) (sym f)

pub only_part : (text : List ℕ) → position_or_len is_comma text ≡ length text → parts_of text ≡ text ∷ []
only_part text e =
    slice_split_none is_comma text (λ k d l. fails_before_first is_comma text k d (omega (arith, l, e)))

-- ---- the blocks so far

-- the first parts of a text are these blocks, of which there are so many, and what comes behind them is left
pub record IsReadTo (text : List ℕ) (rest : List (List ℕ)) (blocks : List Block) (count : ℕ) : Type 0 where
  pub done : List (List ℕ)
  pub is : parts_of text ≡ done ++ rest
  pub each : AreBlocks done blocks
  pub many : length blocks ≡ count

as_many : (parts : List (List ℕ)) (blocks : List Block) → AreBlocks parts blocks → length parts ≡ length blocks
as_many [] [] h = refl
as_many [] (b ∷ blocks) h = absurd h
as_many (part ∷ parts) [] h = absurd h
as_many (part ∷ parts) (b ∷ blocks) h = ap suc (as_many parts blocks h.1)

one_more : (parts : List (List ℕ)) (blocks : List Block) (part : List ℕ) (b : Block) → AreBlocks parts blocks → IsBlock part b
    → AreBlocks (parts ++ part ∷ []) (blocks ++ b ∷ [])
one_more [] [] part b h i = (i, tt)
one_more [] (a ∷ blocks) part b h i = absurd h
one_more (p ∷ parts) [] part b h i = absurd h
one_more (p ∷ parts) (a ∷ blocks) part b h i = (h.0, one_more parts blocks part b h.1 i)

more_long : (blocks : List Block) (b : Block) → length (blocks ++ b ∷ []) ≡ length blocks + 1
more_long [] b = refl
more_long (a ∷ blocks) b = let more = more_long blocks b in omega (arith, more)

pub read_none : (text : List ℕ) (blocks : List Block) → blocks ≡ [] → IsReadTo text (parts_of text) blocks 0
read_none text blocks e = subst (λ (bs : List Block). IsReadTo text (parts_of text) bs 0) (sym e) (record { done = []; is = refl; each = tt; many = refl })

pub read_one : (text part : List ℕ) (rest others : List (List ℕ)) (blocks after : List Block) (b : Block) (count : ℕ) → IsReadTo text rest blocks count
    → rest ≡ part ∷ others → IsBlock part b → after ≡ blocks ++ b ∷ [] → IsReadTo text others after (count + 1)
read_one text part rest others blocks after b count r e i f =
    subst (λ (bs : List Block). IsReadTo text others bs (count + 1)) (sym f)
    (record {
      done = r.done ++ part ∷ [];
      is = r.is ∙ ap (λ (ps : List (List ℕ)). r.done ++ ps) e ∙ sym (append_assoc r.done (part ∷ []) others);
      each = one_more r.done blocks part b r.each i;
      many = more_long blocks b ∙ ap (λ (n : ℕ). n + 1) r.many;
    })

appended_none : (parts : List (List ℕ)) → parts ++ [] ≡ parts
appended_none [] = refl
appended_none (part ∷ parts) = ap (λ (ps : List (List ℕ)). part ∷ ps) (appended_none parts)

pub all_read : (text : List ℕ) (blocks : List Block) (count : ℕ) → IsReadTo text [] blocks count → count ≤ 32 → AreFew text blocks
all_read text blocks count r l =
    let many = r.many in
    record {
      each = subst (λ (ps : List (List ℕ)). AreBlocks ps blocks) (sym (r.is ∙ appended_none r.done)) r.each;
      few = omega (arith, many, l);
    }

part_at : (parts others : List (List ℕ)) (part : List ℕ) → slice_get (parts ++ part ∷ others) (length parts) ≡ Some part
part_at [] others part = refl
part_at (p ∷ parts) others part = part_at parts others part

pub flaw_at : (text part : List ℕ) (rest others : List (List ℕ)) (blocks : List Block) (f : BlockFlaw) (count : ℕ) → IsReadTo text rest blocks count
    → rest ≡ part ∷ others → HasFlaw part f → HasFlawAt (parts_of text) (count + 1) f
flaw_at text part rest others blocks f count r e h =
    let many = as_many r.done blocks r.each ∙ r.many in
    let before : length r.done ≡ count + 1 - 1 = omega (arith, many) in
    record {
      part = part;
      from = omega arith;
      is = ap (λ (ps : List (List ℕ)). slice_get ps (count + 1 - 1)) (r.is ∙ ap (λ (ps : List (List ℕ)). r.done ++ ps) e)
          ∙ subst (λ (n : ℕ). slice_get (r.done ++ part ∷ others) n ≡ Some part) before (part_at r.done others part);
      flaw = h;
    }

pub too_many : (text rest : List ℕ) (blocks : List Block) (count : ℕ) → IsReadTo text (parts_of rest) blocks count → 32 ≤ count
    → 32 < length (parts_of text)
too_many text rest blocks count r l =
    let many = as_many r.done blocks r.each ∙ r.many in
    let whole = ap (λ (ps : List (List ℕ)). length ps) r.is ∙ length-append r.done (parts_of rest) in
    let more = length-slice_split is_comma rest in
    omega (arith, many, whole, more, l)
