-- Whether kept cells fit: what the code finds of one cell after another.
use Rattle.std.proofs.Common.{◌≡◌, ◌≢◌, inl, inr, ◌==◌, ℕ, zero, suc, ◌<◌, ◌≤◌, Bool, true, false, not, ◌&&◌, ◌||◌, List, [], ◌∷◌, ◌++◌, length, drop, get_or, Option, Some, None, is_none, refl, sym, ap, ◌∙◌, subst, arith, if◌then◌else◌}
use Rattle.std.specs.List.{AllByRecursion}
use Rattle.std.specs.Option.{option_map}
use Rattle.std.proofs.lemmas.Bool.Decides.{nat_tests}
use Rattle.bac_value.specs.Value.{ObjectId}
use Rattle.bac_value.specs.Views.{object_identifier_view}
use Rattle.bac_value.specs.declared.value.ObjectIdentifier.{ObjectIdentifier}
use Rattle.bac_store.specs.AtNode.{Change, IsFaultOf, change_fault, length_fault, or_fault, value_fault, whole}
use Rattle.bac_store.specs.Limits.{FILE_LIMIT}
use Rattle.bac_store.specs.Replies.{file_of}
use Rattle.bac_store.specs.Stores.{File, Object, Property, Store, is_number, listed_in, object_in}
use Rattle.bac_store.specs.Writes.{file_at, listed_at}
use Rattle.bac_store.specs.declared.change_fault.ChangeFault.{ChangeFault}
use Rattle.bac_store.specs.declared.change_fault.ChangeFault.TheVariants as change
use Rattle.bac_store.proofs.OrderLaws.{first_that-map}
use Rattle.bac_keep.specs.declared.cell.Cell.{Cell}
use Rattle.bac_keep.specs.declared.part.Part.TheVariants as part
use Rattle.bac_keep.specs.Cells.{Cells, NUMBERS, file_place, value_place}
use Rattle.bac_keep.specs.Overlay.{file_over, in_place, is_kept, joined, object_over, or_nothing, overlay, value_over}
use Rattle.bac_keep.specs.Restored.{is_writable_file, is_writable_value}
use Rattle.bac_keep.specs.Held.{IsRising, held}
use Rattle.bac_keep.proofs.Notes.{number_over, object_there}
use Rattle.bac_keep.proofs.Restores.{file_flag, value_flag}
use Rattle.bac_keep.proofs.Risings.{held_at, held_drop}
use Rattle.bac_c.specs.Fitting.{AreFit, EachFits, IsFitAt, IsPartAt, IsUnfitAt, IsWrong, has_parts, is_part, octets_fit, parts_fit, property_fits, values_fit}
use Rattle.bac_c.specs.Kept.{IsFaultFor, IsPlaceAt, fault_at, is_place, states_count}
use Rattle.bac_c.proofs.KeptPuts.{IsApartAt, is_held, less_of}
use Rattle.bac_c.specs.declared.kept_fault.KeptFault.{KeptFault}
use Rattle.bac_c.specs.declared.kept_fault.KeptFault.TheVariants as fault

-- ---- a change that the store refuses, or makes

none_of : (x : Option ChangeFault) (e : ChangeFault) → x ≡ Some e → is_none x ≡ false
none_of x e is = ap is_none is

refused_at : (s : Store) (c : Change) (place : ℕ) (e : ChangeFault) → IsFaultOf s c e → IsFaultFor place (is_none (change_fault s c) ≡ false) (fault_at place e)
refused_at s c place change.NoSuchObject is = (refl, none_of _ _ is)
refused_at s c place change.NoSuchProperty is = (refl, none_of _ _ is)
refused_at s c place change.BadValue is = (refl, none_of _ _ is)
refused_at s c place change.TooLong is = (refl, none_of _ _ is)
refused_at s c place change.NoMemory is = tt

because : (place : ℕ) (why more : Type 0) (e : KeptFault) → (why → more) → IsFaultFor place why e → IsFaultFor place more e
because place why more (fault.Wrong p) so is = (is.0, so is.1)
because place why more fault.NoMemory so is = tt

pub octets_refused : (s : Store) (id : ObjectId) (octets : List ℕ) (place : ℕ) (e : ChangeFault) (k : KeptFault) → IsFaultOf s (Change.File id octets) e
    → k ≡ fault_at place e → IsFaultFor place (octets_fit s id octets ≡ false) k
octets_refused s id octets place e k is same =
    subst (λ (x : KeptFault). IsFaultFor place (octets_fit s id octets ≡ false) x) (sym same) (refused_at s (Change.File id octets) place e is)

pub octets_taken : (s : Store) (id : ObjectId) (octets : List ℕ) → change_fault s (Change.File id octets) ≡ None → octets_fit s id octets ≡ true
octets_taken s id octets may = ap is_none may

pub not_written : (s : Store) (id : ObjectId) (n : ℕ) (octets : List ℕ) → is_writable_value (listed_at s id n) ≡ false → values_fit s id n octets ≡ true
not_written s id n octets fixed = ap (λ b. not b || is_none (change_fault s (Change.Value id n octets))) fixed

pub taken : (s : Store) (id : ObjectId) (n : ℕ) (octets : List ℕ) → change_fault s (Change.Value id n octets) ≡ None → values_fit s id n octets ≡ true
taken s id n octets may = ap (λ x. not (is_writable_value (listed_at s id n)) || is_none x) may ∙ go (is_writable_value (listed_at s id n))
  where
    go : (b : Bool) → (not b || true) ≡ true
    go true = refl
    go false = refl

pub refused_for : (s : Store) (id : ObjectId) (n : ℕ) (octets : List ℕ) (place : ℕ) (e : ChangeFault) (k : KeptFault)
    → IsFaultOf s (Change.Value id n octets) e → is_writable_value (listed_at s id n) ≡ true → k ≡ fault_at place e
    → IsFaultFor place (values_fit s id n octets ≡ false) k
refused_for s id n octets place e k is writable same =
    subst (λ (x : KeptFault). IsFaultFor place (values_fit s id n octets ≡ false) x) (sym same)
    (because place (is_none (change_fault s (Change.Value id n octets)) ≡ false) (values_fit s id n octets ≡ false) (fault_at place e)
    (λ unfit. ap (λ b. not b || is_none (change_fault s (Change.Value id n octets))) writable ∙ unfit) (refused_at s (Change.Value id n octets) place e is))

-- ---- what lies over a document has its flags, and may have what it may

module _ (cells : Cells) (document : Store) where
  values_there : (o : Object) (n : ℕ) → listed_in (object_over cells o) n ≡ option_map (value_over cells o.id) (listed_in o n)
  values_there o n = first_that-map (is_number n) (value_over cells o.id) (λ p. ap (λ m. m == n) (number_over cells o.id p)) o.properties

  value_fault_over : (id : ObjectId) (n : ℕ) (octets : List ℕ)
      → change_fault (overlay cells document) (Change.Value id n octets) ≡ change_fault document (Change.Value id n octets)
  value_fault_over id n octets = ap (λ x. of_object x) (object_there cells document id) ∙ go (object_in document id)
    where
      of_property : Option Property → Option ChangeFault
      of_property x = or_fault change.NoSuchProperty x (value_fault (whole id n) octets)

      of_object : Option Object → Option ChangeFault
      of_object x = or_fault change.NoSuchObject x (λ o. of_property (listed_in o n))

      one : (o : ObjectId) (p : Property) (b : Bool) (x : Option (List ℕ))
          → value_fault (whole id n) octets (if b then in_place x p else p) ≡ value_fault (whole id n) octets p
      one o p true None = refl
      one o p true (Some v) = refl
      one o p false x = refl

      in_object : (o : Object) (x : Option Property) → of_property (option_map (value_over cells o.id) x) ≡ of_property x
      in_object o None = refl
      in_object o (Some p) = one o.id p (is_kept p) (cells (value_place o.id p.number))

      go : (x : Option Object) → of_object (option_map (object_over cells) x) ≡ of_object x
      go None = refl
      go (Some o) = ap of_property (values_there o n) ∙ in_object o (listed_in o n)

  pub values_over : (id : ObjectId) (n : ℕ) (octets : List ℕ) → values_fit (overlay cells document) id n octets ≡ values_fit document id n octets
  values_over id n octets =
      ap (λ b. not b || is_none (change_fault (overlay cells document) (Change.Value id n octets))) (value_flag cells document id n)
      ∙ ap (λ x. not (is_writable_value (listed_at document id n)) || is_none x) (value_fault_over id n octets)

  pub octets_over : (id : ObjectId) (octets : List ℕ) → octets_fit (overlay cells document) id octets ≡ octets_fit document id octets
  octets_over id octets = ap (λ x. is_none (of_file (file_of x))) (object_there cells document id) ∙ go (object_in document id)
    where
      of_file : Option File → Option ChangeFault
      of_file x = or_fault change.NoSuchObject x (λ f. length_fault FILE_LIMIT octets)

      in_object : (o : Object) (x : Option File) → is_none (of_file (option_map (file_over cells o.id) x)) ≡ is_none (of_file x)
      in_object o None = refl
      in_object o (Some f) = refl

      go : (x : Option Object) → is_none (of_file (file_of (option_map (object_over cells) x))) ≡ is_none (of_file (file_of x))
      go None = refl
      go (Some o) = in_object o o.file

-- of the store that was found
module _ (cells : Cells) (document s : Store) (is : s ≡ overlay cells document) (id : ObjectId) (b : Bool) where
  pub values_under : (n : ℕ) (octets : List ℕ) → values_fit s id n octets ≡ b → values_fit document id n octets ≡ b
  values_under n octets e = sym (values_over cells document id n octets) ∙ ap (λ (x : Store). values_fit x id n octets) (sym is) ∙ e

  pub file_under : is_writable_file (file_at s id) ≡ b → is_writable_file (file_at document id) ≡ b
  file_under e = sym (file_flag cells document id) ∙ ap (λ (x : Store). is_writable_file (file_at x id)) (sym is) ∙ e

  pub octets_under : (octets : List ℕ) → octets_fit s id octets ≡ b → octets_fit document id octets ≡ b
  octets_under octets e = sym (octets_over cells document id octets) ∙ ap (λ (x : Store). octets_fit x id octets) (sym is) ∙ e

-- ---- the parts of a file in a list of cells

place_at : (cs : List Cell) (at p : ℕ) (d : Cell) → at < length cs → (get_or cs at d).place ≡ p → IsPlaceAt p at cs
place_at [] at p d l is = absurd (omega (arith, l))
place_at (c ∷ cs) zero p d l is = is
place_at (c ∷ cs) (suc at) p d l is = place_at cs at p d (omega (arith, l)) is

pub place_of : (cs : List Cell) (at : ℕ) (d : Cell) (p : ℕ) → at < length cs → get_or cs at d ≡ d → d.place ≡ p → IsPlaceAt p at cs
place_of cs at d p l is same = place_at cs at p d l (ap (λ (x : Cell). x.place) is ∙ same)

above_place : (p q at : ℕ) (cs : List Cell) → AllByRecursion (λ (d : Cell). p < d.place) cs → IsPlaceAt q at cs → p < q
above_place p q at [] all is = absurd is
above_place p q zero (c ∷ cs) all is = omega (arith, is, all.0)
above_place p q (suc at) (c ∷ cs) all is = above_place p q at cs all.1 is

none_above : (p q : ℕ) → p ≤ q → (cs : List Cell) → AllByRecursion (λ (d : Cell). q < d.place) cs → held cs p ≡ None
none_above p q le [] all = refl
none_above p q le (c ∷ cs) all = let apart : (p == c.place) ≡ false = (let l : q < c.place = all.0 in grind (arith, nat_tests, le, l)) in rw apart (none_above p q le cs all.1)

next_none : (q : ℕ) (cs : List Cell) → AllByRecursion (λ (d : Cell). q < d.place) cs → IsRising cs → IsApartAt (suc q) zero cs → held cs (suc q) ≡ None
next_none q [] all rise apart = refl
next_none q (c ∷ cs) all rise apart =
    let more : suc q < c.place = less_of (suc q) c.place (omega (arith, all.0)) apart in
    let other : (suc q == c.place) ≡ false = grind (arith, nat_tests, more) in
    rw other (none_above (suc q) c.place (omega (arith, more)) cs rise.0)

-- no cell has the next place, as the cell after one has another
next_missing : (cs : List Cell) (i q : ℕ) → IsRising cs → IsPlaceAt q i cs → IsApartAt (suc q) (suc i) cs → held cs (suc q) ≡ None
next_missing [] i q rise is apart = absurd is
next_missing (c ∷ cs) zero q rise is apart =
    let other : (suc q == c.place) ≡ false = (let e : c.place ≡ q = is in grind (arith, nat_tests, e)) in
    rw other (next_none q cs (subst (λ (p : ℕ). AllByRecursion (λ (d : Cell). p < d.place) cs) is rise.0) rise.1 apart)
next_missing (c ∷ cs) (suc i) q rise is apart =
    let less : c.place < q = above_place c.place q i cs rise.0 is in
    let other : (suc q == c.place) ≡ false = grind (arith, nat_tests, less) in
    rw other (next_missing cs i q rise.1 is apart)

same_from : (cs : List Cell) (at p q : ℕ) → IsRising cs → IsPlaceAt p at cs → p ≤ q → held (drop at cs) q ≡ held cs q
same_from [] at p q rise is le = absurd is
same_from (c ∷ cs) zero p q rise is le = refl
same_from (c ∷ cs) (suc at) p q rise is le =
    let less : c.place < p = above_place c.place p at cs rise.0 is in
    let other : (q == c.place) ≡ false = grind (arith, nat_tests, less, le) in
    rw other (same_from cs at p q rise.1 is le)

-- the octets of a file are those of the cells from its count on
pub joined_from : (cs : List Cell) (at : ℕ) (id : ObjectId) → IsRising cs → IsPlaceAt (file_place id 0) at cs → (count : ℕ)
    → joined (held (drop at cs)) id count ≡ joined (held cs) id count
joined_from cs at id rise is zero = refl
joined_from cs at id rise is (suc k) =
    ap (λ (x : List ℕ). x ++ or_nothing (held (drop at cs) (file_place id (suc k)))) (joined_from cs at id rise is k)
    ∙ ap (λ x. joined (held cs) id k ++ or_nothing x) (same_from cs at (file_place id 0) (file_place id (suc k)) rise is (omega arith))

pub found : (cs : List Cell) (j : ℕ) (d : Cell) (p : ℕ) → IsRising cs → j < length cs → get_or cs j d ≡ d → d.place ≡ p → held cs p ≡ Some d.octets.items
found cs j d p rise l is place =
    ap (held cs) (sym place) ∙ subst (λ (x : Cell). held cs x.place ≡ Some x.octets.items) is (held_at cs 0 j d rise (omega arith) l)

-- ---- a file that has a part, or lacks one

and_false : (b : Bool) → (b && false) ≡ false
and_false true = refl
and_false false = refl

lacks : (cells : Cells) (id : ObjectId) (count k m : ℕ) → k < m → is_part (suc k == count) (cells (file_place id (suc k))) ≡ false → has_parts cells id count m ≡ false
lacks cells id count k zero l lacking = absurd (omega (arith, l))
lacks cells id count k (suc m) l lacking = go (k == m) refl (lacks cells id count k m)
  where
    go : (b : Bool) → (k == m) ≡ b → (k < m → is_part (suc k == count) (cells (file_place id (suc k))) ≡ false → has_parts cells id count m ≡ false)
        → has_parts cells id count (suc m) ≡ false
    go true e before =
        let same : k ≡ m = grind (arith, nat_tests, e) in
        ap (λ b. has_parts cells id count m && b) (subst (λ (j : ℕ). is_part (suc j == count) (cells (file_place id (suc j))) ≡ false) same lacking)
        ∙ and_false (has_parts cells id count m)
    go false e before =
        let below : k < m = grind (arith, nat_tests, e, l) in
        ap (λ b. b && is_part (suc m == count) (cells (file_place id (suc m)))) (before below lacking)

module _ (cs : List Cell) (rise : IsRising cs) (id : ObjectId) (count k : ℕ) where
  is_part_there : (j : ℕ) (d : Cell) (last right : Bool) → j < length cs → get_or cs j d ≡ d → d.place ≡ file_place id (suc k) → last ≡ (suc k == count)
      → is_part last (Some d.octets.items) ≡ right → is_part (suc k == count) (held cs (file_place id (suc k))) ≡ right
  is_part_there j d last right l is place ends fits =
      ap (is_part (suc k == count)) (found cs j d (file_place id (suc k)) rise l is place) ∙ ap (λ b. is_part b (Some d.octets.items)) (sym ends) ∙ fits

  pub part_more : (j : ℕ) (d : Cell) (last : Bool) → j < length cs → get_or cs j d ≡ d → d.place ≡ file_place id (suc k) → last ≡ (suc k == count)
      → is_part last (Some d.octets.items) ≡ true → has_parts (held cs) id count k ≡ true → has_parts (held cs) id count (suc k) ≡ true
  part_more j d last l is place ends fits before =
      ap (λ b. b && is_part (suc k == count) (held cs (file_place id (suc k)))) before ∙ is_part_there j d last true l is place ends fits

  pub part_wrong : (j : ℕ) (d : Cell) (last : Bool) → k < count → j < length cs → get_or cs j d ≡ d → d.place ≡ file_place id (suc k)
      → last ≡ (suc k == count) → is_part last (Some d.octets.items) ≡ false → has_parts (held cs) id count count ≡ false
  part_wrong j d last less l is place ends fits = lacks (held cs) id count k count less (is_part_there j d last false l is place ends fits)

  pub part_missing : (i next : ℕ) → k < count → IsPlaceAt (file_place id k) i cs → IsApartAt (file_place id (suc k)) next cs → next ≡ suc i
      → has_parts (held cs) id count count ≡ false
  part_missing i next less is apart follows =
      let same : file_place id (suc k) ≡ suc (file_place id k) = omega arith in
      let none : held cs (suc (file_place id k)) ≡ None =
      next_missing cs i (file_place id k) rise is (subst (λ (p : ℕ). IsApartAt p (suc i) cs) same (subst (λ (n : ℕ). IsApartAt (file_place id (suc k)) n cs) follows apart)) in
      lacks (held cs) id count k count less (ap (is_part (suc k == count)) (ap (held cs) same ∙ none))

-- ---- a cell that fits, or does not

module _ (document : Store) (cs : List Cell) (rise : IsRising cs) (at : ℕ) (d : Cell) (l : at < length cs) (is : get_or cs at d ≡ d) (id : ObjectIdentifier) (fits : Bool) where
  pub is_value : (n : ℕ) → n < NUMBERS → d.place ≡ value_place (object_identifier_view id) n
      → values_fit document (object_identifier_view id) n d.octets.items ≡ fits → IsPartAt document (held cs) d.place fits
  is_value n small place right = record {
    part = part.Values id n;
    small = small;
    is = place;
    fit = ap (property_fits document (object_identifier_view id) n) (found cs at d (value_place (object_identifier_view id) n) rise l is place) ∙ right;
  }

  pub is_file : d.place ≡ file_place (object_identifier_view id) 0 → is_writable_file (file_at document (object_identifier_view id)) ≡ true
      → parts_fit document (held cs) (object_identifier_view id) (Some d.octets.items) ≡ fits → IsPartAt document (held cs) d.place fits
  is_file place writable right = record {
    part = part.Count id;
    small = tt;
    is = place;
    fit =
        ap (λ b. not b || parts_fit document (held cs) (object_identifier_view id) (held cs (file_place (object_identifier_view id) 0))) writable
        ∙ ap (parts_fit document (held cs) (object_identifier_view id)) (found cs at d (file_place (object_identifier_view id) 0) rise l is place)
        ∙ right;
  }

pub is_fixed_file : (document : Store) (cells : Cells) (place : ℕ) (id : ObjectIdentifier) → place ≡ file_place (object_identifier_view id) 0
    → is_writable_file (file_at document (object_identifier_view id)) ≡ false → IsFitAt document cells place
is_fixed_file document cells place id at fixed = record {
  part = part.Count id;
  small = tt;
  is = at;
  fit = ap (λ b. not b || parts_fit document cells (object_identifier_view id) (cells (file_place (object_identifier_view id) 0))) fixed;
}

pub is_chunk : (document : Store) (cells : Cells) (place : ℕ) (id : ObjectIdentifier) (k : ℕ) → k < 255 → place ≡ file_place (object_identifier_view id) (suc k)
    → IsFitAt document cells place
is_chunk document cells place id k small at = record { part = part.Chunk id k; small = small; is = at; fit = refl }

pub no_count : (document : Store) (cells : Cells) (id : ObjectId) (octets : List ℕ) → states_count octets ≡ false → parts_fit document cells id (Some octets) ≡ false
no_count document cells id [] lacking = refl
no_count document cells id (n ∷ []) lacking = cc
no_count document cells id (n ∷ m ∷ more) lacking = refl

pub counted : (document : Store) (cells : Cells) (id : ObjectId) (octets joint : List ℕ) (n : ℕ) (has may : Bool) → octets ≡ n ∷ [] → has_parts cells id n n ≡ has
    → joint ≡ joined cells id n → octets_fit document id joint ≡ may → parts_fit document cells id (Some octets) ≡ (has && may)
counted document cells id octets joint n has may states parts joins right =
    ap (λ (x : List ℕ). parts_fit document cells id (Some x)) states
    ∙ ap (λ b. b && octets_fit document id (joined cells id n)) parts
    ∙ ap (λ b. has && b) (ap (octets_fit document id) (sym joins) ∙ right)

-- where a part is missing, what there is of the others does not matter
pub uncounted : (document : Store) (cells : Cells) (id : ObjectId) (octets : List ℕ) (n : ℕ) → octets ≡ n ∷ [] → has_parts cells id n n ≡ false
    → parts_fit document cells id (Some octets) ≡ false
uncounted document cells id octets n states parts =
    ap (λ (x : List ℕ). parts_fit document cells id (Some x)) states ∙ ap (λ b. b && octets_fit document id (joined cells id n)) parts

-- ---- all of them

pub one_fits : (document : Store) (all : Cells) (cs : List Cell) (at next : ℕ) (d : Cell) → at < length cs → get_or cs at d ≡ d → next ≡ suc at
    → IsFitAt document all d.place → EachFits document all (drop next cs) → EachFits document all (drop at cs)
one_fits document all cs at next d l is follows here others =
    subst (EachFits document all) (sym (held_drop cs at d l ∙ ap (λ (x : Cell). x ∷ drop (suc at) cs) is))
    (here, subst (λ (n : ℕ). EachFits document all (drop n cs)) follows others)

all_fit : (document : Store) (all : Cells) (cs : List Cell) → EachFits document all cs → (q : ℕ) → held cs q ≢ None → IsFitAt document all q
all_fit document all [] each q there = absurd (there refl)
all_fit document all (c ∷ cs) each q there = go (q == c.place) refl there (all_fit document all cs each.1 q)
  where
    go : (b : Bool) → (q == c.place) ≡ b → (if b then Some c.octets.items else held cs q) ≢ None → (held cs q ≢ None → IsFitAt document all q)
        → IsFitAt document all q
    go true e there later = let same : c.place ≡ q = grind (arith, nat_tests, e) in subst (IsFitAt document all) same each.0
    go false e there later = later there

pub are_fit : (document : Store) (cs : List Cell) (n : ℕ) → n ≡ 0 → EachFits document (held cs) (drop n cs) → AreFit document (held cs)
are_fit document cs n first each = all_fit document (held cs) cs (subst (λ (m : ℕ). EachFits document (held cs) (drop m cs)) first each)

pub none_yet : (document : Store) (all : Cells) (cs : List Cell) (n : ℕ) → n ≡ length cs → EachFits document all (drop n cs)
none_yet document all cs n last = subst (λ (m : ℕ). EachFits document all (drop m cs)) (sym last) (go cs)
  where
    go : (ds : List Cell) → EachFits document all (drop (length ds) ds)
    go [] = tt
    go (d ∷ ds) = go ds

-- ---- the one that does not fit

module _ (document : Store) (cs : List Cell) (at : ℕ) (d : Cell) (l : at < length cs) (is : get_or cs at d ≡ d) where
  there : held cs d.place ≢ None
  there = subst (λ (x : Cell). held cs x.place ≢ None) is (is_held cs at d l)

  pub wrong_place : (e : KeptFault) → e ≡ fault.Wrong d.place → (is_place d.place ≡ true → ⊥) → IsWrong e document (held cs)
  wrong_place e same lacking = subst (λ (x : KeptFault). IsWrong x document (held cs)) (sym same) (record { there = there; why = inl (go (is_place d.place) lacking) })
    where
      go : (b : Bool) → (b ≡ true → ⊥) → b ≡ false
      go true lacking = absurd (lacking refl)
      go false lacking = refl

  pub wrong_part : (why : Type 0) (e : KeptFault) (place : ℕ) → place ≡ d.place → (why → IsPartAt document (held cs) d.place false) → IsFaultFor place why e
      → IsWrong e document (held cs)
  wrong_part why (fault.Wrong p) place same so of =
      subst (IsUnfitAt document (held cs)) (sym (of.0 ∙ same)) (record { there = there; why = inr (so of.1) })
  wrong_part why fault.NoMemory place same so of = tt
