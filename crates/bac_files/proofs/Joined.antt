-- Parts that are joined: none, and one more behind others.
use Rattle.std.proofs.Common.{◌≡◌, ℕ, ℤ, pos, negsuc, ◌+◌, Bool, true, false, not, List, [], ◌∷◌, ◌++◌, length, if◌then◌else◌, Option, None, Some}
use Rattle.std.proofs.Common.{refl, sym, ap, ◌∙◌, arith, length-append, append_assoc, append-nil}
use Rattle.std.proofs.lemmas.Bool.Decides.{nat_tests}
use Rattle.bac_files.specs.Parts.{Part, Front, NOTHING, join, StandFrom, EndSo, AreJoined, AreJoinedWith, fault_of, is_at, with_part}
use Rattle.bac_files.specs.declared.part_fault.PartFault.{PartFault}

pub nothing : AreJoined [] NOTHING
nothing = record { placed = tt; ends = refl; joined = refl }

join-snoc : (parts : List Part) (part : Part) → join (parts ++ part ∷ []) ≡ join parts ++ part.octets
join-snoc [] part = append-nil part.octets
join-snoc (p ∷ ps) part = ap (λ xs. p.octets ++ xs) (join-snoc ps part) ∙ sym (append_assoc p.octets (join ps) part.octets)

stand-snoc : (parts : List Part) (part : Part) (position : ℕ) → StandFrom position parts → part.start ≡ pos (position + length (join parts))
    → StandFrom position (parts ++ part ∷ [])
stand-snoc [] part position stand starts = let same : position + 0 ≡ position = omega arith in (starts ∙ ap pos same, tt)
stand-snoc (p ∷ ps) part position stand starts =
    let same : position + length (p.octets ++ join ps) ≡ position + length p.octets + length (join ps) = omega (arith, length-append p.octets (join ps)) in
    (stand.0, stand-snoc ps part (position + length p.octets) stand.1 (starts ∙ ap pos same))

ends-snoc : (parts : List Part) (part : Part) → EndSo parts false → EndSo (parts ++ part ∷ []) part.is_last
ends-snoc [] part ends = refl
ends-snoc (p ∷ []) part ends = (ends, refl)
ends-snoc (p ∷ q ∷ ps) part ends = (ends.0, ends-snoc (q ∷ ps) part ends.1)

-- where none of the faults is there, the first two are not
past : (b : Bool) (why : PartFault) (rest : Option PartFault) → (if b then Some why else rest) ≡ None → (b ≡ false) × (rest ≡ None)
past true why rest none = grind (arith, none)
past false why rest none = (refl, none)

starts_at : (position : ℕ) (start : ℤ) → not (is_at position start) ≡ false → start ≡ pos position
starts_at position (pos n) at = let same : n ≡ position = grind (arith, nat_tests, at) in ap pos same
starts_at position (negsuc n) at = grind (arith, at)

pub taken : (front : Front) (part : Part) → fault_of front part ≡ None → AreJoinedWith part front (with_part front part)
taken front part none parts joined =
    let first = past front.is_whole _ _ none in
    let second = past (not (is_at (length front.octets) part.start)) _ _ first.1 in
    record {
      placed = stand-snoc parts part 0 joined.placed
          (starts_at (length front.octets) part.start second.0 ∙ ap (λ xs. pos (length xs)) joined.joined ∙ ap pos (omega arith));
      ends = ends-snoc parts part (rw first.0 at joined.ends);
      joined = ap (λ xs. xs ++ part.octets) joined.joined ∙ sym (join-snoc parts part);
    }

pub taken_into : (front new : Front) (part : Part) → fault_of front part ≡ None → new ≡ with_part front part → AreJoinedWith part front new
taken_into front new part none is = rw is (taken front part none)
