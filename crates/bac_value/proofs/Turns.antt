-- Reading data, one element at a time.
use Rattle.std.proofs.Common.{◌≡◌, ℕ, zero, suc, ◌+◌, ◌-◌, ◌<◌, List, [], ◌∷◌, ◌++◌, length, take, drop, Result, Ok, Err, Option, Some, None}
use Rattle.std.proofs.Common.{refl, sym, ap, subst, ◌∙◌, append_assoc, arith}
use Rattle.std.proofs.lemmas.List.{length-append, take-append-drop, drop-append-le, drop_at, drop-drop}
use Rattle.bac_value.specs.declared.fault.FaultKind.{FaultKind}
use Rattle.bac_value.specs.declared.fault.FaultKind.TheVariants.{Truncated}
use Rattle.bac_value.specs.Steps.{◌>>=◌}
use Rattle.bac_value.specs.Reading.{step_at, goes_on, rest_of_step, data_at, fault_rest, element_at, turn, with_rest, Onward, IsOver, IsPassed}
use Rattle.bac_value.specs.Octets.{IsBytes}
use Rattle.bac_value.specs.Element.{Part}
use Rattle.bac_value.proofs.Steps.{IsBytes-drop}
use Rattle.bac_value.proofs.Elements.{element_exact}

pub at_step : (steps : ℕ) (o bytes : List ℕ) (r : Result (Option (List ℕ × List ℕ)) FaultKind) (total : Result (List ℕ) FaultKind)
    → 0 < length bytes → length bytes < steps → step_at o bytes ≡ r → data_at steps o bytes ≡ total
    → (m : ℕ) × (steps ≡ suc m) × ((r >>= λ s. goes_on s (Ok bytes) (λ o rest. data_at m o rest)) ≡ total)
unfolding data_at
at_step zero o bytes r total some enough e same = absurd (omega arith)
at_step (suc m) o [] r total some enough e same = absurd (omega arith)
at_step (suc m) [] (b ∷ bytes) r total some enough e same =
    (m, refl, ap (λ x. x >>= λ s. goes_on s (Ok (b ∷ bytes)) (λ o rest. data_at m o rest)) (sym e) ∙ same)
at_step (suc m) (n ∷ o) (b ∷ bytes) r total some enough e same =
    (m, refl, ap (λ x. x >>= λ s. goes_on s (Ok (b ∷ bytes)) (λ o rest. data_at m o rest)) (sym e) ∙ same)

fault_step : (m : ℕ) (o bytes : List ℕ) (r : Result (Option (List ℕ × List ℕ)) FaultKind) → 0 < length bytes → step_at o bytes ≡ r
    → fault_rest (suc m) o bytes ≡ rest_of_step r bytes (λ o rest. fault_rest m o rest)
unfolding fault_rest
fault_step m o [] r some e = absurd (omega arith)
fault_step m o (b ∷ bytes) r some e = ap (λ x. rest_of_step x (b ∷ bytes) (λ o rest. fault_rest m o rest)) e

pub on_more : (steps : ℕ) (o bytes p rest : List ℕ) (total : Result (List ℕ) FaultKind) (place : List ℕ)
    → length rest < length bytes → length bytes < steps → step_at o bytes ≡ Ok (Some (p, rest)) → data_at steps o bytes ≡ total
    → fault_rest steps o bytes ≡ place → (m : ℕ) × (length rest < m) × (data_at m p rest ≡ total) × (fault_rest m p rest ≡ place)
on_more steps o bytes p rest total place less enough e same there =
    let s = at_step steps o bytes (Ok (Some (p, rest))) total (omega arith) enough e same in (
      s.0,
      omega (arith, s.1),
      s.2,
      sym (fault_step s.0 o bytes (Ok (Some (p, rest))) (omega arith) e) ∙ ap (λ n. fault_rest n o bytes) (sym s.1) ∙ there,
    )

pub at_more : (steps : ℕ) (o bytes p rest : List ℕ) (total : Result (List ℕ) FaultKind)
    → length rest < length bytes → length bytes < steps → step_at o bytes ≡ Ok (Some (p, rest)) → data_at steps o bytes ≡ total
    → (m : ℕ) × (length rest < m) × (data_at m p rest ≡ total)
at_more steps o bytes p rest total less enough e same =
    let s = on_more steps o bytes p rest total (fault_rest steps o bytes) less enough e same refl in (s.0, s.1, s.2)

pub fault_here : (steps : ℕ) (o bytes place : List ℕ) (k : FaultKind) → 0 < length bytes → length bytes < steps → step_at o bytes ≡ Err k
    → fault_rest steps o bytes ≡ place → place ≡ bytes
fault_here zero o bytes place k some enough e there = absurd (omega arith)
fault_here (suc m) o bytes place k some enough e there = sym there ∙ fault_step m o bytes (Err k) some e

pub fault_at_end : (steps : ℕ) (o bytes place : List ℕ) → length bytes ≡ 0 → 0 < steps → fault_rest steps o bytes ≡ place → length place ≡ 0
unfolding fault_rest
fault_at_end zero o bytes place nothing enough there = absurd (omega arith)
fault_at_end (suc m) o [] place nothing enough there = ap length (sym there)
fault_at_end (suc m) o (b ∷ bytes) place nothing enough there = absurd (omega arith)

pub at_stop : (steps : ℕ) (o bytes : List ℕ) (total : Result (List ℕ) FaultKind) → 0 < length bytes → length bytes < steps → step_at o bytes ≡ Ok None
    → data_at steps o bytes ≡ total → total ≡ Ok bytes
at_stop steps o bytes total some enough e same = sym (at_step steps o bytes (Ok None) total some enough e same).2

pub at_fault : (steps : ℕ) (o bytes : List ℕ) (total : Result (List ℕ) FaultKind) (k : FaultKind) → 0 < length bytes → length bytes < steps
    → step_at o bytes ≡ Err k → data_at steps o bytes ≡ total → total ≡ Err k
at_fault steps o bytes total k some enough e same = sym (at_step steps o bytes (Err k) total some enough e same).2

pub at_end : (steps : ℕ) (o bytes : List ℕ) (total : Result (List ℕ) FaultKind) → length o ≡ 0 → length bytes ≡ 0 → 0 < steps
    → data_at steps o bytes ≡ total → total ≡ Ok bytes
unfolding data_at
at_end zero o bytes total empty nothing enough same = absurd (omega arith)
at_end (suc m) [] [] total empty nothing enough same = sym same
at_end (suc m) [] (b ∷ bytes) total empty nothing enough same = absurd (omega arith)
at_end (suc m) (n ∷ o) bytes total empty nothing enough same = absurd (omega arith)

pub at_end_inside : (steps : ℕ) (o bytes : List ℕ) (total : Result (List ℕ) FaultKind) → 0 < length o → length bytes ≡ 0 → 0 < steps
    → data_at steps o bytes ≡ total → total ≡ Err Truncated
unfolding data_at
at_end_inside zero o bytes total some nothing enough same = absurd (omega arith)
at_end_inside (suc m) [] bytes total some nothing enough same = absurd (omega arith)
at_end_inside (suc m) (n ∷ o) [] total some nothing enough same = sym same
at_end_inside (suc m) (n ∷ o) (b ∷ bytes) total some nothing enough same = absurd (omega arith)

-- ---- elements that lie whole in a run of octets

onward_none : (o bytes : List ℕ) → Onward o bytes o bytes
onward_none o bytes steps enough = (steps, enough, refl, refl)

pub onward_more : (o bytes p rest q more : List ℕ) → Onward o bytes p rest → Onward p rest q more → Onward o bytes q more
onward_more o bytes p rest q more first second steps enough =
    let s = first steps enough in
    let t = second s.0 s.1 in
    (t.0, t.1, t.2 ∙ s.2, t.3 ∙ s.3)

pub onward_step : (p rest q more : List ℕ) → length more < length rest → step_at p rest ≡ Ok (Some (q, more)) → Onward p rest q more
onward_step p rest q more less e steps enough =
    on_more steps p rest q more (data_at steps p rest) (fault_rest steps p rest) less enough e refl refl

-- an element at the front is read in the same way if more octets follow
element_on : (e : Part) (xs rest behind : List ℕ) → IsBytes xs → element_at xs ≡ Ok (e, rest) → element_at (xs ++ behind) ≡ Ok (e, rest ++ behind)
element_on e xs rest behind bytes is =
    let t = element_exact.takes xs (e, rest) bytes is in
    ap (λ (l : List ℕ). element_at (l ++ behind)) t.1 ∙ ap element_at (append_assoc t.0 rest behind) ∙ element_exact.again e t.0 (rest ++ behind) t.2

step_on : (e : Part) (p xs rest : List ℕ) (t : Option (List ℕ)) → element_at xs ≡ Ok (e, rest) → turn e.mark.form e.mark.number p ≡ Ok t
    → step_at p xs ≡ Ok (with_rest rest t)
unfolding step_at
step_on e p xs rest t is turned = rw (is, turned) refl

pub passed_none : (o run : List ℕ) → IsPassed o run o run
passed_none o run = record {
  within = omega arith;
  end = let none : length run - length run ≡ 0 = omega arith in rw none refl;
  onward = λ behind. onward_none o (run ++ behind);
}

pub passed_one : (e : Part) (o run p rest q next : List ℕ) → IsBytes run → IsPassed o run p rest → element_at rest ≡ Ok (e, next)
    → turn e.mark.form e.mark.number p ≡ Ok (Some q) → length next < length rest → IsPassed o run q next
passed_one e o run p rest q next bytes so_far is turned less =
    let fits : IsBytes rest = subst IsBytes so_far.end (IsBytes-drop (length run - length rest) run bytes) in
    let t = element_exact.takes rest (e, next) fits is in
    let behind_text : length rest ≡ length t.0 + length next = ap length t.1 ∙ length-append t.0 next in
    let whole : drop (length run - length rest) run ≡ t.0 ++ next = so_far.end ∙ t.1 in
    record {
      within = omega (arith, so_far.within, less);
      end =
          let places : length run - length next ≡ length run - length rest + length t.0 = omega (arith, so_far.within, behind_text) in
          rw places (sym (drop-drop (length t.0) (length run - length rest) run) ∙ ap (drop (length t.0)) whole ∙ drop_at t.0 next (length t.0) refl);
      onward = λ behind. onward_more o (run ++ behind) p (rest ++ behind) q (next ++ behind) (so_far.onward behind)
          (onward_step p (rest ++ behind) q (next ++ behind) (omega (arith, less, length-append next behind, length-append rest behind))
          (step_on e p (rest ++ behind) (next ++ behind) (Some q) (element_on e rest next behind fits is) turned));
    }

pub over_at : (e : Part) (o run p rest next behind : List ℕ) → IsBytes run → IsPassed o run p rest → element_at rest ≡ Ok (e, next)
    → turn e.mark.form e.mark.number p ≡ Ok None → length next < length rest → IsOver p (rest ++ behind)
over_at e o run p rest next behind bytes so_far is turned less =
    let fits : IsBytes rest = subst IsBytes so_far.end (IsBytes-drop (length run - length rest) run bytes) in (
      omega (arith, less, length-append rest behind),
      step_on e p (rest ++ behind) (next ++ behind) None (element_on e rest next behind fits is) turned,
    )

-- the same for a run of octets at the front
pub passed_in : (o xs run q left after : List ℕ) → run ≡ take (length run) xs → IsPassed o run q left → after ≡ drop (length run - length left) xs
    → after ≡ left ++ drop (length run) xs
passed_in o xs run q left after is passed at =
    let whole : xs ≡ run ++ drop (length run) xs =
    sym (take-append-drop (length run) xs) ∙ ap (λ (l : List ℕ). l ++ drop (length run) xs) (sym is) in
    at ∙ ap (drop (length run - length left)) whole
    ∙ drop-append-le (length run - length left) run (drop (length run) xs) (omega arith)
    ∙ ap (λ (l : List ℕ). l ++ drop (length run) xs) passed.end

pub onward_in : (o xs run q left after : List ℕ) → run ≡ take (length run) xs → IsPassed o run q left → after ≡ drop (length run - length left) xs
    → Onward o xs q after
onward_in o xs run q left after is passed at =
    let whole : xs ≡ run ++ drop (length run) xs =
    sym (take-append-drop (length run) xs) ∙ ap (λ (l : List ℕ). l ++ drop (length run) xs) (sym is) in
    subst (λ (l : List ℕ). Onward o l q after) (sym whole)
    (subst (Onward o (run ++ drop (length run) xs) q) (sym (passed_in o xs run q left after is passed at)) (passed.onward (drop (length run) xs)))
