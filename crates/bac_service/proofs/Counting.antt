-- Counting octet strings up to the end of some octets.
use Rattle.std.proofs.Common.{◌≡◌, ℕ, zero, suc, ◌+◌, ◌<◌, ◌≤◌, [], ◌∷◌, length, Ok, Err, refl, sym, ap, subst, ◌∙◌, zero-add, add-zero, arith}
use Rattle.bac_value.proofs.Steps.{ok_is}
use Rattle.bac_value.specs.Octets.{IsBytes}
use Rattle.bac_service.specs.Members.{Octets, Tagged, ApplicationString}
use Rattle.bac_service.specs.Runs.{AreStrings, IsCount}
use Rattle.bac_value.specs.declared.tag.Class.TheVariants.{Application}
use Rattle.bac_service.specs.declared.stop.Stop.{Stop}
use Rattle.bac_service.specs.Reading.{application_string}
use Rattle.bac_service.proofs.Exact.{left_fits}
use Rattle.bac_service.proofs.Contents.{string_exact}
use Rattle.bac_service.proofs.Strings.{strings_len}

-- this many strings were passed, and the rest is left
pub record IsPassed (run : Octets) (count : ℕ) (rest : Octets) : Type 0 where
  pub bytes : IsBytes rest
  pub few : count + length rest ≤ length run
  pub forward : (k : ℕ) → AreStrings k rest → AreStrings (count + k) run
  pub backward : (m : ℕ) → AreStrings m run → (k : ℕ) × (m ≡ count + k) × AreStrings k rest

pub begins : (run : Octets) → IsBytes run → IsPassed run 0 run
begins run fits = record {
  bytes = fits;
  few = omega arith;
  forward = λ k s. subst (λ (n : ℕ). AreStrings n run) (sym (zero-add k)) s;
  backward = λ m s. (m, sym (zero-add m), s);
}

-- the octets before the rest are at least one string
string_front : (k : ℕ) (rest : Octets) → 0 < length rest → AreStrings k rest → (j : ℕ) × (back : Octets) × (contents : Octets) × (k ≡ suc j)
    × (application_string rest ≡ Ok (contents, back)) × AreStrings j back
string_front zero rest some s = absurd (omega (arith, ap length s))
string_front (suc j) rest some s =
    let string : ApplicationString s.first.contents s.front = record { contents = s.first.contents; are = refl; fits = s.first.fits; is = s.first.is } in
    (j, s.back, s.first.contents, refl, ap application_string s.is ∙ string_exact.again s.first.contents s.front s.back string tt, s.second)

pub passes : (run rest contents next : Octets) (count : ℕ) → IsPassed run count rest → application_string rest ≡ Ok (contents, next)
    → length next < length rest → IsPassed run (count + 1) next
passes run rest contents next count p e lt =
    let t = string_exact.takes rest (contents, next) p.bytes e in
    let first : Tagged Application 6 (λ xs. Unit {0}) t.0 = record { contents = t.2.contents; are = tt; fits = t.2.fits; is = t.2.is } in
    record {
      bytes = left_fits application_string ApplicationString string_exact rest (contents, next) p.bytes e;
      few = omega (arith, p.few);
      forward = λ k s.
          let more : AreStrings (suc k) rest = record { front = t.0; back = next; first = first; second = s; is = t.1 } in
          let same : count + suc k ≡ count + 1 + k = omega arith in
          subst (λ (n : ℕ). AreStrings n run) same (p.forward (suc k) more);
      backward = λ m s.
          let b = p.backward m s in
          let f = string_front b.0 rest (omega arith) b.2 in
          let back : f.1 ≡ next = ap (λ (x : Octets × Octets). x.1) (ok_is (f.2, f.1) (contents, next) (sym f.4 ∙ e)) in
          (f.0, omega (arith, b.1, f.3), subst (AreStrings f.0) back f.5);
    }

pub ends : (run rest : Octets) (count : ℕ) → IsPassed run count rest → length rest ≡ 0 → IsCount run count
ends run [] count p none = record {
  are = subst (λ (n : ℕ). AreStrings n run) (add-zero count) (p.forward 0 refl);
  only = λ m s. let b = p.backward m s in let few = strings_len b.0 [] b.2 in omega (arith, b.1, few);
}
ends run (x ∷ rest) count p none = absurd (omega arith)

pub fails : (run rest : Octets) (count : ℕ) (d : Stop) → IsPassed run count rest → 0 < length rest → application_string rest ≡ Err d → (m : ℕ)
    → AreStrings m run → ⊥
fails run rest count d p some e m s =
    let b = p.backward m s in
    let f = string_front b.0 rest some b.2 in
    let found = f.4 in
    cc
