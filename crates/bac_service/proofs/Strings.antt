-- The laws of sequences of octet strings.
use Rattle.std.proofs.Common.{◌≡◌, ℕ, zero, suc, ◌+◌, ◌-◌, ◌<◌, ◌≤◌, Bool, true, false, cond, [], ◌++◌, length, take, is_some}
use Rattle.std.proofs.Common.{refl, sym, ap, subst, ◌∙◌, append_assoc, arith, add-one, Ok, lit<}
use Rattle.std.proofs.Math.Logic.{∥∥₁_elim}
use Rattle.std.proofs.Props.{props}
use Rattle.bac_value.proofs.Joined.{IsBytes-append}
use Rattle.std.proofs.lemmas.Bool.{lt-ltb}
use Rattle.std.proofs.lemmas.List.{length-append, append-nil}
use Rattle.bac_value.proofs.Steps.{bind_ok, ok_is}
use Rattle.bac_value.specs.declared.tag.Class.TheVariants.{Application}
use Rattle.bac_value.specs.declared.tag.Form.TheVariants.{Closing}
use Rattle.bac_value.specs.Octets.{IsBytes}
use Rattle.bac_value.specs.Spelling.{Mark, tag_spelling, SpellsTag}
use Rattle.bac_value.specs.Steps.{◌>>=◌}
use Rattle.bac_value.specs.Reading.{tag_at}
use Rattle.bac_value.specs.Data.{closing}
use Rattle.bac_value.proofs.Tags.{tag_exact}
use Rattle.bac_service.specs.Members.{Octets, Tagged, mark_of, ApplicationString}
use Rattle.bac_service.specs.Reading.{Read, announced, next_tag, application_string}
use Rattle.bac_service.specs.Runs.{AreStrings, strings_at, run_at}
use Rattle.bac_service.proofs.Exact.{IsExact, left_fits}
use Rattle.bac_service.proofs.Heads.{next_tag_again, announced_again}
use Rattle.bac_service.proofs.Contents.{string_exact}
use Rattle.bac_service.proofs.Pairs.{pair_mark, front_is}

-- no octet string comes next
abbrev pub NoString : Octets → Type 0
NoString rest = (t : Mark × Octets) × (tag_at rest ≡ Ok t) × (is_some (announced Application 6 t.0) ≡ false)

pub no_string_closing : (n : ℕ) (rest : Octets) → n < 255 → NoString (closing n ++ rest)
unfolding announced
no_string_closing n rest lt =
    let tag : SpellsTag (pair_mark Closing n) (closing n) = record { fits = lt-ltb n 255 lt; length_in = tt; is = refl } in
    ((pair_mark Closing n, rest), tag_exact.again (pair_mark Closing n) (closing n) rest tag, refl)

one_more : Octets × Octets → ℕ → Read ℕ
one_more s most = strings_at most s.1 >>= λ n. Ok (n.0 + 1, n.1)

-- the strings of a sequence, and the octets after them
abbrev Strings : ℕ → Octets → Octets → Octets → Type 0
Strings n bytes text rest = (bytes ≡ text ++ rest) × AreStrings n text

StringsTaken : ℕ → Type 0
StringsTaken most = (bytes : Octets) (x : ℕ × Octets) → IsBytes bytes → strings_at most bytes ≡ Ok x → (text : Octets) × Strings x.0 bytes text x.1

strings_went : (most : ℕ) → StringsTaken most → (bytes : Octets) (x : ℕ × Octets) → IsBytes bytes → (b : Bool)
    → cond b (application_string bytes >>= λ s. one_more s most) (Ok (0, bytes)) ≡ Ok x → (text : Octets) × Strings x.0 bytes text x.1
unfolding StringsTaken one_more
strings_went most taken bytes x fits true h =
    let s = bind_ok (application_string bytes) (λ s. one_more s most) x h in
    let n = bind_ok (strings_at most s.0.1) (λ n. Ok (n.0 + 1, n.1)) x s.2 in
    let u = string_exact.takes bytes s.0 fits s.1 in
    let more = taken s.0.1 n.0 (left_fits application_string ApplicationString string_exact bytes s.0 fits s.1) n.1 in
    let is : bytes ≡ (u.0 ++ more.0) ++ n.0.1 = u.1 ∙ ap (λ (r : Octets). u.0 ++ r) more.1.0 ∙ sym (append_assoc u.0 more.0 n.0.1) in
    let string : Tagged Application 6 (λ xs. Unit {0}) u.0 = record { contents = u.2.contents; are = tt; fits = u.2.fits; is = u.2.is } in
    let strings : AreStrings (suc n.0.0) (u.0 ++ more.0) = record { front = u.0; back = more.0; first = string; second = more.1.1; is = refl } in
    subst (λ (y : ℕ × Octets). (text : Octets) × Strings y.0 bytes text y.1) (ok_is (n.0.0 + 1, n.0.1) x n.2)
    (u.0 ++ more.0, (is, subst (λ (m : ℕ). AreStrings m (u.0 ++ more.0)) (sym (add-one n.0.0)) strings))
strings_went most taken bytes x fits false h =
    subst (λ (y : ℕ × Octets). (text : Octets) × Strings y.0 bytes text y.1) (ok_is (0, bytes) x h) ([], (refl, refl))

strings_takes : (most : ℕ) → StringsTaken most
unfolding strings_at one_more StringsTaken
strings_takes zero bytes x fits e =
    subst (λ (y : ℕ × Octets). (text : Octets) × Strings y.0 bytes text y.1) (ok_is (0, bytes) x e) ([], (refl, refl))
strings_takes (suc most) bytes x fits e =
    let t = bind_ok (next_tag bytes) (λ t. cond (is_some (announced Application 6 t.0)) (application_string bytes >>= λ s. one_more s most)
    (Ok (0, bytes))) x e in
    strings_went most (strings_takes most) bytes x fits (is_some (announced Application 6 t.0.0)) t.2

-- a sequence has at least as many octets as strings
pub strings_len : (n : ℕ) (text : Octets) → AreStrings n text → n ≤ length text
unfolding tag_spelling
strings_len zero text s = omega arith
strings_len (suc n) text s =
    let more = strings_len n s.back s.second in
    let first : 1 ≤ length s.front = omega (arith, ap length s.first.is) in
    omega (arith, ap length s.is, length-append s.front s.back)

strings_again : (most n : ℕ) (text rest : Octets) → n < most → AreStrings n text → NoString rest → strings_at most (text ++ rest) ≡ Ok (n, rest)
unfolding strings_at
strings_again zero n text rest lt s none = absurd (omega arith)
strings_again (suc most) zero text rest lt s none = rw (s, next_tag_again rest none.0 none.1, none.2) refl
strings_again (suc most) (suc n) text rest lt s none =
    let head = mark_of Application 6 (length s.first.contents) in
    let more = s.back ++ rest in
    let string : ApplicationString s.first.contents s.front = record { contents = s.first.contents; are = refl; fits = s.first.fits; is = s.first.is } in
    let tag : SpellsTag head (tag_spelling head) = record { fits = refl; length_in = s.first.fits; is = refl } in
    let parts : text ++ rest ≡ s.front ++ more = ap (λ (t : Octets). t ++ rest) s.is ∙ append_assoc s.front s.back rest in
    let tagged : tag_at (s.front ++ more) ≡ Ok (head, s.first.contents ++ more) = ap (λ (t : Octets). tag_at (t ++ more)) s.first.is
    ∙ ap tag_at (append_assoc (tag_spelling head) s.first.contents more) ∙ tag_exact.again head (tag_spelling head) (s.first.contents ++ more) tag in
    let read : application_string (s.front ++ more) ≡ Ok (s.first.contents, more) = string_exact.again s.first.contents s.front more string tt in
    rw (
      parts,
      next_tag_again (s.front ++ more) (head, s.first.contents ++ more) tagged,
      announced_again Application 6 (length s.first.contents),
      read,
      strings_again most n s.back rest (omega arith) s.second none,
      add-one,
    ) refl

abbrev pub Run : ℕ × Octets → Octets → Type 0
Run t text = AreStrings t.0 t.1 × (text ≡ t.1)

pub run_exact : IsExact NoString run_at Run
unfolding run_at StringsTaken
run_exact = record {
  takes = λ bytes x fits e.
      let n = bind_ok (strings_at (suc (length bytes)) bytes) (λ n. Ok ((n.0, take (length bytes - length n.1) bytes), n.1)) x e in
      let t = strings_takes (suc (length bytes)) bytes n.0 fits n.1 in
      let front : take (length bytes - length n.0.1) bytes ≡ t.0 = ap (λ (b : Octets). take (length b - length n.0.1) b) t.1.0 ∙ front_is t.0 n.0.1 in
      subst (λ (y : (ℕ × Octets) × Octets). (text : Octets) × (bytes ≡ text ++ y.1) × Run y.0 text)
      (ok_is ((n.0.0, take (length bytes - length n.0.1) bytes), n.0.1) x n.2)
      (t.0, t.1.0, (subst (AreStrings n.0.0) (sym front) t.1.1, sym front));
  again = λ y text rest s none.
      let strings : AreStrings y.0 text = subst (AreStrings y.0) (sym s.1) s.0 in
      let enough : y.0 < suc (length (text ++ rest)) = omega (arith, strings_len y.0 text strings, length-append text rest) in
      rw (strings_again (suc (length (text ++ rest))) y.0 text rest enough strings none, front_is text rest, s.1) refl;
}

read_run_prop : (bytes : Octets) (n : ℕ) (run rest : Octets) → IsProp (run_at bytes ≡ Ok ((n, run), rest))
read_run_prop bytes n run rest = hlevel props

closing_bytes : (n : ℕ) → n < 15 → IsBytes (closing n)
unfolding tag_spelling
closing_bytes n lt zero = rw (lt-ltb n 15 lt) (omega arith)
closing_bytes n lt (suc i) = rw (lt-ltb n 15 lt) (omega arith)

pub whole_strings : (n : ℕ) (text : Octets) → IsBytes text → ∥ AreStrings n text ∥₁ → AreStrings n text
whole_strings n text fits known =
    let rest = closing 1 in
    let bytes = IsBytes-append text rest fits (closing_bytes 1 (lit< tt)) in
    let read : run_at (text ++ rest) ≡ Ok ((n, text), rest) =
    ∥∥₁_elim known (read_run_prop (text ++ rest) n text rest)
    (λ s. run_exact.again (n, text) text rest (s, refl) (subst NoString (append-nil rest) (no_string_closing 1 [] (lit< tt)))) in
    let t = run_exact.takes (text ++ rest) ((n, text), rest) bytes read in
    t.2.0
