-- The two laws of APDUs: what is read is a spelling of the APDU, and each spelling is read as its APDU.
use Rattle.std.proofs.Common.{◌≡◌, ℕ, zero, suc, ◌+◌, ◌*◌, ◌/◌, ◌%◌, ◌^◌, ◌<◌, Bool, true, false, cond, ltb, eqb, List, [], ◌∷◌, ◌++◌, Result, Ok, Err}
use Rattle.std.proofs.Common.{Option, Some, None, refl, sym, ap, subst, ◌∙◌, arith, IsTrue, ◌&&◌, ◌||◌, not}
use Rattle.std.specs.Prelude.{IfOk, IfErr}
use Rattle.std.proofs.lemmas.Bool.{ltb-true, lt-ltb, and_parts, and_from, eqb-true, agree_below_at}
use Rattle.std.proofs.lemmas.List.{append-nil}
use Rattle.bac_value.specs.Octets.{IsBytes}
use Rattle.bac_value.specs.Steps.{◌>>=◌, octet_at, has_bit, ReadsAll}
use Rattle.bac_value.proofs.Steps.{IsBytes-rest, octet_takes, bind_ok, unless_ok, where_ok, ok_is, ok_by, err_by}
use Rattle.bac_apdu.specs.declared.fault.ApduFault.{ApduFault}
use Rattle.bac_apdu.specs.declared.fault.ApduFault.TheVariants.{Truncated, ReservedBits, MorWithoutSeg}
use Rattle.bac_apdu.specs.Apdu.{Limits, Acknowledgement, Segment, Apdu, ConfirmedRequest, UnconfirmedRequest, SimpleAck, ComplexAck, SegmentAck}
use Rattle.bac_apdu.specs.Apdu.{Error, Reject, Abort}
use Rattle.bac_apdu.specs.Spelling.{window_fits, limits_fit, segment_fits, apdu_fits, bit, segment_bits, segment_octets, enumerated_spelling, apdu_spelling}
use Rattle.bac_apdu.specs.Spelling.{SpellsApdu, IsNoApdu}
use Rattle.bac_apdu.specs.Reading.{end_at, window_at, segment_at, limits_at, enumerated_at, confirmed_at, unconfirmed_at}
use Rattle.bac_apdu.specs.Reading.{simple_ack_at, complex_ack_at, segment_ack_at, error_at, reject_at, abort_at, kind_at, apdu_at}
use Rattle.bac_apdu.proofs.Steps.{end_ok}
use Rattle.bac_apdu.proofs.Members.{window_takes, segment_takes, limits_takes, limits_again}
use Rattle.bac_apdu.proofs.Enumerated.{enumerated_takes, enumerated_again}

-- ---- the bits of the first octet

alone : ℕ → Bool
alone b = has_bit b 4 && not (has_bit b 8)

abbrev segment_part : ℕ → ℕ
segment_part b = cond (has_bit b 8) (8 + bit (has_bit b 4) 4) 0

three_bits : ℕ → Bool
three_bits b = not (eqb (b % 2) 0) || alone b || eqb b (segment_part b + bit (has_bit b 2) 2)

two_bits : ℕ → Bool
two_bits b = not (eqb (b % 4) 0) || alone b || eqb b (segment_part b)

low_bits : ℕ → Bool
low_bits b = not (eqb (b / 4) 0) || eqb b (bit (has_bit b 2) 2 + bit (has_bit b 1) 1)

low_bit : ℕ → Bool
low_bit b = not (eqb (b / 2) 0) || eqb b (bit (has_bit b 1) 1)

three_bits_are : (b : ℕ) → b < 16 → eqb (b % 2) 0 ≡ true → alone b ≡ false → b ≡ segment_part b + bit (has_bit b 2) 2
unfolding three_bits alone
three_bits_are b lt clear more =
    let all : three_bits b ≡ true = agree_below_at three_bits (λ (n : ℕ). true) 16 b refl lt in
    let sum : eqb b (segment_part b + bit (has_bit b 2) 2) ≡ true = rw (clear, more) at all in
    eqb-true _ _ sum

two_bits_are : (b : ℕ) → b < 16 → eqb (b % 4) 0 ≡ true → alone b ≡ false → b ≡ segment_part b
unfolding two_bits alone
two_bits_are b lt clear more =
    let all : two_bits b ≡ true = agree_below_at two_bits (λ (n : ℕ). true) 16 b refl lt in
    let sum : eqb b (segment_part b) ≡ true = rw (clear, more) at all in
    eqb-true _ _ sum

low_bits_are : (b : ℕ) → b < 16 → eqb (b / 4) 0 ≡ true → b ≡ bit (has_bit b 2) 2 + bit (has_bit b 1) 1
unfolding low_bits
low_bits_are b lt clear =
    let all : low_bits b ≡ true = agree_below_at low_bits (λ (n : ℕ). true) 16 b refl lt in
    let sum : eqb b (bit (has_bit b 2) 2 + bit (has_bit b 1) 1) ≡ true = rw clear at all in
    eqb-true _ _ sum

low_bit_is : (b : ℕ) → b < 16 → eqb (b / 2) 0 ≡ true → b ≡ bit (has_bit b 1) 1
unfolding low_bit
low_bit_is b lt clear =
    let all : low_bit b ≡ true = agree_below_at low_bit (λ (n : ℕ). true) 16 b refl lt in
    let sum : eqb b (bit (has_bit b 1) 1) ≡ true = rw clear at all in
    eqb-true _ _ sum

-- ---- what is read is a spelling of the APDU

abbrev Spelled : ℕ → List ℕ → Apdu → Type 0
Spelled first rest apdu = SpellsApdu apdu (first ∷ rest)

confirmed_takes : (bits : ℕ) (rest : List ℕ) (a : Apdu) → bits < 16 → eqb (bits % 2) 0 ≡ true → alone bits ≡ false → IsBytes rest
    → confirmed_at bits rest ≡ Ok a → Spelled bits rest a
unfolding confirmed_at apdu_fits apdu_spelling
confirmed_takes bits rest a lt clear more fits e =
    let made : Limits → ℕ → Option Segment → ℕ × List ℕ → Apdu =
    λ limits invoke_id segment choice. ConfirmedRequest limits invoke_id segment choice.0 choice.1 in
    let after_segment : Limits → ℕ → Option Segment × List ℕ → Result Apdu ApduFault = λ limits invoke_id segment. octet_at Truncated segment.1 >>=
    λ choice. Ok (made limits invoke_id segment.0 choice) in
    let after_invoke : Limits → ℕ × List ℕ → Result Apdu ApduFault = λ limits invoke_id. segment_at (has_bit bits 8) (has_bit bits 4) invoke_id.1 >>=
    after_segment limits invoke_id.0 in
    let limits = bind_ok (limits_at (has_bit bits 2) rest) (λ limits. octet_at Truncated limits.1 >>= after_invoke limits.0) a e in
    let tc = limits_takes (has_bit bits 2) rest limits.0 fits limits.1 in
    let l : Limits = limits.0.0 in
    let codes : ℕ = 16 * l.max_segments + l.max_apdu in
    let invoke_id = bind_ok (octet_at Truncated limits.0.1) (after_invoke l) a limits.2 in
    let ti = octet_takes Truncated limits.0.1 invoke_id.0 tc.0.rest_fits invoke_id.1 in
    let segment = bind_ok (segment_at (has_bit bits 8) (has_bit bits 4) invoke_id.0.1) (after_segment l invoke_id.0.0) a invoke_id.2 in
    let ts = segment_takes (has_bit bits 8) (has_bit bits 4) invoke_id.0.1 segment.0 ti.0.rest_fits segment.1 in
    let choice = bind_ok (octet_at Truncated segment.0.1) (λ choice. Ok (made l invoke_id.0.0 segment.0.0 choice)) a segment.2 in
    let th = octet_takes Truncated segment.0.1 choice.0 ts.0.rest_fits choice.1 in
    let first : bits ≡ segment_bits segment.0.0 + bit l.takes_segments 2 =
    three_bits_are bits lt clear more ∙ ap (λ (n : ℕ). n + bit (has_bit bits 2) 2) (sym ts.2)
    ∙ ap (λ (t : Bool). segment_bits segment.0.0 + bit t 2) (sym tc.2) in
    let after : rest ≡ codes ∷ invoke_id.0.0 ∷ (segment_octets segment.0.0 ++ choice.0.0 ∷ choice.0.1) =
    tc.0.parts ∙ ap (λ (x : List ℕ). codes ∷ x)
    (ti.0.parts ∙ ap (λ (x : List ℕ). invoke_id.0.0 ∷ x) (ts.0.parts ∙ ap (λ (x : List ℕ). segment_octets segment.0.0 ++ x) th.0.parts)) in
    subst (Spelled bits rest) (ok_is (made l invoke_id.0.0 segment.0.0 choice.0) a choice.2)
    (record {
      fits = and_from (limits_fit l) (segment_fits segment.0.0) tc.1 ts.1;
      is = ap (λ (n : ℕ). n ∷ rest) first ∙ ap (λ (x : List ℕ). (segment_bits segment.0.0 + bit l.takes_segments 2) ∷ x) after;
    })

unconfirmed_takes : (rest : List ℕ) (a : Apdu) → IsBytes rest → unconfirmed_at rest ≡ Ok a → Spelled 16 rest a
unfolding unconfirmed_at apdu_fits apdu_spelling
unconfirmed_takes rest a fits e =
    let choice = bind_ok (octet_at Truncated rest) (λ choice. Ok (UnconfirmedRequest choice.0 choice.1)) a e in
    let t = octet_takes Truncated rest choice.0 fits choice.1 in
    subst (Spelled 16 rest) (ok_is (UnconfirmedRequest choice.0.0 choice.0.1) a choice.2) (record { fits = refl; is = ap (λ (x : List ℕ). 16 ∷ x) t.0.parts })

-- two octets, then the end
pair_takes : (first : ℕ) (made : ℕ → ℕ → Apdu) → ((x y : ℕ) → Spelled first (x ∷ y ∷ []) (made x y)) → (rest : List ℕ) (a : Apdu) → IsBytes rest
    → (octet_at Truncated rest >>= λ x. octet_at Truncated x.1 >>= λ y. end_at y.1 (made x.0 y.0)) ≡ Ok a → Spelled first rest a
pair_takes first made law rest a fits e =
    let second : ℕ → ℕ × List ℕ → Result Apdu ApduFault = λ x y. end_at y.1 (made x y.0) in
    let x = bind_ok (octet_at Truncated rest) (λ x. octet_at Truncated x.1 >>= second x.0) a e in
    let tx = octet_takes Truncated rest x.0 fits x.1 in
    let y = bind_ok (octet_at Truncated x.0.1) (second x.0.0) a x.2 in
    let ty = octet_takes Truncated x.0.1 y.0 tx.0.rest_fits y.1 in
    let done = end_ok y.0.1 (made x.0.0 y.0.0) a y.2 in
    let is : rest ≡ x.0.0 ∷ y.0.0 ∷ [] = tx.0.parts ∙ ap (λ (r : List ℕ). x.0.0 ∷ r) (ty.0.parts ∙ ap (λ (r : List ℕ). y.0.0 ∷ r) done.0) in
    subst (Spelled first rest) done.1 (subst (λ (r : List ℕ). Spelled first r (made x.0.0 y.0.0)) (sym is) (law x.0.0 y.0.0))

simple_ack_takes : (rest : List ℕ) (a : Apdu) → IsBytes rest → simple_ack_at rest ≡ Ok a → Spelled 32 rest a
unfolding simple_ack_at apdu_fits apdu_spelling
simple_ack_takes = pair_takes 32 SimpleAck (λ x y. record { fits = refl; is = refl })

reject_takes : (rest : List ℕ) (a : Apdu) → IsBytes rest → reject_at rest ≡ Ok a → Spelled 96 rest a
unfolding reject_at apdu_fits apdu_spelling
reject_takes = pair_takes 96 Reject (λ x y. record { fits = refl; is = refl })

abort_takes : (bits : ℕ) (rest : List ℕ) (a : Apdu) → bits < 16 → eqb (bits / 2) 0 ≡ true → IsBytes rest → abort_at bits rest ≡ Ok a
    → Spelled (112 + bits) rest a
unfolding abort_at apdu_fits apdu_spelling
abort_takes bits rest a lt clear =
    pair_takes (112 + bits) (Abort (has_bit bits 1))
    (λ x y. record { fits = refl; is = ap (λ (n : ℕ). (112 + n) ∷ x ∷ y ∷ []) (low_bit_is bits lt clear) }) rest a

complex_ack_takes : (bits : ℕ) (rest : List ℕ) (a : Apdu) → bits < 16 → eqb (bits % 4) 0 ≡ true → alone bits ≡ false → IsBytes rest
    → complex_ack_at bits rest ≡ Ok a → Spelled (48 + bits) rest a
unfolding complex_ack_at apdu_fits apdu_spelling
complex_ack_takes bits rest a lt clear more fits e =
    let made : ℕ → Option Segment → ℕ × List ℕ → Apdu = λ invoke_id segment choice. ComplexAck invoke_id segment choice.0 choice.1 in
    let after_segment : ℕ → Option Segment × List ℕ → Result Apdu ApduFault = λ invoke_id segment. octet_at Truncated segment.1 >>=
    λ choice. Ok (made invoke_id segment.0 choice) in
    let invoke_id = bind_ok (octet_at Truncated rest)
    (λ invoke_id. segment_at (has_bit bits 8) (has_bit bits 4) invoke_id.1 >>= after_segment invoke_id.0) a e in
    let ti = octet_takes Truncated rest invoke_id.0 fits invoke_id.1 in
    let segment = bind_ok (segment_at (has_bit bits 8) (has_bit bits 4) invoke_id.0.1) (after_segment invoke_id.0.0) a invoke_id.2 in
    let ts = segment_takes (has_bit bits 8) (has_bit bits 4) invoke_id.0.1 segment.0 ti.0.rest_fits segment.1 in
    let choice = bind_ok (octet_at Truncated segment.0.1) (λ choice. Ok (made invoke_id.0.0 segment.0.0 choice)) a segment.2 in
    let th = octet_takes Truncated segment.0.1 choice.0 ts.0.rest_fits choice.1 in
    let first : 48 + bits ≡ 48 + segment_bits segment.0.0 = ap (λ (n : ℕ). 48 + n) (two_bits_are bits lt clear more ∙ sym ts.2) in
    let after : rest ≡ invoke_id.0.0 ∷ (segment_octets segment.0.0 ++ choice.0.0 ∷ choice.0.1) =
    ti.0.parts ∙ ap (λ (x : List ℕ). invoke_id.0.0 ∷ x) (ts.0.parts ∙ ap (λ (x : List ℕ). segment_octets segment.0.0 ++ x) th.0.parts) in
    subst (Spelled (48 + bits) rest) (ok_is (made invoke_id.0.0 segment.0.0 choice.0) a choice.2)
    (record { fits = ts.1; is = ap (λ (n : ℕ). n ∷ rest) first ∙ ap (λ (x : List ℕ). (48 + segment_bits segment.0.0) ∷ x) after })

abbrev acknowledgement : Bool → ℕ → ℕ → Acknowledgement
acknowledgement nak number window = record { nak = nak; number = number; window = window }

segment_ack_takes : (bits : ℕ) (rest : List ℕ) (a : Apdu) → bits < 16 → eqb (bits / 4) 0 ≡ true → IsBytes rest → segment_ack_at bits rest ≡ Ok a
    → Spelled (64 + bits) rest a
unfolding segment_ack_at apdu_fits apdu_spelling
segment_ack_takes bits rest a lt clear fits e =
    let made : ℕ → ℕ → ℕ → Apdu = λ invoke_id number window.
    SegmentAck (has_bit bits 1) invoke_id (acknowledgement (has_bit bits 2) number window) in
    let after_number : ℕ → ℕ × List ℕ → Result Apdu ApduFault = λ invoke_id number. window_at number.1 >>=
    λ window. end_at window.1 (made invoke_id number.0 window.0) in
    let invoke_id = bind_ok (octet_at Truncated rest) (λ invoke_id. octet_at Truncated invoke_id.1 >>= after_number invoke_id.0) a e in
    let ti = octet_takes Truncated rest invoke_id.0 fits invoke_id.1 in
    let number = bind_ok (octet_at Truncated invoke_id.0.1) (after_number invoke_id.0.0) a invoke_id.2 in
    let tn = octet_takes Truncated invoke_id.0.1 number.0 ti.0.rest_fits number.1 in
    let window = bind_ok (window_at number.0.1) (λ window. end_at window.1 (made invoke_id.0.0 number.0.0 window.0)) a number.2 in
    let tw = window_takes number.0.1 window.0 tn.0.rest_fits window.1 in
    let done = end_ok window.0.1 (made invoke_id.0.0 number.0.0 window.0.0) a window.2 in
    let first : 64 + bits ≡ 64 + bit (has_bit bits 2) 2 + bit (has_bit bits 1) 1 = omega (arith, low_bits_are bits lt clear) in
    let after : rest ≡ invoke_id.0.0 ∷ number.0.0 ∷ window.0.0 ∷ [] =
    ti.0.parts ∙ ap (λ (x : List ℕ). invoke_id.0.0 ∷ x)
    (tn.0.parts ∙ ap (λ (x : List ℕ). number.0.0 ∷ x) (tw.0.parts ∙ ap (λ (x : List ℕ). window.0.0 ∷ x) done.0)) in
    subst (Spelled (64 + bits) rest) done.1
    (record { fits = tw.1; is = ap (λ (n : ℕ). n ∷ rest) first ∙ ap (λ (x : List ℕ). (64 + bit (has_bit bits 2) 2 + bit (has_bit bits 1) 1) ∷ x) after })

error_takes : (rest : List ℕ) (a : Apdu) → IsBytes rest → error_at rest ≡ Ok a → Spelled 80 rest a
unfolding error_at apdu_fits apdu_spelling
error_takes rest a fits e =
    let after_class : ℕ → ℕ → ℕ × List ℕ → Result Apdu ApduFault = λ invoke_id choice class. enumerated_at class.1 >>=
    λ code. end_at code.1 (Error invoke_id choice class.0 code.0) in
    let after_choice : ℕ → ℕ × List ℕ → Result Apdu ApduFault = λ invoke_id choice. enumerated_at choice.1 >>= after_class invoke_id choice.0 in
    let invoke_id = bind_ok (octet_at Truncated rest) (λ invoke_id. octet_at Truncated invoke_id.1 >>= after_choice invoke_id.0) a e in
    let ti = octet_takes Truncated rest invoke_id.0 fits invoke_id.1 in
    let choice = bind_ok (octet_at Truncated invoke_id.0.1) (after_choice invoke_id.0.0) a invoke_id.2 in
    let th = octet_takes Truncated invoke_id.0.1 choice.0 ti.0.rest_fits choice.1 in
    let class = bind_ok (enumerated_at choice.0.1) (after_class invoke_id.0.0 choice.0.0) a choice.2 in
    let tl = enumerated_takes choice.0.1 class.0 th.0.rest_fits class.1 in
    let code = bind_ok (enumerated_at class.0.1) (λ code. end_at code.1 (Error invoke_id.0.0 choice.0.0 class.0.0 code.0)) a class.2 in
    let td = enumerated_takes class.0.1 code.0 tl.0.rest_fits code.1 in
    let done = end_ok code.0.1 (Error invoke_id.0.0 choice.0.0 class.0.0 code.0.0) a code.2 in
    let both : choice.0.1 ≡ enumerated_spelling class.0.0 ++ enumerated_spelling code.0.0 =
    tl.0.parts ∙ ap (λ (x : List ℕ). enumerated_spelling class.0.0 ++ x)
    (td.0.parts ∙ ap (λ (x : List ℕ). enumerated_spelling code.0.0 ++ x) done.0 ∙ append-nil (enumerated_spelling code.0.0)) in
    let after : rest ≡ invoke_id.0.0 ∷ choice.0.0 ∷ (enumerated_spelling class.0.0 ++ enumerated_spelling code.0.0) =
    ti.0.parts ∙ ap (λ (x : List ℕ). invoke_id.0.0 ∷ x) (th.0.parts ∙ ap (λ (x : List ℕ). choice.0.0 ∷ x) both) in
    subst (Spelled 80 rest) done.1
    (record {
      fits = and_from (ltb class.0.0 (2 ^ 32)) (ltb code.0.0 (2 ^ 32)) (lt-ltb class.0.0 (2 ^ 32) tl.1) (lt-ltb code.0.0 (2 ^ 32) td.1);
      is = ap (λ (x : List ℕ). 80 ∷ x) after;
    })

-- if the bits that the type does not use are zero
clear_ok : (bits : ℕ) (read : Result Apdu ApduFault) (a : Apdu) → cond (eqb bits 0) read (Err ReservedBits) ≡ Ok a → (bits ≡ 0) × (read ≡ Ok a)
clear_ok bits read a e = let g = where_ok (eqb bits 0) ReservedBits read a e in (eqb-true _ _ g.0, g.1)

kind_takes : (kind bits : ℕ) (rest : List ℕ) (a : Apdu) → bits < 16 → IsBytes rest → kind_at kind bits rest ≡ Ok a → Spelled (16 * kind + bits) rest a
unfolding kind_at alone
kind_takes zero bits rest a lt fits e =
    let g = where_ok (eqb (bits % 2) 0) ReservedBits (cond (alone bits) (Err MorWithoutSeg) (confirmed_at bits rest)) a e in
    let h = unless_ok (alone bits) MorWithoutSeg (confirmed_at bits rest) a g.1 in
    let s = confirmed_takes bits rest a lt g.0 h.0 fits h.1 in
    subst (λ (n : ℕ). Spelled n rest a) (omega arith) s
kind_takes (suc zero) bits rest a lt fits e =
    let g = clear_ok bits (unconfirmed_at rest) a e in
    subst (λ (n : ℕ). Spelled n rest a) (omega (arith, g.0)) (unconfirmed_takes rest a fits g.1)
kind_takes (suc (suc zero)) bits rest a lt fits e =
    let g = clear_ok bits (simple_ack_at rest) a e in
    subst (λ (n : ℕ). Spelled n rest a) (omega (arith, g.0)) (simple_ack_takes rest a fits g.1)
kind_takes (suc (suc (suc zero))) bits rest a lt fits e =
    let g = where_ok (eqb (bits % 4) 0) ReservedBits (cond (alone bits) (Err MorWithoutSeg) (complex_ack_at bits rest)) a e in
    let h = unless_ok (alone bits) MorWithoutSeg (complex_ack_at bits rest) a g.1 in
    complex_ack_takes bits rest a lt g.0 h.0 fits h.1
kind_takes (suc (suc (suc (suc zero)))) bits rest a lt fits e =
    let g = where_ok (eqb (bits / 4) 0) ReservedBits (segment_ack_at bits rest) a e in
    segment_ack_takes bits rest a lt g.0 fits g.1
kind_takes (suc (suc (suc (suc (suc zero))))) bits rest a lt fits e =
    let g = clear_ok bits (error_at rest) a e in
    subst (λ (n : ℕ). Spelled n rest a) (omega (arith, g.0)) (error_takes rest a fits g.1)
kind_takes (suc (suc (suc (suc (suc (suc zero)))))) bits rest a lt fits e =
    let g = clear_ok bits (reject_at rest) a e in
    subst (λ (n : ℕ). Spelled n rest a) (omega (arith, g.0)) (reject_takes rest a fits g.1)
kind_takes (suc (suc (suc (suc (suc (suc (suc zero))))))) bits rest a lt fits e =
    let g = where_ok (eqb (bits / 2) 0) ReservedBits (abort_at bits rest) a e in
    abort_takes bits rest a lt g.0 fits g.1
kind_takes (suc (suc (suc (suc (suc (suc (suc (suc k)))))))) bits rest a lt fits e =
    let high : ltb 7 (suc (suc (suc (suc (suc (suc (suc (suc k)))))))) ≡ true = lt-ltb 7 _ (omega arith) in
    let no = rw high at e in absurd cc

pub apdu_takes : (bytes : List ℕ) (a : Apdu) → IsBytes bytes → apdu_at bytes ≡ Ok a → SpellsApdu a bytes
unfolding apdu_at
apdu_takes [] a fits e = absurd cc
apdu_takes (first ∷ rest) a fits e =
    let s = kind_takes (first / 16) (first % 16) rest a (omega arith) (IsBytes-rest first rest fits) e in
    subst (λ (n : ℕ). Spelled n rest a) (omega arith) s

-- ---- each spelling is read

abbrev segment : Bool → ℕ → ℕ → Segment
segment more number window = record { more = more; number = number; window = window }

abbrev limits : Bool → ℕ → ℕ → Limits
limits takes segments apdu = record { takes_segments = takes; max_segments = segments; max_apdu = apdu }

whole_request : (takes : Bool) (a b invoke_id choice : ℕ) (service : List ℕ) → IsTrue (limits_fit (limits takes a b))
    → apdu_at (apdu_spelling (ConfirmedRequest (limits takes a b) invoke_id None choice service))
    ≡ Ok (ConfirmedRequest (limits takes a b) invoke_id None choice service)
unfolding apdu_at kind_at confirmed_at segment_at apdu_spelling
whole_request true a b invoke_id choice service fits = rw (limits_again (limits true a b) (invoke_id ∷ choice ∷ service) fits) refl
whole_request false a b invoke_id choice service fits = rw (limits_again (limits false a b) (invoke_id ∷ choice ∷ service) fits) refl

request_segment : (takes more : Bool) (a b invoke_id number window choice : ℕ) (service : List ℕ) → IsTrue (limits_fit (limits takes a b))
    → IsTrue (window_fits window)
    → apdu_at (apdu_spelling (ConfirmedRequest (limits takes a b) invoke_id (Some (segment more number window)) choice service))
    ≡ Ok (ConfirmedRequest (limits takes a b) invoke_id (Some (segment more number window)) choice service)
unfolding apdu_at kind_at confirmed_at segment_at window_at apdu_spelling
request_segment true true a b invoke_id number window choice service fits one =
    rw (limits_again (limits true a b) (invoke_id ∷ number ∷ window ∷ choice ∷ service) fits, one) refl
request_segment true false a b invoke_id number window choice service fits one =
    rw (limits_again (limits true a b) (invoke_id ∷ number ∷ window ∷ choice ∷ service) fits, one) refl
request_segment false true a b invoke_id number window choice service fits one =
    rw (limits_again (limits false a b) (invoke_id ∷ number ∷ window ∷ choice ∷ service) fits, one) refl
request_segment false false a b invoke_id number window choice service fits one =
    rw (limits_again (limits false a b) (invoke_id ∷ number ∷ window ∷ choice ∷ service) fits, one) refl

answer_segment : (more : Bool) (invoke_id number window choice : ℕ) (service : List ℕ) → IsTrue (window_fits window)
    → apdu_at (apdu_spelling (ComplexAck invoke_id (Some (segment more number window)) choice service))
    ≡ Ok (ComplexAck invoke_id (Some (segment more number window)) choice service)
unfolding apdu_at kind_at complex_ack_at segment_at window_at apdu_spelling
answer_segment true invoke_id number window choice service fits = rw fits refl
answer_segment false invoke_id number window choice service fits = rw fits refl

ack_again : (nak server : Bool) (invoke_id number window : ℕ) → IsTrue (window_fits window)
    → apdu_at (apdu_spelling (SegmentAck server invoke_id (acknowledgement nak number window)))
    ≡ Ok (SegmentAck server invoke_id (acknowledgement nak number window))
unfolding apdu_at kind_at segment_ack_at window_at apdu_spelling
ack_again true true invoke_id number window fits = rw fits refl
ack_again true false invoke_id number window fits = rw fits refl
ack_again false true invoke_id number window fits = rw fits refl
ack_again false false invoke_id number window fits = rw fits refl

last_number : (n : ℕ) → n < 2 ^ 32 → enumerated_at (enumerated_spelling n) ≡ Ok (n, [])
last_number n lt = ap enumerated_at (sym (append-nil (enumerated_spelling n))) ∙ enumerated_again n [] lt

error_again : (invoke_id choice class code : ℕ) → class < 2 ^ 32 → code < 2 ^ 32
    → apdu_at (apdu_spelling (Error invoke_id choice class code)) ≡ Ok (Error invoke_id choice class code)
unfolding apdu_at kind_at error_at apdu_spelling
error_again invoke_id choice class code lc ld = rw (enumerated_again class (enumerated_spelling code) lc, last_number code ld) refl

spelling_again : (a : Apdu) → IsTrue (apdu_fits a) → apdu_at (apdu_spelling a) ≡ Ok a
unfolding apdu_at kind_at unconfirmed_at simple_ack_at complex_ack_at segment_at reject_at abort_at apdu_spelling apdu_fits
spelling_again (ConfirmedRequest l invoke_id None choice service) fits =
    whole_request l.takes_segments l.max_segments l.max_apdu invoke_id choice service (and_parts (limits_fit l) true fits).0
spelling_again (ConfirmedRequest l invoke_id (Some s) choice service) fits =
    let p = and_parts (limits_fit l) (window_fits s.window) fits in
    request_segment l.takes_segments s.more l.max_segments l.max_apdu invoke_id s.number s.window choice service p.0 p.1
spelling_again (UnconfirmedRequest choice service) fits = refl
spelling_again (SimpleAck invoke_id choice) fits = refl
spelling_again (ComplexAck invoke_id None choice service) fits = refl
spelling_again (ComplexAck invoke_id (Some s) choice service) fits = answer_segment s.more invoke_id s.number s.window choice service fits
spelling_again (SegmentAck server invoke_id k) fits = ack_again k.nak server invoke_id k.number k.window fits
spelling_again (Error invoke_id choice class code) fits =
    let p = and_parts (ltb class (2 ^ 32)) (ltb code (2 ^ 32)) fits in error_again invoke_id choice class code (ltb-true _ _ p.0) (ltb-true _ _ p.1)
spelling_again (Reject invoke_id reason) fits = refl
spelling_again (Abort true invoke_id reason) fits = refl
spelling_again (Abort false invoke_id reason) fits = refl

pub apdu_again : (a : Apdu) (bytes : List ℕ) → SpellsApdu a bytes → apdu_at bytes ≡ Ok a
apdu_again a bytes s = ap apdu_at s.is ∙ spelling_again a s.fits

pub apdu_one : (a b : Apdu) (bytes : List ℕ) → SpellsApdu a bytes → SpellsApdu b bytes → a ≡ b
apdu_one a b bytes s t = ok_is a b (sym (apdu_again a bytes s) ∙ apdu_again b bytes t)

-- ---- the result of a reader

pub found_by : {X : Type 0} (view : X → Apdu) (octets : List ℕ) (r : Result X ApduFault) → IsBytes octets → ReadsAll view r (apdu_at octets)
    → IfOk r (λ a. SpellsApdu (view a) octets)
found_by view octets r fits h = ok_by view r (apdu_at octets) _ h (λ a e. apdu_takes octets (view a) fits e)

pub refused_by : {X : Type 0} (view : X → Apdu) (octets : List ℕ) (r : Result X ApduFault) → ReadsAll view r (apdu_at octets)
    → IfErr r (λ e. IsNoApdu octets)
refused_by view octets r h = err_by view r (apdu_at octets) _ h (λ e h a s. let same = apdu_again a octets s in cc)
