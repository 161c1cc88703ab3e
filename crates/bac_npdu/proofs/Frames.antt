-- The two laws of NPDU and BVLL: what is read is a spelling of the value, and each spelling is read as its value.
use Rattle.std.proofs.Common.{◌≡◌, ℕ, ◌+◌, ◌*◌, ◌/◌, ◌%◌, ◌<◌, Bool, true, false, cond, ltb, eqb, List, [], ◌∷◌, ◌++◌, length, Result, Ok, Err, Option, Some}
use Rattle.std.proofs.Common.{None, refl, sym, ap, subst, ◌∙◌, arith, IsTrue, ◌||◌}
use Rattle.std.specs.Prelude.{is_some, IfOk, IfErr}
use Rattle.std.specs.Option.{option_map}
use Rattle.std.specs.Int.{w16, from_be_bytes, to_be_bytes}
use Rattle.std.proofs.lemmas.Bool.{le-ltb, eqb-true, eq-eqb, agree_below_at}
use Rattle.std.proofs.lemmas.Nat.{be_bytes_2, from_be_bytes-to_be_bytes_2}
use Rattle.bac_npdu.specs.declared.fault.FrameFault.{FrameFault}
use Rattle.bac_npdu.specs.declared.fault.FrameFault.TheVariants.{Truncated, Version, ReservedBits, BadLength, NotUnicast}
use Rattle.bac_npdu.specs.Peers.{RouteView, route_fits}
use Rattle.bac_npdu.specs.Npdu.{DestinationView, MessageView, NpduView, optional, all_of, bit, control_octet, address_spelling, message_spelling}
use Rattle.bac_npdu.specs.Npdu.{destination_fits, message_fits, members_spelling, npdu_spelling, SpellsNpdu, bvll_spelling, SpellsBvll}
use Rattle.bac_value.specs.Octets.{IsBytes}
use Rattle.bac_value.specs.Steps.{◌>>=◌, has_bit, ReadsAll}
use Rattle.bac_npdu.specs.Reading.{place_at, optional_at, hops_at, message_at, members_at, control_at, npdu_at, bvll_at}
use Rattle.bac_value.proofs.Steps.{IsBytes-rest, IsBytes-take, bind_ok, unless_ok, where_ok, ok_is, ok_by, err_by}
use Rattle.bac_npdu.proofs.Members.{place_takes_destination, place_takes_source, destination_again, source_again, optional_takes, optional_again, place_of}
use Rattle.bac_npdu.proofs.Members.{hops_takes, hops_again, message_takes, message_again}

-- ---- the control octet

-- an octet with bits 6 and 4 clear is the sum of its other bits
is_sum : ℕ → Bool
is_sum c = (has_bit c 64 || has_bit c 16) || eqb c (bit (has_bit c 128) 128 + bit (has_bit c 32) 32 + bit (has_bit c 8) 8 + bit (has_bit c 4) 4 + c % 4)

sum_is : (c : ℕ) → c < 256 → (has_bit c 64 || has_bit c 16) ≡ false
    → c ≡ bit (has_bit c 128) 128 + bit (has_bit c 32) 32 + bit (has_bit c 8) 8 + bit (has_bit c 4) 4 + c % 4
unfolding is_sum
sum_is c lt clear =
    let all : is_sum c ≡ true = agree_below_at is_sum (λ (n : ℕ). true) 256 c refl lt in
    let sum : eqb c (bit (has_bit c 128) 128 + bit (has_bit c 32) 32 + bit (has_bit c 8) 8 + bit (has_bit c 4) 4 + c % 4) ≡ true = rw clear at all in
    eqb-true _ _ sum

one : Bool → ℕ
one b = bit b 1

weighed : (b : Bool) (w : ℕ) → bit b w ≡ w * one b
unfolding one
weighed true w = omega arith
weighed false w = omega arith

one_below : (b : Bool) → one b < 2
unfolding one
one_below true = omega arith
one_below false = omega arith

one_is : (b : Bool) → eqb (one b) 1 ≡ b
unfolding one
one_is true = refl
one_is false = refl

-- the bits of a sum of weights
record HasBits (c : ℕ) (message destination source expecting : Bool) (priority : ℕ) : Type 0 where
  bit_7 : has_bit c 128 ≡ message
  bit_5 : has_bit c 32 ≡ destination
  bit_3 : has_bit c 8 ≡ source
  bit_2 : has_bit c 4 ≡ expecting
  low : c % 4 ≡ priority
  clear : (has_bit c 64 || has_bit c 16) ≡ false

digits : (a b d e p : ℕ) → a < 2 → b < 2 → d < 2 → e < 2 → p < 4 → (c : ℕ) → c ≡ 128 * a + 32 * b + 8 * d + 4 * e + p
    → (c / 128 % 2 ≡ a) × (c / 32 % 2 ≡ b) × (c / 8 % 2 ≡ d) × (c / 4 % 2 ≡ e) × (c % 4 ≡ p) × (c / 64 % 2 ≡ 0) × (c / 16 % 2 ≡ 0)
digits a b d e p la lb ld le lp c is = (omega arith, omega arith, omega arith, omega arith, omega arith, omega arith, omega arith)

bits_are : (a b d e : Bool) (p : ℕ) → p < 4 → (c : ℕ) → c ≡ bit a 128 + bit b 32 + bit d 8 + bit e 4 + p → HasBits c a b d e p
bits_are a b d e p lt c is =
    let sum : c ≡ 128 * one a + 32 * one b + 8 * one d + 4 * one e + p = omega (arith, is, weighed a 128, weighed b 32, weighed d 8, weighed e 4) in
    let t = digits (one a) (one b) (one d) (one e) p (one_below a) (one_below b) (one_below d) (one_below e) lt c sum in
    record {
      bit_7 = rw t.0 (one_is a);
      bit_5 = rw t.1 (one_is b);
      bit_3 = rw t.2 (one_is d);
      bit_2 = rw t.3 (one_is e);
      low = t.4;
      clear = rw (t.5, t.6) refl;
    }

-- ---- the members after it

record IsMembers (control : ℕ) (bytes : List ℕ) (n : NpduView) : Type 0 where
  is : bytes ≡ members_spelling n
  fits_destination : IsTrue (all_of (λ d. destination_fits d.network (length d.address)) n.destination)
  fits_source : IsTrue (all_of route_fits n.source)
  fits_message : IsTrue (all_of (λ m. message_fits m.kind m.vendor) n.message)
  destination : is_some n.destination ≡ has_bit control 32
  source : is_some n.source ≡ has_bit control 8
  message : is_some n.message ≡ has_bit control 128
  expecting : n.expecting ≡ has_bit control 4
  priority : n.priority ≡ control % 4

abbrev address_of : RouteView → List ℕ
address_of r = address_spelling r.network r.address

abbrev destination_in : RouteView → Bool
destination_in r = destination_fits r.network (length r.address)

abbrev npdu : ℕ → Option DestinationView → Option RouteView → Option MessageView → List ℕ → NpduView
npdu control to from message contents = record {
  destination = to;
  source = from;
  expecting = has_bit control 4;
  priority = control % 4;
  message = message;
  contents = contents;
}

-- a destination is a network, an address and a hop count
same_octets : (o : Option DestinationView) → optional (λ (r : RouteView). address_spelling r.network r.address) (option_map place_of o)
    ≡ optional (λ (d : DestinationView). address_spelling d.network d.address) o
same_octets None = refl
same_octets (Some d) = refl

same_limits : (o : Option DestinationView) → all_of (λ (r : RouteView). destination_fits r.network (length r.address)) (option_map place_of o)
    ≡ all_of (λ (d : DestinationView). destination_fits d.network (length d.address)) o
same_limits None = refl
same_limits (Some d) = refl

same_presence : (o : Option DestinationView) → is_some (option_map place_of o) ≡ is_some o
same_presence None = refl
same_presence (Some d) = refl

after_hops : ℕ → Option RouteView → Option DestinationView × List ℕ → Result NpduView FrameFault
after_hops control from hops = optional_at message_at (has_bit control 128) hops.1 >>= λ message. Ok (npdu control hops.0 from message.0 message.1)

after_source : ℕ → Option RouteView → Option RouteView × List ℕ → Result NpduView FrameFault
after_source control to from = hops_at to from.1 >>= after_hops control from.0

after_place : ℕ → Option RouteView × List ℕ → Result NpduView FrameFault
after_place control to = optional_at (place_at true) (has_bit control 8) to.1 >>= after_source control to.0

members_takes : (control : ℕ) (bytes : List ℕ) (n : NpduView) → IsBytes bytes → members_at control bytes ≡ Ok n → IsMembers control bytes n
unfolding members_at members_spelling after_hops after_source after_place
members_takes control bytes n fits e =
    let to = bind_ok (optional_at (place_at false) (has_bit control 32) bytes) (after_place control) n e in
    let t-to = optional_takes (place_at false) address_of destination_in place_takes_destination (has_bit control 32) bytes to.0 fits to.1 in
    let from = bind_ok (optional_at (place_at true) (has_bit control 8) to.0.1) (after_source control to.0.0) n to.2 in
    let t-from = optional_takes (place_at true) address_of route_fits place_takes_source (has_bit control 8) to.0.1 from.0 t-to.0.rest_fits from.1 in
    let hops = bind_ok (hops_at to.0.0 from.0.1) (after_hops control from.0.0) n from.2 in
    let t-hops = hops_takes to.0.0 from.0.1 hops.0 t-from.0.rest_fits hops.1 in
    let message = bind_ok (optional_at message_at (has_bit control 128) hops.0.1) (λ message. Ok (npdu control hops.0.0 from.0.0 message.0 message.1)) n
    hops.2 in
    let t-message = optional_takes message_at message_spelling (λ (m : MessageView). message_fits m.kind m.vendor) message_takes (has_bit control 128)
    hops.0.1 message.0 t-hops.0.rest_fits message.1 in
    let place-is = t-hops.1 in
    let octets-are : optional address_of to.0.0 ≡ optional (λ (d : DestinationView). address_spelling d.network d.address) hops.0.0 =
    ap (optional address_of) place-is ∙ same_octets hops.0.0 in
    let joined : bytes ≡ members_spelling (npdu control hops.0.0 from.0.0 message.0.0 message.0.1) =
    t-to.0.parts ∙ ap (λ (x : List ℕ). x ++ to.0.1) octets-are
    ∙ ap (λ (x : List ℕ). optional (λ (d : DestinationView). address_spelling d.network d.address) hops.0.0 ++ x)
    (t-from.0.parts ∙ ap (λ (x : List ℕ). optional address_of from.0.0 ++ x)
    (t-hops.0.parts ∙ ap (λ (x : List ℕ). optional (λ (d : DestinationView). d.hops ∷ []) hops.0.0 ++ x) t-message.0.parts)) in
    subst (IsMembers control bytes) (ok_is (npdu control hops.0.0 from.0.0 message.0.0 message.0.1) n message.2)
    record {
      is = joined;
      fits_destination = sym (same_limits hops.0.0) ∙ sym (ap (all_of destination_in) place-is) ∙ t-to.2;
      fits_source = t-from.2;
      fits_message = t-message.2;
      destination = sym (same_presence hops.0.0) ∙ sym (ap is_some place-is) ∙ t-to.1;
      source = t-from.1;
      message = t-message.1;
      expecting = refl;
      priority = refl;
    }

control_takes : (control : ℕ) (bytes : List ℕ) (n : NpduView) → control < 256 → (has_bit control 64 || has_bit control 16) ≡ false
    → IsMembers control bytes n → SpellsNpdu n (1 ∷ control ∷ bytes)
unfolding npdu_spelling
control_takes control bytes n lt clear m =
    let octet : control ≡ control_octet n =
    sum_is control lt clear
    ∙ rw (sym m.message, sym m.destination, sym m.source, sym m.expecting, sym m.priority) refl in
    record {
      fits = record { destination = m.fits_destination; source = m.fits_source; message = m.fits_message; priority = omega (arith, m.priority) };
      is = ap (λ (c : ℕ). 1 ∷ c ∷ bytes) octet ∙ ap (λ (x : List ℕ). 1 ∷ control_octet n ∷ x) m.is;
    }

pub npdu_takes : (bytes : List ℕ) (n : NpduView) → IsBytes bytes → npdu_at bytes ≡ Ok n → SpellsNpdu n bytes
unfolding npdu_at control_at
npdu_takes [] n fits e = absurd cc
npdu_takes (version ∷ []) n fits e =
    let g = where_ok (eqb version 1) Version (control_at []) n e in absurd (refused g.1)
  where
    refused : control_at [] ≡ Ok n → ⊥
    refused h = absurd cc
npdu_takes (version ∷ control ∷ rest) n fits e =
    let g = where_ok (eqb version 1) Version (control_at (control ∷ rest)) n e in
    let h = unless_ok (has_bit control 64 || has_bit control 16) ReservedBits (members_at control rest) n g.1 in
    let m = members_takes control rest n (IsBytes-rest control rest (IsBytes-rest version (control ∷ rest) fits)) h.1 in
    let s = control_takes control rest n (fits 1) h.0 m in
    subst (λ (v : ℕ). SpellsNpdu n (v ∷ control ∷ rest)) (sym (eqb-true version 1 g.0)) s

pub npdu_again : (n : NpduView) (bytes : List ℕ) → SpellsNpdu n bytes → npdu_at bytes ≡ Ok n
unfolding npdu_at control_at members_at npdu_spelling members_spelling
npdu_again n bytes s =
    let b = bits_are (is_some n.message) (is_some n.destination) (is_some n.source) n.expecting n.priority s.fits.priority (control_octet n) refl in
    let tail-message = optional message_spelling n.message ++ n.contents in
    let tail-hops = optional (λ (d : DestinationView). d.hops ∷ []) n.destination ++ tail-message in
    let tail-source = optional address_of n.source ++ tail-hops in
    let to = optional_again (place_at false) address_of destination_in destination_again (option_map place_of n.destination) tail-source
    (same_limits n.destination ∙ s.fits.destination) in
    let to-is : optional_at (place_at false) (is_some n.destination)
    (optional (λ (d : DestinationView). address_spelling d.network d.address) n.destination ++ tail-source)
    ≡ Ok (option_map place_of n.destination, tail-source) =
    rw (same_presence n.destination, same_octets n.destination) at to in
    let from = optional_again (place_at true) address_of route_fits source_again n.source tail-hops s.fits.source in
    let hops = hops_again n.destination tail-message in
    let message = optional_again message_at message_spelling (λ (m : MessageView). message_fits m.kind m.vendor) message_again n.message n.contents
    s.fits.message in
    ap npdu_at s.is ∙ rw (b.clear, b.bit_5, to-is, b.bit_3, from, hops, b.bit_7, message, b.bit_2, b.low) refl

-- ---- BVLL

pub bvll_takes : (bytes npdu : List ℕ) → IsBytes bytes → bvll_at bytes ≡ Ok npdu → SpellsBvll npdu bytes
unfolding bvll_at bvll_spelling
bvll_takes [] npdu fits e = absurd cc
bvll_takes (a ∷ []) npdu fits e = absurd cc
bvll_takes (a ∷ b ∷ []) npdu fits e = absurd cc
bvll_takes (a ∷ b ∷ c ∷ []) npdu fits e = absurd cc
bvll_takes (a ∷ b ∷ c ∷ d ∷ rest) npdu fits e =
    let bytes : List ℕ = a ∷ b ∷ c ∷ d ∷ rest in
    let n : ℕ = from_be_bytes w16 (c ∷ d ∷ []) in
    let whole : Result (List ℕ) FrameFault = cond (eqb n (length bytes)) (Ok rest) (Err BadLength) in
    let long = unless_ok (ltb (length bytes) 4) Truncated (cond (eqb a 0x81) (cond (eqb b 0x0A) whole (Err NotUnicast)) (Err Version)) npdu e in
    let version = where_ok (eqb a 0x81) Version (cond (eqb b 0x0A) whole (Err NotUnicast)) npdu long.1 in
    let function = where_ok (eqb b 0x0A) NotUnicast whole npdu version.1 in
    let len = where_ok (eqb n (length bytes)) BadLength (Ok rest) npdu function.1 in
    let octets-fit : IsBytes (c ∷ d ∷ []) = λ i. IsBytes-take 2 (c ∷ d ∷ rest) (IsBytes-rest b (c ∷ d ∷ rest) (IsBytes-rest a (b ∷ c ∷ d ∷ rest) fits)) i in
    let n-is : length rest + 4 ≡ n = omega (arith, eqb-true _ _ len.0) in
    let octets-are : to_be_bytes w16 n ≡ c ∷ d ∷ [] = be_bytes_2 (c ∷ d ∷ []) _ refl octets-fit refl in
    let is : bytes ≡ bvll_spelling rest =
    ap (λ (x : ℕ). x ∷ b ∷ c ∷ d ∷ rest) (eqb-true _ _ version.0)
    ∙ ap (λ (x : ℕ). 0x81 ∷ x ∷ c ∷ d ∷ rest) (eqb-true _ _ function.0)
    ∙ ap (λ (x : List ℕ). 0x81 ∷ 0x0A ∷ (x ++ rest)) (sym octets-are)
    ∙ ap (λ (x : ℕ). 0x81 ∷ 0x0A ∷ (to_be_bytes w16 x ++ rest)) (sym n-is) in
    subst (λ (x : List ℕ). SpellsBvll x bytes) (ok_is rest npdu len.1)
    (record { fits = omega (arith, n-is, octets-fit 0, octets-fit 1); is = is })

pub bvll_again : (npdu bytes : List ℕ) → SpellsBvll npdu bytes → bvll_at bytes ≡ Ok npdu
unfolding bvll_at bvll_spelling
bvll_again npdu bytes s =
    let n : ℕ = length npdu + 4 in
    let long : ltb (length (bvll_spelling npdu)) 4 ≡ false = le-ltb _ _ (omega arith) in
    let len : eqb n (length (bvll_spelling npdu)) ≡ true = eq-eqb _ _ (omega arith) in
    ap bvll_at s.is ∙ rw (long, from_be_bytes-to_be_bytes_2 n s.fits, len) refl

-- ---- what a fault refuses

pub bvll_refused : (octets : List ℕ) (e : FrameFault) → bvll_at octets ≡ Err e → (n : List ℕ) → SpellsBvll n octets → ⊥
bvll_refused octets e h n s = let same = bvll_again n octets s in cc

pub npdu_refused : (octets : List ℕ) (e : FrameFault) → npdu_at octets ≡ Err e → (n : NpduView) → SpellsNpdu n octets → ⊥
npdu_refused octets e h n s = let same = npdu_again n octets s in cc

-- the same of the result of a reader
pub found_by : {X : Type 0} (view : X → NpduView) (octets : List ℕ) (r : Result X FrameFault) → IsBytes octets → ReadsAll view r (npdu_at octets)
    → IfOk r (λ n. SpellsNpdu (view n) octets)
found_by view octets r fits h = ok_by view r (npdu_at octets) _ h (λ n e. npdu_takes octets (view n) fits e)

pub refused_by : {X : Type 0} (view : X → NpduView) (octets : List ℕ) (r : Result X FrameFault) → ReadsAll view r (npdu_at octets)
    → IfErr r (λ e. (n : NpduView) → SpellsNpdu n octets → ⊥)
refused_by view octets r h = err_by view r (npdu_at octets) _ h (λ e same. npdu_refused octets e same)
