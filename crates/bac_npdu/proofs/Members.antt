-- The two laws of each member of an NPDU: what is read is a spelling of the member, and each spelling is read as that member.
use Rattle.std.proofs.Common.{◌≡◌, ℕ, ◌<◌, ◌^◌, Bool, true, false, cond, ltb, List, [], ◌∷◌, ◌++◌, length, take, drop, Result, Ok, Err, Option, Some, None}
use Rattle.std.proofs.Common.{refl, sym, ap, subst, ◌∙◌, append_assoc, arith, inl, inr, IsTrue}
use Rattle.std.specs.Prelude.{is_some}
use Rattle.std.specs.Option.{option_map}
use Rattle.std.specs.Int.{w16, from_be_bytes, to_be_bytes}
use Rattle.std.proofs.lemmas.Bool.{ltb-false, ltb-true, le-ltb, lt-ltb, and_parts, and_from}
use Rattle.std.proofs.lemmas.List.{take_at, drop_at, take-append-drop, length-append, length-take-le}
use Rattle.std.proofs.lemmas.Nat.{be_bytes_2, from_be_bytes-to_be_bytes_2}
use Rattle.std.proofs.lemmas.Bool.Decides.{nat_tests}
use Rattle.bac_npdu.specs.declared.fault.FrameFault.{FrameFault}
use Rattle.bac_npdu.specs.declared.fault.FrameFault.TheVariants.{Truncated, BadNet, BadLength}
use Rattle.bac_npdu.specs.Peers.{RouteView, route_fits}
use Rattle.bac_npdu.specs.Npdu.{DestinationView, MessageView, optional, all_of, address_spelling, message_spelling, destination_fits, message_fits}
use Rattle.bac_npdu.specs.Reading.{word_at, cut_at, network_in, count_in, address_at, place_at, optional_at, hops_at, message_at}
use Rattle.bac_value.specs.Octets.{IsBytes}
use Rattle.bac_value.specs.Steps.{◌>>=◌, octet_at}
use Rattle.bac_value.proofs.Steps.{octet_takes, IsBytes-drop, IsBytes-take, bind_ok, chosen, unless_ok, where_ok, ok_is, Takes, Takes-then}

-- ---- octets

pub word_takes : (bytes : List ℕ) (x : ℕ × List ℕ) → IsBytes bytes → word_at bytes ≡ Ok x → Takes bytes (to_be_bytes w16 x.0) x.1 × (x.0 < 2 ^ 16)
unfolding word_at
word_takes bytes x fits e =
    let n = from_be_bytes w16 (take 2 bytes) in
    let g = unless_ok (ltb (length bytes) 2) Truncated (Ok (n, drop 2 bytes)) x e in
    let front-fits = IsBytes-take 2 bytes fits in
    let front : to_be_bytes w16 n ≡ take 2 bytes = be_bytes_2 (take 2 bytes) _ (length-take-le 2 bytes (ltb-false _ _ g.0)) front-fits refl in
    subst (λ (y : ℕ × List ℕ). Takes bytes (to_be_bytes w16 y.0) y.1 × (y.0 < 2 ^ 16)) (ok_is (n, drop 2 bytes) x g.1) (
      record { parts = sym (take-append-drop 2 bytes) ∙ ap (λ (t : List ℕ). t ++ drop 2 bytes) (sym front); rest_fits = IsBytes-drop 2 bytes fits },
      omega (arith, front-fits 0, front-fits 1),
    )

pub word_again : (n : ℕ) (rest : List ℕ) → n < 2 ^ 16 → word_at (to_be_bytes w16 n ++ rest) ≡ Ok (n, rest)
unfolding word_at
word_again n rest lt = rw (
  le-ltb (length (to_be_bytes w16 n ++ rest)) 2 (omega (arith, length-append (to_be_bytes w16 n) rest)),
  from_be_bytes-to_be_bytes_2 n lt,
) refl

pub cut_takes : (count : ℕ) (bytes : List ℕ) (x : List ℕ × List ℕ) → IsBytes bytes → cut_at count bytes ≡ Ok x → Takes bytes x.0 x.1 × (length x.0 ≡ count)
unfolding cut_at
cut_takes count bytes x fits e =
    let g = unless_ok (ltb (length bytes) count) Truncated (Ok (take count bytes, drop count bytes)) x e in
    subst (λ (y : List ℕ × List ℕ). Takes bytes y.0 y.1 × (length y.0 ≡ count)) (ok_is (take count bytes, drop count bytes) x g.1)
    (record { parts = sym (take-append-drop count bytes); rest_fits = IsBytes-drop count bytes fits }, length-take-le count bytes (ltb-false _ _ g.0))

pub cut_again : (xs rest : List ℕ) → cut_at (length xs) (xs ++ rest) ≡ Ok (xs, rest)
unfolding cut_at
cut_again xs rest = rw (
  le-ltb (length (xs ++ rest)) (length xs) (omega (arith, length-append xs rest)),
  take_at xs rest (length xs) refl,
  drop_at xs rest (length xs) refl,
) refl

-- ---- a network's number and an address

abbrev place : ℕ → List ℕ → RouteView
place network address = record { network = network; address = address }

IsAddress : Bool → ℕ → List ℕ → RouteView × List ℕ → Type 0
IsAddress is_source network bytes x = Takes bytes (length x.0.address ∷ x.0.address) x.1 × (x.0.network ≡ network)
    × IsTrue (count_in is_source network (length x.0.address))

address_takes : (is_source : Bool) (network : ℕ) (bytes : List ℕ) (x : RouteView × List ℕ) → IsBytes bytes → address_at is_source network bytes ≡ Ok x
    → IsAddress is_source network bytes x
unfolding address_at IsAddress
address_takes is_source network bytes x fits e =
    let rest : ℕ × List ℕ → Result (RouteView × List ℕ) FrameFault = λ count. cut_at count.0 count.1 >>= λ address. Ok (place network address.0, address.1) in
    let count = bind_ok (octet_at Truncated bytes) (λ count. cond (count_in is_source network count.0) (rest count) (Err BadLength)) x e in
    let tc = octet_takes Truncated bytes count.0 fits count.1 in
    let g = where_ok (count_in is_source network count.0.0) BadLength (rest count.0) x count.2 in
    let cut = bind_ok (cut_at count.0.0 count.0.1) (λ address. Ok (place network address.0, address.1)) x g.1 in
    let ta = cut_takes count.0.0 count.0.1 cut.0 tc.0.rest_fits cut.1 in
    let both = Takes-then bytes (count.0.0 ∷ []) count.0.1 cut.0.0 cut.0.1 tc.0 ta.0 in
    subst (IsAddress is_source network bytes) (ok_is (place network cut.0.0, cut.0.1) x cut.2) (rw ta.1 both, refl, rw ta.1 g.0)

IsPlace : Bool → List ℕ → RouteView × List ℕ → Type 0
IsPlace is_source bytes x =
    Takes bytes (address_spelling x.0.network x.0.address) x.1 × IsTrue (network_in is_source x.0.network)
    × IsTrue (count_in is_source x.0.network (length x.0.address)) × (x.0.network < 2 ^ 16)

place_takes : (is_source : Bool) (bytes : List ℕ) (x : RouteView × List ℕ) → IsBytes bytes → place_at is_source bytes ≡ Ok x → IsPlace is_source bytes x
unfolding place_at IsAddress IsPlace
place_takes is_source bytes x fits e =
    let network = bind_ok (word_at bytes) (λ network. cond (network_in is_source network.0) (address_at is_source network.0 network.1) (Err BadNet)) x e in
    let tn = word_takes bytes network.0 fits network.1 in
    let g = where_ok (network_in is_source network.0.0) BadNet (address_at is_source network.0.0 network.0.1) x network.2 in
    let ta = address_takes is_source network.0.0 network.0.1 x tn.0.rest_fits g.1 in
    let both = Takes-then bytes (to_be_bytes w16 network.0.0) network.0.1 (length x.0.address ∷ x.0.address) x.1 tn.0 ta.0 in
    rw ta.1 (both, g.0, ta.2, tn.1)

place_again : (is_source : Bool) (network : ℕ) (address rest : List ℕ) → network < 2 ^ 16 → IsTrue (network_in is_source network)
    → IsTrue (count_in is_source network (length address)) → place_at is_source (address_spelling network address ++ rest) ≡ Ok (place network address, rest)
unfolding place_at address_at
place_again is_source network address rest lt network-in count-in =
    rw (
      append_assoc (to_be_bytes w16 network) (length address ∷ address) rest,
      word_again network (length address ∷ (address ++ rest)) lt,
      network-in,
      count-in,
      cut_again address rest,
    ) refl

-- the limits of a place are those of a destination or a route
pub destination_in : (r : RouteView) → IsTrue (network_in false r.network) → IsTrue (count_in false r.network (length r.address)) → r.network < 2 ^ 16
    → IsTrue (destination_fits r.network (length r.address))
destination_in r n c lt = grind (arith, nat_tests, n, c, lt)

pub route_in : (r : RouteView) → IsTrue (network_in true r.network) → IsTrue (count_in true r.network (length r.address)) → IsTrue (route_fits r)
route_in r n c = grind (arith, nat_tests, n, c)

pub place_takes_destination : (bytes : List ℕ) (x : RouteView × List ℕ) → IsBytes bytes → place_at false bytes ≡ Ok x
    → Takes bytes (address_spelling x.0.network x.0.address) x.1 × IsTrue (destination_fits x.0.network (length x.0.address))
unfolding IsPlace
place_takes_destination bytes x fits e = let t = place_takes false bytes x fits e in (t.0, destination_in x.0 t.1 t.2 t.3)

pub place_takes_source : (bytes : List ℕ) (x : RouteView × List ℕ) → IsBytes bytes → place_at true bytes ≡ Ok x
    → Takes bytes (address_spelling x.0.network x.0.address) x.1 × IsTrue (route_fits x.0)
unfolding IsPlace
place_takes_source bytes x fits e = let t = place_takes true bytes x fits e in (t.0, route_in x.0 t.1 t.2)

pub destination_again : (r : RouteView) (rest : List ℕ) → IsTrue (destination_fits r.network (length r.address))
    → place_at false (address_spelling r.network r.address ++ rest) ≡ Ok (r, rest)
destination_again r rest fits =
    place_again false r.network r.address rest (grind (arith, nat_tests, fits)) (grind (arith, nat_tests, fits)) (grind (arith, nat_tests, fits))

pub source_again : (r : RouteView) (rest : List ℕ) → IsTrue (route_fits r) → place_at true (address_spelling r.network r.address ++ rest) ≡ Ok (r, rest)
source_again r rest fits =
    place_again true r.network r.address rest (grind (arith, nat_tests, fits)) (grind (arith, nat_tests, fits)) (grind (arith, nat_tests, fits))

-- ---- a member that may be left out

pub optional_takes : {A : Type 0} (read : List ℕ → Result (A × List ℕ) FrameFault) (spelling : A → List ℕ) (test : A → Bool)
    → ((bytes : List ℕ) (x : A × List ℕ) → IsBytes bytes → read bytes ≡ Ok x → Takes bytes (spelling x.0) x.1 × IsTrue (test x.0))
    → (is_there : Bool) (bytes : List ℕ) (x : Option A × List ℕ) → IsBytes bytes → optional_at read is_there bytes ≡ Ok x
    → Takes bytes (optional spelling x.0) x.1 × (is_some x.0 ≡ is_there) × IsTrue (all_of test x.0)
optional_takes {A = A} read spelling test law false bytes x fits e =
    subst (λ (y : Option A × List ℕ). Takes bytes (optional spelling y.0) y.1 × (is_some y.0 ≡ false) × IsTrue (all_of test y.0)) (ok_is (None, bytes) x e)
    (record { parts = refl; rest_fits = fits }, refl, refl)
optional_takes {A = A} read spelling test law true bytes x fits e =
    let one = bind_ok (read bytes) (λ y. Ok (Some y.0, y.1)) x e in
    let t = law bytes one.0 fits one.1 in
    subst (λ (y : Option A × List ℕ). Takes bytes (optional spelling y.0) y.1 × (is_some y.0 ≡ true) × IsTrue (all_of test y.0))
    (ok_is (Some one.0.0, one.0.1) x one.2)
    (t.0, refl, t.1)

pub optional_again : {A : Type 0} (read : List ℕ → Result (A × List ℕ) FrameFault) (spelling : A → List ℕ) (test : A → Bool)
    → ((y : A) (rest : List ℕ) → IsTrue (test y) → read (spelling y ++ rest) ≡ Ok (y, rest))
    → (o : Option A) (rest : List ℕ) → IsTrue (all_of test o) → optional_at read (is_some o) (optional spelling o ++ rest) ≡ Ok (o, rest)
optional_again read spelling test law None rest fits = refl
optional_again read spelling test law (Some y) rest fits = rw (law y rest fits) refl

-- ---- the hop count

abbrev pub place_of : DestinationView → RouteView
place_of d = place d.network d.address

abbrev hops_of : DestinationView → List ℕ
hops_of d = d.hops ∷ []

abbrev destination : RouteView → ℕ → DestinationView
destination r hops = record { network = r.network; address = r.address; hops = hops }

pub hops_takes : (to : Option RouteView) (bytes : List ℕ) (x : Option DestinationView × List ℕ) → IsBytes bytes → hops_at to bytes ≡ Ok x
    → Takes bytes (optional (λ (d : DestinationView). d.hops ∷ []) x.0) x.1 × (to ≡ option_map place_of x.0)
hops_takes None bytes x fits e =
    subst (λ (y : Option DestinationView × List ℕ). Takes bytes (optional hops_of y.0) y.1 × (None ≡ option_map place_of y.0)) (ok_is (None, bytes) x e)
    (record { parts = refl; rest_fits = fits }, refl)
hops_takes (Some r) bytes x fits e =
    let one = bind_ok (octet_at Truncated bytes) (λ hops. Ok (Some (destination r hops.0), hops.1)) x e in
    let t = octet_takes Truncated bytes one.0 fits one.1 in
    subst (λ (y : Option DestinationView × List ℕ). Takes bytes (optional hops_of y.0) y.1 × (Some r ≡ option_map place_of y.0))
    (ok_is (Some (destination r one.0.0), one.0.1) x one.2)
    (t.0, refl)

pub hops_again : (o : Option DestinationView) (rest : List ℕ) → hops_at (option_map place_of o) (optional (λ (d : DestinationView). d.hops ∷ []) o ++ rest)
    ≡ Ok (o, rest)
hops_again None rest = refl
hops_again (Some d) rest = refl

-- ---- the type of a network message

abbrev message : ℕ → Option ℕ → MessageView
message kind vendor = record { kind = kind; vendor = vendor }

abbrev message_in : MessageView → Bool
message_in m = message_fits m.kind m.vendor

IsMessage : List ℕ → MessageView × List ℕ → Type 0
IsMessage bytes x = Takes bytes (message_spelling x.0) x.1 × IsTrue (message_in x.0)

pub message_takes : (bytes : List ℕ) (x : MessageView × List ℕ) → IsBytes bytes → message_at bytes ≡ Ok x → Takes bytes (message_spelling x.0) x.1
    × IsTrue (message_fits x.0.kind x.0.vendor)
unfolding message_at IsMessage
message_takes bytes x fits e =
    let with_vendor : ℕ × List ℕ → Result (MessageView × List ℕ) FrameFault = λ kind. word_at kind.1 >>=
    λ vendor. Ok (message kind.0 (Some vendor.0), vendor.1) in
    let kind = bind_ok (octet_at Truncated bytes) (λ kind. cond (ltb kind.0 128) (Ok (message kind.0 None, kind.1)) (with_vendor kind)) x e in
    let tk = octet_takes Truncated bytes kind.0 fits kind.1 in
    elim (chosen (ltb kind.0.0 128) (Ok (message kind.0.0 None, kind.0.1)) (with_vendor kind.0) (Ok x) kind.2) [
      | inl c ↦ subst (IsMessage bytes) (ok_is (message kind.0.0 None, kind.0.1) x c.1) (tk.0, c.0)
      | inr c ↦
          let vendor = bind_ok (word_at kind.0.1) (λ vendor. Ok (message kind.0.0 (Some vendor.0), vendor.1)) x c.1 in
          let tv = word_takes kind.0.1 vendor.0 tk.0.rest_fits vendor.1 in
          let both = Takes-then bytes (kind.0.0 ∷ []) kind.0.1 (to_be_bytes w16 vendor.0.0) vendor.0.1 tk.0 tv.0 in
          subst (IsMessage bytes) (ok_is (message kind.0.0 (Some vendor.0.0), vendor.0.1) x vendor.2)
          (both, and_from (ltb 127 kind.0.0) (ltb vendor.0.0 65536) (lt-ltb 127 kind.0.0 (omega (arith, ltb-false _ _ c.0))) (lt-ltb vendor.0.0 65536 tv.1))
    ]

message_again_by : (kind : ℕ) (vendor : Option ℕ) (rest : List ℕ) → IsTrue (message_fits kind vendor)
    → message_at (message_spelling (message kind vendor) ++ rest) ≡ Ok (message kind vendor, rest)
unfolding message_at
message_again_by kind None rest fits = rw fits refl
message_again_by kind (Some vendor) rest fits =
    let p = and_parts (ltb 127 kind) (ltb vendor 65536) fits in
    rw (le-ltb kind 128 (omega (arith, ltb-true _ _ p.0)), word_again vendor rest (ltb-true _ _ p.1)) refl

pub message_again : (m : MessageView) (rest : List ℕ) → IsTrue (message_fits m.kind m.vendor) → message_at (message_spelling m ++ rest) ≡ Ok (m, rest)
message_again m rest fits = message_again_by m.kind m.vendor rest fits
