-- Which peer and APDU a datagram carries.
use Rattle.std.proofs.Common.{◌≡◌, ℕ, ◌+◌, ◌<◌, ◌≤◌, Bool, List, ◌∷◌, length, Option, Some, None, refl, sym, ap, subst, ◌∙◌, arith, IsTrue}
use Rattle.std.proofs.lemmas.Bool.Decides.{nat_tests}
use Rattle.std.proofs.lemmas.List.{length-append}
use Rattle.bac_npdu.specs.declared.fault.Dropped.{Dropped}
use Rattle.bac_npdu.specs.declared.fault.Dropped.TheVariants.{Bvll, Npdu, Routed, NetworkMessage}
use Rattle.bac_npdu.specs.Peers.{RouteView, PeerView, route_fits}
use Rattle.bac_npdu.specs.Npdu.{NpduView, DestinationView, SpellsNpdu, SpellsBvll, all_of, destination_fits, npdu_spelling, members_spelling}
use Rattle.bac_npdu.specs.Datagram.{IsFrameOf, Carries, Means, IsFrameTo, towards, npdu_to, frame}
use Rattle.bac_npdu.specs.Causes.{IsCause}
use Rattle.bac_value.proofs.Steps.{ok_is}
use Rattle.bac_npdu.proofs.Frames.{npdu_again, bvll_again}

pub bvll_one : (m n octets : List ℕ) → SpellsBvll m octets → SpellsBvll n octets → m ≡ n
bvll_one m n octets s t = ok_is m n (sym (bvll_again m octets s) ∙ bvll_again n octets t)

pub npdu_one : (m n : NpduView) (octets : List ℕ) → SpellsNpdu m octets → SpellsNpdu n octets → m ≡ n
npdu_one m n octets s t = ok_is m n (sym (npdu_again m octets s) ∙ npdu_again n octets t)

pub frame_one : (m n : NpduView) (octets : List ℕ) → IsFrameOf m octets → IsFrameOf n octets → m ≡ n
frame_one m n octets s t =
    let same : s.npdu_octets ≡ t.npdu_octets = bvll_one s.npdu_octets t.npdu_octets octets s.framed t.framed in
    npdu_one m n t.npdu_octets (subst (SpellsNpdu m) same s.spelled) t.spelled

pub carries_one : (link octets : List ℕ) (p q : PeerView) (a b : List ℕ) → Carries link octets p a → Carries link octets q b → (p ≡ q) × (a ≡ b)
carries_one link octets p q a b s t =
    let same : s.npdu ≡ t.npdu = frame_one s.npdu t.npdu octets s.frame_of t.frame_of in
    let peer : NpduView → PeerView = λ n. record { link = link; route = n.source } in
    (s.sender ∙ ap peer same ∙ sym t.sender, s.carried ∙ ap (λ (n : NpduView). n.contents) same ∙ sym t.carried)

pub cause_none : (octets : List ℕ) (d : Dropped) → IsCause octets d → (link : List ℕ) (p : PeerView) (a : List ℕ) → Carries link octets p a → ⊥
cause_none octets (Bvll fault) cause link p a c = cause.1 c.frame_of.npdu_octets c.frame_of.framed
cause_none octets (Npdu fault) cause link p a c =
    let same : c.frame_of.npdu_octets ≡ cause.0 = bvll_one c.frame_of.npdu_octets cause.0 octets c.frame_of.framed cause.1.0 in
    cause.1.2 c.npdu (subst (SpellsNpdu c.npdu) same c.frame_of.spelled)
cause_none octets Routed cause link p a c =
    cause.1.1 (ap (λ (n : NpduView). n.destination) (frame_one cause.0 c.npdu octets cause.1.0 c.frame_of) ∙ c.stays)
cause_none octets NetworkMessage cause link p a c =
    cause.1.2 (ap (λ (n : NpduView). n.message) (frame_one cause.0 c.npdu octets cause.1.0 c.frame_of) ∙ c.no_message)

-- ---- the frame to a peer

abbrev pub peer_at : List ℕ → Option RouteView → PeerView
peer_at link route = record { link = link; route = route }

towards_fits : (route : Option RouteView) → IsTrue (all_of route_fits route)
    → IsTrue (all_of (λ d. destination_fits d.network (length d.address)) (towards route))
towards_fits None fits = refl
towards_fits (Some r) fits = grind (arith, nat_tests, fits)

frame_len : (link : List ℕ) (route : Option RouteView) (expecting : Bool) (apdu : List ℕ) → IsTrue (all_of route_fits route)
    → length (npdu_spelling (npdu_to (peer_at link route) expecting apdu)) ≤ length apdu + 14
unfolding npdu_spelling members_spelling
frame_len link None expecting apdu fits = omega arith
frame_len link (Some r) expecting apdu fits =
    let short : length r.address < 9 = grind (arith, nat_tests, fits) in
    omega (arith, length-append r.address (255 ∷ apdu))

pub frame_is : (link : List ℕ) (route : Option RouteView) (expecting : Bool) (apdu : List ℕ) → IsTrue (all_of route_fits route) → length apdu ≤ 1476
    → IsFrameOf (npdu_to (peer_at link route) expecting apdu) (frame (peer_at link route) expecting apdu)
unfolding frame
frame_is link route expecting apdu fits short = record {
  npdu_octets = npdu_spelling (npdu_to (peer_at link route) expecting apdu);
  framed = record { fits = omega (arith, frame_len link route expecting apdu fits); is = refl };
  spelled = record { fits = record { destination = towards_fits route fits; source = refl; message = refl; priority = omega arith }; is = refl };
}

pub arrives : (from to : List ℕ) (expecting : Bool) (apdu : List ℕ) → length apdu ≤ 1476
    → Carries from (frame (peer_at to None) expecting apdu) (peer_at from None) apdu
arrives from to expecting apdu short = record {
  npdu = npdu_to (peer_at to None) expecting apdu;
  frame_of = frame_is to None expecting apdu refl short;
  stays = refl;
  no_message = refl;
  sender = refl;
  carried = refl;
}

pub routed_on : (from to : List ℕ) (route : RouteView) (expecting : Bool) (apdu : List ℕ) (p : PeerView) (a : List ℕ) → IsTrue (route_fits route)
    → length apdu ≤ 1476
    → Carries from (frame (peer_at to (Some route)) expecting apdu) p a → ⊥
routed_on from to route expecting apdu p a fits short c =
    let same = frame_one (npdu_to (peer_at to (Some route)) expecting apdu) c.npdu (frame (peer_at to (Some route)) expecting apdu)
    (frame_is to (Some route) expecting apdu fits short) c.frame_of in
    let there : DestinationView = record { network = route.network; address = route.address; hops = 255 } in
    let some : Option DestinationView = Some there in
    let none : some ≡ None = ap (λ (n : NpduView). n.destination) same ∙ c.stays in
    cc

-- ---- the same with APDUs of any kind, seen by their spelling

-- a frame for a peer without a route carries that APDU, from the sender's link address
pub frame_means : {A : Type 0} (Spells : A → List ℕ → Type 0) (expects : A → Bool) (from to octets : List ℕ) (apdu : A)
    → ((text : List ℕ) → Spells apdu text → length text ≤ 1476)
    → IsFrameTo Spells expects (peer_at to None) apdu octets → Means Spells from octets (peer_at from None) apdu
frame_means Spells expects from to octets apdu short f = record {
  apdu_octets = f.apdu_octets;
  carries = subst (λ (l : List ℕ). Carries from l (peer_at from None) f.apdu_octets) (sym f.is)
      (arrives from to (expects apdu) f.apdu_octets (short f.apdu_octets f.spelled));
  spelled = f.spelled;
}

-- a frame for a peer with a route carries no APDU for the node at its link address
pub routed_means_none : {A : Type 0} (Spells : A → List ℕ → Type 0) (expects : A → Bool) (from to : List ℕ) (route : RouteView) (octets : List ℕ) (apdu : A)
    → IsTrue (route_fits route) → ((text : List ℕ) → Spells apdu text → length text ≤ 1476)
    → IsFrameTo Spells expects (peer_at to (Some route)) apdu octets → (p : PeerView) (a : A) → Means Spells from octets p a → ⊥
routed_means_none Spells expects from to route octets apdu fits short f p a m =
    routed_on from to route (expects apdu) f.apdu_octets p m.apdu_octets fits (short f.apdu_octets f.spelled)
    (subst (λ (l : List ℕ). Carries from l p m.apdu_octets) f.is m.carries)

-- a datagram carries at most one APDU, from one peer, as octets encode at most one APDU
pub means_one : {A : Type 0} (Spells : A → List ℕ → Type 0) → ((a b : A) (text : List ℕ) → Spells a text → Spells b text → a ≡ b)
    → (link octets : List ℕ) (p q : PeerView) (a b : A) → Means Spells link octets p a → Means Spells link octets q b → (p ≡ q) × (a ≡ b)
means_one Spells one link octets p q a b s t =
    let same = carries_one link octets p q s.apdu_octets t.apdu_octets s.carries t.carries in
    (same.0, one a b t.apdu_octets (subst (Spells a) same.1 s.spelled) t.spelled)

-- a datagram that is dropped carries no APDU
pub dropped_means_none : {A : Type 0} (Spells : A → List ℕ → Type 0) (octets : List ℕ) (d : Dropped) → IsCause octets d
    → (link : List ℕ) (p : PeerView) (a : A) → Means Spells link octets p a → ⊥
dropped_means_none Spells octets d cause link p a m = cause_none octets d cause link p m.apdu_octets m.carries
