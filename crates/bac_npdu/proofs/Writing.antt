-- The parts of the frame for a peer, as they are written.
use Rattle.std.proofs.Common.{IsTrue, ◌≤◌, ◌≡◌, ℕ, ◌+◌, Bool, true, List, [], ◌∷◌, ◌++◌, length, Option, Some, None, refl, sym, ap, ◌∙◌, append_assoc, arith}
use Rattle.std.specs.Prelude.{slice_index}
use Rattle.std.specs.Int.{w16, to_be_bytes}
use Rattle.std.proofs.lemmas.List.{length-append}
use Rattle.bac_npdu.specs.Peers.{RouteView, PeerView, route_fits}
use Rattle.bac_npdu.specs.Npdu.{all_of, npdu_spelling, members_spelling, control_octet, bvll_spelling}
use Rattle.bac_npdu.specs.Datagram.{npdu_to, frame, frame_head, IsFrameOf}
use Rattle.bac_npdu.specs.Views.{route_view, peer_view}
use Rattle.bac_npdu.specs.declared.route.Route.{Route}
use Rattle.bac_npdu.specs.declared.peer.Peer.{Peer}
use Rattle.bac_npdu.proofs.Datagrams.{peer_at, frame_is}
use Rattle.std.specs.Option.{option_map}

head_then : (link : List ℕ) (route : Option RouteView) (e : Bool) (apdu : List ℕ)
    → npdu_spelling (npdu_to (peer_at link route) e apdu) ≡ npdu_spelling (npdu_to (peer_at link route) e []) ++ apdu
unfolding npdu_spelling members_spelling
head_then link None e apdu = refl
head_then link (Some r) e apdu = simp append_assoc

npdu_head_length : (link : List ℕ) (route : Option RouteView) (e : Bool)
    → length (npdu_spelling (npdu_to (peer_at link route) e [])) ≡ length (npdu_spelling (npdu_to (peer_at link route) true []))
unfolding npdu_spelling members_spelling
npdu_head_length link None e = refl
npdu_head_length link (Some r) e = refl

same_head : (p : PeerView) (e : Bool) → length (npdu_spelling (npdu_to p e [])) ≡ length (npdu_spelling (npdu_to p true []))
same_head p e = npdu_head_length p.link p.route e

pub members_length : (p : PeerView) → length (npdu_spelling (npdu_to p true [])) ≡ 2 + length (members_spelling (npdu_to p true []))
unfolding npdu_spelling
members_length p = omega arith

-- how many octets precede the APDU
pub head_length : (p : PeerView) (e : Bool) (count : ℕ) → length (frame_head p e count) ≡ 4 + length (npdu_spelling (npdu_to p true []))
unfolding frame_head
head_length p e count = omega (arith, same_head p e)

-- a frame is the part that precedes the APDU, and the APDU
pub frame_headed : (p : PeerView) (e : Bool) (apdu : List ℕ) → frame p e apdu ≡ frame_head p e (length apdu) ++ apdu
unfolding frame frame_head bvll_spelling
frame_headed p e apdu =
    let len : length (npdu_spelling (npdu_to p e apdu)) + 4 ≡ 4 + length (npdu_spelling (npdu_to p e [])) + length apdu =
    rw (head_then p.link p.route e apdu) (omega (arith, length-append (npdu_spelling (npdu_to p e [])) apdu)) in
    rw (len, head_then p.link p.route e apdu) (simp append_assoc)

pub frame_length : (p : PeerView) (e : Bool) (apdu : List ℕ) → length (frame p e apdu) ≡ length (frame_head p e (length apdu)) + length apdu
frame_length p e apdu = rw (frame_headed p e apdu) (length-append (frame_head p e (length apdu)) apdu)

-- the fixed octets of every frame and the members, written one after the other, are the part that precedes the APDU
pub head_written : (p : PeerView) (e : Bool) (old reserved first all bytes : List ℕ) (n count control : ℕ) → n ≡ length (npdu_spelling (npdu_to p true []))
    → bytes ≡ to_be_bytes w16 (4 + n + count) → control ≡ control_octet (npdu_to p e [])
    → reserved ≡ old → first ≡ reserved ++ 0x81 ∷ 0x0A ∷ slice_index bytes 0 ∷ slice_index bytes 1 ∷ 1 ∷ control ∷ []
    → all ≡ first ++ members_spelling (npdu_to p true []) → all ≡ old ++ frame_head p e count
unfolding frame_head npdu_spelling members_spelling
head_written p e old reserved first all bytes n count control is-n is-bytes is-control same one two =
    let octets : bytes ≡ to_be_bytes w16 (4 + length (npdu_spelling (npdu_to p e [])) + count) =
    is-bytes ∙ ap (λ (x : ℕ). to_be_bytes w16 (4 + x + count)) (is-n ∙ sym (same_head p e)) in
    rw (two, one, same, is-control, octets) (simp append_assoc)

-- a peer's route is within the limits of routes
peer_fits : (route : Option Route) → IsTrue (all_of route_fits (option_map route_view route))
peer_fits None = refl
peer_fits (Some r) = r.fits

pub frame_spelled : (p : Peer) (e : Bool) (apdu : List ℕ) → length apdu ≤ 1476 → IsFrameOf (npdu_to (peer_view p) e apdu) (frame (peer_view p) e apdu)
frame_spelled p e apdu short = frame_is p.link (option_map route_view p.route) e apdu (peer_fits p.route) short
