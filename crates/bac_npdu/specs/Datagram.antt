-- Which peer and APDU a datagram carries, and which frame is sent to a peer.
use Rattle.std.specs.Prelude.{◌≡◌, ℕ, ◌+◌, Bool, List, [], ◌∷◌, ◌++◌, length, Option, Some, None}
use Rattle.std.specs.Int.{w16, to_be_bytes}
use Rattle.bac_npdu.specs.Peers.{PeerView, RouteView}
use Rattle.bac_npdu.specs.Npdu.{NpduView, DestinationView, npdu_spelling, bvll_spelling, SpellsNpdu, SpellsBvll}

-- the octets are a BVLL, whose contents are this NPDU
pub record IsFrameOf (npdu : NpduView) (octets : List ℕ) : Type 0 where
  pub npdu_octets : List ℕ
  pub framed : SpellsBvll npdu_octets octets
  pub spelled : SpellsNpdu npdu npdu_octets

-- octets that are received from a link carry the octets of an APDU of a peer: they are the frame of an NPDU without a destination that is no
-- network layer message; the peer is the link address, with the NPDU's source as route; any priority, and expecting a reply or not
pub record Carries (link octets : List ℕ) (peer : PeerView) (apdu : List ℕ) : Type 0 where
  pub npdu : NpduView
  pub frame_of : IsFrameOf npdu octets
  pub stays : npdu.destination ≡ None
  pub no_message : npdu.message ≡ None
  pub sender : peer ≡ record { link = link; route = npdu.source }
  pub carried : apdu ≡ npdu.contents

-- the same with the APDU itself, for any type of APDU that can be encoded
pub record Means {A : Type 0} (Spells : A → List ℕ → Type 0) (link octets : List ℕ) (peer : PeerView) (apdu : A) : Type 0 where
  pub apdu_octets : List ℕ
  pub carries : Carries link octets peer apdu_octets
  pub spelled : Spells apdu apdu_octets

-- a route as the destination of an NPDU: the hop count starts at 255 (clause 6.2.2)
abbrev pub towards : Option RouteView → Option DestinationView
towards None = None
towards (Some r) = Some (record { network = r.network; address = r.address; hops = 255 })

-- the NPDU for a peer: no source, priority 0 (normal)
abbrev pub npdu_to : PeerView → Bool → List ℕ → NpduView
npdu_to peer expecting apdu = record { destination = towards peer.route; source = None; expecting = expecting; priority = 0; message = None; contents = apdu }

-- the one frame that carries the octets of an APDU to a peer
unfoldable pub frame : PeerView → Bool → List ℕ → List ℕ
frame peer expecting apdu = bvll_spelling (npdu_spelling (npdu_to peer expecting apdu))

-- the part of that frame that precedes the APDU, whose length is given
unfoldable pub frame_head : PeerView → Bool → ℕ → List ℕ
frame_head peer expecting count =
    let npdu_head = npdu_spelling (npdu_to peer expecting []) in
    0x81 ∷ 0x0A ∷ (to_be_bytes w16 (4 + length npdu_head + count) ++ npdu_head)

-- the one frame that a node sends: a reply is expected for those APDUs that the test selects, Confirmed-Requests only
pub record IsFrameTo {A : Type 0} (Spells : A → List ℕ → Type 0) (expects : A → Bool) (peer : PeerView) (apdu : A) (octets : List ℕ) : Type 0 where
  pub apdu_octets : List ℕ
  pub spelled : Spells apdu apdu_octets
  pub is : octets ≡ frame peer (expects apdu) apdu_octets
