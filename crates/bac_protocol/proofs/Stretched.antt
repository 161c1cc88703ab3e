-- Nothing that stands speaks of rules: so it stands from one stretch to the next.
use Rattle.std.proofs.Common.{◌≡◌, ℕ, List, [], ◌∷◌, ◌++◌, refl, ap}
use Rattle.bac_protocol.specs.Log.{StoreModel, IsOnce}
use Rattle.bac_protocol.specs.Pace.{Pace, IsTimely}
use Rattle.bac_protocol.specs.Transaction.{Rules}
use Rattle.bac_protocol.specs.World.{Net, World, Event, happens, net_start, run, start}
use Rattle.bac_protocol.specs.Claims.{IsBounded, AreOfNewest, AreServedApart, LaterPassesFindReply, NothingIsLeft, RepliesAreInWindow, RequestsAreInWindow}
use Rattle.bac_protocol.specs.Moves.{IsInOrder, IsReachedIn}
use Rattle.bac_protocol.specs.Moves.IsReachedIn.{Still, Moved}
use Rattle.bac_protocol.specs.Stretches.{AreBounded, Stretch, StretchesJoin, run_in}
use Rattle.bac_protocol.proofs.Calm.{nothing_is_left}
use Rattle.bac_protocol.proofs.Claimed.{later_passes, of_newest, replies_in, requests_in}
use Rattle.bac_protocol.proofs.Headline.{run_kept}
use Rattle.bac_protocol.proofs.SingleMoves.{move_stands, stands_in_order}
use Rattle.bac_protocol.proofs.Standing.{Stands, start_stands}
use Rattle.bac_protocol.proofs.StrangerTables.{served_apart}

module _ (S : Type 0) (model : StoreModel S) (opening : ℕ → S) (W : ℕ) where
  record IsRight (w : World S) : Type 0 where
    stands : Stands W w.net
    once : IsOnce S model opening w.net.log w.stores

  stretch_right : (x : Rules) → IsBounded W x → (events : List Event) (w : World S) → IsRight w → IsRight (run S model x events w)
  stretch_right x bound events w r =
      let kept = run_kept S model opening W x bound events w (record { stands = r.stands; once = r.once }) in
      record { stands = kept.stands; once = kept.once }

  stretches_right : (ss : List Stretch) (w : World S) → AreBounded W ss → IsRight w → IsRight (run_in S model ss w)
  stretches_right [] w bounded r = r
  stretches_right (s ∷ ss) w bounded r =
      stretches_right ss (run S model s.rules s.events w) bounded.1 (stretch_right s.rules bounded.0 s.events w r)

  module _ (ss : List Stretch) (bounded : AreBounded W ss) (pace : Pace) (timely : IsTimely pace) (clocks : ℕ → ℕ) where
    abbrev end : World S
    end = run_in S model ss (start S pace clocks opening)

    right : IsRight end
    right = stretches_right ss (start S pace clocks opening) bounded (record { stands = start_stands W pace clocks timely; once = λ node. refl })

    pub once_in : IsOnce S model opening end.net.log end.stores
    once_in = right.once

    pub apart_in : AreServedApart end.net
    apart_in = served_apart end.net right.stands.away

    pub left_in : NothingIsLeft end.net
    left_in = nothing_is_left W end.net right.stands.net

    module _ (x : Rules) (bound : IsBounded W x) where
      pub newest_in : AreOfNewest x end.net
      newest_in = of_newest W x end.net right.stands.net

      pub requests_near : RequestsAreInWindow W x end.net
      requests_near = requests_in W x bound end.net right.stands.net

      pub replies_near : RepliesAreInWindow W x end.net
      replies_near = replies_in W x bound end.net right.stands.net

      pub later_found : LaterPassesFindReply x end.net
      later_found = later_passes W x end.net right.stands.net

-- Moves.

pub stands_in : (W : ℕ) (pace : Pace) → IsTimely pace → (clocks : ℕ → ℕ) (n : Net) → IsReachedIn (IsBounded W) (net_start pace clocks) n → Stands W n
stands_in W pace timely clocks _ Still = start_stands W pace clocks timely
stands_in W pace timely clocks _ (Moved x bound n m h) = move_stands W x bound n (stands_in W pace timely clocks n h) m

pub in_order_in : (W : ℕ) (pace : Pace) → IsTimely pace → (clocks : ℕ → ℕ) (n : Net) → IsReachedIn (IsBounded W) (net_start pace clocks) n → IsInOrder n
in_order_in W pace timely clocks n h = stands_in_order W n (stands_in W pace timely clocks n h)

-- Stretches that join.

run_on : (S : Type 0) (model : StoreModel S) (x : Rules) (a b : List Event) (w : World S) → run S model x b (run S model x a w) ≡ run S model x (a ++ b) w
run_on S model x [] b w = refl
run_on S model x (e ∷ a) b w = run_on S model x a b (happens S model x w e)

pub stretches_join : (S : Type 0) (model : StoreModel S) → StretchesJoin S model
stretches_join S model = record {
  one = λ x events w. refl;
  two = λ x a b ss w. ap (λ (v : World S). run_in S model ss v) (run_on S model x a b w);
}
