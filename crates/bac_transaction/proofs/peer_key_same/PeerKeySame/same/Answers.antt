-- Two keys are equal in code exactly where they are one.
use Rattle.std.proofs.Common.{◌≡◌, ◌↔◌, IsTrue, Bool, subst, sym}
use Rattle.bac_transaction.specs.Views.{peer_key_view}
use Rattle.bac_transaction.proofs.KeyOrder.{same_is}
use Rattle.bac_transaction.proofs.peer_key_same.PeerKeySame.same.Goals as goal

pub returns : goal.returns
returns c =
    subst (λ (b : Bool). IsTrue b ↔ (peer_key_view c.args.self.now ≡ peer_key_view c.args.other.now)) (sym c.eq.ensures)
    (same_is (peer_key_view c.args.self.now) (peer_key_view c.args.other.now))
