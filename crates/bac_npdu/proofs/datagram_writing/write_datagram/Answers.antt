use Rattle.std.proofs.Common.{append_assoc}
use Rattle.bac_npdu.specs.Views.{peer_view}
use Rattle.bac_npdu.proofs.Writing.{frame_headed, frame_spelled}
use Rattle.bac_npdu.proofs.datagram_writing.write_datagram.Goals as goal

pub returns-in_err-write_frame_head-clause-spelled : goal.returns-in_err-write_frame_head-clause-spelled
returns-in_err-write_frame_head-clause-spelled c =
    frame_spelled c.args.peer.now c.args.expecting c.args.apdu.now c.requires

pub returns-clause-ok : goal.returns-clause-ok
returns-clause-ok c =
    rw (
      c.in_ok-extend_from_slice.ensures.items,
      c.in_ok-write_frame_head.ensures.ok,
      frame_headed (peer_view c.args.peer.now) c.args.expecting c.args.apdu.now,
    ) (simp append_assoc)

pub returns-clause-spelled : goal.returns-clause-spelled
returns-clause-spelled c =
    frame_spelled c.args.peer.now c.args.expecting c.args.apdu.now c.requires
