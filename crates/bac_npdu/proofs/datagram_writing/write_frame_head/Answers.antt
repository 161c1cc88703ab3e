use Rattle.std.proofs.Common.{arith}
use Rattle.bac_npdu.specs.Views.{peer_view}
use Rattle.bac_npdu.proofs.Writing.{members_length, head_written}
use Rattle.bac_npdu.proofs.datagram_writing.write_frame_head.Goals as goal

-- after the room is reserved, nothing fails
pub returns-in_err-extend_from_slice-clause-full : goal.returns-in_err-extend_from_slice-clause-full
returns-in_err-extend_from_slice-clause-full c =
    absurd (omega (
      arith,
      c.in_ok-reserve_exact.ensures.ok,
      c.in_err-extend_from_slice.ensures.full,
      c.head_len.ensures.head,
      members_length (peer_view c.args.peer.now),
    ))

pub returns-in_err-put_members-clause-err : goal.returns-in_err-put_members-clause-err
returns-in_err-put_members-clause-err c =
    absurd (omega (
      arith,
      c.in_ok-reserve_exact.ensures.ok,
      c.in_ok-extend_from_slice.ensures.len,
      c.in_ok-extend_from_slice.ensures.capacity,
      c.in_err-put_members.ensures.full,
      c.head_len.ensures.head,
      members_length (peer_view c.args.peer.now),
    ))

pub returns-in_err-put_members-clause-full : goal.returns-in_err-put_members-clause-full
returns-in_err-put_members-clause-full c =
    absurd (omega (
      arith,
      c.in_ok-reserve_exact.ensures.ok,
      c.in_ok-extend_from_slice.ensures.len,
      c.in_ok-extend_from_slice.ensures.capacity,
      c.in_err-put_members.ensures.full,
      c.head_len.ensures.head,
      members_length (peer_view c.args.peer.now),
    ))

pub returns-clause-room : goal.returns-clause-room
returns-clause-room c =
    omega (
      arith,
      c.in_ok-reserve_exact.ensures.ok,
      c.in_ok-extend_from_slice.ensures.len,
      c.in_ok-extend_from_slice.ensures.capacity,
      c.in_ok-put_members.ensures.len,
      c.in_ok-put_members.ensures.grows,
      c.head_len.ensures.head,
      members_length (peer_view c.args.peer.now),
    )

pub returns-clause-ok : goal.returns-clause-ok
returns-clause-ok c =
    head_written (peer_view c.args.peer.now) c.args.expecting c.args.out.now.items c.reserve_exact.new.self.items c.extend_from_slice.new.self.items
    c.put_members.new.out.items c.write_u16.new.buf c.head_len.result c.args.apdu_len c.control_to-control.result
    c.head_len.ensures.head c.write_u16.ensures c.control_to-control.ensures
    c.in_ok-reserve_exact.ensures.items c.in_ok-extend_from_slice.ensures.items c.in_ok-put_members.ensures.ok
