-- The way, by the tests that decide it.
use Rattle.std.proofs.Common.{◌≡◌, ◌-◌, ◌&&◌, true, false, ap, sym, ◌∙◌, arith}
use Rattle.std.proofs.lemmas.Bool.Decides.{nat_tests}
use Rattle.std.specs.Int.{div_ceil}
use Rattle.bac_apdu.specs.Views.{limits_view}
use Rattle.bac_protocol.specs.Sizes.{allows_segments, request_way_of_size}
use Rattle.bac_requester.proofs.Ways.{by_segments}
use Rattle.bac_requester.proofs.outgoing_request.RequestWay.of.Goals as goal
use Rattle.bac_requester.proofs.outgoing_request.RequestWay.of.Goals.{else-peer-via-then-peer+else-allows_segments, else-peer-via-else-peer}

pub returns-then-allows_segments-clause-is : goal.returns-then-allows_segments-clause-is
returns-then-allows_segments-clause-is c = λ octets is.
    let allowed : (c.args.peer.now.takes_segments && allows_segments c.args.peer.now.max_segments (div_ceil c.args.len
    (c.transfer_size-most.result - 6))) ≡ true =
    grind (arith, nat_tests, c.if-peer.true, c.if-allows_segments.true, c.if-allows_segments.ensures, c.div_ceil.ensures) in
    ap (λ n. request_way_of_size n (limits_view c.args.peer.now) octets) (sym c.transfer_size-most.ensures.is)
    ∙ by_segments c.transfer_size-most.result c.args.len (limits_view c.args.peer.now) octets true is (omega arith) (omega arith) allowed

pub returns-clause-is : goal.returns-clause-is
returns-clause-is c = λ octets is.
    let refused : (c.args.peer.now.takes_segments && allows_segments c.args.peer.now.max_segments (div_ceil c.args.len
    (c.transfer_size-most.result - 6))) ≡ false =
    elim c.else-peer.branch [
      | else-peer-via-then-peer+else-allows_segments w ↦ grind (
        arith,
        nat_tests,
        w.if-peer.true,
        w.if-allows_segments.false,
        w.if-allows_segments.ensures,
        w.div_ceil.ensures,
      )
      | else-peer-via-else-peer w ↦ grind (arith, nat_tests, w.if-peer.false)
    ] in
    ap (λ n. request_way_of_size n (limits_view c.args.peer.now) octets) (sym c.transfer_size-most.ensures.is)
    ∙ by_segments c.transfer_size-most.result c.args.len (limits_view c.args.peer.now) octets false is (omega arith) (omega arith) refused
