-- The abstract values of the types in code.
use Rattle.std.specs.Option.{option_map}
use Rattle.bac_apdu.specs.declared.apdu.Apdu as declared
use Rattle.bac_apdu.specs.declared.apdu.Apdu.TheVariants as code
use Rattle.bac_apdu.specs.declared.limits.Limits as limits
use Rattle.bac_apdu.specs.declared.limits.Segment as segment
use Rattle.bac_apdu.specs.Apdu.{Limits, Segment, Apdu, ConfirmedRequest, UnconfirmedRequest, SimpleAck, ComplexAck, SegmentAck, Error, Reject, Abort}

abbrev pub limits_view : limits.Limits → Limits
limits_view l = record { takes_segments = l.takes_segments; max_segments = l.max_segments; max_apdu = l.max_apdu }

abbrev pub segment_view : segment.Segment → Segment
segment_view s = record { more = s.more; number = s.number; window = s.window.size }

abbrev pub apdu_view : declared.Apdu → Apdu
apdu_view (code.ConfirmedRequest limits invoke_id segment choice service) =
    ConfirmedRequest (limits_view limits) invoke_id (option_map segment_view segment) choice service.now
apdu_view (code.UnconfirmedRequest choice service) = UnconfirmedRequest choice service.now
apdu_view (code.SimpleAck invoke_id choice) = SimpleAck invoke_id choice
apdu_view (code.ComplexAck invoke_id segment choice service) = ComplexAck invoke_id (option_map segment_view segment) choice service.now
apdu_view (code.SegmentAck nak server invoke_id number window) = SegmentAck server invoke_id (record { nak = nak; number = number; window = window.size })
apdu_view (code.Error invoke_id choice class code) = Error invoke_id choice class code
apdu_view (code.Reject invoke_id reason) = Reject invoke_id reason
apdu_view (code.Abort server invoke_id reason) = Abort server invoke_id reason
