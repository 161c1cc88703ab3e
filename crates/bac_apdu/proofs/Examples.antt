-- Octets of whole APDUs, computed from the definitions.
use Rattle.std.proofs.Common.{◌≡◌, [], ◌∷◌, Some, None, true, false, refl}
use Rattle.bac_apdu.specs.Apdu.{ConfirmedRequest, UnconfirmedRequest, SimpleAck, ComplexAck, SegmentAck, Error, Reject, Abort}
use Rattle.bac_apdu.specs.Spelling.{apdu_fits, apdu_spelling, enumerated_spelling}

whole_request : apdu_spelling (ConfirmedRequest (record { takes_segments = false; max_segments = 0; max_apdu = 5 }) 1 None 12
    (0x0C ∷ 0x00 ∷ 0x00 ∷ 0x00 ∷ 0x05 ∷ 0x19 ∷ 0x55 ∷ []))
    ≡ 0x00 ∷ 0x05 ∷ 0x01 ∷ 0x0C ∷ 0x0C ∷ 0x00 ∷ 0x00 ∷ 0x00 ∷ 0x05 ∷ 0x19 ∷ 0x55 ∷ []
unfolding apdu_spelling
whole_request = refl

-- The first of several segments, by a client that takes segments: SEG, MOR and SA are set.
first_segment : apdu_spelling (ConfirmedRequest (record { takes_segments = true; max_segments = 7; max_apdu = 5 }) 0
    (Some (record { more = true; number = 0; window = 32 })) 7 (0xC4 ∷ 0x02 ∷ 0x80 ∷ 0x00 ∷ 0x01 ∷ []))
    ≡ 0x0E ∷ 0x75 ∷ 0x00 ∷ 0x00 ∷ 0x20 ∷ 0x07 ∷ 0xC4 ∷ 0x02 ∷ 0x80 ∷ 0x00 ∷ 0x01 ∷ []
unfolding apdu_spelling
first_segment = refl

unconfirmed_request : apdu_spelling (UnconfirmedRequest 8 (0x09 ∷ 0x01 ∷ [])) ≡ 0x10 ∷ 0x08 ∷ 0x09 ∷ 0x01 ∷ []
unfolding apdu_spelling
unconfirmed_request = refl

simple_ack : apdu_spelling (SimpleAck 89 15) ≡ 0x20 ∷ 0x59 ∷ 0x0F ∷ []
unfolding apdu_spelling
simple_ack = refl

whole_answer : apdu_spelling (ComplexAck 0 None 7 (0x09 ∷ 0x02 ∷ [])) ≡ 0x30 ∷ 0x00 ∷ 0x07 ∷ 0x09 ∷ 0x02 ∷ []
unfolding apdu_spelling
whole_answer = refl

last_segment_of_an_answer : apdu_spelling (ComplexAck 0 (Some (record { more = false; number = 1; window = 32 })) 12 []) ≡ 0x38 ∷ 0x00 ∷ 0x01 ∷ 0x20 ∷ 0x0C ∷ []
unfolding apdu_spelling
last_segment_of_an_answer = refl

first_segment_of_an_answer : apdu_spelling (ComplexAck 0 (Some (record { more = true; number = 0; window = 32 })) 12 []) ≡ 0x3C ∷ 0x00 ∷ 0x00 ∷ 0x20 ∷ 0x0C ∷ []
unfolding apdu_spelling
first_segment_of_an_answer = refl

negative_ack_of_a_client : apdu_spelling (SegmentAck false 0 (record { nak = true; number = 40; window = 32 })) ≡ 0x42 ∷ 0x00 ∷ 0x28 ∷ 0x20 ∷ []
unfolding apdu_spelling
negative_ack_of_a_client = refl

ack_of_a_server : apdu_spelling (SegmentAck true 0 (record { nak = false; number = 0; window = 32 })) ≡ 0x41 ∷ 0x00 ∷ 0x00 ∷ 0x20 ∷ []
unfolding apdu_spelling
ack_of_a_server = refl

-- Write access denied: class 2, code 40.
error_spelled : apdu_spelling (Error 2 15 2 40) ≡ 0x50 ∷ 0x02 ∷ 0x0F ∷ 0x91 ∷ 0x02 ∷ 0x91 ∷ 0x28 ∷ []
unfolding apdu_spelling
error_spelled = refl

error_of_long_numbers : apdu_spelling (Error 2 15 256 65536) ≡ 0x50 ∷ 0x02 ∷ 0x0F ∷ 0x92 ∷ 0x01 ∷ 0x00 ∷ 0x93 ∷ 0x01 ∷ 0x00 ∷ 0x00 ∷ []
unfolding apdu_spelling
error_of_long_numbers = refl

greatest_number : enumerated_spelling 4294967295 ≡ 0x94 ∷ 0xFF ∷ 0xFF ∷ 0xFF ∷ 0xFF ∷ []
unfolding enumerated_spelling
greatest_number = refl

reject_spelled : apdu_spelling (Reject 4 9) ≡ 0x60 ∷ 0x04 ∷ 0x09 ∷ []
unfolding apdu_spelling
reject_spelled = refl

abort_of_a_server : apdu_spelling (Abort true 1 0) ≡ 0x71 ∷ 0x01 ∷ 0x00 ∷ []
unfolding apdu_spelling
abort_of_a_server = refl

abort_of_a_client : apdu_spelling (Abort false 0 0) ≡ 0x70 ∷ 0x00 ∷ 0x00 ∷ []
unfolding apdu_spelling
abort_of_a_client = refl

no_window_of_zero : apdu_fits (SegmentAck false 0 (record { nak = false; number = 0; window = 0 })) ≡ false
unfolding apdu_fits
no_window_of_zero = refl

no_window_above_127 : apdu_fits (ComplexAck 0 (Some (record { more = true; number = 0; window = 128 })) 12 []) ≡ false
unfolding apdu_fits
no_window_above_127 = refl

no_size_code_six : apdu_fits (ConfirmedRequest (record { takes_segments = true; max_segments = 0; max_apdu = 6 }) 0 None 12 []) ≡ false
unfolding apdu_fits
no_size_code_six = refl
