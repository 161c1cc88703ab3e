-- The lengths of replies in octets of service data.
use Rattle.std.specs.Prelude.{ℕ}
use Rattle.bac_service.specs.Replies.{complex_length, Reply}
use Rattle.bac_service.specs.Replies.Reply.{Simple, Complex, Error, Reject}

-- the greatest length of service data that can be sent, in one APDU or in segments (own limit of this profile): a law of bac_transaction states
-- that it is the limit of a segmented transfer
abbrev pub DATA_LIMIT : ℕ
DATA_LIMIT = 65535

abbrev pub reply_length : Reply → ℕ
reply_length Simple = 0
reply_length (Complex c) = complex_length c
reply_length (Error class code) = 0
reply_length (Reject reason) = 0
