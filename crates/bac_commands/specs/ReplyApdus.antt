-- The APDU that carries a reply (clauses 20.1.4, 20.1.5, 20.1.7 and 20.1.8).
use Rattle.std.specs.Prelude.{ℕ, ◌≤◌, length, None}
use Rattle.bac_apdu.specs.Apdu.{Apdu, SimpleAck, ComplexAck}
use Rattle.bac_apdu.specs.Apdu as apdu
use Rattle.bac_service.specs.Replies.{Reply}
use Rattle.bac_service.specs.Replies.Reply.{Simple, Complex, Error, Reject}
use Rattle.bac_service.specs.Spellings.{complex_spelling}

-- to a request with this invoke ID and service choice, where one APDU is enough
abbrev pub reply_apdu : (invoke_id choice : ℕ) → Reply → Apdu
reply_apdu invoke_id choice Simple = SimpleAck invoke_id choice
reply_apdu invoke_id choice (Complex c) = ComplexAck invoke_id None choice (complex_spelling c)
reply_apdu invoke_id choice (Error class code) = apdu.Apdu.Error invoke_id choice class code
reply_apdu invoke_id choice (Reject reason) = apdu.Apdu.Reject invoke_id reason

-- its service data fit the least size of an APDU, 50 octets, after the three in front of them
abbrev pub IsShort : Reply → Type 0
IsShort Simple = Unit {0}
IsShort (Complex c) = length (complex_spelling c) ≤ 47
IsShort (Error class code) = Unit {0}
IsShort (Reject reason) = Unit {0}
