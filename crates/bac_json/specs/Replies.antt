-- Replies as JSON.
use Rattle.std.specs.Prelude.{◌≡◌, ℕ, codes}
use Rattle.bac_service.specs.Values.{complex_name, members_answered}
use Rattle.bac_service.specs.Replies as plain
use Rattle.bac_service.specs.Values.{Complex}
use Rattle.serde_json.specs.Data.{Data, member, no_members, null, number, object, unsigned}
use Rattle.bac_json.specs.Named.{IsNamedForm}

-- the service data of a ComplexACK
abbrev pub IsComplexForm : Complex → Data → Type 0
IsComplexForm c d = IsNamedForm (complex_name c) (members_answered c) d

-- ---- replies

abbrev pub error_form : (class code : ℕ) → Data
error_form class code = object (member (codes "class") (number (unsigned class)) (member (codes "code") (number (unsigned code)) no_members))

abbrev pub reason_form : (reason : ℕ) → Data
reason_form reason = object (member (codes "reason") (number (unsigned reason)) no_members)

-- what a reply says
abbrev pub IsReplyForm : plain.Reply → Data → Type 0
IsReplyForm plain.Reply.Simple d = d ≡ null
IsReplyForm (plain.Reply.Complex c) d = IsComplexForm c d
IsReplyForm (plain.Reply.Error class code) d = d ≡ error_form class code
IsReplyForm (plain.Reply.Reject reason) d = d ≡ reason_form reason
