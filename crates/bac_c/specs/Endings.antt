-- How an ask ended, as a C program is told.
use Rattle.std.specs.Prelude.{ℕ, ℤ, pos, Bool, true, false, List, [], Option, Some, None}
use Rattle.bac_service.specs.Choices.{is_read_service}
use Rattle.bac_service.specs.Values.{reaches_end, service_answered, start_answered}
use Rattle.bac_service.specs.Values.{Complex}
use Rattle.bac_service.specs.Replies as reply
use Rattle.bac_transaction.specs.Meanings.{Ending, EndedView}
use Rattle.bac_c.specs.declared.records.End.{End}

abbrev told : (ticket how class code : ℕ) → (position : ℤ) → End
told ticket how class code position = record { ticket = ticket; how = how; class = class; code = code; position = position }

abbrev end_mark : Bool → ℕ
end_mark true = 1
end_mark false = 0

-- values came, or octets of a file from a position on, or a file was written
abbrev pub end_by : (ticket : ℕ) → (is_read is_end : Bool) → Option ℤ → End
end_by t is_read is_end None = told t 0 0 0 (pos 0)
end_by t true is_end (Some start) = told t 7 0 (end_mark is_end) start
end_by t false is_end (Some start) = told t 8 0 0 start

abbrev pub complex_end : (ticket : ℕ) → Complex → End
complex_end t c = end_by t (is_read_service (service_answered c)) (reaches_end c) (start_answered c)

abbrev pub reply_end : (ticket : ℕ) → reply.Reply → End
reply_end t (reply.Reply.Complex c) = complex_end t c
reply_end t reply.Reply.Simple = told t 1 0 0 (pos 0)
reply_end t (reply.Reply.Error class code) = told t 2 class code (pos 0)
reply_end t (reply.Reply.Reject reason) = told t 3 0 reason (pos 0)

abbrev ending_end : (ticket : ℕ) → Ending → End
ending_end t (Ending.Answered r) = reply_end t r
ending_end t (Ending.Rejected reason) = told t 3 0 reason (pos 0)
ending_end t (Ending.Aborted reason) = told t 4 0 reason (pos 0)
ending_end t Ending.TimedOut = told t 5 0 0 (pos 0)
ending_end t Ending.Expired = told t 6 0 0 (pos 0)

abbrev pub end_of : EndedView → End
end_of f = ending_end f.ticket f.how

-- the octets of values or of a file that came
abbrev octets_in : Ending → List ℕ
octets_in (Ending.Answered r) = reply.held_by r
octets_in _ = []

abbrev pub octets_of : EndedView → List ℕ
octets_of f = octets_in f.how
