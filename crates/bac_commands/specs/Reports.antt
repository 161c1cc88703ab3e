-- What commands print of nodes on links, and their statuses.
use Rattle.std.specs.Prelude.{ℕ, Bool, true, false, List, ◌++◌, ◌&&◌, ◌||◌, not, is_some, codes, decimal, Option, Some, None}
use Rattle.std.specs.Io.KnownBytes.{Appends}
use Rattle.bac_service.specs.Values.{Request}
use Rattle.bac_service.specs.Replies.{Reply}
use Rattle.bac_transaction.specs.Meanings.{Ending}
use Rattle.bac_transaction.specs.Meanings.Ending.{Answered, Rejected, Aborted, TimedOut, Expired}
use Rattle.bac_requester.specs.Faults.{ask_fault_number}
use Rattle.bac_requester.specs.TransactionViews.{ending_view}
use Rattle.bac_text.specs.Texts.{line_end}
use Rattle.bac_text.specs.declared.status.Status.{Status}
use Rattle.bac_driver.specs.Runs.{Timed}
use Rattle.bac_driver.specs.Seen.{Watcher, Watches}
use Rattle.bac_driver.specs.Serving.{Serves}
use Rattle.bac_driver.specs.declared.wait_limit.WaitLimit.{WaitLimit}
use Rattle.bac_driver.specs.declared.question.AskEnd.{AskEnd}
use Rattle.bac_driver.specs.declared.question.AskEnd.TheVariants as end
use Rattle.bac_commands.specs.Facts.{ending_line, refused_line}
use Rattle.bac_service_text.specs.Asked.{names_other}
use Rattle.bac_commands.specs.Statuses.{ByStatus}

-- ---- serving

abbrev pub served_line : (effects : ℕ) → List ℕ
served_line effects = codes "served " ++ decimal effects ++ line_end

-- a node took so many turns, or as many as it had time for, and how many requests it performed was printed
pub record ServedText (p : WaitLimit) (turns : ℕ) (before after : Timed) (old new : Option (List ℕ)) : Type 0 where
  pub effects : ℕ
  pub serves : Serves p turns effects before after
  pub printed : Appends old new (served_line effects)

abbrev pub ReportsServing : Status → WaitLimit → (turns : ℕ) → (before after : Timed) → (old new : Option (List ℕ)) → Type 0
ReportsServing s p turns before after old new = ByStatus s (ServedText p turns before after old new) ⊥ ⊥

-- the watcher saw each turn
pub record WatchedServing {S : Type 0} (Sees : Watcher S) (p : WaitLimit) (turns : ℕ) (before after : Timed) (from to : S) : Type 0 where
  pub effects : ℕ
  pub watches : Watches Sees p from to turns effects before after

abbrev pub ServingIsWatched : {S : Type 0} → Status → Watcher S → WaitLimit → (turns : ℕ) → (before after : Timed) → (from to : S) → Type 0
ServingIsWatched s Sees p turns before after from to = ByStatus s (WatchedServing Sees p turns before after from to) ⊥ ⊥

-- ---- asking

-- how asking ended: how the ticket did, or the number of the fault
abbrev pub end_line : AskEnd → List ℕ
end_line (end.Ended how) = ending_line (ending_view how)
end_line (end.Refused why) = refused_line (ask_fault_number why)
end_line end.NoEnding = codes "no ending" ++ line_end

abbrev pub reply_of_ending : Ending → Option Reply
reply_of_ending (Answered reply) = Some reply
reply_of_ending (Rejected reason) = None
reply_of_ending (Aborted reason) = None
reply_of_ending TimedOut = None
reply_of_ending Expired = None

-- the reply that came, if one did
abbrev pub reply_of : AskEnd → Option Reply
reply_of (end.Ended how) = reply_of_ending (ending_view how)
reply_of (end.Refused why) = None
reply_of end.NoEnding = None

abbrev pub is_answered : AskEnd → Bool
is_answered end = is_some (reply_of end)

abbrev pub is_error : Reply → Bool
is_error Reply.Simple = false
is_error (Reply.Complex complex) = false
is_error (Reply.Error class code) = true
is_error (Reply.Reject reason) = false

-- an ask with that reply succeeded: where it is strict, by no Error and by none that names another property than was asked for
abbrev pub is_success_by : (strict : Bool) → Request → Option Reply → Bool
is_success_by strict request None = false
is_success_by strict request (Some reply) = not (strict && (is_error reply || names_other request reply))

abbrev pub is_success : (strict : Bool) → Request → AskEnd → Bool
is_success strict request end = is_success_by strict request (reply_of end)
