-- What came of the events of a script, as objects of JSON: each tells what a line of text does, at a moment of the run in milliseconds.
use Rattle.std.specs.Prelude.{◌≡◌, ℕ, ℤ, pos, ◌-ℤ◌, List, slice_get, Option, Some, None}
use Rattle.bac_commands.specs.Words.{AreEndingWords}
use Rattle.bac_json_report.specs.Lines.{IsLineOf}
use Rattle.bac_log_json.specs.Events as object
use Rattle.bac_log_json.specs.Events.{EventKind, IsEventForm}
use Rattle.bac_service.specs.Replies.{Reply}
use Rattle.bac_service_text.specs.Answers.{AreReplyWords}
use Rattle.bac_transaction.specs.Meanings.{Ending}
use Rattle.bac_world.specs.Once.{Fact}
use Rattle.bac_world.specs.Once.Fact.{Asked, Performed, Ended, Changed, Restarted, Served, AskedAway, EndedAway}
use Rattle.bac_world.specs.World.{Copy, Note}

abbrev pub IsObject : (moment : ℕ) → EventKind → List ℕ → Type 0
IsObject moment kind text = IsLineOf (IsEventForm (record { line = None; moment = Some moment; kind = kind })) text

-- the invoke ID of an ask, where it is noted
abbrev pub id_in : Option Note → Option ℕ
id_in None = None
id_in (Some note) = Some note.key.invoke_id

abbrev pub id_of : List Note → (ask : ℕ) → Option ℕ
id_of notes ask = id_in (slice_get notes ask)

-- with a reply, or how an ask ended, in words
pub record IsToldReply (kind_of : List ℕ → EventKind) (moment : ℕ) (r : Reply) (text : List ℕ) : Type 0 where
  pub words : List ℕ
  pub are : AreReplyWords r words
  pub is : IsObject moment (kind_of words) text

pub record IsToldEnd (moment ask : ℕ) (how : Ending) (text : List ℕ) : Type 0 where
  pub words : List ℕ
  pub are : AreEndingWords how words
  pub is : IsObject moment (object.Ended ask words) text

abbrev pub IsFactObject : List Note → (moment : ℕ) → Fact → List ℕ → Type 0
IsFactObject notes moment (Asked ask client server request) text = IsObject moment (object.Asked ask (id_of notes ask)) text
IsFactObject notes moment (Performed ask request reply) text = IsToldReply (λ words. object.Performed ask words) moment reply text
IsFactObject notes moment (Ended ask how) text = IsToldEnd moment ask how text
IsFactObject notes moment (Changed node change) text = IsObject moment (object.Changed node) text
IsFactObject notes moment (Restarted node store) text = IsObject moment (object.Restarted node) text
IsFactObject notes moment (Served peer node invoke_id begin request reply) text =
    IsToldReply (λ words. object.Served node peer words) moment reply text
IsFactObject notes moment (AskedAway ask client peer request) text = IsObject moment (object.AskedAway ask peer) text
IsFactObject notes moment (EndedAway ask how) text = IsToldEnd moment ask how text

abbrev pub sent_kind : (number : ℕ) → Copy → EventKind
sent_kind number c = object.Sent number c.from c.to c.octets

-- by how many parts in a million a clock is fast, or slow after a minus
abbrev pub pace_of : (rate : ℕ) → ℤ
pace_of rate = pos rate -ℤ pos 1000000

-- the fault that ends a script at a line
abbrev pub IsEndObject : (line fault : ℕ) → (why : List ℕ) → List ℕ → Type 0
IsEndObject line fault why text = IsLineOf (IsEventForm (record { line = Some line; moment = None; kind = object.Fault fault why })) text
