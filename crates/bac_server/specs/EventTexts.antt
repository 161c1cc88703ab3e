-- The line of a log for an event at a moment: in words, or as an object of JSON.
use Rattle.std.specs.Prelude.{◌≡◌, ◌+◌, ◌==◌, ℕ, List, [], ◌++◌, codes, decimal, min, Option, Some, None, Bool, true, false, if◌then◌else◌}
use Rattle.bac_driver.specs.Waits.{MOST}
use Rattle.bac_json_report.specs.Lines.{IsLineOf}
use Rattle.bac_log_json.specs.Logs.{Document, Dropped, Heard, IsLogForm, LogEvent, NotDone, NotSent, SentAgain, Started, TableFull}
use Rattle.bac_npdu.specs.Peers.{PeerView}
use Rattle.bac_text.specs.Peers.{link_text, peer_text}
use Rattle.bac_text.specs.Texts.{line_end}
use Rattle.bac_server.specs.declared.log_settings.LogFormat.{LogFormat}
use Rattle.bac_server.specs.declared.log_settings.LogFormat.TheVariants as format

-- ---- in words

abbrev pub id_text : (id : Option ℕ) → List ℕ
id_text None = []
id_text (Some id) = codes " id " ++ decimal id

abbrev pub away_text : (away : ℕ) → List ℕ
away_text away = if away == 1 then codes " request turned away" else codes " requests turned away"

-- how many were turned away since the table was full, and in how many milliseconds a slot gets free
abbrev pub full_line : (at away wait : ℕ) → List ℕ
full_line at away wait =
    decimal at ++ (codes " table full: " ++ (decimal away ++ (away_text away ++ (codes ", next slot free in " ++ (decimal wait ++ codes " ms\n")))))

-- so many datagrams or steps
abbrev pub count_line : (at : ℕ) → (front : List ℕ) → (count : ℕ) → (name : List ℕ) → List ℕ
count_line at front count name = decimal at ++ (codes " " ++ (front ++ (decimal count ++ (name ++ codes "\n"))))

-- a moment, in milliseconds, and the other end
abbrev pub head_text : (at : ℕ) → PeerView → (id : Option ℕ) → List ℕ
head_text at peer id = decimal at ++ (codes " " ++ (peer_text peer ++ (id_text id ++ codes " ")))

abbrev pub event_line : (at : ℕ) → LogEvent → List ℕ
event_line at (Heard peer id performed what done) = (((head_text at peer id ++ what) ++ codes ": ") ++ done) ++ line_end
event_line at (Dropped link why) = decimal at ++ (codes " " ++ (link_text link ++ (codes " dropped: " ++ (why ++ codes "\n"))))
event_line at (SentAgain count) = count_line at (codes "timer: ") count (codes " sent again")
event_line at (NotSent count) = count_line at (codes "link: ") count (codes " not sent")
event_line at (NotDone count) = count_line at (codes "no memory: ") count (codes " not done")
event_line at (TableFull away wait) = full_line at away wait
event_line at (Document part words) = ((decimal at ++ codes " document ") ++ words) ++ line_end
event_line at (Started words) = words ++ line_end

-- ---- in either form

-- the time of day at a moment, by that at moment 0, in milliseconds
abbrev pub time_at : (epoch : Option ℕ) → (at : ℕ) → Option ℕ
time_at None at = None
time_at (Some epoch) at = Some (min (epoch + at) MOST)

abbrev pub IsEventText : LogFormat → (at : ℕ) → LogEvent → List ℕ → Type 0
IsEventText format.Lines at event text = text ≡ event_line at event
IsEventText (format.Objects epoch) at event text = IsLineOf (IsLogForm (record { time = time_at epoch at; moment = at; event = event })) text

-- where there is something to tell
abbrev pub IsTextWhere : (is_told : Bool) → LogFormat → (at : ℕ) → LogEvent → List ℕ → Type 0
IsTextWhere true f at event text = IsEventText f at event text
IsTextWhere false f at event text = text ≡ []
