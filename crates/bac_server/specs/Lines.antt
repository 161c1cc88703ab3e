-- The lines of a turn.
use Rattle.std.specs.Prelude.{◌≡◌, ◌==◌, ℕ, ◌+◌, ◌-◌, ◌≤◌, ◌<◌, min, nat_le, nat_lt, count_by, Bool, true, false, ◌&&◌, ◌||◌, not, List, [], ◌∷◌, ◌++◌, codes, length, take}
use Rattle.std.specs.Prelude.{Option, Some, None, if◌then◌else◌}
use Rattle.std.specs.Option.{option_map}
use Rattle.bac_driver.specs.Nodes.{Octets}
use Rattle.bac_protocol.specs.Own.{invoke_id_of}
use Rattle.bac_apdu.specs.Apdu.{Abort, Apdu, UnconfirmedRequest}
use Rattle.bac_npdu.specs.Npdu.{NpduView}
use Rattle.bac_npdu.specs.Peers.{PeerView}
use Rattle.bac_transaction.specs.Ends.{ServerEnd, is_slot_live}
use Rattle.bac_transaction.specs.Sends.{Datagram}
use Rattle.bac_transaction.specs.Sharing.{address_of, has_share}
use Rattle.bac_world.specs.Node.{Cause}
use Rattle.bac_world.specs.Services.{Performed}
use Rattle.bac_requester.specs.Timers.{LAST_MOMENT}
use Rattle.bac_driver.specs.Seen.{Seen}
use Rattle.bac_driver.specs.Turns.{Turn, dropped_of, performed_of, sends_of, skipped_in}
use Rattle.bac_log_json.specs.Logs.{Dropped, Heard, LogEvent, NotDone, NotSent, SentAgain, TableFull}
use Rattle.bac_service.specs.Replies.{Reply}
use Rattle.bac_service.specs.Values.{Request}
use Rattle.bac_server.specs.EventTexts.{IsEventText, IsTextWhere}
use Rattle.bac_server.specs.Frames.{apdu_in, contents_of, npdu_in}
use Rattle.bac_server.specs.LogWords.{AreAskingWords, AreDoneWords, cause_words}
use Rattle.bac_server.specs.declared.log_settings.LogFormat.{LogFormat}
use Rattle.bac_server.specs.declared.log_settings.LogSettings.{LogSettings}

-- ---- a datagram

-- why a request is turned away: the server restarted, and serves from a moment on, or each slot of the reply table is live
abbrev pub is_full : (now : ℕ) → ServerEnd → Bool
is_full now e = nat_le e.capacity (count_by (is_slot_live now) e.slots)

-- no slot is free for a peer at that link: each is live, or slots are shared and its IP address has no share
abbrev pub is_full_for : (shares : Bool) → (now : ℕ) → (link : Octets) → ServerEnd → Bool
is_full_for shares now link e = is_full now e || (shares && not (has_share now (address_of link) e))

-- the same of the sender of what came, if anything did
abbrev pub is_full_to : (shares : Bool) → (now : ℕ) → Option (Octets × ℕ) → ServerEnd → Bool
is_full_to shares now None e = is_full now e
is_full_to shares now (Some d) e = is_full_for shares now d.0 e

abbrev pub away_words : LogSettings → Turn → ServerEnd → List ℕ
away_words settings turn e =
    if nat_lt turn.at settings.serves_from then codes ", restarted"
    else (if is_full_to settings.shares turn.at turn.received e then codes ", table full" else [])

-- an Unconfirmed-Request has no invoke ID
abbrev pub id_of : Apdu → Option ℕ
id_of (UnconfirmedRequest choice service) = None
id_of a = Some (invoke_id_of a)

abbrev pub request_and_reply : Performed → Request × Reply
request_and_reply p = (p.request, p.reply)

-- what came, what was performed for it, and what was done
pub record IsHeardText (f : LogFormat) (away : List ℕ) (turn : Turn) (peer : PeerView) (a : Apdu) (text : List ℕ) : Type 0 where
  pub asking : List ℕ
  pub are_asking : AreAskingWords (performed_of turn.heard) a asking
  pub done : List ℕ
  pub are_done : AreDoneWords away (performed_of turn.heard) (sends_of turn.heard) done
  pub is : IsEventText f turn.at (Heard peer (id_of a) (option_map request_and_reply (performed_of turn.heard)) asking done) text

abbrev pub IsApduText : LogFormat → (away : List ℕ) → Turn → PeerView → Option Apdu → List ℕ → Type 0
IsApduText f away turn peer None text = text ≡ []
IsApduText f away turn peer (Some a) text = IsHeardText f away turn peer a text

-- the sender is the link, or stands behind it
abbrev pub IsNpduText : LogFormat → (away : List ℕ) → Turn → (from : Octets) → Option NpduView → List ℕ → Type 0
IsNpduText f away turn from None text = text ≡ []
IsNpduText f away turn from (Some n) text = IsApduText f away turn (record { link = from; route = n.source }) (contents_of (Some n)) text

-- a datagram is dropped, or heard
abbrev pub IsCameText : LogFormat → (away : List ℕ) → Turn → (from octets : Octets) → Option Cause → List ℕ → Type 0
IsCameText f away turn from octets (Some cause) text = IsEventText f turn.at (Dropped from (cause_words cause)) text
IsCameText f away turn from octets None text = IsNpduText f away turn from (npdu_in octets) text

-- where one came
abbrev pub IsReceivedText : LogFormat → (away : List ℕ) → Turn → (buffer : Octets) → Option (Octets × ℕ) → List ℕ → Type 0
IsReceivedText f away turn buffer None text = text ≡ []
IsReceivedText f away turn buffer (Some d) text = IsCameText f away turn d.0 (take d.1 buffer) (dropped_of turn.heard) text

-- ---- what else a turn gave

-- so many datagrams or steps, where there are any
abbrev pub IsCountText : LogFormat → (at count : ℕ) → LogEvent → List ℕ → Type 0
IsCountText f at count event text = IsTextWhere (not (count == 0)) f at event text

pub record IsRestText (f : LogFormat) (turn : Turn) (text : List ℕ) : Type 0 where
  pub again : List ℕ
  pub is_again : IsCountText f turn.at (length (sends_of turn.ticked)) (SentAgain (length (sends_of turn.ticked))) again
  pub lost : List ℕ
  pub is_lost : IsCountText f turn.at turn.lost (NotSent turn.lost) lost
  pub undone : List ℕ
  pub is_undone : IsCountText f turn.at (skipped_in turn) (NotDone (skipped_in turn)) undone
  pub is : text ≡ (again ++ lost) ++ undone

-- ---- all of a turn, of a server that serves from a moment on

pub record AreTurnLines (settings : LogSettings) (s : Seen) (text : List ℕ) : Type 0 where
  pub came : List ℕ
  pub is_came : IsReceivedText settings.format (away_words settings s.turn s.node.servers) s.turn s.buffer s.turn.received came
  pub rest : List ℕ
  pub is_rest : IsRestText settings.format s.turn rest
  pub is : text ≡ came ++ rest

-- ---- requests that are turned away since the table is full

-- an Abort of reason 0
abbrev pub is_refusal : Option Apdu → Bool
is_refusal (Some (Abort server invoke_id reason)) = reason == 0
is_refusal _ = false

-- nothing was performed, and the first datagram that was sent is one
abbrev pub is_refused : Option Performed → List Datagram → Bool
is_refused (Some p) sends = false
is_refused None [] = false
is_refused None (d ∷ ds) = is_refusal (apdu_in d.octets)

-- the line of what came says that the table is full, for its sender at least
abbrev pub is_turned_away : LogSettings → Turn → ServerEnd → Bool
is_turned_away settings turn e =
    is_refused (performed_of turn.heard) (sends_of turn.heard) && (nat_le settings.serves_from turn.at && is_full_to settings.shares turn.at turn.received e)

-- how many were turned away, with that of a turn; the count stays at its last value
abbrev pub counts_away : (is_one : Bool) → (away : ℕ) → ℕ
counts_away is_one away = if is_one then min (away + 1) 18446744073709551615 else away

-- whether it is said: some were turned away, and no line has said so for a second
abbrev pub is_said : (at away : ℕ) → (said : Option ℕ) → Bool
is_said at away None = not (away == 0)
is_said at away (Some last) = not (away == 0) && nat_le 1000 (at - last)

-- the first moment from now on at which not each slot is live
pub record IsNextFree (now : ℕ) (e : ServerEnd) (next : ℕ) : Type 0 where
  pub from : now ≤ next
  pub full : (moment : ℕ) → now ≤ moment → moment < next → e.capacity ≤ count_by (is_slot_live moment) e.slots
  pub free : next < LAST_MOMENT → count_by (is_slot_live next) e.slots < e.capacity

-- how many were turned away, and in how many milliseconds a slot gets free
pub record IsFullLine (f : LogFormat) (at away : ℕ) (e : ServerEnd) (text : List ℕ) : Type 0 where
  pub next : ℕ
  pub is_next : IsNextFree at e next
  pub is : IsEventText f at (TableFull away (next - at)) text

-- if it is said
abbrev pub IsFullText : (says : Bool) → LogFormat → (at away : ℕ) → ServerEnd → List ℕ → Type 0
IsFullText true f at away e text = IsFullLine f at away e text
IsFullText false f at away e text = text ≡ []

-- the lines of a turn, and then how many were turned away so far
pub record AreLogLines (settings : LogSettings) (s : Seen) (away : ℕ) (said : Option ℕ) (text : List ℕ) : Type 0 where
  pub lines : List ℕ
  pub are : AreTurnLines settings s lines
  pub full : List ℕ
  pub is_full_text : IsFullText (is_said s.turn.at away said) settings.format s.turn.at away s.node.servers full
  pub is : text ≡ lines ++ full
