-- How the value of a client's slot ages: what it is before its timer is due, and that it keeps the moment of its first sending.
use Rattle.std.proofs.Common.{◌≡◌, ℕ, ◌+◌, ◌-◌, ◌<◌, ◌≤◌, Bool, true, false, nat_lt, nat_le, if◌then◌else◌, [], refl, ap, ◌∙◌, arith}
use Rattle.std.proofs.lemmas.Bool.Decides.{nat_tests}
use Rattle.bac_protocol.specs.declared.times.TheConstants.{T_SEG, T_OUT, T_WAIT_FOR_SEG, DEADLINE, HOLD}
use Rattle.bac_protocol.specs.Context.{Context}
use Rattle.bac_protocol.specs.Service.Ending.{Expired}
use Rattle.bac_protocol.specs.Client.{Ask, ClientTransaction, Phase, Reaction, after, asked_ticket, asks, client_ticks, ending_of, is_expired, is_idle, new_ticket}
use Rattle.bac_protocol.specs.Client.{open_ticks, sends_of}
use Rattle.bac_protocol.specs.Client.Reaction.{Stays, GoesOn, Repeats, Ends}
use Rattle.bac_npdu.specs.Peers.{PeerView}
use Rattle.bac_transaction.specs.Ends.{Client, TransactionSlot, client_after, context_of, ended_with, held_tick_ends, held_tick_sends, held_ticked, is_held, kept, open_unless}
use Rattle.bac_transaction.specs.Sends.{to_all}
use Rattle.bac_transaction.specs.Views.{peer_key_view, settings_view}
use Rattle.bac_transaction.specs.declared.peer_key.PeerKey.{PeerKey}
use Rattle.bac_transaction.specs.declared.settings.Settings.{Settings}
use Rattle.bac_requester.specs.Timers.{IsHeldQuiet, IsQuiet, wait_of}
use Rattle.bac_requester.specs.Aging.{IsClientQuiet, began, first_of, value_ticked}

-- What was first sent less than its time ago is held.
pub young_held : (now : ℕ) (v : Client) → now - (HOLD + 1) < began v → is_held now v.held ≡ true
young_held now v late = go v.held late
  where
    go : (held : TransactionSlot) → now - (HOLD + 1) < first_of held → is_held now held ≡ true
    go (TransactionSlot.Open t) late = refl
    go (TransactionSlot.Closed first) late = grind (arith, nat_tests)

-- A moment that is earlier does as well.
pub quiet_earlier : (from due sooner : ℕ) (v : Client) → sooner ≤ due → IsClientQuiet from due v → IsClientQuiet from sooner v
quiet_earlier from due sooner v le q = go v.held q
  where
    go : (held : TransactionSlot) → IsHeldQuiet due held → IsHeldQuiet sooner held
    go (TransactionSlot.Open t) q = record { unended = q.unended; deadline = omega (arith, le, q.deadline); timer = omega (arith, le, q.timer) }
    go (TransactionSlot.Closed first) q = tt

-- A tick before that moment.
module _ (c : Context) (due : ℕ) (before : c.now < due) where
  waits : (t : ClientTransaction) (p : Phase) → is_idle p ≡ false → due ≤ t.since + wait_of p → open_ticks c t p ≡ Stays
  waits t (Phase.SegmentedRequest out all_sent) unended timer = let no : nat_le T_SEG (c.now - t.since) ≡ false = grind (arith, nat_tests) in rw no refl
  waits t Phase.AwaitConfirmation unended timer = let no : nat_le T_OUT (c.now - t.since) ≡ false = grind (arith, nat_tests) in rw no refl
  waits t (Phase.SegmentedConf inc) unended timer = let no : nat_le T_WAIT_FOR_SEG (c.now - t.since) ≡ false = grind (arith, nat_tests) in rw no refl
  waits t Phase.Idle unended timer = absurd cc

  stays : (t : ClientTransaction) → IsQuiet due t → client_ticks c t ≡ Stays
  stays t q =
      let deadline = q.deadline in
      let in_time : nat_lt DEADLINE (c.now - t.ask.first) ≡ false = grind (arith, nat_tests) in
      ap (λ b. if b then Stays else (if is_expired c.now t.ask then Ends [] Expired else open_ticks c t t.phase)) q.unended
      ∙ ap (λ b. if b then Ends [] Expired else open_ticks c t t.phase) in_time ∙ waits t t.phase q.unended q.timer

  pub held_stays : (number : ℕ) (h : TransactionSlot) → IsHeldQuiet due h → held_ticked c number h ≡ record { number = number; held = h }
  held_stays number (TransactionSlot.Open t) q =
      ap (λ r. client_after c.now number t r) (stays t q) ∙ ap (λ b. let v : Client = record { number = number; held = open_unless b t } in v) q.unended
  held_stays number (TransactionSlot.Closed first) q = refl

  pub held_sends : (peer : PeerView) (h : TransactionSlot) → IsHeldQuiet due h → held_tick_sends c peer h ≡ []
  held_sends peer (TransactionSlot.Open t) q = ap (λ r. to_all peer (sends_of r)) (stays t q)
  held_sends peer (TransactionSlot.Closed first) q = refl

  pub held_ends : (number : ℕ) (h : TransactionSlot) → IsHeldQuiet due h → held_tick_ends c number h ≡ []
  held_ends number (TransactionSlot.Open t) q = ap (λ r. ended_with number t.ask.choice (ending_of r)) (stays t q)
  held_ends number (TransactionSlot.Closed first) q = refl

-- What goes on keeps the moment of its first sending.

pub kept_first : (t : ClientTransaction) → first_of (kept t) ≡ t.ask.first
kept_first t = go (is_idle t.phase)
  where
    go : (b : Bool) → first_of (open_unless b t) ≡ t.ask.first
    go true = refl
    go false = refl

pub after_first : (now : ℕ) (t : ClientTransaction) (r : Reaction) → (after now t r).ask.first ≡ t.ask.first
after_first now t Stays = refl
after_first now t (GoesOn phase sends) = refl
after_first now t (Repeats phase sends) = refl
after_first now t (Ends sends how) = refl

pub next_first : (now : ℕ) (t : ClientTransaction) (r : Reaction) → first_of (kept (after now t r)) ≡ t.ask.first
next_first now t r = kept_first (after now t r) ∙ after_first now t r

pub asked_first : (c : Context) (ask : Ask) → (asked_ticket c ask).ask.first ≡ ask.first
asked_first c ask = after_first c.now (new_ticket c.now ask) (asks c ask)

held_first : (c : Context) (number : ℕ) (held : TransactionSlot) → first_of (held_ticked c number held).held ≡ first_of held
held_first c number (TransactionSlot.Closed first) = refl
held_first c number (TransactionSlot.Open t) = next_first c.now t (client_ticks c t)

-- The laws of ticks.

pub rests : (c : Settings) (now from due : ℕ) (key : PeerKey) (v : Client) → from ≤ now → now < due → IsClientQuiet from due v → value_ticked c now key v ≡ v
rests c now from due key v started before q = held_stays (context_of (settings_view c) now (peer_key_view key)) due before v.number v.held q

pub begins : (c : Settings) (now : ℕ) (key : PeerKey) (v : Client) → began (value_ticked c now key v) ≡ began v
begins c now key v = held_first (context_of (settings_view c) now (peer_key_view key)) v.number v.held
