-- How entries age: what they are before their timers are due, and that they keep the moment at which they began.
use Rattle.std.proofs.Common.{◌≡◌, ℕ, ◌+◌, ◌-◌, ◌<◌, ◌≤◌, Bool, true, false, nat_le, if◌then◌else◌, [], Option, Some, None, inl, inr, refl, ap, sym, ◌∙◌, arith}
use Rattle.std.proofs.lemmas.Bool.Decides.{nat_tests}
use Rattle.bac_protocol.specs.declared.times.TheConstants.{T_SEG, T_WAIT_FOR_SEG, KEEP}
use Rattle.bac_protocol.specs.Context.{Context}
use Rattle.bac_segment.specs.Window.{Outgoing, again}
use Rattle.bac_protocol.specs.Server.{ServerTransaction, State, Transfer, is_live, live_ticks, rests, sends_reply_again, server_ticks}
use Rattle.bac_protocol.specs.Steps.{StaysIn}
use Rattle.bac_protocol.proofs.Served.{live_stays_law}
use Rattle.bac_transaction.specs.Ends.{context_of, entry_or}
use Rattle.bac_transaction.specs.Views.{peer_key_view, settings_view}
use Rattle.bac_transaction.specs.declared.peer_key.PeerKey.{PeerKey}
use Rattle.bac_transaction.specs.declared.settings.Settings.{Settings}
use Rattle.bac_responder.specs.Timers.{IsQuiet, IsStateQuiet, LAST_MOMENT, state_due}
use Rattle.bac_responder.specs.Aging.{began, entry_ticked}

-- An entry that began less than its life ago is live.
pub young_live : (now : ℕ) (v : ServerTransaction) → now - (KEEP + 1) < began v → is_live now v ≡ true
young_live now v late = young v.begin late
  where
    young : (begin : ℕ) → now - (KEEP + 1) < begin → nat_le (now - begin) KEEP ≡ true
    young begin late = grind (arith, nat_tests)

-- A moment that is earlier does as well.

state_earlier : (due sooner : ℕ) (s : State) → sooner ≤ due → IsStateQuiet due s → IsStateQuiet sooner s
state_earlier due sooner (State.SegmentedRequest inc since) le q = omega (arith, le, q)
state_earlier due sooner (State.Done kept) le q = tt
state_earlier due sooner (State.SegmentedResponse out Transfer.Running since) le q = omega (arith, le, q)
state_earlier due sooner (State.SegmentedResponse out Transfer.Stopped since) le q = tt
state_earlier due sooner (State.SegmentedResponse out Transfer.Finished since) le q = tt
state_earlier due sooner State.Dropped le q = tt

pub quiet_earlier : (from due sooner : ℕ) (v : ServerTransaction) → sooner ≤ due → IsQuiet from due v → IsQuiet from sooner v
quiet_earlier from due sooner v le (inl dead) = inl dead
quiet_earlier from due sooner v le (inr (inl late)) = inr (inl late)
quiet_earlier from due sooner v le (inr (inr quiet)) = inr (inr (state_earlier due sooner v.state le quiet))

-- before its own timer is due a state is quiet
own_due : (s : State) → IsStateQuiet (state_due s) s
own_due (State.SegmentedRequest inc since) = omega arith
own_due (State.Done kept) = tt
own_due (State.SegmentedResponse out Transfer.Running since) = omega arith
own_due (State.SegmentedResponse out Transfer.Stopped since) = tt
own_due (State.SegmentedResponse out Transfer.Finished since) = tt
own_due State.Dropped = tt

module _ (c : Context) where
  -- A tick between those moments.
  state_stays : (due : ℕ) → c.now < due → (x : ServerTransaction) (s : State) → IsStateQuiet due s → live_ticks c x s ≡ rests (Some x) []
  state_stays due before x (State.SegmentedRequest inc since) q = let no : nat_le T_WAIT_FOR_SEG (c.now - since) ≡ false = grind (arith, nat_tests) in rw no refl
  state_stays due before x (State.Done kept) q = refl
  state_stays due before x (State.SegmentedResponse out Transfer.Running since) q =
      let no : nat_le T_SEG (c.now - since) ≡ false = grind (arith, nat_tests) in rw no refl
  state_stays due before x (State.SegmentedResponse out Transfer.Stopped since) q = refl
  state_stays due before x (State.SegmentedResponse out Transfer.Finished since) q = refl
  state_stays due before x State.Dropped q = refl

  pub stays : (from due : ℕ) → from ≤ c.now → c.now < due → (x : ServerTransaction) → IsQuiet from due x → server_ticks c (Some x) ≡ rests (Some x) []
  stays from due started before x (inl dead) =
      let no : nat_le (c.now - x.begin) KEEP ≡ false = grind (arith, nat_tests) in
      ap (λ b. if b then live_ticks c x x.state else rests (Some x) []) no
  stays from due started before x (inr (inl late)) = go (is_live c.now x) refl
    where
      go : (b : Bool) → is_live c.now x ≡ b → (if b then live_ticks c x x.state else rests (Some x) []) ≡ rests (Some x) []
      go true live = let soon : c.now < state_due x.state = grind (arith, nat_tests) in state_stays (state_due x.state) soon x x.state (own_due x.state)
      go false dead = refl
  stays from due started before x (inr (inr quiet)) = go (is_live c.now x)
    where
      go : (b : Bool) → (if b then live_ticks c x x.state else rests (Some x) []) ≡ rests (Some x) []
      go true = state_stays due before x x.state quiet
      go false = refl

  -- A tick when the timer is due.
  state_moves : (x : ServerTransaction) (s : State) → state_due s ≤ c.now → state_due s < LAST_MOMENT → (entry_or x (live_ticks c x s).entry).state ≡ s → ⊥
  state_moves x (State.SegmentedRequest inc since) due within =
      let yes : nat_le T_WAIT_FOR_SEG (c.now - since) ≡ true = grind (arith, nat_tests) in rw yes (λ e. absurd cc)
  state_moves x (State.Done kept) due within = absurd (omega (arith, within))
  state_moves x (State.SegmentedResponse out Transfer.Running since) due within =
      let yes : nat_le T_SEG (c.now - since) ≡ true = grind (arith, nat_tests) in rw yes (go (again out))
    where
      later : since + T_SEG ≤ c.now
      later = omega (arith, due, within)

      go : (o : Option Outgoing) → (entry_or x (sends_reply_again c x out since o).entry).state ≡ State.SegmentedResponse out Transfer.Running since → ⊥
      go None e = absurd cc
      go (Some next) e = let same : c.now ≡ since = cc in absurd (omega (arith, same, later))
  state_moves x (State.SegmentedResponse out Transfer.Stopped since) due within = absurd (omega (arith, within))
  state_moves x (State.SegmentedResponse out Transfer.Finished since) due within = absurd (omega (arith, within))
  state_moves x State.Dropped due within = absurd (omega (arith, within))

  pub moves : (x : ServerTransaction) → is_live c.now x ≡ true → state_due x.state ≤ c.now → state_due x.state < LAST_MOMENT
      → entry_or x (server_ticks c (Some x)).entry ≡ x → ⊥
  moves x live due within e =
      let at : (if true then live_ticks c x x.state else rests (Some x) []) ≡ server_ticks c (Some x) =
      ap (λ b. if b then live_ticks c x x.state else rests (Some x) []) (sym live) in
      state_moves x x.state due within (ap (λ r. (entry_or x r.entry).state) at ∙ ap (λ (y : ServerTransaction). y.state) e)

-- A tick leaves the moment at which an entry began.

stays_begun : (x : ServerTransaction) (o : Option ServerTransaction) → StaysIn x o → (entry_or x o).begin ≡ x.begin
stays_begun x None h = absurd h
stays_begun x (Some d) h = h.0.begin

pub ticked_began : (c : Context) (x : ServerTransaction) → (entry_or x (server_ticks c (Some x)).entry).begin ≡ x.begin
ticked_began c x = go (is_live c.now x) refl
  where
    go : (b : Bool) → is_live c.now x ≡ b → (entry_or x (server_ticks c (Some x)).entry).begin ≡ x.begin
    go true live = stays_begun x (server_ticks c (Some x)).entry (live_stays_law.ticks c x live)
    go false dead = ap (λ b. (entry_or x (if b then live_ticks c x x.state else rests (Some x) []).entry).begin) dead

-- The laws of ticks.

pub entry_rests : (c : Settings) (now from due : ℕ) (key : PeerKey) (v : ServerTransaction) → from ≤ now → now < due → IsQuiet from due v → entry_ticked c now key v ≡ v
entry_rests c now from due key v started before q =
    ap (λ r. entry_or v r.entry) (stays (context_of (settings_view c) now (peer_key_view key)) from due started before v q)

pub entry_begins : (c : Settings) (now : ℕ) (key : PeerKey) (v : ServerTransaction) → began (entry_ticked c now key v) ≡ began v
entry_begins c now key v = ticked_began (context_of (settings_view c) now (peer_key_view key)) v
