-- Each ask ends, in every world whose nodes let invoke IDs be used again, or not.
use Rattle.std.specs.Option.{option_map}
use Rattle.std.proofs.Common.{◌≡◌, ◌⊎◌, ℕ, suc, ◌-◌, ◌<◌, ◌≤◌, Bool, true, false, ◌&&◌, List, [], ◌∷◌, length, Option, Some, None, slice_get, nat_le, nat_eq}
use Rattle.std.proofs.Common.{if◌then◌else◌, refl, sym, ap, subst, inl, inr, ◌∙◌, arith}
use Rattle.std.proofs.lemmas.Bool.Decides.{nat_tests}
use Rattle.bac_apdu.specs.Apdu.{Apdu, Limits}
use Rattle.bac_apdu.specs.Spelling.{SpellsApdu, is_confirmed_request}
use Rattle.bac_npdu.specs.Peers.{PeerView}
use Rattle.bac_npdu.proofs.Datagrams.{frame_means}
use Rattle.bac_service.specs.Services.{reads_reply}
use Rattle.bac_service.specs.Values.{Request, choice_of}
use Rattle.bac_protocol.specs.declared.times.TheConstants.{DEADLINE}
use Rattle.bac_protocol.specs.Context.{Context}
use Rattle.bac_protocol.specs.Service as machine
use Rattle.bac_protocol.specs.Service.{Octets}
use Rattle.bac_protocol.specs.Own.{invoke_id_of}
use Rattle.bac_protocol.specs.Wire.{is_from_client, is_from_server}
use Rattle.bac_protocol.specs.Client as client
use Rattle.bac_protocol.specs.Client.{Ask, ClientTransaction, Reaction, client_on_apdu}
use Rattle.bac_protocol.specs.Claims as claims
use Rattle.bac_protocol.specs.Pace.{Pace, IsTimely}
use Rattle.bac_protocol.specs.Transaction.{Key, Rules}
use Rattle.bac_protocol.specs.World.{Net, Post, is_lost}
use Rattle.bac_slots.specs.Slots.{value_at, IsDistinct}
use Rattle.bac_transaction.specs.Keys.{PeerKey, same_key}
use Rattle.bac_transaction.specs.Sends.{Pairwise}
use Rattle.bac_transaction.specs.Meanings.{Ending, IsEndedView, MeansEnding}
use Rattle.bac_transaction.specs.Ends.{Accepted, Client, TransactionSlot, context_of, ended_with, is_held, kept, open_unless}
use Rattle.bac_transaction.specs.Ends.TransactionSlot.{Open}
use Rattle.bac_transaction.proofs.KeyedSlots.{passing, passing_value, put_same}
use Rattle.bac_world.specs.Node.{Node, Outcome, IsDropped, IsHeardBy}
use Rattle.bac_world.specs.Once.{Fact, Has, IsUnended, Stores}
use Rattle.bac_world.specs.Once.Fact.{Asked, Performed, Ended, Changed, Restarted, Served, AskedAway, EndedAway}
use Rattle.bac_world.specs.Laws.{IsMeaningless}
use Rattle.bac_world.specs.ReusingLogs.{IsOnceSo, Reuses}
use Rattle.bac_world.specs.ReusingWorlds.{ActsSo, DeliversIfSo, DeliversSo, WorldRunSo, WorldStepSo}
use Rattle.bac_world.specs.World.{World, Copy, Event, IsAsked, IsBounded, IsFresh, Note, RunsOn, WorldRun, ask_of, is_away, is_deliverable, later, link_at, peer_at, stores_of, told}
use Rattle.bac_world.specs.World.Event.{Deliver, Tick}
use Rattle.bac_world.proofs.AsEver.{run_as}
use Rattle.bac_world.proofs.Asking.{IsAccepted, accepted_is, free_kept}
use Rattle.bac_world.proofs.Bridge.{IsBetween, IsCopyOf, TicketFits, framed_means, here_at, key_of, slot_key}
use Rattle.bac_world.proofs.Headline.{fresh_over, rules_bounded, rules_of, run_over_so}
use Rattle.bac_world.proofs.Heard.{IsHeardIn, IsHeardInBy, heard_in}
use Rattle.bac_world.proofs.Hearing.{ticket_at}
use Rattle.bac_world.proofs.NodeLaws.{drops_exactly}
use Rattle.bac_world.proofs.Pairs.{IsPaired, pairwise_get}
use Rattle.bac_world.proofs.Settings.{Setting, always, reuses_in}
use Rattle.bac_world.proofs.Steps.{Over}
use Rattle.bac_liveness.specs.WorldEnds.{AsksEnd, AsksEndSo, EndsIn}
use Rattle.bac_liveness.specs.WorldRoundTrip.{IsFromServer, MayArrive}
use Rattle.bac_liveness.specs.WorldRuns.{endings_of}
use Rattle.bac_liveness.proofs.Following.{first_on}
use Rattle.bac_liveness.proofs.Followers.{servers_send}
use Rattle.bac_liveness.proofs.GrowingLogs.{run_stay}
use Rattle.bac_liveness.proofs.OpenTickets.{IsKept, after_ask, asked_more, finished_as, own_turn, ticket_is}
use Rattle.bac_liveness.proofs.Opens.{asked_opens}
use Rattle.bac_liveness.proofs.Serving.{late_gets}
use Rattle.bac_liveness.proofs.Tracking.{HasEnded, Holds, Tracked, ended_on, own_ends, tracked_step}
use Rattle.bac_liveness.proofs.WorldEndings.{opened_net, opened_once, tick_leaves}

-- A right log has at most one ending of each ask.

unended_none : (n : ℕ) (log : List Fact) → IsUnended n log → endings_of n log ≡ 0
unended_none n [] h = refl
unended_none n (Asked m c s r ∷ log) h = unended_none n log h
unended_none n (Performed m r p ∷ log) h = unended_none n log h
unended_none n (Ended m how ∷ log) h = go (nat_eq m n) refl (unended_none n log h.1)
  where
    go : (b : Bool) → nat_eq m n ≡ b → endings_of n log ≡ 0 → (if b then suc (endings_of n log) else endings_of n log) ≡ 0
    go true e rest = absurd (h.0 (grind (arith, nat_tests)))
    go false e rest = rest
unended_none n (Changed i c ∷ log) h = unended_none n log h
unended_none n (Restarted i s ∷ log) h = unended_none n log h
unended_none n (Served q i d b r p ∷ log) h = unended_none n log h
unended_none n (AskedAway m c q r ∷ log) h = unended_none n log h
unended_none n (EndedAway m how ∷ log) h = unended_none n log h

pub at_most_one : (u : Reuses) (opening stores : Stores) (n : ℕ) (log : List Fact) → IsOnceSo u opening log stores → endings_of n log ≤ 1
at_most_one u opening stores n [] h = omega arith
at_most_one u opening stores n (Asked m c s r ∷ log) h = at_most_one u opening h.0 n log h.2
at_most_one u opening stores n (Performed m r p ∷ log) h = at_most_one u opening h.0 n log h.2
at_most_one u opening stores n (Ended m how ∷ log) h = go (nat_eq m n) refl (at_most_one u opening h.0 n log h.2)
  where
    go : (b : Bool) → nat_eq m n ≡ b → endings_of n log ≤ 1 → (if b then suc (endings_of n log) else endings_of n log) ≤ 1
    go true e rest =
        let same : m ≡ n = grind (arith, nat_tests) in
        let none = unended_none n log (subst (λ (k : ℕ). IsUnended k log) same h.1.1) in
        omega arith
    go false e rest = rest
at_most_one u opening stores n (Changed i c ∷ log) h = at_most_one u opening h.0 n log h.2
at_most_one u opening stores n (Restarted i s ∷ log) h = at_most_one u opening h.0 n log h.2
at_most_one u opening stores n (Served q i d b r p ∷ log) h = at_most_one u opening h.0 n log h.2
at_most_one u opening stores n (AskedAway m c q r ∷ log) h = at_most_one u opening h.0 n log h.2
at_most_one u opening stores n (EndedAway m how ∷ log) h = at_most_one u opening h.0 n log h.2

pub some_ending : (n : ℕ) (how : Ending) (log : List Fact) → Has (Ended n how) log → 1 ≤ endings_of n log
some_ending n how [] h = absurd h
some_ending n how (Asked m c s r ∷ log) (inl e) = absurd cc
some_ending n how (Asked m c s r ∷ log) (inr h) = some_ending n how log h
some_ending n how (Performed m r p ∷ log) (inl e) = absurd cc
some_ending n how (Performed m r p ∷ log) (inr h) = some_ending n how log h
some_ending n how (Ended m k ∷ log) h = go (nat_eq m n) refl h (λ has. some_ending n how log has)
  where
    go : (b : Bool) → nat_eq m n ≡ b → Has (Ended n how) (Ended m k ∷ log) → (Has (Ended n how) log → 1 ≤ endings_of n log)
        → 1 ≤ (if b then suc (endings_of n log) else endings_of n log)
    go true e h rest = omega arith
    go false e (inl is) rest = absurd (let same : m ≡ n = cc in grind (arith, nat_tests))
    go false e (inr h) rest = rest h
some_ending n how (Changed i c ∷ log) (inl e) = absurd cc
some_ending n how (Changed i c ∷ log) (inr h) = some_ending n how log h
some_ending n how (Restarted i s ∷ log) (inl e) = absurd cc
some_ending n how (Restarted i s ∷ log) (inr h) = some_ending n how log h
some_ending n how (Served q i d b r p ∷ log) (inl e) = absurd cc
some_ending n how (Served q i d b r p ∷ log) (inr h) = some_ending n how log h
some_ending n how (AskedAway m c q r ∷ log) (inl e) = absurd cc
some_ending n how (AskedAway m c q r ∷ log) (inr h) = some_ending n how log h
some_ending n how (EndedAway m k ∷ log) (inl e) = absurd cc
some_ending n how (EndedAway m k ∷ log) (inr h) = some_ending n how log h

pub eq_self : (n : ℕ) → nat_eq n n ≡ true
eq_self n = grind (arith, nat_tests)

-- Worlds that a run of a fresh one led to.
module _ (links : ℕ → Option Octets) (apart : (i j : ℕ) (l : Octets) → links i ≡ Some l → links j ≡ Some l → i ≡ j) (W : ℕ) (x : Rules)
    (bound : claims.IsBounded W x) (readable : x.readable ≡ reads_reply) (u : Reuses) (opening : Stores) where
  abbrev pub set : Setting
  set = Some (always u)

  -- it has a net, and its log is right
  abbrev pub At : World → Type 0
  At w = (m : Net) × Over links apart W x set w m × IsOnceSo u opening w.log (stores_of w.nodes)

  pub goes_on : (events : List Event) (w w' : World) → At w → WorldRunSo x.overtake u w events w' → At w'
  goes_on events w w' h run = run_over_so links apart W x set bound readable opening events w w' h.0 h.1 h.2 run

  pub step_on : (e : Event) (w w' : World) → At w → WorldStepSo x.overtake u w e w' → At w'
  step_on e w w' h did = goes_on (e ∷ []) w w' h (w', did, refl)

  pub distinct_at : (w : World) → At w → (i : ℕ) (n : Node) → slice_get w.nodes i ≡ Some n → IsDistinct same_key n.clients.slots
  distinct_at w h i n at = (h.1.nodes i n at).clients.distinct

  tracked_run : (c number ticket : ℕ) (ask : Ask) (key : PeerKey) (events : List Event) (w w' : World) → At w → WorldRunSo x.overtake u w events w' → RunsOn c events
      → Tracked c number ticket ask key w → Tracked c number ticket ask key w'
  tracked_run c number ticket ask key [] w w' h run on t = subst (Tracked c number ticket ask key) (sym run) t
  tracked_run c number ticket ask key (e ∷ es) w w' h run on t =
      let parts = first_on c e es on in
      tracked_run c number ticket ask key es run.0 w' (step_on e w run.0 h run.1) run.2 parts.1
      (tracked_step c number ticket ask key x.overtake u w run.0 e run.1 parts.0 (distinct_at w h) t)

  -- a copy is delivered
  pub delivers_now : (w w' : World) (k : ℕ) (d : Copy) → MayArrive x.overtake w k d → WorldStepSo x.overtake u w (Deliver k) w' → DeliversSo u w d w'
  delivers_now w w' k d may did =
      let same : did.copy ≡ d = (let e : Some did.copy ≡ Some d = sym did.there ∙ may.at in cc) in
      let one = subst (λ (y : Copy). DeliversIfSo (is_deliverable x.overtake w.time.pace.life w.time.now k w.copies y) u w y w') same did.goes in
      subst (λ (b : Bool). DeliversIfSo b u w d w') may.arrives one

  -- The next ask.
  module _ (old : World) (h : At old) (c s : ℕ) (limits : Limits) (r : Request) (asked : World) (a : IsAsked old c s limits r asked)
      (parts : IsAccepted a.before.settings (told old c) (peer_at a.link) (choice_of r) a.asks.octets a.before.clients a.accepted) where
    abbrev pub number : ℕ
    number = length old.notes

    abbrev pub now : ℕ
    now = told old c

    abbrev pub key : PeerKey
    key = slot_key a.link a.accepted.invoke_id

    abbrev pub ask : Ask
    ask = record { first = now; choice = choice_of r; whole = parts.whole; pieces = parts.front ∷ parts.rest }

    abbrev pub IsTracked : World → Type 0
    IsTracked w = Tracked c number a.accepted.ticket ask key w

    abbrev pub IsHeld : World → Type 0
    IsHeld w = Holds c number a.accepted.ticket ask key w

    abbrev pub made_key : PeerKey
    made_key = slot_key a.link parts.id

    abbrev pub context : Context
    context = context_of a.before.settings now made_key

    -- its slot, with what is so of its ticket
    module _ (P : ClientTransaction → Type 0) (so : P (client.asked_ticket context ask)) where
      begins_so : (y : Accepted) → y ≡ a.accepted
          → (k : IsKept (slot_key a.link y.invoke_id) y.ticket ask (record (a.before) { latest = now; clients = y.end })) × P k.ticket
      begins_so y is = subst (λ (z : Accepted). (k : IsKept (slot_key a.link z.invoke_id) z.ticket ask (record (a.before) { latest = now; clients = z.end })) × P k.ticket)
          (sym (is ∙ parts.is)) (
            record {
              ticket = client.asked_ticket context ask;
              there = put_same Client made_key now _ (passing Client (λ (v : Client). is_held now v.held) a.before.clients.slots) gone
                  ∙ ap (λ (z : TransactionSlot). Some (record { number = a.before.clients.asked; held = z })) open_now;
              going = asked_opens context ask;
              ask_is = after_ask now (client.new_ticket now ask) (client.asks context ask);
            },
            so,
          )
        where
          gone : value_at same_key made_key (passing Client (λ (v : Client). is_held now v.held) a.before.clients.slots) ≡ None
          gone = passing_value Client (λ (v : Client). is_held now v.held) made_key a.before.clients.slots (distinct_at old h c a.before a.at)
              ∙ free_kept now (value_at same_key made_key a.before.clients.slots) parts.free

          open_now : kept (client.asked_ticket context ask) ≡ Open (client.asked_ticket context ask)
          open_now = ap (λ (b : Bool). open_unless b (client.asked_ticket context ask)) (asked_opens context ask)

      begins : (k : IsKept key a.accepted.ticket ask a.after) × P k.ticket
      begins = subst (λ (n : Node). (k : IsKept key a.accepted.ticket ask n) × P k.ticket) (sym a.asks.node) (begins_so a.accepted refl)

      pub held_so : (t : IsHeld asked) × P t.kept.ticket
      held_so = (
        record {
          node = a.after;
          at = a.nodes.here;
          kept = begins.0;
          noted = ap (ask_of c a.accepted.ticket) a.notes
              ∙ ap (λ (b : Bool). if b && nat_eq a.accepted.ticket a.accepted.ticket then Some number else ask_of c a.accepted.ticket old.notes) (eq_self c)
              ∙ ap (λ (b : Bool). if b then Some number else ask_of c a.accepted.ticket old.notes) (eq_self a.accepted.ticket);
          near = ap (is_away number) a.notes ∙ ap (λ (b : Bool). if b then false else is_away number old.notes) (eq_self number);
          counted = subst (λ (l : List Note). number < length l) (sym a.notes) (omega arith);
          below =
              let one = ticket_is key a.accepted.ticket ask now (peer_at a.link) limits r a.before a.after a.accepted a.sends a.asks in
              let two = asked_more key a.accepted.ticket ask now (peer_at a.link) limits r a.before a.after a.accepted a.sends a.asks in
              omega arith;
        },
        begins.1,
      )

    pub held : IsHeld asked
    held = (held_so (λ t. Unit {0}) tt).0

    pub at_asked : At asked
    at_asked = step_on (Event.Ask c s limits r) old asked h (inl a)

    pub tracked : (events : List Event) (w : World) → WorldRunSo x.overtake u asked events w → RunsOn c events → IsTracked w
    tracked events w run on = tracked_run c number a.accepted.ticket ask key events asked w at_asked run on (inl held)

    pub tracked_on : (events : List Event) (w v : World) → At w → WorldRunSo x.overtake u w events v → RunsOn c events → IsTracked w → IsTracked v
    tracked_on events w v at run on t = tracked_run c number a.accepted.ticket ask key events w v at run on t

    -- it ends at most once, and has ended for good
    before : (events : List Event) (w : World) → WorldRunSo x.overtake u asked events w → endings_of number w.log ≤ 1
    before events w run = let at = goes_on events asked w at_asked run in at_most_one u opening (stores_of w.nodes) number w.log at.2

    pub for_good : (v : World) → At v → HasEnded number v.log → (after : List Event) (w : World) → WorldRunSo x.overtake u v after w → endings_of number w.log ≡ 1
    for_good v at ended after w run =
        let last = goes_on after v w at run in
        let most = at_most_one u opening (stores_of w.nodes) number w.log last.2 in
        let still = ended_on number v.log w.log (run_stay x.overtake u after v w run) ended in
        let some = some_ending number still.0 w.log still.1 in
        omega arith

    tick : (between : List Event) (late ticked : World) → WorldRunSo x.overtake u asked between late → RunsOn c between
        → DEADLINE < told late c - told old c → WorldStepSo x.overtake u late (Tick c) ticked
        → (after : List Event) (w : World) → WorldRunSo x.overtake u ticked after w → endings_of number w.log ≡ 1
    tick between late ticked run on over did after w run' = for_good ticked (step_on (Tick c) late ticked at_late did) (go next) after w run'
      where
        at_late : At late
        at_late = goes_on between asked late at_asked run

        next : IsTracked ticked
        next = tracked_step c number a.accepted.ticket ask key x.overtake u late ticked (Tick c) did tt (distinct_at late at_late) (tracked between late run on)

        go : IsTracked ticked → HasEnded number ticked.log
        go (inr ended) = ended
        go (inl still) = absurd (
            let there : Some still.node ≡ Some did.after = sym still.at ∙ did.acts.nodes.here in
            let node : still.node ≡ did.after = cc in
            let young = tick_leaves (told late c) did.before did.after did.outcome did.tick key a.accepted.ticket still.kept.ticket
            (subst (λ (n : Node). value_at same_key key n.clients.slots ≡ Some (record { number = a.accepted.ticket; held = Open (still.kept.ticket) })) node
            still.kept.there) in
            let first = ap (λ (y : Ask). y.first) still.kept.ask_is in
            omega arith
            )

    pub foreign : c ≡ s → ⊥
    foreign is = a.asks.foreign
        (let e : Some a.link ≡ Some a.before.link = sym a.peer ∙ ap (link_at old.nodes) (sym is) ∙ ap (option_map (λ (n : Node). n.link)) a.at in cc)

    pub server_link : links s ≡ Some a.link
    server_link = sym (h.1.linked s) ∙ a.peer

    -- A copy of its server's that is heard.
    module _ (w answered : World) (at : At w) (k : ℕ) (d : Copy) (may : MayArrive x.overtake w k d) (from : IsFromServer c s a.accepted.invoke_id d)
        (did : WorldStepSo x.overtake u w (Deliver k) answered) where
      abbrev pub m : Net
      m = at.0

      abbrev pub over : Over links apart W x set w m
      over = at.1

      abbrev pub z : IsPaired (IsCopyOf links apart) m.posts k d
      z = pairwise_get (IsCopyOf links apart) m.posts w.copies k d over.posts may.at

      abbrev pub p : Post
      p = z.other

      key_is : p.key ≡ key_of c s a.accepted.invoke_id
      key_is = sym z.goes.key ∙ from.key

      down : is_from_client p.copy.apdu ≡ false
      down = go (is_from_client p.copy.apdu) z.goes.between
        where
          go : (b : Bool) → IsBetween b p.key d.from d.to → b ≡ false
          go false y = refl
          go true y = absurd (foreign (sym (ap (λ (y : Key). y.client) key_is) ∙ sym y.0 ∙ from.from))

      to_is : d.to ≡ c
      to_is = (subst (λ (b : Bool). IsBetween b p.key d.from d.to) down z.goes.between).1 ∙ ap (λ (y : Key). y.client) key_is

      pub goes : DeliversSo u w d answered
      goes = delivers_now w answered k d may did

      abbrev pub before_node : Node
      before_node = goes.hears.before

      abbrev pub after_node : Node
      after_node = goes.hears.after

      abbrev pub outcome : Outcome
      outcome = goes.hears.outcome

      link_is : goes.link ≡ a.link
      link_is = let e : Some goes.link ≡ Some a.link = sym goes.sender ∙ over.linked d.from ∙ ap links from.from ∙ server_link in cc

      -- it is not dropped
      not_dropped : IsDropped (told w d.to) goes.link d.octets before_node after_node outcome → ⊥
      not_dropped dropped = none (drops_exactly.only (told w d.to) goes.link d.octets before_node after_node outcome dropped)
        where
          none : (goes.link ≡ before_node.link) ⊎ IsMeaningless goes.link d.octets → ⊥
          none (inl own) = foreign (sym to_is ∙ sym (apart d.from d.to goes.link (sym (over.linked d.from) ∙ goes.sender)
              ((over.nodes d.to before_node goes.hears.at).link ∙ ap Some (sym own))) ∙ from.from)
          none (inr nothing) = nothing (peer_at goes.link) p.copy.apdu
              (frame_means SpellsApdu is_confirmed_request goes.link z.goes.to_link d.octets p.copy.apdu
              (λ text y. subst (λ (l : Octets). length l ≤ 1476) (sym y.is) z.goes.short) z.goes.frame)

      abbrev pub answer_key : PeerKey
      answer_key = slot_key a.link (invoke_id_of p.copy.apdu)

      -- its client takes it
      pub client_hears : IsHeardBy false (peer_at a.link) p.copy.apdu (told w c) before_node after_node outcome
      client_hears = go (heard_in (told w d.to) goes.link d.octets before_node after_node outcome (u d.to) goes.hears.on)
        where
          go : IsDropped (told w d.to) goes.link d.octets before_node after_node outcome
              ⊎ IsHeardIn (u d.to) (told w d.to) goes.link d.octets before_node after_node outcome
              → IsHeardBy false (peer_at a.link) p.copy.apdu (told w c) before_node after_node outcome
          go (inl dropped) = absurd (not_dropped dropped)
          go (inr y) =
              let one = framed_means goes.link z.goes.to_link p.copy.apdu y.apdu y.peer d.octets z.goes.frame z.goes.short y.means in
              subst (λ (i : ℕ). IsHeardBy false (peer_at a.link) p.copy.apdu (told w i) before_node after_node outcome) to_is
              (subst (λ (l : Octets). IsHeardBy false (peer_at l) p.copy.apdu (told w d.to) before_node after_node outcome) link_is
              (subst (λ (b : Bool). IsHeardInBy (u d.to) b (peer_at goes.link) p.copy.apdu (told w d.to) before_node after_node outcome) down
              (subst (λ (q : PeerView). IsHeardInBy (u d.to) (is_from_client p.copy.apdu) q p.copy.apdu (told w d.to) before_node after_node outcome) one.0
              (subst (λ (b : Apdu). IsHeardInBy (u d.to) (is_from_client b) y.peer b (told w d.to) before_node after_node outcome) one.1 y.heard))))

      -- for its ticket
      module _ (t : IsHeld w) where
        node_is : t.node ≡ before_node
        node_is = let e : Some t.node ≡ Some before_node = sym t.at ∙ ap (slice_get w.nodes) (sym to_is) ∙ goes.hears.at in cc

        invoke_is : answer_key ≡ key
        invoke_is = ap (λ (i : ℕ). slot_key a.link i) (z.goes.invoke ∙ ap (λ (y : Key). y.invoke_id) key_is)

        pub slot_is : value_at same_key answer_key before_node.clients.slots ≡ Some (record { number = a.accepted.ticket; held = Open (t.kept.ticket) })
        slot_is = ap (λ (y : PeerKey). value_at same_key y before_node.clients.slots) invoke_is
            ∙ subst (λ (n : Node). value_at same_key key n.clients.slots ≡ Some (record { number = a.accepted.ticket; held = Open (t.kept.ticket) })) node_is
            t.kept.there

        ticket_there : m.tickets p.key ≡ Some t.kept.ticket
        ticket_there =
            let y : Key = key_of c s a.accepted.invoke_id in
            let fits : TicketFits (is_lost m y) (here_at m c) w.notes c (m.numbers y) (value_at same_key key t.node.clients.slots) (m.tickets y) =
            (over.nodes c t.node t.at).clients.found s a.link a.accepted.invoke_id server_link in
            ap m.tickets key_is ∙ (ticket_at (is_lost m y) (here_at m c) w.notes c (m.numbers y) a.accepted.ticket t.kept.ticket (m.tickets y)
            (subst (λ (o : Option Client). TicketFits (is_lost m y) (here_at m c) w.notes c (m.numbers y) o (m.tickets y)) t.kept.there fits)).0

        young : m.now - p.copy.moment ≤ m.pace.life
        young = subst (λ (q : Pace). m.now - p.copy.moment ≤ q.life) (sym over.pace)
            (subst (λ (y : ℕ). y - p.copy.moment ≤ w.time.pace.life) (sym over.now)
            (subst (λ (y : ℕ). w.time.now - y ≤ w.time.pace.life) z.goes.moment
            (go (nat_le (w.time.now - d.moment) w.time.pace.life) (nat_le (later d.key k w.copies) x.overtake) refl may.arrives)))
          where
            go : (b e : Bool) → nat_le (w.time.now - d.moment) w.time.pace.life ≡ b → (b && e) ≡ true → w.time.now - d.moment ≤ w.time.pace.life
            go true e is both = grind (arith, nat_tests)
            go false e is both = absurd cc

        pub of_server : is_from_server p.copy.apdu ≡ true
        of_server = servers_send W x bound set m over.sound k p z.there down young t.kept.ticket ticket_there t.kept.going

        abbrev pub turn_with : Apdu → Reaction
        turn_with b = client_on_apdu (context_of before_node.settings (told w c) answer_key) reads_reply t.kept.ticket b

        -- a turn that ends it
        pub turn_gives : (how : machine.Ending) → client.ending_of (turn_with p.copy.apdu) ≡ Some how
            → (v : Ending) × MeansEnding t.kept.ticket.ask.choice how v × Has (Ended number v) answered.log
        turn_gives how is =
            let its = own_turn key a.accepted.ticket ask (told w c) (peer_at a.link) p.copy.apdu before_node after_node outcome client_hears t.kept.ticket slot_is in
            let done = finished_as a.accepted.ticket t.kept.ticket.ask.choice how outcome.ended
            (subst (λ (y : Option machine.Ending). Pairwise IsEndedView (ended_with a.accepted.ticket t.kept.ticket.ask.choice y) outcome.ended) is its.ended) in (
              done.0,
              done.1,
              own_ends c number a.accepted.ticket ask key (u d.to) w answered after_node outcome t
                  (subst (λ (i : ℕ). ActsSo (u d.to) w i after_node outcome answered) to_is goes.hears.acts) done.0 done.2,
            )

        late_ends : DEADLINE < told w c - now → HasEnded number answered.log
        late_ends late =
            let done = turn_gives machine.Ending.Expired (ap client.ending_of
            (late_gets reads_reply (context_of before_node.settings (told w c) answer_key) t.kept.ticket p.copy.apdu of_server t.kept.going
            (let first = ap (λ (y : Ask). y.first) t.kept.ask_is in omega arith))) in
            (done.0, done.2)

    answer : (between : List Event) (late answered : World) → WorldRunSo x.overtake u asked between late → RunsOn c between
        → DEADLINE < told late c - told old c → (k : ℕ) (d : Copy) → MayArrive x.overtake late k d → IsFromServer c s a.accepted.invoke_id d
        → WorldStepSo x.overtake u late (Deliver k) answered
        → (after : List Event) (w : World) → WorldRunSo x.overtake u answered after w → endings_of number w.log ≡ 1
    answer between late answered run on over k d may from did after w run' =
        for_good answered (step_on (Deliver k) late answered at_late did) (go (tracked between late run on)) after w run'
      where
        at_late : At late
        at_late = goes_on between asked late at_asked run

        go : IsTracked late → HasEnded number answered.log
        go (inl t) = late_ends late answered at_late k d may from did t over
        go (inr ended) = ended_on number late.log answered.log (run_stay x.overtake u (Deliver k ∷ []) late answered (answered, did, refl)) ended

    pub ends : EndsIn (WorldStepSo x.overtake u) (WorldRunSo x.overtake u) x.overtake old c s a.accepted.invoke_id asked
    ends = record { before = before; tick = tick; answer = answer }

pub asks_end_so : (u : Reuses) (W overtake : ℕ) (opening reached : World) → IsFresh opening → IsTimely opening.time.pace → IsBounded W overtake opening
    → (events : List Event) → WorldRunSo overtake u opening events reached → AsksEndSo overtake u reached
asks_end_so u W overtake opening reached fresh timely bounded events run c s limits r asked a =
    let links : ℕ → Option Octets = link_at opening.nodes in
    let x : Rules = rules_of overtake opening in
    let bound = rules_bounded W overtake opening bounded in
    let at = goes_on links fresh.apart W x bound refl u (stores_of opening.nodes) events opening reached
    (opened_net opening, fresh_over (Some (always u)) W overtake opening fresh timely bounded, opened_once u opening fresh) run in
    ends links fresh.apart W x bound refl u (stores_of opening.nodes) reached at c s limits r asked a
    (accepted_is a.before.settings (told reached c) (peer_at a.link) (choice_of r) a.asks.octets a.before.clients a.accepted limits a.asks.accepted)

-- where no node lets invoke IDs be used again
pub asks_end : (W overtake : ℕ) (opening reached : World) → IsFresh opening → IsTimely opening.time.pace → IsBounded W overtake opening
    → (events : List Event) → WorldRun overtake opening events reached → AsksEnd overtake reached
asks_end W overtake opening reached fresh timely bounded events run c s limits r asked a =
    let so = asks_end_so (reuses_in None) W overtake opening reached fresh timely bounded events (run_as overtake opening events reached run) c s limits r asked a in
    record {
      before = λ events w run. so.before events w (run_as overtake asked events w run);
      tick = λ between late ticked run on over did after w run'.
          so.tick between late ticked (run_as overtake asked between late run) on over did after w (run_as overtake ticked after w run');
      answer = λ between late answered run on over k d may from did after w run'.
          so.answer between late answered (run_as overtake asked between late run) on over k d may from
          (let one = run_as overtake late (Deliver k ∷ []) answered (answered, did, refl) in
          subst (λ (v : World). WorldStepSo overtake (reuses_in None) late (Deliver k) v) (sym one.2) one.1)
          after w (run_as overtake answered after w run');
    }
