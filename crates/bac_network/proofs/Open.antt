-- While copies of an ask are delivered, its ticket is open exactly as long as the log has no ending of it.
use Rattle.std.proofs.Common.{◌≡◌, ◌↔◌, ℕ, zero, suc, Bool, true, false, List, length, Option, Some, None, refl, sym, ap, subst, ◌∙◌, arith}
use Rattle.bac_apdu.specs.Apdu.{Limits}
use Rattle.bac_service.specs.Services.{reads_reply}
use Rattle.bac_service.specs.Values.{Request, choice_of}
use Rattle.bac_protocol.specs.Service.{Octets}
use Rattle.bac_protocol.specs.Client.{Ask, is_idle}
use Rattle.bac_protocol.specs.Log as octets
use Rattle.bac_protocol.specs.Transaction.{Key, Rules}
use Rattle.bac_protocol.specs.Pace.{Clock, IsTimely}
use Rattle.bac_protocol.specs.World.{Net, client_now, net_start}
use Rattle.bac_protocol.specs.Straight.{is_ended}
use Rattle.bac_protocol.specs.Claims as claims
use Rattle.bac_protocol.specs.Claims.{ClientStays}
use Rattle.bac_protocol.proofs.ClientKeeps as keeps
use Rattle.bac_protocol.proofs.Facts.{below_unended}
use Rattle.bac_protocol.proofs.Nets.{net_log}
use Rattle.bac_protocol.proofs.Nets.{sound_at}
use Rattle.bac_protocol.proofs.SingleMoves.{reached_net}
use Rattle.bac_liveness.specs.Runs.{StaysSince}
use Rattle.bac_liveness.proofs.Paths.{Any, Bounded, bounded_start}
use Rattle.bac_liveness.proofs.Changes.{IdleIsLogged, HasEnded, IsThere, logged_path}
use Rattle.bac_transaction.specs.Keys.{PeerKey}
use Rattle.bac_world.specs.Once.{IsUnended}
use Rattle.bac_world.specs.World.{World, Time, Event, WorldRun, IsFresh, IsBounded, IsAsked, RunsOn, link_at, peer_at}
use Rattle.bac_world.proofs.Logs.{unended}
use Rattle.bac_world.proofs.Bridge.{here_at, slot_key}
use Rattle.bac_world.proofs.Steps.{Over}
use Rattle.bac_world.proofs.Asking.{accepted_is}
use Rattle.bac_world.proofs.Headline.{fresh_over, rules_of, rules_bounded}
use Rattle.bac_liveness.proofs.Asked.{bounded_over, key, ask, made, made_over, made_bounded, made_clock, made_path, there, stays, server_link, client_link}
use Rattle.bac_liveness.proofs.WorldEndings.{on_run, once_in}
use Rattle.bac_liveness.proofs.Following.{Followed, Parts, accepted}
use Rattle.bac_liveness.specs.StraightRuns.{is_open, key_of_ask, ending_in, deliveries}
use Rattle.bac_liveness.proofs.StraightRuns.Tickets.{open_there, closed_there}
use Rattle.bac_network.specs.Open.{OpenUntilEnded}
use Rattle.bac_network.proofs.Endings.{none_counted, unended_none}
use Rattle.bac_network.proofs.Still.{stays_there, deliveries_time}

-- nothing restarts while copies are delivered
deliveries_on : (i count number : ℕ) → RunsOn i (deliveries count number)
deliveries_on i zero number = tt
deliveries_on i (suc count) number = deliveries_on i count (suc number)

module _ (links : ℕ → Option Octets) (apart : (i j : ℕ) (l : Octets) → links i ≡ Some l → links j ≡ Some l → i ≡ j) (W : ℕ) (x : Rules)
    (bound : claims.IsBounded W x) (readable : x.readable ≡ reads_reply) (old : World) (n : Net) (h : Over links apart W x None old n)
    (logged : IdleIsLogged n) (c s : ℕ) (limits : Limits) (r : Request) (asked : World) (a : IsAsked old c s limits r asked) where
  parts : Parts links apart W x bound readable old n c s limits r asked a
  parts = accepted_is (x.settings c) (here_at n c) (peer_at a.link) (choice_of r) a.asks.octets a.before.clients a.accepted limits
      (accepted links apart W x bound readable old n h c s limits r asked a)

  abbrev its_key : Key
  its_key = key links apart W x bound readable old n h c s limits r asked a parts

  abbrev its_ask : Ask
  its_ask = ask links apart W x bound readable old n h c s limits r asked a parts

  abbrev first : Net
  first = made links apart W x bound readable old n h c s limits r asked a parts

  first_over : Over links apart W x None asked first
  first_over = made_over links apart W x bound readable old n h c s limits r asked a parts

  key_is : key_of_ask old c s limits r asked a ≡ slot_key a.link its_key.invoke_id
  key_is = λ d. slot_key a.link ((parts.is d).invoke_id)

  server_at : links s ≡ Some a.link
  server_at = server_link links apart W x bound readable old n h c s limits r asked a parts

  client_at : links c ≡ Some a.before.link
  client_at = client_link links apart W x bound readable old n h c s limits r asked a parts

  module _ (count number : ℕ) (w : World) (run : WorldRun x.overtake asked (deliveries count number) w) where
    f : Followed links apart W x bound readable Any (deliveries count number) w first
    f = on_run links apart W x bound readable (deliveries count number) asked w first first_over run

    -- its client's clock shows what it showed
    told_then : f.net.client_clocks c ≡ n.client_clocks c
    told_then = f.over.here c ∙ ap (λ (t : Time). t.clocks c) (deliveries_time x.overtake count number asked w run ∙ a.time) ∙ sym (h.here c)

    stays_then : StaysSince f.net its_key n.now
    stays_then = stays links apart W x bound readable old n h c s limits r asked a parts f.net (f.lives c (deliveries_on c count number))

    bounded : Bounded first
    bounded = made_bounded links apart W x bound readable old n h c s limits r asked a parts

    t : IsThere x Any its_key n.asks its_ask n.now f.net
    t = stays_there x its_key n.asks its_ask n.now first f.net f.path bounded stays_then
        (made_clock links apart W x bound readable old n h c s limits r asked a parts)
        (let same : client_now f.net its_key ≡ here_at n c = ap (λ (y : Clock). y.shows) told_then in omega arith)
        (there links apart W x bound readable old n h c s limits r asked a parts Any)

    ticket_is : is_ended (f.net.tickets its_key) ≡ is_idle t.ticket.phase
    ticket_is = ap is_ended t.at

    -- an open ticket has no ending
    open_unended : is_open w c (slot_key a.link its_key.invoke_id) ≡ true → ending_in (length old.notes) w.log ≡ None
    open_unended e =
        let going : is_idle t.ticket.phase ≡ false = sym ticket_is ∙ open_there links apart W x w f.net f.over its_key a.link server_at e in
        let at = sound_at W f.net its_key (Some t.ticket) t.at
        (reached_net W x bound f.over.sound.0 f.over.sound.2 f.over.sound.1 f.net f.over.sound.3) in
        let none : octets.IsUnended (f.net.numbers its_key) f.net.log =
        keeps.is_open t.ticket.phase (f.net.numbers its_key) f.net.log going (at.2).unended in
        let its : IsUnended n.asks w.log = unended None n.asks f.net.log w.log f.over.log
        (subst (λ (k : ℕ). octets.IsUnended k f.net.log) t.number_is none) in
        subst (λ (k : ℕ). ending_in k w.log ≡ None) h.asks (unended_none n.asks w.log its)

    -- one that is closed has one
    closed_ended : is_open w c (slot_key a.link its_key.invoke_id) ≡ false → ending_in (length old.notes) w.log ≡ None → ⊥
    closed_ended e none =
        let idle : is_idle t.ticket.phase ≡ true =
        sym ticket_is ∙ closed_there links apart W x w f.net f.over its_key a.link server_at a.before.link client_at e in
        let logged_then = logged_path x Any first f.net f.path bounded
        (logged_path x Any n first (made_path links apart W x bound readable old n h c s limits r asked a parts Any) (bounded_over links apart W x old n h) logged) in
        let on = stays_then in
        let made_is = t.made_is in
        let stays_on : ClientStays f.net its_key = omega arith in
        let ended : HasEnded n.asks f.net.log =
        subst (λ (k : ℕ). HasEnded k f.net.log) t.number_is (logged_then its_key t.ticket t.at stays_on idle) in
        let one = once_in links apart W x bound readable w f.net f.over n.asks ended in
        let zero = none_counted n.asks w.log (subst (λ (k : ℕ). ending_in k w.log ≡ None) (sym h.asks) none) in
        omega arith

    both : (b : Bool) → is_open w c (slot_key a.link its_key.invoke_id) ≡ b → ending_in (length old.notes) w.log ≡ None → b ≡ true
    both true e none = refl
    both false e none = absurd (closed_ended e none)

    pub open_exactly : (is_open w c (key_of_ask old c s limits r asked a) ≡ true) ↔ (ending_in (length old.notes) w.log ≡ None)
    open_exactly = (
      λ e. open_unended (subst (λ (q : PeerKey). is_open w c q ≡ true) key_is e),
      λ none. subst (λ (q : PeerKey). is_open w c q ≡ true) (sym key_is) (both (is_open w c (slot_key a.link its_key.invoke_id)) refl none),
    )

pub open_until_ended : (W overtake : ℕ) (opening old : World) → IsFresh opening → IsTimely opening.time.pace → IsBounded W overtake opening
    → (events : List Event) → WorldRun overtake opening events old → OpenUntilEnded overtake old
open_until_ended W overtake opening old fresh timely bounded events run client server limits r asked asks count number w deliver =
    let links : ℕ → Option Octets = link_at opening.nodes in
    let x : Rules = rules_of overtake opening in
    let bound = rules_bounded W overtake opening bounded in
    let f = on_run links fresh.apart W x bound refl events opening old
    (net_start opening.time.pace (λ i. (opening.time.clocks i).exact)) (fresh_over None W overtake opening fresh timely bounded) run in
    open_exactly links fresh.apart W x bound refl old f.net f.over
    (logged_path x Any (net_start opening.time.pace (λ i. (opening.time.clocks i).exact)) f.net f.path
    (bounded_start opening.time.pace (λ i. (opening.time.clocks i).exact)) (λ key t at. absurd cc)) client server limits r asked asks count number w deliver

-- the next ask has no ending yet
pub none_ended : (W overtake : ℕ) (opening old : World) → IsFresh opening → IsTimely opening.time.pace → IsBounded W overtake opening
    → (events : List Event) → WorldRun overtake opening events old → ending_in (length old.notes) old.log ≡ None
none_ended W overtake opening old fresh timely bounded events run =
    let links : ℕ → Option Octets = link_at opening.nodes in
    let x : Rules = rules_of overtake opening in
    let bound = rules_bounded W overtake opening bounded in
    let f = on_run links fresh.apart W x bound refl events opening old
    (net_start opening.time.pace (λ i. (opening.time.clocks i).exact)) (fresh_over None W overtake opening fresh timely bounded) run in
    let none : octets.IsUnended f.net.asks f.net.log =
    below_unended f.net.asks f.net.log (net_log W f.net
    (reached_net W x bound f.over.sound.0 f.over.sound.2 f.over.sound.1 f.net f.over.sound.3)).numbers in
    subst (λ (k : ℕ). ending_in k old.log ≡ None) f.over.asks (unended_none f.net.asks old.log (unended None f.net.asks f.net.log old.log f.over.log none))
