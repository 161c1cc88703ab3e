-- A new ask at a server of fresh reads, over a network that delivers, ends in one round trip.
use Rattle.std.specs.Option.{option_map}
use Rattle.std.proofs.Common.{◌≡◌, ◌⊎◌, ℕ, suc, ◌-◌, ◌≤◌, Bool, true, false, ◌&&◌, List, [], ◌∷◌, ◌++◌, length, Option, Some, slice_get, nat_le, refl, sym, ap, subst}
use Rattle.std.proofs.Common.{if◌then◌else◌, inl, inr, ◌∙◌, arith}
use Rattle.std.proofs.lemmas.Bool.Decides.{nat_tests}
use Rattle.bac_apdu.specs.Apdu.{Limits}
use Rattle.bac_service.specs.Services.{reads_reply}
use Rattle.bac_service.specs.Values.{Request, choice_of}
use Rattle.bac_segment.specs.Window.{outgoing}
use Rattle.bac_store.specs.Replies.{reply_to}
use Rattle.bac_protocol.specs.declared.times.TheConstants.{DEADLINE}
use Rattle.bac_protocol.specs.Context.{Context}
use Rattle.bac_protocol.specs.Service.{Octets}
use Rattle.bac_protocol.specs.Client as client
use Rattle.bac_protocol.specs.Client.{ClientTransaction, request_apdu}
use Rattle.bac_protocol.specs.Claims as claims
use Rattle.bac_protocol.specs.Pace.{IsTimely}
use Rattle.bac_protocol.specs.Server.{is_none_live}
use Rattle.bac_protocol.specs.Transaction.{Key, Rules}
use Rattle.bac_slots.specs.Slots.{value_at}
use Rattle.bac_transaction.specs.Keys.{same_key}
use Rattle.bac_transaction.specs.Ends as ends
use Rattle.bac_transaction.specs.Ends.{Accepted}
use Rattle.bac_transaction.specs.Reuse.{is_read}
use Rattle.bac_transaction.specs.Sharing.{may_begin}
use Rattle.bac_world.specs.Node.{Node}
use Rattle.bac_world.specs.Once.{Stores}
use Rattle.bac_world.specs.Once.Fact.{Performed}
use Rattle.bac_world.specs.ReusingLogs.{Reuses}
use Rattle.bac_world.specs.ReusingWorlds.{DeliversSo, WorldRunSo, WorldStepSo}
use Rattle.bac_world.specs.World.{World, Copy, Event, IsAsked, IsBounded, IsFresh, Time, later, link_at, peer_at, stores_of, told}
use Rattle.bac_world.specs.World.Event.{Deliver}
use Rattle.bac_world.proofs.Asking.{IsAccepted, accepted_whole}
use Rattle.bac_world.proofs.Bridge.{IsCopyOf, slot_key}
use Rattle.bac_world.proofs.Headline.{fresh_over, rules_bounded, rules_of}
use Rattle.bac_world.proofs.Settings.{always}
use Rattle.bac_liveness.specs.FreeIds.{HasNoneLive}
use Rattle.bac_liveness.specs.FreshRoundTrip.{BeginsOther, EndsWith, IsPlaced, NewAskIsAnswered, PerformsNow, ServesRead}
use Rattle.bac_liveness.specs.WorldRoundTrip.{IsRequest, MayArrive}
use Rattle.bac_liveness.proofs.Asked.{just_one}
use Rattle.bac_liveness.proofs.EitherEndings as either
use Rattle.bac_liveness.proofs.EitherEndings.{At, goes_on, step_on}
use Rattle.bac_liveness.proofs.FreeKeys.{unused}
use Rattle.bac_liveness.proofs.FreshRoundTrips as fresh
use Rattle.bac_liveness.proofs.GrowingLogs.{step_stay}
use Rattle.bac_liveness.proofs.Performing.{none_is}
use Rattle.bac_liveness.proofs.Tracking.{Holds, stays}
use Rattle.bac_liveness.proofs.WorldEndings.{opened_net, opened_once}

-- the last of a list of copies is young, and none overtook it

last_at : (cs : List Copy) (c : Copy) → slice_get (cs ++ c ∷ []) (length cs) ≡ Some c
last_at [] c = refl
last_at (d ∷ cs) c = last_at cs c

none_later : (key : Key) (cs : List Copy) (c : Copy) → later key (length cs) (cs ++ c ∷ []) ≡ 0
none_later key [] c = refl
none_later key (d ∷ cs) c = none_later key cs c

one_longer : (cs : List Copy) (c : Copy) → length (cs ++ c ∷ []) ≡ suc (length cs)
one_longer [] c = refl
one_longer (d ∷ cs) c = ap suc (one_longer cs c)

newest_arrives : (overtake : ℕ) (w : World) (before : List Copy) (c : Copy) → w.copies ≡ before ++ c ∷ [] → c.moment ≡ w.time.now
    → MayArrive overtake w (length before) c
newest_arrives overtake w before c is moment = record {
  at = ap (λ (l : List Copy). slice_get l (length before)) is ∙ last_at before c;
  arrives = both (nat_le (w.time.now - c.moment) w.time.pace.life) (nat_le (later c.key (length before) w.copies) overtake)
      (let same = moment in grind (arith, nat_tests))
      (let none : later c.key (length before) w.copies ≡ 0 = ap (later c.key (length before)) is ∙ none_later c.key before c in grind (arith, nat_tests));
}
  where
    both : (a b : Bool) → a ≡ true → b ≡ true → (a && b) ≡ true
    both true true e f = refl
    both true false e f = absurd cc
    both false b e f = absurd cc

module _ (links : ℕ → Option Octets) (apart : (i j : ℕ) (l : Octets) → links i ≡ Some l → links j ≡ Some l → i ≡ j) (W : ℕ) (x : Rules)
    (bound : claims.IsBounded W x) (readable : x.readable ≡ reads_reply) (u : Reuses) (opening : Stores) (old : World)
    (h : At links apart W x bound readable u opening old) (c s : ℕ) (limits : Limits) (r : Request) (asked : World) (a : IsAsked old c s limits r asked)
    (parts : IsAccepted a.before.settings (told old c) (peer_at a.link) (choice_of r) a.asks.octets a.before.clients a.accepted)
    (whole : parts.whole ≡ true) (anew : u s ≡ true) (node : Node) (node_at : slice_get old.nodes s ≡ Some node)
    (can : IsPlaced (told old s) a.before node a.accepted.invoke_id r) where
  abbrev id : ℕ
  id = a.accepted.invoke_id

  foreign : c ≡ s → ⊥
  foreign = either.foreign links apart W x bound readable u opening old h c s limits r asked a parts

  abbrev its_ask : client.Ask
  its_ask = either.ask links apart W x bound readable u opening old h c s limits r asked a parts

  abbrev its_context : Context
  its_context = either.context links apart W x bound readable u opening old h c s limits r asked a parts

  -- its ticket waits for the answer
  abbrev Waits : ClientTransaction → Type 0
  Waits t = t.phase ≡ client.Phase.AwaitConfirmation

  held : (t : Holds c (length old.notes) a.accepted.ticket (either.ask links apart W x bound readable u opening old h c s limits r asked a parts)
      (slot_key a.link id) asked) × Waits t.kept.ticket
  held = either.held_so links apart W x bound readable u opening old h c s limits r asked a parts Waits
      (ap (λ (b : Bool). (client.after (told old c) (client.new_ticket (told old c) its_ask) (if b then client.Reaction.GoesOn client.Phase.AwaitConfirmation
      (request_apdu its_context its_ask ∷ []) else client.sends_request_window its_context its_ask.choice (outgoing its_ask.pieces) false)).phase) whole)

  at_asked : At links apart W x bound readable u opening asked
  at_asked = either.at_asked links apart W x bound readable u opening old h c s limits r asked a parts

  -- no entry of it is live
  none_old : HasNoneLive (told old s) node a.before id
  none_old =
      let e : Some a.link ≡ Some node.link = sym a.peer ∙ ap (option_map (λ (m : Node). m.link)) node_at in
      let link : a.link ≡ node.link = cc in
      let id_is : id ≡ parts.id = ap (λ (y : Accepted). y.invoke_id) parts.is in
      unused links apart W x (Some (always u)) bound old h.0 h.1 c s a.before node a.at node_at id
      ((λ d. ends.is_id_held (told old c) a.before.clients.slots (peer_at (sym link d)) (id_is d)) ∙ parts.free) parts.awake

  now_is : told asked s ≡ told old s
  now_is = ap (λ (t : Time). (t.clocks s).shows) a.time

  none_now : is_none_live (told asked s) (value_at same_key (slot_key a.before.link id) node.servers.slots) ≡ true
  none_now = ap (λ (n : ℕ). is_none_live n (value_at same_key (slot_key a.before.link id) node.servers.slots)) now_is
      ∙ none_is (told old s) (value_at same_key (slot_key a.before.link id) node.servers.slots) none_old

  performs : PerformsNow (told asked s) a.before node id r
  performs = record { serves = go (is_read (choice_of r)) refl can.place; reply = can.reply; outcome = can.outcome; way = can.way }
    where
      go : (b : Bool) → is_read (choice_of r) ≡ b
          → (is_read (choice_of r) ≡ true) ⊎ (may_begin true false (told old s) (slot_key a.before.link id) node.servers ≡ true)
          → ServesRead (told asked s) (slot_key a.before.link id) node.servers r ⊎ BeginsOther (told asked s) (slot_key a.before.link id) node.servers r
      go true is place = inl (record { read = is; idle = inl none_now })
      go false is (inl read) = absurd (let no : true ≡ false = sym read ∙ is in cc)
      go false is (inr place) = inr (record {
        other = is;
        none = none_now;
        place = ap (λ (n : ℕ). may_begin true false n (slot_key a.before.link id) node.servers) now_is ∙ place;
      })

  -- the copy of its request
  first : (b : Copy) × (a.sent ≡ b ∷ [])
  first = just_one (IsCopyOf links apart) _ a.sent (fresh.copied_first links apart W x bound readable u opening old h c s limits r asked a parts whole anew)

  first_is : IsRequest a.sent first.0
  first_is = record { first = first.0; is = first.1; key = refl; octets = refl }

  first_moment : first.0.moment ≡ asked.time.now
  unfolding first first_is
  first_moment = (fresh.first_copy links apart W x bound readable u opening old h c s limits r asked a parts whole anew first.0 first_is).moment
      ∙ ap (λ (t : Time). t.now) (sym a.time)

  first_comes : MayArrive x.overtake asked (length old.copies) first.0
  first_comes = newest_arrives x.overtake asked old.copies first.0 (a.copies ∙ ap (λ (l : List Copy). old.copies ++ l) first.1) first_moment

  node_now : slice_get asked.nodes s ≡ Some node
  node_now = a.nodes.others s (λ is. foreign (sym is)) ∙ node_at

  module _ (served last : World) (serves : WorldStepSo x.overtake u asked (Deliver (length old.copies)) served)
      (answers : WorldStepSo x.overtake u served (Deliver (suc (length old.copies))) last) where
    goes : DeliversSo u asked first.0 served
    goes = fresh.goes links apart W x bound readable u opening old h c s limits r asked a parts whole anew asked served at_asked held.0 (length old.copies)
        first.0 first_comes first_is node node_now performs serves

    to_is : first.0.to ≡ s
    to_is = (fresh.between links apart W x bound readable u opening old h c s limits r asked a parts whole anew asked served at_asked held.0 (length old.copies)
        first.0 first_comes first_is node node_now performs serves).1

    at_served : At links apart W x bound readable u opening served
    at_served = step_on links apart W x bound readable u opening (Deliver (length old.copies)) asked served at_asked serves

    -- its client stays as it was
    held_on : (t : Holds c (length old.notes) a.accepted.ticket (either.ask links apart W x bound readable u opening old h c s limits r asked a parts)
        (slot_key a.link id) served) × Waits t.kept.ticket
    held_on = (
      stays c (length old.notes) a.accepted.ticket (either.ask links apart W x bound readable u opening old h c s limits r asked a parts) (slot_key a.link id)
          asked served (goes.hears.acts.nodes.others c (λ is. foreign (is ∙ to_is))) goes.hears.acts.notes held.0,
      held.1,
    )

    -- its answer
    abbrev answer : Copy
    answer = (fresh.one links apart W x bound readable u opening old h c s limits r asked a parts whole anew asked served at_asked held.0
        (length old.copies) first.0 first_comes first_is node node_now performs serves).0

    answer_comes : MayArrive x.overtake served (length asked.copies) answer
    answer_comes = newest_arrives x.overtake served asked.copies answer
        (fresh.sent links apart W x bound readable u opening old h c s limits r asked a parts whole anew asked served at_asked held.0 (length old.copies)
        first.0 first_comes first_is node node_now performs serves)
        ((fresh.answer_copy links apart W x bound readable u opening old h c s limits r asked a parts whole anew asked served at_asked held.0
        (length old.copies) first.0 first_comes first_is node node_now performs serves).moment ∙ ap (λ (t : Time). t.now) (sym goes.hears.acts.time))

    number_is : suc (length old.copies) ≡ length asked.copies
    number_is = sym (ap (λ (l : List Copy). length l) (a.copies ∙ ap (λ (l : List Copy). old.copies ++ l) first.1) ∙ one_longer old.copies first.0)

    young : told served c - told old c ≤ DEADLINE
    young = let e : told served c ≡ told old c = ap (λ (t : Time). (t.clocks c).shows) (goes.hears.acts.time ∙ a.time) in omega arith

    pub result : EndsWith (length old.notes) r node last.log
    result = record {
      performed = step_stay x.overtake u served last (Deliver (suc (length old.copies))) answers (Performed (length old.notes) r (reply_to node.store r))
          (fresh.performed links apart W x bound readable u opening old h c s limits r asked a parts whole anew asked served at_asked held.0
          (length old.copies) first.0 first_comes first_is node node_now performs serves);
      ended = fresh.result links apart W x bound readable u opening old h c s limits r asked a parts whole anew asked served at_asked held.0
          (length old.copies) first.0 first_comes first_is node node_now performs serves served last at_served held_on.0 held_on.1 young answer_comes
          (subst (λ (k : ℕ). WorldStepSo x.overtake u served (Deliver k) last) number_is answers);
    }

pub new_ask_is_answered : (u : Reuses) (W overtake : ℕ) (first reached : World) → IsFresh first → IsTimely first.time.pace → IsBounded W overtake first
    → (events : List Event) → WorldRunSo overtake u first events reached → NewAskIsAnswered overtake u reached
new_ask_is_answered u W overtake first reached is_fresh timely bounded events run c s limits r asked a in_one anew node at can last two =
    let links : ℕ → Option Octets = link_at first.nodes in
    let x : Rules = rules_of overtake first in
    let bound = rules_bounded W overtake first bounded in
    let h = goes_on links is_fresh.apart W x bound refl u (stores_of first.nodes) events first reached
    (opened_net first, fresh_over (Some (always u)) W overtake first is_fresh timely bounded, opened_once u first is_fresh) run in
    let p = accepted_whole a.before.settings (told reached c) (peer_at a.link) (choice_of r) a.asks.octets a.before.clients a.accepted limits a.asks.accepted in_one in
    result links is_fresh.apart W x bound refl u (stores_of first.nodes) reached h c s limits r asked a p.0 p.1 anew node at can two.0 last two.1
    (subst (λ (v : World). WorldStepSo overtake u two.0 (Deliver (suc (length reached.copies))) v) (sym two.2.2) two.2.1)
