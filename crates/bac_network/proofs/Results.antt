-- What a straight run makes of a world that was reached.
use Rattle.std.proofs.Common.{◌≡◌, ℕ, ◌+◌, List, [], ◌∷◌, length, Option, Some, refl, sym, ap, subst, inl, inr, ◌∙◌}
use Rattle.std.specs.Option.{option_map}
use Rattle.bac_apdu.specs.Apdu.{Limits}
use Rattle.bac_protocol.specs.Pace.{IsTimely}
use Rattle.bac_protocol.specs.Service.{Octets}
use Rattle.bac_protocol.specs.Sizes.{request_way_of}
use Rattle.bac_service.specs.Values.{Request}
use Rattle.bac_store.specs.Replies.{reply_to}
use Rattle.bac_transaction.specs.Meanings.{Ending}
use Rattle.bac_world.specs.Node.{Node, NodeRefuses}
use Rattle.bac_world.specs.Once.Fact.{Asked}
use Rattle.bac_world.specs.World.{World, Event, WorldRun, IsFresh, IsBounded, IsAsked, peer_at, told}
use Rattle.bac_liveness.specs.StraightRuns.{IsStraight, ending_in}
use Rattle.bac_liveness.specs.StraightAnswers.{CanAnswer, IsAnswered, datagrams, way_between}
use Rattle.bac_liveness.proofs.StraightRuns.Reached.{straight_answers}
use Rattle.bac_network.specs.Logs.{IsSince, DeliverUnended, Stops}
use Rattle.bac_network.specs.StraightRuns.{CanBeAnswered, Goes, GoesAt, IsAnsweredSoon, IsNoRun, IsWellMadeAt, WentBy, limits_of_server}
use Rattle.bac_network.proofs.Open.{open_until_ended, none_ended}
use Rattle.bac_network.proofs.Deliveries.{run_of, was_straight}

module _ (W overtake : ℕ) (first old : World) (fresh : IsFresh first) (timely : IsTimely first.time.pace) (bounded : IsBounded W overtake first)
    (events : List Event) (run : WorldRun overtake first events old) where
  -- after an ask its log has the facts before it, and no ending of it
  pub asked_since : (client server : ℕ) (limits : Limits) (r : Request) (asked : World) → IsAsked old client server limits r asked
      → IsSince (length old.log) (length old.notes) asked.log
  asked_since client server limits r asked asks = record {
    newer = Asked (length old.notes) client server r ∷ [];
    older = old.log;
    is = asks.log;
    many = refl;
    none = none_ended W overtake first old fresh timely bounded events run;
  }

  module _ (client server : ℕ) (limits : Limits) (r : Request) (asked new : World) (asks : IsAsked old client server limits r asked) where
    pub delivered_run : (count : ℕ) → DeliverUnended overtake (length old.notes) count (length old.copies) asked new
        → WentBy overtake old client server limits r new
    delivered_run count each = inr (count, (asked, inl asks, run_of overtake (length old.notes) count (length old.copies) asked new each))

    pub delivered_straight : (count : ℕ) → DeliverUnended overtake (length old.notes) count (length old.copies) asked new
        → Stops (length old.notes) (length old.copies + count) new
        → IsStraight overtake old client server limits r (ending_in (length old.notes) new.log) count new
    delivered_straight count each stops =
        was_straight overtake old (open_until_ended W overtake first old fresh timely bounded events run) client server limits r asked asks count new each stops

  -- where it can be answered it is
  module _ (client server : ℕ) (r : Request) (ending : Option Ending) (count : ℕ) (new : World) (g : GoesAt overtake old client server r ending count new)
      (well : IsWellMadeAt old client) (well_too : IsWellMadeAt old server) (a b : Node) (can : CanBeAnswered overtake old client server a b r) where
    can_answer : CanAnswer overtake (told old server) a b r
    can_answer = record {
      slot = can.can.slot;
      short = (well_too b can.server_at).replies r;
      goes = can.can.goes;
      client_window = (well a can.client_at).window;
      server_window = (well_too b can.server_at).window;
      room = can.can.room;
    }

    server_is : g.node ≡ b
    server_is = let e : Some g.node ≡ Some b = sym g.at ∙ can.server_at in cc

    ran : IsStraight overtake old client server (limits_of_server g.node) r ending count new → IsAnsweredSoon old client server a b r ending count new
    ran it =
        let before : it.asks.before ≡ a = let e : Some it.asks.before ≡ Some a = sym it.asks.at ∙ can.client_at in cc in
        let answers = straight_answers W overtake first old fresh timely bounded events run in
        let answered = answers client server (limits_of_server g.node) r ending count new it b can.server_at
        (subst (λ (x : Node). CanAnswer overtake (told old server) x b r) (sym before) can_answer) in
        record {
          octets = it.asks.asks.octets;
          spelled = it.asks.asks.spelled;
          answered =
              subst (λ (x : Node). IsAnswered old client server r b.store (datagrams (request_way_of a.settings (limits_of_server x) it.asks.asks.octets))
              (datagrams (way_between a.settings b.settings (reply_to b.store r))) ending count new) server_is
              (subst (λ (x : Node). IsAnswered old client server r b.store
              (datagrams (request_way_of x.settings (limits_of_server g.node) it.asks.asks.octets))
              (datagrams (way_between x.settings b.settings (reply_to b.store r))) ending count new) before answered);
        }

    refused : IsNoRun old client server (limits_of_server g.node) r ending count new → IsAnsweredSoon old client server a b r ending count new
    refused was =
        let node : was.refused.node ≡ a = let e : Some was.refused.node ≡ Some a = sym was.refused.at ∙ can.client_at in cc in
        let link : was.refused.link ≡ b.link =
        let e : Some was.refused.link ≡ Some b.link = sym was.refused.peer
        ∙ ap (λ (o : Option Node). option_map (λ (n : Node). n.link) o) can.server_at in cc in
        absurd (can.may_ask was.refused.refusal
        (subst (λ (x : Node). NodeRefuses (told old client) (peer_at b.link) (limits_of_server x) r a was.refused.refusal) server_is
        (subst (λ (l : Octets). NodeRefuses (told old client) (peer_at l) (limits_of_server g.node) r a was.refused.refusal) link
        (subst (λ (x : Node). NodeRefuses (told old client) (peer_at was.refused.link) (limits_of_server g.node) r x was.refused.refusal) node
        was.refused.why))))

    pub soon : IsAnsweredSoon old client server a b r ending count new
    soon = go g.goes
      where
        go : Goes overtake old client server (limits_of_server g.node) r ending count new → IsAnsweredSoon old client server a b r ending count new
        go (inl it) = ran it
        go (inr was) = refused was
