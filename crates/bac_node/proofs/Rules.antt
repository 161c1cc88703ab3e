-- What a node makes of a datagram by its rules, and what it makes of one that is told none.
use Rattle.std.proofs.Common.{◌≡◌, ◌∙◌, ◌≤◌, ◌↔◌, ℕ, Bool, true, false, Option, Some, None, Result, Ok, Err, ap, refl, sym, subst, inl, inr, arith}
use Rattle.std.specs.Prelude.{IfOk}
use Rattle.bac_apdu.specs.Apdu.{Apdu}
use Rattle.bac_npdu.specs.Peers.{PeerView}
use Rattle.bac_protocol.specs.Service.{Octets}
use Rattle.bac_protocol.specs.Serving.{ReadRule}
use Rattle.bac_protocol.specs.Wire.{is_from_client}
use Rattle.bac_transaction.specs.Ends.{ServerEnd, ServerTurn}
use Rattle.bac_transaction.specs.Reuse.{is_read}
use Rattle.bac_transaction.specs.Services.{service_of}
use Rattle.bac_transaction.specs.Sharing.{EndRules, STRICT, fresh_rules}
use Rattle.bac_transaction.specs.Serving.{is_turned_away_by, responder_by}
use Rattle.bac_transaction.proofs.ByRules.{fresh_is_reusing, remembers_all, strict_is_responder}
use Rattle.bac_responder.specs.Kept.{HasShortReplies, IsWithin as EndIsWithin, kept_octets}
use Rattle.bac_world.specs.Node.{IsHeardBy, IsServerTurn, Node, NodeOn, Outcome}
use Rattle.bac_world.specs.ReusingNodes.{IsHeardReusingBy, NodeHears, NodeHearsSo, NodeReusing}
use Rattle.bac_node.specs.Memory.{IsWithin}
use Rattle.bac_node.specs.Serving.{AreSetTo, FreshIsReusing, GivenAreSet, HearsAsInWorlds, IsHeardSoBy, NodeHearsBy, NodeServes, RemembersLong, StrictIsOn, reads_of}
use Rattle.bac_node.specs.Views.{outcome_view}
use Rattle.bac_node.specs.declared.fault.NodeFault.{NodeFault}
use Rattle.bac_node.specs.declared.outcome.Outcome as code
use Rattle.bac_store.specs.Stores.{Store}

module _ (now : ℕ) (old new : Node) (o : Outcome) where
  -- what an APDU of a peer makes of the server's end, by those rules
  abbrev turn_by : EndRules → PeerView → Apdu → ServerTurn
  turn_by rules peer a = responder_by rules old.settings now (service_of old.store) peer a old.servers

  abbrev away_by : EndRules → PeerView → Apdu → Bool
  away_by rules peer a = is_turned_away_by rules old.settings now (service_of old.store) peer a old.servers

  -- The strict rules.

  strict_heard : (away server : Bool) (peer : PeerView) (a : Apdu) → IsHeardSoBy STRICT away server peer a now old new o → IsHeardBy server peer a now old new o
  strict_heard away true peer a h =
      subst (λ (t : ServerTurn). IsServerTurn t now old new o) (strict_is_responder old.settings now (service_of old.store) peer a old.servers) h.turn
  strict_heard away false peer a h = h.0

  heard_strictly : (server : Bool) (peer : PeerView) (a : Apdu) → IsHeardBy server peer a now old new o → (away : Bool) × IsHeardSoBy STRICT away server peer a now old new o
  heard_strictly true peer a h = (
    away_by STRICT peer a,
    record {
      turn = subst (λ (t : ServerTurn). IsServerTurn t now old new o) (sym (strict_is_responder old.settings now (service_of old.store) peer a old.servers)) h;
      told = refl;
    },
  )
  heard_strictly false peer a h = (false, (h, refl))

  -- Fresh reads.

  fresh_heard : (share away server : Bool) (peer : PeerView) (a : Apdu) → IsHeardSoBy (fresh_rules is_read None share) away server peer a now old new o
      → IsHeardReusingBy share server peer a now old new o
  fresh_heard share away true peer a h =
      subst (λ (t : ServerTurn). IsServerTurn t now old new o) (fresh_is_reusing share old.settings now (service_of old.store) peer a old.servers) h.turn
  fresh_heard share away false peer a h = h.0

  heard_fresh : (share server : Bool) (peer : PeerView) (a : Apdu) → IsHeardReusingBy share server peer a now old new o
      → (away : Bool) × IsHeardSoBy (fresh_rules is_read None share) away server peer a now old new o
  heard_fresh share true peer a h = (
    away_by (fresh_rules is_read None share) peer a,
    record {
      turn = subst (λ (t : ServerTurn). IsServerTurn t now old new o) (sym (fresh_is_reusing share old.settings now (service_of old.store) peer a old.servers)) h;
      told = refl;
    },
  )
  heard_fresh share false peer a h = (false, (h, refl))

  -- What is remembered.

  other_heard : (rules others : EndRules) → ((peer : PeerView) (a : Apdu) → turn_by rules peer a ≡ turn_by others peer a) → (away server : Bool) (peer : PeerView)
      (a : Apdu) → IsHeardSoBy rules away server peer a now old new o → (other : Bool) × IsHeardSoBy others other server peer a now old new o
  other_heard rules others same away true peer a h =
      (away_by others peer a, record { turn = subst (λ (t : ServerTurn). IsServerTurn t now old new o) (same peer a) h.turn; told = refl })
  other_heard rules others same away false peer a h = (away, h)

  module _ (from octets : Octets) where
    -- by rules that make the same of each APDU
    hears_other : (rules others : EndRules) → ((peer : PeerView) (a : Apdu) → turn_by rules peer a ≡ turn_by others peer a)
        → NodeHearsBy rules now from octets old new o → NodeHearsBy others now from octets old new o
    hears_other rules others same h = go h.away h.serves
      where
        go : (away : Bool) → NodeServes rules away now from octets old new o → NodeHearsBy others now from octets old new o
        go away (inl d) = record { away = false; serves = inl (d.0, refl) }
        go away (inr z) =
            let did = other_heard rules others same away (is_from_client z.apdu) z.peer z.apdu z.heard in
            record { away = did.0; serves = inr (record { peer = z.peer; apdu = z.apdu; foreign = z.foreign; means = z.means; heard = did.1 }) }

    pub to_on : (away : Bool) → NodeServes STRICT away now from octets old new o → NodeOn now from octets old new o
    to_on away (inl d) = inl d.0
    to_on away (inr z) = inr (record {
      peer = z.peer;
      apdu = z.apdu;
      foreign = z.foreign;
      means = z.means;
      heard = strict_heard away (is_from_client z.apdu) z.peer z.apdu z.heard;
    })

    pub from_on : NodeOn now from octets old new o → NodeHearsBy STRICT now from octets old new o
    from_on (inl d) = record { away = false; serves = inl (d, refl) }
    from_on (inr z) =
        let did = heard_strictly (is_from_client z.apdu) z.peer z.apdu z.heard in
        record { away = did.0; serves = inr (record { peer = z.peer; apdu = z.apdu; foreign = z.foreign; means = z.means; heard = did.1 }) }

    to_reusing : (share away : Bool) → NodeServes (fresh_rules is_read None share) away now from octets old new o → NodeReusing share now from octets old new o
    to_reusing share away (inl d) = inl d.0
    to_reusing share away (inr z) = inr (record {
      peer = z.peer;
      apdu = z.apdu;
      foreign = z.foreign;
      means = z.means;
      heard = fresh_heard share away (is_from_client z.apdu) z.peer z.apdu z.heard;
    })

    from_reusing : (share : Bool) → NodeReusing share now from octets old new o → NodeHearsBy (fresh_rules is_read None share) now from octets old new o
    from_reusing share (inl d) = record { away = false; serves = inl (d, refl) }
    from_reusing share (inr z) =
        let did = heard_fresh share (is_from_client z.apdu) z.peer z.apdu z.heard in
        record { away = did.0; serves = inr (record { peer = z.peer; apdu = z.apdu; foreign = z.foreign; means = z.means; heard = did.1 }) }

    -- as in worlds, where a request is remembered as long as its entry lives

    abbrev world_rules : (reuse share : Bool) → EndRules
    world_rules reuse share = record { machine = record { reads = reads_of reuse; remember = None }; share = share }

    to_world : (reuse share : Bool) → (reuse ≡ false → share ≡ false) → NodeHearsBy (world_rules reuse share) now from octets old new o
        → NodeHearsSo reuse share now from octets old new o
    to_world true share only h = to_reusing share h.away h.serves
    to_world false share only h =
        let strict = subst (λ (b : Bool). NodeHearsBy (world_rules false b) now from octets old new o) (only refl) h in to_on strict.away strict.serves

    from_world : (reuse share : Bool) → (reuse ≡ false → share ≡ false) → NodeHearsSo reuse share now from octets old new o
        → NodeHearsBy (world_rules reuse share) now from octets old new o
    from_world true share only h = from_reusing share h
    from_world false share only h = subst (λ (b : Bool). NodeHearsBy (world_rules false b) now from octets old new o) (sym (only refl)) (from_on h)

    abbrev rules_so : ReadRule → (remember : Option ℕ) → (share : Bool) → EndRules
    rules_so reads remember share = record { machine = record { reads = reads; remember = remember }; share = share }

    long_is : (reads : ReadRule) (remember : Option ℕ) (share : Bool) → RemembersLong remember → (peer : PeerView) (a : Apdu)
        → turn_by (rules_so reads remember share) peer a ≡ turn_by (rules_so reads None share) peer a
    long_is reads None share long peer a = refl
    long_is reads (Some limit) share long peer a =
        remembers_all (rules_so reads None share) limit old.settings now (service_of old.store) peer a old.servers long

    world_is : (reuse : Bool) (rules : EndRules) → AreSetTo reuse rules → (peer : PeerView) (a : Apdu)
        → turn_by rules peer a ≡ turn_by (world_rules reuse rules.share) peer a
    world_is reuse rules set peer a =
        long_is rules.machine.reads rules.machine.remember rules.share set.remembers peer a
        ∙ ap (λ (r : ReadRule). turn_by (rules_so r None rules.share) peer a) set.reads

    pub hears_in_world : (reuse : Bool) (rules : EndRules) → AreSetTo reuse rules → NodeHearsBy rules now from octets old new o
        ↔ NodeHearsSo reuse rules.share now from octets old new o
    hears_in_world reuse rules set = (
      λ h. to_world reuse rules.share set.shares (hears_other rules (world_rules reuse rules.share) (world_is reuse rules set) h),
      λ h. hears_other (world_rules reuse rules.share) rules (λ peer a. sym (world_is reuse rules set peer a)) (from_world reuse rules.share set.shares h),
    )

    -- and so as in worlds whose nodes share their slots or not
    heard_so : (reuse share : Bool) → NodeHearsSo reuse share now from octets old new o → NodeHears reuse now from octets old new o
    heard_so true share h = (share, h)
    heard_so false share h = h

    pub hears_in_some : (reuse : Bool) (rules : EndRules) → AreSetTo reuse rules → NodeHearsBy rules now from octets old new o
        → NodeHears reuse now from octets old new o
    hears_in_some reuse rules set h = heard_so reuse rules.share ((hears_in_world reuse rules set).0 h)

pub strict_is_on : StrictIsOn
strict_is_on now from octets old new o = (λ h. to_on now old new o from octets h.away h.serves, from_on now old new o from octets)

pub fresh_is_so : FreshIsReusing
fresh_is_so share now from octets old new o =
    (λ h. to_reusing now old new o from octets share h.away h.serves, from_reusing now old new o from octets share)

pub hears_as_in_worlds : HearsAsInWorlds
hears_as_in_worlds reuse rules set now from octets old new o = hears_in_world now old new o from octets reuse rules set

-- what one returned that was told the strict rules

pub as_told : (rules : EndRules) → rules ≡ STRICT → (now : ℕ) (from octets : Octets) (old new : Node) (r : Result code.Outcome NodeFault)
    → IfOk r (λ o. NodeServes rules o.turned_away now from octets old new (outcome_view o))
    → IfOk r (λ o. NodeServes STRICT o.turned_away now from octets old new (outcome_view o))
as_told rules is now from octets old new (Ok o) h = subst (λ (y : EndRules). NodeServes y o.turned_away now from octets old new (outcome_view o)) is h
as_told rules is now from octets old new (Err e) h = tt

pub as_returned : (rules : EndRules) → rules ≡ STRICT → (now : ℕ) (from octets : Octets) (old new : Node) (r : Result code.Outcome NodeFault)
    → IfOk r (λ o. NodeServes rules o.turned_away now from octets old new (outcome_view o)) → IfOk r (λ o. NodeOn now from octets old new (outcome_view o))
as_returned rules is now from octets old new (Ok o) h =
    to_on now old new (outcome_view o) from octets o.turned_away
    (subst (λ (y : EndRules). NodeServes y o.turned_away now from octets old new (outcome_view o)) is h)
as_returned rules is now from octets old new (Err e) h = tt

-- What is kept.

-- where the server's end did not change, it keeps as much
pub same_within : (memory : Option ℕ) (old new : Node) → new.servers ≡ old.servers → IsWithin memory old new
same_within None old new same = tt
same_within (Some memory) old new same = let all = ap (λ (v : ServerEnd). kept_octets v.slots) same in omega (arith, all)

pub served_within : (memory : Option ℕ) (s : Store) (old new : Node) (v : ServerEnd) → new.servers ≡ v → HasShortReplies s → EndIsWithin memory s old.servers v
    → IsWithin memory old new
served_within None s old new v is short within = tt
served_within (Some memory) s old new v is short within =
    let all = ap (λ (e : ServerEnd). kept_octets e.slots) is in let small = within short in omega (arith, all, small)

-- What code is given.

pub given_are_set : GivenAreSet
given_are_set true memory = record { reads = refl; remembers = tt; shares = λ off. absurd cc }
given_are_set false memory = record { reads = refl; remembers = tt; shares = λ off. refl }
