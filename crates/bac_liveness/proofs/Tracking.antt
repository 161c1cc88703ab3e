-- An accepted ask, in every world whose nodes let invoke IDs be used again, or not: its ticket is open at its client, or it has ended.
use Rattle.std.proofs.Common.{◌≡◌, ◌⊎◌, ℕ, ◌+◌, ◌<◌, Bool, true, false, ◌&&◌, List, [], ◌∷◌, length, Some, slice_get, if◌then◌else◌, nat_eq, refl}
use Rattle.std.proofs.Common.{sym, ap, subst, inl, inr, ◌∙◌, arith}
use Rattle.std.proofs.lemmas.Bool.Decides.{nat_tests}
use Rattle.bac_apdu.specs.Apdu.{Apdu, Limits}
use Rattle.bac_npdu.specs.Peers.{PeerView}
use Rattle.bac_protocol.specs.Service.{Octets}
use Rattle.bac_protocol.specs.Wire.{is_from_client}
use Rattle.bac_protocol.specs.Client as client
use Rattle.bac_service.specs.Values.{Request}
use Rattle.bac_slots.specs.Slots.{value_at, IsDistinct}
use Rattle.bac_transaction.specs.Keys.{PeerKey, same_key}
use Rattle.bac_transaction.specs.Meanings.{EndedView, Ending}
use Rattle.bac_transaction.specs.Ends.{ClientEnd}
use Rattle.bac_world.specs.Node.{Node, Outcome, IsDropped}
use Rattle.bac_world.specs.Once.{Fact, Has}
use Rattle.bac_world.specs.Once.Fact.{Ended}
use Rattle.bac_world.specs.ReusingLogs.{Reuses}
use Rattle.bac_world.specs.ReusingWorlds.{ActsSo, DeliversIfSo, HearsSo, WorldStepSo}
use Rattle.bac_world.specs.World.{AreEnded, Copy, Event, IsAsked, IsAskedAway, IsWithNode, Note, RunsOn, World, ask_of, ending_fact, is_away, is_deliverable, told}
use Rattle.bac_world.specs.World.Event.{Ask, AskAway, Deliver, Noise, Stray, Tick, Advance, Change, Restart, Begin, BeginAgain}
use Rattle.bac_world.proofs.Bridge.{away_more}
use Rattle.bac_world.proofs.Heard.{IsHeardIn, IsHeardInBy, heard_in}
use Rattle.bac_world.proofs.Steps.{acts_as, decide_number}
use Rattle.bac_liveness.specs.WorldEnds.{HasFinish}
use Rattle.bac_liveness.proofs.GrowingLogs.{Stay, ended_stay, logged_stay, step_stay}
use Rattle.bac_liveness.proofs.OpenTickets.{IsFinished, IsKept, IsKeptBy, asked_more, asks_keep, finish, hears_keeps, quiet_keeps, tick_keeps, ticket_is}

-- that ask has ended
abbrev pub HasEnded : ℕ → List Fact → Type 0
HasEnded n log = (how : Ending) × Has (Ended n how) log

pub ended_on : (n : ℕ) (old new : List Fact) → Stay old new → HasEnded n old → HasEnded n new
ended_on n old new stay h = (h.0, stay (Ended n h.0) h.1)

-- the client, the number of its ask, its ticket, the ask as its machine has it, and the key of its slot
module _ (c number ticket : ℕ) (ask : client.Ask) (key : PeerKey) where
  -- the ticket is open, and is that of the ask
  pub record Holds (w : World) : Type 0 where
    pub node : Node
    pub at : slice_get w.nodes c ≡ Some node
    pub kept : IsKept key ticket ask node
    pub noted : ask_of c ticket w.notes ≡ Some number
    pub near : is_away number w.notes ≡ false
    pub counted : number < length w.notes
    pub below : ticket < node.clients.asked

  abbrev pub Tracked : World → Type 0
  Tracked w = Holds w ⊎ HasEnded number w.log

  -- its client and the notes are as they were
  abbrev pub stays : (w w' : World) → slice_get w'.nodes c ≡ slice_get w.nodes c → w'.notes ≡ w.notes → Holds w → Holds w'
  stays w w' node notes h = record {
    node = h.node;
    at = node ∙ h.at;
    kept = h.kept;
    noted = ap (ask_of c ticket) notes ∙ h.noted;
    near = ap (is_away number) notes ∙ h.near;
    counted = subst (λ (l : List Note). number < length l) (sym notes) h.counted;
    below = h.below;
  }

  same : (w w' : World) → w' ≡ w → Holds w → Holds w'
  same w w' is h = subst Holds (sym is) h

  -- A node's call.

  logged : (notes : List Note) (how : Ending) → ask_of c ticket notes ≡ Some number → is_away number notes ≡ false → (fs : List EndedView)
      → (old new : List Fact) → AreEnded notes c fs old new → HasFinish (finish ticket how) fs → Has (Ended number how) new
  logged notes how noted near [] old new ended has = absurd has
  logged notes how noted near (f ∷ fs) old new ended (inr has) =
      logged notes how noted near fs (ending_fact (is_away ended.0 notes) ended.0 f.how ∷ old) new ended.2 has
  logged notes how noted near (f ∷ fs) old new ended (inl is) =
      ended_stay notes c fs (ending_fact (is_away ended.0 notes) ended.0 f.how ∷ old) new ended.2 (Ended number how) (inl fact)
    where
      number_is : ended.0 ≡ number
      number_is =
          let e : Some ended.0 ≡ Some number = sym ended.1 ∙ ap (λ (g : EndedView). ask_of c g.ticket notes) is ∙ noted in
          cc

      fact : ending_fact (is_away ended.0 notes) ended.0 f.how ≡ Ended number how
      fact = ap (λ (m : ℕ). ending_fact (is_away m notes) m f.how) number_is ∙ ap (λ (b : Bool). ending_fact b number f.how) near
          ∙ ap (λ (g : EndedView). Ended number g.how) is

  -- of its client, in which it ends
  pub own_ends : (reuse : Bool) (w w' : World) (b : Node) (o : Outcome) → Holds w → ActsSo reuse w c b o w' → (how : Ending)
      → HasFinish (finish ticket how) o.ended → Has (Ended number how) w'.log
  own_ends reuse w w' b o h acts how f = logged_stay reuse w.nodes w.notes c b o.performed acts.between w'.log acts.logged (Ended number how)
      (logged w.notes how h.noted h.near o.ended w.log acts.between acts.ended f)

  -- or not
  own_acts : (reuse : Bool) (w w' : World) (b : Node) (o : Outcome) (h : Holds w) → ActsSo reuse w c b o w' → IsKeptBy key ticket ask h.node b o → Tracked w'
  own_acts reuse w w' b o h acts k = go (k.goes h.kept)
    where
      go : IsKept key ticket ask b ⊎ IsFinished ticket o.ended → Tracked w'
      go (inl kept) = inl (record {
        node = b;
        at = acts.nodes.here;
        kept = kept;
        noted = ap (ask_of c ticket) acts.notes ∙ h.noted;
        near = ap (is_away number) acts.notes ∙ h.near;
        counted = subst (λ (l : List Note). number < length l) (sym acts.notes) h.counted;
        below = subst (λ (m : ℕ). ticket < m) (sym k.asked) h.below;
      })
      go (inr f) = inr (f.0, own_ends reuse w w' b o h acts f.0 f.1)

  -- of any node
  acts : (reuse : Bool) (w w' : World) (i : ℕ) (a b : Node) (o : Outcome) → slice_get w.nodes i ≡ Some a → ActsSo reuse w i b o w'
      → IsKeptBy key ticket ask a b o → Holds w → Tracked w'
  acts reuse w w' i a b o at did k h = go (decide_number c i)
    where
      go : ((c ≡ i) ⊎ (c ≡ i → ⊥)) → Tracked w'
      go (inr ne) = inl (stays w w' (did.nodes.others c ne) did.notes h)
      go (inl is) =
          let there : Some h.node ≡ Some a = sym h.at ∙ ap (slice_get w.nodes) is ∙ at in
          let node : a ≡ h.node = (let e = there in cc) in
          own_acts reuse w w' b o h (subst (λ (j : ℕ). ActsSo reuse w j b o w') (sym is) did)
          (subst (λ (n : Node). IsKeptBy key ticket ask n b o) node k)

  -- what a node makes of a datagram
  hears : (reuse : Bool) (w w' : World) (i : ℕ) (from octets : Octets) → HearsSo reuse w i from octets w' → Holds w → Tracked w'
  hears reuse w w' i from octets d = acts reuse w w' i d.before d.after d.outcome d.at d.acts
      (on (heard_in (told w i) from octets d.before d.after d.outcome reuse d.on))
    where
      by : (up : Bool) (peer : PeerView) (a : Apdu) → IsHeardInBy reuse up peer a (told w i) d.before d.after d.outcome
          → IsKeptBy key ticket ask d.before d.after d.outcome
      by true peer a turn = quiet_keeps key ticket ask d.before d.after d.outcome (ap (λ (n : Node). n.clients) turn.1.node)
      by false peer a turn = hears_keeps key ticket ask (told w i) peer a d.before d.after d.outcome turn

      on : IsDropped (told w i) from octets d.before d.after d.outcome ⊎ IsHeardIn reuse (told w i) from octets d.before d.after d.outcome
          → IsKeptBy key ticket ask d.before d.after d.outcome
      on (inl z) = quiet_keeps key ticket ask d.before d.after d.outcome (ap (λ (n : Node). n.clients) z.node)
      on (inr z) = by (is_from_client z.apdu) z.peer z.apdu z.heard

  -- Notes.

  -- another one is not its own
  noted_more : (note : Note) (notes : List Note) → (nat_eq note.key.client c && nat_eq note.ticket ticket) ≡ false → ask_of c ticket notes ≡ Some number
      → ask_of c ticket (note ∷ notes) ≡ Some number
  noted_more note notes other noted = ap (λ (b : Bool). if b then Some (length notes) else ask_of c ticket notes) other ∙ noted

  with_note : (w w' : World) (note : Note) (n : Node) → slice_get w'.nodes c ≡ Some n → IsKept key ticket ask n → ticket < n.clients.asked
      → w'.notes ≡ note ∷ w.notes → (nat_eq note.key.client c && nat_eq note.ticket ticket) ≡ false → Holds w → Holds w'
  with_note w w' note n at kept below notes other h = record {
    node = n;
    at = at;
    kept = kept;
    noted = ap (ask_of c ticket) notes ∙ noted_more note w.notes other h.noted;
    near = ap (is_away number) notes ∙ away_more number note w.notes h.counted ∙ h.near;
    counted = subst (λ (l : List Note). number < length l) (sym notes) (let lt = h.counted in omega arith);
    below = below;
  }

  and_false : (a b : Bool) → b ≡ false → (a && b) ≡ false
  and_false true b e = e
  and_false false b e = refl

  differ : (i j : ℕ) → (i ≡ j → ⊥) → nat_eq i j ≡ false
  differ i j ne = go (nat_eq i j) refl
    where
      go : (b : Bool) → nat_eq i j ≡ b → b ≡ false
      go true e = absurd (ne (grind (arith, nat_tests)))
      go false e = refl

  -- another ask, of a node or of a stranger
  another : (w w' : World) (i : ℕ) (note : Note) (a b : Node) → slice_get w.nodes i ≡ Some a → IsWithNode w.nodes i b w'.nodes → w'.notes ≡ note ∷ w.notes
      → note.key.client ≡ i → note.ticket ≡ a.clients.asked → b.clients.asked ≡ a.clients.asked + 1
      → (IsKept key ticket ask a → IsKept key ticket ask b) → Holds w → Holds w'
  another w w' i note a b at nodes notes client_is ticket_is asked keeps h = go (decide_number c i)
    where
      go : ((c ≡ i) ⊎ (c ≡ i → ⊥)) → Holds w'
      go (inr ne) = with_note w w' note h.node (nodes.others c ne ∙ h.at) h.kept h.below notes
          (ap (λ (b : Bool). b && nat_eq note.ticket ticket) (differ note.key.client c (λ e. ne (sym e ∙ client_is)))) h
      go (inl is) =
          let there : Some h.node ≡ Some a = sym h.at ∙ ap (slice_get w.nodes) is ∙ at in
          let node : h.node ≡ a = (let e = there in cc) in
          let below : ticket < a.clients.asked = subst (λ (n : Node). ticket < n.clients.asked) node h.below in
          with_note w w' note b (ap (slice_get w'.nodes) is ∙ nodes.here) (keeps (subst (IsKept key ticket ask) node h.kept)) (omega arith) notes
          (and_false (nat_eq note.key.client c) (nat_eq note.ticket ticket) (differ note.ticket ticket (λ e. omega arith))) h

  -- Steps.

  -- the slots of its client have different keys
  abbrev pub AreDistinct : World → Type 0
  AreDistinct w = (i : ℕ) (n : Node) → slice_get w.nodes i ≡ Some n → IsDistinct same_key n.clients.slots

  asks : (w w' : World) (i s : ℕ) (limits : Limits) (r : Request) → (a : IsAsked w i s limits r w') → AreDistinct w → Holds w → Holds w'
  asks w w' i s limits r a distinct = another w w' i _ a.before a.after a.at a.nodes a.notes refl
      (ticket_is key ticket ask (told w i) _ limits r a.before a.after a.accepted a.sends a.asks)
      (asked_more key ticket ask (told w i) _ limits r a.before a.after a.accepted a.sends a.asks)
      (asks_keep key ticket ask (told w i) _ limits r a.before a.after a.accepted a.sends a.asks (distinct i a.before a.at))

  asks_away : (w w' : World) (i : ℕ) (peer : PeerView) (limits : Limits) (r : Request) → (a : IsAskedAway w i peer limits r w') → AreDistinct w → Holds w → Holds w'
  asks_away w w' i peer limits r a distinct = another w w' i _ a.before a.after a.at a.nodes a.notes refl
      (ticket_is key ticket ask (told w i) peer limits r a.before a.after a.accepted a.sends a.asks)
      (asked_more key ticket ask (told w i) peer limits r a.before a.after a.accepted a.sends a.asks)
      (asks_keep key ticket ask (told w i) peer limits r a.before a.after a.accepted a.sends a.asks (distinct i a.before a.at))

  -- a node that is not its client is another one, or its client has its end as it was
  elsewhere : (w w' : World) (i : ℕ) (a b : Node) → slice_get w.nodes i ≡ Some a → IsWithNode w.nodes i b w'.nodes → w'.notes ≡ w.notes
      → (i ≡ c → ⊥) → Holds w → Holds w'
  elsewhere w w' i a b at nodes notes ne h = stays w w' (nodes.others c (λ is. ne (sym is))) notes h

  alike : (w w' : World) (i : ℕ) (a b : Node) → slice_get w.nodes i ≡ Some a → IsWithNode w.nodes i b w'.nodes → w'.notes ≡ w.notes
      → b.clients ≡ a.clients → Holds w → Holds w'
  alike w w' i a b at nodes notes clients h = go (decide_number c i)
    where
      go : ((c ≡ i) ⊎ (c ≡ i → ⊥)) → Holds w'
      go (inr ne) = stays w w' (nodes.others c ne) notes h
      go (inl is) =
          let there : Some h.node ≡ Some a = sym h.at ∙ ap (slice_get w.nodes) is ∙ at in
          let node : h.node ≡ a = (let e = there in cc) in
          let ends : b.clients ≡ h.node.clients = clients ∙ ap (λ (n : Node). n.clients) (sym node) in
          record {
            node = b;
            at = ap (slice_get w'.nodes) is ∙ nodes.here;
            kept = record {
              ticket = h.kept.ticket;
              there = ap (λ (e : ClientEnd). value_at same_key key e.slots) ends ∙ h.kept.there;
              going = h.kept.going;
              ask_is = h.kept.ask_is;
            };
            noted = ap (ask_of c ticket) notes ∙ h.noted;
            near = ap (is_away number) notes ∙ h.near;
            counted = subst (λ (l : List Note). number < length l) (sym notes) h.counted;
            below = subst (λ (e : ClientEnd). ticket < e.asked) (sym ends) h.below;
          }

  module _ (overtake : ℕ) (u : Reuses) where
    delivers : (b : Bool) (w w' : World) (d : Copy) → DeliversIfSo b u w d w' → Holds w → Tracked w'
    delivers true w w' d y h = hears (u d.to) w w' d.to y.link d.octets y.hears h
    delivers false w w' d is h = inl (same w w' is h)

    holds_step : (w w' : World) (e : Event) → WorldStepSo overtake u w e w' → RunsOn c (e ∷ []) → AreDistinct w → Holds w → Tracked w'
    holds_step w w' (Ask i s limits r) (inl a) on distinct h = inl (asks w w' i s limits r a distinct h)
    holds_step w w' (Ask i s limits r) (inr a) on distinct h = inl (same w w' a.same h)
    holds_step w w' (AskAway i peer limits r) (inl a) on distinct h = inl (asks_away w w' i peer limits r a distinct h)
    holds_step w w' (AskAway i peer limits r) (inr a) on distinct h = inl (same w w' a.same h)
    holds_step w w' (Deliver k) d on distinct h = delivers (is_deliverable overtake w.time.pace.life w.time.now k w.copies d.copy) w w' d.copy d.goes h
    holds_step w w' (Noise i from octets) (inl d) on distinct h = hears (u i) w w' i from octets d.hears h
    holds_step w w' (Noise i from octets) (inr d) on distinct h = inl (same w w' d.same h)
    holds_step w w' (Stray i from octets) (inl d) on distinct h = hears (u i) w w' i from octets d.hears h
    holds_step w w' (Stray i from octets) (inr d) on distinct h = inl (same w w' d.same h)
    holds_step w w' (Tick i) d on distinct h = acts false w w' i d.before d.after d.outcome d.at (acts_as w w' i d.after d.outcome d.acts)
        (tick_keeps key ticket ask (told w i) d.before d.after d.outcome d.tick (distinct i d.before d.at)) h
    holds_step w w' (Advance by own) is on distinct h = inl (stays w w' (ap (λ (v : World). slice_get v.nodes c) is) (ap (λ (v : World). v.notes) is) h)
    holds_step w w' (Change i change) d on distinct h = inl (alike w w' i d.before _ d.at d.nodes d.notes refl h)
    holds_step w w' (Restart i exact store) d on distinct h = inl (elsewhere w w' i d.before _ d.at d.nodes d.notes on.0 h)
    holds_step w w' (Begin i exact) d on distinct h = inl (stays w w' (ap (λ (v : World). slice_get v.nodes c) d.is) (ap (λ (v : World). v.notes) d.is) h)
    holds_step w w' (BeginAgain i exact first_id store) d on distinct h = inl (elsewhere w w' i d.before _ d.at d.nodes d.notes on.0 h)

    pub tracked_step : (w w' : World) (e : Event) → WorldStepSo overtake u w e w' → RunsOn c (e ∷ []) → AreDistinct w → Tracked w → Tracked w'
    tracked_step w w' e did on distinct (inl h) = holds_step w w' e did on distinct h
    tracked_step w w' e did on distinct (inr ended) = inr (ended_on number w.log w'.log (step_stay overtake u w w' e did) ended)
