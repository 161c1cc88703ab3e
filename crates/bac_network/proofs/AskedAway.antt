-- A node asks a stranger.
use Rattle.std.proofs.Common.{◌≡◌, ℕ, ◌≤◌, List, ◌∷◌, length, Option, None, Some, Result, Ok, slice_get, refl, sym, ap, subst, inl, inr, ◌∙◌, arith}
use Rattle.bac_apdu.specs.Apdu.{Limits}
use Rattle.bac_npdu.specs.Peers.{PeerView}
use Rattle.bac_requester.specs.declared.ask_fault.AskFault.{AskFault}
use Rattle.bac_requester.specs.declared.ask_fault.AskFault.TheVariants as ask_fault
use Rattle.bac_requester.specs.declared.asking.Asked as code
use Rattle.bac_service.specs.Values.{Request}
use Rattle.bac_node.specs.Calls as node
use Rattle.bac_node.specs.Calls.{Refuses}
use Rattle.bac_world.specs.Node.{Node, NodeRefuses, Refusal}
use Rattle.bac_world.specs.Once.{Fact}
use Rattle.bac_world.specs.World.{Event, IsAskedAway, IsWithNode, with_act}
use Rattle.bac_world.specs.World.Event.{AskAway}
use Rattle.bac_journal.specs.Entering.{tickets_of}
use Rattle.bac_journal.specs.Journals.{JournalView}
use Rattle.bac_journal.specs.Lives.{lives_at}
use Rattle.bac_network.specs.Asks.{CanAskAway, IsNotedAway, TellsFault, away_note}
use Rattle.bac_network.specs.Clocks.{instant, time_at}
use Rattle.bac_network.specs.Goings.{Goes}
use Rattle.bac_network.specs.Networks.{told_in, world_of}
use Rattle.bac_network.specs.Steps.{HappensTelling, IsRefusedFor, refusal_of}
use Rattle.bac_network.specs.Views.{log_view}
use Rattle.bac_network.specs.declared.fault.WorldFault.{WorldFault}
use Rattle.bac_network.specs.declared.network.Network.{Network}
use Rattle.bac_network.proofs.Asked.{ticket_is}

-- An ask that was accepted.

module _ (n : Network) (client : ℕ) (peer : PeerView) (can : CanAskAway client peer n) (limits : Limits) (r : Request) (nodes : List Node) (x : code.Asked)
    (before : List Node) (are : before ≡ n.nodes.items) (now : ℕ) (is : now ≡ told_in n client)
    (went : Goes before client (λ a c. node.IsAsked now peer limits r a c x) nodes) where
  g : Goes n.nodes.items client (λ a c. node.IsAsked (told_in n client) peer limits r a c x) nodes
  g = subst (λ l. Goes l client (λ a c. node.IsAsked (told_in n client) peer limits r a c x) nodes) are
      (subst (λ (t : ℕ). Goes before client (λ a c. node.IsAsked t peer limits r a c x) nodes) is went)

  pub ask_counted : x.ticket ≤ tickets_of client n.journal.notes
  ask_counted =
      let k = g.goes in
      let same = k.ticket ∙ ticket_is (told_in n client) peer limits r g.before g.after k.accepted x.sends.items k.asks in
      let few = can.ready.can.counted client g.before g.at in
      omega arith

  pub is_asked_away : (n' : Network) → n'.nodes.items ≡ nodes
      → IsNotedAway client peer r x.invoke_id x.ticket n.journal n'.journal (log_view n.log.items) (log_view n'.log.items)
      → IsAskedAway (world_of n) client peer limits r (world_of n')
  is_asked_away n' same h =
      let k = g.goes in
      record {
        before = g.before;
        at = g.at;
        stranger = can.stranger;
        after = g.after;
        accepted = k.accepted;
        sends = x.sends.items;
        asks = k.asks;
        nodes = subst (λ l. IsWithNode n.nodes.items client g.after l) (sym same) g.nodes;
        time = ap (λ (j : JournalView). time_at (instant j)) h.same;
        lives = h.lives;
        copies = ap (λ (j : JournalView). j.copies) h.same;
        notes = ap (λ (j : JournalView). j.notes) h.same ∙ (λ i. away_note client (k.invoke_id i) (k.ticket i) peer ∷ n.journal.notes);
        log = h.log;
      }

-- One that was refused.

module _ (overtake : ℕ) (n n' : Network) (client : ℕ) (peer : PeerView) (can : CanAskAway client peer n) (a : Node)
    (at : slice_get n.nodes.items client ≡ Some a) (limits : Limits) (r : Request) (same : world_of n' ≡ world_of n) where
  abbrev event : Event
  event = AskAway client peer limits r

  abbrev Happening : Result (Option AskFault) WorldFault → Type 0
  Happening p = HappensTelling overtake (world_of n) event p (world_of n')

  tells : (f : AskFault) (refusal : Refusal) → refusal_of f ≡ Some refusal → NodeRefuses (told_in n client) peer limits r a refusal
      → (q : Result (Option AskFault) WorldFault) → q ≡ Ok (Some f) → Happening q
  tells f refusal of why q is =
      let k : IsRefusedFor f (world_of n) client peer limits r (world_of n') =
      record { node = a; at = at; refusal = refusal; why = why; told_is = of; same = same } in
      subst Happening (sym is) (
        inr (record { node = a; at = at; why = inl (refusal, why); same = same }),
        k,
        λ none. none,
        λ l. can.stranger (l.1).0 (l.1).1,
      )

  away_refused_as : (f : AskFault) → Refuses f (told_in n client) peer limits r a → (q : Result (Option AskFault) WorldFault) → TellsFault f q → Happening q
  away_refused_as ask_fault.ClockBack why q is = let late : a.latest ≤ told_in n client = can.ready.can.punctual client a at in absurd (omega arith)
  away_refused_as ask_fault.SelfPeer why q is = tells ask_fault.SelfPeer _ refl why q is
  away_refused_as ask_fault.TooLong why q is = tells ask_fault.TooLong _ refl why q is
  away_refused_as ask_fault.NeedsSegments why q is = tells ask_fault.NeedsSegments _ refl why q is
  away_refused_as ask_fault.NoInvokeId why q is = tells ask_fault.NoInvokeId _ refl why q is
  away_refused_as ask_fault.NoSlot why q is = tells ask_fault.NoSlot _ refl why q is
  away_refused_as ask_fault.NoMemory why q is =
      subst Happening (sym is) ((can.stranger, λ none. (let clash : None ≡ Some a = sym none ∙ at in cc)), same)

-- the same, as the call tells it
pub away_told_so : (overtake : ℕ) (n n' : Network) (client : ℕ) (peer : PeerView) → CanAskAway client peer n → (limits : Limits) (r : Request)
    → world_of n' ≡ world_of n → (before after : List Node) → before ≡ n.nodes.items → (now : ℕ) → now ≡ told_in n client
    → (f : AskFault) → Goes before client (λ a c. Refuses f now peer limits r a) after → (q : Result (Option AskFault) WorldFault) → TellsFault f q
    → HappensTelling overtake (world_of n) (AskAway client peer limits r) q (world_of n')
away_told_so overtake n n' client peer can limits r same before after are now is f g q tells =
    let at : slice_get n.nodes.items client ≡ Some g.before = subst (λ l. slice_get l client ≡ Some g.before) are g.at in
    let why : Refuses f (told_in n client) peer limits r g.before = subst (λ (t : ℕ). Refuses f t peer limits r g.before) is g.goes in
    away_refused_as overtake n n' client peer can g.before at limits r same f why q tells

-- Its note.

pub noted_away : (client : ℕ) (peer : PeerView) (r : Request) (invoke_id ticket : ℕ) (old mid new : JournalView) (facts facts' : List Fact)
    → mid ≡ record old { notes = away_note client invoke_id ticket peer ∷ old.notes; note_room = mid.note_room }
    → new ≡ record mid { lives = new.lives } → lives_at new.lives ≡ with_act (lives_at mid.lives) client
    → (number : ℕ) → facts' ≡ Fact.AskedAway number client peer r ∷ facts → number ≡ length old.notes
    → IsNotedAway client peer r invoke_id ticket old new facts facts'
noted_away client peer r invoke_id ticket old mid new facts facts' noted is lives number log count = record {
  same = is ∙ ap (λ (j : JournalView). record j { lives = new.lives }) noted
      ∙ ap (λ room. record old { lives = new.lives; notes = away_note client invoke_id ticket peer ∷ old.notes; note_room = room })
      (sym (ap (λ (j : JournalView). j.note_room) is));
  lives = lives ∙ ap (λ (j : JournalView). with_act (lives_at j.lives) client) noted;
  log = log ∙ ap (λ (k : ℕ). Fact.AskedAway k client peer r ∷ facts) count;
}
