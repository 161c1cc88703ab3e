-- A node asks another one.
use Rattle.std.proofs.Common.{◌≡◌, ℕ, ◌+◌, ◌≤◌, List, [], ◌∷◌, length, Option, Some, None, Result, Ok, slice_get, refl, sym, ap, subst, inl, inr, ◌∙◌, arith}
use Rattle.std.specs.Option.{option_map}
use Rattle.bac_apdu.specs.Apdu.{Limits}
use Rattle.bac_npdu.specs.Peers.{PeerView}
use Rattle.bac_transaction.specs.Ends.{Accepted}
use Rattle.bac_transaction.specs.Sends.{Datagram, Pairwise}
use Rattle.bac_protocol.specs.Service.{Octets}
use Rattle.bac_requester.specs.declared.ask_fault.AskFault.{AskFault}
use Rattle.bac_requester.specs.declared.ask_fault.AskFault.TheVariants as ask_fault
use Rattle.bac_requester.specs.declared.asking.Asked as code
use Rattle.bac_service.specs.Values.{Request, choice_of}
use Rattle.bac_node.specs.Calls as node
use Rattle.bac_node.specs.Calls.{Refuses}
use Rattle.bac_world.specs.Node.{Node, NodeAsks, NodeRefuses, Refusal}
use Rattle.bac_world.specs.Once.{Fact}
use Rattle.bac_world.specs.World.{AreCopied, Copy, Event, Note, IsAsked, IsCopied, IsRefused, IsWithNode, link_at, peer_at, with_ask}
use Rattle.bac_world.specs.World.Event.{Ask}
use Rattle.bac_world.proofs.Asking.{accepted_is}
use Rattle.bac_journal.specs.Entering.{note_of, CanBeCopied, Every}
use Rattle.bac_journal.specs.Growing.{BecomeCopies, CanBecome}
use Rattle.bac_journal.specs.Clocks.{time_of}
use Rattle.bac_journal.specs.Journals.{JournalView, NoteRoom}
use Rattle.bac_journal.specs.Lives.{lives_at}
use Rattle.bac_journal.specs.Views.{AreLinks}
use Rattle.bac_network.specs.Asks.{CanAsk, CanBeNoted, IsNotedAsk, TellsFault}
use Rattle.bac_network.specs.Clocks.{time_at}
use Rattle.bac_network.specs.Goings.{Goes}
use Rattle.bac_network.specs.Networks.{told_in, world_of}
use Rattle.bac_network.specs.Steps.{HappensTelling, refusal_of}
use Rattle.bac_network.specs.Views.{log_view}
use Rattle.bac_network.specs.declared.fault.WorldFault.{WorldFault}
use Rattle.bac_network.specs.declared.network.Network.{Network}
use Rattle.bac_network.proofs.Delivered.{link_within}

-- An ask that was accepted.

pub ticket_is : (now : ℕ) (peer : PeerView) (limits : Limits) (r : Request) (a b : Node) (accepted : Accepted) (sends : List Datagram)
    → NodeAsks now peer limits r a b accepted sends → accepted.ticket ≡ a.clients.asked
ticket_is now peer limits r a b accepted sends k =
    ap (λ (y : Accepted). y.ticket) (accepted_is a.settings now peer (choice_of r) k.octets a.clients accepted limits k.accepted).is

-- each datagram of an ask of a node becomes a copy
module _ (nodes : List Node) (notes : List Note) (now sender : ℕ) where
  all_leave : (ds : List Datagram) → Every (CanBeCopied nodes notes now sender) ds → CanBecome nodes notes now sender ds
  all_leave [] h = tt
  all_leave (d ∷ ds) h = (inl h.0, all_leave ds h.1)

  all_copied : (ds : List Datagram) (cs : List Copy) → Every (CanBeCopied nodes notes now sender) ds → AreCopied nodes now sender ds cs
      → Pairwise (IsCopied nodes now sender) ds cs
  all_copied [] cs can is = subst (λ (l : List Copy). Pairwise (IsCopied nodes now sender) [] l) (sym is) tt
  all_copied (d ∷ ds) cs can (inl f) =
      subst (λ (l : List Copy). Pairwise (IsCopied nodes now sender) (d ∷ ds) l) (sym f.is) (f.copied, all_copied ds f.rest can.1 f.others)
  all_copied (d ∷ ds) cs can (inr away) = absurd (away.0 (can.0).copy.to (can.0).is.to)

pub record AskEnters (W : ℕ) (n : Network) (client server invoke_id ticket : ℕ) (sends : List Datagram) : Type 0 where
  pub can : CanBeNoted n.journal client server invoke_id ticket sends
  pub few : length sends ≤ W + 1

module _ (n : Network) (client server : ℕ) (can : CanAsk client server n) (b : Node) (there : slice_get n.nodes.items server ≡ Some b)
    (limits : Limits) (r : Request) (nodes : List Node) (x : code.Asked)
    (before : List Node) (are : before ≡ n.nodes.items) (link : Octets) (to : link ≡ b.link) (now : ℕ) (is : now ≡ (told_in n client))
    (went : Goes before client (λ a c. node.IsAsked now (peer_at link) limits r a c x) nodes) where
  g : Goes n.nodes.items client (λ a c. node.IsAsked (told_in n client) (peer_at b.link) limits r a c x) nodes
  g = subst (λ l. Goes l client (λ a c. node.IsAsked (told_in n client) (peer_at b.link) limits r a c x) nodes) are
      (subst (λ (t : ℕ). Goes before client (λ a c. node.IsAsked t (peer_at b.link) limits r a c x) nodes) is
      (subst (λ (l : Octets). Goes before client (λ a c. node.IsAsked now (peer_at l) limits r a c x) nodes) to went))

  linked : link_at n.nodes.items server ≡ Some b.link
  linked = ap (λ (o : Option Node). option_map (λ (m : Node). m.link) o) there

  -- its note is the one that is accepted
  note_is : (k : node.IsAsked (told_in n client) (peer_at b.link) limits r g.before g.after x)
      → note_of client server x.invoke_id x.ticket ≡ note_of client server k.accepted.invoke_id k.accepted.ticket
  note_is k = λ i. note_of client server (k.invoke_id i) (k.ticket i)

  pub ask_enters : AskEnters can.window n client server x.invoke_id x.ticket x.sends.items
  ask_enters =
      let k = g.goes in
      let enters = can.ready.can.asks client server g.before g.after b.link limits r k.accepted x.sends.items g.at linked k.asks in
      record {
        can = record {
          nodes = n.nodes.items;
          linked = can.ready.linked;
          sent = subst (λ (y : Note). CanBecome n.nodes.items (y ∷ n.journal.notes) n.journal.moment client x.sends.items) (sym (note_is k))
              (all_leave n.nodes.items (note_of client server k.accepted.invoke_id k.accepted.ticket ∷ n.journal.notes) n.journal.moment client x.sends.items
              enters.0);
          client_there = link_within n.nodes.items n.journal.links can.ready.linked client g.before g.at;
          room = can.note;
          counted =
              let same = k.ticket ∙ ticket_is (told_in n client) (peer_at b.link) limits r g.before g.after k.accepted x.sends.items k.asks in
              let few = can.ready.can.counted client g.before g.at in
              omega arith;
        };
        few = enters.1;
      }

  pub is_asked : (n' : Network) → n'.nodes.items ≡ nodes
      → IsNotedAsk n.nodes.items client server r x.invoke_id x.ticket x.sends.items n.journal n'.journal (log_view n.log.items) (log_view n'.log.items)
      → IsAsked (world_of n) client server limits r (world_of n')
  is_asked n' same h =
      let k = g.goes in
      record {
        before = g.before;
        at = g.at;
        link = b.link;
        peer = linked;
        after = g.after;
        accepted = k.accepted;
        sends = x.sends.items;
        asks = k.asks;
        nodes = subst (λ l. IsWithNode n.nodes.items client g.after l) (sym same) g.nodes;
        time = λ i. time_at (record { moment = h.moment i; own = h.own i });
        lives = h.lives;
        sent = h.sent.sent;
        copies = h.sent.copies;
        copied = all_copied n.nodes.items (note_of client server k.accepted.invoke_id k.accepted.ticket ∷ n.journal.notes) n.journal.moment client
            x.sends.items h.sent.sent
            (can.ready.can.asks client server g.before g.after b.link limits r k.accepted x.sends.items g.at linked k.asks).0 h.sent.copied;
        notes = h.notes
            ∙ ap (λ (y : Note). y ∷ n.journal.notes) (note_is k);
        log = h.log;
      }

pub noted_ask : (nodes : List Node) (client server : ℕ) (r : Request) (invoke_id ticket : ℕ) (sends : List Datagram) (old mid new last : JournalView)
    (facts facts' : List Fact) (room : NoteRoom)
    → mid ≡ record old {
      notes = note_of client server invoke_id ticket ∷ old.notes;
      note_room = room;
    }
    → new ≡ record mid { copies = new.copies; room = new.room } → AreLinks nodes old.links
    → (AreLinks nodes mid.links → BecomeCopies nodes mid.moment client sends mid.copies new.copies)
    → last ≡ record new { lives = last.lives } → lives_at last.lives ≡ with_ask (time_of new.moment new.own) (lives_at new.lives) client
    → (number : ℕ) → facts' ≡ Fact.Asked number client server r ∷ facts → number ≡ length old.notes
    → IsNotedAsk nodes client server r invoke_id ticket sends old last facts facts'
noted_ask nodes client server r invoke_id ticket sends old mid new last facts facts' room noted sent linked become is lives number log count =
    let links : mid.links ≡ old.links = ap (λ (j : JournalView). j.links) noted in
    let moment : mid.moment ≡ old.moment = ap (λ (j : JournalView). j.moment) noted in
    let copies : mid.copies ≡ old.copies = ap (λ (j : JournalView). j.copies) noted in
    let then : new.moment ≡ old.moment = ap (λ (j : JournalView). j.moment) sent ∙ moment in
    let own : new.own ≡ old.own = ap (λ (j : JournalView). j.own) sent ∙ ap (λ (j : JournalView). j.own) noted in
    let were : new.lives ≡ old.lives = ap (λ (j : JournalView). j.lives) sent ∙ ap (λ (j : JournalView). j.lives) noted in
    record {
      sent = subst (λ l. BecomeCopies nodes old.moment client sends old.copies l) (sym (ap (λ (j : JournalView). j.copies) is))
          (subst (λ (t : ℕ). BecomeCopies nodes t client sends old.copies new.copies) moment
          (subst (λ l. BecomeCopies nodes mid.moment client sends l new.copies) copies (become (subst (λ l. AreLinks nodes l) (sym links) linked))));
      lives = lives ∙ (λ i. with_ask (time_of (then i) (own i)) (lives_at (were i)) client);
      notes = ap (λ (j : JournalView). j.notes) is ∙ ap (λ (j : JournalView). j.notes) sent ∙ ap (λ (j : JournalView). j.notes) noted;
      log = log ∙ ap (λ (k : ℕ). Fact.Asked k client server r ∷ facts) count;
      moment = ap (λ (j : JournalView). j.moment) is ∙ ap (λ (j : JournalView). j.moment) sent ∙ moment;
      own = ap (λ (j : JournalView). j.own) is ∙ ap (λ (j : JournalView). j.own) sent ∙ ap (λ (j : JournalView). j.own) noted;
      links = ap (λ (j : JournalView). j.links) is ∙ ap (λ (j : JournalView). j.links) sent ∙ links;
    }

-- One that was refused.

module _ (overtake : ℕ) (n n' : Network) (client server : ℕ) (can : CanAsk client server n) (b : Node) (there : slice_get n.nodes.items server ≡ Some b)
    (a : Node) (at : slice_get n.nodes.items client ≡ Some a) (limits : Limits) (r : Request) (same : world_of n' ≡ world_of n) where
  abbrev event : Event
  event = Ask client server limits r

  refused_for : (refusal : Refusal) → NodeRefuses (told_in n client) (peer_at b.link) limits r a refusal
      → IsRefused (world_of n) client server limits r (world_of n')
  refused_for refusal why = record {
    node = a;
    at = at;
    link = b.link;
    peer = ap (λ (o : Option Node). option_map (λ (m : Node). m.link) o) there;
    refusal = refusal;
    why = why;
    same = same;
  }

  tells : (f : AskFault) (refusal : Refusal) → refusal_of f ≡ Some refusal → NodeRefuses (told_in n client) (peer_at b.link) limits r a refusal
      → (q : Result (Option AskFault) WorldFault) → q ≡ Ok (Some f) → HappensTelling overtake (world_of n) event q (world_of n')
  unfolding refused_for
  tells f refusal of why q is =
      let k = refused_for refusal why in
      subst (λ (p : Result (Option AskFault) WorldFault). HappensTelling overtake (world_of n) event p (world_of n')) (sym is)
      (inr k, (k, of), λ x. x, λ x. x)

  no_none : (m : ℕ) → (c : Node) → slice_get n.nodes.items m ≡ Some c → slice_get n.nodes.items m ≡ None → ⊥
  no_none m c some none = let e : None ≡ Some c = sym none ∙ some in cc

  pub refused_as : (f : AskFault) → Refuses f (told_in n client) (peer_at b.link) limits r a → (q : Result (Option AskFault) WorldFault) → TellsFault f q
      → HappensTelling overtake (world_of n) event q (world_of n')
  refused_as ask_fault.ClockBack why q is = let late : a.latest ≤ (told_in n client) = can.ready.can.punctual client a at in absurd (omega arith)
  refused_as ask_fault.SelfPeer why q is = tells ask_fault.SelfPeer _ refl why q is
  refused_as ask_fault.TooLong why q is = tells ask_fault.TooLong _ refl why q is
  refused_as ask_fault.NeedsSegments why q is = tells ask_fault.NeedsSegments _ refl why q is
  refused_as ask_fault.NoInvokeId why q is = tells ask_fault.NoInvokeId _ refl why q is
  refused_as ask_fault.NoSlot why q is = tells ask_fault.NoSlot _ refl why q is
  refused_as ask_fault.NoMemory why q is =
      subst (λ (p : Result (Option AskFault) WorldFault). HappensTelling overtake (world_of n) event p (world_of n')) (sym is)
      ((tt, λ none. elim none [ inl e ↦ no_none client a at e | inr e ↦ no_none server b there e ]), same)

-- the same, as the call tells it
pub told_so : (overtake : ℕ) (n n' : Network) (client server : ℕ) → CanAsk client server n → (b : Node) → slice_get n.nodes.items server ≡ Some b
    → (limits : Limits) (r : Request) → world_of n' ≡ world_of n → (before after : List Node) → before ≡ n.nodes.items → (link : Octets) → link ≡ b.link
    → (now : ℕ) → now ≡ (told_in n client) → (f : AskFault) → Goes before client (λ a c. Refuses f now (peer_at link) limits r a) after
    → (q : Result (Option AskFault) WorldFault) → TellsFault f q
    → HappensTelling overtake (world_of n) (Ask client server limits r) q (world_of n')
told_so overtake n n' client server can b there limits r same before after are link to now is f g q tells =
    let at : slice_get n.nodes.items client ≡ Some g.before = subst (λ l. slice_get l client ≡ Some g.before) are g.at in
    let why : Refuses f (told_in n client) (peer_at b.link) limits r g.before =
    subst (λ (t : ℕ). Refuses f t (peer_at b.link) limits r g.before) is
    (subst (λ (l : Octets). Refuses f now (peer_at l) limits r g.before) to g.goes) in
    refused_as overtake n n' client server can b there g.before at limits r same f why q tells
