-- A copy is delivered, a node ticks, or hears noise.
use Rattle.std.proofs.Common.{◌≡◌, ◌≢◌, ℕ, zero, suc, ◌+◌, ◌<◌, ◌≤◌, ◌⊎◌, Bool, true, false, List, [], ◌∷◌, length, get_or, Option, Some, None, slice_get}
use Rattle.std.proofs.Common.{refl, sym, ap, subst, inl, inr, ◌∙◌, arith}
use Rattle.std.proofs.lemmas.Option.{slice_get_read, slice_get_within}
use Rattle.std.specs.Option.{option_map}
use Rattle.bac_protocol.specs.Service.{Octets}
use Rattle.bac_node.specs.Calls.{ticked}
use Rattle.bac_world.specs.Laws.{IsMeaningless}
use Rattle.bac_world.specs.Node.{Node, Outcome, NodeTick, IsDropped, dropped_for}
use Rattle.bac_world.specs.ReusingLogs.{Reuses}
use Rattle.bac_world.specs.ReusingNodes.{NodeHears, NodeReusing}
use Rattle.bac_world.specs.ReusingWorlds.{AreLoggedSo, DeliversIfSo, HearsOutsideSo, IsDeliveredSo}
use Rattle.bac_world.specs.Services.{Performed}
use Rattle.bac_world.specs.Once.{Fact}
use Rattle.bac_world.specs.World.{World, Copy, IsOfNone, Note, Ticks}
use Rattle.bac_world.specs.World.{is_deliverable, with_act}
use Rattle.bac_world.specs.World.Event.{Deliver}
use Rattle.bac_world.proofs.Pairs.{append_none}
use Rattle.bac_journal.specs.Entering.{CanEnter, CanEnterSo, CanGoOnSo}
use Rattle.bac_journal.specs.Journals.{JournalView}
use Rattle.bac_journal.specs.Lives.{lives_at}
use Rattle.bac_journal.specs.Views.{AreLinks}
use Rattle.bac_journal.specs.Clocks.{pace_of}
use Rattle.bac_network.specs.Clocks.{instant, time_at, told_at}
use Rattle.bac_network.specs.Entries.{CanBeEntered, IsEntered, performances}
use Rattle.bac_network.specs.Goings.{Arrives, Goes, IsBetween, IsDue, IsHeardCopy}
use Rattle.bac_network.specs.Networks.{told_in, world_of, AreAlike, IsReady, IsReadySo}
use Rattle.bac_network.specs.Steps.{IsOfSome, IsThere, TakesMemory}
use Rattle.bac_network.specs.Views.{log_view}
use Rattle.bac_network.specs.declared.network.Network.{Network}
use Rattle.bac_network.proofs.Entered.{AreKept, acts_as, acts_so, can_be_entered, kept_known}

-- More room changes nothing.

pub world_alike : (m n : Network) → AreAlike m n → world_of n ≡ world_of m
world_alike m n a = λ i. record {
  nodes = (a.nodes i).items;
  time = time_at (record { moment = a.moment i; own = a.own i });
  lives = lives_at (a.lives i);
  copies = a.copies i;
  log = log_view (a.log i);
  notes = a.notes i;
}

told_alike : (m n : Network) → AreAlike m n → (node : ℕ) → told_in n node ≡ told_in m node
told_alike m n a node = λ i. told_at (record { moment = a.moment i; own = a.own i }) node

pub same_instant : (m n : Network) → AreAlike m n → instant n.journal ≡ instant m.journal
same_instant m n a = λ i. record { moment = a.moment i; own = a.own i }

pub ready_alike : (W overtake : ℕ) (m n : Network) → AreAlike m n → IsReady W overtake m → IsReady W overtake n
ready_alike W overtake m n a r = record {
  reuses = r.reuses;
  can = subst (λ w. CanGoOnSo r.reuses W overtake w) (sym (world_alike m n a)) r.can;
  linked = subst (λ nodes. AreLinks nodes.items n.journal.links) (sym a.nodes) (subst (λ links. AreLinks m.nodes.items links) (sym a.links) r.linked);
  apart = subst (λ links. (i j : ℕ) (l : Octets) → slice_get links i ≡ Some l → slice_get links j ≡ Some l → i ≡ j) (sym a.links) r.apart;
}

-- the same, whichever nodes let invoke IDs be used again
pub ready_of : (u : Reuses) (W overtake : ℕ) (n : Network) → IsReadySo u W overtake n → IsReady W overtake n
ready_of u W overtake n r = record { reuses = u; can = r.can; linked = r.linked; apart = r.apart }

pub ready_so_alike : (u : Reuses) (W overtake : ℕ) (m n : Network) → AreAlike m n → IsReadySo u W overtake m → IsReadySo u W overtake n
ready_so_alike u W overtake m n a r = record {
  can = subst (λ w. CanGoOnSo u W overtake w) (sym (world_alike m n a)) r.can;
  linked = (ready_alike W overtake m n a (ready_of u W overtake m r)).linked;
  apart = (ready_alike W overtake m n a (ready_of u W overtake m r)).apart;
}

-- The journal's links are as many as the nodes.

pub link_within : (nodes : List Node) (links : List Octets) → AreLinks nodes links → (i : ℕ) (a : Node) → slice_get nodes i ≡ Some a → i < length links
link_within nodes links linked i a at =
    slice_get_within links i a.link (sym (linked i) ∙ ap (λ (o : Option Node). option_map (λ (n : Node). n.link) o) at)

pub there_is : {A : Type 0} (xs : List A) (i : ℕ) → i < length xs → (x : A) × (slice_get xs i ≡ Some x)
there_is [] i h = absurd (omega arith)
there_is (x ∷ xs) zero h = (x, refl)
there_is (x ∷ xs) (suc i) h = there_is xs i (omega arith)

no_none : {A : Type 0} (xs : List A) (i : ℕ) → i < length xs → slice_get xs i ≡ None → ⊥
no_none xs i h none = let a = there_is xs i h in let e : None ≡ Some a.0 = sym none ∙ a.1 in cc

pub is_there : (nodes : List Node) (i : ℕ) → i < length nodes → slice_get nodes i ≡ None → ⊥
is_there nodes i h none = no_none nodes i h none

pub both_there : (nodes : List Node) (i j : ℕ) → i < length nodes → j < length nodes → ((slice_get nodes i ≡ None) ⊎ (slice_get nodes j ≡ None)) → ⊥
both_there nodes i j h k (inl e) = no_none nodes i h e
both_there nodes i j h k (inr e) = no_none nodes j k e

-- a node that there is has a link
pub linked_within : (nodes : List Node) (links : List Octets) → AreLinks nodes links → (i : ℕ) → i < length nodes → i < length links
linked_within nodes links linked i h = let a = there_is nodes i h in link_within nodes links linked i a.0 a.1

-- A copy.

pub copy_between : (u : Reuses) (W overtake : ℕ) (n : Network) → IsReadySo u W overtake n → (number : ℕ) (c : Copy) → slice_get n.journal.copies number ≡ Some c
    → IsBetween n.nodes.items c
copy_between u W overtake n r number c at =
    let from = r.can.from number c at in
    let to = r.can.to number c at in
    record { sender = from.0; from = from.1; receiver = to.0; to = to.1 }

-- one ending and one effect at most
few_facts : (ended : ℕ) (p : Option Performed) → ended ≤ 1 → ended + performances p ≤ 2
few_facts ended None h = omega arith
few_facts ended (Some p) h = omega arith

-- what comes of a datagram that a node heard, after which it is that one, can enter, and there is room for it
pub record HeardEnters (W : ℕ) (n : Network) (reuse : Bool) (to : ℕ) (after : Node) (o : Outcome) : Type 0 where
  pub can : CanBeEntered n.journal to o
  pub kept : AreKept reuse n.nodes.items after o.performed
  pub sender : to < length n.journal.links
  pub sends : length o.sends ≤ W + 1
  pub facts : length o.ended + performances o.performed ≤ 2

-- what `nodes[i]` reads after a call that changed nodes
pub node_read : (ws items : List Node) → items ≡ ws → (i : ℕ) (x : Node) → i < length ws → x ≡ get_or items i x → slice_get ws i ≡ Some x
node_read ws items same i x within read = slice_get_read ws (length ws) i x refl within (read ∙ ap (λ (l : List Node). get_or l i x) same)

-- what `nodes[i]` reads after that node went on
pub gone_read : (n' : Network) (node : ℕ) (how : Node → Node → Type 0) (nodes new : List Node) → n'.nodes.items ≡ new → Goes nodes node how new
    → (x : Node) → x ≡ get_or n'.nodes.items node x → slice_get n'.nodes.items node ≡ Some x
gone_read n' node how nodes new fits went x read =
    let there : slice_get n'.nodes.items node ≡ Some went.after = subst (λ l. slice_get l node ≡ Some went.after) (sym fits) (went.nodes).here in
    node_read n'.nodes.items n'.nodes.items refl node x (slice_get_within n'.nodes.items node went.after there) read

-- the node after it is the one that is there now
is_after : (old : List Node) (i : ℕ) (how : Node → Node → Type 0) (new : List Node) (g : Goes old i how new) (x : Node) → slice_get new i ≡ Some x
    → g.after ≡ x
is_after old i how new g x at = let same : Some g.after ≡ Some x = sym (g.nodes).here ∙ at in cc

module _ (u : Reuses) (W overtake : ℕ) (n : Network) (r : IsReadySo u W overtake n) where
  heard_enters : (reuse : Bool) (i : ℕ) (how : Node → Node → Type 0) (new : List Node) (g : Goes n.nodes.items i how new) (o : Outcome)
      → CanEnterSo reuse (world_of n) i g.after o × (length o.sends ≤ W + 1) × (length o.ended ≤ 1) → HeardEnters W n reuse i g.after o
  heard_enters reuse i how new g o enters = record {
    can = can_be_entered W overtake n (ready_of u W overtake n r) reuse i g.after o enters.0;
    kept = kept_known W overtake n (ready_of u W overtake n r) reuse i g.after o.performed (enters.0).performed;
    sender = link_within n.nodes.items n.journal.links r.linked i g.before g.at;
    sends = enters.1;
    facts = few_facts (length o.ended) o.performed enters.2;
  }

  module _ (number : ℕ) (m : TakesMemory overtake (world_of n) (Deliver number)) where
    young : (c : Copy) → slice_get n.journal.copies number ≡ Some c
        → is_deliverable overtake (pace_of n.journal.own).life n.journal.moment number n.journal.copies c ≡ true
    young c at =
        let same : m.0 ≡ c = let e : Some m.0 ≡ Some c = sym m.1 ∙ at in cc in
        subst (λ (d : Copy). is_deliverable overtake (pace_of n.journal.own).life n.journal.moment number n.journal.copies d ≡ true) same m.2

    entering : (to : ℕ) (o : Outcome) (new : List Node) → IsHeardCopy u n.nodes.items (told_in n) n.journal.copies number to o new
        → (x : Node) → slice_get new to ≡ Some x → HeardEnters W n (u to) to x o
    entering to o new h x at =
        let here : slice_get new h.copy.to ≡ Some x = subst (λ (i : ℕ). slice_get new i ≡ Some x) h.receiver at in
        let k = h.goes in
        subst (λ (i : ℕ). HeardEnters W n (u i) i x o) (sym h.receiver)
        (subst (λ (b : Node). HeardEnters W n (u h.copy.to) h.copy.to b o) (is_after n.nodes.items h.copy.to _ new k x here)
        (heard_enters (u h.copy.to) h.copy.to _ new k o
        (r.can.hears number h.copy h.there (young h.copy h.there) h.link h.sender k.before k.after o k.at k.goes)))

    pub receiver_there : (nodes : List Node) (to : ℕ) (o : Outcome) (new : List Node)
        → IsHeardCopy u nodes (told_in n) n.journal.copies number to o new → to < length new
    receiver_there nodes to o new h =
        subst (λ (i : ℕ). i < length new) (sym h.receiver) (slice_get_within new h.copy.to h.goes.after (h.goes.nodes).here)

    pub copy_enters : (nodes : List Node) → nodes ≡ n.nodes.items → (to : ℕ) (o : Outcome) (new : List Node)
        → IsHeardCopy u nodes (told_in n) n.journal.copies number to o new → (x : Node) → slice_get new to ≡ Some x → HeardEnters W n (u to) to x o
    copy_enters nodes are to o new h =
        entering to o new (subst (λ l. IsHeardCopy u l (told_in n) n.journal.copies number to o new) are h)

arrives_so : (u : Reuses) (n n' : Network) (number to : ℕ) (o : Outcome)
    → IsHeardCopy u n.nodes.items (told_in n) n.journal.copies number to o n'.nodes.items → (x : Node) → slice_get n'.nodes.items to ≡ Some x
    → IsEntered n.nodes.items to x o n.journal n'.journal (log_view n.log.items) (log_view n'.log.items) → AreKept (u to) n.nodes.items x o.performed
    → time_at (instant n'.journal) ≡ time_at (instant n.journal) → n'.journal.notes ≡ n.journal.notes → Arrives u (world_of n) number (world_of n')
arrives_so u n n' number to o h x at entered kept moment notes = record {
  copy = h.copy;
  there = h.there;
  delivers = record {
    link = h.link;
    sender = h.sender;
    hears = record {
      before = h.goes.before;
      at = h.goes.at;
      after = h.goes.after;
      outcome = o;
      on = h.goes.goes;
      acts = acts_so (u h.copy.to) n.nodes.items n'.nodes.items n.journal n'.journal (log_view n.log.items) (log_view n'.log.items) h.copy.to h.goes.after o
          h.goes.nodes
          (subst (λ (b : Node). IsEntered n.nodes.items h.copy.to b o n.journal n'.journal (log_view n.log.items) (log_view n'.log.items))
          (sym (is_after n.nodes.items h.copy.to _ n'.nodes.items h.goes x
          (subst (λ (i : ℕ). slice_get n'.nodes.items i ≡ Some x) h.receiver at)))
          (subst (λ (i : ℕ). IsEntered n.nodes.items i x o n.journal n'.journal (log_view n.log.items) (log_view n'.log.items)) h.receiver entered))
          (subst (λ (b : Node). AreKept (u h.copy.to) n.nodes.items b o.performed)
          (sym (is_after n.nodes.items h.copy.to _ n'.nodes.items h.goes x
          (subst (λ (i : ℕ). slice_get n'.nodes.items i ≡ Some x) h.receiver at)))
          (subst (λ (i : ℕ). AreKept (u i) n.nodes.items x o.performed) h.receiver kept))
          moment notes;
    };
  };
}

pub arrives : (u : Reuses) (n n' : Network) (number to : ℕ) (o : Outcome) (nodes : List Node) → nodes ≡ n.nodes.items
    → (after : List Node) → n'.nodes.items ≡ after → IsHeardCopy u nodes (told_in n) n.journal.copies number to o after
    → (x : Node) → slice_get n'.nodes.items to ≡ Some x
    → IsEntered n.nodes.items to x o n.journal n'.journal (log_view n.log.items) (log_view n'.log.items) → AreKept (u to) n.nodes.items x o.performed
    → time_at (instant n'.journal) ≡ time_at (instant n.journal) → n'.journal.notes ≡ n.journal.notes → Arrives u (world_of n) number (world_of n')
arrives u n n' number to o nodes are after fits h x at entered kept moment notes =
    arrives_so u n n' number to o
    (subst (λ l. IsHeardCopy u n.nodes.items (told_in n) n.journal.copies number to o l) (sym fits)
    (subst (λ l. IsHeardCopy u l (told_in n) n.journal.copies number to o after) are h)) x at entered kept moment notes

-- the copy that arrived is the one that is deliverable
pub delivered : (overtake : ℕ) (u : Reuses) (old new : World) (number : ℕ) → TakesMemory overtake old (Deliver number) → Arrives u old number new
    → IsDeliveredSo overtake u old number new
delivered overtake u old new number m a =
    let same : m.0 ≡ a.copy = let e : Some m.0 ≡ Some a.copy = sym m.1 ∙ a.there in cc in
    record {
      copy = a.copy;
      there = a.there;
      goes = subst (λ (b : Bool). DeliversIfSo b u old a.copy new)
          (sym (subst (λ (d : Copy). is_deliverable overtake old.time.pace.life old.time.now number old.copies d ≡ true) same m.2)) a.delivers;
    }

pub lost : (overtake : ℕ) (u : Reuses) (old : World) (number : ℕ) (c : Copy) → slice_get old.copies number ≡ Some c
    → is_deliverable overtake old.time.pace.life old.time.now number old.copies c ≡ false → IsDeliveredSo overtake u old number old
lost overtake u old number c at old_or_overtaken = record {
  copy = c;
  there = at;
  goes = subst (λ (b : Bool). DeliversIfSo b u old c old) (sym old_or_overtaken) refl;
}

-- A tick.

no_facts : (ended : ℕ) (p : Option Performed) → p ≡ None → ended + performances p ≤ ended
no_facts ended p is = subst (λ (q : Option Performed). ended + performances q ≤ ended) (sym is) (omega arith)

pub record TickEnters (n : Network) (node : ℕ) (after : Node) (o : Outcome) : Type 0 where
  pub can : CanBeEntered n.journal node o
  pub kept : AreKept false n.nodes.items after o.performed
  pub sender : node < length n.journal.links
  pub facts : length o.ended + performances o.performed ≤ length o.ended

-- a tick at that moment is one of the network's node
ticks_here : (n n' : Network) (node : ℕ) (nodes : List Node) → nodes ≡ n.nodes.items → (now : ℕ) → now ≡ told_in n node
    → (new : List Node) → n'.nodes.items ≡ new → Goes nodes node (λ a b. b ≡ ticked now a) new
    → Goes n.nodes.items node (λ a b. b ≡ ticked (told_in n node) a) n'.nodes.items
ticks_here n n' node nodes are now is new fits went =
    subst (λ l. Goes n.nodes.items node (λ a b. b ≡ ticked (told_in n node) a) l) (sym fits)
    (subst (λ l. Goes l node (λ a b. b ≡ ticked (told_in n node) a) new) are
    (subst (λ (t : ℕ). Goes nodes node (λ a b. b ≡ ticked t a) new) is went))

-- the node after a tick
ticked_is : (n : Network) (node : ℕ) (o : Outcome) (d : IsDue n.nodes.items (told_in n node) node o) (new : List Node)
    (g : Goes n.nodes.items node (λ a b. b ≡ ticked (told_in n node) a) new) → g.after ≡ ticked (told_in n node) d.before
ticked_is n node o d new g =
    let same : d.before ≡ g.before = let e : Some d.before ≡ Some g.before = sym d.at ∙ g.at in cc in
    g.goes ∙ ap (ticked (told_in n node)) (sym same)

pub tick_enters : (W overtake : ℕ) (n n' : Network) → IsReady W overtake n → (node : ℕ) (o : Outcome) → IsDue n.nodes.items (told_in n node) node o
    → (nodes : List Node) → nodes ≡ n.nodes.items → (now : ℕ) → now ≡ told_in n node
    → (new : List Node) → n'.nodes.items ≡ new → Goes nodes node (λ a b. b ≡ ticked now a) new
    → (x : Node) → slice_get n'.nodes.items node ≡ Some x → TickEnters n node x o
tick_enters W overtake n n' r node o d nodes are now is new fits went x at =
    let g = ticks_here n n' node nodes are now is new fits went in
    let tick_is = sym (ticked_is n node o d n'.nodes.items g) ∙ is_after n.nodes.items node _ n'.nodes.items g x at in
    let enters : CanEnter (world_of n) node x o =
    subst (λ (b : Node). CanEnter (world_of n) node b o) tick_is (r.can.ticks node d.before (ticked (told_in n node) d.before) o d.at d.due) in
    record {
      can = can_be_entered W overtake n r false node x o enters;
      kept = kept_known W overtake n r false node x o.performed enters.performed;
      sender = link_within n.nodes.items n.journal.links r.linked node d.before d.at;
      facts = no_facts (length o.ended) o.performed d.due.performed;
    }

pub ticks : (n n' : Network) (node : ℕ) (o : Outcome) → IsDue n.nodes.items (told_in n node) node o
    → (nodes : List Node) → nodes ≡ n.nodes.items → (now : ℕ) → now ≡ told_in n node
    → (new : List Node) → n'.nodes.items ≡ new → Goes nodes node (λ a b. b ≡ ticked now a) new
    → (x : Node) → slice_get n'.nodes.items node ≡ Some x
    → IsEntered n.nodes.items node x o n.journal n'.journal (log_view n.log.items) (log_view n'.log.items) → AreKept false n.nodes.items x o.performed
    → time_at (instant n'.journal) ≡ time_at (instant n.journal) → n'.journal.notes ≡ n.journal.notes → Ticks (world_of n) node (world_of n')
ticks n n' node o d nodes are now is new fits went x at entered kept moment notes =
    let g = ticks_here n n' node nodes are now is new fits went in
    record {
      before = d.before;
      at = d.at;
      after = g.after;
      outcome = o;
      tick = subst (λ (b : Node). NodeTick (told_in n node) d.before b o) (sym (ticked_is n node o d n'.nodes.items g)) d.due;
      acts = acts_as n.nodes.items n'.nodes.items n.journal n'.journal (log_view n.log.items) (log_view n'.log.items) node g.after o g.nodes
          (subst (λ (b : Node). IsEntered n.nodes.items node b o n.journal n'.journal (log_view n.log.items) (log_view n'.log.items))
          (sym (is_after n.nodes.items node _ n'.nodes.items g x at)) entered)
          (subst (λ (b : Node). AreKept false n.nodes.items b o.performed) (sym (is_after n.nodes.items node _ n'.nodes.items g x at)) kept)
          moment notes;
    }

pub due_alike : (m n : Network) → AreAlike m n → (node now : ℕ) → now ≡ told_in m node → (a : Node) → slice_get m.nodes.items node ≡ Some a
    → (o : Outcome) → NodeTick now a (ticked now a) o → IsDue n.nodes.items (told_in n node) node o
due_alike m n same node now is a at o due =
    subst (λ v. IsDue v.items (told_in n node) node o) (sym same.nodes)
    (subst (λ (t : ℕ). IsDue m.nodes.items t node o) (is ∙ sym (told_alike m n same node)) (record { before = a; at = at; due = due }))

-- Octets from outside.

-- they are heard by the network's node
heard_here : (u : Reuses) (n n' : Network) (node : ℕ) (from octets : Octets) (o : Outcome) (nodes : List Node) → nodes ≡ n.nodes.items → (now : ℕ)
    → now ≡ told_in n node → (reuse : Bool) → reuse ≡ u node → (new : List Node) → n'.nodes.items ≡ new
    → Goes nodes node (λ a b. NodeHears reuse now from octets a b o) new
    → Goes n.nodes.items node (λ a b. NodeHears (u node) (told_in n node) from octets a b o) n'.nodes.items
heard_here u n n' node from octets o nodes are now is reuse rule new fits went =
    subst (λ l. Goes n.nodes.items node (λ a b. NodeHears (u node) (told_in n node) from octets a b o) l) (sym fits)
    (subst (λ l. Goes l node (λ a b. NodeHears (u node) (told_in n node) from octets a b o) new) are
    (subst (λ (t : ℕ). Goes nodes node (λ a b. NodeHears (u node) t from octets a b o) new) is
    (subst (λ (r : Bool). Goes nodes node (λ a b. NodeHears r now from octets a b o) new) rule went)))

dropped_is : (reuse : Bool) (now : ℕ) (from octets : Octets) (a b : Node) (o : Outcome) → IsMeaningless from octets → NodeHears reuse now from octets a b o
    → IsDropped now from octets a b o
dropped_is false now from octets a b o none (inl d) = d
dropped_is false now from octets a b o none (inr h) = absurd (none h.peer h.apdu h.means)
dropped_is true now from octets a b o none h = go h.1
  where
    go : NodeReusing h.0 now from octets a b o → IsDropped now from octets a b o
    go (inl d) = d
    go (inr k) = absurd (none k.peer k.apdu k.means)

-- nothing was performed
none_logged : (reuse : Bool) (nodes : List Node) (notes : List Note) (i : ℕ) (b : Node) (old new : List Fact) → new ≡ old
    → AreLoggedSo reuse nodes notes i b None old new
none_logged true nodes notes i b old new same = same
none_logged false nodes notes i b old new same = same

pub noise_heard : (u : Reuses) (n n' : Network) (node : ℕ) (from octets : Octets) (o : Outcome) → IsMeaningless from octets
    → (nodes : List Node) → nodes ≡ n.nodes.items → (now : ℕ) → now ≡ told_in n node → (reuse : Bool) → reuse ≡ u node
    → (new : List Node) → n'.nodes.items ≡ new → Goes nodes node (λ a b. NodeHears reuse now from octets a b o) new → n'.journal ≡ record (n.journal) { lives = n'.journal.lives }
    → lives_at n'.journal.lives ≡ with_act (lives_at n.journal.lives) node → n'.log ≡ n.log
    → HearsOutsideSo (IsMeaningless from octets) u (world_of n) node from octets (world_of n')
noise_heard u n n' node from octets o noise nodes are now is reuse rule new fits went journal lives log =
    let g = heard_here u n n' node from octets o nodes are now is reuse rule new fits went in
    let d = dropped_is (u node) (told_in n node) from octets g.before g.after o noise g.goes in
    record {
      fit = noise;
      hears = record {
        before = g.before;
        at = g.at;
        after = g.after;
        outcome = dropped_for d.cause;
        on = subst (NodeHears (u node) (told_in n node) from octets g.before g.after) d.outcome g.goes;
        acts = record {
          nodes = g.nodes;
          time = ap (λ (j : JournalView). time_at (instant j)) journal;
          lives = lives;
          notes = ap (λ (j : JournalView). j.notes) journal;
          sent = [];
          copies = ap (λ (j : JournalView). j.copies) journal ∙ sym (append_none n.journal.copies);
          copied = refl;
          between = log_view n.log.items;
          ended = refl;
          logged = none_logged (u node) n.nodes.items n.journal.notes node g.after (log_view n.log.items) (log_view n'.log.items)
              (ap (λ v. log_view v.items) log);
        };
      };
    }

-- a link that is no node's in the journal is no node's, and one that is some node's is
pub of_none : (W overtake : ℕ) (n : Network) → IsReady W overtake n → (link : Octets) → ((node : ℕ) → slice_get n.journal.links node ≢ Some link)
    → IsOfNone n.nodes.items link
of_none W overtake n r link none = λ j at. none j (sym (r.linked j) ∙ at)

pub of_some : (W overtake : ℕ) (n : Network) → IsReady W overtake n → (node : ℕ) → node < length n.nodes.items → (link : Octets) (j : ℕ)
    → slice_get n.journal.links j ≡ Some link → IsThere (world_of n) node × IsOfSome n.nodes.items link
of_some W overtake n r node within link j at = (there_is n.nodes.items node within, (j, r.linked j ∙ at))

module _ (u : Reuses) (n n' : Network) (node : ℕ) (from octets : Octets) (o : Outcome) (none : IsOfNone n.nodes.items from) (nodes : List Node)
    (are : nodes ≡ n.nodes.items) (now : ℕ) (is : now ≡ told_in n node) (reuse : Bool) (rule : reuse ≡ u node) (new : List Node)
    (fits : n'.nodes.items ≡ new) (went : Goes nodes node (λ a b. NodeHears reuse now from octets a b o) new) (x : Node) (at : slice_get n'.nodes.items node ≡ Some x) where
  heard : Goes n.nodes.items node (λ a b. NodeHears (u node) (told_in n node) from octets a b o) n'.nodes.items
  heard = heard_here u n n' node from octets o nodes are now is reuse rule new fits went

  pub stranger_enters : (W overtake : ℕ) → IsReadySo u W overtake n → HeardEnters W n (u node) node x o
  stranger_enters W overtake r =
      subst (λ (b : Node). HeardEnters W n (u node) node b o) (is_after n.nodes.items node _ n'.nodes.items heard x at)
      (heard_enters u W overtake n r (u node) node _ n'.nodes.items heard o
      (r.can.outside node from octets (inl none) heard.before heard.after o heard.at heard.goes))

  pub stranger_heard : IsEntered n.nodes.items node x o n.journal n'.journal (log_view n.log.items) (log_view n'.log.items)
      → AreKept (u node) n.nodes.items x o.performed
      → time_at (instant n'.journal) ≡ time_at (instant n.journal) → n'.journal.notes ≡ n.journal.notes
      → HearsOutsideSo (IsOfNone n.nodes.items from) u (world_of n) node from octets (world_of n')
  stranger_heard entered kept moment notes = record {
    fit = none;
    hears = record {
      before = heard.before;
      at = heard.at;
      after = heard.after;
      outcome = o;
      on = heard.goes;
      acts = acts_so (u node) n.nodes.items n'.nodes.items n.journal n'.journal (log_view n.log.items) (log_view n'.log.items) node heard.after o heard.nodes
          (subst (λ (b : Node). IsEntered n.nodes.items node b o n.journal n'.journal (log_view n.log.items) (log_view n'.log.items))
          (sym (is_after n.nodes.items node _ n'.nodes.items heard x at)) entered)
          (subst (λ (b : Node). AreKept (u node) n.nodes.items b o.performed) (sym (is_after n.nodes.items node _ n'.nodes.items heard x at)) kept)
          moment notes;
    };
  }
