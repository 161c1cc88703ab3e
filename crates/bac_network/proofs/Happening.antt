-- What follows from how an event went.
use Rattle.std.proofs.Common.{◌≡◌, ◌↔◌, ℕ, Bool, true, false, List, Option, Some, None, Result, Ok, Err, IsErrOf, OnOk, OnErr, IfOk, slice_get}
use Rattle.std.proofs.Common.{refl, sym, ap, subst, inl, inr, ◌∙◌}
use Rattle.std.specs.Option.{option_map}
use Rattle.bac_protocol.specs.Service.{Octets}
use Rattle.bac_store.specs.AtNode as at_node
use Rattle.bac_store.specs.AtNode.{change_fault}
use Rattle.bac_store.specs.Stores.{Store}
use Rattle.bac_store.specs.declared.change_fault.ChangeFault.{ChangeFault}
use Rattle.bac_journal.specs.declared.lives.Life.{Life}
use Rattle.bac_network.specs.Clocks.{Instant}
use Rattle.bac_network.specs.Histories.{WorldView}
use Rattle.bac_requester.specs.declared.ask_fault.AskFault.{AskFault}
use Rattle.bac_world.specs.Node.{Node}
use Rattle.bac_world.specs.ReusingLogs.{Reuses}
use Rattle.bac_world.specs.ReusingWorlds.{WorldStepSo}
use Rattle.bac_world.specs.World.{World, Event, Copy, WorldStep, link_at, is_deliverable}
use Rattle.bac_world.specs.World.Event.{Ask, AskAway, Deliver, Noise, Stray, Tick, Advance, Change, Restart, Begin, BeginAgain}
use Rattle.bac_network.specs.Steps.{BeginsTooSoon, NamesNoNode, NamesNoCopy, NamesNodeLink, PassesClock, RefusesChange, TakesMemory, Happens, HappensSo, HappensTelling, HappensTellingSo}
use Rattle.bac_network.specs.Steps.{Tells, Untells}
use Rattle.bac_network.specs.Rules.{reuses_by}
use Rattle.bac_network.specs.declared.fault.WorldFault.{WorldFault}
use Rattle.bac_network.specs.declared.fault.WorldFault.TheVariants as fault

-- Faults exclude each other.

no_link : (nodes : List Node) (i : ℕ) (l : Octets) → slice_get nodes i ≡ None → link_at nodes i ≡ Some l → ⊥
no_link nodes i l e at =
    let x : None ≡ Some l = sym (ap (λ (o : Option Node). option_map (λ (n : Node). n.link) o) e) ∙ at in cc

none_some : {A : Type 0} (o : Option A) (x : A) → o ≡ None → o ≡ Some x → ⊥
none_some o x e at = let f : None ≡ Some x = sym e ∙ at in cc

abbrev seen : ℕ → List Store → List Bool → World → Instant → List Life → WorldView
seen limit opening reuses w t lives =
    record { overtake = limit; opening = opening; reuses = reuses; nodes = w.nodes; time = t; lives = lives; copies = w.copies; log = w.log; notes = w.notes }

module _ (overtake : ℕ) (u : Reuses) (old new : World) where
  no_node : (e : Event) → WorldStepSo overtake u old e new → NamesNoNode old e → ⊥
  no_node (Ask client server limits r) (inl h) (inl n) = none_some (slice_get old.nodes client) h.before n h.at
  no_node (Ask client server limits r) (inl h) (inr n) = no_link old.nodes server h.link n h.peer
  no_node (Ask client server limits r) (inr h) (inl n) = none_some (slice_get old.nodes client) h.node n h.at
  no_node (Ask client server limits r) (inr h) (inr n) = no_link old.nodes server h.link n h.peer
  no_node (Deliver number) h n = n
  no_node (Noise node from octets) (inl h) n = none_some (slice_get old.nodes node) h.hears.before n h.hears.at
  no_node (Stray node from octets) (inl h) n = none_some (slice_get old.nodes node) h.hears.before n h.hears.at
  no_node (AskAway client peer limits q) (inl h) n = none_some (slice_get old.nodes client) h.before n h.at
  no_node (Noise node from octets) (inr h) n = none_some (slice_get old.nodes node) h.node n h.at
  no_node (Stray node from octets) (inr h) n = none_some (slice_get old.nodes node) h.node n h.at
  no_node (AskAway client peer limits q) (inr h) n = none_some (slice_get old.nodes client) h.node n h.at
  no_node (Tick node) h n = none_some (slice_get old.nodes node) h.before n h.at
  no_node (Restart node exact store) h n = none_some (slice_get old.nodes node) h.before n h.at
  no_node (Begin node exact) h n = none_some (slice_get old.nodes node) h.node n h.at
  no_node (BeginAgain node exact first_id store) h n = none_some (slice_get old.nodes node) h.before n h.at
  no_node (Advance by own) h n = n
  no_node (Change node c) h n = none_some (slice_get old.nodes node) h.before n h.at

  -- the one event that can have each of these faults

  of_copy : (e : Event) → NamesNoCopy old e → (number : ℕ) × (e ≡ Deliver number)
  of_copy (Ask client server limits r) n = absurd n
  of_copy (Deliver number) n = (number, refl)
  of_copy (Noise node from octets) n = absurd n
  of_copy (Stray node from octets) n = absurd n
  of_copy (AskAway client peer limits q) n = absurd n
  of_copy (Tick node) n = absurd n
  of_copy (Restart node exact store) n = absurd n
  of_copy (Begin node exact) n = absurd n
  of_copy (BeginAgain node exact first_id store) n = absurd n
  of_copy (Advance by own) n = absurd n
  of_copy (Change node c) n = absurd n

  of_clock : (e : Event) → PassesClock old e → (by : ℕ) × (own : (ℕ → ℕ)) × (e ≡ Advance by own)
  of_clock (Ask client server limits r) n = absurd n
  of_clock (Deliver number) n = absurd n
  of_clock (Noise node from octets) n = absurd n
  of_clock (Stray node from octets) n = absurd n
  of_clock (AskAway client peer limits q) n = absurd n
  of_clock (Tick node) n = absurd n
  of_clock (Restart node exact store) n = absurd n
  of_clock (Begin node exact) n = absurd n
  of_clock (BeginAgain node exact first_id store) n = absurd n
  of_clock (Advance by own) n = (by, own, refl)
  of_clock (Change node c) n = absurd n

  of_change : (e : Event) (why : ChangeFault) → RefusesChange old e why → (node : ℕ) × (c : at_node.Change) × (e ≡ Change node c)
  of_change (Ask client server limits r) why n = absurd n
  of_change (Deliver number) why n = absurd n
  of_change (Noise node from octets) why n = absurd n
  of_change (Stray node from octets) why n = absurd n
  of_change (AskAway client peer limits q) why n = absurd n
  of_change (Tick node) why n = absurd n
  of_change (Restart node exact store) why n = absurd n
  of_change (Begin node exact) why n = absurd n
  of_change (BeginAgain node exact first_id store) why n = absurd n
  of_change (Advance by own) why n = absurd n
  of_change (Change node c) why n = (node, c, refl)

  no_copy : (e : Event) → WorldStepSo overtake u old e new → NamesNoCopy old e → ⊥
  no_copy e h n =
      let d = of_copy e n in
      let step : WorldStepSo overtake u old (Deliver d.0) new = subst (λ (f : Event). WorldStepSo overtake u old f new) d.1 h in
      none_some (slice_get old.copies d.0) step.copy (subst (NamesNoCopy old) d.1 n) step.there

  node_or_copy : (e : Event) → NamesNoNode old e → NamesNoCopy old e → ⊥
  node_or_copy e n c = subst (NamesNoNode old) (of_copy e c).1 n

  node_or_clock : (e : Event) → NamesNoNode old e → PassesClock old e → ⊥
  node_or_clock e n c = subst (NamesNoNode old) (of_clock e c).2 n

  copy_or_clock : (e : Event) → NamesNoCopy old e → PassesClock old e → ⊥
  copy_or_clock e n c = subst (NamesNoCopy old) (of_clock e c).2 n

  copy_or_memory : (e : Event) → NamesNoCopy old e → TakesMemory overtake old e → ⊥
  copy_or_memory e n m =
      let d = of_copy e n in
      let memory : TakesMemory overtake old (Deliver d.0) = subst (TakesMemory overtake old) d.1 m in
      none_some (slice_get old.copies d.0) memory.0 (subst (NamesNoCopy old) d.1 n) memory.1

  clock_or_memory : (e : Event) → PassesClock old e → TakesMemory overtake old e → ⊥
  clock_or_memory e n m = subst (TakesMemory overtake old) (of_clock e n).2 m

  no_refusal : (e : Event) → WorldStepSo overtake u old e new → (why : ChangeFault) → RefusesChange old e why → ⊥
  no_refusal e h why r =
      let d = of_change e why r in
      let step : WorldStepSo overtake u old (Change d.0 d.1) new = subst (λ (f : Event). WorldStepSo overtake u old f new) d.2 h in
      let refused : RefusesChange old (Change d.0 d.1) why = subst (λ (f : Event). RefusesChange old f why) d.2 r in
      let same : Some step.before ≡ Some refused.0 = sym step.at ∙ refused.1 in
      let node_is : step.before ≡ refused.0 = cc in
      none_some (change_fault step.before.store d.1) why step.may (ap (λ (a : Node). change_fault a.store d.1) node_is ∙ refused.2)

  node_or_refusal : (e : Event) → NamesNoNode old e → (why : ChangeFault) → RefusesChange old e why → ⊥
  node_or_refusal e n why r =
      let d = of_change e why r in
      let refused : RefusesChange old (Change d.0 d.1) why = subst (λ (f : Event). RefusesChange old f why) d.2 r in
      none_some (slice_get old.nodes d.0) refused.0 (subst (NamesNoNode old) d.2 n) refused.1

  copy_or_refusal : (e : Event) → NamesNoCopy old e → (why : ChangeFault) → RefusesChange old e why → ⊥
  copy_or_refusal e n why r = subst (NamesNoCopy old) (of_change e why r).2 n

  clock_or_refusal : (e : Event) → PassesClock old e → (why : ChangeFault) → RefusesChange old e why → ⊥
  clock_or_refusal e n why r = subst (PassesClock old) (of_change e why r).2 n

  memory_or_refusal : (e : Event) → TakesMemory overtake old e → (why : ChangeFault) → RefusesChange old e why → ⊥
  memory_or_refusal e m why r =
      let d = of_change e why r in
      let memory : TakesMemory overtake old (Change d.0 d.1) = subst (TakesMemory overtake old) d.2 m in
      memory why (subst (λ (f : Event). RefusesChange old f why) d.2 r)

  one_refusal : (e : Event) (why other : ChangeFault) → RefusesChange old e why → RefusesChange old e other → why ≡ other
  one_refusal e why other r s =
      let d = of_change e why r in
      let one : RefusesChange old (Change d.0 d.1) why = subst (λ (f : Event). RefusesChange old f why) d.2 r in
      let two : RefusesChange old (Change d.0 d.1) other = subst (λ (f : Event). RefusesChange old f other) d.2 s in
      let same : Some one.0 ≡ Some two.0 = sym one.1 ∙ two.1 in
      let node_is : one.0 ≡ two.0 = cc in
      let is : Some why ≡ Some other = sym one.2 ∙ ap (λ (a : Node). change_fault a.store d.1) node_is ∙ two.2 in
      cc

  -- a stranger's link that is a node's excludes all other faults
  link_alone : (e : Event) → NamesNodeLink old e → (NamesNoNode old e → ⊥) × (NamesNoCopy old e → ⊥) × (PassesClock old e → ⊥)
      × ((why : ChangeFault) → RefusesChange old e why → ⊥) × (TakesMemory overtake old e → ⊥)
  link_alone (Stray node from octets) l = (
    λ n. none_some (slice_get old.nodes node) (l.0).0 n (l.0).1,
    λ n. n,
    λ n. n,
    λ why n. n,
    λ none. none (l.1).0 (l.1).1,
  )
  link_alone (AskAway client peer limits q) l = (
    λ n. none_some (slice_get old.nodes client) (l.0).0 n (l.0).1,
    λ n. n,
    λ n. n,
    λ why n. n,
    λ none. none (l.1).0 (l.1).1,
  )
  link_alone (Ask client server limits q) l = absurd l
  link_alone (Deliver number) l = absurd l
  link_alone (Noise node from octets) l = absurd l
  link_alone (Tick node) l = absurd l
  link_alone (Restart node exact store) l = absurd l
  link_alone (Begin node exact) l = absurd l
  link_alone (BeginAgain node exact first_id store) l = absurd l
  link_alone (Advance by own) l = absurd l
  link_alone (Change node c) l = absurd l

  -- a node that may not begin excludes all other faults
  soon_alone : (e : Event) → BeginsTooSoon old e → (NamesNoNode old e → ⊥) × (NamesNoCopy old e → ⊥) × (NamesNodeLink old e → ⊥) × (PassesClock old e → ⊥)
      × ((why : ChangeFault) → RefusesChange old e why → ⊥) × (TakesMemory overtake old e → ⊥) × (WorldStepSo overtake u old e new → ⊥)
  soon_alone (Begin node exact) l = (
    λ n. none_some (slice_get old.nodes node) (l.0).0 n (l.0).1,
    λ n. n,
    λ n. n,
    λ n. n,
    λ why n. n,
    λ n. n,
    λ h. (let no : false ≡ true = sym h.first ∙ l.1 in cc),
  )
  soon_alone (BeginAgain node exact first_id store) l = (
    λ n. none_some (slice_get old.nodes node) (l.0).0 n (l.0).1,
    λ n. n,
    λ n. n,
    λ n. n,
    λ why n. n,
    λ quiet. (let no : false ≡ true = sym l.1 ∙ quiet in cc),
    λ h. (let no : false ≡ true = sym l.1 ∙ h.quiet in cc),
  )
  soon_alone (Ask client server limits q) l = absurd l
  soon_alone (AskAway client peer limits q) l = absurd l
  soon_alone (Deliver number) l = absurd l
  soon_alone (Noise node from octets) l = absurd l
  soon_alone (Stray node from octets) l = absurd l
  soon_alone (Tick node) l = absurd l
  soon_alone (Restart node exact store) l = absurd l
  soon_alone (Advance by own) l = absurd l
  soon_alone (Change node c) l = absurd l

  -- Each fault comes exactly where it says.

  module _ (e : Event) where
    abbrev How : Result (Option AskFault) WorldFault → Type 0
    How r = HappensTellingSo overtake u old e r new

    fails_node : (r : Result (Option AskFault) WorldFault) → How r → NamesNoNode old e → r ≡ Err fault.NoSuchNode
    fails_node (Ok told) h n = absurd (no_node e h.0 n)
    fails_node (Err fault.NoSuchNode) h n = refl
    fails_node (Err fault.NoSuchDatagram) h n = absurd (node_or_copy e n h.0)
    fails_node (Err fault.NodeLink) h n = absurd ((link_alone e h.0).0 n)
    fails_node (Err fault.ClockEnd) h n = absurd (node_or_clock e n h.0)
    fails_node (Err fault.TooSoon) h n = absurd ((soon_alone e h.0).0 n)
    fails_node (Err fault.NoMemory) h n = absurd ((h.0).1 n)
    fails_node (Err (fault.BadChange why)) h n = absurd (node_or_refusal e n why h.0)

    fails_copy : (r : Result (Option AskFault) WorldFault) → How r → NamesNoCopy old e → r ≡ Err fault.NoSuchDatagram
    fails_copy (Ok told) h n = absurd (no_copy e h.0 n)
    fails_copy (Err fault.NoSuchNode) h n = absurd (node_or_copy e h.0 n)
    fails_copy (Err fault.NoSuchDatagram) h n = refl
    fails_copy (Err fault.NodeLink) h n = absurd ((link_alone e h.0).1 n)
    fails_copy (Err fault.ClockEnd) h n = absurd (copy_or_clock e n h.0)
    fails_copy (Err fault.TooSoon) h n = absurd ((soon_alone e h.0).1 n)
    fails_copy (Err fault.NoMemory) h n = absurd (copy_or_memory e n (h.0).0)
    fails_copy (Err (fault.BadChange why)) h n = absurd (copy_or_refusal e n why h.0)

    fails_clock : (r : Result (Option AskFault) WorldFault) → How r → PassesClock old e → r ≡ Err fault.ClockEnd
    fails_clock (Ok told) h n = absurd (h.2 n)
    fails_clock (Err fault.NodeLink) h n = absurd ((link_alone e h.0).2 n)
    fails_clock (Err fault.NoSuchNode) h n = absurd (node_or_clock e h.0 n)
    fails_clock (Err fault.NoSuchDatagram) h n = absurd (copy_or_clock e h.0 n)
    fails_clock (Err fault.ClockEnd) h n = refl
    fails_clock (Err fault.TooSoon) h n = absurd ((soon_alone e h.0).3 n)
    fails_clock (Err fault.NoMemory) h n = absurd (clock_or_memory e n (h.0).0)
    fails_clock (Err (fault.BadChange why)) h n = absurd (clock_or_refusal e n why h.0)

    fails_change : (r : Result (Option AskFault) WorldFault) → How r → (why : ChangeFault) → RefusesChange old e why → r ≡ Err (fault.BadChange why)
    fails_change (Ok told) h why n = absurd (no_refusal e h.0 why n)
    fails_change (Err fault.NoSuchNode) h why n = absurd (node_or_refusal e h.0 why n)
    fails_change (Err fault.NoSuchDatagram) h why n = absurd (copy_or_refusal e h.0 why n)
    fails_change (Err fault.NodeLink) h why n = absurd ((link_alone e h.0).3 why n)
    fails_change (Err fault.ClockEnd) h why n = absurd (clock_or_refusal e h.0 why n)
    fails_change (Err fault.TooSoon) h why n = absurd ((soon_alone e h.0).4 why n)
    fails_change (Err fault.NoMemory) h why n = absurd (memory_or_refusal e (h.0).0 why n)
    fails_change (Err (fault.BadChange other)) h why n = ap (λ (w : ChangeFault). Err (fault.BadChange w)) (one_refusal e other why h.0 n)

    fails_link : (r : Result (Option AskFault) WorldFault) → How r → NamesNodeLink old e → r ≡ Err fault.NodeLink
    fails_link (Ok told) h n = absurd (h.3 n)
    fails_link (Err fault.NoSuchNode) h n = absurd ((link_alone e n).0 h.0)
    fails_link (Err fault.NoSuchDatagram) h n = absurd ((link_alone e n).1 h.0)
    fails_link (Err fault.NodeLink) h n = refl
    fails_link (Err fault.ClockEnd) h n = absurd ((link_alone e n).2 h.0)
    fails_link (Err fault.TooSoon) h n = absurd ((soon_alone e h.0).2 n)
    fails_link (Err fault.NoMemory) h n = absurd ((link_alone e n).4 (h.0).0)
    fails_link (Err (fault.BadChange why)) h n = absurd ((link_alone e n).3 why h.0)

    fails_soon : (r : Result (Option AskFault) WorldFault) → How r → BeginsTooSoon old e → r ≡ Err fault.TooSoon
    fails_soon (Ok told) h n = absurd ((soon_alone e n).6 h.0)
    fails_soon (Err fault.NoSuchNode) h n = absurd ((soon_alone e n).0 h.0)
    fails_soon (Err fault.NoSuchDatagram) h n = absurd ((soon_alone e n).1 h.0)
    fails_soon (Err fault.NodeLink) h n = absurd ((soon_alone e n).2 h.0)
    fails_soon (Err fault.ClockEnd) h n = absurd ((soon_alone e n).3 h.0)
    fails_soon (Err fault.TooSoon) h n = refl
    fails_soon (Err fault.NoMemory) h n = absurd ((soon_alone e n).5 (h.0).0)
    fails_soon (Err (fault.BadChange why)) h n = absurd ((soon_alone e n).4 why h.0)

    pub node_exactly : (r : Result (Option AskFault) WorldFault) → How r → (IsErrOf r fault.NoSuchNode ↔ NamesNoNode old e)
    node_exactly r h = (λ is. (let k : How (Err fault.NoSuchNode) = subst How is h in k.0), fails_node r h)

    pub copy_exactly : (r : Result (Option AskFault) WorldFault) → How r → (IsErrOf r fault.NoSuchDatagram ↔ NamesNoCopy old e)
    copy_exactly r h = (λ is. (let k : How (Err fault.NoSuchDatagram) = subst How is h in k.0), fails_copy r h)

    pub link_exactly : (r : Result (Option AskFault) WorldFault) → How r → (IsErrOf r fault.NodeLink ↔ NamesNodeLink old e)
    link_exactly r h = (λ is. (let k : How (Err fault.NodeLink) = subst How is h in k.0), fails_link r h)

    pub soon_exactly : (r : Result (Option AskFault) WorldFault) → How r → (IsErrOf r fault.TooSoon ↔ BeginsTooSoon old e)
    soon_exactly r h = (λ is. (let k : How (Err fault.TooSoon) = subst How is h in k.0), fails_soon r h)

    pub clock_exactly : (r : Result (Option AskFault) WorldFault) → How r → (IsErrOf r fault.ClockEnd ↔ PassesClock old e)
    clock_exactly r h = (λ is. (let k : How (Err fault.ClockEnd) = subst How is h in k.0), fails_clock r h)

    pub change_exactly : (r : Result (Option AskFault) WorldFault) → How r → (why : ChangeFault)
        → (IsErrOf r (fault.BadChange why) ↔ RefusesChange old e why)
    change_exactly r h why = (λ is. (let k : How (Err (fault.BadChange why)) = subst How is h in k.0), fails_change r h why)

    pub memory_only : (r : Result (Option AskFault) WorldFault) → How r → IsErrOf r fault.NoMemory → TakesMemory overtake old e
    memory_only r h is = let k : How (Err fault.NoMemory) = subst How is h in (k.0).0

    pub step_is : (r : Result (Option AskFault) WorldFault) → How r → OnOk r (WorldStepSo overtake u old e new)
    step_is (Ok told) h = h.0
    step_is (Err f) h = tt

    pub told_is : (r : Result (Option AskFault) WorldFault) → How r → IfOk r (λ told. Tells told old e new)
    told_is (Ok told) h = h.1
    told_is (Err f) h = tt

    pub same_is : (r : Result (Option AskFault) WorldFault) → How r → OnErr r (new ≡ old)
    same_is (Ok told) h = tt
    same_is (Err f) h = h.1

    -- in code the opening stores and the limit stay beside it
    pub same_seen : (r : Result (Option AskFault) WorldFault) → How r → (now then : Instant) → OnErr r (now ≡ then) → (lives was : List Life)
        → OnErr r (lives ≡ was) → (limit : ℕ) (opening : List Store) (reuses : List Bool) → OnErr r (seen limit opening reuses new now lives ≡ seen limit opening reuses old then was)
    same_seen (Ok told) h now then same lives was lived limit opening reuses = tt
    same_seen (Err f) h now then same lives was lived limit opening reuses = λ i. seen limit opening reuses (h.1 i) (same i) (lived i)

-- by the same rules
pub by_rules : (overtake : ℕ) (a b : List Bool) (old new : World) (e : Event) (r : Result (Option AskFault) WorldFault) → a ≡ b
    → HappensTellingSo overtake (reuses_by a) old e r new → HappensTellingSo overtake (reuses_by b) old e r new
by_rules overtake a b old new e r same h = subst (λ (l : List Bool). HappensTellingSo overtake (reuses_by l) old e r new) same h

-- Want of memory.

pub on_err : {T E P : Type 0} (r : Result T E) → P → OnErr r P
on_err (Ok x) h = tt
on_err (Err e) h = h

pub no_memory : {A : Type 0} (overtake : ℕ) (old new : World) (e : Event) (q : Result A WorldFault) → q ≡ Err fault.NoMemory → TakesMemory overtake old e
    → (NamesNoNode old e → ⊥) → new ≡ old → Happens overtake old e q new
no_memory {A} overtake old new e q is memory node same =
    subst (λ (r : Result A WorldFault). Happens overtake old e r new) (sym is) ((memory, node), same)

pub no_memory_so : {A : Type 0} (overtake : ℕ) (u : Reuses) (old new : World) (e : Event) (q : Result A WorldFault) → q ≡ Err fault.NoMemory
    → TakesMemory overtake old e → (NamesNoNode old e → ⊥) → new ≡ old → HappensSo overtake u old e q new
no_memory_so {A} overtake u old new e q is memory node same =
    subst (λ (r : Result A WorldFault). HappensSo overtake u old e r new) (sym is) ((memory, node), same)

pub no_memory_told : (overtake : ℕ) (old new : World) (e : Event) (q : Result (Option AskFault) WorldFault) → q ≡ Err fault.NoMemory
    → TakesMemory overtake old e → (NamesNoNode old e → ⊥) → new ≡ old → HappensTelling overtake old e q new
no_memory_told overtake old new e q is memory node same =
    subst (λ (r : Result (Option AskFault) WorldFault). HappensTelling overtake old e r new) (sym is) ((memory, node), same)

-- Events that tell nothing.

abbrev pub IsNoAsk : Event → Type 0
IsNoAsk (Ask client server limits r) = ⊥
IsNoAsk (Deliver number) = Unit {0}
IsNoAsk (Noise node from octets) = Unit {0}
IsNoAsk (Stray node from octets) = Unit {0}
IsNoAsk (AskAway client peer limits q) = ⊥
IsNoAsk (Tick node) = Unit {0}
IsNoAsk (Restart node exact store) = Unit {0}
IsNoAsk (Begin node exact) = Unit {0}
IsNoAsk (BeginAgain node exact first_id store) = Unit {0}
IsNoAsk (Advance by own) = Unit {0}
IsNoAsk (Change node c) = Unit {0}

tells_none : (old new : World) (e : Event) → IsNoAsk e → Tells None old e new
tells_none old new (Ask client server limits r) n = absurd n
tells_none old new (Deliver number) n = tt
tells_none old new (Noise node from octets) n = tt
tells_none old new (Stray node from octets) n = tt
tells_none old new (AskAway client peer limits q) n = absurd n
tells_none old new (Tick node) n = tt
tells_none old new (Restart node exact store) n = tt
tells_none old new (Begin node exact) n = tt
tells_none old new (BeginAgain node exact first_id store) n = tt
tells_none old new (Advance by own) n = tt
tells_none old new (Change node c) n = tt

pub told_nothing : {A : Type 0} (overtake : ℕ) (old new : World) (e : Event) → IsNoAsk e → (done : Result A WorldFault)
    → (r : Result (Option AskFault) WorldFault) → Happens overtake old e done new → Untells done r → HappensTelling overtake old e r new
told_nothing overtake old new e n (Ok x) r h is =
    subst (λ (q : Result (Option AskFault) WorldFault). HappensTelling overtake old e q new) (sym is) (h.0, tells_none old new e n, h.1, h.2)
told_nothing overtake old new e n (Err f) r h is =
    subst (λ (q : Result (Option AskFault) WorldFault). HappensTelling overtake old e q new) (sym is) h

-- the same where these nodes let invoke IDs be used again
pub told_nothing_so : {A : Type 0} (overtake : ℕ) (u : Reuses) (old new : World) (e : Event) → IsNoAsk e → (done : Result A WorldFault)
    → (r : Result (Option AskFault) WorldFault) → HappensSo overtake u old e done new → Untells done r → HappensTellingSo overtake u old e r new
told_nothing_so overtake u old new e n (Ok x) r h is =
    subst (λ (q : Result (Option AskFault) WorldFault). HappensTellingSo overtake u old e q new) (sym is) (h.0, tells_none old new e n, h.1, h.2)
told_nothing_so overtake u old new e n (Err f) r h is =
    subst (λ (q : Result (Option AskFault) WorldFault). HappensTellingSo overtake u old e q new) (sym is) h

-- Events at which no node hears a datagram are the same, whichever nodes let them be used again.

abbrev pub HearsNothing : Event → Type 0
HearsNothing (Ask client server limits r) = Unit {0}
HearsNothing (Deliver number) = ⊥
HearsNothing (Noise node from octets) = ⊥
HearsNothing (Stray node from octets) = ⊥
HearsNothing (AskAway client peer limits q) = Unit {0}
HearsNothing (Tick node) = Unit {0}
HearsNothing (Restart node exact store) = Unit {0}
HearsNothing (Begin node exact) = Unit {0}
HearsNothing (BeginAgain node exact first_id store) = Unit {0}
HearsNothing (Advance by own) = Unit {0}
HearsNothing (Change node c) = Unit {0}

step_so : (overtake : ℕ) (u : Reuses) (old new : World) (e : Event) → HearsNothing e → WorldStep overtake old e new → WorldStepSo overtake u old e new
step_so overtake u old new (Ask client server limits r) n s = s
step_so overtake u old new (Deliver number) n s = absurd n
step_so overtake u old new (Noise node from octets) n s = absurd n
step_so overtake u old new (Stray node from octets) n s = absurd n
step_so overtake u old new (AskAway client peer limits q) n s = s
step_so overtake u old new (Tick node) n s = s
step_so overtake u old new (Restart node exact store) n s = s
step_so overtake u old new (Begin node exact) n s = s
step_so overtake u old new (BeginAgain node exact first_id store) n s = s
step_so overtake u old new (Advance by own) n s = s
step_so overtake u old new (Change node c) n s = s

pub told_so : (overtake : ℕ) (u : Reuses) (old new : World) (e : Event) (r : Result (Option AskFault) WorldFault)
    → HappensTelling overtake old e r new → HearsNothing e → HappensTellingSo overtake u old e r new
told_so overtake u old new e (Ok told) h n = (step_so overtake u old new e n h.0, h.1, h.2, h.3)
told_so overtake u old new e (Err f) h n = h

-- What is known of a copy that may be delivered.

abbrev pub IsKnown : (overtake life now number : ℕ) → List Copy → Option Bool → Type 0
IsKnown overtake life now number copies None = slice_get copies number ≡ None
IsKnown overtake life now number copies (Some b) =
    (c : Copy) × (slice_get copies number ≡ Some c) × (is_deliverable overtake life now number copies c ≡ b)

pub known : (overtake life now number : ℕ) (copies : List Copy) (answer : Option Bool) → (slice_get copies number ≡ None → answer ≡ None)
    → ((c : Copy) → slice_get copies number ≡ Some c → answer ≡ Some (is_deliverable overtake life now number copies c))
    → IsKnown overtake life now number copies answer
known overtake life now number copies answer none some = go (slice_get copies number) refl
  where
    go : (o : Option Copy) → slice_get copies number ≡ o → IsKnown overtake life now number copies answer
    go None e = subst (IsKnown overtake life now number copies) (sym (none e)) e
    go (Some c) e = subst (IsKnown overtake life now number copies) (sym (some c e)) (c, e, refl)
