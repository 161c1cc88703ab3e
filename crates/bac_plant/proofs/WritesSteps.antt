-- What each event of a world leaves of the entry of a write, and adds to the log.
use Rattle.std.proofs.Common.{◌≡◌, ℕ, ◌+◌, ◌<◌, ◌≤◌, Bool, true, false, List, [], ◌∷◌, length, ◌⊎◌, Option, Some, None, slice_get, if◌then◌else◌, nat_eq}
use Rattle.std.proofs.Common.{min, refl, sym, ap, subst, inl, inr, ◌∙◌, arith}
use Rattle.std.proofs.lemmas.Bool.Decides.{nat_tests}
use Rattle.bac_apdu.specs.Apdu.{Apdu}
use Rattle.bac_apdu.specs.Spelling.{SpellsApdu}
use Rattle.bac_npdu.specs.Datagram.{Means}
use Rattle.bac_npdu.specs.Peers.{PeerView}
use Rattle.bac_protocol.specs.declared.times.TheConstants.{DEADLINE, KEEP}
use Rattle.bac_protocol.specs.Claims.{IsBounded}
use Rattle.bac_protocol.specs.Pace.{Clock, IsShown, clock_at, goes_on, most}
use Rattle.bac_protocol.specs.Server.{Effect, ServerTransaction, is_live}
use Rattle.bac_protocol.specs.Service.{Octets}
use Rattle.bac_protocol.specs.Transaction.{Key, Rules}
use Rattle.bac_protocol.specs.Wire.{is_from_client}
use Rattle.bac_protocol.specs.World.{Net}
use Rattle.bac_protocol.proofs.Paces.{shows_on}
use Rattle.bac_reuse.proofs.ReusingMoves.{in_order_so_in}
use Rattle.bac_slots.specs.Slots.{IsDistinct, keep, value_at}
use Rattle.bac_transaction.specs.Ends.{act_at, context_of, key_of}
use Rattle.bac_transaction.specs.Keys.{PeerKey, same_key}
use Rattle.bac_transaction.specs.Services.{service_of}
use Rattle.bac_transaction.proofs.KeyedSlots.{changed, changed_value, decide_slot_key, distinct_changed, passing_value, value_changed}
use Rattle.bac_world.specs.Node.{IsDropped, Node, NodeTick, Outcome}
use Rattle.bac_world.specs.Once.Fact.{Asked, AskedAway, Changed, Restarted}
use Rattle.bac_world.specs.ReusingLogs.{Reuses}
use Rattle.bac_world.specs.ReusingNodes.{NodeHears}
use Rattle.bac_world.specs.ReusingWorlds.{DeliversIfSo, HearsSo, WorldStepSo}
use Rattle.bac_world.specs.Services.{ArePerformed, Performed}
use Rattle.bac_world.specs.World.{Copy, Event, IsOfNone, IsWithNode, Life, RunsOn, Time, World, is_deliverable, told, with_act, with_clock, with_life}
use Rattle.bac_world.specs.World.Event.{Advance, Ask, AskAway, Begin, BeginAgain, Change, Deliver, Noise, Restart, Stray, Tick}
use Rattle.bac_world.proofs.Heard.{IsHeardIn, IsHeardInBy, heard_in}
use Rattle.bac_world.proofs.ServerTick.{entry_tick}
use Rattle.bac_world.proofs.Settings.{always, free_for, reusing_in}
use Rattle.bac_world.proofs.Steps.{Over, decide_number, each_with}
use Rattle.bac_plant.specs.Writes.{AddsNothingFor, HearsNoOther, IsNoOther, KeptOctets}
use Rattle.bac_plant.proofs.WritesKept.{HasKept, none_performed, other_kept, own_kept, table, tick_kept}
use Rattle.bac_plant.proofs.WritesMachine.{IsKeptEntry, live_until}
use Rattle.bac_plant.proofs.WritesLogs.{IsOfOther, adds_ended, adds_logged, adds_none, adds_one, adds_then}

-- what was performed is of that key
performed_key : (store : _) (p : PeerKey) (e : Option Effect) (o : Option Performed) → ArePerformed store (act_at p e) o → (d : Performed) → o ≡ Some d
    → d.key ≡ p
performed_key store p None None done d is = absurd cc
performed_key store p None (Some y) done d is = absurd done
performed_key store p (Some x) None done d is = absurd done
performed_key store p (Some x) (Some y) done d is = let same : y ≡ d = cc in ap (λ (z : Performed). z.key) (sym same) ∙ done.key

-- nothing was
pub performed_none : (store : _) (p : PeerKey) (e : Option Effect) (o : Option Performed) → ArePerformed store (act_at p e) o → e ≡ None → o ≡ None
performed_none store p None None done is = refl
performed_none store p None (Some y) done is = absurd done
performed_none store p (Some x) o done is = absurd cc

module _ (begin choice : ℕ) (request : KeptOctets) (key : PeerKey) where
  abbrev KeptIn : Node → Type 0
  KeptIn a = HasKept begin choice request key a.servers.slots

  -- the node there has the entry
  abbrev pub KeptAt : List Node → ℕ → Type 0
  KeptAt nodes i = (a : Node) → slice_get nodes i ≡ Some a → KeptIn a

  with_kept : (node : ℕ) (old new : List Node) (i : ℕ) (b : Node) → IsWithNode old i b new → (i ≡ node → KeptIn b) → KeptAt old node → KeptAt new node
  with_kept node old new i b s mine others a at = each_with (λ j c. j ≡ node → KeptIn c) old new i b s mine
      (λ j c there is. others c (subst (λ k. slice_get old k ≡ Some c) is there)) node a at refl

  -- the reply table is as it was
  table_kept : (node : ℕ) (old new : List Node) (i : ℕ) (a b : Node) → slice_get old i ≡ Some a → IsWithNode old i b new → b.servers.slots ≡ a.servers.slots
      → KeptAt old node → KeptAt new node
  table_kept node old new i a b at s same kept = with_kept node old new i b s
      (λ is. subst (HasKept begin choice request key) (sym same) (kept a (subst (λ k. slice_get old k ≡ Some a) is at))) kept

  -- What a node hears.

  module _ (reuse : Bool) (now : ℕ) (from octets : Octets) (a b : Node) (o : Outcome) (distinct : IsDistinct same_key a.servers.slots)
      (young : now ≤ begin + KEEP) (was : KeptIn a)
      (no_other : (peer : PeerView) (p : Apdu) → Means SpellsApdu from octets peer p → key_of peer p ≡ key → IsNoOther choice request p) where
    record Left : Type 0 where
      kept : KeptIn b
      other : (d : Performed) → o.performed ≡ Some d → d.key ≡ key → ⊥

    quiet : b.servers.slots ≡ a.servers.slots → o.performed ≡ None → Left
    quiet same none = record {
      kept = subst (HasKept begin choice request key) (sym same) was;
      other = λ d is is_key. let no : None ≡ Some d = sym none ∙ is in cc;
    }

    by_turn : (up : Bool) (peer : PeerView) (p : Apdu) → Means SpellsApdu from octets peer p → IsHeardInBy reuse up peer p now a b o → Left
    by_turn false peer p means turn = quiet (ap (λ (n : Node). n.servers.slots) turn.node) turn.performed
    by_turn true peer p means turn = go (decide_slot_key (key_of peer p) key)
      where
        free : Bool
        free = free_for turn.0 reuse now (key_of peer p) p a.servers

        node_is : b.servers.slots ≡ table now reuse a.settings (service_of a.store) (key_of peer p) p a.servers.slots distinct free
        node_is = ap (λ (n : Node). n.servers.slots) turn.1.node

        go : (key_of peer p ≡ key) ⊎ (key_of peer p ≡ key → ⊥) → Left
        go (inr ne) = record {
          kept = subst (HasKept begin choice request key) (sym node_is)
              (other_kept now reuse a.settings (service_of a.store) (key_of peer p) p a.servers.slots distinct free begin choice request young key ne was);
          other = λ d is is_key. ne (sym (performed_key a.store (key_of peer p) _ o.performed turn.1.performed d is) ∙ is_key);
        }
        go (inl same) =
            let mine : HasKept begin choice request (key_of peer p) a.servers.slots = subst (λ k. HasKept begin choice request k a.servers.slots) (sym same) was in
            let none = none_performed now reuse a.settings (service_of a.store) (key_of peer p) p a.servers.slots distinct free begin choice request young
            mine (no_other peer p means same) in
            let left = own_kept now reuse a.settings (service_of a.store) (key_of peer p) p a.servers.slots distinct free begin choice request young
            mine (no_other peer p means same) in
            record {
              kept = subst (HasKept begin choice request key) (sym node_is)
                  (subst (λ k. HasKept begin choice request k (table now reuse a.settings (service_of a.store) (key_of peer p) p
                  a.servers.slots distinct free)) same left);
              other = λ d is is_key. let no : None ≡ Some d = sym (performed_none a.store (key_of peer p) _ o.performed turn.1.performed none) ∙ is in cc;
            }

    hears_left : NodeHears reuse now from octets a b o → Left
    hears_left h = go (heard_in now from octets a b o reuse h)
      where
        go : IsDropped now from octets a b o ⊎ IsHeardIn reuse now from octets a b o → Left
        go (inl d) = quiet (ap (λ (n : Node). n.servers.slots) d.node) (ap (λ (y : Outcome). y.performed) d.outcome)
        go (inr d) = by_turn (is_from_client d.apdu) d.peer d.apdu d.means d.heard

  -- Worlds.

  pub record Went (node : ℕ) (v v' : World) : Type 0 where
    pub kept : KeptAt v'.nodes node
    pub adds : AddsNothingFor node key v.log v'.log

  stays : (node : ℕ) (v v' : World) → KeptAt v.nodes node → v' ≡ v → Went node v v'
  stays node v v' was same = record {
    kept = subst (λ (y : World). KeptAt y.nodes node) (sym same) was;
    adds = adds_none node key v.log v'.log (ap (λ (y : World). y.log) same);
  }

  module _ (links : ℕ → Option Octets) (apart : (i j : ℕ) (l : Octets) → links i ≡ Some l → links j ≡ Some l → i ≡ j) (W : ℕ) (x : Rules)
      (bound : IsBounded W x) (u : Reuses) (v : World) (n : Net) (h : Over links apart W x (Some (always u)) v n) (node : ℕ) where
    module _ (young : told v node ≤ begin + KEEP) (was : KeptAt v.nodes node) (v' : World) where
      hears_went : (i : ℕ) (from octets : Octets)
          → (i ≡ node → (peer : PeerView) (p : Apdu) → Means SpellsApdu from octets peer p → key_of peer p ≡ key → IsNoOther choice request p)
          → HearsSo (u i) v i from octets v' → Went node v v'
      hears_went i from octets no_other s = split (decide_number i node)
        where
          made : (i ≡ node → KeptIn s.after) → IsOfOther node key i s.outcome.performed → Went node v v'
          made kept other = record {
            kept = with_kept node v.nodes v'.nodes i s.after s.acts.nodes kept was;
            adds = adds_then node key v.log s.acts.between v'.log
                (adds_ended node key v.notes i s.outcome.ended v.log s.acts.between s.acts.ended)
                (adds_logged node key (u i) v.nodes v.notes i s.after s.outcome.performed other s.acts.between v'.log s.acts.logged);
          }

          split : (i ≡ node) ⊎ (i ≡ node → ⊥) → Went node v v'
          split (inl is) =
              let left = hears_left (u i) (told v i) from octets s.before s.after s.outcome ((h.nodes i s.before s.at).servers).distinct
              (subst (λ k. told v k ≤ begin + KEEP) (sym is) young) (was s.before (subst (λ k. slice_get v.nodes k ≡ Some s.before) is s.at)) (no_other is)
              s.on in
              made (λ e. left.kept) (λ d done e. left.other d done)
          split (inr ne) = made (λ e. absurd (ne e)) (λ d done e. absurd (ne e))

      delivered : (b : Bool) (c : Copy) → IsOfNone v.nodes key.peer.link → DeliversIfSo b u v c v' → Went node v v'
      delivered true c stranger d = hears_went c.to d.link c.octets
          (λ is peer p means same. absurd (stranger c.from
          (d.sender ∙ ap Some (sym (ap (λ (y : PeerView). y.link) means.carries.sender) ∙ ap (λ (k : PeerKey). k.peer.link) same)))) d.hears
      delivered false c stranger d = stays node v v' was d

      ticked : (i : ℕ) (a b : Node) (o : Outcome) → slice_get v.nodes i ≡ Some a → NodeTick (told v i) a b o → i ≡ node → KeptIn b
      ticked i a b o at t is =
          let k = was a (subst (λ j. slice_get v.nodes j ≡ Some a) is at) in
          let young_there : told v i ≤ begin + KEEP = subst (λ j. told v j ≤ begin + KEEP) (sym is) young in
          let next : ServerTransaction = entry_tick a.settings (told v i) key k.entry in
          let kept : IsKeptEntry begin choice request next = tick_kept begin choice request (context_of a.settings (told v i) key) k.entry young_there k.kept in
          let live : is_live (told v i) next ≡ true = live_until (told v i) next (let b = kept.begin_is in omega arith) in
          record {
            entry = next;
            there = ap (λ (m : Node). value_at same_key key m.servers.slots) t.node
                ∙ passing_value ServerTransaction (is_live (told v i)) key (changed ServerTransaction (entry_tick a.settings (told v i)) a.servers.slots)
                (distinct_changed ServerTransaction (entry_tick a.settings (told v i)) a.servers.slots ((h.nodes i a at).servers).distinct)
                ∙ ap (keep (is_live (told v i))) (value_changed ServerTransaction (entry_tick a.settings (told v i)) key a.servers.slots
                ∙ ap (changed_value ServerTransaction (entry_tick a.settings (told v i)) key) k.there) ∙ ap (λ b. if b then Some next else None) live;
            kept = kept;
          }

      pub step_went : (e : Event) → IsOfNone v.nodes key.peer.link → RunsOn node (e ∷ []) → HearsNoOther node key choice request (e ∷ [])
          → WorldStepSo x.overtake u v e v' → Went node v v'
      step_went (Ask client server limits r) stranger on quiet_so (inl s) = record {
        kept = table_kept node v.nodes v'.nodes client s.before s.after s.at s.nodes (ap (λ (m : Node). m.servers.slots) s.asks.node) was;
        adds = adds_one node key (Asked (length v.notes) client server r) tt v.log v'.log s.log;
      }
      step_went (Ask client server limits r) stranger on quiet_so (inr s) = stays node v v' was s.same
      step_went (AskAway client peer limits r) stranger on quiet_so (inl s) = record {
        kept = table_kept node v.nodes v'.nodes client s.before s.after s.at s.nodes (ap (λ (m : Node). m.servers.slots) s.asks.node) was;
        adds = adds_one node key (AskedAway (length v.notes) client peer r) tt v.log v'.log s.log;
      }
      step_went (AskAway client peer limits r) stranger on quiet_so (inr s) = stays node v v' was s.same
      step_went (Deliver number) stranger on quiet_so s =
          delivered (is_deliverable x.overtake v.time.pace.life v.time.now number v.copies s.copy) s.copy stranger s.goes
      step_went (Noise i from octets) stranger on quiet_so (inl s) = hears_went i from octets (λ is peer p means same. absurd (s.fit peer p means)) s.hears
      step_went (Noise i from octets) stranger on quiet_so (inr s) = stays node v v' was s.same
      step_went (Stray i from octets) stranger on quiet_so (inl s) = hears_went i from octets quiet_so.0 s.hears
      step_went (Stray i from octets) stranger on quiet_so (inr s) = stays node v v' was s.same
      step_went (Tick i) stranger on quiet_so s = record {
        kept = with_kept node v.nodes v'.nodes i s.after s.acts.nodes (ticked i s.before s.after s.outcome s.at s.tick) was;
        adds = adds_then node key v.log s.acts.between v'.log
            (adds_ended node key v.notes i s.outcome.ended v.log s.acts.between s.acts.ended)
            (adds_logged node key false v.nodes v.notes i s.after s.outcome.performed
            (λ d done e same. let none : None ≡ Some d = sym s.tick.performed ∙ done in cc) s.acts.between v'.log s.acts.logged);
      }
      step_went (Advance by own) stranger on quiet_so s = record {
        kept = subst (λ (y : World). KeptAt y.nodes node) (sym s) was;
        adds = adds_none node key v.log v'.log (ap (λ (y : World). y.log) s);
      }
      step_went (Change i change) stranger on quiet_so s = record {
        kept = table_kept node v.nodes v'.nodes i s.before _ s.at s.nodes refl was;
        adds = adds_one node key (Changed i change) tt v.log v'.log s.log;
      }
      step_went (Restart i exact store) stranger on quiet_so s = record {
        kept = with_kept node v.nodes v'.nodes i _ s.nodes (λ is. absurd (on.0 is)) was;
        adds = adds_one node key (Restarted i store) tt v.log v'.log s.log;
      }
      step_went (Begin i exact) stranger on quiet_so s = record {
        kept = subst (λ (y : World). KeptAt y.nodes node) (sym s.is) was;
        adds = adds_none node key v.log v'.log (ap (λ (y : World). y.log) s.is);
      }
      step_went (BeginAgain i exact first_id store) stranger on quiet_so s = record {
        kept = with_kept node v.nodes v'.nodes i _ s.nodes (λ is. absurd (on.0 is)) was;
        adds = adds_one node key (Restarted i store) tt v.log v'.log s.log;
      }

    -- The clock of a node that does not restart never goes back.

    as_before : (t : Time) → t ≡ v.time → told v node ≤ (t.clocks node).shows
    as_before t same = subst (λ (y : Time). told v node ≤ (y.clocks node).shows) (sym same) (omega arith)

    goes : (by own : ℕ) → told v node ≤ (goes_on v.time.pace by own (v.time.clocks node)).shows
    goes by own =
        let key : Key = record { client = node; server = node; invoke_id = 0 } in
        let ticking = (in_order_so_in W (reusing_in (Some (always u))) h.sound.0 h.sound.2 h.sound.1 u n h.sound.3).ticking key in
        let some : 0 < v.time.pace.grain = subst (λ p. 0 < p.grain) h.pace ticking.some in
        shows_on v.time.pace some by own (v.time.clocks node)
        (subst (λ p. IsShown p (v.time.clocks node)) h.pace (subst (λ (c : Clock). IsShown n.pace c) (h.there node) ticking.server))

    apart_from : (i : ℕ) → (i ≡ node → ⊥) → nat_eq node i ≡ false
    apart_from i ne = go (nat_eq node i) refl
      where
        go : (b : Bool) → nat_eq node i ≡ b → b ≡ false
        go true e = absurd (ne (grind (arith, nat_tests)))
        go false e = refl

    same_world : (v' : World) → v' ≡ v → told v node ≤ told v' node
    same_world v' same = as_before v'.time (ap (λ (y : World). y.time) same)

    later_delivered : (b : Bool) (c : Copy) (v' : World) → DeliversIfSo b u v c v' → told v node ≤ told v' node
    later_delivered true c v' d = as_before v'.time d.hears.acts.time
    later_delivered false c v' d = same_world v' d

    -- another node's clock begins anew
    other_clock : (v' : World) (i exact : ℕ) → (i ≡ node → ⊥) → v'.time ≡ with_clock v.time i exact → told v node ≤ told v' node
    other_clock v' i exact other is = subst (λ (y : Time). told v node ≤ (y.clocks node).shows) (sym is)
        (subst (λ (b : Bool). told v node ≤ (if b then clock_at v.time.pace exact else v.time.clocks node).shows) (sym (apart_from i other)) (omega arith))

    pub step_later : (e : Event) (v' : World) → (v.lives node).active ≡ true → RunsOn node (e ∷ []) → WorldStepSo x.overtake u v e v' → told v node ≤ told v' node
    step_later (Ask client server limits r) v' active on (inl s) = as_before v'.time s.time
    step_later (Ask client server limits r) v' active on (inr s) = same_world v' s.same
    step_later (AskAway client peer limits r) v' active on (inl s) = as_before v'.time s.time
    step_later (AskAway client peer limits r) v' active on (inr s) = same_world v' s.same
    step_later (Deliver number) v' active on s =
        later_delivered (is_deliverable x.overtake v.time.pace.life v.time.now number v.copies s.copy) s.copy v' s.goes
    step_later (Noise i from octets) v' active on (inl s) = as_before v'.time s.hears.acts.time
    step_later (Noise i from octets) v' active on (inr s) = same_world v' s.same
    step_later (Stray i from octets) v' active on (inl s) = as_before v'.time s.hears.acts.time
    step_later (Stray i from octets) v' active on (inr s) = same_world v' s.same
    step_later (Tick i) v' active on s = as_before v'.time s.acts.time
    step_later (Advance by own) v' active on s = subst (λ (y : World). told v node ≤ told y node) (sym s) (goes by (own node))
    step_later (Change i change) v' active on s = as_before v'.time s.time
    step_later (Restart i exact store) v' active on s = other_clock v' i exact on.0 s.time
    step_later (BeginAgain i exact first_id store) v' active on s = other_clock v' i exact on.0 s.time
    step_later (Begin i exact) v' active on s = other_clock v' i exact
        (λ same. let no : false ≡ true = sym s.first ∙ ap (λ (k : ℕ). (v.lives k).active) same ∙ active in cc) (ap (λ (y : World). y.time) s.is)

-- A node at which something happened.

still_active : (lives next : ℕ → Life) (i : ℕ) (life : Life) → next ≡ with_life lives i life → life.active ≡ true → (j : ℕ) → (lives j).active ≡ true
    → (next j).active ≡ true
still_active lives next i life is active j was = subst (λ (f : ℕ → Life). (f j).active ≡ true) (sym is) (go (nat_eq j i))
  where
    go : (b : Bool) → (if b then life else lives j).active ≡ true
    go true = active
    go false = was

module _ (overtake : ℕ) (u : Reuses) (v v' : World) (j : ℕ) (was : (v.lives j).active ≡ true) where
  as_it_was : v' ≡ v → (v'.lives j).active ≡ true
  as_it_was same = subst (λ (y : World). (y.lives j).active ≡ true) (sym same) was

  acted : (i : ℕ) → v'.lives ≡ with_act v.lives i → (v'.lives j).active ≡ true
  acted i is = still_active v.lives v'.lives i (record { active = true; sends_until = (v.lives i).sends_until }) is refl j was

  active_delivered : (b : Bool) (c : Copy) → DeliversIfSo b u v c v' → (v'.lives j).active ≡ true
  active_delivered true c d = acted c.to d.hears.acts.lives
  active_delivered false c d = as_it_was d

  pub step_active : (e : Event) → WorldStepSo overtake u v e v' → (v'.lives j).active ≡ true
  step_active (Ask client server limits r) (inl s) =
      still_active v.lives v'.lives client (record { active = true; sends_until = v.time.now + most v.time.pace DEADLINE + 1 }) s.lives refl j was
  step_active (Ask client server limits r) (inr s) = as_it_was s.same
  step_active (AskAway client peer limits r) (inl s) = acted client s.lives
  step_active (AskAway client peer limits r) (inr s) = as_it_was s.same
  step_active (Deliver number) s =
      active_delivered (is_deliverable overtake v.time.pace.life v.time.now number v.copies s.copy) s.copy s.goes
  step_active (Noise i from octets) (inl s) = acted i s.hears.acts.lives
  step_active (Noise i from octets) (inr s) = as_it_was s.same
  step_active (Stray i from octets) (inl s) = acted i s.hears.acts.lives
  step_active (Stray i from octets) (inr s) = as_it_was s.same
  step_active (Tick i) s = acted i s.acts.lives
  step_active (Advance by own) s = subst (λ (y : World). (y.lives j).active ≡ true) (sym s) was
  step_active (Change i change) s = subst (λ (f : ℕ → Life). (f j).active ≡ true) (sym s.lives) was
  step_active (Restart i exact store) s =
      still_active v.lives v'.lives i (record { active = true; sends_until = min (v.lives i).sends_until (v.time.now + 1) }) s.lives refl j was
  step_active (Begin i exact) s = subst (λ (y : World). (y.lives j).active ≡ true) (sym s.is) was
  step_active (BeginAgain i exact first_id store) s = acted i s.lives
