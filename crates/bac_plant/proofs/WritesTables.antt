-- In the reply tables of a world that a fresh one leads to, no entry that gathers segments keeps a request that came without SEG.
use Rattle.std.proofs.Common.{◌≡◌, ℕ, Bool, true, false, List, [], ◌∷◌, ◌⊎◌, Option, Some, None, slice_get, if◌then◌else◌, refl, sym, subst, inl, inr}
use Rattle.bac_apdu.specs.Apdu.{Apdu}
use Rattle.bac_npdu.specs.Peers.{PeerView}
use Rattle.bac_protocol.specs.Reuse.{server_hears}
use Rattle.bac_protocol.specs.Server.{ServerTransaction, is_live, is_none_live}
use Rattle.bac_protocol.specs.Service.{Octets}
use Rattle.bac_protocol.specs.Wire.{is_from_client}
use Rattle.bac_slots.specs.Slots.{value_at}
use Rattle.bac_transaction.specs.Ends.{ServerSlot, context_of, key_of, put_entry, set_or_put}
use Rattle.bac_transaction.specs.Keys.{PeerKey, same_key}
use Rattle.bac_transaction.specs.Reuse.{is_read}
use Rattle.bac_transaction.specs.Services.{service_of}
use Rattle.bac_transaction.proofs.KeyedSlots.{EachSlot, changed, each_at, each_changed, each_passing, each_put, each_with as each_set, passing}
use Rattle.bac_world.specs.Node.{IsDropped, Node, NodeTick, Outcome}
use Rattle.bac_world.specs.ReusingLogs.{Reuses}
use Rattle.bac_world.specs.ReusingNodes.{NodeHears}
use Rattle.bac_world.specs.ReusingWorlds.{DeliversIfSo, HearsSo, WorldRunSo, WorldStepSo}
use Rattle.bac_world.specs.World.{Copy, Event, IsFresh, IsWithNode, World, is_deliverable, told}
use Rattle.bac_world.specs.World.Event.{Advance, Ask, AskAway, Begin, BeginAgain, Change, Deliver, Noise, Restart, Stray, Tick}
use Rattle.bac_world.proofs.Heard.{IsHeardIn, IsHeardInBy, heard_in}
use Rattle.bac_world.proofs.Reused.{heard_left}
use Rattle.bac_world.proofs.ServerTick.{entry_tick}
use Rattle.bac_world.proofs.Settings.{free_for, slots_heard}
use Rattle.bac_world.proofs.Steps.{each_with}
use Rattle.bac_plant.proofs.WritesGathering.{GathersNoWhole, NoneWholeIn, hears_none_whole, ticks_none_whole}

abbrev pub OfSlot : PeerKey → ServerTransaction → Type 0
OfSlot key e = GathersNoWhole e

-- of each slot of a reply table
abbrev pub NoneWholeAmong : List ServerSlot → Type 0
NoneWholeAmong slots = EachSlot ServerTransaction OfSlot slots

pub none_whole_at : (key : PeerKey) (slots : List ServerSlot) → NoneWholeAmong slots → NoneWholeIn (value_at same_key key slots)
none_whole_at key slots each = go (value_at same_key key slots) refl
  where
    go : (o : Option ServerTransaction) → value_at same_key key slots ≡ o → NoneWholeIn o
    go None is = tt
    go (Some e) is = each_at ServerTransaction OfSlot key e slots each is

put_so : (now : ℕ) (key : PeerKey) (o : Option ServerTransaction) (slots : List ServerSlot) → NoneWholeIn o → NoneWholeAmong slots
    → NoneWholeAmong (put_entry now key o slots)
put_so now key None slots so each = each
put_so now key (Some d) slots so each = go (is_live now d) (is_none_live now (value_at same_key key slots))
  where
    go : (b dead : Bool) → NoneWholeAmong (if b then set_or_put now key d slots dead else slots)
    go true true = each_put ServerTransaction OfSlot key d.begin d (passing ServerTransaction (is_live now) slots) so
        (each_passing ServerTransaction OfSlot (is_live now) slots each)
    go true false = each_set ServerTransaction OfSlot key d slots so each
    go false dead = each

-- A node.

ticked_so : (now : ℕ) (a b : Node) (o : Outcome) → NodeTick now a b o → NoneWholeAmong a.servers.slots → NoneWholeAmong b.servers.slots
ticked_so now a b o t was = subst (λ (n : Node). NoneWholeAmong n.servers.slots) (sym t.node)
    (each_passing ServerTransaction OfSlot (is_live now) (changed ServerTransaction (entry_tick a.settings now) a.servers.slots)
    (each_changed ServerTransaction (entry_tick a.settings now) OfSlot (λ key e so. ticks_none_whole (context_of a.settings now key) e so) a.servers.slots was))

module _ (reuse : Bool) (now : ℕ) (from octets : Octets) (a b : Node) (o : Outcome) (was : NoneWholeAmong a.servers.slots) where
  by_turn : (up : Bool) (peer : PeerView) (p : Apdu) → IsHeardInBy reuse up peer p now a b o → NoneWholeAmong b.servers.slots
  by_turn false peer p turn = subst (λ (n : Node). NoneWholeAmong n.servers.slots) (sym turn.node) was
  by_turn true peer p turn = subst (λ (n : Node). NoneWholeAmong n.servers.slots) (sym turn.1.node)
      (put_so now key (server_hears reuse (context_of a.settings now key) (service_of a.store) is_read entry free p).entry
      (slots_heard reuse now key p a.servers.slots)
      (hears_none_whole (context_of a.settings now key) (service_of a.store) reuse entry (none_whole_at key a.servers.slots was) free p)
      ((heard_left key reuse now p a.servers.slots).each OfSlot was))
    where
      key : PeerKey
      key = key_of peer p

      entry : Option ServerTransaction
      entry = value_at same_key key a.servers.slots

      free : Bool
      free = free_for turn.0 reuse now key p a.servers

  hears_so : NodeHears reuse now from octets a b o → NoneWholeAmong b.servers.slots
  hears_so h = go (heard_in now from octets a b o reuse h)
    where
      go : IsDropped now from octets a b o ⊎ IsHeardIn reuse now from octets a b o → NoneWholeAmong b.servers.slots
      go (inl d) = subst (λ (n : Node). NoneWholeAmong n.servers.slots) (sym d.node) was
      go (inr d) = by_turn (is_from_client d.apdu) d.peer d.apdu d.heard

-- Worlds.

-- of each node's table
abbrev pub NoneWhole : List Node → Type 0
NoneWhole nodes = (i : ℕ) (a : Node) → slice_get nodes i ≡ Some a → NoneWholeAmong a.servers.slots

with_so : (old new : List Node) (i : ℕ) (b : Node) → IsWithNode old i b new → NoneWholeAmong b.servers.slots → NoneWhole old → NoneWhole new
with_so old new i b s here others = each_with (λ j n. NoneWholeAmong n.servers.slots) old new i b s here others

pub fresh_none_whole : (w : World) → IsFresh w → NoneWhole w.nodes
fresh_none_whole w fresh i a at = subst NoneWholeAmong (sym (fresh.nodes i a at).entries) tt

module _ (overtake : ℕ) (u : Reuses) where
  same_so : (v w : World) → NoneWhole v.nodes → w ≡ v → NoneWhole w.nodes
  same_so v w was same = subst (λ (y : World). NoneWhole y.nodes) (sym same) was

  heard_so : (v w : World) (i : ℕ) (from octets : Octets) → NoneWhole v.nodes → HearsSo (u i) v i from octets w → NoneWhole w.nodes
  heard_so v w i from octets was s = with_so v.nodes w.nodes i s.after s.acts.nodes
      (hears_so (u i) (told v i) from octets s.before s.after s.outcome (was i s.before s.at) s.on) was

  delivered_so : (b : Bool) (c : Copy) (v w : World) → NoneWhole v.nodes → DeliversIfSo b u v c w → NoneWhole w.nodes
  delivered_so true c v w was d = heard_so v w c.to d.link c.octets was d.hears
  delivered_so false c v w was d = same_so v w was d

  step_so : (v w : World) (e : Event) → NoneWhole v.nodes → WorldStepSo overtake u v e w → NoneWhole w.nodes
  step_so v w (Ask client server limits r) was (inl s) = with_so v.nodes w.nodes client s.after s.nodes
      (subst (λ (n : Node). NoneWholeAmong n.servers.slots) (sym s.asks.node) (was client s.before s.at)) was
  step_so v w (Ask client server limits r) was (inr s) = same_so v w was s.same
  step_so v w (AskAway client peer limits r) was (inl s) = with_so v.nodes w.nodes client s.after s.nodes
      (subst (λ (n : Node). NoneWholeAmong n.servers.slots) (sym s.asks.node) (was client s.before s.at)) was
  step_so v w (AskAway client peer limits r) was (inr s) = same_so v w was s.same
  step_so v w (Deliver number) was s =
      delivered_so (is_deliverable overtake v.time.pace.life v.time.now number v.copies s.copy) s.copy v w was s.goes
  step_so v w (Noise i from octets) was (inl s) = heard_so v w i from octets was s.hears
  step_so v w (Noise i from octets) was (inr s) = same_so v w was s.same
  step_so v w (Stray i from octets) was (inl s) = heard_so v w i from octets was s.hears
  step_so v w (Stray i from octets) was (inr s) = same_so v w was s.same
  step_so v w (Tick i) was s = with_so v.nodes w.nodes i s.after s.acts.nodes
      (ticked_so (told v i) s.before s.after s.outcome s.tick (was i s.before s.at)) was
  step_so v w (Advance by own) was s = subst (λ (y : World). NoneWhole y.nodes) (sym s) was
  step_so v w (Change i change) was s = with_so v.nodes w.nodes i _ s.nodes (was i s.before s.at) was
  step_so v w (Restart i exact store) was s = with_so v.nodes w.nodes i _ s.nodes tt was
  step_so v w (Begin i exact) was s = subst (λ (y : World). NoneWhole y.nodes) (sym s.is) was
  step_so v w (BeginAgain i exact first_id store) was s = with_so v.nodes w.nodes i _ s.nodes tt was

  pub run_none_whole : (es : List Event) (v w : World) → NoneWhole v.nodes → WorldRunSo overtake u v es w → NoneWhole w.nodes
  run_none_whole [] v w was run = same_so v w was run
  run_none_whole (e ∷ es) v w was run = run_none_whole es run.0 w (step_so v run.0 e was run.1) run.2
