-- The settings of nodes stay in a run of a world.
use Rattle.std.proofs.Common.{◌≡◌, ◌⊎◌, ℕ, Bool, true, false, List, [], ◌∷◌, Option, Some, slice_get, nat_eq, refl, sym, ap, inl, inr, ◌∙◌, arith}
use Rattle.std.proofs.lemmas.Bool.Decides.{nat_tests}
use Rattle.std.specs.Option.{option_map}
use Rattle.bac_apdu.specs.Apdu.{Apdu}
use Rattle.bac_npdu.specs.Peers.{PeerView}
use Rattle.bac_protocol.specs.Context.{Settings}
use Rattle.bac_protocol.specs.Service.{Octets}
use Rattle.bac_protocol.specs.Wire.{is_from_client}
use Rattle.bac_world.specs.Node.{IsDropped, Node, Outcome}
use Rattle.bac_world.specs.ReusingLogs.{Reuses}
use Rattle.bac_world.specs.ReusingNodes.{NodeHears}
use Rattle.bac_world.specs.ReusingWorlds.{DeliversIfSo, HearsSo, WorldRunSo, WorldStepSo}
use Rattle.bac_world.specs.World.{Copy, Event, IsWithNode, World, is_deliverable, told}
use Rattle.bac_world.specs.World.Event.{Advance, Ask, AskAway, Begin, BeginAgain, Change, Deliver, Noise, Restart, Stray, Tick}
use Rattle.bac_world.proofs.Heard.{IsHeardIn, IsHeardInBy, heard_in}

-- what a node is set to
abbrev pub set_to : Node → Settings
set_to n = n.settings

abbrev pub sets_at : World → (node : ℕ) → Option Settings
sets_at w j = option_map set_to (slice_get w.nodes j)

heard_by : (reuse up : Bool) (peer : PeerView) (p : Apdu) (now : ℕ) (a b : Node) (o : Outcome) → IsHeardInBy reuse up peer p now a b o
    → b.settings ≡ a.settings
heard_by reuse true peer p now a b o t = ap set_to t.1.node
heard_by reuse false peer p now a b o t = ap set_to t.node

heard : (reuse : Bool) (now : ℕ) (from octets : Octets) (a b : Node) (o : Outcome) → NodeHears reuse now from octets a b o → b.settings ≡ a.settings
heard reuse now from octets a b o h = go (heard_in now from octets a b o reuse h)
  where
    go : IsDropped now from octets a b o ⊎ IsHeardIn reuse now from octets a b o → b.settings ≡ a.settings
    go (inl d) = ap set_to d.node
    go (inr d) = heard_by reuse (is_from_client d.apdu) d.peer d.apdu now a b o d.heard

-- a node with its settings takes its place
one_set : (w w' : World) (i : ℕ) (a b : Node) → slice_get w.nodes i ≡ Some a → IsWithNode w.nodes i b w'.nodes → b.settings ≡ a.settings → (j : ℕ)
    → sets_at w' j ≡ sets_at w j
one_set w w' i a b at nodes same j = go (nat_eq j i) refl
  where
    go : (z : Bool) → nat_eq j i ≡ z → sets_at w' j ≡ sets_at w j
    go true e =
        let is : j ≡ i = grind (arith, nat_tests) in
        ap (sets_at w') is ∙ ap (option_map set_to) nodes.here ∙ ap Some same ∙ sym (ap (sets_at w) is ∙ ap (option_map set_to) at)
    go false e = ap (option_map set_to) (nodes.others j (λ is. grind (arith, nat_tests)))

hears_sets : (reuse : Bool) (w w' : World) (i : ℕ) (from octets : Octets) → HearsSo reuse w i from octets w' → (j : ℕ) → sets_at w' j ≡ sets_at w j
hears_sets reuse w w' i from octets h j =
    one_set w w' i h.before h.after h.at h.acts.nodes (heard reuse (told w i) from octets h.before h.after h.outcome h.on) j

delivers_sets : (may : Bool) (u : Reuses) (w : World) (c : Copy) (w' : World) → DeliversIfSo may u w c w' → (j : ℕ) → sets_at w' j ≡ sets_at w j
delivers_sets true u w c w' d j = hears_sets (u c.to) w w' c.to d.link c.octets d.hears j
delivers_sets false u w c w' same j = ap (λ (y : World). sets_at y j) same

step_sets : (overtake : ℕ) (u : Reuses) (w : World) (e : Event) (w' : World) → WorldStepSo overtake u w e w' → (j : ℕ) → sets_at w' j ≡ sets_at w j
step_sets overtake u w (Ask client server limits r) w' (inl s) j = one_set w w' client s.before s.after s.at s.nodes (ap set_to s.asks.node) j
step_sets overtake u w (Ask client server limits r) w' (inr s) j = ap (λ (y : World). sets_at y j) s.same
step_sets overtake u w (AskAway client peer limits r) w' (inl s) j = one_set w w' client s.before s.after s.at s.nodes (ap set_to s.asks.node) j
step_sets overtake u w (AskAway client peer limits r) w' (inr s) j = ap (λ (y : World). sets_at y j) s.same
step_sets overtake u w (Deliver number) w' s j =
    delivers_sets (is_deliverable overtake w.time.pace.life w.time.now number w.copies s.copy) u w s.copy w' s.goes j
step_sets overtake u w (Noise node from octets) w' (inl s) j = hears_sets (u node) w w' node from octets s.hears j
step_sets overtake u w (Noise node from octets) w' (inr s) j = ap (λ (y : World). sets_at y j) s.same
step_sets overtake u w (Stray node from octets) w' (inl s) j = hears_sets (u node) w w' node from octets s.hears j
step_sets overtake u w (Stray node from octets) w' (inr s) j = ap (λ (y : World). sets_at y j) s.same
step_sets overtake u w (Tick node) w' s j = one_set w w' node s.before s.after s.at s.acts.nodes (ap set_to s.tick.node) j
step_sets overtake u w (Advance by own) w' s j = ap (λ (y : World). sets_at y j) s
step_sets overtake u w (Change node change) w' s j = one_set w w' node s.before _ s.at s.nodes refl j
step_sets overtake u w (Restart node exact store) w' s j = one_set w w' node s.before _ s.at s.nodes refl j
step_sets overtake u w (Begin node exact) w' s j = ap (λ (y : World). sets_at y j) s.is
step_sets overtake u w (BeginAgain node exact first_id store) w' s j = one_set w w' node s.before _ s.at s.nodes refl j

pub run_sets : (overtake : ℕ) (u : Reuses) (events : List Event) (w w' : World) → WorldRunSo overtake u w events w' → (j : ℕ) → sets_at w' j ≡ sets_at w j
run_sets overtake u [] w w' run j = ap (λ (y : World). sets_at y j) run
run_sets overtake u (e ∷ es) w w' run j = run_sets overtake u es run.0 w' run.2 j ∙ step_sets overtake u w e run.0 run.1 j
