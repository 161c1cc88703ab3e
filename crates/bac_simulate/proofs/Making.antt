-- The nodes of a script can make a network: nothing but memory speaks against it.
use Rattle.std.proofs.Common.{◌≡◌, ℕ, zero, suc, ◌+◌, ◌-◌, ◌*◌, ◌<◌, ◌≤◌, true, false, List, [], ◌∷◌, ◌++◌, map, None, Some, slice_get}
use Rattle.std.proofs.Common.{refl, sym, ap, subst, ◌∙◌, arith, append_assoc}
use Rattle.std.proofs.lemmas.Bool.Decides.{nat_tests}
use Rattle.bac_apdu.specs.Apdu as plain
use Rattle.bac_apdu.specs.Views.{limits_view}
use Rattle.bac_apdu.specs.declared.limits.Limits.{Limits}
use Rattle.bac_journal.specs.Lives.{fresh_life}
use Rattle.bac_journal.specs.declared.lives.Life.{Life}
use Rattle.bac_network.specs.Fresh.{fresh_world, links_of, nodes_of, opening_of, Maker, HaveSameLink, HasBadSlots, HasBadWindow, IsRefusedFor, PassesBound}
use Rattle.bac_network.specs.Fresh.{greatest_window}
use Rattle.bac_network.specs.declared.fault.NewWorldFault.{NewWorldFault}
use Rattle.bac_network.specs.declared.fault.NewWorldFault.TheVariants as fault
use Rattle.bac_network.specs.Fresh.{has_slots, window_fits}
use Rattle.bac_network.specs.Histories.{WorldView}
use Rattle.bac_store.specs.House.{house}
use Rattle.bac_store.specs.Stores.{Store}
use Rattle.bac_world.specs.Node.{Node}
use Rattle.bac_simulate.specs.Lines.{Setting}
use Rattle.bac_simulate.specs.Houses.{fresh_lives, house_node, house_nodes, houses, maker_at, makers_from, world_set}
use Rattle.bac_simulate.specs.Scripts.{most_limits}

some_is : (x y : Maker) → Some x ≡ Some y → x ≡ y
some_is x y e = cc

at : (limits : Limits) (window first count i : ℕ) (m : Maker) → slice_get (makers_from limits window first count) i ≡ Some m
    → maker_at limits window (first + i) ≡ m
at limits window first zero i m e = absurd cc
at limits window first (suc count) zero m e =
    let none : first + 0 ≡ first = omega arith in ap (maker_at limits window) none ∙ some_is (maker_at limits window first) m e
at limits window first (suc count) (suc i) m e =
    let on : first + suc i ≡ first + 1 + i = omega arith in ap (maker_at limits window) on ∙ at limits window (first + 1) count i m e

same_end : (x y : ℕ) → 127 ∷ 0 ∷ 0 ∷ 1 ∷ 0xBA ∷ (0xC0 + x) ∷ [] ≡ 127 ∷ 0 ∷ 0 ∷ 1 ∷ 0xBA ∷ (0xC0 + y) ∷ [] → 0xC0 + x ≡ 0xC0 + y
same_end x y e = cc

pub links_differ : (limits : Limits) (window count : ℕ) → HaveSameLink (makers_from limits window 0 count) → ⊥
links_differ limits window count h =
    let one = at limits window 0 count h.first h.one h.at_first in
    let other = at limits window 0 count h.second h.other h.at_second in
    let same = same_end (0 + h.first) (0 + h.second) (ap (λ (m : Maker). (m.0).link) one ∙ (h.same ∙ sym (ap (λ (m : Maker). (m.0).link) other))) in
    let apart = h.apart in
    omega arith

pub slots_fit_all : (limits : Limits) (window count : ℕ) → HasBadSlots (makers_from limits window 0 count) → ⊥
slots_fit_all limits window count h =
    let is = at limits window 0 count h.place h.maker h.at in
    let bad : true ≡ false = subst (λ (m : Maker). has_slots m.0 ≡ false) (sym is) h.bad in
    absurd cc

pub windows_fit : (limits : Limits) (window count : ℕ) → 1 ≤ window → window ≤ 64 → HasBadWindow (makers_from limits window 0 count) → ⊥
windows_fit limits window count least most h =
    let is = at limits window 0 count h.place h.maker h.at in
    let bad : window_fits window ≡ false = subst (λ (m : Maker). window_fits (m.0).window ≡ false) (sym is) h.bad in
    grind (arith, nat_tests, bad, least, most)

greatest_is : (limits : Limits) (window first count : ℕ) → 1 ≤ window → greatest_window (makers_from limits window first count) ≤ window
greatest_is limits window first zero least = least
greatest_is limits window first (suc count) least =
    let others = greatest_is limits window (first + 1) count least in grind (arith, others)

pub bound_fits : (limits : Limits) (overtake window count : ℕ) → 1 ≤ window → overtake + 2 * window ≤ 255
    → PassesBound overtake (makers_from limits window 0 count) → ⊥
bound_fits limits overtake window count least bound h =
    let greatest = greatest_is limits window 0 count least in
    let passes : 255 < overtake + 2 * greatest_window (makers_from limits window 0 count) = h in
    omega arith

-- ---- one node after the other

pub one_made : (limits : Limits) (window first count : ℕ) (made all : List Maker) → first < count
    → made ++ makers_from limits window first (count - first) ≡ all
    → (made ++ maker_at limits window first ∷ []) ++ makers_from limits window (first + 1) (count - (first + 1)) ≡ all
one_made limits window first count made all more before =
    let left : count - first ≡ suc (count - (first + 1)) = omega arith in
    append_assoc made (maker_at limits window first ∷ []) (makers_from limits window (first + 1) (count - (first + 1)))
    ∙ (sym (ap (λ (n : ℕ). made ++ makers_from limits window first n) left) ∙ before)

-- ---- why a network is not made

pub memory_alone : (limits : Limits) (f : NewWorldFault) (overtake window count : ℕ) (makers : List Maker) → makers ≡ makers_from limits window 0 count
    → 1 ≤ window → window ≤ 64 → overtake + 2 * window ≤ 255 → IsRefusedFor f overtake makers → f ≡ fault.NoMemory
memory_alone limits f overtake window count makers is least most bound refused = of f (subst (IsRefusedFor f overtake) is refused) where
  of : (g : NewWorldFault) → IsRefusedFor g overtake (makers_from limits window 0 count) → g ≡ fault.NoMemory
  of fault.SameLink h = absurd (links_differ limits window count h)
  of fault.BadSlots h = absurd (slots_fit_all limits window count h.1)
  of fault.BadWindow h = absurd (windows_fit limits window count least most h.2)
  of fault.BadBound h = absurd (bound_fits limits overtake window count least bound h.3)
  of fault.NoMemory h = refl

-- ---- the network that is made

nodes_are : (limits : Limits) (window first count : ℕ) → limits_view limits ≡ most_limits
    → nodes_of (makers_from limits window first count) ≡ house_nodes window first count
nodes_are limits window first zero e = refl
nodes_are limits window first (suc count) e =
    ap (λ (l : plain.Limits). house_node l window first ∷ nodes_of (makers_from limits window (first + 1) count)) e
    ∙ ap (λ (nodes : List Node). house_node most_limits window first ∷ nodes) (nodes_are limits window (first + 1) count e)

opening_is : (limits : Limits) (window first count : ℕ) → opening_of (makers_from limits window first count) ≡ houses count
opening_is limits window first zero = refl
opening_is limits window first (suc count) = ap (λ (stores : List Store). house ∷ stores) (opening_is limits window (first + 1) count)

lives_are : (limits : Limits) (window first count : ℕ) → map fresh_life (links_of (makers_from limits window first count)) ≡ fresh_lives count
lives_are limits window first zero = refl
lives_are limits window first (suc count) =
    ap (λ (lives : List Life). record { active = false; sends_until = 0 } ∷ lives) (lives_are limits window (first + 1) count)

abbrev of_parts : (overtake : ℕ) → List Store → List Node → List Life → WorldView
of_parts overtake opening nodes lives =
    record {
      overtake = overtake;
      opening = opening;
      reuses = [];
      nodes = nodes;
      time = record { moment = 0; own = None };
      lives = lives;
      copies = [];
      log = [];
      notes = [];
    }

abbrev all_of : Limits → Setting → List Maker
all_of limits s = makers_from limits s.window 0 s.nodes

pub world_made : (limits : Limits) (s : Setting) (overtake : ℕ) (makers : List Maker) (w : WorldView) → limits_view limits ≡ most_limits
    → overtake ≡ s.overtake → makers ≡ makers_from limits s.window 0 s.nodes → w ≡ fresh_world overtake makers → w ≡ world_set s
world_made limits s overtake makers w e same is made =
    made ∙ (ap (λ (n : ℕ). fresh_world n makers) same ∙ (ap (fresh_world s.overtake) is
    ∙ (ap (λ (o : List Store). of_parts s.overtake o (nodes_of (all_of limits s)) (map fresh_life (links_of (all_of limits s)))) (opening_is limits s.window 0 s.nodes)
    ∙ (ap (λ (n : List Node). of_parts s.overtake (houses s.nodes) n (map fresh_life (links_of (all_of limits s)))) (nodes_are limits s.window 0 s.nodes e)
    ∙ ap (of_parts s.overtake (houses s.nodes) (house_nodes s.window 0 s.nodes)) (lives_are limits s.window 0 s.nodes)))))
