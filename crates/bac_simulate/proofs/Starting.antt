-- Where the clocks of a script begin, and that nothing but memory speaks against them.
use Rattle.std.proofs.Common.{◌≡◌, ◌≢◌, ℕ, zero, suc, ◌+◌, ◌-◌, ◌*◌, ◌<◌, ◌≤◌, ◌||◌, List, [], ◌∷◌, ◌++◌, length, map, drop, Some}
use Rattle.std.proofs.Common.{refl, sym, ap, ◌∙◌, arith, append_assoc, slice_get}
use Rattle.std.specs.List.{list_any}
use Rattle.bac_apdu.specs.Views.{limits_view}
use Rattle.bac_apdu.specs.declared.limits.Limits.{Limits}
use Rattle.bac_journal.specs.Clocks.{fresh_clocks, own_pace}
use Rattle.bac_network.specs.Fresh.{Maker, IsRefusedWithClocks, clock_world, fresh_world}
use Rattle.bac_network.specs.Histories.{WorldView}
use Rattle.bac_network.specs.declared.fault.NewClocksFault.{NewClocksFault}
use Rattle.bac_network.specs.declared.fault.NewClocksFault.TheVariants as clocks_fault
use Rattle.bac_network.specs.declared.fault.NewWorldFault.TheVariants as fault
use Rattle.bac_protocol.specs.Pace.{IsTimely, most, least}
use Rattle.bac_simulate.specs.Houses.{clock_world_set, is_of_clock, makers_from, start_after, start_by, starts_from}
use Rattle.bac_simulate.specs.Lines.{Setting}
use Rattle.bac_simulate.specs.Scripts.{ScriptLine, most_limits}
use Rattle.bac_simulate.specs.Views.{line_view}
use Rattle.bac_simulate.specs.declared.script.ScriptLine as code
use Rattle.bac_simulate.proofs.Appending.{drop_next}
use Rattle.bac_simulate.proofs.Making.{memory_alone, world_made}

-- ---- one line after the other

pub one_spoken : (lines : List code.ScriptLine) (i : ℕ) (e : code.ScriptLine) → slice_get lines i ≡ Some e
    → list_any is_of_clock (map line_view (drop i lines)) ≡ (is_of_clock (line_view e) || list_any is_of_clock (map line_view (drop (i + 1) lines)))
one_spoken lines i e at = ap (λ (l : List code.ScriptLine). list_any is_of_clock (map line_view l)) (drop_next lines i e at)

pub one_started : (node before : ℕ) (lines : List code.ScriptLine) (i : ℕ) (e : code.ScriptLine) → slice_get lines i ≡ Some e
    → start_after node before (map line_view (drop i lines)) ≡ start_after node (start_by node before (line_view e)) (map line_view (drop (i + 1) lines))
one_started node before lines i e at = ap (λ (l : List code.ScriptLine). start_after node before (map line_view l)) (drop_next lines i e at)

-- ---- one node after the other

pub one_more_start : (lines : List ScriptLine) (first count : ℕ) (made all : List ℕ) → first < count
    → made ++ starts_from lines first (count - first) ≡ all
    → (made ++ start_after first 0 lines ∷ []) ++ starts_from lines (first + 1) (count - (first + 1)) ≡ all
one_more_start lines first count made all more before =
    let left : count - first ≡ suc (count - (first + 1)) = omega arith in
    append_assoc made (start_after first 0 lines ∷ []) (starts_from lines (first + 1) (count - (first + 1)))
    ∙ (sym (ap (λ (n : ℕ). made ++ starts_from lines first n) left) ∙ before)

starts_are_many : (lines : List ScriptLine) (first count : ℕ) → length (starts_from lines first count) ≡ count
starts_are_many lines first zero = refl
starts_are_many lines first (suc count) = ap suc (starts_are_many lines (first + 1) count)

makers_are_many : (limits : Limits) (window first count : ℕ) → length (makers_from limits window first count) ≡ count
makers_are_many limits window first zero = refl
makers_are_many limits window first (suc count) = ap suc (makers_are_many limits window (first + 1) count)

-- ---- nothing but memory speaks against them

timely : IsTimely (own_pace 1000 4873)
unfolding most least
timely = record { some = omega arith; ticks = omega arith; slow = omega arith; keeps = omega arith; rests = omega arith }

pub clocks_memory_alone : (limits : Limits) (f : NewClocksFault) (lines : List ScriptLine) (overtake window count : ℕ) (makers : List Maker) (starts : List ℕ)
    → makers ≡ makers_from limits window 0 count → starts ≡ starts_from lines 0 count → 1 ≤ window → window ≤ 64 → overtake + 2 * window ≤ 255
    → IsRefusedWithClocks f overtake makers 1000 4873 starts → f ≡ clocks_fault.NotMade fault.NoMemory
clocks_memory_alone limits f lines overtake window count makers starts is begin least most bound refused = of f refused where
  many : length starts ≡ length makers
  many = ap length begin ∙ (starts_are_many lines 0 count ∙ (sym (makers_are_many limits window 0 count) ∙ sym (ap length is)))

  of : (g : NewClocksFault) → IsRefusedWithClocks g overtake makers 1000 4873 starts → g ≡ clocks_fault.NotMade fault.NoMemory
  of clocks_fault.BadPace h = absurd (h timely)
  of clocks_fault.BadStarts h = absurd (h.1 many)
  of (clocks_fault.NotMade why) h = ap clocks_fault.NotMade (memory_alone limits why overtake window count makers is least most bound h.2)

-- ---- the network that is made

-- the one without clocks of their own, with these
abbrev with_starts : List ℕ → WorldView → WorldView
with_starts starts w = record w { time = record { moment = 0; own = Some (fresh_clocks 1000 4873 starts) } }

pub clock_world_made : (limits : Limits) (s : Setting) (lines : List ScriptLine) (overtake : ℕ) (makers : List Maker) (starts held : List ℕ) (w : WorldView)
    → limits_view limits ≡ most_limits → overtake ≡ s.overtake → makers ≡ makers_from limits s.window 0 s.nodes → held ≡ starts
    → starts ≡ starts_from lines 0 s.nodes → w ≡ clock_world overtake makers 1000 4873 held → w ≡ clock_world_set s (starts_from lines 0 s.nodes)
clock_world_made limits s lines overtake makers starts held w e same is holds begin made =
    made
    ∙ (ap (λ (l : List ℕ). clock_world overtake makers 1000 4873 l) (holds ∙ begin)
    ∙ ap (with_starts (starts_from lines 0 s.nodes)) (world_made limits s overtake makers (fresh_world overtake makers) e same is refl))
