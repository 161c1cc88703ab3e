-- The nodes of a script all take the most, so its asks go by that.
use Rattle.std.proofs.Common.{◌≡◌, ℕ, zero, suc, ◌+◌, Bool, List, [], ◌∷◌, Option, Some, None, refl, ap, ◌∙◌}
use Rattle.std.specs.Option.{option_map}
use Rattle.bac_simulate.specs.Lines.{Statement, statement_at}
use Rattle.bac_simulate.specs.Lines.Statement.{Ask, Deliver, Lose, Noise, Tick, Advance, SetProperty, SetFile, Restart, AskStranger, Stranger, Clock, Pace, Begin, BeginAgain}
use Rattle.bac_apdu.specs.Apdu as plain
use Rattle.bac_simulate.specs.Happenings.{Happening}
use Rattle.bac_simulate.specs.Houses.{house_nodes}
use Rattle.bac_simulate.specs.Scripts.{NodeLimits, ScriptLine, Happens, admitted, before_others, head_after, limits_in, most_limits, said_at, said_by}
use Rattle.bac_simulate.specs.Scripts.{said_from}
use Rattle.bac_simulate.specs.Scripts.{said_in}
use Rattle.bac_text.specs.Notes.{read_of}
use Rattle.bac_value_text.specs.Numbers.{◌>>=◌}

house_limits : (window first count node : ℕ) → limits_in (house_nodes window first count) node ≡ most_limits
house_limits window first zero node = refl
house_limits window first (suc count) zero = refl
house_limits window first (suc count) (suc node) = house_limits window (first + 1) count node

same_event : (f g : NodeLimits) → ((node : ℕ) → f node ≡ g node) → (s : Statement) → said_by f s ≡ said_by g s
same_event f g same (Ask client server request) = ap (λ (l : plain.Limits). Happens (Happening.Ask client server l request)) (same server)
same_event f g same (Deliver copy) = refl
same_event f g same (Lose copy) = refl
same_event f g same (Noise node octets) = refl
same_event f g same (Tick node) = refl
same_event f g same (Advance by) = refl
same_event f g same (SetProperty node object property octets) = refl
same_event f g same (SetFile node object octets) = refl
same_event f g same (Restart node) = refl
same_event f g same (AskStranger client link request) = refl
same_event f g same (Stranger node link octets) = refl
same_event f g same (Clock node start) = refl
same_event f g same (Pace node rate) = refl
same_event f g same (Begin node) = refl
same_event f g same (BeginAgain node) = refl

same_step : (f g : NodeLimits) → ((node : ℕ) → f node ≡ g node) → (o : Option Statement) → option_map (said_by f) o ≡ option_map (said_by g) o
same_step f g same None = refl
same_step f g same (Some s) = ap Some (same_event f g same s)

same_read : (head : Bool) (f g : NodeLimits) → ((node : ℕ) → f node ≡ g node) → (read : Option (List ℕ)) → said_in head f read ≡ said_in head g read
same_read head f g same None = refl
same_read head f g same (Some l) = ap (λ (o : Option ScriptLine). o >>= admitted head) (same_step f g same (statement_at l))

same_events : (notes head : Bool) (f g : NodeLimits) → ((node : ℕ) → f node ≡ g node) → (number : ℕ) (lines : List (List ℕ))
    → said_from notes head f number lines ≡ said_from notes head g number lines
same_events notes head f g same number [] = refl
same_events notes head f g same number (l ∷ lines) =
    ap (λ (e : Option ScriptLine). before_others e number (said_from notes (head_after head e) f (number + 1) lines)) (same_read head f g same (read_of notes l))
    ∙ ap (before_others (said_at notes head g l) number)
    (same_events notes (head_after head (said_at notes head g l)) f g same (number + 1) lines)

pub events_of_houses : (notes head : Bool) (window first count number : ℕ) (lines : List (List ℕ))
    → said_from notes head (limits_in (house_nodes window first count)) number lines ≡ said_from notes head (λ node. most_limits) number lines
events_of_houses notes head window first count number lines =
    same_events notes head (limits_in (house_nodes window first count)) (λ node. most_limits) (house_limits window first count) number lines
