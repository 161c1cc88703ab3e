-- How a node is to serve.
use Rattle.std.specs.Prelude.{ℕ, ◌*◌, min, nat_le, Bool, true, false, not, ◌&&◌, List, Option, Some, None}
use Rattle.bac_guard.specs.Sources.{is_heard}
use Rattle.bac_guard.specs.Views.{blocks_of}
use Rattle.bac_driver.specs.Waits.{MOST}
use Rattle.bac_driver.specs.declared.wait_limit.WaitLimit.{WaitLimit}
use Rattle.bac_transaction.specs.Given.{ANEW, STRICTLY}
use Rattle.bac_driver.specs.Nodes.{Rules}
use Rattle.bac_environment.specs.Limits.{until_of}
use Rattle.bac_serving.specs.declared.serving.Serving.{Serving}

-- how long its turns wait: 100 ms where it takes so many, otherwise until something is due
abbrev pub wait_of : (turns : Option ℕ) → ℕ
wait_of None = MOST
wait_of (Some turns) = 100

abbrev pub patience_of : Serving → (start : ℕ) → WaitLimit
patience_of serving start = record { wait = wait_of serving.turns; until = until_of serving.seconds start }

abbrev pub restart_of : (restarted : Bool) → (start : ℕ) → Option ℕ
restart_of true start = Some start
restart_of false start = None

-- whether it lets clients use invoke IDs again: in a run of so many turns where it is told to, otherwise unless it is strict
abbrev pub is_reusing : (turns : Option ℕ) → (is_told is_strict : Bool) → Bool
is_reusing None is_told is_strict = not is_strict
is_reusing (Some turns) is_told is_strict = is_told

-- slots are shared among addresses where there are few
abbrev pub are_shared : (slots : ℕ) → Bool
are_shared slots = nat_le slots 4096

-- its rules, where it has so many slots, and keeps so many octets at the most; it then remembers a request for so many seconds, where they are given
abbrev pub rules_by : (is_reusing : Bool) → (slots : ℕ) → (seconds : Option ℕ) → (memory : ℕ) → Rules
rules_by true slots (Some seconds) memory =
    record ANEW { remember = Some (min (seconds * 1000) MOST); memory = Some memory; share = are_shared slots }
rules_by true slots None memory = record ANEW { memory = Some memory; share = are_shared slots }
rules_by false slots seconds memory = record STRICTLY { memory = Some memory }

-- the most octets of a document that it follows: of so many MiB, or of 8
abbrev pub follow_limit_of : (mebibytes : Option ℕ) → ℕ
follow_limit_of None = 8388608
follow_limit_of (Some mebibytes) = min (mebibytes * 1048576) MOST

-- nobody named the sources that it hears, and its own address is none of them
abbrev pub is_remote : Serving → (link : List ℕ) → Bool
is_remote serving link = not serving.names_peers && not (is_heard (blocks_of serving.guard.sources) link)
