-- Why an event did not happen, or a change was refused, in words.
use Rattle.std.specs.Prelude.{ℕ, List, ◌++◌, ◌==◌, codes, decimal, if◌then◌else◌}
use Rattle.bac_commands.specs.FaultWords.{numbered_words}
use Rattle.bac_store.specs.declared.change_fault.ChangeFault.{ChangeFault}
use Rattle.bac_store.specs.declared.change_fault.ChangeFault.TheVariants as change
use Rattle.bac_text.specs.Texts.{line_end}

abbrev pub change_fault_words : ChangeFault → List ℕ
change_fault_words change.NoSuchObject = codes "no such object"
change_fault_words change.NoSuchProperty = codes "no such property"
change_fault_words change.BadValue = codes "a value that the property cannot have"
change_fault_words change.TooLong = codes "too many octets"
change_fault_words change.NoMemory = codes "no memory"

-- by the number of the fault
abbrev pub fault_words : (fault : ℕ) → List ℕ
fault_words fault =
    if fault == 1 then codes "no such node"
    else (if fault == 2 then codes "no such datagram"
    else (if fault == 3 then codes "the clock would overflow"
    else (if fault == 10 then codes "the link belongs to a node"
    else (if fault == 11 then codes "the pace is out of range"
    else (if fault == 12 then codes "the node may not begin now" else codes "no memory")))))

abbrev pub fault_words_line : (line fault : ℕ) → List ℕ
fault_words_line line fault = codes "line " ++ (decimal line ++ (codes ": fault " ++ (numbered_words fault (fault_words fault) ++ line_end)))
