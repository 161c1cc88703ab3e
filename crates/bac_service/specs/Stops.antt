-- Why reading stopped: the reason for rejecting a request, and the fault of the service data of a ComplexACK.
use Rattle.std.specs.Prelude.{ℕ, ◌-◌, length, Result, Ok, Err}
use Rattle.bac_value.specs.declared.fault.Fault.{Fault}
use Rattle.bac_value.specs.declared.fault.FaultKind.{FaultKind}
use Rattle.bac_value.specs.declared.fault.FaultKind.TheVariants as kind
use Rattle.bac_service.specs.declared.reject.Reject.{Reject}
use Rattle.bac_service.specs.declared.reject.Reject.TheVariants as reject
use Rattle.bac_service.specs.declared.stop.Stop.{Stop}
use Rattle.bac_service.specs.declared.stop.Why.{Why}
use Rattle.bac_service.specs.declared.stop.Why.TheVariants as cause
use Rattle.bac_service.specs.Members.{Octets}
use Rattle.bac_service.specs.Refusals.{reason_number}

-- reading stops at the first tag of these octets
abbrev pub stop : {A : Type 0} → Why → Octets → Result A Stop
stop w bytes = Err (record { why = w; left = length bytes })

-- a fault of contents is reported at their tag, the first of these octets
abbrev pub told_at : {A : Type 0} → Octets → Result A FaultKind → Result A Stop
told_at bytes (Ok x) = Ok x
told_at bytes (Err e) = stop (cause.Fault e) bytes

-- ---- requests

-- the reason for a fault of a tag, of contents or of data (own rule of this profile)
abbrev pub fault_reason : FaultKind → Reject
fault_reason kind.Truncated = reject.MissingRequiredParameter
fault_reason kind.ReservedTag = reject.InvalidTag
fault_reason kind.LongForm = reject.InvalidParameterDataType
fault_reason kind.BadLength = reject.InvalidParameterDataType
fault_reason kind.NotShortest = reject.InvalidParameterDataType
fault_reason kind.Unbalanced = reject.InvalidTag
fault_reason kind.TooDeep = reject.InvalidTag
fault_reason kind.ReservedBits = reject.InvalidParameterDataType

-- the reason for what was found first (own rule of this profile)
abbrev pub reason_of : Why → Reject
reason_of (cause.Fault e) = fault_reason e
reason_of cause.Missing = reject.MissingRequiredParameter
reason_of cause.Unexpected = reject.InvalidTag
reason_of cause.OutOfRange = reject.ParameterOutOfRange
reason_of cause.Inconsistent = reject.InconsistentParameters
reason_of cause.Surplus = reject.TooManyArguments

-- a request, or the number of the reason for rejecting it
abbrev pub or_reason : {A : Type 0} → Result A Stop → Result A ℕ
or_reason (Ok x) = Ok x
or_reason (Err s) = Err (reason_number (reason_of s.why))

-- ---- service data of ComplexACKs

-- the kind of fault for what was found first (own rule of this profile)
abbrev pub kind_of : Why → FaultKind
kind_of (cause.Fault e) = e
kind_of cause.Missing = kind.ReservedTag
kind_of cause.Unexpected = kind.ReservedTag
kind_of cause.OutOfRange = kind.BadLength
kind_of cause.Inconsistent = kind.BadLength
kind_of cause.Surplus = kind.BadLength

-- the place of the fault, counted from the front of this many octets
abbrev pub fault_of : ℕ → Stop → Fault
fault_of all s = record { kind = kind_of s.why; at = all - s.left }

abbrev pub or_fault : {A : Type 0} → ℕ → Result A Stop → Result A Fault
or_fault all (Ok x) = Ok x
or_fault all (Err s) = Err (fault_of all s)
