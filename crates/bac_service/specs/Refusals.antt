-- The numbers of Reject reasons, and what contracts state about refusals, apart from failed allocations.
use Rattle.std.specs.Prelude.{◌≡◌, ℕ, Result, Ok, Err}
use Rattle.bac_service.specs.declared.reject.Reject.{Reject}
use Rattle.bac_service.specs.declared.reject.Reject.TheVariants as reject
use Rattle.bac_service.specs.declared.read_error.ReadError as code
use Rattle.bac_service.specs.declared.read_error.ReadError.TheVariants.{Refused, NoMemory}

abbrev pub IfRefused : {A E : Type 0} → Result A (code.ReadError E) → (E → Type 0) → Type 0
IfRefused (Ok x) P = Unit {0}
IfRefused (Err (Refused e)) P = P e
IfRefused (Err NoMemory) P = Unit {0}

abbrev pub IfNoMemory : {A E : Type 0} → Result A (code.ReadError E) → Type 0 → Type 0
IfNoMemory (Ok x) P = Unit {0}
IfNoMemory (Err (Refused e)) P = Unit {0}
IfNoMemory (Err NoMemory) P = P

-- seen by views of values and of refusals, the result of a call is this
abbrev pub Gives : {X E Y F : Type 0} → (X → Y) → (E → F) → Result X E → Result Y F → Type 0
Gives value refusal (Ok x) expected = expected ≡ Ok (value x)
Gives value refusal (Err e) expected = expected ≡ Err (refusal e)

-- the same, unless an allocation failed
abbrev pub GivesInMemory : {X E Y F : Type 0} → (X → Y) → (E → F) → Result X (code.ReadError E) → Result Y F → Type 0
GivesInMemory value refusal (Ok x) expected = expected ≡ Ok (value x)
GivesInMemory value refusal (Err (Refused e)) expected = expected ≡ Err (refusal e)
GivesInMemory value refusal (Err NoMemory) expected = Unit {0}

-- clause 18.9
abbrev pub reason_number : Reject → ℕ
reason_number reject.Other = 0
reason_number reject.BufferOverflow = 1
reason_number reject.InconsistentParameters = 2
reason_number reject.InvalidParameterDataType = 3
reason_number reject.InvalidTag = 4
reason_number reject.MissingRequiredParameter = 5
reason_number reject.ParameterOutOfRange = 6
reason_number reject.TooManyArguments = 7
reason_number reject.UndefinedEnumeration = 8
reason_number reject.UnrecognizedService = 9
