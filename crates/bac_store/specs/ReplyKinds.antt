-- Which kind of reply each service choice has (clauses 14 and 15).
use Rattle.std.specs.Prelude.{◌≡◌, ℕ}
use Rattle.bac_service.specs.declared.service.TheConstants.{WRITE_PROPERTY}
use Rattle.bac_service.specs.Values.{complex_choice_of}
use Rattle.bac_service.specs.Replies.{Reply}
use Rattle.bac_service.specs.Replies.Reply.{Simple, Complex, Error, Reject}

-- only a WriteProperty gets a SimpleACK, a ComplexACK has the choice of its request, and an Error is a reply to any request
abbrev pub FitsChoice : ℕ → Reply → Type 0
FitsChoice choice Simple = choice ≡ WRITE_PROPERTY
FitsChoice choice (Complex c) = choice ≡ complex_choice_of c
FitsChoice choice (Error class code) = Unit {0}
FitsChoice choice (Reject reason) = ⊥
