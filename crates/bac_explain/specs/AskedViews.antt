-- The abstract value of what is compared of a request.
use Rattle.bac_explain.specs.declared.choice.Asked.{Asked}
use Rattle.bac_explain.specs.Choices.{AskedView}

abbrev pub asked_view : Asked → AskedView
asked_view a = record { in_segments = a.in_segments; choice = a.choice; service = a.service.now }
