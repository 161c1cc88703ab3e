use Rattle.bac_service_text.proofs.members.print_values.Goals as goal

pub returns-then-in_words : goal.returns-then-in_words
returns-then-in_words g c = rw c.if-in_words.true c.print_values_by_kind.ensures
