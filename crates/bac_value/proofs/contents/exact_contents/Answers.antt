use Rattle.bac_value.proofs.ContentLaws.{kind_exact, unsigned_exact, enumerated_exact, signed_exact, object_exact}
use Rattle.bac_value.proofs.contents.exact_contents.Goals as goal

pub returns : goal.returns
returns c = record { kinds = kind_exact; unsigned = unsigned_exact; enumerated = enumerated_exact; signed = signed_exact; object = object_exact }
