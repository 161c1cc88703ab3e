use Rattle.bac_keep_file.proofs.Documents.{all_forgotten, listed_forgotten}
use Rattle.bac_keep_file.proofs.laws.forgotten_is_of_the_document.Goals as goal

pub returns : goal.returns
returns c = record {
  property = λ document cells id n. listed_forgotten cells id n document;
  object = λ document cells id. all_forgotten cells id document;
}
