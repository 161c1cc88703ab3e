use Rattle.bac_keep.proofs.Files.{file_written}
use Rattle.bac_keep.proofs.Values.{value_written}
use Rattle.bac_keep.proofs.laws.cells_are_writes.Goals as goal

pub returns : goal.returns
returns c = record {
  value = λ document cells id n values p order id_fits n_fits listed writable. value_written cells id n values id_fits n_fits document order p listed writable;
  octets = λ document cells id octets count f order id_fits small long found writable. file_written id id_fits octets cells count small document order f
      found writable long;
}
