use Rattle.std.proofs.Common.{refl}
use Rattle.sqlite_wal.specs.Format.{be32}
use Rattle.bac_keep_file.proofs.whole.number_in.Goals as goal

pub returns : goal.returns
unfolding be32
returns c = refl
