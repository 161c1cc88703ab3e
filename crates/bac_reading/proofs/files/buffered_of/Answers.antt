-- A reader that has read nothing yet gives what the file does.
use Rattle.std.proofs.Common.{◌≡◌}
use Rattle.std.specs.Io.Buffered.{reader_remaining}
use Rattle.bac_reading.proofs.CheckedFiles.{prepend_nothing}
use Rattle.bac_reading.proofs.files.buffered_of.Goals as goal

pub returns-in-Ok-clause-at : goal.returns-in-Ok-clause-at
returns-in-Ok-clause-at g c =
    let same : reader_remaining (λ w. g.F.File.Read.remaining w.file) c.in-Ok.reader ≡ g.F.File.Read.remaining c.in_ok-file.file.file =
    rw (c.in-Ok.ensures.capacity, c.in-Ok.ensures.empty, c.in-Ok.ensures.inner) (prepend_nothing _) in
    record { file = c.in_ok-file.file.file; opened = c.in_ok-file.ensures.opened; is = same }
