-- Fewer octets than were asked for are all of the file.
use Rattle.std.proofs.Common.{◌∙◌, sym, arith}
use Rattle.bac_value.specs.Views.{object_identifier_view}
use Rattle.bac_c.proofs.Files.{file_told}
use Rattle.bac_c.specs.Results.{IsCopied}
use Rattle.bac_c.proofs.reading.file_out.Goals as goal

pub returns-in-Complex-FileRead-clause-read : goal.returns-in-Complex-FileRead-clause-read
returns-in-Complex-FileRead-clause-read c =
    let read = c.in-Complex-FileRead.read in
    let told = rw c.in-Complex-FileRead.field-0-is at c.in-Complex-FileRead.ensures in
    file_told (λ octets. IsCopied octets c.args.out.now c.copy_out.result c.copy_out.new.out) c.args.store.now (object_identifier_view c.args.file) 18446744073709551615
    read.end_of_file read.start read.content.octets.now (sym c.in-Ok.ensures.plan.reply ∙ sym told) (omega (arith, read.content.fits)) c.copy_out.ensures
