-- From each type in code to its plain value.
use Rattle.bac_chart.specs.Marks as plain
use Rattle.bac_chart.specs.declared.mark.Arrow.{Arrow}
use Rattle.bac_chart.specs.declared.mark.Mark.{Mark}
use Rattle.bac_chart.specs.declared.mark.Mark.TheVariants as code
use Rattle.bac_chart.specs.declared.line.Line.{Line}
use Rattle.bac_chart.specs.Lines as lines

abbrev pub arrow_view : Arrow → plain.Arrow
arrow_view a = record { number = a.number; sent = a.sent; from = a.from; to = a.to; words = a.words.items }

abbrev pub mark_view : Mark → plain.Mark
mark_view (code.Sent arrow) = plain.Mark.Sent (arrow_view arrow)
mark_view (code.Came moment arrow) = plain.Mark.Came moment (arrow_view arrow)
mark_view (code.Note moment node words) = plain.Mark.Note moment node words.items

abbrev pub line_view : Line → lines.Line
line_view l = record { moment = l.moment; from = l.from; to = l.to; is_lost = l.is_lost; words = l.words.items }
