-- The plain value of the columns of a datagram.
use Rattle.bac_explain_report.specs.Columns as plain
use Rattle.bac_explain_report.specs.declared.column.Ends.{Ends}

abbrev pub ends_view : Ends → plain.Ends
ends_view c = record { from = c.from; to = c.to; text = c.text.items }
