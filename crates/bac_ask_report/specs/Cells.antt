-- The kind and the value of a row, in code.
use Rattle.bac_ask_report.specs.Rows as plain
use Rattle.bac_ask_report.specs.declared.csv_row.Cells.{Cells}

abbrev pub cells_view : Cells → plain.Cells
cells_view c = record { kind = c.kind.items; value = c.value.items; is_number = c.is_number }
