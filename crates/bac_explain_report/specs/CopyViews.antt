-- The plain value of a datagram that was drawn.
use Rattle.bac_explain_report.specs.Copies as plain
use Rattle.bac_explain_report.specs.declared.copies.Drawn.{Drawn}

abbrev pub drawn_view : Drawn → plain.Drawn
drawn_view d = record { moment = d.moment; from = d.from; to = d.to; octets = d.octets.items }
