-- The abstract values of the types in code.
use Rattle.std.specs.Option.{option_map}
use Rattle.bac_value.specs.Views.{object_identifier_view}
use Rattle.toml.specs.View.{view}
use Rattle.bac_objects.specs.Held as plain
use Rattle.bac_objects.specs.Bits as plain_bits
use Rattle.bac_objects.specs.Objects as plain_object
use Rattle.bac_objects.specs.declared.fault.Flaw.{Flaw}
use Rattle.bac_objects.specs.declared.packing.Packing.{Packing}
use Rattle.bac_objects.specs.declared.held.Held.{Held}

abbrev pub held_view : Held → plain.Held
held_view h = record { form = h.form; value = view h.value.now; writable = h.writable }

abbrev pub packing_view : Packing → plain_bits.Packing
packing_view p = record { octets = p.octets.items; left = p.left; weight = p.weight; octet = p.octet }

abbrev pub flaw_view : Flaw → plain_object.Flaw
flaw_view f = record { id = option_map object_identifier_view f.id; key = f.key.now; problem = f.problem }
