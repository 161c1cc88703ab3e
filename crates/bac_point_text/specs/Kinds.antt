-- The kind of a value.
use Rattle.bac_value.specs.Value.{Datum, null, boolean, unsigned, signed, real, double, octets, characters, bits, enumerated, date, time, object}
use Rattle.bac_point_text.specs.declared.kind.Kind.{Kind}
use Rattle.bac_point_text.specs.declared.kind.Kind.TheVariants as kind

abbrev pub kind_of : Datum → Kind
kind_of null = kind.Null
kind_of (boolean b) = kind.Boolean
kind_of (unsigned n) = kind.Unsigned
kind_of (signed z) = kind.Signed
kind_of (real a) = kind.Real
kind_of (double a) = kind.Double
kind_of (octets a) = kind.OctetString
kind_of (characters set text) = kind.CharacterString
kind_of (bits unused a) = kind.BitString
kind_of (enumerated n) = kind.Enumerated
kind_of (date a) = kind.Date
kind_of (time a) = kind.Time
kind_of (object i) = kind.ObjectIdentifier
