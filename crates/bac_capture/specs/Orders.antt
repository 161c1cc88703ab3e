-- Numbers in the first octets, in either byte order.
use Rattle.std.specs.Prelude.{ℕ, List}
use Rattle.byteorder.specs.Endian.{big_number, little_number}
use Rattle.bac_capture.specs.declared.order.Order.{Order}
use Rattle.bac_capture.specs.declared.order.Order.TheVariants.{Big, Little}

abbrev pub number_of : Order → ℕ → List ℕ → ℕ
number_of Big count octets = big_number count octets
number_of Little count octets = little_number count octets
