-- The plain value of an address: its octets. (In a file of its own, since the limits of routes and destinations use it.)
use Rattle.std.specs.Prelude.{ℕ, List, take}
use Rattle.bac_npdu.specs.declared.address.Address.{Address}

abbrev pub address_view : Address → List ℕ
address_view a = take a.len a.octets
