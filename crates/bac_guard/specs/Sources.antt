-- Which sources are heard: blocks of IPv4 addresses, and what is never a source.
use Rattle.std.specs.Prelude.{ℕ, ◌-◌, ◌/◌, ◌^◌, ◌&&◌, ◌||◌, nat_eq, not, Bool, List, [], ◌∷◌}
use Rattle.std.specs.List.{list_any}
use Rattle.bac_guard.specs.Addresses.{host_of, port_of}
use Rattle.bac_guard.specs.declared.block.Block.{Block}

-- those addresses whose first bits, so many, are those of the first one
abbrev pub block : (first bits : ℕ) → Block
block first bits = record { first = first; bits = bits }

-- the first bits of an address, so many, as a number
abbrev pub first_bits : (bits host : ℕ) → ℕ
first_bits bits host = host / 2 ^ (32 - bits)

abbrev pub holds : (host : ℕ) → Block → Bool
holds host b = nat_eq (first_bits b.bits host) (first_bits b.bits b.first)

-- how many blocks there can be
abbrev pub MOST : ℕ
MOST = 32

-- all addresses are in this one: 0.0.0.0/0
abbrev pub ANY : List Block
ANY = block 0 0 ∷ []

-- a block that has all addresses is among them
abbrev pub hears_all : (blocks : List Block) → Bool
hears_all blocks = list_any (λ (b : Block). nat_eq b.bits 0) blocks

-- those that no router of the Internet forwards: 127.0.0.0/8, the loopback; 10.0.0.0/8, 172.16.0.0/12 and 192.168.0.0/16, private (RFC 1918);
-- 100.64.0.0/10, shared (RFC 6598); 169.254.0.0/16, of one link (RFC 3927)
abbrev pub LOCAL : List Block
LOCAL = block 2130706432 8 ∷ block 167772160 8 ∷ block 2886729728 12 ∷ block 3232235520 16 ∷ block 1681915904 10 ∷ block 2851995648 16 ∷ []

-- no host sends from there: port 0, 0.0.0.0/8, which is this network; 224.0.0.0/4, groups of hosts; 255.255.255.255, all hosts of a link
abbrev pub is_barred : (host port : ℕ) → Bool
is_barred host port = nat_eq port 0 || (nat_eq (first_bits 8 host) 0 || (nat_eq (first_bits 4 host) 14 || nat_eq host 4294967295))

-- a host of one of the blocks, which is not barred
abbrev pub is_heard : (blocks : List Block) → (link : List ℕ) → Bool
is_heard blocks link = not (is_barred (host_of link) (port_of link)) && list_any (holds (host_of link)) blocks

-- an address of the loopback
abbrev pub is_loopback : (host : ℕ) → Bool
is_loopback host = nat_eq (first_bits 8 host) 127
