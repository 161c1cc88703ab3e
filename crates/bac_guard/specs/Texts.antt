-- Blocks of addresses as text: `any`, or blocks with a comma between each two, as `10.0.0.0/8,192.168.1.7`.
use Rattle.std.specs.Prelude.{◌≡◌, ◌≢◌, ℕ, ◌+◌, ◌-◌, ◌*◌, ◌%◌, ◌^◌, ◌<◌, ◌≤◌, ◌&&◌, nat_eq, nat_le, nat_lt, Bool, List, [], ◌∷◌, length, codes, slice_get, Option, Some, None, if◌then◌else◌}
use Rattle.std.specs.List.{before_first, after_first, position_or_len, slice_split}
use Rattle.std.specs.Bool.{MatchBool}
use Rattle.std.specs.Str.{bytes_eq}
use Rattle.std.specs.Net.Addr.{ipv4_bits}
use Rattle.std.specs.Net.Grammar.{IsIpv4Text}
use Rattle.std.specs.declared.net.ipv4_addr.Ipv4Addr.{Ipv4Addr}
use Rattle.bac_guard.specs.Sources.{ANY, MOST}
use Rattle.bac_guard.specs.declared.block.Block.{Block}
use Rattle.bac_guard.specs.declared.fault.BlockFlaw.{BlockFlaw}
use Rattle.bac_guard.specs.declared.fault.BlockFlaw.TheVariants as flaw
use Rattle.bac_guard.specs.declared.fault.SourcesFault.{SourcesFault}
use Rattle.bac_guard.specs.declared.fault.SourcesFault.TheVariants as fault

-- ---- how many bits

abbrev pub is_digit : ℕ → Bool
is_digit octet = nat_le 48 octet && nat_le octet 57

abbrev pub at_most : (most number : ℕ) → Option ℕ
at_most most number = if nat_le number most then Some number else None

abbrev pub one_digit : ℕ → Option ℕ
one_digit units = if is_digit units then Some (units - 48) else None

-- the first of two is not 0
abbrev pub two_digits : (tens units : ℕ) → Option ℕ
two_digits tens units =
    if nat_le 49 tens && (nat_le tens 51 && is_digit units) then at_most 32 (10 * (tens - 48) + (units - 48)) else None

-- a number from 0 to 32, in decimal digits, with no 0 before it
abbrev pub bits_in : List ℕ → Option ℕ
bits_in [] = None
bits_in (units ∷ []) = one_digit units
bits_in (tens ∷ units ∷ []) = two_digits tens units
bits_in (a ∷ b ∷ c ∷ others) = None

-- ---- a block

abbrev pub is_slash : ℕ → Bool
is_slash octet = nat_eq octet 47

-- what stands before the slash, or all where there is none
abbrev pub address_text : List ℕ → List ℕ
address_text text = before_first is_slash text

-- how many bits, which stand behind the slash; all 32 where there is none
abbrev pub bits_of : List ℕ → Option ℕ
bits_of text = if nat_lt (position_or_len is_slash text) (length text) then bits_in (after_first is_slash text) else Some 32

-- a text as `192.168.1.20` writes this address
abbrev pub IsAddress : (text : List ℕ) → (number : ℕ) → Type 0
IsAddress text number = (a : Ipv4Addr) × IsIpv4Text text a × (ipv4_bits a ≡ number)

-- what is left of an address behind its first bits
abbrev pub last_bits : (bits host : ℕ) → ℕ
last_bits bits host = host % 2 ^ (32 - bits)

-- the text is this block: an address whose other bits are 0
pub record IsBlock (text : List ℕ) (b : Block) : Type 0 where
  pub address : IsAddress (address_text text) b.first
  pub bits : bits_of text ≡ Some b.bits
  pub first : last_bits b.bits b.first ≡ 0

-- why it is none
pub record HasMoreBits (text : List ℕ) : Type 0 where
  pub number : ℕ
  pub bits : ℕ
  pub address : IsAddress (address_text text) number
  pub counted : bits_of text ≡ Some bits
  pub more : last_bits bits number ≢ 0

abbrev pub HasFlaw : (text : List ℕ) → BlockFlaw → Type 0
HasFlaw text flaw.NoAddress = (number : ℕ) → IsAddress (address_text text) number → ⊥
HasFlaw text flaw.NoBits = bits_of text ≡ None
HasFlaw text flaw.MoreBits = HasMoreBits text

-- ---- several blocks

abbrev pub is_comma : ℕ → Bool
is_comma octet = nat_eq octet 44

abbrev pub parts_of : List ℕ → List (List ℕ)
parts_of text = slice_split is_comma text

-- each part is the block at the same place
abbrev pub AreBlocks : (parts : List (List ℕ)) → (blocks : List Block) → Type 0
AreBlocks [] [] = Unit {0}
AreBlocks [] (b ∷ blocks) = ⊥
AreBlocks (part ∷ parts) [] = ⊥
AreBlocks (part ∷ parts) (b ∷ blocks) = IsBlock part b × AreBlocks parts blocks

-- the parts that come after one, which ends the text where there is no other
abbrev pub parts_in : Option (List ℕ) → List (List ℕ)
parts_in None = []
parts_in (Some text) = parts_of text

-- the part at a place, from 1 on, has the flaw
pub record HasFlawAt (parts : List (List ℕ)) (place : ℕ) (f : BlockFlaw) : Type 0 where
  pub part : List ℕ
  pub from : 1 ≤ place
  pub is : slice_get parts (place - 1) ≡ Some part
  pub flaw : HasFlaw part f

-- the text is these blocks, of which there are few enough
pub record AreFew (text : List ℕ) (blocks : List Block) : Type 0 where
  pub each : AreBlocks (parts_of text) blocks
  pub few : length blocks ≤ MOST

abbrev pub IsRefused : (text : List ℕ) → SourcesFault → Type 0
IsRefused text (fault.BadBlock place f) = HasFlawAt (parts_of text) place f
IsRefused text fault.TooMany = MOST < length (parts_of text)

-- ---- all of it

abbrev pub ANY_TEXT : List ℕ
ANY_TEXT = codes "any"

-- the text says that these sources are heard; a word says that all are
abbrev pub AreSources : (text : List ℕ) → (blocks : List Block) → Type 0
AreSources text blocks = MatchBool (bytes_eq text ANY_TEXT) (blocks ≡ ANY) (AreFew text blocks)
