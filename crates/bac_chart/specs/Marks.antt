-- What there is to draw: datagrams between nodes, and what happens at nodes, oldest first.
use Rattle.std.specs.Prelude.{ℕ, Bool, false, nat_eq, List}
use Rattle.std.specs.List.{list_any}

-- a datagram, by its number: the moment of its sending, the nodes between which it goes, and what it is
pub record Arrow : Type 0 where
  pub number : ℕ
  pub sent : ℕ
  pub from : ℕ
  pub to : ℕ
  pub words : List ℕ

pub data Mark : Type 0 where
  Sent : Arrow → Mark
  Came : (moment : ℕ) → Arrow → Mark
  Note : (moment node : ℕ) → (words : List ℕ) → Mark

-- the datagram of that number comes to its node
abbrev pub is_coming : (number : ℕ) → Mark → Bool
is_coming number (Sent a) = false
is_coming number (Came moment a) = nat_eq a.number number
is_coming number (Note moment node words) = false

-- it does so at one of these marks
abbrev pub comes : (number : ℕ) → List Mark → Bool
comes number marks = list_any (is_coming number) marks
