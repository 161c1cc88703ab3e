-- Clients of one host, by the time of day in microseconds, which is not set back.
use Rattle.std.specs.Prelude.{◌≡◌, ℕ, ◌+◌, ◌≤◌, ◌<◌, List, Some, slice_get, Contains}
use Rattle.bac_pairs.specs.Pairs.{port_at, share_at, share_end}

-- a client: when it took its port, and when it began its asks
pub record Client : Type 0 where
  pub took : ℕ
  pub asked : List ℕ

-- it asks for at most 30 seconds from the end of its share on
abbrev pub AsksInTime : Client → Type 0
AsksInTime c = (ask : ℕ) → Contains c.asked ask → ask ≤ share_end c.took + 30000000

-- the clients took their ports one after the other, each in a share of its own, and each asks in time
pub record AreInTurn (clients : List Client) : Type 0 where
  pub shares : (i j : ℕ) (one other : Client) → i < j → slice_get clients i ≡ Some one → slice_get clients j ≡ Some other
      → share_at one.took < share_at other.took
  pub in_time : (i : ℕ) (c : Client) → slice_get clients i ≡ Some c → AsksInTime c

-- where a client has the port of an earlier one, 165.888 seconds lie between the end of that one's share and the moment at which the later one took the port,
-- and 135.888 seconds between each ask of that one and that moment
pub record IsLater (one other : Client) : Type 0 where
  pub share : share_end one.took + 165888000 ≤ other.took
  pub asks : (ask : ℕ) → Contains one.asked ask → ask + 135888000 ≤ other.took

abbrev pub AreApart : (key : List ℕ) (clients : List Client) → Type 0
AreApart key clients =
    (i j : ℕ) (one other : Client) → i < j → slice_get clients i ≡ Some one → slice_get clients j ≡ Some other
    → port_at key one.took ≡ port_at key other.took → IsLater one other
