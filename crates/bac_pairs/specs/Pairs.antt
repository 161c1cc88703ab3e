-- The source port and the first invoke ID of a client, by the time of day in microseconds.
use Rattle.std.specs.Prelude.{ℕ, ◌+◌, ◌*◌, ◌/◌, ◌%◌, List, if◌then◌else◌, nat_lt}
use Rattle.bac_pairs.specs.Keys.{keyed, place_of}

-- the number of a moment's share of time: each lasts 6.4 ms
abbrev pub share_at : (moment : ℕ) → ℕ
share_at moment = moment / 6400

-- the end of that share
abbrev pub share_end : (moment : ℕ) → ℕ
share_end moment = (share_at moment + 1) * 6400

-- the ports from 32,768 on; the 16 ports of BACnet/IP from 47,808 on are passed over
abbrev pub port_by : (place : ℕ) → ℕ
port_by place = if nat_lt (32768 + place) 47808 then 32768 + place else 32784 + place

abbrev pub port_at : (key : List ℕ) (moment : ℕ) → ℕ
port_at key moment = port_by (place_of key (share_at moment))

abbrev pub id_at : (key : List ℕ) (moment : ℕ) → ℕ
id_at key moment = keyed key 4 (share_at moment) % 256
