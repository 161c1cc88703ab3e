-- The UDP ports of BACnet/IP: 47808 to 47823 (BAC0 to BACF), and optionally one more.
use Rattle.std.specs.Prelude.{ℕ, Bool, nat_le, ◌&&◌, ◌||◌, ◌==◌, Option, Some, None}

abbrev pub is_standard_port : ℕ → Bool
is_standard_port port = nat_le 47808 port && nat_le port 47823

abbrev pub is_port : Option ℕ → ℕ → Bool
is_port None port = is_standard_port port
is_port (Some also) port = also == port || is_standard_port port
