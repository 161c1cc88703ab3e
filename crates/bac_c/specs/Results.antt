-- What a C program reads of what came of a call.
use Rattle.std.specs.Prelude.{◌≡◌, ◌≤◌, ◌<◌, ◌++◌, ℕ, List, [], Option, Some, None, MatchOption, length, drop, slice_get}
use Rattle.std.specs.Option.{option_map}
use Rattle.bac_transaction.specs.Meanings.{EndedView}
use Rattle.bac_transaction.specs.Sends.{Datagram}
use Rattle.bac_requester.specs.Views.{ended_view}
use Rattle.bac_world.specs.Node.{Node}
use Rattle.bac_c.specs.Endings.{octets_of}
use Rattle.bac_c.specs.declared.device.Device.{Device}

-- octets are copied to the front of a buffer where they fit, and none otherwise; how many they are is told
pub record IsCopied (octets before : List ℕ) (len : ℕ) (after : List ℕ) : Type 0 where
  pub count : len ≡ length octets
  pub fits : length octets ≤ length before → after ≡ octets ++ drop (length octets) before
  pub short : length before < length octets → after ≡ before

-- the datagram at an index, where one is to be sent
abbrev pub send_in : Option Device → (index : ℕ) → Option Datagram
send_in None i = None
send_in (Some d) i = slice_get d.outcome.sends.items i

abbrev pub link_of : Datagram → List ℕ
link_of d = d.to

abbrev pub octets_sent : Option Datagram → List ℕ
octets_sent None = []
octets_sent (Some d) = d.octets

-- the ending at an index, where an ask has ended
abbrev pub end_in : Option Device → (index : ℕ) → Option EndedView
end_in None i = None
end_in (Some d) i = option_map ended_view (slice_get d.outcome.ended.items i)

abbrev pub octets_ended : Option EndedView → List ℕ
octets_ended None = []
octets_ended (Some f) = octets_of f

-- a place holds something else where there is something to tell, and stays otherwise
abbrev pub IsTold : {A B : Type 0} → (A → B) → Option A → (old new : B) → Type 0
IsTold tell from old new = MatchOption from (new ≡ old) (λ x. new ≡ tell x)

-- so much is counted of a node; 0 where none is started
abbrev pub Counts : (Node → ℕ) → Option Device → ℕ → Type 0
Counts count held n = MatchOption held (n ≡ 0) (λ d. MatchOption d.node (n ≡ 0) (λ m. n ≡ count m))
