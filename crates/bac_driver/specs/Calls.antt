-- The calls of a link, and what they returned.
use Rattle.std.specs.Prelude.{◌≡◌, ℕ, ◌+◌, ◌^◌, ◌-◌, min, List, [], ◌∷◌, ◌++◌, take, Option, Some, None, Result, Ok, Err}
use Rattle.std.specs.Option.{option_map}
use Rattle.bac_driver.specs.declared.link.LinkFault.{LinkFault}

-- a datagram was handed over to be sent; within so many milliseconds a datagram came from a link, or none did; receiving failed
pub data Call : Type 0 where
  Send : (to octets : List ℕ) → Call
  Receive : (wait : ℕ) (from octets : List ℕ) → Call
  ReceiveNothing : (wait : ℕ) → Call
  FailedReceive : Call

-- the calls so far in their order, where the link keeps them
abbrev pub Calls : Type 0
Calls = Option (List Call)

abbrev pub with_call : Calls → Call → Calls
with_call calls call = option_map (λ (cs : List Call). cs ++ call ∷ []) calls

-- the largest count of failures, at which it stays
abbrev pub MOST : ℕ
MOST = 2 ^ 64 - 1

abbrev pub one_more : ℕ → ℕ
one_more failures = min (failures + 1) MOST

-- the count after a call
abbrev pub IsCounted : {A : Type 0} → Result A LinkFault → (old new : ℕ) → Type 0
IsCounted (Ok x) old new = new ≡ old
IsCounted (Err fault) old new = new ≡ one_more old

-- the call that receiving was, which was to wait so long; a datagram's octets are the first of the buffer
abbrev pub received : (wait : ℕ) → (buffer : List ℕ) → Result (Option (List ℕ × ℕ)) LinkFault → Call
received wait buffer (Ok (Some r)) = Call.Receive wait r.0 (take r.1 buffer)
received wait buffer (Ok None) = Call.ReceiveNothing wait
received wait buffer (Err fault) = Call.FailedReceive
