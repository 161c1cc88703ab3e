-- A server's end whose slots are shared among addresses, computed. Each type here is an equation that a law proves.
use Rattle.std.specs.Prelude.{◌≡◌, ℕ, zero, suc, List, [], ◌∷◌, Bool, true, false, None}
use Rattle.bac_npdu.specs.Peers.{PeerView}
use Rattle.bac_transaction.specs.Ends.{ServerEnd, ServerSlot}
use Rattle.bac_transaction.specs.Examples.{KEPT}
use Rattle.bac_transaction.specs.Keys.{PeerKey}
use Rattle.bac_transaction.specs.Sharing.{may_begin}

-- a peer at the IP address 10.0.0.n, at that port, and a transaction of it
abbrev pub peer_of : (n port : ℕ) → PeerView
peer_of n port = record { link = 10 ∷ 0 ∷ 0 ∷ n ∷ 186 ∷ port ∷ []; route = None }

abbrev pub key_of : (n port : ℕ) → PeerKey
key_of n port = record { peer = peer_of n port; invoke_id = port }

-- so many live entries of an address, each at a port of its own
abbrev pub held : (n count : ℕ) → List ServerSlot → List ServerSlot
held n zero slots = slots
held n (suc count) slots = record KEPT { key = key_of n count } ∷ held n count slots

abbrev pub end_of : (capacity : ℕ) → List ServerSlot → ServerEnd
end_of capacity slots = record { slots = slots; capacity = capacity; serves_from = 0 }

-- whether a new entry of that address may begin at an end that shares its slots, at moment 0
abbrev pub may : (n : ℕ) → ServerEnd → Bool
may n e = may_begin true false 0 (key_of n 200) e

-- one address fills 15 of 16 slots, and no more
pub record OfSixteen : Type 0 where
  pub fifteenth : may 1 (end_of 16 (held 1 14 [])) ≡ true
  pub last : may 1 (end_of 16 (held 1 15 [])) ≡ false
  -- the last one is another's
  pub other : may 2 (end_of 16 (held 1 15 [])) ≡ true
  pub full : may 2 (end_of 16 (held 2 1 (held 1 15 []))) ≡ false
  -- that has more where the first holds fewer
  pub second : may 2 (end_of 16 (held 2 1 (held 1 13 []))) ≡ true
  -- in the slot of an entry that its request ends, it goes on
  pub again : may_begin true true 0 (key_of 1 200) (end_of 16 (held 1 15 [])) ≡ true
  -- and where slots are not shared, it fills all
  pub strict : may_begin false false 0 (key_of 1 200) (end_of 16 (held 1 15 [])) ≡ true

-- and 3 of 4
pub record OfFour : Type 0 where
  pub third : may 1 (end_of 4 (held 1 2 [])) ≡ true
  pub last : may 1 (end_of 4 (held 1 3 [])) ≡ false
  pub other : may 2 (end_of 4 (held 1 3 [])) ≡ true
  pub full : may 3 (end_of 4 (held 2 1 (held 1 3 []))) ≡ false
  pub one_of_one : may 1 (end_of 1 []) ≡ true
