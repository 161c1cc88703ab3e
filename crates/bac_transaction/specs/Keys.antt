-- What a slot of an end is found by: the other end and the invoke ID, in their order.
use Rattle.std.specs.Prelude.{ℕ, Bool}
use Rattle.std.specs.Ordering.{nat_cmp, on, then_cmp, eq_by_cmp}
use Rattle.std.specs.declared.cmp.Ordering.{Ordering}
use Rattle.std.specs.Cmp.{IsTotalOrder, then_total, on_total, nat_cmp_total}
use Rattle.bac_npdu.specs.Peers.{PeerView, peer_cmp, peer_cmp_total}

-- a transaction, as an end of it knows it: its other end, and its invoke ID (clause 5.4)
pub record PeerKey : Type 0 where
  pub peer : PeerView
  pub invoke_id : ℕ

-- by peer, then by invoke ID
abbrev pub peer_key_cmp : PeerKey → PeerKey → Ordering
peer_key_cmp = then_cmp (on (λ (k : PeerKey). k.peer) peer_cmp) (on (λ (k : PeerKey). k.invoke_id) nat_cmp)

-- two keys are one where neither comes first
abbrev pub same_key : PeerKey → PeerKey → Bool
same_key = eq_by_cmp peer_key_cmp

pub peer_key_cmp_total : IsTotalOrder peer_key_cmp
peer_key_cmp_total = then_total (on_total (λ (k : PeerKey). k.peer) peer_cmp_total) (on_total (λ (k : PeerKey). k.invoke_id) nat_cmp_total)
