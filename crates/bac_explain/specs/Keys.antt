-- Keys of transactions, and their order.
use Rattle.std.specs.Prelude.{ℕ, Bool}
use Rattle.std.specs.Ordering.{nat_cmp, on, then_cmp, eq_by_cmp}
use Rattle.std.specs.declared.cmp.Ordering.{Ordering}
use Rattle.std.specs.Cmp.{IsTotalOrder, then_total, on_total, nat_cmp_total}
use Rattle.bac_npdu.specs.Peers.{PeerView, peer_cmp, peer_cmp_total}

-- client, server, and invoke ID (clause 5.4)
pub record Key : Type 0 where
  pub client : PeerView
  pub server : PeerView
  pub invoke_id : ℕ

-- by client, then by server
abbrev pub ends_cmp : Key → Key → Ordering
ends_cmp = then_cmp (on (λ (k : Key). k.client) peer_cmp) (on (λ (k : Key). k.server) peer_cmp)

-- then by invoke ID
abbrev pub key_cmp : Key → Key → Ordering
key_cmp = then_cmp ends_cmp (on (λ (k : Key). k.invoke_id) nat_cmp)

-- two keys are equal if neither comes first
abbrev pub same_key : Key → Key → Bool
same_key = eq_by_cmp key_cmp

pub key_cmp_total : IsTotalOrder key_cmp
key_cmp_total = then_total (then_total (on_total (λ (k : Key). k.client) peer_cmp_total) (on_total (λ (k : Key). k.server) peer_cmp_total))
    (on_total (λ (k : Key). k.invoke_id) nat_cmp_total)
