-- The order of keys is total, and tells any two apart.
use Rattle.std.proofs.Common.{◌≡◌, ◌↔◌, IsTrue, true, ℕ, refl, ap, subst, ◌∙◌, arith}
use Rattle.std.specs.Ordering.{nat_cmp, ordering_then}
use Rattle.std.specs.Cmp.{IsTotalOrder}
use Rattle.std.specs.declared.cmp.Ordering.{Ordering}
use Rattle.std.specs.declared.cmp.Ordering.TheVariants.{Less, Equal, Greater}
use Rattle.std.proofs.lemmas.Bool.Decides.{nat_tests}
use Rattle.std.proofs.lemmas.Cmp.{eq_by_cmp_equiv}
use Rattle.std.proofs.lemmas.Map.Views.{tells_apart}
use Rattle.bac_npdu.specs.Peers.{PeerView, peer_cmp}
use Rattle.bac_npdu.proofs.PeerOrder.{peers_equal}
use Rattle.bac_transaction.specs.Keys.{PeerKey, peer_key_cmp, peer_key_cmp_total, same_key}

pub keys_total : IsTotalOrder peer_key_cmp
keys_total = peer_key_cmp_total

both_equal : (r s : Ordering) → ordering_then r s ≡ Equal → (r ≡ Equal) × (s ≡ Equal)
both_equal Less s e = absurd cc
both_equal Equal s e = (refl, e)
both_equal Greater s e = absurd cc

numbers_equal : (x y : ℕ) → nat_cmp x y ≡ Equal → x ≡ y
numbers_equal x y e = grind (arith, nat_tests, e)

pub keys_equal : (a b : PeerKey) → peer_key_cmp a b ≡ Equal → a ≡ b
keys_equal a b e =
    let both = both_equal (peer_cmp a.peer b.peer) (nat_cmp a.invoke_id b.invoke_id) e in
    let at_peer : PeerView → PeerKey = λ p. record { peer = p; invoke_id = a.invoke_id } in
    let at_id : ℕ → PeerKey = λ n. record { peer = b.peer; invoke_id = n } in
    ap at_peer (peers_equal a.peer b.peer both.0) ∙ ap at_id (numbers_equal a.invoke_id b.invoke_id both.1)

pub same_is : (a b : PeerKey) → IsTrue (same_key a b) ↔ (a ≡ b)
same_is a b = (λ e. tells_apart keys_equal a b e, λ e. subst (λ (k : PeerKey). same_key a k ≡ true) e ((eq_by_cmp_equiv peer_key_cmp_total).refl a))
