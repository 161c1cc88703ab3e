-- Peers that compare as equal are equal.
use Rattle.std.proofs.Common.{◌≡◌, true, subst, sym, ◌∙◌}
use Rattle.std.specs.Ordering.{eq_by_cmp}
use Rattle.std.proofs.lemmas.Cmp.{eq_by_cmp_equiv}
use Rattle.std.proofs.lemmas.Map.Views.{tells_apart}
use Rattle.bac_npdu.specs.Peers.{peer_cmp, peer_cmp_total}
use Rattle.bac_npdu.proofs.PeerOrder.{peers_equal}
use Rattle.bac_npdu.specs.Views.{peer_view}
use Rattle.bac_network.proofs.comparing_strangers.is_same_peer.Goals as goal

pub returns : goal.returns
returns c =
    let p = peer_view c.args.one.now in
    let q = peer_view c.args.other.now in (
      λ is. tells_apart peers_equal p q (sym c.eq.ensures ∙ is),
      λ same. c.eq.ensures ∙ subst (λ k. eq_by_cmp peer_cmp p k ≡ true) same ((eq_by_cmp_equiv peer_cmp_total).refl p),
    )
