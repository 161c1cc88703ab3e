-- Peers that compare as equal are equal.
use Rattle.std.proofs.Common.{◌≡◌, Bool, true, false, MatchBool, sym, subst, ◌∙◌}
use Rattle.std.specs.Ordering.{eq_by_cmp}
use Rattle.std.proofs.lemmas.Cmp.{eq_by_cmp_equiv}
use Rattle.std.proofs.lemmas.Map.Views.{tells_apart}
use Rattle.bac_npdu.specs.Peers.{PeerView, peer_cmp, peer_cmp_total}
use Rattle.bac_npdu.proofs.PeerOrder.{peers_equal}
use Rattle.bac_npdu.specs.Views.{peer_view}
use Rattle.bac_journal.proofs.comparing.is_same_peer.Goals as goal

same_peer : (p q : PeerView) (b : Bool) → b ≡ eq_by_cmp peer_cmp p q → MatchBool b (p ≡ q) (p ≡ q → ⊥)
same_peer p q true e = tells_apart peers_equal p q (sym e)
same_peer p q false e = λ same.
    let both : eq_by_cmp peer_cmp p q ≡ true = subst (λ k. eq_by_cmp peer_cmp p k ≡ true) same ((eq_by_cmp_equiv peer_cmp_total).refl p) in
    let clash : false ≡ true = e ∙ both in
    absurd cc

pub returns : goal.returns
returns c = same_peer (peer_view c.args.one.now) (peer_view c.args.other.now) c.eq.result c.eq.ensures
