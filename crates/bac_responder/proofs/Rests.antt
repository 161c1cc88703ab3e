-- An entry that goes on as it is, and what it sends.
use Rattle.std.proofs.Common.{◌≡◌, List, Option, Some, None, refl, sym, subst}
use Rattle.bac_apdu.specs.Apdu.{Apdu}
use Rattle.bac_npdu.specs.Peers.{PeerView}
use Rattle.bac_store.specs.Stores.{Store}
use Rattle.bac_protocol.specs.Server.{ServerTransaction, rests}
use Rattle.bac_transaction.specs.Sends.{Datagram, Pairwise, IsSent, to_all}
use Rattle.bac_transaction.specs.Services.{ArePerformed, store_after}
use Rattle.bac_responder.specs.Reactions.{IsReaction}
use Rattle.bac_responder.specs.TransactionViews.{performed_view}
use Rattle.bac_responder.specs.declared.effect.Effect.{Effect}

pub rests_sent : (peer : PeerView) (e : ServerTransaction) (s : Store) (apdus : List Apdu) (sent all : List Datagram) (x : Option Effect)
    → Pairwise IsSent (to_all peer apdus) sent → all ≡ sent → x ≡ None → IsReaction (rests (Some e) apdus) peer s e all (performed_view x) s
rests_sent peer e s apdus sent all x pairs is none =
    record {
      entry_is = refl;
      sends = subst (λ (l : List Datagram). Pairwise IsSent (to_all peer apdus) l) (sym is) pairs;
      effect = subst (λ (o : Option Effect). ArePerformed s None (performed_view o)) (sym none) tt;
      store = subst (λ (o : Option Effect). s ≡ store_after s (performed_view o)) (sym none) refl;
    }
