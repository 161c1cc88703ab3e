-- Two nodes, and what is needed for a copy to be delivered between them.
use Rattle.std.proofs.Common.{◌≡◌, ◌≢◌, ℕ, true, List, [], ◌∷◌, ◌++◌, map, Some, slice_get, IsTrue, refl, sym, subst, inr}
use Rattle.bac_apdu.specs.Apdu.{Apdu}
use Rattle.bac_apdu.specs.Spelling.{SpellsApdu, apdu_fits}
use Rattle.bac_npdu.specs.Datagram.{Means}
use Rattle.bac_protocol.specs.Short.{IsShort}
use Rattle.bac_protocol.specs.Wire.{is_from_client, Each}
use Rattle.bac_protocol.specs.Transaction.{Key}
use Rattle.bac_transaction.specs.Sends.{Datagram, Pairwise, IsSent, to_all}
use Rattle.bac_world.specs.Node.{Node, Outcome, IsHeardBy}
use Rattle.bac_world.specs.Once.{Fact}
use Rattle.bac_world.specs.World.{World, Copy, Life, with_act, AreEnded, AreLogged, IsCopied, IsDelivered, IsWithNode, is_deliverable, link_at, peer_at, transaction_of}
use Rattle.bac_world.specs.World.{DeliversIf}
use Rattle.bac_world.proofs.Bridge.{each_copied}
use Rattle.bac_world.specs.AnsweredRun.{TIME, link}
use Rattle.bac_world.proofs.Answered.{NOTES, copy, datagram as datagram_to, means as means_as, sent as sent_as}

abbrev pub KEY : Key
KEY = record { client = 0; server = 1; invoke_id = 0 }

abbrev pub datagram : (to : ℕ) → Apdu → Datagram
datagram to a = datagram_to (link to) a

abbrev pub world : (ℕ → Life) → List Node → List Copy → List Fact → World
world lives nodes copies log = record { nodes = nodes; time = TIME; lives = lives; copies = copies; log = log; notes = NOTES }

-- an APDU of the one transaction, which has a frame
pub record IsGood (from to : ℕ) (a : Apdu) : Type 0 where
  pub fits : IsTrue (apdu_fits a)
  pub short : IsShort a
  pub key : transaction_of from to a ≡ KEY

means : (from to : ℕ) (a : Apdu) → IsGood from to a → Means SpellsApdu (link from) (datagram to a).octets (peer_at (link from)) a
means from to a good = means_as (link from) (link to) a good.fits good.short

pub sent : (from to : ℕ) (sends : List Apdu) → Each (IsGood from to) sends → Pairwise IsSent (to_all (peer_at (link to)) sends) (map (datagram to) sends)
sent from to [] good = tt
sent from to (a ∷ sends) good = (sent_as (link to) a good.0.fits good.0.short, sent from to sends good.1)

pub copied : (nodes : List Node) (from to : ℕ) → link_at nodes from ≡ Some (link from) → link_at nodes to ≡ Some (link to)
    → (sends : List Apdu) → Each (IsGood from to) sends → Pairwise (IsCopied nodes 0 from) (map (datagram to) sends) (map (copy from to) sends)
copied nodes from to from_at to_at [] good = tt
copied nodes from to from_at to_at (a ∷ sends) good = (
  record {
    moment = refl;
    from = refl;
    to = to_at;
    octets = refl;
    transaction = record {
      link = link from;
      sender = from_at;
      peer = peer_at (link from);
      apdu = a;
      means = means from to a good.0;
      key = sym good.0.key;
    };
  },
  copied nodes from to from_at to_at sends good.1,
)

-- What has to be known of a delivery: of the copy, of both ends, and of what the node that hears it does.
pub record IsDelivery (from to : ℕ) (old new : List Node) (copies : List Copy) (log log' : List Fact) (number : ℕ) (a : Apdu) (sends : List Apdu) : Type 0
  where
    pub before : Node
    pub after : Node
    pub outcome : Outcome
    pub between : List Fact
    pub from_at : link_at old from ≡ Some (link from)
    pub to_at : link_at old to ≡ Some (link to)
    pub at : slice_get old to ≡ Some before
    pub foreign : link from ≢ before.link
    pub good : IsGood from to a
    pub there : slice_get copies number ≡ Some (copy from to a)
    pub may : is_deliverable 253 TIME.pace.life TIME.now number copies (copy from to a) ≡ true
    pub heard : IsHeardBy (is_from_client a) (peer_at (link from)) a 0 before after outcome
    pub nodes : IsWithNode old to after new
    pub sends_are : outcome.sends ≡ map (datagram from) sends
    pub goods : Each (IsGood to from) sends
    pub ended : AreEnded NOTES to outcome.ended log between
    pub logged : AreLogged old NOTES to after outcome.performed between log'

pub delivers : (lives : ℕ → Life) (from to : ℕ) (old new : List Node) (copies : List Copy) (log log' : List Fact) (number : ℕ) (a : Apdu) (sends : List Apdu)
    → IsDelivery from to old new copies log log' number a sends
    → IsDelivered 253 (world lives old copies log) number (world (with_act lives to) new (copies ++ map (copy to from) sends) log')
delivers lives from to old new copies log log' number a sends d = record {
  copy = copy from to a;
  there = d.there;
  goes = subst (λ b. DeliversIf b (world lives old copies log) (copy from to a) (world (with_act lives to) new (copies ++ map (copy to from) sends) log')) (sym d.may) (record {
    link = link from;
    sender = d.from_at;
    hears = record {
      before = d.before;
      at = d.at;
      after = d.after;
      outcome = d.outcome;
      on = inr (record { peer = peer_at (link from); apdu = a; foreign = d.foreign; means = means from to a d.good; heard = d.heard });
      acts = record {
        nodes = d.nodes;
        time = refl;
        lives = refl;
        notes = refl;
        sent = map (copy to from) sends;
        copies = refl;
        copied = each_copied old 0 to d.outcome.sends (map (copy to from) sends)
            (subst (λ (ds : List Datagram). Pairwise (IsCopied old 0 to) ds (map (copy to from) sends)) (sym d.sends_are)
            (copied old to from d.to_at d.from_at sends d.goods));
        between = d.between;
        ended = d.ended;
        logged = d.logged;
      };
    };
  });
}
