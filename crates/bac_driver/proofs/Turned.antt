-- A turn, of its two parts.
use Rattle.std.proofs.Common.{◌≡◌, ℕ, ◌+◌, ◌<◌, ◌≤◌, min, Bool, true, false, inl, inr, Option, Some, None, List, [], ◌∷◌, ◌++◌, map, take, length, get_or}
use Rattle.std.proofs.Common.{ap, sym, subst, ◌∙◌, arith, append_assoc, length-append}
use Rattle.std.proofs.lemmas.List.{append-nil, map-append, take_more}
use Rattle.bac_protocol.specs.Service.{Octets}
use Rattle.bac_protocol.specs.Wire.{is_from_client}
use Rattle.bac_apdu.specs.Apdu.{Apdu}
use Rattle.bac_npdu.specs.Peers.{PeerView}
use Rattle.bac_world.specs.Node.{Node, Outcome}
use Rattle.bac_node.specs.Memory.{IsWithin, kept_octets}
use Rattle.bac_node.specs.Serving.{IsHeardSoBy, NodeHearsBy, NodeServes}
use Rattle.bac_transaction.specs.Views.{rules_view}
use Rattle.bac_transaction.specs.declared.rules.Rules.{Rules}
use Rattle.bac_transaction.specs.Sends.{Datagram}
use Rattle.bac_driver.specs.Calls.{Calls, MOST}
use Rattle.bac_driver.specs.BoundNodes.{BoundNode}
use Rattle.bac_driver.specs.Rounds.{IsTaken, sends_in, sends_of_all}
use Rattle.bac_driver.specs.Turns.{Acts, Hears, Ticks, Turn, call_of, counted, with_calls}
use Rattle.bac_driver.proofs.Counts.{counted_both, with_more}

-- a datagram that comes at a moment leaves the latest one of the node no later
pub heard_in_time : (rules : Rules) (now : ℕ) (from octets : Octets) (old new : Node) (o : Outcome) → NodeHearsBy (rules_view rules) now from octets old new o → new.latest ≤ now
heard_in_time rules now from octets old new o hears = go hears.serves
  where
    by : (away : Bool) (server : Bool) (peer : PeerView) (a : Apdu) → IsHeardSoBy (rules_view rules) away server peer a now old new o → new.latest ≤ now
    by away true peer a served = subst (λ (n : Node). n.latest ≤ now) (sym served.turn.node) (omega arith)
    by away false peer a turn = subst (λ (n : Node). n.latest ≤ now) (sym turn.0.node) (omega arith)

    go : NodeServes (rules_view rules) hears.away now from octets old new o → new.latest ≤ now
    go (inl d) = subst (λ (n : Node). n.latest ≤ now) (sym d.0.node) (omega arith)
    go (inr z) = by hears.away (is_from_client z.apdu) z.peer z.apdu z.heard

-- where nothing changed, its server's end keeps as much
pub stays_within : (memory : Option ℕ) (old new : Node) → new ≡ old → IsWithin memory old new
stays_within None old new same = tt
stays_within (Some memory) old new same = let all = ap kept_octets same in omega (arith, all)

-- what a step sends goes to the link
pub record IsSentBy (sends : List Datagram) (lost : ℕ) (failures after : ℕ) (calls calls_after : Calls) : Type 0 where
  pub count : after ≡ counted failures lost
  pub order : calls_after ≡ with_calls calls (map call_of sends)
  pub most : lost ≤ length sends

-- what is sent, and then more
sent_more : (a b : List Datagram) (x y lost f g h : ℕ) (l m n : Calls) → IsSentBy a x f g l m → IsSentBy b y g h m n → lost ≡ min (x + y) MOST
    → IsSentBy (a ++ b) lost f h l n
sent_more a b x y lost f g h l m n sends more sum =
    record {
      count = counted_both f x y lost g h sends.count more.count sum;
      order =
          more.order
          ∙ ap (λ calls. with_calls calls (map call_of b)) sends.order
          ∙ with_more l (map call_of a) (map call_of b)
          ∙ ap (with_calls l) (sym (map-append call_of a b));
      most = let both = length-append a b in omega (arith, sends.most, more.most);
    }

-- the same of lists that are those
pub sent_both : (a b all more : List Datagram) (x y lost f g h : ℕ) (l m n : Calls) → a ≡ all → b ≡ more → IsSentBy a x f g l m → IsSentBy b y g h m n
    → lost ≡ min (x + y) MOST → IsSentBy (all ++ more) lost f h l n
sent_both a b all more x y lost f g h l m n is is_more sends after sum =
    subst (λ (z : List Datagram). IsSentBy (all ++ z) lost f h l n) is_more
    (subst (λ (z : List Datagram). IsSentBy (z ++ b) lost f h l n) is (sent_more a b x y lost f g h l m n sends after sum))

-- of turns after others
sends_of_more : (xs : List Turn) (turn : Turn) → sends_of_all (xs ++ turn ∷ []) ≡ sends_of_all xs ++ sends_in turn
sends_of_more [] turn = append-nil (sends_in turn)
sends_of_more (x ∷ xs) turn = ap (λ (z : List Datagram). sends_in x ++ z) (sends_of_more xs turn) ∙ sym (append_assoc (sends_in x) (sends_of_all xs) (sends_in turn))

-- one more turn than so many of a list
pub one_more_sent : {A : Type 0} (view : A → Turn) (turns : List A) (i : ℕ) (turn : A) (lost more now f g h : ℕ) (l m n : Calls) → i < length turns
    → turn ≡ get_or turns i turn → IsSentBy (sends_of_all (map view (take i turns))) lost f g l m → IsSentBy (sends_in (view turn)) more g h m n
    → now ≡ min (lost + more) MOST → IsSentBy (sends_of_all (map view (take (i + 1) turns))) now f h l n
one_more_sent view turns i turn lost more now f g h l m n within is sends after sum =
    subst (λ (z : List Datagram). IsSentBy z now f h l n) (sym (ap sends_of_all front ∙ sends_of_more (map view (take i turns)) (view turn)))
    (sent_more _ _ lost more now f g h l m n sends after sum) where
      front : map view (take (i + 1) turns) ≡ map view (take i turns) ++ view turn ∷ []
      front =
          ap (map view) (take_more turns i turn within ∙ ap (λ x. take i turns ++ x ∷ []) (sym is)) ∙ map-append view (take i turns) (turn ∷ [])

-- ---- both steps

-- what the node makes of what had come, over the octets that the bound node had in its buffer
pub taken : (now : ℕ) (seen : Octets) (before old new : BoundNode) (middle : Node) (turn : Turn) → before ≡ old → seen ≡ before.buffer → turn.at ≡ now
    → turn.lost ≡ 0 → new.calls ≡ before.calls → new.failures ≡ before.failures → new.buffer ≡ before.buffer → new.rules ≡ before.rules
    → Hears before.rules now seen turn.received before.node middle turn.heard → IsWithin before.rules.memory before.node middle
    → Ticks now middle new.node turn.ticked → IsTaken now old turn new
taken now seen before old new middle turn is seen_is at none calls failures same rules hears within ticks =
    subst (λ (o : BoundNode). IsTaken now o turn new) is
    (record {
      at = at;
      middle = middle;
      hears = subst (λ (b : Octets). Hears before.rules now b turn.received before.node middle turn.heard) seen_is hears;
      within = within;
      ticks = ticks;
      lost = none;
      calls = calls;
      failures = failures;
      buffer = same;
      rules = rules;
    })

-- a turn that sends then what it sends, from a bound node that is so after both steps
pub acted : (now : ℕ) (old middle before new : BoundNode) (turn sent : Turn) (lost : ℕ) → before ≡ middle → IsTaken now old turn middle
    → sent ≡ record turn { lost = lost } → new.node ≡ before.node → new.buffer ≡ before.buffer → new.rules ≡ before.rules
    → IsSentBy (sends_in turn) lost before.failures new.failures before.calls new.calls → Acts now old sent new
acted now old middle before new turn sent lost same taken is node buffer rules sends =
    let takes = subst (λ (m : BoundNode). IsTaken now old turn m) (sym same) taken in
    subst (λ (t : Turn). Acts now old t new) (sym is)
    (record {
      at = takes.at;
      middle = takes.middle;
      hears = takes.hears;
      within = takes.within;
      ticks = subst (λ (n : Node). Ticks now takes.middle n turn.ticked) (sym node) takes.ticks;
      carried =
          record {
            order = sends.order ∙ ap (λ (c : Calls). with_calls c (map call_of (sends_in turn))) takes.calls;
            count = sends.count ∙ ap (λ (f : ℕ). counted f lost) takes.failures;
            most = sends.most;
          };
      buffer = buffer ∙ takes.buffer;
      rules = rules ∙ takes.rules;
    })
