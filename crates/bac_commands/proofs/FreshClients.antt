-- A client that has asked nothing has an invoke ID and a slot for each ask.
use Rattle.std.proofs.Common.{◌≡◌, ℕ, zero, suc, ◌+◌, ◌-◌, ◌||◌, Bool, true, false, [], ◌∷◌, Option, Some, if◌then◌else◌, refl, sym, ap, subst, ◌∙◌, arith}
use Rattle.std.proofs.lemmas.Bool.{le-ltb}
use Rattle.std.specs.Option.{option_or}
use Rattle.bac_apdu.specs.Apdu.{Limits}
use Rattle.bac_npdu.specs.Peers.{PeerView}
use Rattle.bac_protocol.specs.Client.{Ask}
use Rattle.bac_protocol.specs.Context.{Settings}
use Rattle.bac_protocol.specs.Service.{Octets}
use Rattle.bac_protocol.specs.Sizes.{RequestFault, Way, request_way_of}
use Rattle.bac_service.specs.Values.{Request, choice_of}
use Rattle.bac_transaction.specs.Ends.{Accepted, AskOutcome, AskRefusal, ClientEnd, accepts, asks_by_way, asks_for, asks_with_id, free_id, is_id_taken, least_not}
use Rattle.bac_requester.specs.declared.ask_fault.AskFault.{AskFault}
use Rattle.bac_requester.specs.declared.ask_fault.AskFault.TheVariants as fault
use Rattle.bac_driver.specs.Nodes.{Node, NodeRefuses, Refusal}
use Rattle.bac_driver.specs.Asking.{IsRefused, Question}
use Rattle.bac_driver.specs.Runs.{Timed}
use Rattle.bac_commands.specs.Houses.{client_node}
use Rattle.bac_commands.specs.Spent.{is_spent}

-- ---- an invoke ID

first_free : (test : ℕ → Bool) (count from : ℕ) → test from ≡ false → least_not test (suc count) from ≡ Some from
first_free test count from free = ap (λ (b : Bool). if b then least_not test count (from + 1) else Some from) free

some_around : (test : ℕ → Bool) (count first : ℕ) → ((n : ℕ) → test n ≡ false)
    → (id : ℕ) × (option_or (least_not test count first) (least_not test 256 0) ≡ Some id)
some_around test zero first free = (0, first_free test 255 0 (free 0))
some_around test (suc count) first free =
    (first, ap (λ (o : Option ℕ). option_or o (least_not test 256 0)) (first_free test count first (free first)))

-- the client's end of one that has asked nothing
abbrev fresh : (first_id : ℕ) → ClientEnd
fresh first_id = record { slots = []; capacity = 65536; asked = 0; asks_from = 0; first_id = first_id }

none_taken : (now first_id : ℕ) (peer : PeerView) (n : ℕ) → is_id_taken now (fresh first_id) peer n ≡ false
none_taken now first_id peer n = ap (λ (b : Bool). b || false) (le-ltb now 0 (omega arith))

some_id : (now first_id : ℕ) (peer : PeerView) → (id : ℕ) × (free_id now (fresh first_id) peer ≡ Some id)
some_id now first_id peer = some_around (is_id_taken now (fresh first_id) peer) (256 - first_id) first_id (none_taken now first_id peer)

-- ---- an ask

accepted : (c : Settings) (now first_id : ℕ) (peer : PeerView) (ask : Ask)
    → (a : Accepted) × (asks_for c now peer ask (fresh first_id) ≡ AskOutcome.Asked a)
accepted c now first_id peer ask =
    let id = some_id now first_id peer in
    (accepts c now (record { peer = peer; invoke_id = id.0 }) ask (fresh first_id), ap (asks_with_id c now peer ask (fresh first_id)) id.1)

not_both : (o : AskOutcome) (a : Accepted) (why : AskRefusal) → o ≡ AskOutcome.Asked a → o ≡ AskOutcome.Refused why → ⊥
not_both o a why asked refused = let both : AskOutcome.Asked a ≡ AskOutcome.Refused why = sym asked ∙ refused in absurd cc

not_refused : (c : Settings) (now first_id : ℕ) (peer : PeerView) (ask : Ask) (why : AskRefusal)
    → asks_for c now peer ask (fresh first_id) ≡ AskOutcome.Refused why → ⊥
not_refused c now first_id peer ask why refused =
    let a = accepted c now first_id peer ask in not_both (asks_for c now peer ask (fresh first_id)) a.0 why a.1 refused

-- why an ask may be refused, for want of an invoke ID or a slot
data IsWant : AskRefusal → Type 0 where
  no_slot : IsWant AskRefusal.NoSlot
  no_id : IsWant AskRefusal.NoInvokeId

not_wanting : (c : Settings) (now first_id : ℕ) (peer : PeerView) (choice : ℕ) (octets : Octets) (way : Way RequestFault) (why : AskRefusal)
    → IsWant why → asks_by_way c now peer choice octets (fresh first_id) way ≡ AskOutcome.Refused why → ⊥
not_wanting c now first_id peer choice octets Way.InOne why want refused =
    not_refused c now first_id peer (record { first = now; choice = choice; whole = true; pieces = octets ∷ [] }) why refused
not_wanting c now first_id peer choice octets (Way.InSegments pieces) why want refused =
    not_refused c now first_id peer (record { first = now; choice = choice; whole = false; pieces = pieces }) why refused
not_wanting c now first_id peer choice octets (Way.Refused f) why no_slot refused = absurd cc
not_wanting c now first_id peer choice octets (Way.Refused f) why no_id refused = absurd cc

not_refusing : (now begun first_id : ℕ) (peer : PeerView) (limits : Limits) (r : Request) (address : Octets) (node : Node) (why : AskRefusal)
    → IsWant why → node ≡ client_node begun first_id address → NodeRefuses now peer limits r node (Refusal.CannotAsk why) → ⊥
not_refusing now begun first_id peer limits r address node why want is refuses =
    let n : NodeRefuses now peer limits r (client_node begun first_id address) (Refusal.CannotAsk why) =
    subst (λ (m : Node). NodeRefuses now peer limits r m (Refusal.CannotAsk why)) is refuses in
    let c = (client_node begun first_id address).settings in
    not_wanting c now first_id peer (choice_of r) n.octets (request_way_of c limits n.octets) why want n.refused

pub never_spent : (q : Question) (why : AskFault) (old new : Timed) (begun first_id : ℕ) (address : Octets)
    → old.bound_node.node ≡ client_node begun first_id address → IsRefused q why old new → is_spent why ≡ false
never_spent q fault.NoSlot old new begun first_id address is refused =
    absurd (not_refusing refused.now begun first_id q.peer q.limits q.request address old.bound_node.node AskRefusal.NoSlot no_slot is refused.refuses)
never_spent q fault.NoInvokeId old new begun first_id address is refused =
    absurd (not_refusing refused.now begun first_id q.peer q.limits q.request address old.bound_node.node AskRefusal.NoInvokeId no_id is refused.refuses)
never_spent q fault.NeedsSegments old new begun first_id address is refused = refl
never_spent q fault.TooLong old new begun first_id address is refused = refl
never_spent q fault.SelfPeer old new begun first_id address is refused = refl
never_spent q fault.ClockBack old new begun first_id address is refused = refl
never_spent q fault.NoMemory old new begun first_id address is refused = refl
