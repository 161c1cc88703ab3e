-- A server that can perform the request of an accepted ask does so when a copy of it comes.
use Rattle.std.proofs.Common.{◌≡◌, ℕ, Bool, true, false, Option, Some, None, slice_get, if◌then◌else◌, refl, sym, ap, ◌∙◌}
use Rattle.bac_apdu.specs.Apdu.{Apdu, Limits}
use Rattle.bac_service.specs.Services.{reads_reply}
use Rattle.bac_service.specs.Values.{Request, choice_of}
use Rattle.bac_service.proofs.Wholes.{request_again}
use Rattle.bac_segment.specs.Pieces.{join}
use Rattle.bac_protocol.specs.Context.{Settings}
use Rattle.bac_protocol.specs.Sizes.{reply_way_of}
use Rattle.bac_protocol.specs.Sizes.Way.{InOne}
use Rattle.bac_protocol.specs.Service.{Octets}
use Rattle.bac_protocol.specs.Service.Outcome.{Replies}
use Rattle.bac_protocol.specs.Client.{Ask}
use Rattle.bac_protocol.specs.Server as server
use Rattle.bac_protocol.specs.Server.{ServerTransaction, is_live, live_entry, is_none_live, server_on_apdu}
use Rattle.bac_protocol.specs.Transaction.{Key, Rules, client_context, server_context}
use Rattle.bac_protocol.specs.Pace.{Clock}
use Rattle.bac_protocol.specs.World.{Net, Post, server_now}
use Rattle.bac_protocol.specs.Claims as claims
use Rattle.bac_slots.specs.Slots.{value_at}
use Rattle.bac_transaction.specs.Keys.{same_key}
use Rattle.bac_transaction.specs.Ends.{is_free}
use Rattle.bac_transaction.specs.Services.{service_of, outcome_by}
use Rattle.bac_world.specs.Node.{Node}
use Rattle.bac_world.specs.World.{World, IsAsked, told}
use Rattle.bac_world.proofs.Bridge.{here_at, there_at, NodeFits, slot_key}
use Rattle.bac_world.proofs.Steps.{Over}
use Rattle.bac_liveness.specs.RoundTrip.{request_to, answer_to}
use Rattle.bac_liveness.specs.WorldRoundTrip.{CanPerform}
use Rattle.bac_liveness.proofs.Serving.{answer_any_time, performed_entry, answers_first, serves_new}
use Rattle.bac_liveness.proofs.Following.{Parts}
use Rattle.bac_liveness.proofs.Asked.{key, ask, client_link}

pub none_is : (now : ℕ) (o : Option ServerTransaction) → live_entry now o ≡ None → is_none_live now o ≡ true
none_is now None h = refl
none_is now (Some e) h = go (is_live now e) h
  where
    go : (b : Bool) → (if b then Some e else None) ≡ None → (if b then false else true) ≡ true
    go true h = absurd cc
    go false h = refl

pub is_none : (now : ℕ) (o : Option ServerTransaction) → is_none_live now o ≡ true → live_entry now o ≡ None
is_none now None h = refl
is_none now (Some e) h = go (is_live now e) h
  where
    go : (b : Bool) → (if b then false else true) ≡ true → (if b then Some e else None) ≡ None
    go true h = absurd cc
    go false h = refl

module _ (links : ℕ → Option Octets) (apart : (i j : ℕ) (l : Octets) → links i ≡ Some l → links j ≡ Some l → i ≡ j) (W : ℕ) (x : Rules)
    (bound : claims.IsBounded W x) (readable : x.readable ≡ reads_reply) (old : World) (n : Net) (h : Over links apart W x None old n)
    (c s : ℕ) (limits : Limits) (r : Request) (asked : World) (a : IsAsked old c s limits r asked)
    (p : Parts links apart W x bound readable old n c s limits r asked a) where
  abbrev its_key : Key
  its_key = key links apart W x bound readable old n h c s limits r asked a p

  abbrev its_ask : Ask
  its_ask = ask links apart W x bound readable old n h c s limits r asked a p

  pub id_is : a.accepted.invoke_id ≡ p.id
  id_is = ap (λ z. z.invoke_id) p.is

  client_settings : a.before.settings ≡ x.settings c
  client_settings = (h.nodes c a.before a.at).settings

  module _ (w : World) (m : Net) (over : Over links apart W x None w m) (node : Node) (at : slice_get w.nodes s ≡ Some node) where
    fits : NodeFits links apart x (here_at m s) (there_at m s) w.notes m s node
    fits = over.nodes s node at

    there_is : there_at m s ≡ told w s
    there_is = ap (λ (y : Clock). y.shows) (over.there s)

    -- the entry of the net and that of the node are alike
    pub entry_is : live_entry (told w s) (value_at same_key (slot_key a.before.link a.accepted.invoke_id) node.servers.slots)
        ≡ live_entry (server_now m its_key) (m.entries its_key)
    entry_is =
        ap (λ (k : ℕ). live_entry k (value_at same_key (slot_key a.before.link a.accepted.invoke_id) node.servers.slots)) (sym there_is)
        ∙ ap (λ (k : ℕ). live_entry (there_at m s) (value_at same_key (slot_key a.before.link k) node.servers.slots)) id_is
        ∙ fits.servers.found c a.before.link p.id (client_link links apart W x bound readable old n h c s limits r asked a p)

    module _ (can : CanPerform (told w s) a.before node a.accepted.invoke_id r) where
      pub none : is_none_live (server_now m its_key) (m.entries its_key) ≡ true
      none = none_is (server_now m its_key) (m.entries its_key) (sym entry_is ∙ can.none)

      pub slot : is_free (server_now m its_key) node.servers ≡ true
      slot = ap (λ (k : ℕ). is_free k node.servers) there_is ∙ can.slot

      pub outcome : service_of node.store its_ask.choice (join its_ask.pieces) ≡ Replies can.reply
      outcome = ap (service_of node.store (choice_of r)) p.joined
          ∙ ap (outcome_by node.store) (request_again (choice_of r) a.asks.octets r a.asks.spelled) ∙ can.outcome

      pub way : reply_way_of (x.settings s) (x.settings c).limits can.reply ≡ InOne
      way = ap (λ (z : Settings). reply_way_of z (x.settings c).limits can.reply) (sym fits.settings)
          ∙ ap (λ (z : Settings). reply_way_of node.settings z.limits can.reply) (sym client_settings) ∙ can.way

      abbrev pub does : server.Reaction
      does = answers_first (performed_entry (server_now m its_key) (client_context x its_key its_ask.first) its_ask
          (answer_to x its_key its_ask can.reply)) its_ask can.reply
          (answer_to x its_key its_ask can.reply)

      abbrev gets : Key → Node → Apdu → server.Reaction
      gets k b z = server_on_apdu (server_context x k (server_now m k)) (service_of b.store) (m.entries k) (is_free (server_now m k) b.servers) z

      -- what it makes of a copy
      pub reaction : (y : Post) → y.key ≡ its_key → y.copy.apdu ≡ request_to x its_key its_ask → (b : Node) → b ≡ node
          → server_on_apdu (server_context x y.key (server_now m y.key)) (service_of b.store) (m.entries y.key)
          (is_free (server_now m y.key) b.servers) y.copy.apdu
          ≡ does
      reaction y is apdu b same =
          (λ i. gets (is i) (same i) (apdu i))
          ∙ ap (λ (z : Bool). server_on_apdu (server_context x its_key (server_now m its_key)) (service_of node.store) (m.entries its_key) z
          (request_to x its_key its_ask)) slot
          ∙ serves_new (server_context x its_key (server_now m its_key)) (client_context x its_key its_ask.first) (service_of node.store)
          (m.entries its_key) its_ask can.reply
          none outcome way
          ∙ ap (λ (z : Apdu). answers_first (performed_entry (server_now m its_key) (client_context x its_key its_ask.first) its_ask z) its_ask can.reply z)
          (answer_any_time x its_key (server_now m its_key) its_ask.first its_ask.choice can.reply)
