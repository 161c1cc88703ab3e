-- An accepted ask.
use Rattle.std.proofs.Common.{not, ◌≡◌, ℕ, ◌+◌, ◌<◌, ◌≤◌, ◌⊎◌, Bool, true, false, ◌&&◌, ◌||◌, List, [], ◌∷◌, ◌++◌, map, length, Option, Some, None}
use Rattle.std.proofs.Common.{slice_get, if◌then◌else◌, nat_eq, nat_lt, refl, sym, ap, subst, inl, inr, ◌∙◌, arith}
use Rattle.std.proofs.lemmas.Bool.Decides.{nat_tests}
use Rattle.bac_apdu.specs.Apdu.{Apdu, Limits}
use Rattle.bac_service.specs.Values.{Request, choice_of}
use Rattle.bac_service.specs.Requests.{SpellsRequest}
use Rattle.bac_segment.specs.Pieces.{join}
use Rattle.bac_npdu.specs.Peers.{PeerView}
use Rattle.bac_protocol.specs.Context.{Settings, Context}
use Rattle.bac_protocol.specs.Sizes.{Way, RequestFault, request_way_of}
use Rattle.bac_protocol.specs.Sizes.Way.{InOne, InSegments}
use Rattle.bac_protocol.specs.Service.{Octets}
use Rattle.bac_protocol.specs.Client as machine
use Rattle.bac_protocol.specs.Client.{Ask, ClientTransaction, asked_ticket, asks, sends_of}
use Rattle.bac_protocol.specs.Transaction.{Key, Rules, client_context}
use Rattle.bac_protocol.specs.World.{Net, set_at, post_of, asked_at}
use Rattle.bac_protocol.specs.World as net
use Rattle.bac_protocol.specs.Claims.{IsBounded}
use Rattle.bac_protocol.proofs.Dead.{ended_is_silent}
use Rattle.bac_protocol.proofs.Keys.{set_same, set_other, decide_key}
use Rattle.bac_protocol.proofs.Own.{client_sends_own}
use Rattle.bac_protocol.specs.LongApdus.{AllTakeLong, TakesLong}
use Rattle.bac_protocol.proofs.LongApdus.{requests_are_cut}
use Rattle.bac_protocol.proofs.Short.{requests_are_short}
use Rattle.bac_protocol.proofs.ShortNets.{IsShortNet, asked_short}
use Rattle.bac_slots.specs.Slots.{value_at, keep}
use Rattle.bac_transaction.specs.Keys.{PeerKey, same_key}
use Rattle.bac_transaction.specs.Sends.{Pairwise, IsSent}
use Rattle.bac_transaction.specs.Ends.{Client, ClientEnd, kept, is_held, is_held_there, is_id_held, is_id_taken, waits_to_ask, free_id, has_no_slot}
use Rattle.bac_transaction.specs.Ends.{Accepted, AskRefusal, AskOutcome, accepts, asks_with_id, asks_for, asks_by_way, requester_ask}
use Rattle.bac_transaction.specs.Ends.AskOutcome.{Asked}
use Rattle.bac_transaction.proofs.ClientTables.{is_untaken, least_around_is, no_wait}
use Rattle.bac_transaction.proofs.Holding.{held_is}
use Rattle.bac_world.specs.Node.{Node}
use Rattle.bac_world.specs.Once.{Fact, Stores}
use Rattle.bac_world.specs.ReusingLogs.{IsOnceSo}
use Rattle.bac_world.specs.World.{World, Life, Time, Note, Copy, stores_of, newest, ask_of, peer_at, IsCopied, IsAsked}
use Rattle.bac_transaction.proofs.KeyedSlots.{slot, passing, passing_value, passing_distinct, put_same, put_other, put_distinct}
use Rattle.bac_transaction.proofs.KeyedSlots.{each_at, each_so, each_passing, each_put}
use Rattle.bac_protocol.specs.World.{client_now, is_lost, is_key_held}
use Rattle.bac_world.specs.World.{told}
use Rattle.bac_world.proofs.Bridge.{here_at, there_at}
use Rattle.bac_protocol.specs.Pace.{Clock, Pace, most}
use Rattle.bac_protocol.specs.declared.times.TheConstants.{DEADLINE}
use Rattle.bac_world.proofs.Machines.{Sound, counted, asked, away_below}
use Rattle.bac_world.proofs.Pairs.{pairwise_join, append_none}
use Rattle.bac_world.proofs.Logs.{FactMeans, asks_counted}
use Rattle.bac_world.proofs.Bridge.{HasNothing, LifeFits, NodeFits, ClientsFit, IsKnown, IsCopyOf, IsGone, TicketFits, key_of, slot_key, copies_of, IsStranger, AwayNoted, out_key, away_more}
use Rattle.bac_world.proofs.Steps.{Over, Fits, Goes, idle_with, linked_with, set_elsewhere, stores_same, decide_number}
use Rattle.bac_world.proofs.Settings.{Setting, ever_in}

-- What an accepted ask is.

-- the invoke ID that is free is not taken
is_free : (now : ℕ) (e : ClientEnd) (peer : PeerView) (id : ℕ) → free_id now e peer ≡ Some id → is_id_taken now e peer id ≡ false
is_free now e peer id free = (least_around_is (is_id_taken now e peer) e.first_id id free).refused

module _ (c : Settings) (now : ℕ) (peer : PeerView) (choice : ℕ) (octets : Octets) (e : ClientEnd) (a : Accepted) where
  -- its pieces, its invoke ID, which is not held, that the end does not wait, and what becomes of the end
  pub record IsAccepted : Type 0 where
    pub id : ℕ
    pub whole : Bool
    pub front : Octets
    pub rest : List Octets
    pub joined : join (front ∷ rest) ≡ octets
    pub free : is_id_held now e.slots peer id ≡ false
    pub awake : waits_to_ask now e ≡ false
    pub is : a ≡ accepts c now (record { peer = peer; invoke_id = id }) (record { first = now; choice = choice; whole = whole; pieces = front ∷ rest }) e

  with_id : (whole : Bool) (front : Octets) (rest : List Octets) → join (front ∷ rest) ≡ octets
      → asks_for c now peer (record { first = now; choice = choice; whole = whole; pieces = front ∷ rest }) e ≡ Asked a
      → (p : IsAccepted) × (p.whole ≡ whole) × (p.front ∷ p.rest ≡ front ∷ rest)
  with_id whole front rest joined is = go (free_id now e peer) refl is
    where
      ask : Ask
      ask = record { first = now; choice = choice; whole = whole; pieces = front ∷ rest }

      go : (o : Option ℕ) → free_id now e peer ≡ o → asks_with_id c now peer ask e o ≡ Asked a
          → (p : IsAccepted) × (p.whole ≡ whole) × (p.front ∷ p.rest ≡ front ∷ rest)
      go None least is = absurd cc
      go (Some id) least is = slots (has_no_slot now e) is
        where
          slots : (b : Bool)
              → (if b then AskOutcome.Refused AskRefusal.NoSlot else Asked (accepts c now (record { peer = peer; invoke_id = id }) ask e)) ≡ Asked a
              → (p : IsAccepted) × (p.whole ≡ whole) × (p.front ∷ p.rest ≡ front ∷ rest)
          slots true is = absurd cc
          slots false is = (
            record {
              id = id;
              whole = whole;
              front = front;
              rest = rest;
              joined = joined;
              free = is_untaken now e peer id (is_free now e peer id least);
              awake = no_wait now e peer id (is_free now e peer id least);
              is = let same : accepts c now (record { peer = peer; invoke_id = id }) ask e ≡ a = cc in sym same;
            },
            refl,
            refl,
          )

  by_way : (way : Way RequestFault) → ((pieces : List Octets) → way ≡ InSegments pieces → (join pieces ≡ octets) × (0 < length pieces))
      → asks_by_way c now peer choice octets e way ≡ Asked a → IsAccepted
  by_way InOne joins is = (with_id true octets [] (append_none octets) is).0
  by_way (InSegments []) joins is = let j = joins [] refl in absurd (omega (arith, j.1))
  by_way (InSegments (front ∷ rest)) joins is = (with_id false front rest (joins (front ∷ rest) refl).0 is).0
  by_way (Way.Refused why) joins is = absurd cc

  pub accepted_is : (limits : Limits) → requester_ask c now peer limits choice octets e ≡ Asked a → IsAccepted
  accepted_is limits is =
      let context : Context = record { settings = c; invoke_id = 0; now = now } in
      by_way (request_way_of c limits octets)
      (λ pieces way. let cut = requests_are_short.cut context limits octets pieces way in (cut.are.joined, cut.some)) is

  -- one that goes in one APDU is whole
  pub accepted_whole : (limits : Limits) → requester_ask c now peer limits choice octets e ≡ Asked a → request_way_of c limits octets ≡ InOne
      → (p : IsAccepted) × (p.whole ≡ true)
  accepted_whole limits is in_one =
      let made = with_id true octets [] (append_none octets)
      (subst (λ (way : Way RequestFault). asks_by_way c now peer choice octets e way ≡ Asked a) in_one is) in
      (made.0, made.1)

  -- between ends that take long APDUs it has few pieces
  pub accepted_few : (limits : Limits) → requester_ask c now peer limits choice octets e ≡ Asked a
      → (p : IsAccepted) × (TakesLong c.limits → TakesLong limits → length (p.front ∷ p.rest) ≤ 139)
  accepted_few limits is = go (request_way_of c limits octets) refl is
    where
      context : Context
      context = record { settings = c; invoke_id = 0; now = now }

      few : (p : IsAccepted) (front : Octets) (rest : List Octets) → p.front ∷ p.rest ≡ front ∷ rest → length (front ∷ rest) ≤ 139
          → length (p.front ∷ p.rest) ≤ 139
      few p front rest same le = subst (λ (ps : List Octets). length ps ≤ 139) (sym same) le

      go : (way : Way RequestFault) → request_way_of c limits octets ≡ way → asks_by_way c now peer choice octets e way ≡ Asked a
          → (p : IsAccepted) × (TakesLong c.limits → TakesLong limits → length (p.front ∷ p.rest) ≤ 139)
      go InOne way is = let made = with_id true octets [] (append_none octets) is in (made.0, λ own other. few made.0 octets [] made.2 (omega arith))
      go (InSegments []) way is = let cut = requests_are_short.cut context limits octets [] way in let some = cut.some in absurd (omega arith)
      go (InSegments (front ∷ rest)) way is =
          let cut = requests_are_short.cut context limits octets (front ∷ rest) way in
          let made = with_id false front rest cut.are.joined is in
          (made.0, λ own other. few made.0 front rest made.2 (requests_are_cut.long c limits octets (front ∷ rest) way own other))
      go (Way.Refused why) way is = absurd cc

-- Slots and notes.

abbrev pub holds : ℕ → Client → Bool
holds now s = is_held now s.held

-- a ticket that is not held is gone, and stays gone
pub gone_unheld : (gone : Bool) (now : ℕ) (t : ClientTransaction) → machine.is_held now t ≡ false → IsGone gone now (Some t)
gone_unheld gone now t unheld = record { over = ended_is_silent.unheld now t unheld; free = both gone }
  where
    both : (b : Bool) → (not b && machine.is_held now t) ≡ false
    both true = refl
    both false = unheld

-- a slot that is not held may go
pub fits_kept : (gone : Bool) (now : ℕ) (notes : List Note) (i number : ℕ) (o : Option Client) (t : Option ClientTransaction) → TicketFits gone now notes i number o t
    → TicketFits gone now notes i number (keep (holds now) o) t
fits_kept gone now notes i number None t h = h
fits_kept gone now notes i number (Some s) None h = absurd h
fits_kept gone now notes i number (Some s) (Some t) h = go (is_held now s.held) refl
  where
    go : (b : Bool) → is_held now s.held ≡ b → TicketFits gone now notes i number (if b then Some s else None) (Some t)
    go true is = h
    go false is = gone_unheld gone now t (sym (held_is now t) ∙ sym (ap (is_held now) h.held) ∙ is)

-- where an invoke ID is not held for the peer, no ticket of its client's life holds it
pub free_ticket : (gone : Bool) (now : ℕ) (notes : List Note) (i number : ℕ) (o : Option Client) (t : Option ClientTransaction) → TicketFits gone now notes i number o t
    → is_held_there now o ≡ false → (not gone && is_key_held now t) ≡ false
free_ticket gone now notes i number None t h free = h.free
free_ticket gone now notes i number (Some s) None h free = absurd h
free_ticket gone now notes i number (Some s) (Some t) h free =
    (gone_unheld gone now t (sym (held_is now t) ∙ sym (ap (is_held now) h.held) ∙ free)).free

-- so its client can ask under that key, where it does not wait
pub key_free : (n : Net) (key : Key) (e : ClientEnd) → e.asks_from ≡ n.asks_from key.client → waits_to_ask (client_now n key) e ≡ false
    → (not (is_lost n key) && is_key_held (client_now n key) (n.tickets key)) ≡ false → net.is_id_held n key ≡ false
key_free n key e from awake free =
    ap (λ (y : ℕ). nat_lt (client_now n key) y || (not (is_lost n key) && is_key_held (client_now n key) (n.tickets key))) (sym from)
    ∙ ap (λ (b : Bool). b || (not (is_lost n key) && is_key_held (client_now n key) (n.tickets key))) awake ∙ free

pub free_kept : (now : ℕ) (o : Option Client) → is_held_there now o ≡ false → keep (holds now) o ≡ None
free_kept now None e = refl
free_kept now (Some s) e = ap (λ b. if b then Some s else None) e

-- another note is nothing to a slot of another client or of an earlier ticket
pub fits_noted : (gone : Bool) (now : ℕ) (notes : List Note) (note : Note) (i number : ℕ) (o : Option Client) (t : Option ClientTransaction)
    → ((s : Client) → o ≡ Some s → (nat_eq note.key.client i && nat_eq note.ticket s.number) ≡ false)
    → TicketFits gone now notes i number o t → TicketFits gone now (note ∷ notes) i number o t
fits_noted gone now notes note i number None t other h = h
fits_noted gone now notes note i number (Some s) None other h = absurd h
fits_noted gone now notes note i number (Some s) (Some t) other h = record {
  held = h.held;
  noted = λ still_open. ap (λ b. if b then Some (length notes) else ask_of i s.number notes) (other s refl) ∙ h.noted still_open;
}

pub differ : (a b : ℕ) → (a ≡ b → ⊥) → nat_eq a b ≡ false
differ a b ne = go (nat_eq a b) refl
  where
    go : (y : Bool) → nat_eq a b ≡ y → y ≡ false
    go true e = absurd (ne (grind (arith, nat_tests)))
    go false e = refl

pub and_false : (a b : Bool) → b ≡ false → (a && b) ≡ false
and_false true b e = e
and_false false b e = refl

pub equal_self : (a : ℕ) → nat_eq a a ≡ true
equal_self a = grind (arith, nat_tests)

module _ (links : ℕ → Option Octets) (apart : (i j : ℕ) (l : Octets) → links i ≡ Some l → links j ≡ Some l → i ≡ j) (W : ℕ) (x : Rules)
    (set : Setting)
    (bound : IsBounded W x) where
  -- What an ask makes of the client's slots.
  module _ (n : Net) (notes : List Note) (number_is : n.asks ≡ length notes) (key : Key) (l : Octets) (at : links key.server ≡ Some l) (ask : Ask)
      (e : ClientEnd) (h : ClientsFit links apart (here_at n key.client) notes n key.client e)
      (free : is_held_there (here_at n key.client) (value_at same_key (slot_key l key.invoke_id) e.slots) ≡ false) where
    abbrev pub note : Note
    note = record { key = key; ticket = e.asked; away = None }

    abbrev m : Net
    m = asked_at x n key ask

    abbrev made : ClientTransaction
    made = asked_ticket (client_context x key (here_at n key.client)) ask

    abbrev client : Client
    client = record { number = e.asked; held = kept made }

    abbrev p : PeerKey
    p = slot_key l key.invoke_id

    abbrev pub ended : ClientEnd
    ended = record e { slots = passing Client (holds (here_at n key.client)) e.slots ++ slot Client p (here_at n key.client) client ∷ []; asked = e.asked + 1 }

    gone : value_at same_key p (passing Client (holds (here_at n key.client)) e.slots) ≡ None
    gone = passing_value Client (holds (here_at n key.client)) p e.slots h.distinct ∙ free_kept (here_at n key.client) (value_at same_key p e.slots) free

    earlier : (q : PeerKey) (z : Client) → value_at same_key q e.slots ≡ Some z → (nat_eq key.client key.client && nat_eq e.asked z.number) ≡ false
    earlier q z is =
        let lt = (each_at Client (λ y v. (IsKnown links apart y ⊎ IsStranger links apart y) × (v.number < e.asked)) q z e.slots h.known is).1 in
        and_false (nat_eq key.client key.client) (nat_eq e.asked z.number) (differ e.asked z.number (λ same. omega arith))

    own : ask_of key.client e.asked (note ∷ notes) ≡ Some (m.numbers key)
    own = ap (λ b. if b && nat_eq e.asked e.asked then Some (length notes) else ask_of key.client e.asked notes) (equal_self key.client)
        ∙ ap (λ b. if b then Some (length notes) else ask_of key.client e.asked notes) (equal_self e.asked)
        ∙ ap Some (sym number_is ∙ sym (set_same n.numbers key n.asks))

    fit : TicketFits (is_lost m key) (here_at n key.client) (note ∷ notes) key.client (m.numbers key) (value_at same_key p ended.slots) (m.tickets key)
    fit = subst (λ (o : Option Client). TicketFits (is_lost m key) (here_at n key.client) (note ∷ notes) key.client (m.numbers key) o (m.tickets key))
        (sym (put_same Client p (here_at n key.client) client (passing Client (holds (here_at n key.client)) e.slots) gone))
        (subst (λ (o : Option ClientTransaction). TicketFits (is_lost m key) (here_at n key.client) (note ∷ notes) key.client (m.numbers key) (Some client) o)
        (sym (set_same n.tickets key (Some made))) (record { held = refl; noted = λ still_open. own }))

    found : (s : ℕ) (l' : Octets) (id : ℕ) → links s ≡ Some l' → ((key ≡ key_of key.client s id) ⊎ (key ≡ key_of key.client s id → ⊥))
        → TicketFits (is_lost m (key_of key.client s id)) (here_at n key.client) (note ∷ notes) key.client (m.numbers (key_of key.client s id)) (value_at same_key (slot_key l' id) ended.slots)
        (m.tickets (key_of key.client s id))
    found s l' id at' (inl is) =
        let link : l ≡ l' = let f : Some l ≡ Some l' = sym at ∙ ap (λ (k : Key). links k.server) is ∙ at' in cc in
        let moved : TicketFits (is_lost m (key_of key.client s id)) (here_at n key.client) (note ∷ notes) key.client (m.numbers (key_of key.client s id)) (value_at same_key p ended.slots)
        (m.tickets (key_of key.client s id)) =
        subst (λ (k : Key). TicketFits (is_lost m k) (here_at n key.client) (note ∷ notes) key.client (m.numbers k) (value_at same_key p ended.slots) (m.tickets k)) is fit in
        subst (λ (q : PeerKey). TicketFits (is_lost m (key_of key.client s id)) (here_at n key.client) (note ∷ notes) key.client (m.numbers (key_of key.client s id)) (value_at same_key q ended.slots)
        (m.tickets (key_of key.client s id))) (λ j. slot_key (link j) (is j).invoke_id) moved
    found s l' id at' (inr ne) =
        let other : p ≡ slot_key l' id → ⊥ = λ is.
        let link : l ≡ l' = ap (λ (q : PeerKey). q.peer.link) is in
        let node : key.server ≡ s = apart key.server s l' (at ∙ ap Some link) at' in
        ne (λ j. key_of key.client (node j) (is j).invoke_id) in
        let q : PeerKey = slot_key l' id in
        let k : Key = key_of key.client s id in
        let look : value_at same_key q ended.slots ≡ keep (holds (here_at n key.client)) (value_at same_key q e.slots) =
        put_other Client p q (here_at n key.client) client (passing Client (holds (here_at n key.client)) e.slots) other ∙ passing_value Client (holds (here_at n key.client)) q e.slots h.distinct in
        let before : TicketFits (is_lost n k) (here_at n key.client) (note ∷ notes) key.client (n.numbers k) (value_at same_key q e.slots) (n.tickets k) =
        fits_noted (is_lost n k) (here_at n key.client) notes note key.client (n.numbers k) (value_at same_key q e.slots) (n.tickets k) (earlier q) (h.found s l' id at') in
        let after : TicketFits (is_lost n k) (here_at n key.client) (note ∷ notes) key.client (n.numbers k) (keep (holds (here_at n key.client)) (value_at same_key q e.slots)) (n.tickets k) =
        fits_kept (is_lost n k) (here_at n key.client) (note ∷ notes) key.client (n.numbers k) (value_at same_key q e.slots) (n.tickets k) before in
        subst (λ (o : Option Client). TicketFits (is_lost m k) (here_at n key.client) (note ∷ notes) key.client (m.numbers k) o (m.tickets k)) (sym look)
        (subst (λ (z : ℕ). TicketFits (nat_lt z (n.restarted key.client)) (here_at n key.client) (note ∷ notes) key.client (m.numbers k) (keep (holds (here_at n key.client)) (value_at same_key q e.slots)) (m.tickets k))
        (sym (set_other n.made key n.now k ne))
        (subst (λ (y : ℕ). TicketFits (is_lost n k) (here_at n key.client) (note ∷ notes) key.client y (keep (holds (here_at n key.client)) (value_at same_key q e.slots)) (m.tickets k))
        (sym (set_other n.numbers key n.asks k ne))
        (subst (λ (o : Option ClientTransaction). TicketFits (is_lost n k) (here_at n key.client) (note ∷ notes) key.client (n.numbers k) (keep (holds (here_at n key.client)) (value_at same_key q e.slots)) o)
        (sym (set_other n.tickets key (Some made) k ne)) after)))

    strangers : (q : PeerKey) → IsStranger links apart q
        → TicketFits false (here_at n key.client) (note ∷ notes) key.client (n.far.numbers (out_key key.client q)) (value_at same_key q ended.slots)
        (n.far.tickets (out_key key.client q))
    strangers q g =
        let other : p ≡ q → ⊥ = λ is. g.none key.server (at ∙ ap (λ (y : PeerKey). Some y.peer.link) is) in
        let k : Key = out_key key.client q in
        let look : value_at same_key q ended.slots ≡ keep (holds (here_at n key.client)) (value_at same_key q e.slots) =
        put_other Client p q (here_at n key.client) client (passing Client (holds (here_at n key.client)) e.slots) other ∙ passing_value Client (holds (here_at n key.client)) q e.slots h.distinct in
        let before : TicketFits false (here_at n key.client) (note ∷ notes) key.client (n.far.numbers k) (value_at same_key q e.slots) (n.far.tickets k) =
        fits_noted false (here_at n key.client) notes note key.client (n.far.numbers k) (value_at same_key q e.slots) (n.far.tickets k) (earlier q) (h.strangers q g) in
        subst (λ (o : Option Client). TicketFits false (here_at n key.client) (note ∷ notes) key.client (n.far.numbers k) o (n.far.tickets k)) (sym look)
        (fits_kept false (here_at n key.client) (note ∷ notes) key.client (n.far.numbers k) (value_at same_key q e.slots) (n.far.tickets k) before)

    pub ask_fits : ClientsFit links apart (here_at n key.client) (note ∷ notes) (asked_at x n key ask) key.client ended
    ask_fits = record {
      distinct = put_distinct Client p (here_at n key.client) client (passing Client (holds (here_at n key.client)) e.slots) (passing_distinct Client (holds (here_at n key.client)) e.slots h.distinct) gone;
      known = each_put Client (λ y v. (IsKnown links apart y ⊎ IsStranger links apart y) × (v.number < e.asked + 1)) p (here_at n key.client) client (passing Client (holds (here_at n key.client)) e.slots)
          (inl (record { node = key.server; link = l; at = at; peer = refl }), omega arith)
          (each_passing Client (λ y v. (IsKnown links apart y ⊎ IsStranger links apart y) × (v.number < e.asked + 1)) (holds (here_at n key.client)) e.slots
          (each_so Client (λ y v. (IsKnown links apart y ⊎ IsStranger links apart y) × (v.number < e.asked)) (λ y v. (IsKnown links apart y ⊎ IsStranger links apart y) × (v.number < e.asked + 1))
          (λ y v k. (k.0, let lt = k.1 in omega arith)) e.slots h.known));
      found = λ s l' id at'. found s l' id at' (decide_key key (key_of key.client s id));
      strangers = strangers;
    }

    pub others_noted : (j : ℕ) (a : Node) → (j ≡ key.client → ⊥) → NodeFits links apart x (here_at n j) (there_at n j) notes n j a
        → NodeFits links apart x (here_at n j) (there_at n j) (note ∷ notes) (asked_at x n key ask) j a
    others_noted j a ne f = record {
      settings = f.settings;
      link = f.link;
      asks = f.asks;
      serves = f.serves;
      clients = record {
        distinct = f.clients.distinct;
        known = f.clients.known;
        found = λ s l' id at'.
            let k : Key = key_of j s id in
            let away : key ≡ k → ⊥ = λ is. ne (sym (ap (λ (y : Key). y.client) is)) in
            let q : PeerKey = slot_key l' id in
            let before : TicketFits (is_lost n k) (here_at n j) (note ∷ notes) j (n.numbers k) (value_at same_key q a.clients.slots) (n.tickets k) =
            fits_noted (is_lost n k) (here_at n j) notes note j (n.numbers k) (value_at same_key q a.clients.slots) (n.tickets k)
            (λ z is. ap (λ b. b && nat_eq e.asked z.number) (differ key.client j (λ same. ne (sym same)))) (f.clients.found s l' id at') in
            subst (λ (z : ℕ). TicketFits (nat_lt z (n.restarted j)) (here_at n j) (note ∷ notes) j (m.numbers k) (value_at same_key q a.clients.slots) (m.tickets k))
            (sym (set_other n.made key n.now k away))
            (subst (λ (y : ℕ). TicketFits (is_lost n k) (here_at n j) (note ∷ notes) j y (value_at same_key q a.clients.slots) (m.tickets k))
            (sym (set_other n.numbers key n.asks k away))
            (subst (λ (o : Option ClientTransaction). TicketFits (is_lost n k) (here_at n j) (note ∷ notes) j (n.numbers k) (value_at same_key q a.clients.slots) o)
            (sym (set_other n.tickets key (Some made) k away)) before));
        strangers = λ q g. fits_noted false (here_at n j) notes note j (n.far.numbers (out_key j q)) (value_at same_key q a.clients.slots) (n.far.tickets (out_key j q))
            (λ z is. ap (λ b. b && nat_eq e.asked z.number) (differ key.client j (λ same. ne (sym same)))) (f.clients.strangers q g);
      };
      servers = record { distinct = f.servers.distinct; known = f.servers.known; found = f.servers.found; strangers = f.servers.strangers };
    }

  -- What it makes of the world.
  module _ (w w' : World) (n : Net) (h : Over links apart W x set w n) (i s : ℕ) (limits : Limits) (r : Request) (step : IsAsked w i s limits r w')
      (server_at : links s ≡ Some step.link)
      (parts : IsAccepted (x.settings i) (here_at n i) (peer_at step.link) (choice_of r) step.asks.octets step.before.clients step.accepted) where
    abbrev a : Node
    a = step.before

    abbrev key : Key
    key = key_of i s parts.id

    abbrev ask : Ask
    ask = record { first = here_at n i; choice = choice_of r; whole = parts.whole; pieces = parts.front ∷ parts.rest }

    abbrev context : Context
    context = client_context x key (here_at n i)

    abbrev after : Net
    after = asked_at x n key ask

    fits : Fits links apart W x set w n n i step.before
    fits = h.nodes i step.before step.at

    free : net.is_id_held n key ≡ false
    free = key_free n key a.clients fits.asks parts.awake
        (free_ticket (is_lost n key) (here_at n i) w.notes i (n.numbers key) (value_at same_key (slot_key step.link parts.id) a.clients.slots) (n.tickets key)
        (fits.clients.found s step.link parts.id server_at) parts.free)

    sound : Sound W x set after
    sound = asked W x set bound n h.sound key free (choice_of r) parts.whole parts.front parts.rest

    abbrev note' : Note
    note' = record { key = key; ticket = a.clients.asked; away = None }

    abbrev ended' : ClientEnd
    ended' = ended n w.notes h.asks key step.link server_at ask a.clients fits.clients parts.free

    notes_is : w'.notes ≡ note' ∷ w.notes
    notes_is = step.notes ∙ ap (λ (y : Accepted). record { key = key_of i s y.invoke_id; ticket = y.ticket; away = None } ∷ w.notes) parts.is

    node_is : step.after ≡ record a { latest = told w i; clients = ended' }
    node_is = step.asks.node ∙ ap (λ (y : Accepted). record a { latest = told w i; clients = y.end }) parts.is

    made_fits : NodeFits links apart x (here_at n i) (there_at n i) (note' ∷ w.notes) after i (record a { latest = told w i; clients = ended' })
    made_fits = record {
      settings = fits.settings;
      link = fits.link;
      asks = fits.asks;
      serves = fits.serves;
      clients = ask_fits n w.notes h.asks key step.link server_at ask a.clients fits.clients parts.free;
      servers = record { distinct = fits.servers.distinct; known = fits.servers.known; found = fits.servers.found; strangers = fits.servers.strangers };
    }

    nodes : (j : ℕ) (b : Node) → slice_get w'.nodes j ≡ Some b → ((j ≡ i) ⊎ (j ≡ i → ⊥)) → NodeFits links apart x (here_at n j) (there_at n j) (note' ∷ w.notes) after j b
    nodes j b at (inl is) =
        let there : slice_get w'.nodes i ≡ Some b = subst (λ (k : ℕ). slice_get w'.nodes k ≡ Some b) is at in
        let same : step.after ≡ b = let e : Some step.after ≡ Some b = sym step.nodes.here ∙ there in cc in
        subst (λ (k : ℕ). NodeFits links apart x (here_at n k) (there_at n k) (note' ∷ w.notes) after k b) (sym is)
        (subst (λ (d : Node). NodeFits links apart x (here_at n i) (there_at n i) (note' ∷ w.notes) after i d) (sym node_is ∙ same) made_fits)
    nodes j b at (inr ne) = others_noted n w.notes h.asks key step.link server_at ask a.clients fits.clients parts.free j b ne
        (h.nodes j b (sym (step.nodes.others j ne) ∙ at))

    noted : (k : Key) (t : ClientTransaction) → set_at n.tickets key (Some (asked_ticket context ask)) k ≡ Some t → ((key ≡ k) ⊎ (key ≡ k → ⊥))
        → newest k (note' ∷ w.notes) ≡ Some (after.numbers k)
    noted k t at (inl is) = subst (λ (y : Key). newest y (note' ∷ w.notes) ≡ Some (after.numbers y)) is
        (set_same (λ y. newest y w.notes) key (Some (length w.notes)) ∙ ap Some (sym h.asks ∙ sym (set_same n.numbers key n.asks)))
    noted k t at (inr ne) = set_other (λ y. newest y w.notes) key (Some (length w.notes)) k ne
        ∙ h.noted k t (sym (set_other n.tickets key (Some (asked_ticket context ask)) k ne) ∙ at)
        ∙ ap Some (sym (set_other n.numbers key n.asks k ne))

    abbrev sends : List Apdu
    sends = sends_of (asks context ask)

    copies : Pairwise (IsCopyOf links apart) (map (post_of key n.now) (sends_of (asks context ask))) step.sent
    copies = copies_of links apart w.nodes h.linked n.now true key i s a.link step.link
        (record { between = (refl, refl); from = fits.link; to = server_at })
        sends step.sends step.sent (client_sends_own.asks context ask)
        (subst (λ (y : Accepted). Pairwise IsSent y.sends step.sends) parts.is step.asks.sent)
        (subst (λ (t : ℕ). Pairwise (IsCopied w.nodes t i) step.sends step.sent) (sym h.now) step.copied)

    asks_is : n.asks + 1 ≡ length w'.notes
    asks_is = ap (λ (k : ℕ). k + 1) h.asks ∙ (let e : length w.notes + 1 ≡ length (note' ∷ w.notes) = omega arith in e)
        ∙ sym (ap (λ (l : List Note). length l) notes_is)

    asker_lives : (j : ℕ) (b : Bool) → nat_eq j i ≡ b
        → LifeFits after j (if b then record { active = true; sends_until = w.time.now + most w.time.pace DEADLINE + 1 } else w.lives j)
    asker_lives j true e = record {
      active = λ off. absurd cc;
      none = λ off. absurd cc;
      sends = ap (λ (b : Bool). if b then n.now + most n.pace DEADLINE + 1 else n.sends_until j) e
          ∙ ap (λ (t : ℕ). t + most n.pace DEADLINE + 1) h.now ∙ ap (λ (p : Pace). w.time.now + most p DEADLINE + 1) h.pace;
    }
    asker_lives j false e = record {
      active = λ off. ap (λ (b : Bool). (b || n.asked j) || n.served j) e ∙ (h.lives j).active off;
      none = λ off. let old : HasNothing n j = (h.lives j).none off in record {
        tickets = λ k is. set_elsewhere (λ (y : Key). y.client) n.tickets key (Some (asked_ticket context ask)) k (ap (λ (c : ℕ). nat_eq c i) is ∙ e)
            ∙ old.tickets k is;
        far_tickets = old.far_tickets;
        entries = old.entries;
        far_entries = old.far_entries;
      };
      sends = ap (λ (b : Bool). if b then n.now + most n.pace DEADLINE + 1 else n.sends_until j) e ∙ (h.lives j).sends;
    }

    over : Over links apart W x set w' after
    over = record {
      now = h.now ∙ sym (ap (λ (t : Time). t.now) step.time);
      pace = h.pace ∙ sym (ap (λ (t : Time). t.pace) step.time);
      here = λ j. h.here j ∙ sym (ap (λ (t : Time). t.clocks j) step.time);
      there = λ j. h.there j ∙ sym (ap (λ (t : Time). t.clocks j) step.time);
      lives = λ j. subst (λ (lives : ℕ → Life). LifeFits after j (lives j)) (sym step.lives) (asker_lives j (nat_eq j i) refl);
      idle = idle_with w.nodes w'.nodes w.lives w'.lives i step.after (record { active = true; sends_until = w.time.now + most w.time.pace DEADLINE + 1 })
          step.nodes step.lives refl h.idle;
      asks = asks_is;
      linked = linked_with links w.nodes w'.nodes i a step.after step.nodes step.at (ap (λ (d : Node). d.link) node_is) h.linked;
      nodes = λ j b at. subst (λ (l : List Note). NodeFits links apart x (here_at n j) (there_at n j) l after j b) (sym notes_is) (nodes j b at (decide_number j i));
      noted = λ k t at. ap (newest k) notes_is ∙ noted k t at (decide_key key k);
      away = subst (λ (l : List Note). AwayNoted l after) (sym notes_is) (λ k t is.
          away_more (n.far.numbers k) note' w.notes (subst (λ (y : ℕ). n.far.numbers k < y) h.asks (away_below W x set bound n h.sound k t is)) ∙ h.away k t is);
      posts = subst (λ (l : List Copy). Pairwise (IsCopyOf links apart) after.posts l) (sym step.copies)
          (pairwise_join (IsCopyOf links apart) n.posts (map (post_of key n.now) sends) w.copies step.sent h.posts copies);
      log = subst (λ (lg : List Fact). Pairwise (FactMeans set) after.log lg) (sym step.log)
          ((sym h.asks, refl, refl, subst (λ (o : Octets). SpellsRequest (choice_of r) r o) (sym parts.joined) step.asks.spelled), h.log);
      sound = sound;
    }

    once : (opening : Stores) → IsOnceSo (ever_in set) opening w.log (stores_of w.nodes) → IsOnceSo (ever_in set) opening w'.log (stores_of w'.nodes)
    once opening before = subst (λ (lg : List Fact). IsOnceSo (ever_in set) opening lg (stores_of w'.nodes)) (sym step.log) (
      stores_of w.nodes,
      (
        sym h.asks ∙ counted W x set bound n h.sound ∙ sym (asks_counted set n.log w.log h.log),
        stores_same w.nodes w'.nodes i a step.after step.nodes step.at (ap (λ (d : Node). d.store) node_is),
      ),
      before,
    )

    pub asks_with : Goes links apart W x set w w' (asked_at x n (key_of i s parts.id)
        (record { first = here_at n i; choice = choice_of r; whole = parts.whole; pieces = parts.front ∷ parts.rest }))
    asks_with = record { bridge = over; once = once }

  pub asks_over : (w w' : World) (n : Net) → Over links apart W x set w n → (client server : ℕ) (limits : Limits) (r : Request)
      → IsAsked w client server limits r w'
      → (m : Net) × Goes links apart W x set w w' m × (AllTakeLong x → TakesLong limits → IsShortNet n → IsShortNet m)
  asks_over w w' n h i s limits r step =
      let fits : Fits links apart W x set w n n i step.before = h.nodes i step.before step.at in
      let asked_of : Settings → ℕ → AskOutcome =
      λ c now. requester_ask c now (peer_at step.link) limits (choice_of r) step.asks.octets step.before.clients in
      let parts = accepted_few (x.settings i) (here_at n i) (peer_at step.link) (choice_of r) step.asks.octets step.before.clients step.accepted limits
      (subst (λ (y : Settings). asked_of y (here_at n i) ≡ Asked step.accepted) fits.settings
      (subst (λ (y : ℕ). asked_of step.before.settings y ≡ Asked step.accepted) (sym (ap (λ (y : Clock). y.shows) (h.here i))) step.asks.accepted)) in
      let ask : Ask = record { first = here_at n i; choice = choice_of r; whole = parts.0.whole; pieces = parts.0.front ∷ parts.0.rest } in (
        asked_at x n (key_of i s parts.0.id) ask,
        asks_with w w' n h i s limits r step (sym (h.linked s) ∙ step.peer) parts.0,
        λ long told short. asked_short x long n short (key_of i s parts.0.id) ask (parts.1 (long i) told),
      )
