-- What a world on datagrams and bac_protocol's net have in common.
use Rattle.std.proofs.Common.{◌≡◌, ℕ, zero, suc, ◌<◌, ◌++◌, ◌⊎◌, inl, inr, Bool, true, false, List, [], ◌∷◌, map, length, Option, Some, None, slice_get}
use Rattle.std.proofs.Common.{if◌then◌else◌, refl, sym, ap, subst, ◌∙◌, ◌≤◌, ◌&&◌, not, nat_eq, arith}
use Rattle.std.specs.Prelude.{is_some}
use Rattle.std.proofs.lemmas.Bool.Decides.{nat_tests}
use Rattle.bac_world.specs.World.{is_away}
use Rattle.bac_apdu.specs.Apdu.{Apdu}
use Rattle.bac_apdu.specs.Spelling.{SpellsApdu, is_confirmed_request}
use Rattle.bac_apdu.proofs.Apdus.{apdu_one}
use Rattle.bac_npdu.specs.Peers.{PeerView}
use Rattle.bac_npdu.specs.Datagram.{Means, IsFrameTo}
use Rattle.bac_npdu.proofs.Datagrams.{frame_means, means_one}
use Rattle.bac_protocol.specs.Service.{Octets}
use Rattle.bac_protocol.specs.Short.{IsShort}
use Rattle.bac_protocol.specs.Wire.{is_from_client, Each}
use Rattle.bac_protocol.specs.Own.{invoke_id_of}
use Rattle.bac_protocol.specs.Client.{ClientTransaction, is_idle}
use Rattle.bac_protocol.specs.Server.{ServerTransaction, live_entry}
use Rattle.bac_protocol.specs.Transaction.{Key, Rules}
use Rattle.bac_protocol.specs.Straight.{is_ended}
use Rattle.bac_protocol.specs.World.{Net, Post, Strangers, post_of, is_active, is_key_held, is_lost}
use Rattle.bac_protocol.specs.World as machine
use Rattle.bac_slots.specs.Slots.{value_at, IsDistinct}
use Rattle.bac_transaction.specs.Keys.{PeerKey, same_key}
use Rattle.bac_transaction.specs.Sends.{Datagram, Pairwise, IsSent, to_peer, to_all}
use Rattle.bac_transaction.specs.Ends.{Client, ClientEnd, ServerEnd, kept}
use Rattle.bac_store.specs.AtNode.{Change}
use Rattle.bac_world.specs.Node.{Node, with_change}
use Rattle.bac_world.specs.World.{World, Copy, IsFreshNode, Life, Note, link_at, newest, ask_of, peer_at, transaction_of, IsCopied, count_of, later}
use Rattle.bac_transaction.proofs.KeyedSlots.{EachSlot}
use Rattle.bac_world.proofs.Numbers.{number}
use Rattle.bac_world.specs.World.{AreCopied}
use Rattle.bac_world.proofs.Machines.{Sound}
use Rattle.bac_world.proofs.Logs.{FactMeans}
use Rattle.bac_world.proofs.Settings.{Setting}

-- A frame means the APDU that it was made of.
pub framed_means : (from to : Octets) (a b : Apdu) (q : PeerView) (octets : Octets) → IsFrameTo SpellsApdu is_confirmed_request (peer_at to) a octets
    → IsShort a → Means SpellsApdu from octets q b → (q ≡ peer_at from) × (b ≡ a)
framed_means from to a b q octets f short m =
    means_one SpellsApdu apdu_one from octets q (peer_at from) b a m
    (frame_means SpellsApdu is_confirmed_request from to octets a (λ text s. subst (λ (l : Octets). length l ≤ 1476) (sym s.is) short) f)

-- The relation.

abbrev pub here_at : Net → ℕ → ℕ
here_at n i = (n.client_clocks i).shows

abbrev pub there_at : Net → ℕ → ℕ
there_at n i = (n.server_clocks i).shows

abbrev pub key_of : (client server invoke_id : ℕ) → Key
key_of c s id = record { client = c; server = s; invoke_id = id }

abbrev pub slot_key : Octets → ℕ → PeerKey
slot_key link id = record { peer = peer_at link; invoke_id = id }

pub record SlotFits (notes : List Note) (client number : ℕ) (s : Client) (t : ClientTransaction) : Type 0 where
  pub held : s.held ≡ kept t
  pub noted : is_idle t.phase ≡ false → ask_of client s.number notes ≡ Some number

-- nothing is left of a ticket but its copies: it is over, and holds no invoke ID of a client that asks from then on
pub record IsGone (gone : Bool) (now : ℕ) (o : Option ClientTransaction) : Type 0 where
  pub over : is_ended o ≡ true
  pub free : (not gone && is_key_held now o) ≡ false

-- a slot is its ticket's, and where there is none the ticket is gone
abbrev pub TicketFits : (gone : Bool) (now : ℕ) → List Note → (client number : ℕ) → Option Client → Option ClientTransaction → Type 0
TicketFits gone now notes client number None o = IsGone gone now o
TicketFits gone now notes client number (Some s) None = ⊥
TicketFits gone now notes client number (Some s) (Some t) = SlotFits notes client number s t

-- a node that did nothing has no ticket and no entry
pub record HasNothing (n : Net) (i : ℕ) : Type 0 where
  pub tickets : (key : Key) → key.client ≡ i → n.tickets key ≡ None
  pub far_tickets : (key : Key) → key.client ≡ i → n.far.tickets key ≡ None
  pub entries : (key : Key) → key.server ≡ i → n.entries key ≡ None
  pub far_entries : (key : Key) → key.server ≡ i → n.far.entries key ≡ None

-- a node at which nothing happened did nothing
pub record LifeFits (n : Net) (i : ℕ) (l : Life) : Type 0 where
  pub active : l.active ≡ false → is_active n i ≡ false
  pub sends : n.sends_until i ≡ l.sends_until
  pub none : l.active ≡ false → HasNothing n i

-- a node at which nothing happened is as it was at its beginning
abbrev pub AreIdle : List Node → (ℕ → Life) → Type 0
AreIdle nodes lives = (j : ℕ) (a : Node) → slice_get nodes j ≡ Some a → (lives j).active ≡ false → IsFreshNode a

-- its store is its own matter
pub changed_fresh : (c : Change) (a : Node) → IsFreshNode a → IsFreshNode (with_change c a)
changed_fresh c a f = record {
  latest = f.latest;
  slots = f.slots;
  asked = f.asked;
  asks_from = f.asks_from;
  entries = f.entries;
  serves_from = f.serves_from;
}

-- in another net with the same tables nodes did the same
pub lives_as : (n m : Net) (i : ℕ) (l : Life) → is_active m i ≡ is_active n i → m.sends_until ≡ n.sends_until → m.tickets ≡ n.tickets → m.entries ≡ n.entries
    → m.far ≡ n.far → LifeFits n i l → LifeFits m i l
lives_as n m i l active sends tickets entries far h = record {
  active = λ off. active ∙ h.active off;
  sends = ap (λ (f : ℕ → ℕ). f i) sends ∙ h.sends;
  none = λ off. let old : HasNothing n i = h.none off in record {
    tickets = λ k is. ap (λ (f : Key → Option ClientTransaction). f k) tickets ∙ old.tickets k is;
    far_tickets = λ k is. ap (λ (f : Strangers). f.tickets k) far ∙ old.far_tickets k is;
    entries = λ k is. ap (λ (f : Key → Option ServerTransaction). f k) entries ∙ old.entries k is;
    far_entries = λ k is. ap (λ (f : Strangers). f.entries k) far ∙ old.far_entries k is;
  };
}

-- entries are alike while they are live
abbrev pub EntryFits : (now : ℕ) → (a b : Option ServerTransaction) → Type 0
EntryFits now a b = live_entry now a ≡ live_entry now b

-- the key of a stranger's transaction at that node
abbrev pub stranger_key : (node : ℕ) → PeerKey → Key
stranger_key i p = key_of (number p.peer) i p.invoke_id

-- and of a node's ask of one
abbrev pub out_key : (node : ℕ) → PeerKey → Key
out_key i p = key_of i (number p.peer) p.invoke_id

-- the asks of strangers are noted as such
abbrev pub AwayNoted : List Note → Net → Type 0
AwayNoted notes n = (key : Key) (t : ClientTransaction) → n.far.tickets key ≡ Some t → is_away (n.far.numbers key) notes ≡ true

-- an ask with a number below is what it was
pub away_more : (number : ℕ) (note : Note) (notes : List Note) → number < length notes → is_away number (note ∷ notes) ≡ is_away number notes
away_more number note notes lt = go (nat_eq number (length notes)) refl
  where
    go : (b : Bool) → nat_eq number (length notes) ≡ b → (if b then is_some note.away else is_away number notes) ≡ is_away number notes
    go true e = absurd (let is : number ≡ length notes = grind (arith, nat_tests) in omega arith)
    go false e = refl

newest_below : (key : Key) (notes : List Note) (number : ℕ) → newest key notes ≡ Some number → number < length notes
newest_below key [] number e = absurd cc
newest_below key (n ∷ notes) number e = go (not (is_some n.away) && machine.same_key n.key key) (newest_below key notes number) e
  where
    go : (b : Bool) → (newest key notes ≡ Some number → number < length notes) → (if b then Some (length notes) else newest key notes) ≡ Some number
        → number < length (n ∷ notes)
    go true again e = let is : length notes ≡ number = cc in omega arith
    go false again e = let lt = again e in omega arith

-- the newest ask of a transaction of nodes is none of a stranger
pub newest_near : (key : Key) (notes : List Note) (number : ℕ) → newest key notes ≡ Some number → is_away number notes ≡ false
newest_near key [] number e = absurd cc
newest_near key (n ∷ notes) number e = go (newest_near key notes number) (is_some n.away) refl (machine.same_key n.key key) e
  where
    at_first : (b : Bool) → b ≡ false → is_some n.away ≡ b → number ≡ length notes → (if nat_eq number (length notes) then is_some n.away else is_away number notes) ≡ false
    at_first b is same here =
        let t : nat_eq number (length notes) ≡ true = grind (arith, nat_tests) in
        ap (λ c. if c then is_some n.away else is_away number notes) t ∙ same ∙ is

    go : (newest key notes ≡ Some number → is_away number notes ≡ false) → (a : Bool) → is_some n.away ≡ a → (b : Bool) → (if not a && b then Some (length notes) else newest key notes) ≡ Some number
        → is_away number (n ∷ notes) ≡ false
    go again false is true e = at_first false refl is (let same : length notes ≡ number = cc in sym same)
    go again false is false e = away_more number n notes (newest_below key notes number e) ∙ again e
    go again true is b e = away_more number n notes (newest_below key notes number e) ∙ again e

abbrev pub IsBetween : (up : Bool) → Key → (from to : ℕ) → Type 0
IsBetween true key from to = (from ≡ key.client) × (to ≡ key.server)
IsBetween false key from to = (from ≡ key.server) × (to ≡ key.client)

module _ (links : ℕ → Option Octets) (apart : (i j : ℕ) (l : Octets) → links i ≡ Some l → links j ≡ Some l → i ≡ j) where
  -- the key of a node and an invoke ID
  pub record IsKnown (p : PeerKey) : Type 0 where
    pub node : ℕ
    pub link : Octets
    pub at : links node ≡ Some link
    pub peer : p.peer ≡ peer_at link

  -- or of a stranger
  pub record IsStranger (p : PeerKey) : Type 0 where
    pub none : (k : ℕ) → links k ≡ Some p.peer.link → ⊥

  pub record ClientsFit (now : ℕ) (notes : List Note) (n : Net) (i : ℕ) (e : ClientEnd) : Type 0 where
    pub distinct : IsDistinct same_key e.slots
    pub known : EachSlot Client (λ p s. (IsKnown p ⊎ IsStranger p) × (s.number < e.asked)) e.slots
    pub found : (s : ℕ) (l : Octets) (id : ℕ) → links s ≡ Some l
        → TicketFits (is_lost n (key_of i s id)) now notes i (n.numbers (key_of i s id)) (value_at same_key (slot_key l id) e.slots) (n.tickets (key_of i s id))
    pub strangers : (p : PeerKey) → IsStranger p → TicketFits false now notes i (n.far.numbers (out_key i p)) (value_at same_key p e.slots) (n.far.tickets (out_key i p))

  pub record ServersFit (now : ℕ) (n : Net) (i : ℕ) (e : ServerEnd) : Type 0 where
    pub distinct : IsDistinct same_key e.slots
    pub known : EachSlot ServerTransaction (λ p d. IsKnown p ⊎ IsStranger p) e.slots
    pub found : (c : ℕ) (l : Octets) (id : ℕ) → links c ≡ Some l
        → EntryFits now (value_at same_key (slot_key l id) e.slots) (n.entries (key_of c i id))
    pub strangers : (p : PeerKey) → IsStranger p → EntryFits now (value_at same_key p e.slots) (n.far.entries (stranger_key i p))

  pub record NodeFits (x : Rules) (here there : ℕ) (notes : List Note) (n : Net) (i : ℕ) (a : Node) : Type 0 where
    pub settings : a.settings ≡ x.settings i
    pub link : links i ≡ Some a.link
    pub asks : a.clients.asks_from ≡ n.asks_from i
    pub serves : a.servers.serves_from ≡ n.serves_from i
    pub clients : ClientsFit here notes n i a.clients
    pub servers : ServersFit there n i a.servers

  -- a copy is the one frame of its post's APDU
  pub record IsCopyOf (p : Post) (c : Copy) : Type 0 where
    pub key : c.key ≡ p.key
    pub moment : c.moment ≡ p.copy.moment
    pub invoke : invoke_id_of p.copy.apdu ≡ p.key.invoke_id
    pub between : IsBetween (is_from_client p.copy.apdu) p.key c.from c.to
    pub from_link : Octets
    pub to_link : Octets
    pub from_at : links c.from ≡ Some from_link
    pub to_at : links c.to ≡ Some to_link
    pub frame : IsFrameTo SpellsApdu is_confirmed_request (peer_at to_link) p.copy.apdu c.octets
    pub short : IsShort p.copy.apdu

  pub record Bridge (W : ℕ) (x : Rules) (set : Setting) (w : World) (n : Net) : Type 0 where
    pub lives : (i : ℕ) → LifeFits n i (w.lives i)
    pub idle : AreIdle w.nodes w.lives
    pub now : n.now ≡ w.time.now
    pub pace : n.pace ≡ w.time.pace
    pub here : (i : ℕ) → n.client_clocks i ≡ w.time.clocks i
    pub there : (i : ℕ) → n.server_clocks i ≡ w.time.clocks i
    pub asks : n.asks ≡ length w.notes
    pub linked : (i : ℕ) → link_at w.nodes i ≡ links i
    pub nodes : (i : ℕ) (a : Node) → slice_get w.nodes i ≡ Some a → NodeFits x (here_at n i) (there_at n i) w.notes n i a
    pub noted : (key : Key) (t : ClientTransaction) → n.tickets key ≡ Some t → newest key w.notes ≡ Some (n.numbers key)
    pub away : AwayNoted w.notes n
    pub posts : Pairwise IsCopyOf n.posts w.copies
    pub log : Pairwise (FactMeans set) n.log w.log
    pub sound : Sound W x set n

  -- Later copies are counted alike.

  count_alike : (key : Key) (posts : List Post) (copies : List Copy) → Pairwise IsCopyOf posts copies → count_of key copies ≡ machine.count_of key posts
  count_alike key [] [] h = refl
  count_alike key [] (c ∷ copies) h = absurd h
  count_alike key (p ∷ posts) [] h = absurd h
  count_alike key (p ∷ posts) (c ∷ copies) h =
      ap (λ (k : Key). if machine.same_key k key then suc (count_of key copies) else count_of key copies) h.0.key
      ∙ ap (λ (m : ℕ). if machine.same_key p.key key then suc m else m) (count_alike key posts copies h.1)

  pub later_alike : (key : Key) (number : ℕ) (posts : List Post) (copies : List Copy) → Pairwise IsCopyOf posts copies
      → later key number copies ≡ machine.later key number posts
  later_alike key number [] [] h = refl
  later_alike key number [] (c ∷ copies) h = absurd h
  later_alike key number (p ∷ posts) [] h = absurd h
  later_alike key zero (p ∷ posts) (c ∷ copies) h = count_alike key posts copies h.1
  later_alike key (suc number) (p ∷ posts) (c ∷ copies) h = later_alike key number posts copies h.1

  -- What is sent becomes copies of its posts.

  -- node i sends to node j, at these links
  pub record IsWay (up : Bool) (key : Key) (i j : ℕ) (li lj : Octets) : Type 0 where
    pub between : IsBetween up key i j
    pub from : links i ≡ Some li
    pub to : links j ≡ Some lj

  way_key : (up : Bool) (key : Key) (i j : ℕ) (a : Apdu) → IsBetween up key i j → is_from_client a ≡ up → invoke_id_of a ≡ key.invoke_id
      → transaction_of i j a ≡ key
  way_key true key i j a h up id =
      ap (λ (b : Bool). if b then key_of i j (invoke_id_of a) else key_of j i (invoke_id_of a)) up ∙ (λ k. key_of (h.0 k) (h.1 k) (id k))
  way_key false key i j a h up id =
      ap (λ (b : Bool). if b then key_of i j (invoke_id_of a) else key_of j i (invoke_id_of a)) up ∙ (λ k. key_of (h.1 k) (h.0 k) (id k))

  module _ (nodes : List Node) (linked : (k : ℕ) → link_at nodes k ≡ links k) (now : ℕ) (up : Bool) (key : Key) (i j : ℕ) (li lj : Octets)
      (way : IsWay up key i j li lj) where
    copy_of : (a : Apdu) (d : Datagram) (c : Copy) → is_from_client a ≡ up → invoke_id_of a ≡ key.invoke_id → IsSent (to_peer (peer_at lj) a) d
        → IsCopied nodes now i d c → IsCopyOf (post_of key now a) c
    copy_of a d c dir id s k =
        let to_link : links c.to ≡ Some lj = sym (linked c.to) ∙ k.to ∙ ap Some s.link in
        let to_is : c.to ≡ j = apart c.to j lj to_link way.to in
        let framed : IsFrameTo SpellsApdu is_confirmed_request (peer_at lj) a c.octets =
        subst (λ (l : Octets). IsFrameTo SpellsApdu is_confirmed_request (peer_at lj) a l) (sym k.octets) s.frame in
        let m = k.transaction in
        let one = framed_means m.link lj a m.apdu m.peer c.octets framed s.short m.means in
        let key_is : c.key ≡ key =
        m.key ∙ ap (λ (b : Apdu). transaction_of c.from c.to b) one.1 ∙ ap (λ (f : ℕ). transaction_of f c.to a) k.from
        ∙ ap (λ (t : ℕ). transaction_of i t a) to_is ∙ way_key up key i j a way.between dir id in
        record {
          key = key_is;
          moment = k.moment;
          invoke = id;
          between = subst (λ (u : Bool). IsBetween u key c.from c.to) (sym dir)
              (subst (λ (f : ℕ). IsBetween up key f c.to) (sym k.from) (subst (λ (t : ℕ). IsBetween up key i t) (sym to_is) way.between));
          from_link = li;
          to_link = lj;
          from_at = ap links k.from ∙ way.from;
          to_at = to_link;
          frame = framed;
          short = s.short;
        }

    pub copies_of : (sends : List Apdu) (ds : List Datagram) (cs : List Copy)
        → Each (λ a. (is_from_client a ≡ up) × (invoke_id_of a ≡ key.invoke_id)) sends
        → Pairwise IsSent (to_all (peer_at lj) sends) ds → Pairwise (IsCopied nodes now i) ds cs
        → Pairwise IsCopyOf (map (post_of key now) sends) cs
    copies_of [] [] [] own s k = tt
    copies_of [] [] (c ∷ cs) own s k = absurd k
    copies_of [] (d ∷ ds) cs own s k = absurd s
    copies_of (a ∷ sends) [] cs own s k = absurd s
    copies_of (a ∷ sends) (d ∷ ds) [] own s k = absurd k
    copies_of (a ∷ sends) (d ∷ ds) (c ∷ cs) own s k = (copy_of a d c own.0.0 own.0.1 s.0 k.0, copies_of sends ds cs own.1 s.1 k.1)

  -- Which datagrams become copies.

  module _ (nodes : List Node) (linked : (k : ℕ) → link_at nodes k ≡ links k) (now i : ℕ) where
    -- all that goes to a node
    pub copied_to : (j : ℕ) (peer : PeerView) → links j ≡ Some peer.link → (sends : List Apdu) (ds : List Datagram) (cs : List Copy)
        → Pairwise IsSent (to_all peer sends) ds → AreCopied nodes now i ds cs → Pairwise (IsCopied nodes now i) ds cs
    copied_to j peer at [] [] cs s k = subst (λ (l : List Copy). Pairwise (IsCopied nodes now i) [] l) (sym k) tt
    copied_to j peer at [] (d ∷ ds) cs s k = absurd s
    copied_to j peer at (a ∷ sends) [] cs s k = absurd s
    copied_to j peer at (a ∷ sends) (d ∷ ds) cs s (inl k) =
        subst (λ (l : List Copy). Pairwise (IsCopied nodes now i) (d ∷ ds) l) (sym k.is) (k.copied, copied_to j peer at sends ds k.rest s.1 k.others)
    copied_to j peer at (a ∷ sends) (d ∷ ds) cs s (inr k) = absurd (k.0 j (linked j ∙ at ∙ ap Some (sym s.0.link)))

    -- nothing that goes to a stranger
    pub copied_none : (p : PeerKey) → IsStranger p → (sends : List Apdu) (ds : List Datagram) (cs : List Copy)
        → Pairwise IsSent (to_all p.peer sends) ds → AreCopied nodes now i ds cs → cs ≡ []
    copied_none p g [] [] cs s k = k
    copied_none p g [] (d ∷ ds) cs s k = absurd s
    copied_none p g (a ∷ sends) [] cs s k = absurd s
    copied_none p g (a ∷ sends) (d ∷ ds) cs s (inl k) =
        absurd (g.none k.copy.to (sym (linked k.copy.to) ∙ k.copied.to ∙ ap Some s.0.link))
    copied_none p g (a ∷ sends) (d ∷ ds) cs s (inr k) = copied_none p g sends ds cs s.1 k.1

-- where each becomes a copy
pub each_copied : (nodes : List Node) (now i : ℕ) (ds : List Datagram) (cs : List Copy) → Pairwise (IsCopied nodes now i) ds cs → AreCopied nodes now i ds cs
each_copied nodes now i [] [] k = refl
each_copied nodes now i [] (c ∷ cs) k = absurd k
each_copied nodes now i (d ∷ ds) [] k = absurd k
each_copied nodes now i (d ∷ ds) (c ∷ cs) k = inl (record { copy = c; rest = cs; is = refl; copied = k.0; others = each_copied nodes now i ds cs k.1 })

-- datagrams of two lists become copies one list after the other
pub record AreParted (nodes : List Node) (now i : ℕ) (ds es : List Datagram) (cs : List Copy) : Type 0 where
  pub front : List Copy
  pub rest : List Copy
  pub is : cs ≡ front ++ rest
  pub first : AreCopied nodes now i ds front
  pub second : AreCopied nodes now i es rest

pub copied_split : (nodes : List Node) (now i : ℕ) (ds es : List Datagram) (cs : List Copy) → AreCopied nodes now i (ds ++ es) cs
    → AreParted nodes now i ds es cs
copied_split nodes now i [] es cs k = record { front = []; rest = cs; is = refl; first = refl; second = k }
copied_split nodes now i (d ∷ ds) es cs (inl k) =
    let again = copied_split nodes now i ds es k.rest k.others in
    record {
      front = k.copy ∷ again.front;
      rest = again.rest;
      is = k.is ∙ ap (λ (l : List Copy). k.copy ∷ l) again.is;
      first = inl (record { copy = k.copy; rest = again.front; is = refl; copied = k.copied; others = again.first });
      second = again.second;
    }
copied_split nodes now i (d ∷ ds) es cs (inr k) =
    let again = copied_split nodes now i ds es cs k.1 in
    record { front = again.front; rest = again.rest; is = again.is; first = inr (k.0, again.first); second = again.second }
