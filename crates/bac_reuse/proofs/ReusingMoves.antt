-- After any moves of a net in which invoke IDs are used again it is in order; and where no node lets them be, the moves are those of bac_protocol.
use Rattle.std.proofs.Common.{◌≡◌, ℕ, ◌-◌, ◌⊎◌, Bool, true, false, List, [], ◌∷◌, Option, Some, None, slice_get, if◌then◌else◌, nat_le, refl, ap, sym, subst}
use Rattle.std.proofs.Common.{inl, inr, ◌∙◌, arith}
use Rattle.std.proofs.lemmas.Bool.Decides.{nat_tests}
use Rattle.bac_apdu.specs.Apdu.{Apdu}
use Rattle.bac_protocol.specs.declared.times.TheConstants.{KEEP}
use Rattle.bac_protocol.specs.Pace.{IsTimely, Pace}
use Rattle.bac_protocol.specs.Service.{Octets, Request}
use Rattle.bac_protocol.specs.Wire.{is_from_client}
use Rattle.bac_protocol.specs.Client.{ClientTransaction, request_of}
use Rattle.bac_protocol.specs.Server.{ServerTransaction, Service, is_none_live}
use Rattle.bac_protocol.specs.Log.{Fact, IsOrderly, IsUnperformed, WasAskedAway}
use Rattle.bac_protocol.specs.Log.Fact.{Asked, AskedAway, Changed, Ended, EndedAway, Performed, Restarted, Served}
use Rattle.bac_protocol.specs.Claims.{AreServedApart, AreSpaced, IsBounded}
use Rattle.bac_protocol.specs.Reuse.{server_hears}
use Rattle.bac_protocol.specs.Transaction.{Copy, Key, Rules, server_context}
use Rattle.bac_protocol.specs.World.{Net, Post, is_deliverable, is_id_held, is_room, later, net_start, server_acts, server_acts_away, server_now}
use Rattle.bac_protocol.specs.Moves.{IsReached, Move, arrived, moved, strayed_to_client, strayed_to_server, taken_by_client, taken_by_server}
use Rattle.bac_protocol.specs.Moves.IsReached.{Still as stays, Moved as goes}
use Rattle.bac_protocol.specs.Moves.Move.{Asks, Arrives, TicksTicket, TicksEntry, Passes, Changes, RestartsClient, RestartsServer, Begins, BeginsAgain}
use Rattle.bac_protocol.specs.Moves.Move.{Strays, AsksAway, TicksTicketAway, TicksEntryAway}
use Rattle.bac_protocol.proofs.Keys.{copy_at}
use Rattle.bac_protocol.proofs.Nets.{net_log, sound_at}
use Rattle.bac_protocol.proofs.Standing.{Stands, spent_stands}
use Rattle.bac_protocol.proofs.StrangerTables.{was_away}
use Rattle.bac_reuse.specs.Moves.{AreServedApartSo, AreSpacedSo, IsInOrderSo, IsOrderlySo, IsReachedSo, MayBePerformed, arrived_so, moved_so}
use Rattle.bac_reuse.specs.Moves.{strayed_to_server_so, taken_by_server_so}
use Rattle.bac_reuse.specs.Moves.{IsReachedSoIn}
use Rattle.bac_reuse.specs.Moves.IsReachedSo.{Still, Moved}
use Rattle.bac_reuse.specs.Moves.IsReachedSoIn.{Still as begins, Moved as goes_on, Turned as turns}
use Rattle.bac_reuse.specs.Runs.{AreOf, AreSameBut, NoneReuses, Reusing, with_reuses}
use Rattle.bac_reuse.proofs.Beside.{IsLike, Own, gone_both, like_at, like_key, over}
use Rattle.bac_reuse.proofs.FarApart.{AwayLeft, apart_left, move_left, start_left}
use Rattle.bac_reuse.proofs.Followed.{follows_on, starts_followed, turned_on}
use Rattle.bac_reuse.proofs.KeptEntries.{AreKept, ArePosted, move_keeps}
use Rattle.bac_reuse.proofs.Machine.{IsGone}
use Rattle.bac_reuse.proofs.Simulated.{IsFollowed, Like}

none_live : (now : ℕ) (o : Option ServerTransaction) → IsGone now o → is_none_live now o ≡ true
none_live now None gone = refl
none_live now (Some e) gone =
    let dead : nat_le (now - e.begin) KEEP ≡ false = grind (arith, nat_tests) in
    ap (λ b. if b then false else true) dead

none_there : (k : ℕ) (c : Copy) → slice_get [] k ≡ Some c → ⊥
none_there k c is = cc

module _ (W : ℕ) (ever : Reusing) (reuses : ℕ → Bool) where
  -- What its follower knows of it.
  module _ (n : Net) (g : Own) (s : Stands W n) (l : Like ever reuses n g) where
    posted : ArePosted (over n g)
    posted number p at none = none_there (later q.key number n.posts) q.copy
        (subst (λ (cs : List Copy). slice_get cs (later q.key number n.posts) ≡ Some q.copy) (sound_at W n q.key None there s.net).no_copies
        (copy_at number n.posts q found.1))
      where
        found : (q : Post) × (slice_get n.posts number ≡ Some q) × IsLike n g.log p q
        found = like_at (IsLike n g.log) g.posts n.posts number p l.posts at

        q : Post
        q = found.0

        there : n.tickets q.key ≡ None
        there = subst (λ (k : Key). n.tickets k ≡ None) (sym (like_key n g.log p q found.2)) none

    gone : (key : Key) → is_id_held n key ≡ false → IsGone (server_now n key) (g.entries key)
    gone key free = (gone_both (with_reuses ever reuses) key (server_now n key) (n.tickets key) (g.entries key) (n.entries key) (theirs (n.entries key) refl) (l.entries key)).0
      where
        theirs : (o : Option ServerTransaction) → n.entries key ≡ o → IsGone (server_now n key) o
        theirs None is = tt
        theirs (Some e) is = (spent_stands W n s key free).dead e is

    away : (key : Key) (t : ClientTransaction) → n.far.tickets key ≡ Some t → WasAskedAway (n.far.numbers key) g.log
    away key t at =
        let was = was_away n.server_clocks n.serves_from n.far n.log s.away key t at in
        (was.0, was.1, was.2, l.logs.asked_away (n.far.numbers key) was.0 was.1 was.2 was.3)

    ordered : AreKept (over n g) → AwayLeft ever (over n g) → IsInOrderSo ever (over n g)
    ordered kept apart = record {
      orderly = l.orderly;
      counted = (net_log W n s.net).counted ∙ sym l.logs.counted;
      asked = λ key t at. l.logs.asked (n.numbers key) key.client key.server (request_of t.ask) ((sound_at W n key (Some t) at s.net).2).asked;
      made = λ key t at. ((sound_at W n key (Some t) at s.net).2).clock.on;
      posted = posted;
      entered = kept.entered;
      own = kept.own;
      dead = λ key free. none_live (server_now n key) (g.entries key) (gone key free);
      ticking = λ key. record { some = (s.calm key).timely.some; client = (s.calm key).client; server = (s.calm key).server };
      away = away;
      apart = s.away.apart;
      served_apart = apart_left ever (over n g) apart;
    }

-- a net to which moves lead
pub record IsKnown (W : ℕ) (ever : Reusing) (reuses : ℕ → Bool) (n : Net) : Type 0 where
  pub among : AreOf reuses ever
  pub followed : IsFollowed W ever reuses n
  pub kept : AreKept n
  pub left : AwayLeft ever n

pub known_starts : (W : ℕ) (ever : Reusing) (reuses : ℕ → Bool) → AreOf reuses ever → (pace : Pace) → IsTimely pace → (clocks : ℕ → ℕ)
    → IsKnown W ever reuses (net_start pace clocks)
known_starts W ever reuses among pace timely clocks = record {
  among = among;
  followed = starts_followed W ever reuses pace timely clocks;
  kept = record { own = λ key. tt; entered = λ key none. refl };
  left = start_left ever pace clocks;
}

module _ (W : ℕ) (x : Rules) (bound : IsBounded W x) (ever : Reusing) (reuses : ℕ → Bool) (n : Net) (k : IsKnown W ever reuses n) where
  abbrev u : Reusing
  u = with_reuses ever reuses

  all_posted : ArePosted n
  all_posted = let f = k.followed in subst (λ (m : Net). ArePosted m) (sym f.4) (posted W ever reuses f.0 f.1 f.2 f.3)

  left_on : (m : Move) → AwayLeft ever (moved_so x u n m)
  left_on m =
      let f = k.followed in
      subst (λ (y : Net). AwayLeft ever (moved_so x u y m)) (sym f.4)
      (move_left x ever reuses k.among f.0 f.1 (f.2).calm (f.3).unserved (subst (λ (y : Net). AwayLeft ever y) f.4 k.left) m)

  pub known_moves : (m : Move) → IsKnown W ever reuses (moved_so x u n m)
  known_moves m = record {
    among = k.among;
    followed = follows_on W x bound ever reuses k.among n k.followed m;
    kept = move_keeps x u n k.kept all_posted m;
    left = left_on m;
  }

  -- that server lets them be used again from its restart on, or no more
  pub known_turns : (next : ℕ → Bool) → AreOf next ever → (node exact : ℕ) (store : Option Octets) → AreSameBut node reuses next
      → IsKnown W ever next (moved_so x u n (RestartsServer node exact store))
  known_turns next among node exact store others = record {
    among = among;
    followed = turned_on W x bound ever reuses k.among n k.followed node exact store next others;
    kept = move_keeps x u n k.kept all_posted (RestartsServer node exact store);
    left = left_on (RestartsServer node exact store);
  }

pub known_order : (W : ℕ) (ever : Reusing) (reuses : ℕ → Bool) (n : Net) → IsKnown W ever reuses n → IsInOrderSo ever n
known_order W ever reuses n k =
    let f = k.followed in
    subst (λ (m : Net). IsInOrderSo ever m) (sym f.4) (ordered W ever reuses f.0 f.1 f.2 f.3 (subst (λ (m : Net). AreKept m) f.4 k.kept)
    (subst (λ (m : Net). AwayLeft ever m) f.4 k.left))

pub reached_known : (W : ℕ) (x : Rules) (u : Reusing) → IsBounded W x → (pace : Pace) → IsTimely pace → (clocks : ℕ → ℕ) (n : Net)
    → IsReachedSo x u (net_start pace clocks) n → IsKnown W u u.reuses n
reached_known W x u bound pace timely clocks _ Still = known_starts W u u.reuses (λ node is. is) pace timely clocks
reached_known W x u bound pace timely clocks _ (Moved n m h) = known_moves W x bound u u.reuses n (reached_known W x u bound pace timely clocks n h) m

pub in_order_so : (W : ℕ) (x : Rules) (u : Reusing) → IsBounded W x → (pace : Pace) → IsTimely pace → (clocks : ℕ → ℕ) (n : Net)
    → IsReachedSo x u (net_start pace clocks) n → IsInOrderSo u n
in_order_so W x u bound pace timely clocks n h = known_order W u u.reuses n (reached_known W x u bound pace timely clocks n h)

-- in stretches
pub reached_known_in : (W : ℕ) (ever : Reusing) (pace : Pace) → IsTimely pace → (clocks : ℕ → ℕ) (reuses : ℕ → Bool) (n : Net)
    → IsReachedSoIn (IsBounded W) ever (net_start pace clocks) reuses n → IsKnown W ever reuses n
reached_known_in W ever pace timely clocks _ _ (begins reuses among) = known_starts W ever reuses among pace timely clocks
reached_known_in W ever pace timely clocks _ _ (goes_on x bound reuses n m h) =
    known_moves W x bound ever reuses n (reached_known_in W ever pace timely clocks reuses n h) m
reached_known_in W ever pace timely clocks _ _ (turns x bound reuses next among n node exact store others h) =
    known_turns W x bound ever reuses n (reached_known_in W ever pace timely clocks reuses n h) next among node exact store others

pub in_order_so_in : (W : ℕ) (ever : Reusing) (pace : Pace) → IsTimely pace → (clocks : ℕ → ℕ) (reuses : ℕ → Bool) (n : Net)
    → IsReachedSoIn (IsBounded W) ever (net_start pace clocks) reuses n → IsInOrderSo ever n
in_order_so_in W ever pace timely clocks reuses n h = known_order W ever reuses n (reached_known_in W ever pace timely clocks reuses n h)

-- Moves without reuse.
module _ (x : Rules) (u : Reusing) (none : NoneReuses u) where
  server_same : (n : Net) (p : Post) (free : Bool) (service : Service) → taken_by_server_so x u n p free service ≡ taken_by_server x n p free service
  server_same n p free service = ap (λ b. server_acts n p.key (server_hears b (server_context x p.key (server_now n p.key)) service u.reads (n.entries p.key)
      (is_room n p.key free) p.copy.apdu)) (none p.key.server)

  arrives_same : (n : Net) (number : ℕ) (free : Bool) (service : Service) (o : Option Post)
      → arrived_so x u n number free service o ≡ arrived x n number free service o
  arrives_same n number free service None = refl
  arrives_same n number free service (Some p) = go (is_deliverable x n number p) (is_from_client p.copy.apdu)
    where
      go : (b up : Bool) → (if b then (if up then taken_by_server_so x u n p free service else taken_by_client x n p (n.tickets p.key)) else n)
          ≡ (if b then (if up then taken_by_server x n p free service else taken_by_client x n p (n.tickets p.key)) else n)
      go true true = server_same n p free service
      go true false = refl
      go false up = refl

  strays_same : (n : Net) (key : Key) (free : Bool) (service : Service) (a : Apdu) (up : Bool)
      → (if up then strayed_to_server_so x u n key free service a else strayed_to_client x n key a (n.far.tickets key))
      ≡ (if up then strayed_to_server x n key free service a else strayed_to_client x n key a (n.far.tickets key))
  strays_same n key free service a true = ap (λ b. server_acts_away n key (server_hears b (server_context x key (server_now n key)) service u.reads
      (n.far.entries key) (is_room n key free) a)) (none key.server)
  strays_same n key free service a false = refl

  pub moves_same : (n : Net) (m : Move) → moved_so x u n m ≡ moved x n m
  moves_same n (Asks key choice whole front rest) = refl
  moves_same n (Arrives number free service) = arrives_same n number free service (slice_get n.posts number)
  moves_same n (TicksTicket key) = refl
  moves_same n (TicksEntry key) = refl
  moves_same n (Passes by clients servers) = refl
  moves_same n (Changes node change) = refl
  moves_same n (RestartsClient node exact) = refl
  moves_same n (RestartsServer node exact store) = refl
  moves_same n (Begins node exact) = refl
  moves_same n (BeginsAgain node exact) = refl
  moves_same n (Strays key free service a) = strays_same n key free service a (is_from_client a)
  moves_same n (AsksAway key choice whole front rest) = refl
  moves_same n (TicksTicketAway key) = refl
  moves_same n (TicksEntryAway key) = refl

  pub reached_same : (from n : Net) → IsReachedSo x u from n → IsReached x from n
  reached_same from _ Still = stays
  reached_same from _ (Moved n m h) = subst (λ (k : Net). IsReached x from k) (sym (moves_same n m)) (goes n m (reached_same from n h))

-- What is said without reuse.
module _ (u : Reusing) (none : NoneReuses u) where
  unperformed : (i : ℕ) (r : Request) (log : List Fact) → MayBePerformed u i r log → IsUnperformed i log
  unperformed i r log h = go h.3
    where
      go : IsUnperformed i log ⊎ ((u.reuses h.1 ≡ true) × (u.reads r.choice ≡ true)) → IsUnperformed i log
      go (inl un) = un
      go (inr read) = absurd (let no : true ≡ false = sym read.0 ∙ none h.1 in cc)

  pub orderly_same : (log : List Fact) → IsOrderlySo u log → IsOrderly log
  orderly_same [] h = tt
  orderly_same (Asked i c s r ∷ log) h = (h.0, orderly_same log h.1)
  orderly_same (Performed i r p ∷ log) h = ((h.0.0, h.0.1, h.0.2), unperformed i r log h.0, orderly_same log h.1)
  orderly_same (Ended i how ∷ log) h = (h.0, h.1, orderly_same log h.2)
  orderly_same (Changed s c ∷ log) h = orderly_same log h
  orderly_same (Restarted s o ∷ log) h = orderly_same log h
  orderly_same (Served q s i b r p ∷ log) h = orderly_same log h
  orderly_same (AskedAway i c q r ∷ log) h = (h.0, orderly_same log h.1)
  orderly_same (EndedAway i how ∷ log) h = (h.0, h.1, orderly_same log h.2)

  spaced_same : (log : List Fact) → AreSpacedSo u log → AreSpaced log
  spaced_same [] h = tt
  spaced_same (Served q s i b r p ∷ log) h = (h.0 (none s), spaced_same log h.1)
  spaced_same (Asked i c s r ∷ log) h = spaced_same log h
  spaced_same (Performed i r p ∷ log) h = spaced_same log h
  spaced_same (Ended i how ∷ log) h = spaced_same log h
  spaced_same (Changed s c ∷ log) h = spaced_same log h
  spaced_same (Restarted s o ∷ log) h = spaced_same log h
  spaced_same (AskedAway i c q r ∷ log) h = spaced_same log h
  spaced_same (EndedAway i how ∷ log) h = spaced_same log h

  pub apart_same : (n : Net) → AreServedApartSo u n → AreServedApart n
  apart_same n h = record { spaced = spaced_same n.log h.spaced; waited = λ q s i b r p has. h.waited q s i b r p (none s) has }
