-- In a straight run that stops the request is performed, so its reply means something.
use Rattle.std.proofs.Common.{◌≡◌, ◌≤◌, ◌+◌, ◌*◌, ℕ, zero, suc, Bool, true, false, List, ◌∷◌, length, Option, Some, None, if◌then◌else◌, refl, sym, subst, inl}
use Rattle.std.proofs.Common.{inr, arith, slice_get}
use Rattle.bac_apdu.specs.Apdu.{Apdu}
use Rattle.bac_segment.specs.Pieces.{join}
use Rattle.bac_protocol.specs.Service.{Octets, Reply, Ending}
use Rattle.bac_protocol.specs.Service.Outcome.{Replies}
use Rattle.bac_protocol.specs.Wire.{is_from_client}
use Rattle.bac_protocol.specs.Client.{Ask, request_of, ClientTransaction}
use Rattle.bac_protocol.specs.Server.{Effect, is_none_live}
use Rattle.bac_protocol.specs.Log.{Fact, Has, StoreModel}
use Rattle.bac_protocol.specs.Log.Fact.{Asked, Performed}
use Rattle.bac_protocol.specs.Transaction.{Key, Rules, ended, performed}
use Rattle.bac_protocol.specs.World.{World, Post, client_now, server_now, delivered, arrives, takes_at_client, takes_at_server, is_deliverable}
use Rattle.bac_protocol.specs.World.Event.{Deliver}
use Rattle.bac_protocol.specs.Straight.{AreStraight, RequestFits, WayFits, Straight, Stops, like_machine, request_count, way_to}
use Rattle.bac_protocol.proofs.Queue.{Nows, TransactionPair, Leads, Starts, step}
use Rattle.bac_protocol.proofs.Requested.{whole_read, pieces_read}
use Rattle.bac_protocol.proofs.Follow.{Shows, went, not_stopped}
use Rattle.bac_protocol.proofs.StraightRuns.{asked, first_duo, asked_shows}

-- What stands in the log stays there.

ended_has : (f : Fact) (n : ℕ) (o : Option Ending) (log : List Fact) → Has f log → Has f (ended n o log)
ended_has f n None log h = h
ended_has f n (Some how) log h = inr h

performed_has : (f : Fact) (n : ℕ) (o : Option Effect) (log : List Fact) → Has f log → Has f (performed n o log)
performed_has f n None log h = h
performed_has f n (Some e) log h = inr h

module _ (S : Type 0) (model : StoreModel S) (x : Rules) (f : Fact) where
  at_client_has : (w : World S) (key : Key) (a : Apdu) (o : Option ClientTransaction) → Has f w.net.log → Has f (takes_at_client S x w key a o).net.log
  at_client_has w key a None h = h
  at_client_has w key a (Some t) h = ended_has f (w.net.numbers key) _ w.net.log h

  at_server_has : (w : World S) (key : Key) (free : Bool) (a : Apdu) → Has f w.net.log → Has f (takes_at_server S model x w key free a).net.log
  at_server_has w key free a h = performed_has f (w.net.numbers key) _ w.net.log h

  arrives_has : (w : World S) (key : Key) (free : Bool) (a : Apdu) → Has f w.net.log → Has f (arrives S model x w key free a).net.log
  arrives_has w key free a h = go (is_from_client a)
    where
      go : (b : Bool) → Has f (if b then takes_at_server S model x w key free a else takes_at_client S x w key a (w.net.tickets key)).net.log
      go true = at_server_has w key free a h
      go false = at_client_has w key a (w.net.tickets key) h

  delivered_has : (w : World S) (number : ℕ) (free : Bool) (o : Option Post) → Has f w.net.log → Has f (delivered S model x w number free o).net.log
  delivered_has w number free None h = h
  delivered_has w number free (Some p) h = go (is_deliverable x w.net number p)
    where
      go : (b : Bool) → Has f (if b then arrives S model x w p.key free p.copy.apdu else w).net.log
      go true = arrives_has w p.key free p.copy.apdu h
      go false = h

  has_still : (key : Key) (has_slot : Bool) (count number : ℕ) (w v : World S) → Straight S (like_machine S model x key) key has_slot count number w v
      → Has f w.net.log → Has f v.net.log
  has_still key has_slot zero number w v run h = subst (λ (y : World S). Has f y.net.log) run h
  has_still key has_slot (suc count) number w v run h = has_still key false count (suc number) run.4 v run.6 (go run.5)
    where
      go : like_machine S model x key w (Deliver number run.0) run.4 → Has f run.4.net.log
      go (inl like) = subst (Has f) (sym like.log) (delivered_has w number run.0 (slice_get w.net.posts number) h)
      go (inr lost) = subst (Has f) (sym (lost.1).log) h

module _ (S : Type 0) (model : StoreModel S) (x : Rules) (now : Nows) (number : ℕ) (key : Key) where
  stops_at : (a b : ℕ) (u : World S) → a ≡ b → Stops S key a u → Stops S key b u
  stops_at a b u e h = subst (λ (n : ℕ). Stops S key n u) e h

  -- a run that stops comes by where the two ends lead
  record ComesBy (u : World S) (q : TransactionPair S) : Type 0 where
    first : ℕ
    count : ℕ
    mid : World S
    shows : Shows S model x now number key mid q first
    run : Straight S (like_machine S model x key) key false count first mid u

  comes_by : (count j first : ℕ) (w u : World S) (p q : TransactionPair S) → Leads S model x now number key count p q → Shows S model x now number key w p first
      → Straight S (like_machine S model x key) key false j first w u → Stops S key (first + j) u → ComesBy u q
  comes_by zero j first w u p q h s run stops =
      record { first = first; count = j; mid = w; shows = subst (λ (d : TransactionPair S). Shows S model x now number key w d first) h s; run = run }
  comes_by (suc count) zero first w u p q h s run stops = absurd (not_stopped S model x now number key w u p first h.0 h.1 s h.2 h.4 run stops)
  comes_by (suc count) (suc j) first w u p q h s run stops =
      comes_by count j (suc first) run.4 u (step S model x now number key p h.0 h.1) q h.6
      (went S model x now number key (like_machine S model x key) (λ y e z like. like) w run.4 p first h.0 h.1 run.0 run.5 s h.2 h.3 (inr h.5)) run.6
      (stops_at (first + suc j) (suc first + j) u (omega arith) stops)

  starts_by : (most j first : ℕ) (w u : World S) (p q : TransactionPair S) → Starts S model x now number key most p q → Shows S model x now number key w p first
      → Straight S (like_machine S model x key) key true j first w u → Stops S key (first + j) u → ComesBy u q
  starts_by most zero first w u p q h s run stops = absurd (not_stopped S model x now number key w u p first h.xs h.a s h.is h.going run stops)
  starts_by most (suc j) first w u p q h s run stops =
      comes_by h.count j (suc first) run.4 u (step S model x now number key p h.xs h.a) q h.leads
      (went S model x now number key (like_machine S model x key) (λ y e z like. like) w run.4 p first h.xs h.a run.0 run.5 s h.is h.few
      (inl (run.1 refl))) run.6
      (stops_at (first + suc j) (suc first + j) u (omega arith) stops)

module _ (S : Type 0) (model : StoreModel S) (x : Rules) (w : World S) (key : Key) (good : AreStraight x key) (choice : ℕ) (front : Octets) (rest : List Octets)
    (p : Reply) (dead : is_none_live (server_now w.net key) (w.net.entries key) ≡ true)
    (outcome : model.outcome (w.stores key.server) choice (join (front ∷ rest)) ≡ Replies p)
    (way : WayFits (way_to x key p)) where
  abbrev pieces : List Octets
  pieces = front ∷ rest

  abbrev now : Nows
  now = record { real = w.net.now; here = client_now w.net key; there = server_now w.net key }

  abbrev ask : Bool → Ask
  ask whole = record { first = client_now w.net key; choice = choice; whole = whole; pieces = front ∷ rest }

  abbrev fact : Bool → Fact
  fact whole = Performed w.net.asks (request_of (ask whole)) p

  abbrev log : Bool → List Fact
  log whole = Asked w.net.asks key.client key.server (request_of (ask whole)) ∷ w.net.log

  abbrev Begins : Bool → TransactionPair S → Type 0
  Begins whole q = Starts S model x now w.net.asks key (2 * request_count whole pieces) (first_duo S model x w key (ask whole) whole) q

  -- where it was performed
  record Performs (whole : Bool) : Type 0 where
    end : TransactionPair S
    has : Has (fact whole) end.log
    begins : Begins whole end

  performs : (whole : Bool) → RequestFits whole pieces → Performs whole
  performs true fits =
      let h = whole_read S model x now w.net.asks key (ask true) refl w.stores (log true) p outcome way (w.net.entries key) dead in
      record {
        end = _;
        has = inl refl;
        begins = record {
          xs = h.xs;
          a = h.a;
          is = h.is;
          few = h.few;
          going = h.going;
          count = h.count;
          most_is = let i = h.most_is in omega arith;
          leads = h.leads;
        };
      }
  performs false fits =
      let a = good.client in
      let b = good.server in
      let s = good.small in
      let f = good.room in
      record {
        end = _;
        has = inl refl;
        begins = pieces_read S model x now w.net.asks key (ask false) refl w.stores (log false) p outcome way (w.net.entries key) dead (omega arith)
            (record { some = omega arith; small = omega arith; within = omega arith; room = omega arith; few = fits.0; short = fits.1 });
      }

  module _ (serving : w.net.serves_from key.server ≤ server_now w.net key) (whole : Bool) (fits : RequestFits whole (front ∷ rest)) (count : ℕ) (new : World S)
      (run : Straight S (like_machine S model x key) key true count (length w.net.posts) (asked S model x w key (ask whole)) new)
      (stops : Stops S key (length w.net.posts + count) new) where
    reached : ComesBy S model x now w.net.asks key new (performs whole fits).end
    reached = starts_by S model x now w.net.asks key (2 * request_count whole (front ∷ rest)) count (length w.net.posts)
        (asked S model x w key (ask whole)) new (first_duo S model x w key (ask whole) whole) (performs whole fits).end (performs whole fits).begins
        (asked_shows S model x w key serving (ask whole) (omega arith)) run stops

    -- it stands in the log after the run
    pub was_performed : Has (fact whole) new.net.log
    was_performed =
        let c = reached in
        has_still S model x (fact whole) key false c.count c.first c.mid new c.run
        (subst (Has (fact whole)) (sym c.shows.log) (performs whole fits).has)
