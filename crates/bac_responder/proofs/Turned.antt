-- A turn of the table is a turn of the server's end.
use Rattle.std.proofs.Common.{◌≡◌, ℕ, ◌-◌, Bool, true, false, List, nat_le, Option, Some, None, if◌then◌else◌}
use Rattle.std.proofs.Common.{refl, ap, sym, subst, ◌∙◌, arith}
use Rattle.std.proofs.lemmas.Bool.Decides.{nat_tests}
use Rattle.bac_apdu.specs.Apdu.{Apdu}
use Rattle.bac_slots.specs.Slots.{value_at}
use Rattle.bac_store.specs.Stores.{Store}
use Rattle.bac_protocol.specs.declared.times.TheConstants.{KEEP}
use Rattle.bac_protocol.specs.Context.{Context}
use Rattle.bac_protocol.specs.Server.{ServerTransaction, Effect, Reaction, Service, is_live, is_none_live, live_on_apdu, idle_on_apdu}
use Rattle.bac_protocol.specs.Steps.{StaysIn}
use Rattle.bac_protocol.proofs.Served.{live_stays_law}
use Rattle.bac_transaction.specs.Keys.{PeerKey, same_key}
use Rattle.bac_transaction.specs.Ends.{ServerSlot, ServerEnd, ServerTurn, set_or_put, put_entry, act_at, server_goes}
use Rattle.bac_transaction.specs.Sends.{Datagram, Pairwise, IsSent}
use Rattle.bac_transaction.specs.Services.{Performed, ArePerformed, store_after}
use Rattle.bac_responder.specs.Reactions.{IsReaction}
use Rattle.bac_responder.specs.Turns.{Acted, AreActed, IsServed, acted_of, performed_by}

pub acted : (s : Store) (key : PeerKey) (x : Option Effect) (q : Option Performed) → ArePerformed s x q → AreActed s (act_at key x) (acted_of key q)
acted s key None None h = tt
acted s key None (Some q) h = absurd h
acted s key (Some x) None h = absurd h
acted s key (Some x) (Some q) h = record { key = refl; performed = h }

pub after_acted : (key : PeerKey) (q : Option Performed) → performed_by (acted_of key q) ≡ q
after_acted key None = refl
after_acted key (Some q) = refl

-- The end after a reaction.

pub goes_so : (now : ℕ) (e : ServerEnd) (key : PeerKey) (v : Reaction) (d : ServerTransaction) (b : Bool) (slots : List ServerSlot) → v.entry ≡ Some d
    → is_live now d ≡ true → is_none_live now (value_at same_key key e.slots) ≡ b → slots ≡ set_or_put now key d e.slots b
    → record e { slots = slots } ≡ (server_goes now e key v).end
goes_so now e key v d b slots is live none put =
    ap (λ l. record e { slots = l }) put
    ∙ sym (ap (λ o. record e { slots = put_entry now key o e.slots }) is
    ∙ ap (λ x. record e { slots = if x then set_or_put now key d e.slots (is_none_live now (value_at same_key key e.slots)) else e.slots }) live
    ∙ ap (λ x. record e { slots = set_or_put now key d e.slots x }) none)

dead_of : (b : Bool) → (if b then false else true) ≡ true → b ≡ false
dead_of true e = absurd cc
dead_of false e = refl

pub goes_still : (now : ℕ) (e : ServerEnd) (key : PeerKey) (v : Reaction) (o : Option ServerTransaction) → v.entry ≡ o → is_none_live now o ≡ true
    → (server_goes now e key v).end ≡ e
goes_still now e key v None is dead = ap (λ o. record e { slots = put_entry now key o e.slots }) is
goes_still now e key v (Some d) is dead =
    ap (λ o. record e { slots = put_entry now key o e.slots }) is
    ∙ ap (λ x. record e { slots = if x then set_or_put now key d e.slots (is_none_live now (value_at same_key key e.slots)) else e.slots })
    (dead_of (is_live now d) dead)

-- an entry that goes on is live
same_begin : (e : ServerTransaction) (o : Option ServerTransaction) (d : ServerTransaction) → StaysIn e o → o ≡ Some d → d.begin ≡ e.begin
same_begin e None d h is = absurd cc
same_begin e (Some x) d h is = let same : x ≡ d = cc in ap (λ (y : ServerTransaction). y.begin) (sym same) ∙ h.0.begin

pub live_begun : (c : Context) (service : Service) (e d : ServerTransaction) (a : Apdu) → is_live c.now e ≡ true → (live_on_apdu c service e e.state a).entry ≡ Some d
    → d.begin ≡ e.begin
live_begun c service e d a live is =
    let gets = ap (λ (b : Bool). (if b then live_on_apdu c service e e.state a else idle_on_apdu c service (Some e) true a).entry) live ∙ is in
    same_begin e _ d (live_stays_law.gets c service e true a live) gets

pub stays_live : (c : Context) (service : Service) (e d : ServerTransaction) (a : Apdu) → is_live c.now e ≡ true → (live_on_apdu c service e e.state a).entry ≡ Some d
    → is_live c.now d ≡ true
stays_live c service e d a live is = ap (λ k. nat_le (c.now - k) KEEP) (live_begun c service e d a live is) ∙ live

-- The turn after a reaction.

pub served_so : (now : ℕ) (e : ServerEnd) (key : PeerKey) (v w : Reaction) (s t : Store) (d : ServerTransaction) (b : Bool) (sent : List Datagram) (q : Option Performed)
    (slots : List ServerSlot)
    → v ≡ w → IsReaction w key.peer s d sent q t → is_live now d ≡ true → is_none_live now (value_at same_key key e.slots) ≡ b
    → slots ≡ set_or_put now key d e.slots b → IsServed (server_goes now e key v) s sent (acted_of key q) (record e { slots = slots }) t
served_so now e key v w s t d b sent q slots same r live none put =
    let did : IsReaction v key.peer s d sent q t = subst (λ (z : Reaction). IsReaction z key.peer s d sent q t) (sym same) r in
    record {
      end = goes_so now e key v d b slots did.entry_is live none put;
      sends = did.sends;
      act = acted s key v.effect q did.effect;
      store = did.store ∙ ap (store_after s) (sym (after_acted key q));
    }

pub begun_live : (now : ℕ) (d : ServerTransaction) → d.begin ≡ now → is_live now d ≡ true
begun_live now d is =
    let zero_age : nat_le (now - now) KEEP ≡ true = grind (arith, nat_tests) in
    ap (λ k. nat_le (now - k) KEEP) is ∙ zero_age

pub served_with : (turn : ServerTurn) (s t : Store) (sent sent' : List Datagram) (x x' : Option Acted) (e e' : ServerEnd) → IsServed turn s sent x e t
    → sent' ≡ sent → x' ≡ x → e' ≡ e → IsServed turn s sent' x' e' t
served_with turn s t sent sent' x x' e e' r a b f =
    record {
      end = f ∙ r.end;
      sends = subst (λ (l : List Datagram). Pairwise IsSent turn.sends l) (sym a) r.sends;
      act = subst (λ (y : Option Acted). AreActed s turn.act y) (sym b) r.act;
      store = r.store ∙ ap (λ (y : Option Acted). store_after s (performed_by y)) (sym b);
    }
