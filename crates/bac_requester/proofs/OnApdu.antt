-- One APDU at one slot, and at the table.
use Rattle.std.proofs.Common.{◌≡◌, ℕ, List, [], ◌∷◌, map, Option, Some, None, Result, Ok, Err, refl, ap, sym, subst, ◌∙◌}
use Rattle.std.specs.Option.{option_map}
use Rattle.std.specs.Result.{IsErr}
use Rattle.bac_apdu.specs.Apdu.{Apdu}
use Rattle.bac_service.specs.Services.{reads_reply}
use Rattle.bac_slots.specs.declared.slot.Slot.{Slot}
use Rattle.bac_slots.specs.Slots.{value_at, with_value}
use Rattle.bac_protocol.specs.Context.{Settings}
use Rattle.bac_protocol.specs.Service as machine
use Rattle.bac_protocol.specs.Client as machine_of
use Rattle.bac_protocol.specs.Client.{ClientTransaction, client_on_apdu, ending_of, sends_of}
use Rattle.bac_transaction.specs.Ends.{Client, ClientEnd, ClientTurn, TransactionSlot, requester_on_apdu, requester_on_apdu_at, key_of, client_after, ended_with}
use Rattle.bac_transaction.specs.Ends.TransactionSlot.{Open, Closed}
use Rattle.bac_transaction.specs.Keys as keys
use Rattle.bac_transaction.specs.Keys.{same_key}
use Rattle.bac_transaction.specs.Meanings as meanings
use Rattle.bac_transaction.specs.Meanings.{EndedView, IsEndedView}
use Rattle.bac_transaction.specs.Sends.{Datagram, IsSent, Pairwise, to_all}
use Rattle.bac_transaction.specs.Views.{code_same_key, context_view, peer_key_view, peer_of, settings_view, slots_view}
use Rattle.bac_transaction.specs.declared.peer_key.PeerKey.{PeerKey}
use Rattle.bac_transaction.specs.declared.context.Context.{Context}
use Rattle.bac_transaction.proofs.Keyed.{value_viewed, with_value_viewed}
use Rattle.bac_transaction.proofs.Viewed.{put_back}
use Rattle.bac_npdu.specs.Peers.{PeerView}
use Rattle.bac_value.specs.declared.memory.NoMemory.{NoMemory}
use Rattle.bac_requester.specs.Aging.{began}
use Rattle.bac_requester.specs.Reactions.{HasNoneOpen, IsClosed, IsNoneOpen, IsReaction, IsReactionInSlot, OnApdu, ReactsInSlot, endings_with, turn_at_key}
use Rattle.bac_requester.specs.Transitions.{MakesTransition, MeansEnd, kept_with}
use Rattle.bac_requester.specs.TransactionViews.{ending_view}
use Rattle.bac_requester.specs.Views.{end_of, ended_view}
use Rattle.bac_requester.specs.declared.ending.Ending as ending
use Rattle.bac_requester.specs.declared.reaction.Reaction.{Reaction}
use Rattle.bac_requester.specs.declared.transition.Transition.{Transition}
use Rattle.bac_requester.proofs.Aging.{next_first}

abbrev Slots : Type 0
Slots = List (Slot PeerKey Client)

-- ---- at one slot

pub endings_are : (number choice : ℕ) (e : Option machine.Ending) (f : Option meanings.Ending) → MeansEnd choice e f
    → Pairwise IsEndedView (ended_with number choice e) (endings_with number f)
endings_are number choice None None m = tt
endings_are number choice None (Some f) m = absurd m
endings_are number choice (Some e) None m = absurd m
endings_are number choice (Some e) (Some f) m = (record { ticket = refl; how = m }, tt)

abbrev slot_of : (number : ℕ) → TransactionSlot → Client
slot_of number held = record { number = number; held = held }

-- the transition of an open transaction, and what the slot returns and keeps of it
reacts : (c : Context) (number : ℕ) (t new : ClientTransaction) (r : machine_of.Reaction) (x : Transition) (y : Reaction) (w : Client) → MakesTransition c t r x new
    → w ≡ slot_of number (kept_with x.ending new) → y.sends.items ≡ x.sends.items → map ended_view y.ended.items ≡ endings_with number (option_map ending_view x.ending)
    → IsReactionInSlot c number t r y w
reacts c number t new r x y w did kept sends ended = record {
  value = kept ∙ ap (slot_of number) did.held;
  sends = subst (λ (l : List Datagram). Pairwise IsSent (to_all (peer_of c) (sends_of r)) l) (sym sends) did.sends;
  ended = subst (λ (l : List EndedView). Pairwise IsEndedView (ended_with number t.ask.choice (ending_of r)) l) (sym ended) (endings_are number t.ask.choice _ _ did.ending);
}

pub goes_on_in_slot : (c : Context) (a : Apdu) (v : Client) (number : ℕ) (t new : ClientTransaction) (x : Transition) (y : Reaction)
    → v ≡ record { number = number; held = Open t } → MakesTransition c t (client_on_apdu (context_view c) reads_reply t a) x new
    → x.ending ≡ None → y.sends.items ≡ x.sends.items → y.ended.items ≡ []
    → ReactsInSlot c a v.number v.held y (record { number = number; held = Open new })
goes_on_in_slot c a v number t new x y is did none sends ended =
    subst (λ (u : Client). ReactsInSlot c a u.number u.held y (record { number = number; held = Open new })) (sym is)
    (reacts c number t new _ x y _ did (ap (λ e. slot_of number (kept_with e new)) (sym none)) sends
    (ap (λ l. map ended_view l) ended ∙ ap (λ e. endings_with number (option_map ending_view e)) (sym none)))

pub ends_in_slot : (c : Context) (a : Apdu) (v : Client) (number first : ℕ) (t new : ClientTransaction) (x : Transition) (y : Reaction) (e : ending.Ending)
    → v ≡ record { number = number; held = Open t } → MakesTransition c t (client_on_apdu (context_view c) reads_reply t a) x new
    → x.ending ≡ Some e → first ≡ new.ask.first → y.sends.items ≡ x.sends.items → y.ended.items ≡ record { ticket = number; ending = e } ∷ []
    → ReactsInSlot c a v.number v.held y (record { number = number; held = Closed first })
ends_in_slot c a v number first t new x y e is did some first_is sends ended =
    subst (λ (u : Client). ReactsInSlot c a u.number u.held y (record { number = number; held = Closed first })) (sym is)
    (reacts c number t new _ x y _ did (ap (λ f. slot_of number (Closed f)) first_is ∙ ap (λ o. slot_of number (kept_with o new)) (sym some)) sends
    (ap (λ l. map ended_view l) ended ∙ ap (λ o. endings_with number (option_map ending_view o)) (sym some)))

-- ---- at the table

-- the turn of an APDU that comes for a context's key
abbrev pub turn_of : Context → Apdu → ClientEnd → ClientTurn
turn_of c a e = turn_at_key (settings_view c.settings) c.moment (peer_key_view c.key) a e

turn_at : (c : Context) (a : Apdu) (slots : Slots) (capacity asked from first_id : ℕ) (o : Option Client) → value_at code_same_key c.key slots ≡ o
    → turn_of c a (end_of slots capacity asked from first_id)
    ≡ requester_on_apdu_at (settings_view c.settings) reads_reply c.moment a (end_of slots capacity asked from first_id) (peer_key_view c.key) o
turn_at c a slots capacity asked from first_id o is =
    ap (λ p. requester_on_apdu_at (settings_view c.settings) reads_reply c.moment a (end_of slots capacity asked from first_id) (peer_key_view c.key) p)
    (sym (value_viewed Client c.key slots) ∙ is)

same_end : (old new : Slots) (capacity room asked from first_id : ℕ) → new ≡ old → room ≡ capacity → end_of new room asked from first_id ≡ end_of old capacity asked from first_id
same_end old new capacity room asked from first_id e f = ap (λ l. end_of l room asked from first_id) e ∙ ap (λ k. end_of old k asked from first_id) f

nothing_is : (e : ClientEnd) (x : Reaction) → x.sends.items ≡ [] → x.ended.items ≡ [] → IsReaction (record { end = e; sends = []; ended = [] }) x
nothing_is e x f g = record {
  sends = subst (λ (l : List Datagram). Pairwise IsSent [] l) (sym f) tt;
  ended = subst (λ (l : List EndedView). Pairwise IsEndedView [] l) (sym (ap (λ l. map ended_view l) g)) tt;
}

-- the key has no slot
pub on_none : (c : Context) (a : Apdu) (old new : Slots) (capacity room asked from first_id : ℕ) (x : Reaction)
    → value_at code_same_key c.key old ≡ None → new ≡ old → room ≡ capacity → x.sends.items ≡ [] → x.ended.items ≡ []
    → OnApdu (turn_of c a (end_of old capacity asked from first_id)) (end_of old capacity asked from first_id) (Ok x) (end_of new room asked from first_id)
on_none c a old new capacity room asked from first_id x is stays same sent ended =
    let e : ClientEnd = end_of old capacity asked from first_id in
    subst (λ (t : ClientTurn). OnApdu t e (Ok x) (end_of new room asked from first_id)) (sym (turn_at c a old capacity asked from first_id None is))
    (record { end = same_end old new capacity room asked from first_id stays same; reaction = nothing_is e x sent ended })

-- allocation failed
pub unchanged : (key : PeerKey) (old new : Slots) (u w : Client) (capacity room asked from first_id : ℕ) → value_at code_same_key key old ≡ Some u
    → w ≡ u → new ≡ with_value code_same_key key w old → room ≡ capacity → end_of new room asked from first_id ≡ end_of old capacity asked from first_id
unchanged key old new u w capacity room asked from first_id is same set kept =
    same_end old new capacity room asked from first_id (put_back Client key u w old new is same set) kept

pub failed : (turn : ClientTurn) (old new : ClientEnd) (result : Result Reaction NoMemory) → IsErr result → new ≡ old → OnApdu turn old result new
failed turn old new (Ok x) is_err same = absurd cc
failed turn old new (Err e) is_err same = same

-- its slot reacts
pub on_slot : (c : Context) (a : Apdu) (old new : Slots) (w : Client) (capacity room asked from first_id number : ℕ) (held : TransactionSlot) (x : Reaction)
    → value_at code_same_key c.key old ≡ Some (record { number = number; held = held }) → ReactsInSlot c a number held x w
    → new ≡ with_value code_same_key c.key w old → room ≡ capacity
    → OnApdu (turn_of c a (end_of old capacity asked from first_id)) (end_of old capacity asked from first_id) (Ok x) (end_of new room asked from first_id)
-- its transaction has ended
on_slot c a old new w capacity room asked from first_id number (Closed first) x is did set kept =
    let e : ClientEnd = end_of old capacity asked from first_id in
    subst (λ (t : ClientTurn). OnApdu t e (Ok x) (end_of new room asked from first_id)) (sym (turn_at c a old capacity asked from first_id _ is))
    (record {
      end = same_end old new capacity room asked from first_id (put_back Client c.key _ w old new is did.value set) kept;
      reaction = nothing_is e x did.sends did.ended;
    })
-- its transaction goes on
on_slot c a old new w capacity room asked from first_id number (Open t) x is did set kept =
    let e : ClientEnd = end_of old capacity asked from first_id in
    let next : Client = client_after c.moment number t (client_on_apdu (context_view c) reads_reply t a) in
    let slots : new ≡ with_value code_same_key c.key next old = set ∙ ap (λ y. with_value code_same_key c.key y old) did.value in
    let viewed : slots_view new ≡ with_value same_key (peer_key_view c.key) next (slots_view old) =
    ap (λ l. slots_view l) slots ∙ with_value_viewed Client c.key next old in
    let after : end_of new room asked from first_id ≡ record e { slots = with_value same_key (peer_key_view c.key) next (slots_view old) } =
    ap (λ k. end_of new k asked from first_id) kept ∙ ap (λ l. record e { slots = l }) viewed in
    subst (λ (t : ClientTurn). OnApdu t e (Ok x) (end_of new room asked from first_id)) (sym (turn_at c a old capacity asked from first_id _ is))
    (record { end = after; reaction = record { sends = did.sends; ended = did.ended } })

-- the transaction of its slot keeps the moment of its first sending
pub keeps_first : (c : Context) (a : Apdu) (number : ℕ) (held : TransactionSlot) (x : Reaction) (w : Client) → ReactsInSlot c a number held x w
    → began w ≡ began (record { number = number; held = held })
keeps_first c a number (Open t) x w did = ap began did.value ∙ next_first c.moment t (client_on_apdu (context_view c) reads_reply t a)
keeps_first c a number (Closed first) x w did = ap began did.value

-- the turn at the key that the APDU has for its peer
pub at_key : (c : Settings) (now : ℕ) (peer : PeerView) (a : Apdu) (key : keys.PeerKey) (e : ClientEnd) (result : Result Reaction NoMemory) (new : ClientEnd)
    → key ≡ key_of peer a → OnApdu (turn_at_key c now key a e) e result new → OnApdu (requester_on_apdu c reads_reply now peer a e) e result new
at_key c now peer a key e result new is did = subst (λ (k : keys.PeerKey). OnApdu (turn_at_key c now k a e) e result new) is did

-- where no transaction is open for a key, nothing is allocated

pub none_open_at : (key : PeerKey) (slots : Slots) (capacity asked from first_id : ℕ) (v : Client) → value_at code_same_key key slots ≡ Some v
    → HasNoneOpen (end_of slots capacity asked from first_id) (peer_key_view key) → IsClosed v.held
none_open_at key slots capacity asked from first_id v is none = subst IsNoneOpen (sym (value_viewed Client key slots) ∙ is) none

pub none_open_at_key : (peer : PeerView) (a : Apdu) (key : keys.PeerKey) (e : ClientEnd) (result : Result Reaction NoMemory) → key ≡ key_of peer a
    → (HasNoneOpen e key → IsErr result → ⊥) → HasNoneOpen e (key_of peer a) → IsErr result → ⊥
none_open_at_key peer a key e result is never = subst (λ (k : keys.PeerKey). HasNoneOpen e k → IsErr result → ⊥) is never
