-- What a server of fresh reads makes of a request of one APDU whose reply goes in one.
use Rattle.std.proofs.Common.{◌≡◌, ◌⊎◌, ℕ, Bool, true, false, ◌&&◌, [], ◌∷◌, Option, Some, None, if◌then◌else◌, refl, sym, ap, subst, inl, inr, ◌∙◌}
use Rattle.bac_apdu.specs.Apdu.{Apdu, Limits}
use Rattle.bac_apdu.specs.Apdu.Apdu.{ConfirmedRequest}
use Rattle.bac_service.specs.Replies as plain
use Rattle.bac_service.proofs.Wholes.{one_complex}
use Rattle.bac_protocol.specs.Context.{Context}
use Rattle.bac_protocol.specs.Own.{invoke_id_of}
use Rattle.bac_protocol.specs.Sizes.{Way, reply_way_of}
use Rattle.bac_protocol.specs.Sizes.Way.{InOne}
use Rattle.bac_protocol.specs.Service as machine
use Rattle.bac_protocol.specs.Service.{Octets, Outcome, Reply}
use Rattle.bac_protocol.specs.Service.Outcome.{Replies}
use Rattle.bac_protocol.specs.Server.{Reaction, ServerTransaction, Service, begins, idle_on_request, is_live, is_none_live, performs_so, reply_apdu, sends_reply}
use Rattle.bac_protocol.specs.Server.{server_on_apdu}
use Rattle.bac_protocol.specs.Reuse.{ends_entry, idle_on_read, idle_reusing, is_ended_by, left_on_apdu, reusing_on_apdu}
use Rattle.bac_protocol.specs.ReuseLaws.{fresh_read}
use Rattle.bac_protocol.proofs.Reused.{reads_are_fresh}
use Rattle.bac_slots.specs.Slots.{value_at}
use Rattle.bac_transaction.specs.Keys.{PeerKey, same_key}
use Rattle.bac_transaction.specs.Ends.{ServerEnd, is_free}
use Rattle.bac_transaction.specs.Meanings.{Ending, MeansEnding, MeansReply}
use Rattle.bac_transaction.specs.Reuse.{has_place, is_read, slots_left}
use Rattle.bac_transaction.specs.Sharing.{address_of, has_share, may_begin}
use Rattle.bac_liveness.specs.FreshRoundTrip.{HasOver}

-- it is performed, and that reply alone is sent
pub record Answers (c : Context) (choice : ℕ) (octets : Octets) (reply : Reply) (v : Reaction) : Type 0 where
  pub sends : v.sends ≡ reply_apdu c choice reply ∷ []
  pub effect : v.effect ≡ Some (record { request = record { choice = choice; service = octets }; reply = reply })

-- where slots are shared, they are where they are not
pub any_share : (share : Bool) (now : ℕ) (key : PeerKey) (e : ServerEnd) → may_begin true false now key e ≡ true → may_begin share false now key e ≡ true
any_share true now key e h = h
any_share false now key e h = go (has_share now (address_of key.peer.link) e) (is_free now e) h
  where
    go : (a b : Bool) → (a && b) ≡ true → b ≡ true
    go true b h = h
    go false b h = absurd cc

none_ends : (now : ℕ) (o : Option ServerTransaction) (a : Apdu) → is_none_live now o ≡ true → ends_entry is_read now o a ≡ false
none_ends now None a none = refl
none_ends now (Some e) a none = go (is_live now e) none
  where
    go : (b : Bool) → (if b then false else true) ≡ true → (b && is_ended_by is_read e a) ≡ false
    go true none = absurd cc
    go false none = refl

module _ (c : Context) (service : Service) (limits : Limits) (id choice : ℕ) (octets : Octets) (reply : Reply)
    (outcome : service choice octets ≡ Replies reply) (way : reply_way_of c.settings limits reply ≡ InOne) where
  abbrev request : Apdu
  request = ConfirmedRequest limits id None choice octets

  fresh : (o d : Option ServerTransaction) (free : Bool) → reusing_on_apdu c service is_read o free request ≡ fresh_read c d choice octets reply
      → Answers c choice octets reply (reusing_on_apdu c service is_read o free request)
  fresh o d free is = record { sends = ap (λ (v : Reaction). v.sends) is; effect = ap (λ (v : Reaction). v.effect) is }

  -- a read
  pub read_answers : (free : Bool) (key : PeerKey) (e : ServerEnd) → is_read choice ≡ true
      → (is_none_live c.now (value_at same_key key e.slots) ≡ true) ⊎ HasOver c.now key e
      → Answers c choice octets reply (reusing_on_apdu c service is_read (value_at same_key key e.slots) free request)
  read_answers free key e read (inl none) = fresh (value_at same_key key e.slots) (value_at same_key key e.slots) free
      (reads_are_fresh.none c service is_read (value_at same_key key e.slots) free limits id choice octets reply none read outcome way)
  read_answers free key e read (inr h) = subst (λ (o : Option ServerTransaction). Answers c choice octets reply (reusing_on_apdu c service is_read o free request))
      (sym h.at) (fresh (Some h.entry) None free
      (reads_are_fresh.over c service is_read h.entry free limits id choice octets reply h.live h.over read outcome way))

  abbrev begun : ServerTransaction
  begun = begins c choice limits (Some octets)

  -- any other request, where an entry may begin
  other_is : (o : Option ServerTransaction) (free : Bool) → free ≡ true → is_read choice ≡ false → is_none_live c.now o ≡ true
      → reusing_on_apdu c service is_read o free request ≡ sends_reply c begun [] octets reply InOne
  other_is o free place other none =
      ap (λ (b : Bool). left_on_apdu c service is_read (if b then None else o) free request) (none_ends c.now o request none)
      ∙ ap (λ (b : Bool). if b then idle_reusing c service is_read o free request else server_on_apdu c service o free request) none
      ∙ ap (λ (b : Bool). if b then idle_on_read c service o free choice limits octets else idle_on_request c service o free choice limits octets) other
      ∙ ap (λ (b : Bool). idle_on_request c service o b choice limits octets) place
      ∙ ap (λ (y : Outcome). performs_so c begun [] octets y) outcome ∙ ap (λ (y : Way ℕ). sends_reply c begun [] octets reply y) way

  pub other_answers : (o : Option ServerTransaction) (free : Bool) → free ≡ true → is_read choice ≡ false → is_none_live c.now o ≡ true
      → Answers c choice octets reply (reusing_on_apdu c service is_read o free request)
  other_answers o free place other none =
      let is = other_is o free place other none in
      record { sends = ap (λ (v : Reaction). v.sends) is; effect = ap (λ (v : Reaction). v.effect) is }

  -- an entry may begin where none of the key is live
  pub placed : (share : Bool) (key : PeerKey) (e : ServerEnd) → is_none_live c.now (value_at same_key key e.slots) ≡ true → may_begin true false c.now key e ≡ true
      → has_place share c.now key request e ≡ true
  placed share key e none place =
      ap (λ (b : Bool). may_begin share b c.now key (record e { slots = slots_left b key e.slots })) (none_ends c.now (value_at same_key key e.slots) request none)
      ∙ any_share share c.now key e place

-- Replies.

pub answer_id : (c : Context) (choice : ℕ) (p : Reply) → invoke_id_of (reply_apdu c choice p) ≡ c.invoke_id
answer_id c choice machine.Reply.Simple = refl
answer_id c choice (machine.Reply.Complex o) = refl
answer_id c choice (machine.Reply.Error class code) = refl

-- octets mean one reply
one_reply : (choice : ℕ) (p : Reply) (a b : plain.Reply) → MeansReply choice p a → MeansReply choice p b → b ≡ a
one_reply choice machine.Reply.Simple plain.Reply.Simple plain.Reply.Simple h k = refl
one_reply choice (machine.Reply.Complex o) (plain.Reply.Complex c) (plain.Reply.Complex d) h k = ap plain.Reply.Complex (one_complex choice d c o k h)
one_reply choice (machine.Reply.Error class code) (plain.Reply.Error a b) (plain.Reply.Error d e) h k =
    λ i. plain.Reply.Error ((k.0 ∙ sym h.0) i) ((k.1 ∙ sym h.1) i)
one_reply choice machine.Reply.Simple (plain.Reply.Complex c) b h k = absurd h
one_reply choice machine.Reply.Simple (plain.Reply.Error c d) b h k = absurd h
one_reply choice machine.Reply.Simple (plain.Reply.Reject c) b h k = absurd h
one_reply choice machine.Reply.Simple plain.Reply.Simple (plain.Reply.Complex c) h k = absurd k
one_reply choice machine.Reply.Simple plain.Reply.Simple (plain.Reply.Error c d) h k = absurd k
one_reply choice machine.Reply.Simple plain.Reply.Simple (plain.Reply.Reject c) h k = absurd k
one_reply choice (machine.Reply.Complex o) plain.Reply.Simple b h k = absurd h
one_reply choice (machine.Reply.Complex o) (plain.Reply.Error c d) b h k = absurd h
one_reply choice (machine.Reply.Complex o) (plain.Reply.Reject c) b h k = absurd h
one_reply choice (machine.Reply.Complex o) (plain.Reply.Complex c) plain.Reply.Simple h k = absurd k
one_reply choice (machine.Reply.Complex o) (plain.Reply.Complex c) (plain.Reply.Error d e) h k = absurd k
one_reply choice (machine.Reply.Complex o) (plain.Reply.Complex c) (plain.Reply.Reject d) h k = absurd k
one_reply choice (machine.Reply.Error class code) plain.Reply.Simple b h k = absurd h
one_reply choice (machine.Reply.Error class code) (plain.Reply.Complex c) b h k = absurd h
one_reply choice (machine.Reply.Error class code) (plain.Reply.Reject c) b h k = absurd h
one_reply choice (machine.Reply.Error class code) (plain.Reply.Error c d) plain.Reply.Simple h k = absurd k
one_reply choice (machine.Reply.Error class code) (plain.Reply.Error c d) (plain.Reply.Complex e) h k = absurd k
one_reply choice (machine.Reply.Error class code) (plain.Reply.Error c d) (plain.Reply.Reject e) h k = absurd k

-- an answer ends a ticket with the reply that it means
pub answered_as : (choice : ℕ) (p : Reply) (v : plain.Reply) (how : Ending) → MeansReply choice p v → MeansEnding choice (machine.Ending.Answered p) how
    → how ≡ Ending.Answered v
answered_as choice p v (Ending.Answered q) means h = ap Ending.Answered (one_reply choice p v q means h)
answered_as choice p v (Ending.Rejected reason) means h = absurd h
answered_as choice p v (Ending.Aborted reason) means h = absurd h
answered_as choice p v Ending.TimedOut means h = absurd h
answered_as choice p v Ending.Expired means h = absurd h
