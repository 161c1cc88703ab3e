-- What a server of either setting makes of an APDU, and its reply table then.
use Rattle.std.proofs.Common.{◌≡◌, ℕ, Bool, true, false, ◌&&◌, List, [], ◌∷◌, Option, Some, None, if◌then◌else◌, refl, sym, ap, subst, ◌∙◌}
use Rattle.bac_apdu.specs.Apdu.{Apdu}
use Rattle.bac_apdu.specs.Apdu.Apdu.{ConfirmedRequest}
use Rattle.bac_protocol.specs.Context.{Context}
use Rattle.bac_protocol.specs.Service.{OTHER}
use Rattle.bac_protocol.specs.Wire.{Each}
use Rattle.bac_protocol.specs.Own.{IsOfServer, IsOwnEntry}
use Rattle.bac_protocol.specs.Server as server
use Rattle.bac_protocol.specs.Server.{Reaction, ServerTransaction, Service, is_live, is_none_live, live_entry, server_on_apdu}
use Rattle.bac_protocol.specs.Reuse.{ends_entry, has_transfer, idle_on_read, idle_reusing, is_ended_by, left_on_apdu, reads_so, reusing_on_apdu, server_hears}
use Rattle.bac_protocol.specs.Steps.{IsSameReaction}
use Rattle.bac_protocol.proofs.Dead.{gets_same, same_back, same_of, same_then}
use Rattle.bac_protocol.proofs.Own.{server_sends_own}
use Rattle.bac_slots.specs.Slots.{value_at, without, IsApart, IsDistinct}
use Rattle.bac_transaction.specs.Ends.{ServerSlot}
use Rattle.bac_transaction.specs.Keys.{PeerKey, same_key}
use Rattle.bac_transaction.specs.Reuse.{is_read, slots_left}
use Rattle.bac_transaction.proofs.KeyedSlots.{EachSlot, apart_none, key_is, passed_first}
use Rattle.bac_transaction.proofs.ServerTables.{idle_is}
use Rattle.bac_world.proofs.Settings.{slots_heard}
use Rattle.bac_world.proofs.Table.{none_left}

-- what makes of an entry that is not live what it makes of none makes the same of two entries where each is live as the other is
pub alike_by_live : (now : ℕ) (by : Option ServerTransaction → Reaction) → ((o : Option ServerTransaction) → IsSameReaction now (by o) (by (live_entry now o)))
    → (a b : Option ServerTransaction) → live_entry now a ≡ live_entry now b → IsSameReaction now (by a) (by b)
alike_by_live now by dead a b fit =
    same_then now (by a) (by (live_entry now a)) (by b) (dead a)
    (same_then now (by (live_entry now a)) (by (live_entry now b)) (by b)
    (same_of now (by (live_entry now a)) (by (live_entry now b)) (ap by fit))
    (same_back now (by b) (by (live_entry now b)) (dead b)))

module _ (c : Context) (service : Service) (free : Bool) where
  -- An entry that is not live counts as none.

  dead_is : (e : ServerTransaction) → is_live c.now e ≡ false → live_entry c.now (Some e) ≡ None
  dead_is e dead = ap (λ b. if b then Some e else None) dead

  idle_alike : (e : ServerTransaction) → is_live c.now e ≡ false → (a : Apdu)
      → IsSameReaction c.now (server.idle_on_apdu c service (Some e) free a) (server.idle_on_apdu c service None free a)
  idle_alike e dead a = subst
      (λ b. IsSameReaction c.now (if b then server.live_on_apdu c service e e.state a else server.idle_on_apdu c service (Some e) free a)
      (server_on_apdu c service (if b then Some e else None) free a)) dead (gets_same c service (Some e) free a)

  read_alike : (e : ServerTransaction) → is_live c.now e ≡ false → (r : Reaction) → IsSameReaction c.now (reads_so c (Some e) free r) (reads_so c None free r)
  read_alike e dead r = go (has_transfer r.entry) free
    where
      one : Option ServerTransaction → (b d : Bool) → Reaction
      one o b d = if b then (if d then r else server.rests o (server.server_abort c OTHER ∷ [])) else record { entry = o; sends = r.sends; effect = r.effect }

      go : (b d : Bool) → IsSameReaction c.now (one (Some e) b d) (one None b d)
      go true true = record { entry = refl; sends = refl; effect = refl }
      go true false = record { entry = dead_is e dead; sends = refl; effect = refl }
      go false d = record { entry = dead_is e dead; sends = refl; effect = refl }

  reusing_alike : (e : ServerTransaction) → is_live c.now e ≡ false → (a : Apdu)
      → IsSameReaction c.now (idle_reusing c service is_read (Some e) free a) (idle_reusing c service is_read None free a)
  reusing_alike e dead (ConfirmedRequest limits i None choice octets) = go (is_read choice)
    where
      go : (b : Bool) → IsSameReaction c.now
          (if b then idle_on_read c service (Some e) free choice limits octets else server.idle_on_request c service (Some e) free choice limits octets)
          (if b then idle_on_read c service None free choice limits octets else server.idle_on_request c service None free choice limits octets)
      go true = read_alike e dead (server.performs c service (server.begins c choice limits (Some octets)) [] octets)
      go false = idle_alike e dead (ConfirmedRequest limits i None choice octets)
  reusing_alike e dead (ConfirmedRequest limits i (Some g) choice octets) = idle_alike e dead (ConfirmedRequest limits i (Some g) choice octets)
  reusing_alike e dead _ = record { entry = dead_is e dead; sends = refl; effect = refl }

  reusing_same : (o : Option ServerTransaction) (a : Apdu)
      → IsSameReaction c.now (reusing_on_apdu c service is_read o free a) (reusing_on_apdu c service is_read (live_entry c.now o) free a)
  reusing_same None a = record { entry = refl; sends = refl; effect = refl }
  reusing_same (Some e) a = go (is_live c.now e) refl
    where
      gets : Option ServerTransaction → Reaction
      gets o = reusing_on_apdu c service is_read o free a

      go : (b : Bool) → is_live c.now e ≡ b → IsSameReaction c.now (gets (Some e)) (gets (if b then Some e else None))
      go true live = record { entry = refl; sends = refl; effect = refl }
      go false dead = same_then c.now (gets (Some e)) (idle_reusing c service is_read (Some e) free a) (gets None)
          (same_of c.now (gets (Some e)) (idle_reusing c service is_read (Some e) free a)
          (ap (λ b. left_on_apdu c service is_read (if b && is_ended_by is_read e a then None else Some e) free a) dead
          ∙ ap (λ b. if (if b then false else true) then idle_reusing c service is_read (Some e) free a else server_on_apdu c service (Some e) free a) dead))
          (reusing_alike e dead a)

  pub hears_same : (reuse : Bool) (o : Option ServerTransaction) (a : Apdu)
      → IsSameReaction c.now (server_hears reuse c service is_read o free a) (server_hears reuse c service is_read (live_entry c.now o) free a)
  hears_same true o a = reusing_same o a
  hears_same false o a = gets_same c service o free a

  -- All that it sends is its transaction's.

  abbrev SendsOwn : Reaction → Type 0
  SendsOwn r = Each (IsOfServer c.invoke_id) r.sends

  read_own : (dead : Option ServerTransaction) (r : Reaction) → SendsOwn r → SendsOwn (reads_so c dead free r)
  read_own dead r own = go (has_transfer r.entry) free
    where
      go : (b d : Bool) → SendsOwn (if b then (if d then r else server.rests dead (server.server_abort c OTHER ∷ []))
          else record { entry = dead; sends = r.sends; effect = r.effect })
      go true true = own
      go true false = ((refl, refl), tt)
      go false d = own

  module _ (o : Option ServerTransaction) (own : IsOwnEntry c.invoke_id o) where
    gets_own : (a : Apdu) → SendsOwn (server_on_apdu c service o free a)
    gets_own a = (server_sends_own.gets c service o free a own).0

    idle_own : is_none_live c.now o ≡ true → (a : Apdu) → SendsOwn (server.idle_on_apdu c service o free a)
    idle_own none a = subst SendsOwn (idle_is c service o free a none) (gets_own a)

    reusing_own : is_none_live c.now o ≡ true → (a : Apdu) → SendsOwn (idle_reusing c service is_read o free a)
    reusing_own none (ConfirmedRequest limits i None choice octets) = go (is_read choice)
      where
        go : (b : Bool) → SendsOwn
            (if b then idle_on_read c service o free choice limits octets else server.idle_on_request c service o free choice limits octets)
        go true = read_own o (server.performs c service (server.begins c choice limits (Some octets)) [] octets)
            (server_sends_own.gets c service None true (ConfirmedRequest limits i None choice octets) tt).0
        go false = idle_own none (ConfirmedRequest limits i None choice octets)
    reusing_own none (ConfirmedRequest limits i (Some g) choice octets) = idle_own none (ConfirmedRequest limits i (Some g) choice octets)
    reusing_own none _ = tt

    left_own : (a : Apdu) → SendsOwn (left_on_apdu c service is_read o free a)
    left_own a = go (is_none_live c.now o) refl
      where
        go : (b : Bool) → is_none_live c.now o ≡ b
            → SendsOwn (if b then idle_reusing c service is_read o free a else server_on_apdu c service o free a)
        go true none = reusing_own none a
        go false some = gets_own a

  pub hears_own : (reuse : Bool) (o : Option ServerTransaction) → IsOwnEntry c.invoke_id o → (a : Apdu)
      → Each (IsOfServer c.invoke_id) (server_hears reuse c service is_read o free a).sends
  hears_own false o own a = gets_own o own a
  hears_own true o own a = go (ends_entry is_read c.now o a)
    where
      go : (b : Bool) → SendsOwn (left_on_apdu c service is_read (if b then None else o) free a)
      go true = left_own None tt a
      go false = left_own o own a

  -- Where it leaves no live entry, there was none.

  dead_none : (o : Option ServerTransaction) → is_none_live c.now o ≡ true → live_entry c.now o ≡ None
  dead_none None none = refl
  dead_none (Some e) none = go (is_live c.now e) none
    where
      go : (b : Bool) → (if b then false else true) ≡ true → (if b then Some e else None) ≡ None
      go true some = absurd cc
      go false none = refl

  left_none : (o : Option ServerTransaction) (a : Apdu) → live_entry c.now (left_on_apdu c service is_read o free a).entry ≡ None → live_entry c.now o ≡ None
  left_none o a = go (is_none_live c.now o) refl
    where
      go : (b : Bool) → is_none_live c.now o ≡ b
          → live_entry c.now (if b then idle_reusing c service is_read o free a else server_on_apdu c service o free a).entry ≡ None → live_entry c.now o ≡ None
      go true none is = dead_none o none
      go false some is = none_left c service o free a is

-- The reply table.

-- slots are these without one of that key, or all of them
pub record AreLeft (p : PeerKey) (old new : List ServerSlot) : Type 1 where
  pub distinct : IsDistinct same_key old → IsDistinct same_key new
  pub each : (P : PeerKey → ServerTransaction → Type 0) → EachSlot ServerTransaction P old → EachSlot ServerTransaction P new
  pub others : (q : PeerKey) → (p ≡ q → ⊥) → value_at same_key q new ≡ value_at same_key q old

all_left : (p : PeerKey) (slots : List ServerSlot) → AreLeft p slots slots
all_left p slots = record { distinct = λ d. d; each = λ P h. h; others = λ q ne. refl }

module _ (p : PeerKey) where
  apart_left : (q : PeerKey) (slots : List ServerSlot) → IsApart same_key q slots → IsApart same_key q (without same_key p slots)
  apart_left q [] h = tt
  apart_left q (s ∷ slots) h = go (same_key s.key p) (apart_left q slots h.1)
    where
      go : (b : Bool) → IsApart same_key q (without same_key p slots) → IsApart same_key q (if b then slots else s ∷ without same_key p slots)
      go true again = h.1
      go false again = (h.0, again)

  distinct_left : (slots : List ServerSlot) → IsDistinct same_key slots → IsDistinct same_key (without same_key p slots)
  distinct_left [] d = tt
  distinct_left (s ∷ slots) d = go (same_key s.key p) (distinct_left slots d.1)
    where
      go : (b : Bool) → IsDistinct same_key (without same_key p slots) → IsDistinct same_key (if b then slots else s ∷ without same_key p slots)
      go true again = d.1
      go false again = (apart_left s.key slots d.0, again)

  each_left : (P : PeerKey → ServerTransaction → Type 0) (slots : List ServerSlot) → EachSlot ServerTransaction P slots
      → EachSlot ServerTransaction P (without same_key p slots)
  each_left P [] h = tt
  each_left P (s ∷ slots) h = go (same_key s.key p) (each_left P slots h.1)
    where
      go : (b : Bool) → EachSlot ServerTransaction P (without same_key p slots)
          → EachSlot ServerTransaction P (if b then slots else s ∷ without same_key p slots)
      go true again = h.1
      go false again = (h.0, again)

  others_left : (q : PeerKey) → (p ≡ q → ⊥) → (slots : List ServerSlot) → value_at same_key q (without same_key p slots) ≡ value_at same_key q slots
  others_left q ne [] = refl
  others_left q ne (s ∷ slots) = go (same_key s.key p) refl (others_left q ne slots)
    where
      go : (b : Bool) → same_key s.key p ≡ b → value_at same_key q (without same_key p slots) ≡ value_at same_key q slots
          → value_at same_key q (if b then slots else s ∷ without same_key p slots) ≡ value_at same_key q (s ∷ slots)
      go true is again = sym (passed_first ServerTransaction s.key q s.begin s.value slots (λ e. ne (sym (key_is s.key p is) ∙ e)))
      go false ne again = ap (λ (o : Option ServerTransaction). if same_key s.key q then Some s.value else o) again

  none_there : (slots : List ServerSlot) → IsDistinct same_key slots → value_at same_key p (without same_key p slots) ≡ None
  none_there [] d = refl
  none_there (s ∷ slots) d = go (same_key s.key p) refl (none_there slots d.1)
    where
      go : (b : Bool) → same_key s.key p ≡ b → value_at same_key p (without same_key p slots) ≡ None
          → value_at same_key p (if b then slots else s ∷ without same_key p slots) ≡ None
      go true is again = apart_none ServerTransaction p slots (subst (λ (q : PeerKey). IsApart same_key q slots) (key_is s.key p is) d.0)
      go false ne again = ap (λ b. if b then Some s.value else value_at same_key p (without same_key p slots)) ne ∙ again

  pub heard_left : (reuse : Bool) (now : ℕ) (a : Apdu) (slots : List ServerSlot) → AreLeft p slots (slots_heard reuse now p a slots)
  heard_left false now a slots = all_left p slots
  heard_left true now a slots = go (ends_entry is_read now (value_at same_key p slots) a)
    where
      go : (b : Bool) → AreLeft p slots (slots_left b p slots)
      go true = record { distinct = distinct_left slots; each = λ P h. each_left P slots h; others = λ q ne. others_left q ne slots }
      go false = all_left p slots

  -- where no live entry is left, none was in the table that was heard
  pub heard_none : (reuse : Bool) (c : Context) (service : Service) (free : Bool) (a : Apdu) (slots : List ServerSlot) → IsDistinct same_key slots
      → live_entry c.now (server_hears reuse c service is_read (value_at same_key p slots) free a).entry ≡ None
      → live_entry c.now (value_at same_key p (slots_heard reuse c.now p a slots)) ≡ None
  heard_none false c service free a slots d none = none_left c service (value_at same_key p slots) free a none
  heard_none true c service free a slots d none = go (ends_entry is_read c.now (value_at same_key p slots) a) none
    where
      go : (b : Bool) → live_entry c.now (left_on_apdu c service is_read (if b then None else value_at same_key p slots) free a).entry ≡ None
          → live_entry c.now (value_at same_key p (slots_left b p slots)) ≡ None
      go true is = ap (live_entry c.now) (none_there slots d)
      go false is = left_none c service free (value_at same_key p slots) a is
