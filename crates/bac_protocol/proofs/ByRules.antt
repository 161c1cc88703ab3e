-- Laws of the server's machine by its rules.
use Rattle.std.proofs.Common.{◌≡◌, ◌≤◌, ◌-◌, ℕ, ◌⊎◌, Bool, true, false, ◌&&◌, ◌||◌, not, [], ◌∷◌, Option, Some, None, if◌then◌else◌, refl, ap, sym, inl, inr, ◌∙◌}
use Rattle.std.proofs.Common.{nat_eq, nat_lt, arith}
use Rattle.std.proofs.lemmas.Bool.Decides.{nat_tests}
use Rattle.bac_apdu.specs.Apdu.{Apdu, Limits}
use Rattle.bac_apdu.specs.Apdu.Apdu.{Abort, ConfirmedRequest, SegmentAck}
use Rattle.bac_segment.specs.Window.{incoming, takes}
use Rattle.bac_protocol.specs.Context.{Context}
use Rattle.bac_protocol.specs.Reuse.{Reads, has_transfer, idle_reusing, is_ended_by, is_over, left_on_apdu, reads_so, reusing_on_apdu}
use Rattle.bac_protocol.specs.ReuseLaws.{fresh_read}
use Rattle.bac_protocol.specs.Server.{Reaction, ServerTransaction, Service, begins, idle_on_apdu, idle_on_request, is_kept, is_live, is_none_live, live_on_apdu, performs, performs_so}
use Rattle.bac_protocol.specs.Server.{request_segment_taken, rests, sends_reply, server_abort, server_on_apdu}
use Rattle.bac_protocol.specs.Service.{OTHER, Octets, Outcome, Reply}
use Rattle.bac_protocol.specs.Service.Outcome.{Replies}
use Rattle.bac_protocol.specs.Serving.{ReadRule, ServerRules, begins_request, ends_entry, entry_left, fresh_rules, idle_by, is_ended, is_forgotten, is_read_in_one}
use Rattle.bac_protocol.specs.Serving.{is_used_again, live_by, needs_slot, server_hears}
use Rattle.bac_protocol.specs.ServingLaws.{EndsWithReply, FreshIsReuse, GoesOnAsEver, PerformsWhereEnded, ReadsAreFresh, RemembersAll, ServesAnyway, StrictIsServer, TurnsAway}
use Rattle.bac_protocol.specs.Sizes.{Way, reply_way_of}
use Rattle.bac_protocol.specs.Sizes.Way.{InOne}
use Rattle.bac_protocol.specs.Steps.{MayPerform}
use Rattle.bac_protocol.specs.Times.{KEEP}
use Rattle.bac_protocol.proofs.Reused.{ends_where, goes_on_where, kept_stays, not_over, segment_stays}
use Rattle.bac_protocol.proofs.Served.{effects_are_kept}

pub strict_is_server : StrictIsServer
strict_is_server c service None free a = refl
strict_is_server c service (Some e) free a = refl

-- Where an entry is live.

module _ (c : Context) (service : Service) (rules : ServerRules) (e : ServerTransaction) (free : Bool) (a : Apdu) where
  pub at_live : (b : Bool) → is_live c.now e ≡ true → is_ended rules c.now e a ≡ b
      → server_hears c service rules (Some e) free a ≡ live_by c service rules.reads e b free a
  at_live b live is =
      ap (λ (l : Bool). if l then live_by c service rules.reads e (is_ended rules c.now e a) free a else idle_by c service rules.reads (Some e) free a) live
      ∙ ap (λ (x : Bool). live_by c service rules.reads e x free a) is

  pub at_dead : is_live c.now e ≡ false → server_hears c service rules (Some e) free a ≡ idle_by c service rules.reads (Some e) free a
  at_dead dead =
      ap (λ (l : Bool). if l then live_by c service rules.reads e (is_ended rules c.now e a) free a else idle_by c service rules.reads (Some e) free a) dead

no_more : (b : Bool) → b || false ≡ b
no_more true = refl
no_more false = refl

none_so : (b : Bool) → b && false ≡ false
none_so true = refl
none_so false = refl

reuse_at : (c : Context) (service : Service) (reads : Reads) (e : ServerTransaction) (free : Bool) (a : Apdu) (live ended : Bool)
    → is_live c.now e ≡ live → is_ended_by reads e a ≡ ended
    → server_hears c service (fresh_rules reads None) (Some e) free a ≡ reusing_on_apdu c service reads (Some e) free a
reuse_at c service reads e free a false ended dead is =
    at_dead c service (fresh_rules reads None) e free a dead
    ∙ sym (ap (λ (y : Bool). left_on_apdu c service reads (if y && is_ended_by reads e a then None else Some e) free a) dead
    ∙ ap (λ (y : Bool). if (if y then false else true) then idle_reusing c service reads (Some e) free a else server_on_apdu c service (Some e) free a) dead)
reuse_at c service reads e free a true true live is =
    at_live c service (fresh_rules reads None) e free a true live (no_more (is_ended_by reads e a) ∙ is)
    ∙ sym (ends_where c service reads e free live a is)
reuse_at c service reads e free a true false live is =
    at_live c service (fresh_rules reads None) e free a false live (no_more (is_ended_by reads e a) ∙ is)
    ∙ sym (ap (λ (y : Bool). if y then live_on_apdu c service e e.state a else idle_on_apdu c service (Some e) free a) live)
    ∙ sym (goes_on_where c service reads e free live a is)

pub fresh_is_reuse : FreshIsReuse
fresh_is_reuse c service reads None free a = refl
fresh_is_reuse c service reads (Some e) free a = reuse_at c service reads e free a (is_live c.now e) (is_ended_by reads e a) refl refl

-- What is remembered.

not_past : (limit now : ℕ) (e : ServerTransaction) → KEEP ≤ limit → is_live now e ≡ true → nat_lt limit (now - e.begin) ≡ false
not_past limit now e long live = grind (arith, nat_tests, live)

not_forgotten : (limit now : ℕ) (e : ServerTransaction) (a : Apdu) → KEEP ≤ limit → is_live now e ≡ true → is_forgotten (Some limit) now e a ≡ false
not_forgotten limit now e a long live =
    ap (λ (b : Bool). begins_request a && (is_over e.state && b)) (not_past limit now e long live)
    ∙ ap (λ (b : Bool). begins_request a && b) (none_so (is_over e.state)) ∙ none_so (begins_request a)

pub remembers_all : RemembersAll
remembers_all c service rules limit None free a long = refl
remembers_all c service rules limit (Some e) free a long = go (is_live c.now e) refl
  where
    so : ServerRules
    so = record rules { remember = Some limit }

    ever : ServerRules
    ever = record rules { remember = None }

    go : (b : Bool) → is_live c.now e ≡ b → server_hears c service so (Some e) free a ≡ server_hears c service ever (Some e) free a
    go false dead = at_dead c service so e free a dead ∙ sym (at_dead c service ever e free a dead)
    go true live =
        at_live c service so e free a (is_ended ever c.now e a) live
        (ap (λ (f : Bool). is_used_again rules.reads e a || f) (not_forgotten limit c.now e a long live))
        ∙ sym (at_live c service ever e free a (is_ended ever c.now e a) live refl)

pub remembered_ends : (rules : ServerRules) (limit now : ℕ) (o : Option ServerTransaction) (a : Apdu) → KEEP ≤ limit
    → ends_entry (record rules { remember = Some limit }) now o a ≡ ends_entry (record rules { remember = None }) now o a
remembered_ends rules limit now None a long = refl
remembered_ends rules limit now (Some e) a long = go (is_live now e) refl
  where
    go : (b : Bool) → is_live now e ≡ b
        → b && (is_used_again rules.reads e a || is_forgotten (Some limit) now e a) ≡ b && (is_used_again rules.reads e a || false)
    go false dead = refl
    go true live = ap (λ (f : Bool). is_used_again rules.reads e a || f) (not_forgotten limit now e a long live)

not_over_not_forgotten : (remember : Option ℕ) (now : ℕ) (e : ServerTransaction) (a : Apdu) → is_over e.state ≡ false → is_forgotten remember now e a ≡ false
not_over_not_forgotten None now e a over = refl
not_over_not_forgotten (Some limit) now e a over =
    ap (λ (b : Bool). begins_request a && (b && nat_lt limit (now - e.begin))) over ∙ none_so (begins_request a)

module _ (c : Context) (service : Service) (reads : Reads) (remember : Option ℕ) (e : ServerTransaction) (free : Bool)
    (live : is_live c.now e ≡ true) where
  abbrev by : ServerRules
  by = fresh_rules reads remember

  goes_on : (a : Apdu) → is_ended_by reads e a ≡ false → is_forgotten remember c.now e a ≡ false
      → server_hears c service by (Some e) free a ≡ live_on_apdu c service e e.state a
  goes_on a stays kept =
      at_live c service by e free a false live
      (ap (λ (b : Bool). b || is_forgotten remember c.now e a) stays ∙ kept)

  ends_so : (a : Apdu) → is_ended_by reads e a ≡ true → server_hears c service by (Some e) free a ≡ idle_reusing c service reads None free a
  ends_so a ends = at_live c service by e free a true live (ap (λ (b : Bool). b || is_forgotten remember c.now e a) ends)

pub goes_on_as_ever : GoesOnAsEver
goes_on_as_ever = record {
  going = λ c service reads remember e free a live over stays.
      goes_on c service reads remember e free live a (not_over reads e a over stays) (not_over_not_forgotten remember c.now e a over);
  kept = λ c service reads remember e free limits id choice octets live no_read kept remembered.
      goes_on c service reads remember e free live (ConfirmedRequest limits id None choice octets)
      (kept_stays reads e limits id choice octets no_read kept) remembered;
  segments = λ c service reads remember e free limits id choice segment octets live same remembered.
      goes_on c service reads remember e free live (ConfirmedRequest limits id (Some segment) choice octets)
      (segment_stays reads e limits id choice segment octets same) remembered;
}

pub ends_with_its_reply : EndsWithReply
ends_with_its_reply c service reads remember e free (SegmentAck false id ack) live ends =
    ends_so c service reads remember e free live (SegmentAck false id ack) ends
ends_with_its_reply c service reads remember e free (SegmentAck true id ack) live ends = absurd cc
ends_with_its_reply c service reads remember e free (Abort false id reason) live ends =
    ends_so c service reads remember e free live (Abort false id reason) ends
ends_with_its_reply c service reads remember e free (Abort true id reason) live ends = absurd cc
ends_with_its_reply c service reads remember e free _ live ends = absurd cc

pub performs_where_ended : PerformsWhereEnded
performs_where_ended c service rules None free a x is = inl tt
performs_where_ended c service rules (Some e) free a x is = go (is_live c.now e) (is_ended rules c.now e a) refl refl
  where
    go : (l b : Bool) → is_live c.now e ≡ l → is_ended rules c.now e a ≡ b → MayPerform c.now (Some e) ⊎ (ends_entry rules c.now (Some e) a ≡ true)
    go false b dead ended = inl (inl dead)
    go true true live ended = inr (ap (λ (l : Bool). l && is_ended rules c.now e a) live ∙ ended)
    go true false live ended =
        let goes = at_live c service rules e free a false live ended in
        let ever = ap (λ (y : Bool). if y then live_on_apdu c service e e.state a else idle_on_apdu c service (Some e) true a) live in
        inl (effects_are_kept.gets c service (Some e) true a x (ap (λ (r : Reaction). r.effect) (ever ∙ sym goes) ∙ is)).before

-- Reads.

module _ (c : Context) (service : Service) (reads : Reads) (remember : Option ℕ) (free : Bool) (limits : Limits) (id choice : ℕ) (octets : Octets)
    (reply : Reply) (read : reads choice ≡ true) (outcome : service choice octets ≡ Replies reply) (way : reply_way_of c.settings limits reply ≡ InOne) where
  abbrev whole : Apdu
  whole = ConfirmedRequest limits id None choice octets

  abbrev begun : ServerTransaction
  begun = begins c choice limits (Some octets)

  fresh_at : (o : Option ServerTransaction) → idle_reusing c service reads o free whole ≡ fresh_read c o choice octets reply
  fresh_at o =
      ap (λ (b : Bool). if b then reads_so c o free (performs_so c begun [] octets (service choice octets)) else idle_on_request c service o free choice limits octets) read
      ∙ ap (λ (y : Outcome). reads_so c o free (performs_so c begun [] octets y)) outcome
      ∙ ap (λ (y : Way ℕ). reads_so c o free (sends_reply c begun [] octets reply y)) way

  fresh_none : (o : Option ServerTransaction) → is_none_live c.now o ≡ true
      → server_hears c service (fresh_rules reads remember) o free whole ≡ fresh_read c o choice octets reply
  fresh_none None none = fresh_at None
  fresh_none (Some e) none = go (is_live c.now e) refl
    where
      go : (b : Bool) → is_live c.now e ≡ b
          → server_hears c service (fresh_rules reads remember) (Some e) free whole ≡ fresh_read c (Some e) choice octets reply
      go false dead = at_dead c service (fresh_rules reads remember) e free whole dead ∙ fresh_at (Some e)
      go true live = absurd (let no : false ≡ true = sym (ap (λ (y : Bool). if y then false else true) live) ∙ none in cc)

  fresh_over : (e : ServerTransaction) → is_live c.now e ≡ true → is_over e.state ≡ true
      → server_hears c service (fresh_rules reads remember) (Some e) free whole ≡ fresh_read c None choice octets reply
  fresh_over e live over =
      let ends : is_ended_by reads e whole ≡ true =
      ap (λ (y : Bool). y && (reads choice || not (is_kept e e.request choice octets))) over
      ∙ ap (λ (y : Bool). y || not (is_kept e e.request choice octets)) read in
      ends_so c service reads remember e free live whole ends ∙ fresh_at None

pub reads_are_fresh : ReadsAreFresh
reads_are_fresh = record {
  none = λ c service reads remember entry free limits id choice octets reply dead read outcome way.
      fresh_none c service reads remember free limits id choice octets reply read outcome way entry dead;
  over = λ c service reads remember e free limits id choice octets reply live over read outcome way.
      fresh_over c service reads remember free limits id choice octets reply read outcome way e live over;
}

-- Where none may begin.

-- no entry is live once the APDU has ended the one of its key
pub idle_left : (c : Context) (service : Service) (rules : ServerRules) (o : Option ServerTransaction) (free : Bool) (a : Apdu)
    → is_none_live c.now (entry_left rules c.now o a) ≡ true
    → server_hears c service rules o free a ≡ idle_by c service rules.reads (entry_left rules c.now o a) free a
idle_left c service rules None free a none = refl
idle_left c service rules (Some e) free a none = go (is_live c.now e) (is_ended rules c.now e a) refl refl
  where
    left : (l b : Bool) → is_live c.now e ≡ l → is_ended rules c.now e a ≡ b
        → entry_left rules c.now (Some e) a ≡ (if l && b then None else Some e)
    left l b live ended =
        ap (λ (x : Bool). if x && is_ended rules c.now e a then None else Some e) live ∙ ap (λ (x : Bool). if l && x then None else Some e) ended

    go : (l b : Bool) → is_live c.now e ≡ l → is_ended rules c.now e a ≡ b
        → server_hears c service rules (Some e) free a ≡ idle_by c service rules.reads (entry_left rules c.now (Some e) a) free a
    go false b dead ended =
        at_dead c service rules e free a dead
        ∙ sym (ap (λ (o : Option ServerTransaction). idle_by c service rules.reads o free a) (left false b dead ended))
    go true true live ended =
        at_live c service rules e free a true live ended
        ∙ sym (ap (λ (o : Option ServerTransaction). idle_by c service rules.reads o free a) (left true true live ended))
    go true false live ended =
        let there : is_none_live c.now (Some e) ≡ true = sym (ap (is_none_live c.now) (left true false live ended)) ∙ none in
        absurd (let no : false ≡ true = sym (ap (λ (y : Bool). if y then false else true) live) ∙ there in cc)

-- the entry goes on
pub live_left : (c : Context) (service : Service) (rules : ServerRules) (o : Option ServerTransaction) (free other : Bool) (a : Apdu)
    → is_none_live c.now (entry_left rules c.now o a) ≡ false
    → server_hears c service rules o free a ≡ server_hears c service rules o other a
live_left c service rules None free other a some = absurd cc
live_left c service rules (Some e) free other a some = go (is_live c.now e) (is_ended rules c.now e a) refl refl
  where
    go : (l b : Bool) → is_live c.now e ≡ l → is_ended rules c.now e a ≡ b
        → server_hears c service rules (Some e) free a ≡ server_hears c service rules (Some e) other a
    go true false live ended = at_live c service rules e free a false live ended ∙ sym (at_live c service rules e other a false live ended)
    go true true live ended =
        let ends : entry_left rules c.now (Some e) a ≡ None =
        ap (λ (x : Bool). if x && is_ended rules c.now e a then None else Some e) live ∙ ap (λ (x : Bool). if x then None else Some e) ended in
        absurd (let no : true ≡ false = sym (ap (is_none_live c.now) ends) ∙ some in cc)
    go false b dead ended =
        let stays : entry_left rules c.now (Some e) a ≡ Some e = ap (λ (x : Bool). if x && is_ended rules c.now e a then None else Some e) dead in
        absurd (let no : true ≡ false = sym (ap (λ (y : Bool). if y then false else true) dead) ∙ sym (ap (is_none_live c.now) stays) ∙ some in cc)

-- as one that came to the entry that is left
pub on_left : (c : Context) (service : Service) (rules : ServerRules) (o : Option ServerTransaction) (free : Bool) (a : Apdu)
    → is_none_live c.now (entry_left rules c.now o a) ≡ false
    → server_hears c service rules o free a ≡ server_on_apdu c service (entry_left rules c.now o a) free a
on_left c service rules None free a some = absurd cc
on_left c service rules (Some e) free a some = go (is_live c.now e) (is_ended rules c.now e a) refl refl
  where
    go : (l b : Bool) → is_live c.now e ≡ l → is_ended rules c.now e a ≡ b
        → server_hears c service rules (Some e) free a ≡ server_on_apdu c service (entry_left rules c.now (Some e) a) free a
    go true false live ended =
        let stays : entry_left rules c.now (Some e) a ≡ Some e =
        ap (λ (x : Bool). if x && is_ended rules c.now e a then None else Some e) live ∙ ap (λ (x : Bool). if x then None else Some e) ended in
        at_live c service rules e free a false live ended
        ∙ sym (ap (λ (o : Option ServerTransaction). server_on_apdu c service o free a) stays
        ∙ ap (λ (y : Bool). if y then live_on_apdu c service e e.state a else idle_on_apdu c service (Some e) free a) live)
    go true true live ended =
        let ends : entry_left rules c.now (Some e) a ≡ None =
        ap (λ (x : Bool). if x && is_ended rules c.now e a then None else Some e) live ∙ ap (λ (x : Bool). if x then None else Some e) ended in
        absurd (let no : true ≡ false = sym (ap (is_none_live c.now) ends) ∙ some in cc)
    go false b dead ended =
        let stays : entry_left rules c.now (Some e) a ≡ Some e = ap (λ (x : Bool). if x && is_ended rules c.now e a then None else Some e) dead in
        absurd (let no : true ≡ false = sym (ap (λ (y : Bool). if y then false else true) dead) ∙ sym (ap (is_none_live c.now) stays) ∙ some in cc)

right_true : (b : Bool) → b && true ≡ true → b ≡ true
right_true true is = refl
right_true false is = absurd cc

right_false : (b : Bool) → b && true ≡ false → b ≡ false
right_false true is = absurd cc
right_false false is = refl

module _ (c : Context) (service : Service) (dead : Option ServerTransaction) where
  abbrev refused : Reaction
  refused = rests dead (server_abort c OTHER ∷ [])

  kept_away : (a : Apdu) → begins_request a ≡ true → idle_on_apdu c service dead false a ≡ refused
  kept_away (ConfirmedRequest limits id None choice octets) begun = refl
  kept_away (ConfirmedRequest limits id (Some segment) choice octets) begun = ap (λ (b : Bool). if not b then rests dead [] else refused) begun
  kept_away _ begun = absurd cc

  kept_anyway : (a : Apdu) → begins_request a ≡ false → idle_on_apdu c service dead false a ≡ idle_on_apdu c service dead true a
  kept_anyway (ConfirmedRequest limits id None choice octets) begun = absurd cc
  kept_anyway (ConfirmedRequest limits id (Some segment) choice octets) begun =
      ap (λ (b : Bool). if not b then rests dead [] else refused) begun
      ∙ sym (ap (λ (b : Bool). if not b then rests dead [] else request_segment_taken c service (begins c choice limits None) segment.number
      (incoming c.settings.window segment.window).window (takes (incoming c.settings.window segment.window) segment.number segment.more octets)) begun)
  kept_anyway _ begun = refl

  fresh_away : (reads : Reads) (a : Apdu) → begins_request a && not (is_read_in_one c service reads a) ≡ true
      → idle_reusing c service reads dead false a ≡ refused
  fresh_away reads (ConfirmedRequest limits id None choice octets) needs = go (reads choice) (has_transfer r.entry) needs
    where
      r : Reaction
      r = performs c service (begins c choice limits (Some octets)) [] octets

      go : (b h : Bool) → not (b && not h) ≡ true
          → (if b then (if h then refused else record { entry = dead; sends = r.sends; effect = r.effect }) else refused) ≡ refused
      go true true needs = refl
      go true false needs = absurd cc
      go false h needs = refl
  fresh_away reads (ConfirmedRequest limits id (Some segment) choice octets) needs =
      kept_away (ConfirmedRequest limits id (Some segment) choice octets) (right_true (nat_eq segment.number 0) needs)
  fresh_away reads _ needs = absurd cc

  fresh_anyway : (reads : Reads) (a : Apdu) → begins_request a && not (is_read_in_one c service reads a) ≡ false
      → idle_reusing c service reads dead false a ≡ idle_reusing c service reads dead true a
  fresh_anyway reads (ConfirmedRequest limits id None choice octets) needs = go (reads choice) (has_transfer r.entry) needs
    where
      r : Reaction
      r = performs c service (begins c choice limits (Some octets)) [] octets

      go : (b h : Bool) → not (b && not h) ≡ false
          → (if b then (if h then refused else record { entry = dead; sends = r.sends; effect = r.effect }) else refused)
          ≡ (if b then (if h then r else record { entry = dead; sends = r.sends; effect = r.effect }) else r)
      go true true needs = absurd cc
      go true false needs = refl
      go false h needs = absurd cc
  fresh_anyway reads (ConfirmedRequest limits id (Some segment) choice octets) needs =
      kept_anyway (ConfirmedRequest limits id (Some segment) choice octets) (right_false (nat_eq segment.number 0) needs)
  fresh_anyway reads _ needs = refl

  -- where it needs a slot and gets none
  pub away_at : (reads : ReadRule) (a : Apdu) → needs_slot c service reads a ≡ true → idle_by c service reads dead false a ≡ refused
  away_at ReadRule.Kept a needs = kept_away a (right_true (begins_request a) needs)
  away_at (ReadRule.Fresh reads) a needs = fresh_away reads a needs

  -- where it needs none
  pub anyway_at : (reads : ReadRule) (a : Apdu) → needs_slot c service reads a ≡ false
      → idle_by c service reads dead false a ≡ idle_by c service reads dead true a
  anyway_at ReadRule.Kept a needs = kept_anyway a (right_false (begins_request a) needs)
  anyway_at (ReadRule.Fresh reads) a needs = fresh_anyway reads a needs

pub turns_requests_away : TurnsAway
turns_requests_away c service rules o free a is = go (is_none_live c.now left) (needs_slot c service rules.reads a) free refl refl is
  where
    left : Option ServerTransaction
    left = entry_left rules c.now o a

    go : (b n f : Bool) → is_none_live c.now left ≡ b → needs_slot c service rules.reads a ≡ n → b && (n && not f) ≡ true
        → server_hears c service rules o f a ≡ rests left (server_abort c OTHER ∷ [])
    go true true false none needs is = idle_left c service rules o false a none ∙ away_at c service left rules.reads a needs
    go true true true none needs is = absurd cc
    go true false f none needs is = absurd cc
    go false n f none needs is = absurd cc

pub serves_anyway : ServesAnyway
serves_anyway c service rules o free a is = go (is_none_live c.now left) (needs_slot c service rules.reads a) free refl refl is
  where
    left : Option ServerTransaction
    left = entry_left rules c.now o a

    go : (b n f : Bool) → is_none_live c.now left ≡ b → needs_slot c service rules.reads a ≡ n → b && (n && not f) ≡ false
        → server_hears c service rules o f a ≡ server_hears c service rules o true a
    go b n true none needs is = refl
    go true true false none needs is = absurd cc
    go true false false none needs is =
        idle_left c service rules o false a none ∙ anyway_at c service left rules.reads a needs ∙ sym (idle_left c service rules o true a none)
    go false n false some needs is = live_left c service rules o false true a some
