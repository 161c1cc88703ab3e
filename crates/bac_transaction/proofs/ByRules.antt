-- The server's end by its rules.
use Rattle.std.proofs.Common.{[], ◌∷◌, ◌≡◌, ◌<◌, ◌≤◌, ℕ, ◌+◌, ◌-◌, ◌*◌, Bool, true, false, ◌&&◌, ◌||◌, not, List, length, Option, Some, None, if◌then◌else◌, nat_lt, count_by}
use Rattle.std.proofs.Common.{refl, ap, sym, ◌∙◌, arith}
use Rattle.std.proofs.lemmas.Bool.Decides.{nat_tests}
use Rattle.std.proofs.lemmas.List.Sums.{count_by-le-length}
use Rattle.bac_apdu.specs.Apdu.{Apdu}
use Rattle.bac_npdu.specs.Peers.{PeerView}
use Rattle.bac_slots.specs.Slots.{value_at, without}
use Rattle.bac_protocol.specs.Context.{Context, Settings}
use Rattle.bac_protocol.specs.Reuse as reuse
use Rattle.bac_protocol.specs.Reuse.{is_ended_by}
use Rattle.bac_protocol.specs.Server.{Reaction, ServerTransaction, Service, is_live, is_none_live, rests, server_abort}
use Rattle.bac_protocol.specs.Service.{OTHER}
use Rattle.bac_protocol.specs.Serving as machine
use Rattle.bac_protocol.specs.Serving.{ServerRules, ends_entry, entry_left, needs_slot, server_hears}
use Rattle.bac_protocol.proofs.ByRules.{fresh_is_reuse, remembered_ends, remembers_all as machine_remembers_all, strict_is_server, turns_requests_away}
use Rattle.bac_transaction.specs.Ends.{ServerEnd, ServerSlot, ServerTurn, act_at, context_of, is_free, is_slot_live, key_of, put_entry, server_goes, waits_to_serve}
use Rattle.bac_transaction.specs.Keys.{PeerKey, same_key}
use Rattle.bac_transaction.specs.Reuse.{is_read, slots_left}
use Rattle.bac_transaction.specs.Serving.{end_left, has_place, is_turned_away_by, responder_by}
use Rattle.bac_transaction.specs.Sharing.{EndRules, address_of, free_slots, has_share, held_at, may_begin}
use Rattle.bac_transaction.specs.Sends.{to_all}
use Rattle.bac_transaction.specs.ServingLaws.{FreshIsReusing, RemembersAll, SharesSlots, StrictIsResponder, TurnsAwayBy}
use Rattle.bac_transaction.specs.Tables.{IsOrderlyServer, IsTurnedAway}
use Rattle.bac_transaction.proofs.ServerTables.{dead_stays, has_space}

none_so : (b : Bool) → b && false ≡ false
none_so true = refl
none_so false = refl

no_more : (b : Bool) → b || false ≡ b
no_more true = refl
no_more false = refl

-- The strict rules.

strict_ends : (now : ℕ) (o : Option ServerTransaction) (a : Apdu) → ends_entry machine.STRICT now o a ≡ false
strict_ends now None a = refl
strict_ends now (Some d) a = none_so (is_live now d)

pub strict_is_responder : StrictIsResponder
strict_is_responder c now service peer a e =
    let key : PeerKey = key_of peer a in
    let o : Option ServerTransaction = value_at same_key key e.slots in
    let turn : ServerEnd → ServerTurn = λ left. server_goes now left key (server_hears (context_of c now key) service machine.STRICT o (is_free now left) a) in
    ap (λ (b : Bool). turn (record e { slots = slots_left b key e.slots })) (strict_ends now o a)
    ∙ ap (λ (r : Reaction). server_goes now e key r) (strict_is_server (context_of c now key) service o (is_free now e) a)

-- Fresh reads.

fresh_ends : (now : ℕ) (o : Option ServerTransaction) (a : Apdu) → ends_entry (machine.fresh_rules is_read None) now o a ≡ reuse.ends_entry is_read now o a
fresh_ends now None a = refl
fresh_ends now (Some d) a = ap (λ (b : Bool). is_live now d && b) (no_more (is_ended_by is_read d a))

pub fresh_is_reusing : FreshIsReusing
fresh_is_reusing share c now service peer a e =
    let key : PeerKey = key_of peer a in
    let o : Option ServerTransaction = value_at same_key key e.slots in
    let by : ServerRules = machine.fresh_rules is_read None in
    let ends : Bool = reuse.ends_entry is_read now o a in
    let rest : Bool → ServerEnd = λ b. record e { slots = slots_left b key e.slots } in
    let turn : Bool → ServerTurn = λ b. server_goes now (rest b) key (server_hears (context_of c now key) service by o (may_begin share b now key (rest b)) a) in
    ap turn (fresh_ends now o a)
    ∙ ap (λ (r : Reaction). server_goes now (rest ends) key r) (fresh_is_reuse (context_of c now key) service is_read o (may_begin share ends now key (rest ends)) a)

-- What is remembered.

pub remembers_all : RemembersAll
remembers_all rules limit c now service peer a e long =
    let key : PeerKey = key_of peer a in
    let o : Option ServerTransaction = value_at same_key key e.slots in
    let so : ServerRules = record rules.machine { remember = Some limit } in
    let ever : ServerRules = record rules.machine { remember = None } in
    let ends : Bool = ends_entry ever now o a in
    let rest : Bool → ServerEnd = λ b. record e { slots = slots_left b key e.slots } in
    let turn : Bool → ServerTurn = λ b. server_goes now (rest b) key (server_hears (context_of c now key) service so o (may_begin rules.share b now key (rest b)) a) in
    ap turn (remembered_ends rules.machine limit now o a long)
    ∙ ap (λ (r : Reaction). server_goes now (rest ends) key r)
    (machine_remembers_all (context_of c now key) service rules.machine limit o (may_begin rules.share ends now key (rest ends)) a long)

-- What is turned away.

both : (n d f : Bool) → n && (d && not f) ≡ true → (n ≡ true) × (f ≡ false)
both true true false is = (refl, refl)
both true true true is = absurd cc
both true false f is = absurd cc
both false d f is = absurd cc

module _ (rules : EndRules) (c : Settings) (now : ℕ) (service : Service) (peer : PeerView) (a : Apdu) (e : ServerEnd)
    (away : is_turned_away_by rules c now service peer a e ≡ true) where
  abbrev key : PeerKey
  key = key_of peer a

  abbrev at : Context
  at = context_of c now key

  abbrev old : Option ServerTransaction
  old = value_at same_key key e.slots

  abbrev rest : ServerEnd
  rest = end_left rules.machine now key a e

  abbrev free : Bool
  free = has_place rules now key a e

  parts : (is_none_live now (entry_left rules.machine now old a) ≡ true) × (free ≡ false)
  parts = both (is_none_live now (entry_left rules.machine now old a)) (needs_slot at service rules.machine.reads a) free away

  is : server_hears at service rules.machine old free a ≡ rests (entry_left rules.machine now old a) (server_abort at OTHER ∷ [])
  is = turns_requests_away at service rules.machine old free a away

  pub away_is : IsTurnedAway peer a rest (responder_by rules c now service peer a e)
  away_is = record {
    end = ap (λ (r : Reaction). record rest { slots = put_entry now key r.entry rest.slots }) is
        ∙ ap (λ (l : List ServerSlot). record rest { slots = l }) (dead_stays now key (entry_left rules.machine now old a) rest.slots parts.0);
    sends = ap (λ (r : Reaction). to_all peer r.sends) is;
    act = ap (λ (r : Reaction). act_at key r.effect) is;
  }

  pub away_full : has_place rules now key a e ≡ false
  away_full = parts.1

-- an entry that ends leaves a slot without a live one

ended_there : (rules : ServerRules) (now : ℕ) (o : Option ServerTransaction) (a : Apdu) → ends_entry rules now o a ≡ true
    → (d : ServerTransaction) × (o ≡ Some d)
ended_there rules now None a ends = absurd cc
ended_there rules now (Some d) a ends = (d, refl)

shorter : (key : PeerKey) (slots : List ServerSlot) (d : ServerTransaction) → value_at same_key key slots ≡ Some d
    → length (without same_key key slots) + 1 ≡ length slots
shorter key [] d there = absurd cc
shorter key (s ∷ slots) d there = go (same_key s.key key) there (shorter key slots d)
  where
    go : (b : Bool) → (if b then Some s.value else value_at same_key key slots) ≡ Some d
        → (value_at same_key key slots ≡ Some d → length (without same_key key slots) + 1 ≡ length slots)
        → length (if b then slots else s ∷ without same_key key slots) + 1 ≡ length (s ∷ slots)
    go true there again = omega arith
    go false there again = let less = again there in omega (arith, less)

pub left_free : (rules : ServerRules) (now : ℕ) (key : PeerKey) (a : Apdu) (e : ServerEnd) → length e.slots ≤ e.capacity
    → ends_entry rules now (value_at same_key key e.slots) a ≡ true
    → nat_lt (count_by (is_slot_live now) (without same_key key e.slots)) e.capacity ≡ true
left_free rules now key a e within ends =
    let d = ended_there rules now (value_at same_key key e.slots) a ends in
    let less = shorter key e.slots d.0 d.1 in
    let few = count_by-le-length (is_slot_live now) (without same_key key e.slots) in
    let below : count_by (is_slot_live now) (without same_key key e.slots) < e.capacity = omega (arith, less, few, within) in
    grind (arith, nat_tests, below)

in_its_slot : (share free : Bool) (has : Bool) → free ≡ true → (not share || (true || has)) && free ≡ true
in_its_slot true free has is = is
in_its_slot false free has is = is

pub stays_where_turned_away : (rules : EndRules) (c : Settings) (now : ℕ) (service : Service) (peer : PeerView) (a : Apdu) (e : ServerEnd) → IsOrderlyServer e
    → waits_to_serve now e ≡ false → is_turned_away_by rules c now service peer a e ≡ true → end_left rules.machine now (key_of peer a) a e ≡ e
stays_where_turned_away rules c now service peer a e orderly waits away =
    go (ends_entry rules.machine now o a) refl (away_full rules c now service peer a e away)
  where
    key : PeerKey
    key = key_of peer a

    o : Option ServerTransaction
    o = value_at same_key key e.slots

    rest : Bool → ServerEnd
    rest b = record e { slots = slots_left b key e.slots }

    go : (b : Bool) → ends_entry rules.machine now o a ≡ b → may_begin rules.share (ends_entry rules.machine now o a) now key (rest (ends_entry rules.machine now o a)) ≡ false
        → rest (ends_entry rules.machine now o a) ≡ e
    go false stays full = ap rest stays
    go true ends full =
        let free = left_free rules.machine now key a e orderly.within ends in
        let there : is_free now (rest true) ≡ true = ap (λ (b : Bool). b && not (waits_to_serve now e)) free ∙ ap not waits in
        let place : may_begin rules.share true now key (rest true) ≡ true =
        in_its_slot rules.share (is_free now (rest true)) (has_share now (address_of key.peer.link) (rest true)) there in
        absurd (let no : true ≡ false = sym place ∙ ap (λ (b : Bool). may_begin rules.share b now key (rest b)) (sym ends) ∙ full in cc)

pub turns_away_by : TurnsAwayBy
turns_away_by = record {
  away = away_is;
  full = away_full;
  strict = λ rules now peer a e off. ap
      (λ (b : Bool). may_begin b (ends_entry rules.machine now (value_at same_key (key_of peer a) e.slots) a) now (key_of peer a)
      (end_left rules.machine now (key_of peer a) a e)) off;
  stays = stays_where_turned_away;
}

-- Shares.

may : (share ends has free : Bool) → has ≡ true → free ≡ true → (not share || (ends || has)) && free ≡ true
may true true has free h f = f
may true false true free h f = f
may true false false free h f = absurd cc
may false ends has free h f = f

served_then : (none needs free : Bool) → free ≡ true → none && (needs && not free) ≡ false
served_then true true true is = refl
served_then true false free is = refl
served_then false needs free is = refl
served_then true true false is = absurd cc

pub shares_slots : SharesSlots
shares_slots = record {
  served = λ rules c now service peer a e has free.
      let key : PeerKey = key_of peer a in
      let o : Option ServerTransaction = value_at same_key key e.slots in
      let place : has_place rules now key a e ≡ true =
      may rules.share (ends_entry rules.machine now o a) (has_share now (address_of peer.link) (end_left rules.machine now key a e))
      (is_free now (end_left rules.machine now key a e)) has free in
      served_then (is_none_live now (entry_left rules.machine now o a)) (needs_slot (context_of c now key) service rules.machine.reads a)
      (has_place rules now key a e) place;
  first = λ now address e none. grind (arith, nat_tests, none);
  last = λ now address e has some. let most : held_at now address e ≤ 15 * (free_slots now e - 1) = grind (arith, nat_tests, has) in omega (arith, most, some);
  alone = λ now address e has free all.
      let most : held_at now address e ≤ 15 * (free_slots now e - 1) = grind (arith, nat_tests, has) in
      let space = has_space now e free in
      let less : count_by (is_slot_live now) e.slots < e.capacity = grind (arith, nat_tests, space) in
      omega (arith, most, less, all);
}
