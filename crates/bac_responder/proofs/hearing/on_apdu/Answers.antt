-- A live entry goes on in its slot; without one, the slots are as before.
use Rattle.std.proofs.Common.{◌≡◌, ◌∙◌, refl, sym, subst, ap, ℕ, List, Option, Some, false, true, not}
use Rattle.bac_apdu.specs.Apdu.{Apdu}
use Rattle.bac_apdu.specs.Views.{apdu_view}
use Rattle.bac_slots.specs.declared.slot.Slot.{Slot}
use Rattle.bac_slots.specs.Slots.{value_at}
use Rattle.bac_protocol.specs.Context.{Context}
use Rattle.bac_protocol.specs.Server.{ServerTransaction, is_live, is_none_live}
use Rattle.bac_transaction.specs.Ends.{ServerEnd}
use Rattle.bac_transaction.specs.Keys.{PeerKey, same_key}
use Rattle.bac_transaction.specs.Views.{peer_key_view, code_same_key}
use Rattle.bac_transaction.specs.declared.peer_key.PeerKey.{PeerKey as CodeKey}
use Rattle.bac_transaction.proofs.Keyed.{value_viewed}
use Rattle.bac_transaction.specs.Services.{service_of}
use Rattle.bac_protocol.specs.Serving.{ends_entry, entry_left}
use Rattle.bac_transaction.specs.Sharing.{EndRules}
use Rattle.bac_transaction.specs.Views.{context_view, rules_view, settings_view}
use Rattle.bac_responder.specs.Timers.{IsQuiet}
use Rattle.bac_slots.proofs.Aging.{goes_on}
use Rattle.bac_transaction.proofs.Viewed.{put_back}
use Rattle.bac_responder.specs.Aging.{AreAged, began}
use Rattle.bac_responder.specs.Views.{end_of}
use Rattle.bac_responder.proofs.TimerLaws.{quiet_earlier}
use Rattle.bac_responder.proofs.Hearings.{adds_live_as, dead_ends, dead_left, ended_ends, ended_left, heard_live, heeds_still, hears_still}
use Rattle.bac_responder.proofs.Turned.{live_begun, served_so, served_with, stays_live}
use Rattle.bac_responder.proofs.Sweeps.{none_live, same_end, set_there}
use Rattle.bac_responder.proofs.hearing.on_apdu.Goals as goal

-- Its entry is not live.

pub begin-requires-then-not-is_live-clause-ends : goal.begin-requires-then-not-is_live-clause-ends
begin-requires-then-not-is_live-clause-ends g c =
    let d : ServerTransaction = c.in-Some.slot.now in
    let rules : EndRules = rules_view c.args.told.now.rules in
    let now : ℕ = c.args.told.now.context.moment in
    let a : Apdu = apdu_view c.args.apdu.now in
    let unchanged = put_back ServerTransaction c.args.told.now.context.key d d (g.S.SlotTable.slots c.args.aged.now.table) _ (sym c.in-Some.ensures.value) refl (c.get_mut.follows.holds d).0 in
    let there : value_at code_same_key c.args.told.now.context.key (g.S.SlotTable.slots (c.get_mut.follows.lender d)) ≡ Some d =
    ap (λ (l : List (Slot CodeKey ServerTransaction)). value_at code_same_key c.args.told.now.context.key l) unchanged ∙ sym c.in-Some.ensures.value in
    let dead : is_live now d ≡ false = sym c.is_live.ensures ∙ c.if-not-is_live.true in
    dead_ends rules.machine now d a dead ∙ sym (ap (λ (o : Option ServerTransaction). ends_entry rules.machine now o a) there)

pub begin-requires-then-not-is_live-clause-none : goal.begin-requires-then-not-is_live-clause-none
begin-requires-then-not-is_live-clause-none g c =
    let d : ServerTransaction = c.in-Some.slot.now in
    let rules : EndRules = rules_view c.args.told.now.rules in
    let now : ℕ = c.args.told.now.context.moment in
    let a : Apdu = apdu_view c.args.apdu.now in
    let unchanged = put_back ServerTransaction c.args.told.now.context.key d d (g.S.SlotTable.slots c.args.aged.now.table) _ (sym c.in-Some.ensures.value) refl (c.get_mut.follows.holds d).0 in
    let there : value_at code_same_key c.args.told.now.context.key (g.S.SlotTable.slots (c.get_mut.follows.lender d)) ≡ Some d =
    ap (λ (l : List (Slot CodeKey ServerTransaction)). value_at code_same_key c.args.told.now.context.key l) unchanged ∙ sym c.in-Some.ensures.value in
    let dead : is_live now d ≡ false = sym c.is_live.ensures ∙ c.if-not-is_live.true in
    ap (λ (o : Option ServerTransaction). is_none_live now (entry_left rules.machine now o a)) there ∙ dead_left rules.machine now d a dead

pub begin-requires-then-not-is_live-clause-aged : goal.begin-requires-then-not-is_live-clause-aged
begin-requires-then-not-is_live-clause-aged g c =
    let d : ServerTransaction = c.in-Some.slot.now in
    let rules : EndRules = rules_view c.args.told.now.rules in
    let now : ℕ = c.args.told.now.context.moment in
    let a : Apdu = apdu_view c.args.apdu.now in
    let unchanged = put_back ServerTransaction c.args.told.now.context.key d d (g.S.SlotTable.slots c.args.aged.now.table) _ (sym c.in-Some.ensures.value) refl (c.get_mut.follows.holds d).0 in
    let there : value_at code_same_key c.args.told.now.context.key (g.S.SlotTable.slots (c.get_mut.follows.lender d)) ≡ Some d =
    ap (λ (l : List (Slot CodeKey ServerTransaction)). value_at code_same_key c.args.told.now.context.key l) unchanged ∙ sym c.in-Some.ensures.value in
    subst (λ (l : List (Slot CodeKey ServerTransaction)). AreAged c.args.aged.now.ages l) (sym unchanged) c.requires.aged

pub returns-then-not-is_live-clause-hears : goal.returns-then-not-is_live-clause-hears
returns-then-not-is_live-clause-hears g c =
    let d : ServerTransaction = c.in-Some.slot.now in
    let rules : EndRules = rules_view c.args.told.now.rules in
    let now : ℕ = c.args.told.now.context.moment in
    let a : Apdu = apdu_view c.args.apdu.now in
    let unchanged = put_back ServerTransaction c.args.told.now.context.key d d (g.S.SlotTable.slots c.args.aged.now.table) _ (sym c.in-Some.ensures.value) refl (c.get_mut.follows.holds d).0 in
    let there : value_at code_same_key c.args.told.now.context.key (g.S.SlotTable.slots (c.get_mut.follows.lender d)) ≡ Some d =
    ap (λ (l : List (Slot CodeKey ServerTransaction)). value_at code_same_key c.args.told.now.context.key l) unchanged ∙ sym c.in-Some.ensures.value in
    let same = same_end _ _ _ _ c.args.told.now.restart unchanged (c.get_mut.follows.holds d).1 in
    hears_still rules (settings_view c.args.told.now.context.settings) now (peer_key_view c.args.told.now.context.key) a _ _ c.args.store.now _ _ _ same
    c.begin-then-not-is_live.ensures.hears

pub returns-then-not-is_live-clause-room : goal.returns-then-not-is_live-clause-room
returns-then-not-is_live-clause-room g c =
    let d : ServerTransaction = c.in-Some.slot.now in
    let rules : EndRules = rules_view c.args.told.now.rules in
    let now : ℕ = c.args.told.now.context.moment in
    let a : Apdu = apdu_view c.args.apdu.now in
    let unchanged = put_back ServerTransaction c.args.told.now.context.key d d (g.S.SlotTable.slots c.args.aged.now.table) _ (sym c.in-Some.ensures.value) refl (c.get_mut.follows.holds d).0 in
    let there : value_at code_same_key c.args.told.now.context.key (g.S.SlotTable.slots (c.get_mut.follows.lender d)) ≡ Some d =
    ap (λ (l : List (Slot CodeKey ServerTransaction)). value_at code_same_key c.args.told.now.context.key l) unchanged ∙ sym c.in-Some.ensures.value in
    let same = same_end _ _ _ _ c.args.told.now.restart unchanged (c.get_mut.follows.holds d).1 in
    heeds_still c.args.told.now.room rules (settings_view c.args.told.now.context.settings) now (peer_key_view c.args.told.now.context.key) a _ _ c.args.store.now _ same
    c.begin-then-not-is_live.ensures.room

pub begin-requires-then-is_ended-clause-ends : goal.begin-requires-then-is_ended-clause-ends
begin-requires-then-is_ended-clause-ends g c =
    let d : ServerTransaction = c.in-Some.slot.now in
    let rules : EndRules = rules_view c.args.told.now.rules in
    let now : ℕ = c.args.told.now.context.moment in
    let a : Apdu = apdu_view c.args.apdu.now in
    let unchanged = put_back ServerTransaction c.args.told.now.context.key d d (g.S.SlotTable.slots c.args.aged.now.table) _ (sym c.in-Some.ensures.value) refl (c.get_mut.follows.holds d).0 in
    let there : value_at code_same_key c.args.told.now.context.key (g.S.SlotTable.slots (c.get_mut.follows.lender d)) ≡ Some d =
    ap (λ (l : List (Slot CodeKey ServerTransaction)). value_at code_same_key c.args.told.now.context.key l) unchanged ∙ sym c.in-Some.ensures.value in
    let live : is_live now d ≡ true = sym c.is_live.ensures ∙ c.if-not-is_live.false in
    let ended = sym c.is_ended.ensures ∙ c.if-is_ended.true in
    ended_ends rules.machine now d a live ended ∙ sym (ap (λ (o : Option ServerTransaction). ends_entry rules.machine now o a) there)

pub begin-requires-then-is_ended-clause-none : goal.begin-requires-then-is_ended-clause-none
begin-requires-then-is_ended-clause-none g c =
    let d : ServerTransaction = c.in-Some.slot.now in
    let rules : EndRules = rules_view c.args.told.now.rules in
    let now : ℕ = c.args.told.now.context.moment in
    let a : Apdu = apdu_view c.args.apdu.now in
    let unchanged = put_back ServerTransaction c.args.told.now.context.key d d (g.S.SlotTable.slots c.args.aged.now.table) _ (sym c.in-Some.ensures.value) refl (c.get_mut.follows.holds d).0 in
    let there : value_at code_same_key c.args.told.now.context.key (g.S.SlotTable.slots (c.get_mut.follows.lender d)) ≡ Some d =
    ap (λ (l : List (Slot CodeKey ServerTransaction)). value_at code_same_key c.args.told.now.context.key l) unchanged ∙ sym c.in-Some.ensures.value in
    let live : is_live now d ≡ true = sym c.is_live.ensures ∙ c.if-not-is_live.false in
    let ended = sym c.is_ended.ensures ∙ c.if-is_ended.true in
    ap (λ (o : Option ServerTransaction). is_none_live now (entry_left rules.machine now o a)) there ∙ ended_left rules.machine now d a live ended

pub begin-requires-then-is_ended-clause-aged : goal.begin-requires-then-is_ended-clause-aged
begin-requires-then-is_ended-clause-aged g c =
    let d : ServerTransaction = c.in-Some.slot.now in
    let rules : EndRules = rules_view c.args.told.now.rules in
    let now : ℕ = c.args.told.now.context.moment in
    let a : Apdu = apdu_view c.args.apdu.now in
    let unchanged = put_back ServerTransaction c.args.told.now.context.key d d (g.S.SlotTable.slots c.args.aged.now.table) _ (sym c.in-Some.ensures.value) refl (c.get_mut.follows.holds d).0 in
    let there : value_at code_same_key c.args.told.now.context.key (g.S.SlotTable.slots (c.get_mut.follows.lender d)) ≡ Some d =
    ap (λ (l : List (Slot CodeKey ServerTransaction)). value_at code_same_key c.args.told.now.context.key l) unchanged ∙ sym c.in-Some.ensures.value in
    subst (λ (l : List (Slot CodeKey ServerTransaction)). AreAged c.args.aged.now.ages l) (sym unchanged) c.requires.aged

pub returns-then-is_ended-clause-hears : goal.returns-then-is_ended-clause-hears
returns-then-is_ended-clause-hears g c =
    let d : ServerTransaction = c.in-Some.slot.now in
    let rules : EndRules = rules_view c.args.told.now.rules in
    let now : ℕ = c.args.told.now.context.moment in
    let a : Apdu = apdu_view c.args.apdu.now in
    let unchanged = put_back ServerTransaction c.args.told.now.context.key d d (g.S.SlotTable.slots c.args.aged.now.table) _ (sym c.in-Some.ensures.value) refl (c.get_mut.follows.holds d).0 in
    let there : value_at code_same_key c.args.told.now.context.key (g.S.SlotTable.slots (c.get_mut.follows.lender d)) ≡ Some d =
    ap (λ (l : List (Slot CodeKey ServerTransaction)). value_at code_same_key c.args.told.now.context.key l) unchanged ∙ sym c.in-Some.ensures.value in
    let same = same_end _ _ _ _ c.args.told.now.restart unchanged (c.get_mut.follows.holds d).1 in
    hears_still rules (settings_view c.args.told.now.context.settings) now (peer_key_view c.args.told.now.context.key) a _ _ c.args.store.now _ _ _ same
    c.begin-then-is_ended.ensures.hears

pub returns-then-is_ended-clause-room : goal.returns-then-is_ended-clause-room
returns-then-is_ended-clause-room g c =
    let d : ServerTransaction = c.in-Some.slot.now in
    let rules : EndRules = rules_view c.args.told.now.rules in
    let now : ℕ = c.args.told.now.context.moment in
    let a : Apdu = apdu_view c.args.apdu.now in
    let unchanged = put_back ServerTransaction c.args.told.now.context.key d d (g.S.SlotTable.slots c.args.aged.now.table) _ (sym c.in-Some.ensures.value) refl (c.get_mut.follows.holds d).0 in
    let there : value_at code_same_key c.args.told.now.context.key (g.S.SlotTable.slots (c.get_mut.follows.lender d)) ≡ Some d =
    ap (λ (l : List (Slot CodeKey ServerTransaction)). value_at code_same_key c.args.told.now.context.key l) unchanged ∙ sym c.in-Some.ensures.value in
    let same = same_end _ _ _ _ c.args.told.now.restart unchanged (c.get_mut.follows.holds d).1 in
    heeds_still c.args.told.now.room rules (settings_view c.args.told.now.context.settings) now (peer_key_view c.args.told.now.context.key) a _ _ c.args.store.now _ same
    c.begin-then-is_ended.ensures.room

-- It is live and goes on.

pub returns-in-Ok-Some-clause-hears : goal.returns-in-Ok-Some-clause-hears
returns-in-Ok-Some-clause-hears g c =
    let key : CodeKey = c.args.told.now.context.key in
    let now : ℕ = c.args.told.now.context.moment in
    let rules : EndRules = rules_view c.args.told.now.rules in
    let a : Apdu = apdu_view c.args.apdu.now in
    let slots : List (Slot CodeKey ServerTransaction) = g.S.SlotTable.slots c.args.aged.now.table in
    let capacity : ℕ = g.S.SlotTable.capacity c.args.aged.now.table in
    let e : ServerEnd = end_of slots capacity c.args.told.now.restart in
    let k : PeerKey = peer_key_view key in
    let set : Context = context_view c.args.told.now.context in
    let d : ServerTransaction = c.in-Some.slot.now in
    let x : ServerTransaction = c.goes_on.new.self in
    let alive : is_live now d ≡ true = sym c.is_live.ensures ∙ c.if-not-is_live.false in
    let goes = sym c.is_ended.ensures ∙ c.if-is_ended.false in
    let seen : value_at same_key k e.slots ≡ Some d = sym (value_viewed ServerTransaction key slots) ∙ sym c.in-Some.ensures.value in
    let live : is_none_live now (value_at same_key k e.slots) ≡ false = ap (is_none_live now) seen ∙ none_live now d ∙ ap not alive in
    let did = rw c.in-Ok-Some.field-0-is at c.in-Ok-Some.ensures.does in
    let stays = stays_live set (service_of c.args.store.now) d x a alive did.entry_is in
    let put = set_there now key x slots _ (c.get_mut.follows.holds x).0 in
    let r = served_so now e k _ _ c.args.store.now _ x false _ _ _ refl did stays live put in
    let all = served_with _ c.args.store.now _ _ _ _ _ _ _ r c.served.ensures.sends c.served.ensures.act
    (ap (λ (n : ℕ). end_of (g.S.SlotTable.slots (c.get_mut.follows.lender x)) n c.args.told.now.restart) (c.get_mut.follows.holds x).1) in
    heard_live rules (settings_view c.args.told.now.context.settings) now key a slots capacity c.args.told.now.restart c.args.store.now d seen alive goes _ _ _ _ _
    c.served.ensures.away all

pub returns-in-Ok-Some-clause-room : goal.returns-in-Ok-Some-clause-room
returns-in-Ok-Some-clause-room g c = λ none.
    let key : CodeKey = c.args.told.now.context.key in
    let now : ℕ = c.args.told.now.context.moment in
    let slots : List (Slot CodeKey ServerTransaction) = g.S.SlotTable.slots c.args.aged.now.table in
    let d : ServerTransaction = c.in-Some.slot.now in
    let alive : is_live now d ≡ true = sym c.is_live.ensures ∙ c.if-not-is_live.false in
    let goes = sym c.is_ended.ensures ∙ c.if-is_ended.false in
    let seen = sym (value_viewed ServerTransaction key slots) ∙ sym c.in-Some.ensures.value in
    let heeds = rw c.in-Ok-Some.field-0-is at c.in-Ok-Some.ensures.room in
    adds_live_as (rules_view c.args.told.now.rules) (settings_view c.args.told.now.context.settings) now key (apdu_view c.args.apdu.now) slots
    (g.S.SlotTable.capacity c.args.aged.now.table) c.args.told.now.restart c.args.store.now d seen alive goes ∙ heeds none

pub returns-in-Ok-Some-clause-aged : goal.returns-in-Ok-Some-clause-aged
returns-in-Ok-Some-clause-aged g c =
    let key : CodeKey = c.args.told.now.context.key in
    let now : ℕ = c.args.told.now.context.moment in
    let slots : List (Slot CodeKey ServerTransaction) = g.S.SlotTable.slots c.args.aged.now.table in
    let d : ServerTransaction = c.in-Some.slot.now in
    let x : ServerTransaction = c.goes_on.new.self in
    let alive : is_live now d ≡ true = sym c.is_live.ensures ∙ c.if-not-is_live.false in
    let at : value_at code_same_key key slots ≡ Some d = sym c.in-Some.ensures.value in
    let did = rw c.in-Ok-Some.field-0-is at c.in-Ok-Some.ensures.does in
    let begun = live_begun (context_view c.args.told.now.context) (service_of c.args.store.now) d x (apdu_view c.args.apdu.now) alive did.entry_is in
    goes_on CodeKey ServerTransaction began IsQuiet code_same_key quiet_earlier c.args.aged.now.ages _ c.due-due.result key d x slots _ at begun c.due-due.ensures.quiet
    (c.get_mut.follows.holds x).0 c.comes_due.ensures c.requires.aged

-- Memory has no room.

pub returns-in-Ok-None-clause-hears : goal.returns-in-Ok-None-clause-hears
returns-in-Ok-None-clause-hears g c =
    let did = rw c.in-Ok-None.field-0-is at c.in-Ok-None.ensures.does in
    let d : ServerTransaction = c.in-Some.slot.now in
    let x : ServerTransaction = c.goes_on.new.self in
    let unchanged = put_back ServerTransaction c.args.told.now.context.key d x (g.S.SlotTable.slots c.args.aged.now.table) _ (sym c.in-Some.ensures.value)
    did.0 (c.get_mut.follows.holds x).0 in (
      same_end _ _ _ _ c.args.told.now.restart unchanged (c.get_mut.follows.holds x).1,
      did.1,
    )

pub returns-in-Ok-None-clause-aged : goal.returns-in-Ok-None-clause-aged
returns-in-Ok-None-clause-aged g c =
    let did = rw c.in-Ok-None.field-0-is at c.in-Ok-None.ensures.does in
    let d : ServerTransaction = c.in-Some.slot.now in
    let x : ServerTransaction = c.goes_on.new.self in
    let unchanged = put_back ServerTransaction c.args.told.now.context.key d x (g.S.SlotTable.slots c.args.aged.now.table) _ (sym c.in-Some.ensures.value)
    did.0 (c.get_mut.follows.holds x).0 in
    subst (λ (y : List (Slot CodeKey ServerTransaction)). AreAged c.args.aged.now.ages y) (sym unchanged) c.requires.aged

pub returns-in-Ok-None-clause-room : goal.returns-in-Ok-None-clause-room
returns-in-Ok-None-clause-room g c =
    let heeds = rw c.in-Ok-None.field-0-is at c.in-Ok-None.ensures.room in
    let key : CodeKey = c.args.told.now.context.key in
    let now : ℕ = c.args.told.now.context.moment in
    let slots : List (Slot CodeKey ServerTransaction) = g.S.SlotTable.slots c.args.aged.now.table in
    let d : ServerTransaction = c.in-Some.slot.now in
    let alive : is_live now d ≡ true = sym c.is_live.ensures ∙ c.if-not-is_live.false in
    let goes = sym c.is_ended.ensures ∙ c.if-is_ended.false in
    let seen = sym (value_viewed ServerTransaction key slots) ∙ sym c.in-Some.ensures.value in (
      heeds.0,
      adds_live_as (rules_view c.args.told.now.rules) (settings_view c.args.told.now.context.settings) now key (apdu_view c.args.apdu.now) slots
          (g.S.SlotTable.capacity c.args.aged.now.table) c.args.told.now.restart c.args.store.now d seen alive goes
          ∙ heeds.1,
    )

-- Memory was refused.

pub returns-in-Err-clause-hears : goal.returns-in-Err-clause-hears
returns-in-Err-clause-hears g c =
    let d : ServerTransaction = c.in-Some.slot.now in
    let x : ServerTransaction = c.goes_on.new.self in
    let unchanged = put_back ServerTransaction c.args.told.now.context.key d x (g.S.SlotTable.slots c.args.aged.now.table) _ (sym c.in-Some.ensures.value)
    c.in-Err.ensures.does.0 (c.get_mut.follows.holds x).0 in (
      same_end _ _ _ _ c.args.told.now.restart unchanged (c.get_mut.follows.holds x).1,
      c.in-Err.ensures.does.1,
    )

pub returns-in-Err-clause-aged : goal.returns-in-Err-clause-aged
returns-in-Err-clause-aged g c =
    let d : ServerTransaction = c.in-Some.slot.now in
    let x : ServerTransaction = c.goes_on.new.self in
    let unchanged = put_back ServerTransaction c.args.told.now.context.key d x (g.S.SlotTable.slots c.args.aged.now.table) _ (sym c.in-Some.ensures.value)
    c.in-Err.ensures.does.0 (c.get_mut.follows.holds x).0 in
    subst (λ (y : List (Slot CodeKey ServerTransaction)). AreAged c.args.aged.now.ages y) (sym unchanged) c.requires.aged
