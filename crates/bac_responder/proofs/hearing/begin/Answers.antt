-- No entry is live, or the one that is ends.
use Rattle.std.proofs.Common.{◌≡◌, ◌≤◌, ◌∙◌, refl, sym, ap, subst, ℕ, List, Some, None, Bool, true, ◌++◌, ◌∷◌, [], filter}
use Rattle.std.specs.Prelude.{MatchOption}
use Rattle.bac_apdu.specs.Apdu.{Apdu}
use Rattle.bac_apdu.specs.Views.{apdu_view}
use Rattle.bac_slots.specs.declared.ages.Ages.{Ages}
use Rattle.bac_slots.specs.declared.slot.Slot.{Slot}
use Rattle.bac_slots.specs.Slots.{value_at}
use Rattle.bac_slots.proofs.Aging.{stays_known}
use Rattle.bac_store.specs.Stores.{Store}
use Rattle.bac_protocol.specs.Context.{Settings}
use Rattle.bac_protocol.specs.Server.{ServerTransaction, is_live, is_none_live}
use Rattle.bac_transaction.specs.Ends.{ServerEnd, is_free}
use Rattle.bac_transaction.specs.Keys.{same_key}
use Rattle.bac_transaction.specs.Sharing.{EndRules, may_begin}
use Rattle.bac_transaction.specs.Views.{code_same_key, peer_key_view, rules_view, settings_view, slots_view}
use Rattle.bac_transaction.specs.declared.peer_key.PeerKey.{PeerKey as CodeKey}
use Rattle.bac_transaction.proofs.Keyed.{value_viewed}
use Rattle.bac_responder.specs.Hearing.{code_slots_left}
use Rattle.bac_responder.specs.Views.{end_of}
use Rattle.bac_responder.proofs.Hearings.{adds_as, both_true, heard, hears_as, left, none_left, passed}
use Rattle.bac_responder.proofs.Sweeps.{entered, keep_none, room, same_end}
use Rattle.bac_responder.proofs.Turned.{begun_live, served_so, served_with}
use Rattle.bac_responder.proofs.hearing.begin.Goals as goal

-- Memory has no room.

pub returns-in_default-clause-room : goal.returns-in_default-clause-room
returns-in_default-clause-room g c =
    let key : CodeKey = c.args.told.now.context.key in
    let now : ℕ = c.args.told.now.context.moment in
    let rules : EndRules = rules_view c.args.told.now.rules in
    let set : Settings = settings_view c.args.told.now.context.settings in
    let slots : List (Slot CodeKey ServerTransaction) = g.S.SlotTable.slots c.args.aged.now.table in
    let capacity : ℕ = g.S.SlotTable.capacity c.args.aged.now.table in
    let a : Apdu = apdu_view c.args.apdu.now in
    let told = rw c.in_default.is at c.in_ok-begun.ensures.room in (
      told.0,
      adds_as rules set now key a slots capacity c.args.told.now.restart c.args.ends c.args.store.now c.requires.ends c.requires.none ∙ told.1,
    )

-- None begins.

pub returns-in-None-clause-hears : goal.returns-in-None-clause-hears
returns-in-None-clause-hears g c =
    let key : CodeKey = c.args.told.now.context.key in
    let now : ℕ = c.args.told.now.context.moment in
    let rules : EndRules = rules_view c.args.told.now.rules in
    let set : Settings = settings_view c.args.told.now.context.settings in
    let slots : List (Slot CodeKey ServerTransaction) = g.S.SlotTable.slots c.args.aged.now.table in
    let capacity : ℕ = g.S.SlotTable.capacity c.args.aged.now.table in
    let a : Apdu = apdu_view c.args.apdu.now in
    let ends : Bool = c.args.ends in
    let s : Store = c.args.store.now in
    let asked = c.has_place_left.ensures in
    let told = rw c.in-Some.is at c.in_ok-begun.ensures.away in
    let did = rw c.in-None.is at (rw c.in-Some.is at c.in_ok-begun.ensures.does) in
    let turn = passed rules set now key a slots capacity c.args.told.now.restart ends s c.requires.ends c.requires.none c.has_place_left.result asked _ _ _
    (did (left rules set now key a slots capacity c.args.told.now.restart ends s c.requires.ends c.requires.none)) in
    let all = served_with _ s _ _ _ _ _ _ _ turn c.served.ensures.sends c.served.ensures.act
    (same_end _ _ _ _ c.args.told.now.restart c.end_entry.ensures.slots c.end_entry.ensures.same) in
    heard rules set now key a slots capacity c.args.told.now.restart ends s c.requires.ends c.requires.none c.has_place_left.result c.served.result.turned_away asked
    (c.served.ensures.away ∙ told) _ _ _ _ all

pub returns-in-None-clause-room : goal.returns-in-None-clause-room
returns-in-None-clause-room g c = λ none.
    let key : CodeKey = c.args.told.now.context.key in
    let slots : List (Slot CodeKey ServerTransaction) = g.S.SlotTable.slots c.args.aged.now.table in
    let told = rw c.in-Some.is at c.in_ok-begun.ensures.room in
    adds_as (rules_view c.args.told.now.rules) (settings_view c.args.told.now.context.settings) c.args.told.now.context.moment key (apdu_view c.args.apdu.now) slots
    (g.S.SlotTable.capacity c.args.aged.now.table) c.args.told.now.restart c.args.ends c.args.store.now c.requires.ends c.requires.none ∙ told none

-- One begins.

pub returns-in-Some-entry-clause-hears : goal.returns-in-Some-entry-clause-hears
returns-in-Some-entry-clause-hears g c =
    let key : CodeKey = c.args.told.now.context.key in
    let now : ℕ = c.args.told.now.context.moment in
    let rules : EndRules = rules_view c.args.told.now.rules in
    let set : Settings = settings_view c.args.told.now.context.settings in
    let slots : List (Slot CodeKey ServerTransaction) = g.S.SlotTable.slots c.args.aged.now.table in
    let capacity : ℕ = g.S.SlotTable.capacity c.args.aged.now.table in
    let a : Apdu = apdu_view c.args.apdu.now in
    let ends : Bool = c.args.ends in
    let s : Store = c.args.store.now in
    let asked = c.has_place_left.ensures in
    let told = rw c.in-Some.is at c.in_ok-begun.ensures.away in
    let x : ServerTransaction = c.in-Some-entry.transaction in
    let did = rw c.in-Some-entry.is at (rw c.in-Some.is at c.in_ok-begun.ensures.does) in
    let begin = rw c.in-Some-entry.is at (rw c.in-Some.is at c.in_ok-begun.ensures.begin) in
    let gone = none_left rules.machine now key a slots _ ends c.requires.ends c.end_entry.ensures.slots c.end_entry.ensures.absent c.requires.none in
    let rest : List (Slot CodeKey ServerTransaction) = code_slots_left ends key slots in
    let none : is_none_live now (value_at same_key (peer_key_view key) (slots_view rest)) ≡ true =
    ap (is_none_live now) (sym (value_viewed ServerTransaction key rest))
    ∙ ap (λ (l : List (Slot CodeKey ServerTransaction)). is_none_live now (value_at code_same_key key l)) (sym c.end_entry.ensures.slots) ∙ gone in
    let put = c.enter.ensures.slots
    ∙ ap (λ (l : List (Slot CodeKey ServerTransaction)). filter (λ s. is_live now s.value) l ++ record { key = key; begin = now; value = x } ∷ []) c.end_entry.ensures.slots in
    let turn = served_so now (end_of rest capacity c.args.told.now.restart) (peer_key_view key) _ _ s _ x true _ _ _
    (hears_as rules set now key a slots capacity c.args.told.now.restart ends s c.requires.ends c.requires.none c.has_place_left.result asked)
    (did (left rules set now key a slots capacity c.args.told.now.restart ends s c.requires.ends c.requires.none))
    (begun_live now x begin) none (entered now key x rest _ begin put) in
    let all = served_with _ s _ _ _ _ _ _ _ turn c.served-in-Some-entry.ensures.sends c.served-in-Some-entry.ensures.act
    (ap (λ (n : ℕ). end_of (g.S.SlotTable.slots c.enter.new.aged.table) n c.args.told.now.restart) (c.enter.ensures.same ∙ c.end_entry.ensures.same)) in
    heard rules set now key a slots capacity c.args.told.now.restart ends s c.requires.ends c.requires.none c.has_place_left.result
    c.served-in-Some-entry.result.turned_away asked (c.served-in-Some-entry.ensures.away ∙ told) _ _ _ _ all

pub returns-in-Some-entry-clause-room : goal.returns-in-Some-entry-clause-room
returns-in-Some-entry-clause-room g c = λ none.
    let key : CodeKey = c.args.told.now.context.key in
    let slots : List (Slot CodeKey ServerTransaction) = g.S.SlotTable.slots c.args.aged.now.table in
    let told = rw c.in-Some.is at c.in_ok-begun.ensures.room in
    adds_as (rules_view c.args.told.now.rules) (settings_view c.args.told.now.context.settings) c.args.told.now.context.moment key (apdu_view c.args.apdu.now) slots
    (g.S.SlotTable.capacity c.args.aged.now.table) c.args.told.now.restart c.args.ends c.args.store.now c.requires.ends c.requires.none ∙ told none

pub enter-requires-clause-begins : goal.enter-requires-clause-begins
enter-requires-clause-begins g c = rw c.in-Some-entry.is at (rw c.in-Some.is at c.in_ok-begun.ensures.begin)

pub enter-requires-clause-absent : goal.enter-requires-clause-absent
enter-requires-clause-absent g c =
    keep_none c.args.told.now.context.moment _ (none_left (rules_view c.args.told.now.rules).machine c.args.told.now.context.moment c.args.told.now.context.key
    (apdu_view c.args.apdu.now) (g.S.SlotTable.slots c.args.aged.now.table) _ c.args.ends c.requires.ends c.end_entry.ensures.slots c.end_entry.ensures.absent
    c.requires.none)

pub enter-requires-clause-room : goal.enter-requires-clause-room
enter-requires-clause-room g c =
    let key : CodeKey = c.args.told.now.context.key in
    let now : ℕ = c.args.told.now.context.moment in
    let slots : List (Slot CodeKey ServerTransaction) = g.S.SlotTable.slots c.args.aged.now.table in
    let left_end : ServerEnd = end_of (code_slots_left c.args.ends key slots) (g.S.SlotTable.capacity c.args.aged.now.table) c.args.told.now.restart in
    let free = rw c.in-Some-entry.is at (rw c.in-Some.is at c.in_ok-begun.ensures.free) in
    let place : may_begin (rules_view c.args.told.now.rules).share c.args.ends now (peer_key_view key) left_end ≡ true =
    both_true _ (may_begin (rules_view c.args.told.now.rules).share c.args.ends now (peer_key_view key) left_end) (sym c.has_place_left.ensures ∙ free refl) in
    let there : is_free now left_end ≡ true = both_true _ (is_free now left_end) place in
    let after : List (Slot CodeKey ServerTransaction) = g.S.SlotTable.slots c.end_entry.new.aged.table in
    let places : ℕ = g.S.SlotTable.capacity c.end_entry.new.aged.table in
    let same : end_of after places c.args.told.now.restart ≡ left_end =
    same_end _ _ _ _ c.args.told.now.restart c.end_entry.ensures.slots c.end_entry.ensures.same in
    room now places c.args.told.now.restart after (ap (is_free now) same ∙ there)

pub returns-in-Some-entry-clause-known : goal.returns-in-Some-entry-clause-known
returns-in-Some-entry-clause-known g c =
    stays_known c.args.told.now.context.moment c.args.aged.now.ages.latest c.enter.new.aged.ages.latest
    (subst (λ (y : Ages). MatchOption y.latest (c.enter.new.aged.ages.latest ≡ None) (λ l. l ≤ c.args.told.now.context.moment → c.enter.new.aged.ages.latest ≡ Some c.args.told.now.context.moment))
    c.end_entry.ensures.ages c.enter.ensures.known)
