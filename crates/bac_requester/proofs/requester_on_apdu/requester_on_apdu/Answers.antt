-- One APDU at one slot of the table.
use Rattle.std.proofs.Common.{◌≡◌, List, refl, subst, sym}
use Rattle.bac_apdu.specs.Views.{apdu_view}
use Rattle.bac_transaction.specs.Ends.{Client}
use Rattle.bac_slots.specs.declared.slot.Slot.{Slot}
use Rattle.bac_transaction.specs.Views.{code_same_key}
use Rattle.bac_transaction.specs.declared.peer_key.PeerKey.{PeerKey}
use Rattle.bac_slots.proofs.Aging.{goes_on}
use Rattle.bac_transaction.proofs.Viewed.{put_back}
use Rattle.bac_requester.specs.Aging.{AreAged, IsClientQuiet, began}
use Rattle.bac_requester.proofs.Aging.{quiet_earlier}
use Rattle.bac_requester.proofs.OnApdu.{failed, keeps_first, none_open_at, on_none, on_slot, unchanged}
use Rattle.bac_requester.proofs.requester_on_apdu.requester_on_apdu.Goals as goal

pub returns-in_default-clause-turn : goal.returns-in_default-clause-turn
returns-in_default-clause-turn g c = λ asked from first_id.
    on_none c.args.context.now (apdu_view c.args.apdu.now) _ _ _ _ asked from first_id c.nothing.result (sym c.in_default.ensures.value)
    c.get_mut.follows.holds-at-none.0 c.get_mut.follows.holds-at-none.1 c.nothing.ensures.sends c.nothing.ensures.ended

pub returns-in_err-reaction-clause-turn : goal.returns-in_err-reaction-clause-turn
returns-in_err-reaction-clause-turn g c = λ asked from first_id.
    let same = unchanged c.args.context.now.key _ _ c.in-Some.slot.now c.on_apdu.new.self _ _ asked from first_id (sym c.in-Some.ensures.value)
    c.in_err-reaction.ensures.reacts (c.get_mut.follows.holds c.on_apdu.new.self).0 (c.get_mut.follows.holds c.on_apdu.new.self).1 in
    failed _ _ _ c.from_residual.result c.from_residual.ensures.0 same

pub returns-clause-turn : goal.returns-clause-turn
returns-clause-turn g c = λ asked from first_id.
    on_slot c.args.context.now (apdu_view c.args.apdu.now) _ _ c.on_apdu.new.self _ _ asked from first_id c.in-Some.slot.now.number c.in-Some.slot.now.held
    c.in_ok-reaction.reaction (sym c.in-Some.ensures.value) c.in_ok-reaction.ensures.reacts (c.get_mut.follows.holds c.on_apdu.new.self).0
    (c.get_mut.follows.holds c.on_apdu.new.self).1

-- Where no transaction is open for the key.

pub returns-in_err-reaction-clause-none_open : goal.returns-in_err-reaction-clause-none_open
returns-in_err-reaction-clause-none_open g c = λ asked from first_id none err.
    c.in_err-reaction.ensures.closed (none_open_at c.args.context.now.key (g.S.SlotTable.slots c.args.aged.now.table) (g.S.SlotTable.capacity c.args.aged.now.table)
    asked from first_id c.in-Some.slot.now (sym c.in-Some.ensures.value) none) refl

-- What is known of the ages.

pub returns-in_err-reaction-clause-aged : goal.returns-in_err-reaction-clause-aged
returns-in_err-reaction-clause-aged g c =
    let same = put_back Client c.args.context.now.key c.in-Some.slot.now c.on_apdu.new.self (g.S.SlotTable.slots c.args.aged.now.table) _
    (sym c.in-Some.ensures.value) c.in_err-reaction.ensures.reacts (c.get_mut.follows.holds c.on_apdu.new.self).0 in
    subst (λ (l : List (Slot PeerKey Client)). AreAged c.args.aged.now.ages l) (sym same) c.requires.aged

pub returns-clause-aged : goal.returns-clause-aged
returns-clause-aged g c =
    let first : began c.on_apdu.new.self ≡ began c.in-Some.slot.now =
    keeps_first c.args.context.now (apdu_view c.args.apdu.now) c.in-Some.slot.now.number c.in-Some.slot.now.held c.in_ok-reaction.reaction c.on_apdu.new.self
    c.in_ok-reaction.ensures.reacts in
    goes_on PeerKey Client began IsClientQuiet code_same_key quiet_earlier c.args.aged.now.ages _ c.due-due.result c.args.context.now.key c.in-Some.slot.now
    c.on_apdu.new.self (g.S.SlotTable.slots c.args.aged.now.table) _ (sym c.in-Some.ensures.value) first c.due-due.ensures.quiet
    (c.get_mut.follows.holds c.on_apdu.new.self).0 c.comes_due.ensures c.requires.aged
