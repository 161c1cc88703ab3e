-- What the open transaction of a slot does, the slot does.
use Rattle.std.proofs.Common.{◌≡◌, ◌∙◌, List, [], ◌∷◌, ◌++◌, refl, ap, sym}
use Rattle.std.specs.Global.{Vec}
use Rattle.bac_apdu.specs.Views.{apdu_view}
use Rattle.bac_transaction.specs.Ends.{Client}
use Rattle.bac_transaction.specs.Ends.TransactionSlot.{Open}
use Rattle.bac_requester.specs.TransactionViews.{held_view}
use Rattle.bac_requester.specs.declared.reaction.Ended.{Ended}
use Rattle.bac_requester.proofs.OnApdu.{ends_in_slot, goes_on_in_slot}
use Rattle.bac_requester.proofs.client.Client.on_apdu.Goals as goal

pub returns-in_default-ending-clause-reacts : goal.returns-in_default-ending-clause-reacts
returns-in_default-ending-clause-reacts c =
    let slot : c.args.self.now ≡ record { number = c.self.inside.number; held = Open c.in-Open.transaction } =
    sym c.self.view_is ∙ ap (λ h. let v : Client = record { number = c.self.inside.number; held = held_view h } in v) c.in-Open.is in
    goes_on_in_slot c.args.context.now (apdu_view c.args.apdu.now) c.args.self.now c.self.inside.number c.in-Open.transaction c.on_apdu.new.self
    c.in_ok-sends.field-0 _ slot c.in_ok-sends.ensures c.in_default-ending.is refl c.new.ensures.items

pub returns-clause-reacts : goal.returns-clause-reacts
returns-clause-reacts c =
    let slot : c.args.self.now ≡ record { number = c.self.inside.number; held = Open c.in-Open.transaction } =
    sym c.self.view_is ∙ ap (λ h. let v : Client = record { number = c.self.inside.number; held = held_view h } in v) c.in-Open.is in
    let empty : c.replace-ended.result.items ≡ [] =
    ap (λ (v : Vec Ended). v.items) c.replace-ended.ensures.value ∙ c.in_ok-reserve_exact.ensures.items ∙ c.requires in
    ends_in_slot c.args.context.now (apdu_view c.args.apdu.now) c.args.self.now c.self.inside.number c.first-first.result c.in-Open.transaction c.on_apdu.new.self
    c.in_ok-sends.field-0 _ c.in-Some.ending slot c.in_ok-sends.ensures c.in-Some.is c.first-first.ensures refl
    (c.push_reserved.ensures.items ∙ ap (λ (l : List Ended). l ++ record { ticket = c.self.inside.number; ending = c.in-Some.ending } ∷ []) empty)
