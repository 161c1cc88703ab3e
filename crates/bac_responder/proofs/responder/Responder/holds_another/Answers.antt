-- What the table says of its slots, the end says.
use Rattle.std.proofs.Common.{◌≡◌, ℕ, Bool, if◌then◌else◌, not, refl, ap, sym, ◌∙◌}
use Rattle.bac_transaction.specs.Views.{peer_key_view}
use Rattle.bac_responder.specs.Kept.{holds_another}
use Rattle.bac_responder.proofs.Shares.{holds_another_so}
use Rattle.bac_responder.proofs.responder.Responder.holds_another.Goals as goal
use Rattle.bac_responder.proofs.responder.Responder.holds_another.Goals.{then-is_none_live, else-is_none_live}

pub returns : goal.returns
returns g c =
    let most : Bool → ℕ = λ b. if b then 0 else 1 in
    let own : c.if-is_none_live.own ≡ most c.is_none_live.result = elim c.if-is_none_live.branch [
      | then-is_none_live w ↦ w.own-is ∙ sym (ap most w.if-is_none_live.true)
      | else-is_none_live w ↦ w.own-is ∙ sym (ap most w.if-is_none_live.false)
    ] in
    ap not c.holds_at_most.ensures
    ∙ holds_another_so c.args.now c.args.key.now.peer.link c.args.key.now (g.S.SlotTable.slots c.self.inside.aged.table)
    (g.S.SlotTable.capacity c.self.inside.aged.table) c.if-is_none_live.own c.self.inside.restart refl (own ∙ ap most c.is_none_live.ensures)
    ∙ ap (holds_another c.args.now (peer_key_view c.args.key.now)) c.self.view_is
