use Rattle.std.proofs.Common.{take, ◌≡◌, true}
use Rattle.std.proofs.Math.Logic.{∥∥₁_map}
use Rattle.std.specs.List.{list_all}
use Rattle.bac_shown.specs.Harmful.{is_plain}
use Rattle.bac_shown.proofs.Plain.{plain_front}
use Rattle.bac_shown.proofs.Steps.{puts_kept, puts_passed}
use Rattle.bac_shown.proofs.shown.Shown.pass.Goals as goal

pub invariant_of-self : goal.invariant_of-self
invariant_of-self g c = record { put = ∥∥₁_map c.args.self.now.put (puts_kept _ _ _ _ _ _ _ c.in_err-count.ensures.bytes) }

pub invariant_of-self-2 : goal.invariant_of-self-2
invariant_of-self-2 g c =
    let plain : list_all is_plain (take c.in_ok-count.count c.args.plain.now) ≡ true = plain_front c.in_ok-count.count c.args.plain.now c.requires.plain in
    record {
      put = ∥∥₁_map c.args.self.now.put (puts_passed _ _ _ _ _ _ _ _ (take c.in_ok-count.count c.args.plain.now) c.requires.nothing_held c.requires.nothing_waits
          c.note.ensures plain c.in_ok-count.ensures.bytes);
    }
