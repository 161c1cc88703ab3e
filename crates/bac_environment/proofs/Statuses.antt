-- What a status says follows from what it says of something else.
use Rattle.std.proofs.Common.{◌≡◌, ◌⊎◌, inl, inr, subst, sym}
use Rattle.bac_text.specs.Statuses.{IsFailure}
use Rattle.bac_text.specs.declared.status.Status.{Status}
use Rattle.bac_text.specs.declared.status.Status.TheVariants as status
use Rattle.bac_commands.specs.Statuses.{ByStatus}

pub lifted : {A B C D E F : Type 0} (s : Status) → (A → D) → (B → E) → (C → F) → ByStatus s A B C → ByStatus s D E F
lifted status.Done f g h x = f x
lifted status.Faulty f g h x = g x
lifted status.CommandLine f g h x = h x
lifted status.Output f g h x = tt
lifted status.Memory f g h x = tt

-- of a failure it says nothing more
failed_so : (A B C : Type 0) (s : Status) → IsFailure s → ByStatus s A B C
failed_so A B C status.Done failed = absurd failed
failed_so A B C status.Faulty failed = absurd failed
failed_so A B C status.CommandLine failed = absurd failed
failed_so A B C status.Output failed = tt
failed_so A B C status.Memory failed = tt

-- it stays, or something failed after it
pub kept_or_failed : (A B C : Type 0) (before after : Status) → (after ≡ before) ⊎ IsFailure after → ByStatus before A B C → ByStatus after A B C
kept_or_failed A B C before after (inl same) x = subst (λ (s : Status). ByStatus s A B C) (sym same) x
kept_or_failed A B C before after (inr failed) x = failed_so A B C after failed
