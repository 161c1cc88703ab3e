-- The reads of the stack's own services change no store.
use Rattle.std.proofs.Common.{◌≡◌, ℕ, true, List, Ok, sym, ap, ◌∙◌}
use Rattle.bac_value.specs.Octets.{IsBytes}
use Rattle.bac_service.specs.Services.{request_at}
use Rattle.bac_service.specs.Values.{Request}
use Rattle.bac_service.proofs.Wholes.{request_takes}
use Rattle.bac_store.specs.Changes.{after}
use Rattle.bac_store.specs.Stores.{Store}
use Rattle.bac_store.proofs.WriteLaws.{reads_change_nothing}
use Rattle.bac_reuse.specs.Claims.{is_stack_read}

pub stack_reads : (s : Store) (choice : ℕ) (octets : List ℕ) (r : Request) → IsBytes octets → request_at choice octets ≡ Ok r → is_stack_read choice ≡ true
    → after s r ≡ s
stack_reads s choice octets r bytes is read =
    reads_change_nothing s r (sym (ap is_stack_read (request_takes choice octets r bytes is).choice_is) ∙ read)
