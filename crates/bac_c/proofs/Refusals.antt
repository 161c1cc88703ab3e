-- The status of an ask or of a change says why it was refused.
use Rattle.std.proofs.Common.{◌≡◌, ℕ, Bool, sym, subst, ◌∙◌}
use Rattle.bac_service.specs.Values.{Request}
use Rattle.bac_c.specs.Asking.{AskRefused, IsRefusedAsk}
use Rattle.bac_store.specs.AtNode.{Change}
use Rattle.bac_c.specs.Changing.{ChangeRefused, IsRefusedChange}
use Rattle.bac_c.specs.Statuses.{DONE, fault_number}
use Rattle.bac_c.specs.declared.device.Device.{Device}
use Rattle.bac_c.specs.declared.fault.Fault.{Fault}
use Rattle.bac_c.specs.declared.records.Target.{Target}
use Rattle.bac_c.proofs.Numbers.{done_is_none, number_tells}

pub done_refuses : (s : ℕ) (b : Bool) (now : ℕ) (t : Target) (r : Request) (d : Device) → s ≡ DONE → IsRefusedAsk s b now t r d
done_refuses s b now t r d done f is = absurd (done_is_none f (sym done ∙ is))

pub refuses : (s : ℕ) (b : Bool) (now : ℕ) (t : Target) (r : Request) (d : Device) (e : Fault) → s ≡ fault_number e → AskRefused e b now t r d
    → IsRefusedAsk s b now t r d
refuses s b now t r d e is why f that = subst (λ (x : Fault). AskRefused x b now t r d) (number_tells e f (sym is ∙ that)) why

pub done_keeps : (s : ℕ) (b : Bool) (c : Change) (d : Device) → s ≡ DONE → IsRefusedChange s b c d
done_keeps s b c d done f is = absurd (done_is_none f (sym done ∙ is))

pub keeps : (s : ℕ) (b : Bool) (c : Change) (d : Device) (e : Fault) → s ≡ fault_number e → ChangeRefused e b c d → IsRefusedChange s b c d
keeps s b c d e is why f that = subst (λ (x : Fault). ChangeRefused x b c d) (number_tells e f (sym is ∙ that)) why
