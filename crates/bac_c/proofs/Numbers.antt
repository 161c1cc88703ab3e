-- The status of a call tells what it answered.
use Rattle.std.proofs.Common.{◌≡◌, ℕ, refl, sym, ap, subst, ◌∙◌}
use Rattle.std.specs.Prelude.{◌↔◌, Result, Ok, Err, IsErrOf, if◌then◌else◌, nat_eq}
use Rattle.bac_c.specs.Statuses.{IsStatusOf, fault_number, status_of}
use Rattle.bac_c.specs.declared.fault.Fault.{Fault}
use Rattle.bac_c.specs.declared.fault.Fault.TheVariants as fault

fault_at : ℕ → Fault
fault_at n =
    if nat_eq n 1 then fault.ClockBack else (if nat_eq n 2 then fault.NoMemory else (if nat_eq n 3 then fault.NotOpen else (if nat_eq n 4 then fault.NotStarted
    else (if nat_eq n 5 then fault.AlreadyOpen else (if nat_eq n 6 then fault.AlreadyStarted else (if nat_eq n 7 then fault.BadSettings else (if nat_eq n 8 then fault.BadObject
    else (if nat_eq n 9 then fault.Duplicate else (if nat_eq n 10 then fault.BadRequest else (if nat_eq n 11 then fault.SelfPeer else (if nat_eq n 12 then fault.TooLong
    else (if nat_eq n 13 then fault.NeedsSegments else (if nat_eq n 14 then fault.NoInvokeId else (if nat_eq n 15 then fault.NoSlot else (if nat_eq n 16 then fault.NoSuchObject
    else (if nat_eq n 17 then fault.NoSuchProperty else fault.BadValue))))))))))))))))

answer_at : ℕ → Result (Unit {0}) Fault
answer_at n = if nat_eq n 0 then Ok tt else Err (fault_at n)

told : (r : Result (Unit {0}) Fault) → answer_at (status_of r) ≡ r
unfolding answer_at fault_at
told (Ok tt) = refl
told (Err fault.ClockBack) = refl
told (Err fault.NoMemory) = refl
told (Err fault.NotOpen) = refl
told (Err fault.NotStarted) = refl
told (Err fault.AlreadyOpen) = refl
told (Err fault.AlreadyStarted) = refl
told (Err fault.BadSettings) = refl
told (Err fault.BadObject) = refl
told (Err fault.Duplicate) = refl
told (Err fault.BadRequest) = refl
told (Err fault.SelfPeer) = refl
told (Err fault.TooLong) = refl
told (Err fault.NeedsSegments) = refl
told (Err fault.NoInvokeId) = refl
told (Err fault.NoSlot) = refl
told (Err fault.NoSuchObject) = refl
told (Err fault.NoSuchProperty) = refl
told (Err fault.BadValue) = refl

pub status_tells : (r : Result (Unit {0}) Fault) (f : Fault) → (status_of r ≡ fault_number f) ↔ IsErrOf r f
status_tells r f = ((λ e. sym (told r) ∙ ap answer_at e ∙ told (Err f)), (λ e. ap status_of e))

-- so a number that is the status tells each of them
pub status_is : (r : Result (Unit {0}) Fault) (s : ℕ) → s ≡ status_of r → IsStatusOf r s
status_is r s is = record {
  same = is;
  clock_back = tells fault.ClockBack;
  no_memory = tells fault.NoMemory;
  not_open = tells fault.NotOpen;
  not_started = tells fault.NotStarted;
  already_open = tells fault.AlreadyOpen;
  already_started = tells fault.AlreadyStarted;
  bad_settings = tells fault.BadSettings;
  bad_object = tells fault.BadObject;
  duplicate = tells fault.Duplicate;
  bad_request = tells fault.BadRequest;
  no_such_object = tells fault.NoSuchObject;
  no_such_property = tells fault.NoSuchProperty;
  bad_value = tells fault.BadValue;
}
  where
    tells : (f : Fault) → (s ≡ fault_number f) ↔ IsErrOf r f
    tells f = subst (λ (n : ℕ). (n ≡ fault_number f) ↔ IsErrOf r f) (sym is) (status_tells r f)

-- the fault that was answered; any one where none was
abbrev fault_in : Result (Unit {0}) Fault → Fault
fault_in (Ok _) = fault.ClockBack
fault_in (Err f) = f

pub number_tells : (e f : Fault) → fault_number e ≡ fault_number f → e ≡ f
number_tells e f same = ap fault_in (sym (told (Err e)) ∙ ap answer_at same ∙ told (Err f))

abbrev IsDone : Result (Unit {0}) Fault → Type 0
IsDone (Ok _) = Unit {0}
IsDone (Err _) = ⊥

pub done_is_none : (f : Fault) → 0 ≡ fault_number f → ⊥
done_is_none f e = subst (λ (r : Result (Unit {0}) Fault). IsDone r) (sym (told (Ok tt)) ∙ ap answer_at e ∙ told (Err f)) tt
