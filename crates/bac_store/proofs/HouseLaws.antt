-- The example store is in order.
use Rattle.std.proofs.Common.{◌≡◌, ◌<◌, List, [], ◌∷◌, Some, refl, arith}
use Rattle.std.specs.List.{All, AllPairs}
use Rattle.std.proofs.lemmas.List.Elements.{All-nil, All-cons}
use Rattle.std.proofs.lemmas.List.Kept.{AllPairs-cons}
use Rattle.bac_value.specs.Number.{unsigned_octets}
use Rattle.bac_value.specs.Reading.{element_at, tag_at, tag_number_at, form_at, length_at, contents_at, class_at, kind_at, raw_at}
use Rattle.bac_value.specs.Spelling.{tag_spelling}
use Rattle.bac_value.specs.Value.{real, characters, enumerated}
use Rattle.bac_value.specs.Writing.{value_spelling}
use Rattle.bac_store.specs.House.{house, flow, setpoint, pump, house_device, log}
use Rattle.bac_store.specs.Kept.{object_number, IsInOrder, IsKept, IsShort}
use Rattle.bac_store.specs.Kinds.{kind_of}

pub kind_of_flow : kind_of (value_spelling (real (0x42 ∷ 0x90 ∷ 0x99 ∷ 0x9A ∷ []))) ≡ Some 4
unfolding tag_spelling element_at tag_at tag_number_at form_at length_at contents_at class_at kind_at raw_at
kind_of_flow = refl

pub kind_of_setpoint : kind_of (value_spelling (real (0 ∷ 0 ∷ 0 ∷ 0 ∷ []))) ≡ Some 4
unfolding tag_spelling element_at tag_at tag_number_at form_at length_at contents_at class_at kind_at raw_at
kind_of_setpoint = refl

pub kind_of_text : kind_of (value_spelling (characters 0 [])) ≡ Some 7
unfolding tag_spelling element_at tag_at tag_number_at form_at length_at contents_at class_at kind_at raw_at
kind_of_text = refl

pub kind_of_pump : kind_of (value_spelling (enumerated 0)) ≡ Some 9
unfolding tag_spelling unsigned_octets element_at tag_at tag_number_at form_at length_at contents_at class_at kind_at raw_at
kind_of_pump = refl

-- facts about each element of an explicit list

abbrev Each : {A : Type 0} → (A → Type 0) → List A → Type 0
Each P [] = Unit {0}
Each P (x ∷ xs) = P x × Each P xs

abbrev EachPair : {A : Type 0} → (A → A → Type 0) → List A → Type 0
EachPair R [] = Unit {0}
EachPair R (x ∷ xs) = Each (R x) xs × EachPair R xs

each : {A : Type 0} (P : A → Type 0) (xs : List A) → Each P xs → All P xs
each P [] e = All-nil P
each P (x ∷ xs) e = All-cons P x xs e.0 (each P xs e.1)

each_pair : {A : Type 0} (R : A → A → Type 0) (xs : List A) → EachPair R xs → AllPairs R xs
each_pair R [] e = λ i j d l within. absurd (omega arith)
each_pair R (x ∷ xs) e = AllPairs-cons R x xs (each (R x) xs e.0) (each_pair R xs e.1)

flow_kept : IsKept flow
unfolding tag_spelling
flow_kept = record {
  kind_fits = omega arith;
  instance_fits = omega arith;
  named = omega arith;
  rise = each_pair (λ p q. p.number < q.number) flow.properties (tt, tt);
  short = each IsShort flow.properties (omega arith, tt);
  file_fits = tt;
}

setpoint_kept : IsKept setpoint
unfolding tag_spelling
setpoint_kept = record {
  kind_fits = omega arith;
  instance_fits = omega arith;
  named = omega arith;
  rise = each_pair (λ p q. p.number < q.number) setpoint.properties ((omega arith, tt), (tt, tt));
  short = each IsShort setpoint.properties (omega arith, (omega arith, tt));
  file_fits = tt;
}

pump_kept : IsKept pump
unfolding tag_spelling unsigned_octets
pump_kept = record {
  kind_fits = omega arith;
  instance_fits = omega arith;
  named = omega arith;
  rise = each_pair (λ p q. p.number < q.number) pump.properties (tt, tt);
  short = each IsShort pump.properties (omega arith, tt);
  file_fits = tt;
}

device_kept : IsKept house_device
device_kept = record {
  kind_fits = omega arith;
  instance_fits = omega arith;
  named = omega arith;
  rise = each_pair (λ p q. p.number < q.number) house_device.properties tt;
  short = All-nil IsShort;
  file_fits = tt;
}

log_kept : IsKept log
log_kept = record {
  kind_fits = omega arith;
  instance_fits = omega arith;
  named = omega arith;
  rise = each_pair (λ p q. p.number < q.number) log.properties tt;
  short = All-nil IsShort;
  file_fits = omega arith;
}

pub house_in_order : IsInOrder house
house_in_order = record {
  rise = each_pair (λ a b. object_number a.id < object_number b.id) house (
    (omega arith, (omega arith, (omega arith, (omega arith, tt)))),
    (
      (omega arith, (omega arith, (omega arith, tt))),
      ((omega arith, (omega arith, tt)), ((omega arith, tt), (tt, tt))),
    ),
  );
  each = each IsKept house (flow_kept, (setpoint_kept, (pump_kept, (device_kept, (log_kept, tt)))));
}
