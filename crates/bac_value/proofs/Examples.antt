-- Worked examples of the definitions, checked by computing.
use Rattle.std.proofs.Common.{◌≡◌, ℕ, ◌<◌, List, [], ◌∷◌, ◌++◌, Result, Ok, Err, refl, arith, pos, neg_ℤ, ◌-◌, ◌^◌, zero, suc, replicate}
use Rattle.bac_value.specs.declared.fault.FaultKind.{FaultKind}
use Rattle.bac_value.specs.declared.fault.FaultKind.TheVariants.{Truncated, ReservedTag, LongForm, BadLength, NotShortest, Unbalanced}
use Rattle.bac_value.specs.declared.fault.FaultKind.TheVariants.{TooDeep, ReservedBits}
use Rattle.bac_value.specs.declared.tag.Class.TheVariants.{Application, Context}
use Rattle.bac_value.specs.declared.tag.Form.TheVariants.{Length}
use Rattle.bac_value.specs.Octets.{IsBytes}
use Rattle.bac_value.specs.Spelling.{tag_spelling}
use Rattle.bac_value.specs.Number.{number_in, signed_in}
use Rattle.bac_value.specs.Value.{unsigned, signed, SpellsValue, object}
use Rattle.bac_value.specs.Reading.{tag_at, element_at, data_of, kind_at, contents_at, tag_number_at, form_at, length_at, raw_at, class_at}
use Rattle.bac_value.specs.Reading.{data_at, step_at, turn}

abbrev kind_of : {Y : Type 0} → Result (Y × List ℕ) FaultKind → Result (List ℕ) FaultKind
kind_of (Ok x) = Ok x.1
kind_of (Err e) = Err e

longer_number_refused : element_at (34 ∷ 0 ∷ 5 ∷ []) ≡ Err NotShortest
unfolding element_at tag_at tag_number_at form_at length_at kind_at raw_at contents_at class_at
longer_number_refused = refl

all_ones_number_reserved : tag_at (249 ∷ 255 ∷ 7 ∷ []) ≡ Err ReservedTag
unfolding tag_at tag_number_at form_at length_at
all_ones_number_reserved = refl

short_number_in_the_next_octet : tag_at (249 ∷ 14 ∷ 7 ∷ []) ≡ Err LongForm
unfolding tag_at tag_number_at form_at length_at
short_number_in_the_next_octet = refl

context_numbers : (tag_spelling (record { number = 14; class = Context; form = Length 1 }) ≡ 233 ∷ [])
    × (tag_spelling (record { number = 15; class = Context; form = Length 1 }) ≡ 249 ∷ 15 ∷ [])
    × (tag_spelling (record { number = 254; class = Context; form = Length 1 }) ≡ 249 ∷ 254 ∷ [])
unfolding tag_spelling
context_numbers = (refl, refl, refl)

string_lengths : (tag_spelling (record { number = 6; class = Application; form = Length 4 }) ≡ 100 ∷ [])
    × (tag_spelling (record { number = 6; class = Application; form = Length 5 }) ≡ 101 ∷ 5 ∷ [])
    × (tag_spelling (record { number = 6; class = Application; form = Length 253 }) ≡ 101 ∷ 253 ∷ [])
    × (tag_spelling (record { number = 6; class = Application; form = Length 254 }) ≡ 101 ∷ 254 ∷ 0 ∷ 254 ∷ [])
    × (tag_spelling (record { number = 6; class = Application; form = Length 65535 }) ≡ 101 ∷ 254 ∷ 255 ∷ 255 ∷ [])
    × (tag_spelling (record { number = 6; class = Application; form = Length 65536 }) ≡ 101 ∷ 255 ∷ 0 ∷ 1 ∷ 0 ∷ 0 ∷ [])
unfolding tag_spelling
string_lengths = (refl, refl, refl, refl, refl, refl)

eight_open : data_of (replicate 8 14 ++ replicate 8 15) ≡ Ok []
unfolding data_at step_at turn element_at tag_at tag_number_at form_at length_at kind_at raw_at contents_at class_at
eight_open = refl

nine_open : data_of (replicate 9 14 ++ replicate 9 15) ≡ Err TooDeep
unfolding data_at step_at turn element_at tag_at tag_number_at form_at length_at kind_at raw_at contents_at class_at
nine_open = refl

closed_by_another : data_of (14 ∷ 31 ∷ []) ≡ Err Unbalanced
unfolding data_at step_at turn element_at tag_at tag_number_at form_at length_at kind_at raw_at contents_at class_at
closed_by_another = refl

signed_numbers : (signed_in (255 ∷ []) ≡ neg_ℤ (pos 1)) × (signed_in (128 ∷ []) ≡ neg_ℤ (pos 128)) × (signed_in (255 ∷ 127 ∷ []) ≡ neg_ℤ (pos 129))
    × (signed_in (0 ∷ 128 ∷ []) ≡ pos 128)
signed_numbers = (refl, refl, refl, refl)

order_of_faults : (element_at (197 ∷ []) ≡ Err Truncated) × (element_at (197 ∷ 4 ∷ []) ≡ Err LongForm) × (element_at (67 ∷ 0 ∷ []) ≡ Err BadLength)
    × (element_at (34 ∷ 0 ∷ []) ≡ Err Truncated) × (element_at (130 ∷ 9 ∷ []) ≡ Err Truncated)
unfolding element_at tag_at tag_number_at form_at length_at kind_at raw_at contents_at class_at
order_of_faults = (refl, refl, refl, refl, refl)

signed_flaws : (element_at (50 ∷ 0 ∷ 127 ∷ []) ≡ Err NotShortest) × (element_at (50 ∷ 255 ∷ 128 ∷ []) ≡ Err NotShortest)
    × (kind_of (element_at (50 ∷ 255 ∷ 127 ∷ [])) ≡ Ok []) × (kind_of (element_at (50 ∷ 0 ∷ 128 ∷ 1 ∷ [])) ≡ Ok (1 ∷ []))
unfolding element_at tag_at tag_number_at form_at length_at kind_at raw_at contents_at class_at
signed_flaws = (refl, refl, refl, refl)

bit_flaws : (element_at (129 ∷ 1 ∷ []) ≡ Err ReservedBits) × (element_at (130 ∷ 8 ∷ 0 ∷ []) ≡ Err ReservedBits)
    × (element_at (130 ∷ 1 ∷ 1 ∷ []) ≡ Err ReservedBits) × (kind_of (element_at (130 ∷ 1 ∷ 2 ∷ [])) ≡ Ok [])
    × (kind_of (element_at (129 ∷ 0 ∷ [])) ≡ Ok []) × (element_at (128 ∷ []) ≡ Err BadLength)
unfolding element_at tag_at tag_number_at form_at length_at kind_at raw_at contents_at class_at
bit_flaws = (refl, refl, refl, refl, refl, refl)

IsBytes-none : IsBytes []
IsBytes-none i = omega arith

IsBytes-one : (x : ℕ) (xs : List ℕ) → x < 256 → IsBytes xs → IsBytes (x ∷ xs)
IsBytes-one x xs lt h zero = lt
IsBytes-one x xs lt h (suc i) = h i

zero_spelled : SpellsValue (unsigned 0) (33 ∷ 0 ∷ [])
unfolding tag_spelling
zero_spelled = record {
  contents = 0 ∷ [];
  are = record {
    spelled = record {
      octets = IsBytes-one 0 [] (omega arith) IsBytes-none;
      sum = refl;
      some = omega arith;
      shortest = λ more. absurd (omega arith);
    };
    few = omega arith;
  };
  fits = omega arith;
  is = refl;
}

two_octets_spelled : SpellsValue (unsigned 256) (34 ∷ 1 ∷ 0 ∷ [])
unfolding tag_spelling
two_octets_spelled = record {
  contents = 1 ∷ 0 ∷ [];
  are = record {
    spelled = record {
      octets = IsBytes-one 1 (0 ∷ []) (omega arith) (IsBytes-one 0 [] (omega arith) IsBytes-none);
      sum = refl;
      some = omega arith;
      shortest = λ more. omega arith;
    };
    few = omega arith;
  };
  fits = omega arith;
  is = refl;
}

greatest_number : number_in (replicate 8 255) ≡ 2 ^ 64 - 1
greatest_number = refl

negative_spelled : SpellsValue (signed (neg_ℤ (pos 129))) (50 ∷ 255 ∷ 127 ∷ [])
unfolding tag_spelling
negative_spelled = record {
  contents = 255 ∷ 127 ∷ [];
  are = record {
    spelled = record {
      octets = IsBytes-one 255 (127 ∷ []) (omega arith) (IsBytes-one 127 [] (omega arith) IsBytes-none);
      sum = refl;
      some = omega arith;
      zeros = λ more e. absurd (omega (arith, e));
      ones = λ more e. omega arith;
    };
    few = omega arith;
  };
  fits = omega arith;
  is = refl;
}

analog_value_1_spelled : SpellsValue (object (record { kind = 2; instance = 1 })) (196 ∷ 0 ∷ 128 ∷ 0 ∷ 1 ∷ [])
unfolding tag_spelling
analog_value_1_spelled = record {
  contents = 0 ∷ 128 ∷ 0 ∷ 1 ∷ [];
  are = record { kind_fits = omega arith; instance_fits = omega arith; is = refl };
  fits = omega arith;
  is = refl;
}
