-- The order of numbers and the limits of a property, computed from the definitions.
use Rattle.std.specs.Prelude.{◌≡◌, true, false, [], ◌∷◌, Some, None}
use Rattle.std.proofs.Common.{refl}
use Rattle.bac_value.specs.Reading.{element_at, tag_at, tag_number_at, form_at, length_at, contents_at, class_at, kind_at, number_at, raw_at, signed_at}
use Rattle.bac_service.specs.Values.{Reference}
use Rattle.bac_service.specs.Replies.Reply.{Simple, Error}
use Rattle.bac_store.specs.Allowing.{Allowed, are_right_limits, is_allowed}
use Rattle.bac_store.specs.Ranks.{is_at_most, rank_of, real_place}
use Rattle.bac_store.specs.Replies.{is_right_state, write_reply}
use Rattle.bac_store.specs.Stores.{Property}

-- ---- Reals by their bits, from the least to the greatest

minus_infinity : real_place 0xFF80_0000 ≡ Some 0x0080_0000
minus_infinity = refl

-- the distance between neighbours is one, also from the normal numbers to the subnormal ones
least_normal : real_place 0x8080_0000 ≡ Some 0x7F80_0000
least_normal = refl

greatest_subnormal_below : real_place 0x807F_FFFF ≡ Some 0x7F80_0001
greatest_subnormal_below = refl

least_subnormal_below : real_place 0x8000_0001 ≡ Some 0x7FFF_FFFF
least_subnormal_below = refl

minus_zero : real_place 0x8000_0000 ≡ Some 0x8000_0000
minus_zero = refl

plus_zero : real_place 0 ≡ Some 0x8000_0000
plus_zero = refl

least_subnormal : real_place 1 ≡ Some 0x8000_0001
least_subnormal = refl

infinity : real_place 0x7F80_0000 ≡ Some 0xFF80_0000
infinity = refl

no_number : real_place 0x7F80_0001 ≡ None
no_number = refl

quiet_no_number : real_place 0x7FC0_0000 ≡ None
quiet_no_number = refl

negative_no_number : real_place 0xFFC0_0000 ≡ None
negative_no_number = refl

-- ---- spelled values

five_below_thirty_five : is_at_most (0x44 ∷ 0x40 ∷ 0xA0 ∷ 0 ∷ 0 ∷ []) (0x44 ∷ 0x42 ∷ 0x0C ∷ 0 ∷ 0 ∷ []) ≡ true
unfolding element_at tag_at tag_number_at form_at length_at contents_at class_at kind_at raw_at
five_below_thirty_five = refl

zeros_are_equal : is_at_most (0x44 ∷ 0 ∷ 0 ∷ 0 ∷ 0 ∷ []) (0x44 ∷ 0x80 ∷ 0 ∷ 0 ∷ 0 ∷ []) ≡ true
unfolding element_at tag_at tag_number_at form_at length_at contents_at class_at kind_at raw_at
zeros_are_equal = refl

no_number_below : is_at_most (0x44 ∷ 0x7F ∷ 0xC0 ∷ 0 ∷ 0 ∷ []) (0x44 ∷ 0x7F ∷ 0xC0 ∷ 0 ∷ 0 ∷ []) ≡ false
unfolding element_at tag_at tag_number_at form_at length_at contents_at class_at kind_at raw_at
no_number_below = refl

-- Signed -1 and 1
signed_across_zero : is_at_most (0x31 ∷ 0xFF ∷ []) (0x31 ∷ 1 ∷ []) ≡ true
unfolding element_at tag_at tag_number_at form_at length_at contents_at class_at kind_at raw_at signed_at
signed_across_zero = refl

-- Unsigned 255 and 256
unsigned_of_two_lengths : is_at_most (0x21 ∷ 0xFF ∷ []) (0x22 ∷ 1 ∷ 0 ∷ []) ≡ true
unfolding element_at tag_at tag_number_at form_at length_at contents_at class_at kind_at raw_at number_at
unsigned_of_two_lengths = refl

other_kinds : is_at_most (0x21 ∷ 0 ∷ []) (0x91 ∷ 1 ∷ []) ≡ false
unfolding element_at tag_at tag_number_at form_at length_at contents_at class_at kind_at raw_at number_at
other_kinds = refl

two_values : rank_of (0x91 ∷ 1 ∷ 0x91 ∷ 1 ∷ []) ≡ None
unfolding element_at tag_at tag_number_at form_at length_at contents_at class_at kind_at raw_at number_at
two_values = refl

text : rank_of (0x71 ∷ 0 ∷ []) ≡ None
unfolding element_at tag_at tag_number_at form_at length_at contents_at class_at kind_at raw_at number_at
text = refl

-- ---- limits

listed : is_allowed (Allowed.OneOf ((0x91 ∷ 1 ∷ []) ∷ (0x91 ∷ 3 ∷ []) ∷ [])) (0x91 ∷ 3 ∷ []) ≡ true
listed = refl

not_listed : is_allowed (Allowed.OneOf ((0x91 ∷ 1 ∷ []) ∷ (0x91 ∷ 3 ∷ []) ∷ [])) (0x91 ∷ 2 ∷ []) ≡ false
not_listed = refl

limits_of_another_kind : are_right_limits (Allowed.OneOf ((0x91 ∷ 1 ∷ []) ∷ (0x21 ∷ 3 ∷ []) ∷ [])) (0x91 ∷ 1 ∷ []) ≡ false
unfolding element_at tag_at tag_number_at form_at length_at contents_at class_at kind_at raw_at
limits_of_another_kind = refl

first_value_below : are_right_limits (Allowed.Between (0x91 ∷ 1 ∷ []) (0x91 ∷ 3 ∷ [])) (0x91 ∷ 0 ∷ []) ≡ false
unfolding element_at tag_at tag_number_at form_at length_at contents_at class_at kind_at raw_at number_at
first_value_below = refl

-- ---- writes within limits 1 to 3, and of a value that is too great

abbrev level : Property
level = record {
  number = 85;
  values = 0x21 ∷ 1 ∷ [];
  writable = true;
  kind = Some 2;
  allowed = Allowed.Between (0x21 ∷ 1 ∷ []) (0x21 ∷ 3 ∷ []);
}

abbrev here : Reference
here = record { object = record { kind = 200; instance = 1 }; property = 85; index = None }

at_the_greatest : write_reply here (0x21 ∷ 3 ∷ []) level ≡ Simple
unfolding element_at tag_at tag_number_at form_at length_at contents_at class_at kind_at raw_at number_at is_right_state
at_the_greatest = refl

one_beyond : write_reply here (0x21 ∷ 4 ∷ []) level ≡ Error 2 37
unfolding element_at tag_at tag_number_at form_at length_at contents_at class_at kind_at raw_at number_at is_right_state
one_beyond = refl

one_below : write_reply here (0x21 ∷ 0 ∷ []) level ≡ Error 2 37
unfolding element_at tag_at tag_number_at form_at length_at contents_at class_at kind_at raw_at number_at is_right_state
one_below = refl

another_kind_first : write_reply here (0x91 ∷ 4 ∷ []) level ≡ Error 2 9
unfolding element_at tag_at tag_number_at form_at length_at contents_at class_at kind_at raw_at number_at is_right_state
another_kind_first = refl
