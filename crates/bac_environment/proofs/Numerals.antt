-- A text that is a number is one number.
use Rattle.std.proofs.Common.{◌≡◌, ◌∙◌, ℕ, zero, suc, ◌<◌, ◌^◌, List, decimal, get_or, sym, ap, subst, arith}
use Rattle.std.proofs.lemmas.Fmt.{decimal_digit, decimal_is_IsNumeral, first_decimal}
use Rattle.std.proofs.lemmas.Str.Parse.{without_leading_plus_none}
use Rattle.std.specs.Str.Parse.{IsNumeral, digits_value, without_leading_plus}
use Rattle.bac_environment.specs.Addresses.{IsNumber}

pub one_number : (bits : ℕ) (text : List ℕ) (a b : ℕ) → IsNumber bits text a → IsNumber bits text b → a ≡ b
one_number bits text a b one other = sym one.is ∙ other.is

no_plus : (n : ℕ) → n < 2 ^ 64 → get_or (decimal n) 0 0 ≡ 43 → ⊥
no_plus zero small e =
    let first : get_or (decimal 0) 0 0 ≡ 48 = ap (λ (l : List ℕ). get_or l 0 0) (decimal_digit 0 (omega arith)) in absurd (omega (arith, e, first))
no_plus (suc n) small e = absurd (omega (arith, e, first_decimal (suc n) (omega arith) small))

-- what is printed of a number is that number
pub decimal_is_number : (bits n : ℕ) → n < 2 ^ 64 → n < 2 ^ bits → IsNumber bits (decimal n) n
decimal_is_number bits n small fits =
    let same : without_leading_plus (decimal n) ≡ decimal n = without_leading_plus_none (decimal n) (no_plus n small) in
    let numeral = decimal_is_IsNumeral n small in
    record {
      digits = subst (λ (t : List ℕ). IsNumeral 10 t) (sym same) numeral.0;
      is = ap (digits_value 10) same ∙ numeral.1;
      fits = fits;
    }
