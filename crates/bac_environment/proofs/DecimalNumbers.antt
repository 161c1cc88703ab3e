-- A number is read of its digits.
use Rattle.std.proofs.Common.{◌≡◌, ℕ, ◌<◌, ◌^◌, List, Option, Some, None, Result, Ok, Err, decimal, refl, ap}
use Rattle.std.specs.Str.Parse.{ParsesUnsigned}
use Rattle.std.proofs.lemmas.Fmt.{parse-decimal}
use Rattle.clap.specs.Words.{ReadsOne}

abbrev pub ok_of : {A E : Type 0} → Result A E → Option A
ok_of (Ok x) = Some x
ok_of (Err e) = None

-- a number of so many bits
pub bits_read : {E : Type 0} (bits : ℕ) (G : List ℕ → Result ℕ E → Type 0) (n : ℕ) (r : Option ℕ)
    → ((t : List ℕ) (x : Result ℕ E) → G t x → ParsesUnsigned bits 10 t x) → n < 2 ^ 64 → n < 2 ^ bits → ReadsOne G (decimal n) r → r ≡ Some n
bits_read {E} bits G n (Some v) parses small fits reads =
    ap (ok_of {E = E}) (parse-decimal bits n (decimal n) (Ok v) fits small refl (parses (decimal n) (Ok v) reads))
bits_read {E} bits G n None parses small fits reads =
    ap (ok_of {E = E}) (parse-decimal bits n (decimal n) (Err reads.0) fits small refl (parses (decimal n) (Err reads.0) reads.1))

pub number_read : {E : Type 0} (G : List ℕ → Result ℕ E → Type 0) (n : ℕ) (r : Option ℕ) → ((t : List ℕ) (x : Result ℕ E) → G t x → ParsesUnsigned 64 10 t x)
    → n < 2 ^ 64 → ReadsOne G (decimal n) r → r ≡ Some n
number_read G n r parses small reads = bits_read 64 G n r parses small small reads
