-- What is printed of a value alone reads as that value, given its kind.
use Rattle.std.proofs.Common.{◌≡◌, ℕ, ◌+◌, ◌-◌, ◌^◌, ◌<◌, nat_lt, true, false, Bool, ◌==◌, List, ◌∷◌, ◌++◌, length, Option, Some, None, Ok}
use Rattle.std.proofs.Common.{arith, refl, sym, ◌∙◌, ap, if◌then◌else◌, is_some, IsSome}
use Rattle.std.specs.Option.{option_map, option_or}
use Rattle.std.specs.Prelude.{codes}
use Rattle.std.specs.Fmt.{decimal}
use Rattle.std.specs.Str.{is_utf8}
use Rattle.std.proofs.lemmas.Bool.Decides.{nat_tests}
use Rattle.hex.specs.Hex.{encode_upper}
use Rattle.bac_value.specs.Value.{Datum, IsValue, null, boolean, unsigned, signed, real, double, octets, characters, bits, enumerated, date, time, object}
use Rattle.bac_value_text.specs.Laws.{HasOctets, AreRead}
use Rattle.bac_value_text.specs.Numbers.{◌>>=◌, number_up_to}
use Rattle.bac_value_text.specs.Reading.{named_value}
use Rattle.bac_value_text.specs.Texts.{is_real_number, is_double_number, is_text, named_or_number, bits_text, IsBody}
use Rattle.bac_value_text.specs.declared.separator.Separator.TheVariants.{Colon}
use Rattle.bac_point_text.specs.declared.kind.Kind.{Kind}
use Rattle.bac_point_text.specs.declared.kind.Kind.TheVariants as kind
use Rattle.bac_point_text.specs.Alone.{IsPlainOr, IsPlainText, IsAlone, bits_alone, line_text}
use Rattle.bac_point_text.specs.Enumerations.{Names, name_of}
use Rattle.bac_point_text.specs.Faults.{fault_of}
use Rattle.bac_point_text.specs.Laws.{AreInverse, AreWritten, IsEnumeration, IsNameable, IsPlain}
use Rattle.bac_point_text.specs.Written.{worded, is_finite, if_finite, text_of, octets_of, behind_hex, enumerated_of, of_kind, null_or, settled, written}
use Rattle.bac_point_text.proofs.Parts.{both, parted}

-- a value of the kind is the value that is written
settle : (k : Kind) (names : Option Names) (text : List ℕ) (d : Datum) → of_kind k names text ≡ Some d → written k names text ≡ Ok d
settle k names text d e = ap (λ (o : Option Datum). settled o (null_or (fault_of k (is_some names) text) text)) e

unplain : (b : Bool) (d : Datum) (text : List ℕ) → b ≡ true → IsPlainOr b d text → IsPlainText d text
unplain true d text e is = is
unplain false d text e is = cc

-- ---- floats

real_word : (b : Bool) (text : List ℕ) → b ≡ true → codes "real:" ++ text ≡ (if b then codes "real" else codes "real-octets") ++ (58 ∷ text)
real_word true text e = refl
real_word false text e = cc

double_word : (b : Bool) (text : List ℕ) → b ≡ true → codes "double:" ++ text ≡ (if b then codes "double" else codes "double-octets") ++ (58 ∷ text)
double_word true text e = refl
double_word false text e = cc

kept : (b : Bool) (d : Datum) → b ≡ true → (if b then Some d else None) ≡ Some d
kept true d e = refl
kept false d e = cc

bounded : (o : Option Datum) (d : Datum) → o ≡ Some d → is_finite d ≡ true → (o >>= if_finite) ≡ Some d
bounded o d e fits = ap (λ (x : Option Datum). x >>= if_finite) e ∙ kept (is_finite d) d fits

real_written : AreRead → (names : Option Names) (a text : List ℕ) → IsValue (real a) → HasOctets (real a) → IsPlain names (real a) → IsAlone names (real a) text
    → of_kind kind.Real names text ≡ Some (real a)
real_written read names a text valid each plain is =
    let body : IsBody (real a) text = unplain (is_real_number a) (real a) text plain.0 is in
    bounded (worded kind.Real text) (real a)
    (read Colon (real a) (codes "real:" ++ text) valid each (text, (body, real_word (is_real_number a) text plain.0))) plain.1

double_written : AreRead → (names : Option Names) (a text : List ℕ) → IsValue (double a) → HasOctets (double a) → IsPlain names (double a)
    → IsAlone names (double a) text → of_kind kind.Double names text ≡ Some (double a)
double_written read names a text valid each plain is =
    let body : IsBody (double a) text = unplain (is_double_number a) (double a) text plain.0 is in
    bounded (worded kind.Double text) (double a)
    (read Colon (double a) (codes "double:" ++ text) valid each (text, (body, double_word (is_double_number a) text plain.0))) plain.1

-- ---- octets and texts

octets_written : AreRead → (a text : List ℕ) → IsValue (octets a) → HasOctets (octets a) → text ≡ codes "hex:" ++ encode_upper a
    → octets_of text ≡ Some (octets a)
octets_written read a text valid each is =
    ap octets_of is ∙ ap behind_hex (parted (codes "hex") (encode_upper a) refl)
    ∙ read Colon (octets a) (codes "octets:" ++ encode_upper a) valid each (encode_upper a, (refl, refl))

text_written : (set : ℕ) (a text : List ℕ) → length a + 1 < 2 ^ 32 → is_text set a ≡ true → text ≡ a → text_of text ≡ Some (characters set a)
text_written set a text short plain is =
    let parts = both (set == 0) (is_utf8 a) plain in
    let zero_set : 0 ≡ set = grind (arith, nat_tests, parts.0) in
    let size : nat_lt (length a + 1) (2 ^ 32) ≡ true = grind (arith, nat_tests, short) in
    ap text_of is ∙ rw (parts.1, size) (ap (λ (n : ℕ). Some (characters n a)) zero_set)

characters_written : (names : Option Names) (set : ℕ) (a text : List ℕ) → IsValue (characters set a) → IsPlain names (characters set a)
    → IsAlone names (characters set a) text → text_of text ≡ Some (characters set a)
characters_written names set a text valid plain is =
    let line : text ≡ line_text a = unplain (is_text set a) (characters set a) text plain.0 is in
    text_written set a text valid plain.0 (line ∙ plain.1)

-- ---- dates and times

first_settled : (o others : Option Datum) (d : Datum) → o ≡ Some d → option_or o others ≡ Some d
first_settled o others d e = ap (λ (x : Option Datum). option_or x others) e

-- ---- numbers that have names

digits_read : (o : Option ℕ) (n : ℕ) → option_or (option_or (option_map enumerated o) None) None ≡ Some (enumerated n) → o ≡ Some n
digits_read None n h = cc
digits_read (Some m) n h = cc

number_written : AreRead → (n : ℕ) (text : List ℕ) → n < 2 ^ 32 → text ≡ decimal n → number_up_to (2 ^ 32 - 1) text ≡ Some n
number_written read n text valid is =
    digits_read (number_up_to (2 ^ 32 - 1) text) n
    (sym (ap (λ (p : Option (List ℕ × List ℕ)). parted_or p) (parted (codes "enumerated") text refl))
    ∙ read Colon (enumerated n) (codes "enumerated:" ++ text) valid tt (text, (is, refl)))
  where
    parted_or : Option (List ℕ × List ℕ) → Option Datum
    parted_or None = None
    parted_or (Some p) = named_value p.0 p.1

name_written : AreInverse → (e : Names) (n : ℕ) (text : List ℕ) → IsEnumeration e → (o : Option (List ℕ)) → name_of e n ≡ o → IsSome o
    → text ≡ named_or_number o n → enumerated_of (Some e) text ≡ Some n
name_written inverse e n text known None there some is = cc
name_written inverse e n text known (Some name) there some is =
    ap (enumerated_of (Some e)) is ∙ ap (λ (o : Option ℕ). option_or o (number_up_to (2 ^ 32 - 1) name)) ((inverse e known).names name n there)

enumerated_written : AreInverse → AreRead → (names : Option Names) (n : ℕ) (text : List ℕ) → n < 2 ^ 32 → IsNameable names n
    → IsAlone names (enumerated n) text → enumerated_of names text ≡ Some n
enumerated_written inverse read None n text valid plain is = number_written read n text valid is
enumerated_written inverse read (Some e) n text valid plain is = name_written inverse e n text plain.0 (name_of e n) refl plain.1 is

-- ---- all kinds

pub plain_written : AreInverse → AreRead → AreWritten
plain_written inverse read names null text valid each plain is = ap (written kind.Null names) is
plain_written inverse read names (boolean b) text valid each plain is =
    settle kind.Boolean names text (boolean b) (read Colon (boolean b) (codes "boolean:" ++ text) valid each (text, (is, refl)))
plain_written inverse read names (unsigned n) text valid each plain is =
    settle kind.Unsigned names text (unsigned n) (read Colon (unsigned n) (codes "unsigned:" ++ text) valid each (text, (is, refl)))
plain_written inverse read names (signed z) text valid each plain is =
    settle kind.Signed names text (signed z) (read Colon (signed z) (codes "signed:" ++ text) valid each (text, (is, refl)))
plain_written inverse read names (real a) text valid each plain is =
    settle kind.Real names text (real a) (real_written read names a text valid each plain is)
plain_written inverse read names (double a) text valid each plain is =
    settle kind.Double names text (double a) (double_written read names a text valid each plain is)
plain_written inverse read names (octets a) text valid each plain is =
    settle kind.OctetString names text (octets a) (octets_written read a text valid each is)
plain_written inverse read names (characters set a) text valid each plain is =
    settle kind.CharacterString names text (characters set a) (characters_written names set a text valid plain is)
plain_written inverse read names (bits unused a) text valid each plain is =
    let digits : text ≡ bits_text unused a = is ∙ ap (λ (n : Option Names). bits_alone n (bits_text unused a)) plain in
    settle kind.BitString names text (bits unused a) (read Colon (bits unused a) (codes "bits:" ++ text) valid each (text, (digits, refl)))
plain_written inverse read names (enumerated n) text valid each plain is =
    settle kind.Enumerated names text (enumerated n) (ap (option_map enumerated) (enumerated_written inverse read names n text valid plain is))
plain_written inverse read names (date a) text valid each plain is =
    settle kind.Date names text (date a)
    (first_settled (worded kind.Date text) _ (date a) (read Colon (date a) (codes "date:" ++ text) valid each (text, (is, refl))))
plain_written inverse read names (time a) text valid each plain is =
    settle kind.Time names text (time a)
    (first_settled (worded kind.Time text) _ (time a) (read Colon (time a) (codes "time:" ++ text) valid each (text, (is, refl))))
plain_written inverse read names (object i) text valid each plain is =
    settle kind.ObjectIdentifier names text (object i) (read Colon (object i) (codes "object:" ++ text) valid each (text, (is, refl)))
