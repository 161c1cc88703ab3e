-- The printed text of a value reads as that value.
use Rattle.std.proofs.Common.{◌≡◌, ◌≢◌, ℕ, ◌+◌, ◌-◌, ◌*◌, ◌^◌, ◌<◌, nat_lt, true, false, Bool, ◌&&◌, ◌==◌, List, ◌∷◌, ◌++◌, length, Option, Some, None}
use Rattle.std.proofs.Common.{arith, refl, ◌∙◌, ap, if◌then◌else◌}
use Rattle.std.specs.Fmt.{decimal}
use Rattle.std.specs.Option.{option_map, option_or}
use Rattle.std.specs.Prelude.{codes}
use Rattle.std.proofs.lemmas.Bool.Decides.{nat_tests}
use Rattle.hex.specs.Hex.{encode_upper}
use Rattle.hex.proofs.HexLemmas.{decode_of-encode_upper, decode_sized-twice, length-encode_with}
use Rattle.bac_value_text.specs.Names.{AreInverse}
use Rattle.bac_value_text.specs.ObjectTypes.{OBJECT_TYPES}
use Rattle.bac_value.specs.Octets.{IsBytes}
use Rattle.bac_value.specs.Value.{Datum, IsValue, null, boolean, unsigned, signed, real, double, octets, characters, bits, enumerated}
use Rattle.bac_value.specs.Value.{date, time, object}
use Rattle.bac_value_text.specs.Laws.{HasOctets, AreRead}
use Rattle.bac_value_text.specs.Numbers.{◌>>=◌, decoded, octets_of, array_of, separator_octet}
use Rattle.bac_value_text.specs.Reading.{characters_fit, characters_in, octets_fit, named_value, value_in}
use Rattle.bac_value_text.specs.Texts.{boolean_text, is_real_number, is_double_number, IsRealText, IsDoubleText, is_text, characters_text}
use Rattle.bac_value_text.specs.Texts.{kind_name, IsBody, IsNamed, IsTextOf}
use Rattle.bac_value_text.specs.declared.separator.Separator.{Separator}
use Rattle.bac_value_text.specs.declared.separator.Separator.TheVariants.{Colon, Space}
use Rattle.bac_value_text.proofs.BitStrings.{bits_read}
use Rattle.bac_value_text.proofs.Characters.{escaped_read}
use Rattle.bac_value_text.proofs.DecimalDigits.{decimal_digits, decimal_read, decimal_up_to, signed_read}
use Rattle.bac_value_text.proofs.Fields.{fields_read}
use Rattle.bac_value_text.proofs.Floats.{real_read, double_read}
use Rattle.bac_value_text.proofs.Objects.{object_read}
use Rattle.bac_value_text.proofs.Parts.{both, lacks, parted, digits_lack}

-- ---- the part before the separator

abbrev is_word : List ℕ → Bool
is_word name = lacks 58 name && lacks 32 name

lack : (s : Separator) (name : List ℕ) → is_word name ≡ true → lacks (separator_octet s) name ≡ true
lack Colon name h = (both (lacks 58 name) (lacks 32 name) h).0
lack Space name h = (both (lacks 58 name) (lacks 32 name) h).1

parts : (s : Separator) (name body text : List ℕ) → is_word name ≡ true → text ≡ name ++ (separator_octet s ∷ body)
    → value_in (separator_octet s) text ≡ named_value name body
parts s name body text word is = rw (is, parted (separator_octet s) name body (lack s name word)) refl

-- ---- octets in hexadecimal

hex_read : (a : List ℕ) → IsBytes a → octets_of (encode_upper a) ≡ Some a
hex_read a each = ap decoded (decode_of-encode_upper a each)

array_read : (count : ℕ) (a : List ℕ) → length a ≡ count → IsBytes a → array_of count (encode_upper a) ≡ Some a
array_read count a len each =
    let twice : length (encode_upper a) ≡ 2 * count = length-encode_with _ a ∙ ap (λ (n : ℕ). 2 * n) len in
    ap decoded (decode_sized-twice (encode_upper a) count twice ∙ decode_of-encode_upper a each)

-- ---- each kind

boolean_value : (b : Bool) → named_value (codes "boolean") (boolean_text b) ≡ Some (boolean b)
boolean_value true = refl
boolean_value false = refl

number : (make : ℕ → Datum) (o : Option ℕ) (n : ℕ) → o ≡ Some n → option_or (option_or (option_map make o) None) None ≡ Some (make n)
number make o n is = rw is refl

unsigned_value : (n : ℕ) → n < 2 ^ 64 → named_value (codes "unsigned") (decimal n) ≡ Some (unsigned n)
unsigned_value n fits = number unsigned _ n (decimal_read n fits)

enumerated_value : (n : ℕ) → n < 2 ^ 32 → named_value (codes "enumerated") (decimal n) ≡ Some (enumerated n)
enumerated_value n fits = number enumerated _ n (decimal_up_to (2 ^ 32 - 1) n (omega arith) (omega arith))

kept : {A : Type 0} (make : A → Datum) (o : Option A) (x : A) → o ≡ Some x → option_or (option_or (option_map make o) None) None ≡ Some (make x)
kept make o x is = rw is refl

raw : {A : Type 0} (make : A → Datum) (o : Option A) (x : A) → o ≡ Some x → option_or (option_or None (option_map make o)) None ≡ Some (make x)
raw make o x is = rw is refl

string : (o : Option Datum) (x : Datum) → o ≡ Some x → option_or (option_or None None) o ≡ Some x
string o x is = is

real_value : (b : Bool) (a body : List ℕ) → length a ≡ 4 → IsBytes a → is_real_number a ≡ b → IsRealText b a body
    → named_value (if b then codes "real" else codes "real-octets") body ≡ Some (real a)
real_value true a body len each e h = kept real _ a (real_read a body len each e h)
real_value false a body len each e h = raw real _ a (ap (array_of 4) h ∙ array_read 4 a len each)

double_value : (b : Bool) (a body : List ℕ) → length a ≡ 8 → IsBytes a → is_double_number a ≡ b → IsDoubleText b a body
    → named_value (if b then codes "double" else codes "double-octets") body ≡ Some (double a)
double_value true a body len each e h = kept double _ a (double_read a body len each e h)
double_value false a body len each e h = raw double _ a (ap (array_of 8) h ∙ array_read 8 a len each)

octets_value : (a : List ℕ) → length a < 2 ^ 32 → IsBytes a → named_value (codes "octets") (encode_upper a) ≡ Some (octets a)
octets_value a short each =
    let size : nat_lt (length a) (2 ^ 32) ≡ true = grind (arith, nat_tests, short) in
    ap (λ (o : Option (List ℕ)). o >>= octets_fit) (hex_read a each) ∙ rw size refl

fitting : (set : ℕ) (a : List ℕ) → length a + 1 < 2 ^ 32 → characters_fit set a ≡ Some (characters set a)
fitting set a short =
    let size : nat_lt (length a + 1) (2 ^ 32) ≡ true = grind (arith, nat_tests, short) in
    rw size refl

raw_characters : (set : ℕ) (a : List ℕ) → set < 256 → length a + 1 < 2 ^ 32 → IsBytes a
    → characters_in (characters_text false set a) ≡ Some (characters set a)
unfolding characters_in
raw_characters set a small short each =
    rw (
      parted 58 (decimal set) (encode_upper a) (digits_lack 58 (decimal set) refl (decimal_digits set (omega arith))),
      decimal_up_to 255 set (omega arith) (omega arith),
      hex_read a each,
    )
    (fitting set a short)

characters_value : (b : Bool) (set : ℕ) (a : List ℕ) → is_text set a ≡ b → set < 256 → length a + 1 < 2 ^ 32 → IsBytes a
    → named_value (if b then codes "text" else codes "characters") (characters_text b set a) ≡ Some (characters set a)
characters_value true set a e small short each =
    let zero_set : 0 ≡ set = grind (arith, nat_tests, (both (set == 0) _ e).0) in
    ap (characters_fit 0) (escaped_read a each) ∙ fitting 0 a short ∙ ap (λ (n : ℕ). Some (characters n a)) zero_set
characters_value false set a e small short each = raw_characters set a small short each

-- ---- all kinds

named : AreInverse OBJECT_TYPES → (d : Datum) (body : List ℕ) → d ≢ null → IsValue d → HasOctets d → IsBody d body
    → named_value (kind_name d) body ≡ Some d
named inverse null body some valid each is = absurd (some refl)
named inverse (boolean b) body some valid each is = ap (named_value (codes "boolean")) is ∙ boolean_value b
named inverse (unsigned n) body some valid each is = ap (named_value (codes "unsigned")) is ∙ unsigned_value n valid
named inverse (signed z) body some valid each is = ap (named_value (codes "signed")) is ∙ kept signed _ z (signed_read z valid)
named inverse (real a) body some valid each is = real_value (is_real_number a) a body valid each refl is
named inverse (double a) body some valid each is = double_value (is_double_number a) a body valid each refl is
named inverse (octets a) body some valid each is = ap (named_value (codes "octets")) is ∙ octets_value a valid each
named inverse (characters set a) body some valid each is =
    ap (named_value (kind_name (characters set a))) is ∙ characters_value (is_text set a) set a refl each.0 valid each.1
named inverse (bits unused a) body some valid each is = ap (named_value (codes "bits")) is ∙ bits_read unused a each valid.0 valid.1
named inverse (enumerated n) body some valid each is = ap (named_value (codes "enumerated")) is ∙ enumerated_value n valid
named inverse (date a) body some valid each is =
    ap (named_value (codes "date")) is ∙ raw date _ a (fields_read 1900 45 45 45 a (omega arith) refl refl refl refl refl refl valid each)
named inverse (time a) body some valid each is =
    ap (named_value (codes "time")) is ∙ raw time _ a (fields_read 0 58 58 46 a (omega arith) refl refl refl refl refl refl valid each)
named inverse (object i) body some valid each is =
    ap (named_value (codes "object")) is ∙ raw object _ i (object_read inverse i valid.0 valid.1)

words : (d : Datum) → is_word (kind_name d) ≡ true
words (real a) = go (is_real_number a) where
  go : (b : Bool) → is_word (if b then codes "real" else codes "real-octets") ≡ true
  go true = refl
  go false = refl
words (double a) = go (is_double_number a) where
  go : (b : Bool) → is_word (if b then codes "double" else codes "double-octets") ≡ true
  go true = refl
  go false = refl
words (characters set a) = go (is_text set a) where
  go : (b : Bool) → is_word (if b then codes "text" else codes "characters") ≡ true
  go true = refl
  go false = refl
words _ = refl

null_read : (s : Separator) → value_in (separator_octet s) (codes "null") ≡ Some null
null_read Colon = refl
null_read Space = refl

with_name : AreInverse OBJECT_TYPES → (s : Separator) (d : Datum) (text : List ℕ) → d ≢ null → IsValue d → HasOctets d
    → IsNamed (separator_octet s) d text → value_in (separator_octet s) text ≡ Some d
with_name inverse s d text some valid each (body, (is, made)) =
    parts s (kind_name d) body text (words d) made ∙ named inverse d body some valid each is

pub values_read : AreInverse OBJECT_TYPES → AreRead
values_read inverse s null text valid each is = ap (value_in (separator_octet s)) is ∙ null_read s
values_read inverse s d text valid each is = with_name inverse s d text (λ e. cc e) valid each is

-- a text with a name is the printed text of a value other than Null
pub named_is : (s : ℕ) (d : Datum) (text : List ℕ) → d ≢ null → IsNamed s d text → IsTextOf s d text
named_is s null text some is = absurd (some refl)
named_is s d text some is = is
