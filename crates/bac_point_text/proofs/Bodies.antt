-- What stands behind the word for the kind in the text of a value.
use Rattle.std.proofs.Common.{◌≡◌, ◌≢◌, ℕ, true, false, Bool, List, Option, Some, refl, sym, ap, subst, ◌∙◌, if◌then◌else◌}
use Rattle.std.specs.Prelude.{codes}
use Rattle.bac_value.specs.Value.{Datum, null, real, double, characters}
use Rattle.bac_value_text.specs.Numbers.{parts_at}
use Rattle.bac_value_text.specs.Texts.{is_real_number, is_double_number, is_text, kind_name, IsBody, IsNamed, IsTextOf}
use Rattle.bac_point_text.specs.Alone.{behind_parts, behind_word, IsBehindWord}
use Rattle.bac_point_text.proofs.Parts.{lacks_colon, parted}

words : (d : Datum) → lacks_colon (kind_name d) ≡ true
words (real a) = go (is_real_number a) where
  go : (b : Bool) → lacks_colon (if b then codes "real" else codes "real-octets") ≡ true
  go true = refl
  go false = refl
words (double a) = go (is_double_number a) where
  go : (b : Bool) → lacks_colon (if b then codes "double" else codes "double-octets") ≡ true
  go true = refl
  go false = refl
words (characters set a) = go (is_text set a) where
  go : (b : Bool) → lacks_colon (if b then codes "text" else codes "characters") ≡ true
  go true = refl
  go false = refl
words _ = refl

behind_is : (d : Datum) (body : List ℕ) → d ≢ null → IsBody d body → IsBehindWord d body
behind_is null body some is = absurd (some refl)
behind_is d body some is = is

behind_name : (d : Datum) (text : List ℕ) → d ≢ null → IsNamed 58 d text → IsBehindWord d (behind_word text)
behind_name d text some (body, (is, made)) =
    let parts : parts_at 58 text ≡ Some (kind_name d, body) = ap (parts_at 58) made ∙ parted (kind_name d) body (words d) in
    subst (λ (p : Option (List ℕ × List ℕ)). IsBehindWord d (behind_parts text p)) (sym parts) (behind_is d body some is)

pub body_behind : (d : Datum) (text : List ℕ) → IsTextOf 58 d text → IsBehindWord d (behind_word text)
body_behind null text is = ap behind_word is
body_behind d text is = behind_name d text (λ e. cc e) is
