-- What a first line can set.
use Rattle.std.proofs.Common.{◌≡◌, ℕ, ◌+◌, ◌*◌, ◌≤◌, nat_le, Bool, true, false, List, [], ◌∷◌, Option, Some, None}
use Rattle.std.proofs.Common.{if◌then◌else◌, refl, subst, arith}
use Rattle.std.proofs.lemmas.Bool.Decides.{nat_tests}
use Rattle.bac_value_text.specs.Numbers.{◌>>=◌, number_of, number_up_to, at_most}
use Rattle.bac_simulate.specs.LineWords.{words_of}
use Rattle.bac_simulate.specs.Lines.{Setting, not_none, number_from_one, bounded, setting_with, usual_setting, setting_of, setting_at}
use Rattle.bac_simulate.specs.Scripts.{IsModest}

some_is : {A : Type 0} → (x y : A) → Some x ≡ Some y → x ≡ y
some_is x y e = cc

from_bind : {A B : Type 0} → (o : Option A) (f : A → Option B) (y : B) → (o >>= f) ≡ Some y → (x : A) × ((o ≡ Some x) × (f x ≡ Some y))
from_bind None f y e = absurd cc
from_bind (Some x) f y e = (x, (refl, e))

then_is : {A : Type 0} → (b : Bool) (o : Option A) (y : A) → (if b then o else None) ≡ Some y → (b ≡ true) × (o ≡ Some y)
then_is true o y e = (refl, e)
then_is false o y e = absurd cc

up_to : (most : ℕ) (word : List ℕ) (n : ℕ) → number_up_to most word ≡ Some n → n ≤ most
up_to most word n e =
    let read = from_bind (number_of word) (at_most most) n e in
    let is = then_is (nat_le read.0 most) (Some read.0) n read.1.1 in
    let same = some_is read.0 n is.1 in
    let below : read.0 ≤ most = grind (arith, nat_tests, is.0) in
    subst (λ (m : ℕ). m ≤ most) same below

from_one : (most : ℕ) (word : List ℕ) (n : ℕ) → number_from_one most word ≡ Some n → (1 ≤ n) × (n ≤ most)
from_one most word n e =
    let read = from_bind (number_up_to most word) not_none n e in
    let is = then_is (nat_le 1 read.0) (Some read.0) n read.1.1 in
    let same = some_is read.0 n is.1 in
    let least : 1 ≤ read.0 = grind (arith, nat_tests, is.0) in
    subst (λ (m : ℕ). (1 ≤ m) × (m ≤ most)) same (least, up_to most word read.0 read.1.0)

usual_is_modest : (word : List ℕ) (s : Setting) → usual_setting word ≡ Some s → IsModest s
unfolding usual_setting
usual_is_modest word s e =
    let nodes = from_bind (number_from_one 16 word) (λ (n : ℕ). Some (record { nodes = n; window = 32; overtake = 128 })) s e in
    let fits = from_one 16 word nodes.0 nodes.1.0 in
    subst IsModest (some_is (record { nodes = nodes.0; window = 32; overtake = 128 }) s nodes.1.1)
    (record { nodes = fits.1; least = omega arith; most = omega arith; bound = omega arith })

bounded_is_modest : (s t : Setting) → s.nodes ≤ 16 → 1 ≤ s.window → s.window ≤ 64 → bounded s ≡ Some t → IsModest t
bounded_is_modest s t nodes least most e =
    let is = then_is (nat_le (s.overtake + 2 * s.window) 255) (Some s) t e in
    let bound : s.overtake + 2 * s.window ≤ 255 = grind (arith, nat_tests, is.0) in
    subst IsModest (some_is s t is.1) (record { nodes = nodes; least = least; most = most; bound = bound })

given_is_modest : (a b c : List ℕ) (s : Setting) → setting_with a b c ≡ Some s → IsModest s
unfolding setting_with
given_is_modest a b c s e =
    let nodes = from_bind (number_from_one 16 a) _ s e in
    let window = from_bind (number_from_one 64 b) _ s nodes.1.1 in
    let overtake = from_bind (number_up_to 255 c) _ s window.1.1 in
    let one = from_one 16 a nodes.0 nodes.1.0 in
    let two = from_one 64 b window.0 window.1.0 in
    bounded_is_modest (record { nodes = nodes.0; window = window.0; overtake = overtake.0 }) s one.1 two.0 two.1 overtake.1.1

setting_is_modest : (words : List (List ℕ)) (s : Setting) → setting_of words ≡ Some s → IsModest s
setting_is_modest [] s e = absurd cc
setting_is_modest (a ∷ []) s e = absurd cc
setting_is_modest (a ∷ nodes ∷ []) s e = let is = then_is _ (usual_setting nodes) s e in usual_is_modest nodes s is.1
setting_is_modest (a ∷ nodes ∷ b ∷ []) s e = absurd cc
setting_is_modest (a ∷ nodes ∷ b ∷ window ∷ []) s e = absurd cc
setting_is_modest (a ∷ nodes ∷ b ∷ window ∷ c ∷ []) s e = absurd cc
setting_is_modest (a ∷ nodes ∷ b ∷ window ∷ c ∷ overtake ∷ []) s e =
    let is = then_is _ (setting_with nodes window overtake) s e in given_is_modest nodes window overtake s is.1
setting_is_modest (a ∷ nodes ∷ b ∷ window ∷ c ∷ overtake ∷ d ∷ more) s e = absurd cc

pub line_is_modest : (line : List ℕ) (s : Setting) → setting_at line ≡ Some s → IsModest s
line_is_modest line s e = setting_is_modest (words_of line) s e
