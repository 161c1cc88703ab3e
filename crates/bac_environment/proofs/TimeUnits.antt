-- Where the number of a time ends.
use Rattle.std.proofs.Common.{◌≡◌, ◌∙◌, ℕ, ◌<◌, ◌^◌, ◌*◌, ◌==◌, Bool, true, false, cond, List, [], ◌∷◌, ◌++◌, drop, codes, decimal, refl, sym, ap, subst, arith, Option, Some, None}
use Rattle.std.specs.Prelude.{MatchOption, SomeIff}
use Rattle.std.specs.Char.{digit_value}
use Rattle.std.specs.Str.Parse.{AllDigits, IsNumeral, without_leading_plus}
use Rattle.bac_environment.proofs.Numerals.{decimal_is_number, one_number}
use Rattle.bac_environment.specs.Addresses.{IsNoNumber, IsNumber}
use Rattle.std.proofs.lemmas.List.{append-nil}
use Rattle.bac_environment.specs.Times.{IsCutAtUnit, IsNoTime, IsTime, TimeUnit, Own, Milliseconds, Seconds, Minutes, unit_length, unit_text}

-- ---- the last octet of a text

-- the octets before the last one, and that one
pub same_last : (a b : List ℕ) (c d : ℕ) → a ++ c ∷ [] ≡ b ++ d ∷ [] → (a ≡ b) × (c ≡ d)
same_last [] [] c d e = (refl, cc)
same_last [] (y ∷ []) c d e = absurd cc
same_last [] (y ∷ z ∷ b) c d e = absurd cc
same_last (x ∷ []) [] c d e = absurd cc
same_last (x ∷ z ∷ a) [] c d e = absurd cc
same_last (x ∷ a) (y ∷ b) c d e =
    let tail : a ++ c ∷ [] ≡ b ++ d ∷ [] = cc in
    let head : x ≡ y = cc in
    let r = same_last a b c d tail in
    (ap (λ (l : List ℕ). x ∷ l) r.0 ∙ ap (λ (n : ℕ). n ∷ b) head, r.1)

last_digit : (xs : List ℕ) (c : ℕ) → AllDigits 10 (xs ++ c ∷ []) → digit_value c < 10
last_digit [] c d = d.0
last_digit (x ∷ xs) c d = last_digit xs c d.1

-- the last octet of a number is a digit
pub last_is_digit : (front : List ℕ) (c : ℕ) → IsNumeral 10 (without_leading_plus (front ++ c ∷ [])) → digit_value c < 10
last_is_digit [] c n = go (c == 43) n
  where
    go : (b : Bool) → IsNumeral 10 (drop (cond b 1 0) (c ∷ [])) → digit_value c < 10
    go true h = absurd (omega (arith, h.0))
    go false h = h.1.0
last_is_digit (x ∷ xs) c n = go (x == 43) n
  where
    go : (b : Bool) → IsNumeral 10 (drop (cond b 1 0) (x ∷ (xs ++ c ∷ []))) → digit_value c < 10
    go true h = last_digit xs c h.1
    go false h = last_digit (x ∷ xs) c h.1

-- ---- where a text is cut

no_s : (front : List ℕ) (count : ℕ) → IsNumber 64 (front ++ 115 ∷ []) count → ⊥
no_s front count n = absurd (omega (arith, last_is_digit front 115 n.digits))

no_m : (front : List ℕ) (count : ℕ) → IsNumber 64 (front ++ 109 ∷ []) count → ⊥
no_m front count n = absurd (omega (arith, last_is_digit front 109 n.digits))

-- "ms" behind a text is its two letters, one after the other
letters : (front : List ℕ) → front ++ 109 ∷ 115 ∷ [] ≡ (front ++ 109 ∷ []) ++ 115 ∷ []
letters [] = refl
letters (x ∷ front) = ap (λ (l : List ℕ). x ∷ l) (letters front)

abbrev Only : (own : ℕ) → (text front : List ℕ) → (each : ℕ) → Type 0
Only own text front each = (other : List ℕ) (u : TimeUnit) (count : ℕ) → text ≡ other ++ unit_text u → IsNumber 64 other count → (other ≡ front) × (unit_length own u ≡ each)

only_milliseconds : (own : ℕ) (text front : List ℕ) → text ≡ front ++ codes "ms" → Only own text front 1
only_milliseconds own text front is other Own count at n =
    absurd (no_s (front ++ 109 ∷ []) count (subst (λ (t : List ℕ). IsNumber 64 t count) (sym (append-nil other) ∙ sym at ∙ is ∙ letters front) n))
only_milliseconds own text front is other Milliseconds count at n =
    ((same_last other front 109 109 (same_last (other ++ 109 ∷ []) (front ++ 109 ∷ []) 115 115 (sym (letters other) ∙ sym at ∙ is ∙ letters front)).0).0, refl)
only_milliseconds own text front is other Seconds count at n =
    absurd (no_m front count (subst (λ (t : List ℕ). IsNumber 64 t count) (same_last other (front ++ 109 ∷ []) 115 115 (sym at ∙ is ∙ letters front)).0 n))
only_milliseconds own text front is other Minutes count at n =
    let e : 109 ≡ 115 = (same_last other (front ++ 109 ∷ []) 109 115 (sym at ∙ is ∙ letters front)).1 in absurd (omega (arith, e))

only_seconds : (own : ℕ) (text front : List ℕ) → ((f : List ℕ) → text ≡ f ++ codes "ms" → ⊥) → text ≡ front ++ codes "s" → Only own text front 1000
only_seconds own text front missing is other Own count at n =
    absurd (no_s front count (subst (λ (t : List ℕ). IsNumber 64 t count) (sym (append-nil other) ∙ sym at ∙ is) n))
only_seconds own text front missing is other Milliseconds count at n = absurd (missing other at)
only_seconds own text front missing is other Seconds count at n = ((same_last other front 115 115 (sym at ∙ is)).0, refl)
only_seconds own text front missing is other Minutes count at n =
    let e : 109 ≡ 115 = (same_last other front 109 115 (sym at ∙ is)).1 in absurd (omega (arith, e))

only_minutes : (own : ℕ) (text front : List ℕ) → ((f : List ℕ) → text ≡ f ++ codes "ms" → ⊥) → ((f : List ℕ) → text ≡ f ++ codes "s" → ⊥)
    → text ≡ front ++ codes "m" → Only own text front 60000
only_minutes own text front no_ms no_seconds is other Own count at n =
    absurd (no_m front count (subst (λ (t : List ℕ). IsNumber 64 t count) (sym (append-nil other) ∙ sym at ∙ is) n))
only_minutes own text front no_ms no_seconds is other Milliseconds count at n = absurd (no_ms other at)
only_minutes own text front no_ms no_seconds is other Seconds count at n = absurd (no_seconds other at)
only_minutes own text front no_ms no_seconds is other Minutes count at n = ((same_last other front 109 109 (sym at ∙ is)).0, refl)

only_alone : (own : ℕ) (text : List ℕ) → ((f : List ℕ) → text ≡ f ++ codes "ms" → ⊥) → ((f : List ℕ) → text ≡ f ++ codes "s" → ⊥)
    → ((f : List ℕ) → text ≡ f ++ codes "m" → ⊥) → Only own text text own
only_alone own text no_ms no_seconds no_minutes other Own count at n = (sym (append-nil other) ∙ sym at, refl)
only_alone own text no_ms no_seconds no_minutes other Milliseconds count at n = absurd (no_ms other at)
only_alone own text no_ms no_seconds no_minutes other Seconds count at n = absurd (no_seconds other at)
only_alone own text no_ms no_seconds no_minutes other Minutes count at n = absurd (no_minutes other at)

pub cut_at_milliseconds : (own : ℕ) (text front : List ℕ) → text ≡ front ++ codes "ms" → IsCutAtUnit own text front 1
cut_at_milliseconds own text front is =
    record { unit = Milliseconds; text_is = is; each_is = refl; only = only_milliseconds own text front is }

pub cut_at_seconds : (own : ℕ) (text front : List ℕ) → ((f : List ℕ) → text ≡ f ++ codes "ms" → ⊥) → text ≡ front ++ codes "s"
    → IsCutAtUnit own text front 1000
cut_at_seconds own text front missing is =
    record { unit = Seconds; text_is = is; each_is = refl; only = only_seconds own text front missing is }

pub cut_at_minutes : (own : ℕ) (text front : List ℕ) → ((f : List ℕ) → text ≡ f ++ codes "ms" → ⊥) → ((f : List ℕ) → text ≡ f ++ codes "s" → ⊥)
    → text ≡ front ++ codes "m" → IsCutAtUnit own text front 60000
cut_at_minutes own text front no_ms no_seconds is =
    record { unit = Minutes; text_is = is; each_is = refl; only = only_minutes own text front no_ms no_seconds is }

pub not_cut : (own : ℕ) (text : List ℕ) → ((f : List ℕ) → text ≡ f ++ codes "ms" → ⊥) → ((f : List ℕ) → text ≡ f ++ codes "s" → ⊥)
    → ((f : List ℕ) → text ≡ f ++ codes "m" → ⊥) → IsCutAtUnit own text text own
not_cut own text no_ms no_seconds no_minutes =
    record { unit = Own; text_is = sym (append-nil text); each_is = refl; only = only_alone own text no_ms no_seconds no_minutes }

-- ---- what a text is

counted : (own : ℕ) (text front : List ℕ) (each count milliseconds : ℕ) → IsCutAtUnit own text front each → IsNumber 64 front count
    → IsTime own text milliseconds → milliseconds ≡ count * each
counted own text front each count milliseconds cut number time =
    let one = cut.only time.front time.unit time.count time.text_is time.number in
    let same : time.count ≡ count = one_number 64 front time.count count (subst (λ (t : List ℕ). IsNumber 64 t time.count) one.0 time.number) number in
    time.is ∙ ap (λ (n : ℕ). n * unit_length own time.unit) same ∙ ap (λ (e : ℕ). count * e) one.1

-- where the unit of a time begins is where the text is cut
cut_by : (own : ℕ) (text front : List ℕ) (unit : TimeUnit) (count : ℕ) → text ≡ front ++ unit_text unit → IsNumber 64 front count
    → IsCutAtUnit own text front (unit_length own unit)
cut_by own text front Own count is n =
    let same : text ≡ front = is ∙ append-nil front in
    let number : IsNumber 64 text count = subst (λ (t : List ℕ). IsNumber 64 t count) (sym same) n in
    let no_ms : (f : List ℕ) → text ≡ f ++ codes "ms" → ⊥ =
    λ f e. no_s (f ++ 109 ∷ []) count (subst (λ (t : List ℕ). IsNumber 64 t count) (e ∙ letters f) number) in
    let no_seconds : (f : List ℕ) → text ≡ f ++ codes "s" → ⊥ = λ f e. no_s f count (subst (λ (t : List ℕ). IsNumber 64 t count) e number) in
    let no_minutes : (f : List ℕ) → text ≡ f ++ codes "m" → ⊥ = λ f e. no_m f count (subst (λ (t : List ℕ). IsNumber 64 t count) e number) in
    subst (λ (f : List ℕ). IsCutAtUnit own text f own) same (not_cut own text no_ms no_seconds no_minutes)
cut_by own text front Milliseconds count is n = cut_at_milliseconds own text front is
cut_by own text front Seconds count is n =
    cut_at_seconds own text front
    (λ f e. no_m f count
    (subst (λ (t : List ℕ). IsNumber 64 t count) (same_last front (f ++ 109 ∷ []) 115 115 (sym is ∙ e ∙ letters f)).0 n))
    is
cut_by own text front Minutes count is n =
    cut_at_minutes own text front
    (λ f e. let other : 109 ≡ 115 = (same_last front (f ++ 109 ∷ []) 109 115 (sym is ∙ e ∙ letters f)).1 in absurd (omega (arith, other)))
    (λ f e. let other : 109 ≡ 115 = (same_last front f 109 115 (sym is ∙ e)).1 in absurd (omega (arith, other)))
    is

-- a text is one time
pub same_time : (own : ℕ) (text : List ℕ) (a b : ℕ) → IsTime own text a → IsTime own text b → a ≡ b
same_time own text a b one other =
    one.is
    ∙ sym
    (counted own text one.front (unit_length own one.unit) one.count b (cut_by own text one.front one.unit one.count one.text_is one.number) one.number
    other)

-- what the product is, if it fits
pub time_told : (own : ℕ) (text front : List ℕ) (each count : ℕ) (r : Option ℕ) → IsCutAtUnit own text front each → IsNumber 64 front count
    → SomeIff r (count * each < 2 ^ 64) (count * each) → MatchOption r (IsNoTime own text) (IsTime own text)
time_told own text front each count None cut number some = λ milliseconds time.
    absurd (some (subst (λ (n : ℕ). n < 2 ^ 64) (counted own text front each count milliseconds cut number time) time.fits))
time_told own text front each count (Some r) cut number some =
    record {
      front = front;
      unit = cut.unit;
      text_is = cut.text_is;
      count = count;
      number = number;
      is = some.1 ∙ ap (λ (e : ℕ). count * e) cut.each_is;
      fits = subst (λ (n : ℕ). n < 2 ^ 64) (sym some.1) some.0;
    }

some_of : (r : Option ℕ) (P : Type 0) (k : ℕ) → P → SomeIff r P k → r ≡ Some k
some_of (Some j) P k is told = ap Some told.1
some_of None P k is told = absurd (told is)

-- a number alone is cut behind its digits
alone : (own : ℕ) (text front : List ℕ) (each n : ℕ) → n < 2 ^ 64 → text ≡ decimal n → IsCutAtUnit own text front each → (text ≡ front) × (own ≡ each)
alone own text front each n small is cut =
    cut.only text Own n (sym (append-nil text)) (subst (λ (t : List ℕ). IsNumber 64 t n) (sym is) (decimal_is_number 64 n small small))

pub alone_counted : (own : ℕ) (text front : List ℕ) (each count n : ℕ) (r : Option ℕ) → n < 2 ^ 64 → n * own < 2 ^ 64 → text ≡ decimal n
    → IsCutAtUnit own text front each → IsNumber 64 front count → SomeIff r (count * each < 2 ^ 64) (count * each) → r ≡ Some (n * own)
alone_counted own text front each count n r small fits is cut number some =
    let one = alone own text front each n small is cut in
    let same : count ≡ n =
    one_number 64 front count n number (subst (λ (t : List ℕ). IsNumber 64 t n) (sym is ∙ one.0) (decimal_is_number 64 n small small)) in
    let product : count * each ≡ n * own = ap (λ (k : ℕ). k * each) same ∙ ap (λ (e : ℕ). n * e) (sym one.1) in
    some_of r (count * each < 2 ^ 64) (count * each) (subst (λ (k : ℕ). k < 2 ^ 64) (sym product) fits) some ∙ ap Some product

pub alone_not_counted : (own : ℕ) (text front : List ℕ) (each n : ℕ) → n < 2 ^ 64 → text ≡ decimal n → IsCutAtUnit own text front each → IsNoNumber 64 front → ⊥
alone_not_counted own text front each n small is cut none =
    none n (subst (λ (t : List ℕ). IsNumber 64 t n) (sym is ∙ (alone own text front each n small is cut).0) (decimal_is_number 64 n small small))
