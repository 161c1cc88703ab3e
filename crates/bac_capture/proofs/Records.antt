-- Reading records and blocks: a head, and then a body.
use Rattle.std.proofs.Common.{◌≡◌, ◌≢◌, ◌<◌, ◌≤◌, min, nat_lt, true, false, Bool, ℕ, List, [], ◌∷◌, length, take, drop}
use Rattle.std.proofs.Common.{Option, Some, None, Result, Ok, Err, IfOk, refl, sym, ap, subst, ◌∙◌, arith, length-take}
use Rattle.std.proofs.lemmas.Bool.Decides.{nat_tests}
use Rattle.bac_capture.specs.declared.fault.FileFault.{FileFault}
use Rattle.bac_capture.specs.declared.fault.FileFault.TheVariants.{Cut}
use Rattle.bac_capture.specs.declared.form.FileFormat.{FileFormat}
use Rattle.bac_capture.specs.declared.form.FileFormat.TheVariants.{Records, Blocks}
use Rattle.bac_capture.specs.declared.order.Order.{Order}
use Rattle.bac_capture.specs.Files.{head_len_of, body_len_of, body_at, IsRecord, IsBody, IsBodyOf}
use Rattle.bac_capture.specs.declared.file.Layout.{Layout}
use Rattle.bac_capture.specs.Begins.{header_layout, IsBegun}
use Rattle.bac_capture.specs.Blocks.{LayoutView}
use Rattle.bac_capture.specs.BlockViews.{layout_view}
use Rattle.bac_capture.specs.Runs.{RUN_LIMIT, kept, IsRun}
use Rattle.bac_capture.proofs.Runs.{take_all}

-- a head is short, but not empty
head_bounds : (form : FileFormat) → (0 < head_len_of form) × (head_len_of form ≤ 16)
head_bounds Records = (omega arith, omega arith)
head_bounds Blocks = (omega arith, omega arith)

-- how many octets of a head were available
head_count : (form : FileFormat) (xs head : List ℕ) → head ≡ kept (take (head_len_of form) xs) → length head ≡ min (head_len_of form) (length xs)
head_count form xs head e =
    let n = head_len_of form in
    omega (arith, head_bounds form, ap length e, length-take RUN_LIMIT (take n xs), length-take n xs)

empty : (form : FileFormat) (order : Order) (xs : List ℕ) (new : Option (List ℕ)) (head body : List ℕ) (w : Bool)
    → IsRun (Some xs) new (head_len_of form) head w → length head ≡ 0 → IsRecord form order (Some xs) new head body (Ok false)
empty form order [] new head body w r none = record { rest = drop (head_len_of form) []; is = r.is; exact = refl }
empty form order (x ∷ xs) new head body w r none = absurd (omega (arith, none, head_bounds form, head_count form (x ∷ xs) head r.keeps))

pub head_empty : (form : FileFormat) (order : Order) (old new : Option (List ℕ)) (n : ℕ) (head body : List ℕ) (w : Bool) → n ≡ head_len_of form
    → IsRun old new n head w → length head ≡ 0 → IsRecord form order old new head body (Ok false)
head_empty form order None new n head body w e r none = tt
head_empty form order (Some xs) new n head body w e r none =
    empty form order xs new head body w (subst (λ (k : ℕ). IsRun (Some xs) new k head w) e r) none

cut : (form : FileFormat) (order : Order) (xs : List ℕ) (new : Option (List ℕ)) (head body : List ℕ) (w : Bool)
    → IsRun (Some xs) new (head_len_of form) head w → 0 < length head → length head ≢ head_len_of form
    → IsRecord form order (Some xs) new head body (Err Cut)
cut form order [] new head body w r some other = absurd (omega (arith, some, head_count form [] head r.keeps))
cut form order (x ∷ xs) new head body w r some other =
    let less : length (x ∷ xs) < head_len_of form = omega (arith, other, head_count form (x ∷ xs) head r.keeps) in
    let short : nat_lt (length (x ∷ xs)) (head_len_of form) ≡ true = grind (arith, nat_tests, less) in
    record { rest = drop (head_len_of form) (x ∷ xs); is = r.is; exact = rw short refl }

pub head_cut : (form : FileFormat) (order : Order) (old new : Option (List ℕ)) (n : ℕ) (head body : List ℕ) (w : Bool) → n ≡ head_len_of form
    → IsRun old new n head w → 0 < length head → length head ≢ n → IsRecord form order old new head body (Err Cut)
head_cut form order None new n head body w e r some other = tt
head_cut form order (Some xs) new n head body w e r some other =
    cut form order xs new head body w (subst (λ (k : ℕ). IsRun (Some xs) new k head w) e r) some (subst (λ (k : ℕ). length head ≢ k) e other)

body_of : (head here : List ℕ) (size : Result ℕ FileFault) (mid new : Option (List ℕ)) (body : List ℕ) (answer : Result Bool FileFault)
    → mid ≡ Some here → IsBody head size mid new body answer → IsBodyOf head size here new body answer
body_of head here size mid new body answer e b = subst (λ (o : Option (List ℕ)). IsBody head size o new body answer) e b

whole : (form : FileFormat) (order : Order) (xs : List ℕ) (mid new : Option (List ℕ)) (head body : List ℕ) (w : Bool) (answer : Result Bool FileFault)
    → IsRun (Some xs) mid (head_len_of form) head w → length head ≡ head_len_of form
    → IsBody head (body_len_of form order head) mid new body answer → IsRecord form order (Some xs) new head body answer
whole form order [] mid new head body w answer r len b = absurd (omega (arith, len, head_bounds form, head_count form [] head r.keeps))
whole form order (x ∷ xs) mid new head body w answer r len b =
    let n = head_len_of form in
    let enough : n ≤ length (x ∷ xs) = omega (arith, len, head_count form (x ∷ xs) head r.keeps) in
    let long : nat_lt (length (x ∷ xs)) n ≡ false = grind (arith, nat_tests, enough) in
    let front : head ≡ take n (x ∷ xs) =
    r.keeps ∙ take_all (take n (x ∷ xs)) RUN_LIMIT (omega (arith, head_bounds form, length-take n (x ∷ xs))) in
    let read = body_of head (drop n (x ∷ xs)) (body_len_of form order head) mid new body answer r.is b in
    record {
      rest = read.rest;
      is = read.is;
      exact = rw long (ap (λ (h : List ℕ). body_at h (body_len_of form order h) (drop n (x ∷ xs))) (sym front) ∙ read.exact);
    }

pub head_whole : (form : FileFormat) (order : Order) (old mid new : Option (List ℕ)) (n : ℕ) (head shown body : List ℕ) (w : Bool) (answer : Result Bool FileFault)
    → n ≡ head_len_of form → IsRun old mid n head w → length head ≡ n → shown ≡ head
    → IsBody shown (body_len_of form order shown) mid new body answer → IsRecord form order old new head body answer
head_whole form order None mid new n head shown body w answer e r len same b = tt
head_whole form order (Some xs) mid new n head shown body w answer e r len same b =
    whole form order xs mid new head body w answer (subst (λ (k : ℕ). IsRun (Some xs) mid k head w) e r) (len ∙ e)
    (subst (λ (h : List ℕ). IsBody h (body_len_of form order h) mid new body answer) same b)

pub if_read : {E : Type 0} (form : FileFormat) (order : Order) (old mid new : Option (List ℕ)) (n : ℕ) (head shown body : List ℕ) (w : Bool)
    (r : Result (Result Bool FileFault) E) → n ≡ head_len_of form → IsRun old mid n head w → length head ≡ n → shown ≡ head
    → IfOk r (IsBody shown (body_len_of form order shown) mid new body) → IfOk r (IsRecord form order old new head body)
if_read form order old mid new n head shown body w (Ok answer) e r len same b = head_whole form order old mid new n head shown body w answer e r len same b
if_read form order old mid new n head shown body w (Err error) e r len same b = tt

-- ---- the header of a file

header_len : (xs header : List ℕ) → header ≡ kept (take 24 xs) → length header ≡ min 24 (length xs)
header_len xs header e = omega (arith, ap length e, length-take RUN_LIMIT (take 24 xs), length-take 24 xs)

pub header_cut : (order : Order) (old new : Option (List ℕ)) (header : List ℕ) (w : Bool) → IsRun old new 24 header w → length header ≢ 24
    → IsBegun Records order old new (Err Cut)
header_cut order None new header w r other = tt
header_cut order (Some xs) new header w r other =
    let less : length xs < 24 = omega (arith, other, header_len xs header r.keeps) in
    let short : nat_lt (length xs) 24 ≡ true = grind (arith, nat_tests, less) in
    rw short refl

pub header_read : (order : Order) (old new : Option (List ℕ)) (header shown : List ℕ) (w : Bool) (layout : Layout) → IsRun old new 24 header w
    → length header ≡ 24 → shown ≡ header → layout_view layout ≡ header_layout order shown → IsBegun Records order old new (Ok layout)
header_read order None new header shown w layout r len same is = tt
header_read order (Some xs) new header shown w layout r len same is =
    let enough : 24 ≤ length xs = omega (arith, len, header_len xs header r.keeps) in
    let long : nat_lt (length xs) 24 ≡ false = grind (arith, nat_tests, enough) in
    let front : shown ≡ take 24 xs = same ∙ r.keeps ∙ take_all (take 24 xs) RUN_LIMIT (omega (arith, length-take 24 xs)) in
    (drop 24 xs, r.is, rw long (ap (λ (v : LayoutView). Ok (v, drop 24 xs)) (ap (header_layout order) (sym front) ∙ sym is)))
