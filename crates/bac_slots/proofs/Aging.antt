-- What is known of ages stays true when values are added, change or are due; so slots that are not alive are not young.
use Rattle.std.proofs.Common.{◌≡◌, ℕ, ◌<◌, ◌≤◌, Bool, true, false, ◌&&◌, nat_eq, nat_le, nat_lt, min, if◌then◌else◌, List, [], ◌∷◌, ◌++◌, map, filter}
use Rattle.std.proofs.Common.{Option, Some, None, MatchOption, refl, ap, sym, subst, ◌∙◌, arith}
use Rattle.std.proofs.lemmas.Bool.Decides.{nat_tests}
use Rattle.bac_slots.specs.declared.slot.Slot.{Slot}
use Rattle.bac_slots.specs.Slots.{Ascends, EachSlot, YoungPass, value_at, with_value}
use Rattle.bac_slots.proofs.SlotAges.{ascends_kept, ascends_put, ascends_set, each_kept, each_more, each_put, each_set}
use Rattle.bac_slots.specs.Ages.{AreInOrder, AreInOrderIf, AreQuiet, HasBegun, IsAged, IsKnownBy, changed, later_of, ticked_in}
use Rattle.bac_slots.specs.declared.ages.Ages.{Ages}

-- a moment between two
pub between : (from due now : ℕ) → nat_le from now && nat_lt now due ≡ true → (from ≤ now) × (now < due)
between from due now h = (grind (arith, nat_tests), grind (arith, nat_tests))

-- from a moment on, up to the greatest
pub from_then_on : (from due now : ℕ) → nat_le from now && nat_eq due 18446744073709551615 ≡ true → (from ≤ now) × (due ≡ 18446744073709551615)
from_then_on from due now h = (grind (arith, nat_tests), grind (arith, nat_tests))

-- the latest moment stays known when a value is added
pub stays_known : (now : ℕ) (old new : Option ℕ) → MatchOption old (new ≡ None) (λ l. l ≤ now → new ≡ Some now) → IsKnownBy now old → IsKnownBy now new
stays_known now None new h known = absurd known
stays_known now (Some l) new h known = subst (IsKnownBy now) (sym (h known)) (omega arith)

module _ (K V : Type 0) (began : V → ℕ) (Quiet : ℕ → ℕ → V → Type 0) where
  abbrev Slots : Type 0
  Slots = List (Slot K V)

  -- the law that nothing to do before a moment means nothing to do before an earlier one
  abbrev pub Earlier : Type 0
  Earlier = (from due sooner : ℕ) (v : V) → sooner ≤ due → Quiet from due v → Quiet from sooner v

  pub quiet_earlier : (law : Earlier) (from due sooner : ℕ) (slots : Slots) → sooner ≤ due → AreQuiet Quiet from due slots → AreQuiet Quiet from sooner slots
  quiet_earlier law from due sooner slots le q =
      each_more (λ s. Quiet from due s.value) (λ s. Quiet from sooner s.value) slots (λ s h. law from due sooner s.value le h) q

  -- The value of a key changes.

  set_in_order : (eq : K → K → Bool) (l : ℕ) (key : K) (x y : V) (slots : Slots) → value_at eq key slots ≡ Some x → began y ≡ began x
      → AreInOrder K V began l slots → AreInOrder K V began l (with_value eq key y slots)
  set_in_order eq l key x y slots at same h =
      record {
        ascends = ascends_set eq key y slots h.ascends;
        begun = each_set (HasBegun began l) eq key y slots h.begun (λ s b is.
            let found : Some s.value ≡ Some x = sym is ∙ at in
            let one : s.value ≡ x = cc in
            (b.0 ∙ ap began one ∙ sym same, b.1));
      }

  still_in_order : (eq : K → K → Bool) (o : Option ℕ) (key : K) (x y : V) (slots : Slots) → value_at eq key slots ≡ Some x → began y ≡ began x
      → AreInOrderIf began o slots → AreInOrderIf began o (with_value eq key y slots)
  still_in_order eq None key x y slots at same h = tt
  still_in_order eq (Some l) key x y slots at same h = set_in_order eq l key x y slots at same h

  pub goes_on : (eq : K → K → Bool) (law : Earlier) (old new : Ages) (due : ℕ) (key : K) (x y : V) (slots after : Slots) → value_at eq key slots ≡ Some x
      → began y ≡ began x → Quiet old.from due y → after ≡ with_value eq key y slots → new ≡ record old { due = min old.due due }
      → IsAged K V began Quiet old slots → IsAged K V began Quiet new after
  goes_on eq law old new due key x y slots after at same quiet set is h =
      let sooner = min old.due due in
      let less : sooner ≤ old.due = omega arith in
      let soon : sooner ≤ due = omega arith in
      subst (λ (a : Ages). IsAged K V began Quiet a after) (sym is) (subst (λ (l : Slots). IsAged K V began Quiet (record old { due = sooner }) l) (sym set) (record {
        quiet = each_set (λ s. Quiet old.from sooner s.value) eq key y slots (quiet_earlier law old.from old.due sooner slots less h.quiet)
            (λ s q at. law old.from due sooner y soon quiet);
        order = still_in_order eq old.latest key x y slots at same h.order;
      }))

  -- Values that are not alive are removed, and a new one is added.
  module _ (lives : V → Bool) where
    abbrev pub swept : Slots → Slots
    swept slots = filter (λ s. lives s.value) slots

    entered_in_order : (now l : ℕ) (key : K) (x : V) (slots : Slots) → l ≤ now → began x ≡ now → AreInOrder K V began l slots
        → AreInOrder K V began now (swept slots ++ record { key = key; begin = now; value = x } ∷ [])
    entered_in_order now l key x slots le is h =
        let s : Slot K V = record { key = key; begin = now; value = x } in
        let kept : Slots = swept slots in
        let begun : EachSlot (HasBegun began l) kept = each_kept (HasBegun began l) (λ s. lives s.value) slots h.begun in
        record {
          ascends = ascends_put kept s (ascends_kept (λ s. lives s.value) slots h.ascends)
              (each_more (HasBegun began l) (λ t. t.begin ≤ now) kept (λ t b. let before = b.1 in omega (arith, le, before)) begun);
          begun = each_put (HasBegun began now) kept s
              (each_more (HasBegun began l) (HasBegun began now) kept (λ t b. (b.0, (let before = b.1 in omega (arith, le, before)))) begun)
              (sym is, omega arith);
        }

    entered_later : (o : Option ℕ) (now : ℕ) (key : K) (x : V) (slots : Slots) → began x ≡ now → AreInOrderIf began o slots
        → AreInOrderIf began (later_of o now) (swept slots ++ record { key = key; begin = now; value = x } ∷ [])
    entered_later None now key x slots is h = tt
    entered_later (Some l) now key x slots is h = go (nat_le l now) refl
      where
        go : (b : Bool) → nat_le l now ≡ b
            → AreInOrderIf began (if b then Some now else None) (swept slots ++ record { key = key; begin = now; value = x } ∷ [])
        go true le = entered_in_order now l key x slots (grind (arith, nat_tests)) is h
        go false le = tt

    pub entered : (law : Earlier) (old new : Ages) (now due : ℕ) (key : K) (x : V) (slots after : Slots) → began x ≡ now
        → Quiet old.from due x → after ≡ swept slots ++ record { key = key; begin = now; value = x } ∷ []
        → new ≡ record old { due = min old.due due; latest = later_of old.latest now } → IsAged K V began Quiet old slots → IsAged K V began Quiet new after
    entered law old new now due key x slots after begins quiet put is h =
        let sooner = min old.due due in
        let less : sooner ≤ old.due = omega arith in
        let soon : sooner ≤ due = omega arith in
        let ages : Ages = record old { due = sooner; latest = later_of old.latest now } in
        subst (λ (a : Ages). IsAged K V began Quiet a after) (sym is) (subst (λ (l : Slots). IsAged K V began Quiet ages l) (sym put) (record {
          quiet = each_put (λ s. Quiet old.from sooner s.value) (swept slots) (record { key = key; begin = now; value = x })
              (each_kept (λ s. Quiet old.from sooner s.value) (λ s. lives s.value) slots (quiet_earlier law old.from old.due sooner slots less h.quiet))
              (law old.from due sooner x soon quiet);
          order = entered_later old.latest now key x slots begins h.order;
        }))

    -- a value younger than its lifetime is alive
    pub young_alive : (l bound : ℕ) (slots : Slots) → ((v : V) → bound < began v → lives v ≡ true) → AreInOrder K V began l slots → YoungPass lives bound slots
    young_alive l bound slots law h =
        each_more (HasBegun began l) (λ s. bound < s.begin → lives s.value ≡ true) slots
        (λ s b late. law s.value (subst (λ (k : ℕ). bound < k) b.0 late)) h.begun

  -- A tick.
  module _ {C : Type 0} (ticked : C → ℕ → K → V → V) (c : C) (now : ℕ) where
    abbrev pub all_ticked : Slots → Slots
    all_ticked slots = map (changed (ticked_in ticked c now)) slots

    each_ticked : (P : Slot K V → Type 0) (slots : Slots) → ((s : Slot K V) → P s → P (changed (ticked_in ticked c now) s)) → EachSlot P slots
        → EachSlot P (all_ticked slots)
    each_ticked P [] f e = tt
    each_ticked P (s ∷ slots) f e = (f s e.0, each_ticked P slots f e.1)

    ascends_ticked : (slots : Slots) → Ascends slots → Ascends (all_ticked slots)
    ascends_ticked [] a = tt
    ascends_ticked (s ∷ slots) a = (each_ticked (λ t. s.begin ≤ t.begin) slots (λ t le. le) a.0, ascends_ticked slots a.1)

    -- a tick keeps the moment at which a value began
    abbrev pub Begins : Type 0
    Begins = (c : C) (now : ℕ) (key : K) (v : V) → began (ticked c now key v) ≡ began v

    -- a tick with nothing to do changes nothing
    abbrev pub Rests : Type 0
    Rests = (c : C) (now from due : ℕ) (key : K) (v : V) → from ≤ now → now < due → Quiet from due v → ticked c now key v ≡ v

    pub ticked_in_order : (law : Begins) (o : Option ℕ) (slots after : Slots) → after ≡ all_ticked slots → AreInOrderIf began o slots
        → AreInOrderIf began o after
    ticked_in_order law None slots after is h = tt
    ticked_in_order law (Some l) slots after is h = subst (λ (s : Slots). AreInOrder K V began l s) (sym is) (record {
      ascends = ascends_ticked slots h.ascends;
      begun = each_ticked (HasBegun began l) slots (λ s b. (b.0 ∙ sym (law c now s.key s.value), b.1)) h.begun;
    })

    -- before anything is due nothing changes
    pub stays : (law : Rests) (from due : ℕ) (within : (from ≤ now) × (now < due)) (slots : Slots) → AreQuiet Quiet from due slots → slots ≡ all_ticked slots
    stays law from due within [] q = refl
    stays law from due within (s ∷ slots) q =
        ap (λ l. s ∷ l) (stays law from due within slots q.1)
        ∙ ap (λ (v : V). record s { value = v } ∷ all_ticked slots) (sym (law c now from due s.key s.value within.0 within.1 q.0))
