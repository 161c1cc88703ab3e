-- Worlds to which nothing has happened.
use Rattle.std.proofs.Common.{◌≡◌, ◌⊎◌, ℕ, zero, suc, ◌+◌, ◌<◌, ◌≤◌, ◌&&◌, Bool, true, false, List, [], ◌∷◌, length, map, max, drop, None, Some, slice_get}
use Rattle.std.proofs.Common.{nat_lt, refl, sym, ap, subst, inl, inr, ◌∙◌, arith}
use Rattle.std.proofs.lemmas.Bool.Decides.{nat_tests}
use Rattle.std.proofs.lemmas.Option.{slice_get_within}
use Rattle.bac_protocol.specs.Service.{Octets}
use Rattle.bac_store.specs.Stores.{Store}
use Rattle.bac_node.specs.Fresh.{fresh_node, has_large_slots, has_slots_within, slots_within, window_fits}
use Rattle.bac_node.specs.declared.config.Config.{Config}
use Rattle.bac_world.specs.Node.{Node}
use Rattle.bac_world.specs.World.{World, IsFresh, IsFreshNode, IsBounded, link_at, stores_of, untouched}
use Rattle.bac_world.proofs.Steps.{decide_number}
use Rattle.bac_journal.specs.Entering.{Every}
use Rattle.bac_journal.specs.Lives.{fresh_life, lives_at}
use Rattle.bac_journal.specs.Views.{AreLinks}
use Rattle.bac_network.specs.Fresh.{Maker, ruled_at, greatest_window, links_of, nodes_of, opening_of}
use Rattle.bac_network.specs.Fresh.{HasBadSlotsWithin, HasBadWindow, HaveSameLink, IsGood, IsRightWithin, IsTaken}
use Rattle.bac_protocol.specs.Pace.{IsTimely, clock_at}
use Rattle.bac_journal.specs.Clocks.{OwnClocks, clock_of, pace_of}
use Rattle.bac_network.specs.Clocks.{Instant}
use Rattle.bac_network.specs.Histories.{WorldView, IsKept, as_world, view_of}
use Rattle.bac_network.specs.Views.{log_view}
use Rattle.bac_network.specs.declared.network.Network.{Network}
use Rattle.bac_protocol.proofs.AtDrift.{lives}

-- Windows.

pub window_within : (makers : List Maker) (i : ℕ) (m : Maker) → slice_get makers i ≡ Some m → (m.0).window ≤ greatest_window makers
window_within [] i m at = absurd cc
window_within (x ∷ makers) zero m at =
    let same : x ≡ m = let e : Some x ≡ Some m = at in cc in
    subst (λ (y : Maker). (y.0).window ≤ max (x.0).window (greatest_window makers)) same (omega arith)
window_within (x ∷ makers) (suc i) m at = let rest = window_within makers i m at in omega arith

pub window_some : (makers : List Maker) → 1 ≤ greatest_window makers
window_some [] = omega arith
window_some (x ∷ makers) = let rest = window_some makers in omega arith

-- Nothing happened at any of them.
untouched_at : (links : List Octets) (i : ℕ) → lives_at (map fresh_life links) i ≡ untouched
untouched_at [] i = refl
untouched_at (l ∷ links) zero = refl
untouched_at (l ∷ links) (suc i) = untouched_at links i

-- Makers that are right.

every_of : {A : Type 0} (P : A → Type 0) (xs : List A) → ((i : ℕ) (x : A) → slice_get xs i ≡ Some x → P x) → Every P xs
every_of P [] h = tt
every_of P (x ∷ xs) h = (h zero x refl, every_of P xs (λ i y at. h (suc i) y at))

-- what is within one bound is within a greater one
slots_larger : (most n : ℕ) → most ≤ 65536 → slots_within most n ≡ true → slots_within 65536 n ≡ true
slots_larger most n le within = grind (arith, nat_tests, le, within)

both_true : (a b : Bool) → a && b ≡ true → (a ≡ true) × (b ≡ true)
both_true true b e = (refl, e)
both_true false b e = absurd cc

true_both : (a b : Bool) → a ≡ true → b ≡ true → a && b ≡ true
true_both a b one other = ap (λ (x : Bool). x && b) one ∙ other

large_enough : (most : ℕ) (c : Config) → most ≤ 65536 → has_slots_within most c ≡ true → has_large_slots c ≡ true
large_enough most c le within =
    let both = both_true (slots_within most c.client_slots) (slots_within most c.reply_slots) within in
    true_both (slots_within 65536 c.client_slots) (slots_within 65536 c.reply_slots) (slots_larger most c.client_slots le both.0)
    (slots_larger most c.reply_slots le both.1)

pub all_good : (most overtake : ℕ) (makers : List Maker) → most ≤ 65536 → IsRightWithin most overtake makers → Every IsGood makers
all_good most overtake makers le right = every_of IsGood makers good
  where
    slots : (i : ℕ) (m : Maker) → slice_get makers i ≡ Some m → (b : Bool) → has_slots_within most m.0 ≡ b → has_slots_within most m.0 ≡ true
    slots i m at true e = e
    slots i m at false e = absurd (right.slots (record { place = i; maker = m; at = at; bad = e }))

    windows : (i : ℕ) (m : Maker) → slice_get makers i ≡ Some m → (b : Bool) → window_fits (m.0).window ≡ b → window_fits (m.0).window ≡ true
    windows i m at true e = e
    windows i m at false e = absurd (right.windows (record { place = i; maker = m; at = at; bad = e }))

    good : (i : ℕ) (m : Maker) → slice_get makers i ≡ Some m → IsGood m
    good i m at =
        record { slots = large_enough most m.0 le (slots i m at (has_slots_within most m.0) refl); window = windows i m at (window_fits (m.0).window) refl }

-- Look-ups.

pub linked_fresh : (makers : List Maker) → AreLinks (nodes_of makers) (links_of makers)
linked_fresh [] i = refl
linked_fresh (m ∷ makers) zero = refl
linked_fresh (m ∷ makers) (suc i) = linked_fresh makers i

pub opened_fresh : (makers : List Maker) (i : ℕ) → stores_of (nodes_of makers) i ≡ slice_get (opening_of makers) i
opened_fresh [] i = refl
opened_fresh (m ∷ makers) zero = refl
opened_fresh (m ∷ makers) (suc i) = opened_fresh makers i

maker_of : (makers : List Maker) (i : ℕ) (n : Node) → slice_get (nodes_of makers) i ≡ Some n
    → (m : Maker) × (slice_get makers i ≡ Some m) × (fresh_node m.0 m.1 ≡ n)
maker_of [] i n at = absurd cc
maker_of (m ∷ makers) zero n at = (m, refl, (let e : Some (fresh_node m.0 m.1) ≡ Some n = at in cc))
maker_of (m ∷ makers) (suc i) n at = maker_of makers i n at

maker_at : (makers : List Maker) (i : ℕ) (l : Octets) → link_at (nodes_of makers) i ≡ Some l → (m : Maker) × (slice_get makers i ≡ Some m) × ((m.0).link ≡ l)
maker_at [] i l at = absurd cc
maker_at (m ∷ makers) zero l at = (m, refl, (let e : Some (m.0).link ≡ Some l = at in cc))
maker_at (m ∷ makers) (suc i) l at = maker_at makers i l at

less_or_more : (i j : ℕ) → (i ≡ j → ⊥) → (i < j) ⊎ (j < i)
less_or_more i j ne = go (nat_lt i j) refl
  where
    go : (b : Bool) → nat_lt i j ≡ b → (i < j) ⊎ (j < i)
    go true e = inl (grind (arith, nat_tests))
    go false e = inr (let le : j ≤ i = grind (arith, nat_tests) in omega (arith, ne))

-- The world.

module _ (t : Instant) (zero : t.moment ≡ 0) (timely : IsTimely (pace_of t.own))
    (shown : (i : ℕ) → clock_of t.moment t.own i ≡ clock_at (pace_of t.own) (clock_of t.moment t.own i).exact)
    (most overtake : ℕ) (reuses : List Bool) (makers : List Maker) (right : IsRightWithin most overtake makers) where
  abbrev first : World
  first = as_world (ruled_at t overtake reuses makers)

  apart : (i j : ℕ) (l : Octets) → link_at first.nodes i ≡ Some l → link_at first.nodes j ≡ Some l → i ≡ j
  apart i j l a b = go (decide_number i j)
    where
      one : (m : Maker) × (slice_get makers i ≡ Some m) × ((m.0).link ≡ l)
      one = maker_at makers i l a

      other : (m : Maker) × (slice_get makers j ≡ Some m) × ((m.0).link ≡ l)
      other = maker_at makers j l b

      clash : ((i < j) ⊎ (j < i)) → i ≡ j
      clash (inl lt) = absurd (right.apart (record {
        first = i;
        second = j;
        apart = lt;
        one = one.0;
        other = other.0;
        at_first = one.1;
        at_second = other.1;
        same = one.2 ∙ sym other.2;
      }))
      clash (inr lt) = absurd (right.apart (record {
        first = j;
        second = i;
        apart = lt;
        one = other.0;
        other = one.0;
        at_first = other.1;
        at_second = one.1;
        same = other.2 ∙ sym one.2;
      }))

      go : ((i ≡ j) ⊎ (i ≡ j → ⊥)) → i ≡ j
      go (inl is) = is
      go (inr ne) = clash (less_or_more i j ne)

  fresh : IsFresh first
  fresh = record {
    nodes = λ i n at.
        let m = maker_of makers i n at in
        subst IsFreshNode m.2 (record { latest = refl; slots = refl; asked = refl; asks_from = refl; entries = refl; serves_from = refl });
    apart = apart;
    lives = λ i. untouched_at (links_of makers) i;
    now = zero;
    clocks = shown;
    copies = refl;
    log = refl;
    notes = refl;
  }

  bounded : IsBounded (greatest_window makers) overtake first
  bounded = record {
    some = window_some makers;
    windows = λ i n at.
        let m = maker_of makers i n at in
        subst (λ (a : Node). a.settings.window ≤ greatest_window makers) m.2 (window_within makers i m.0 m.1);
    room = omega (arith, right.bound);
  }

  kept_fresh : IsKept (greatest_window makers) (links_of makers) (ruled_at t overtake reuses makers)
  kept_fresh = record {
    history = record {
      first = first;
      events = [];
      fresh = fresh;
      timely = timely;
      bounded = bounded;
      opening = opened_fresh makers;
      run = refl;
    };
    linked = linked_fresh makers;
  }

  pub kept_first : (window : ℕ) (links : List Octets) (v : WorldView) → window ≡ greatest_window makers → links ≡ links_of makers
      → v ≡ ruled_at t overtake reuses makers → IsKept window links v
  kept_first window links v a b d =
      subst (λ w. IsKept w links v) (sym a)
      (subst (λ l. IsKept (greatest_window makers) l v) (sym b)
      (subst (λ x. IsKept (greatest_window makers) (links_of makers) x) (sym d) kept_fresh))

-- what is made, as contracts see it
pub made_is : (t : Instant) (overtake : ℕ) (reuses : List Bool) (makers : List Maker) (opening : List Store) (n : Network) → opening ≡ opening_of makers
    → n.nodes.items ≡ nodes_of makers
    → n.journal ≡ record (n.journal) { links = links_of makers; moment = t.moment; own = t.own; lives = map fresh_life (links_of makers); copies = []; notes = [] } → n.log.items ≡ []
    → view_of overtake opening reuses n ≡ ruled_at t overtake reuses makers
made_is t overtake reuses makers opening n a b d e = λ i. record {
  overtake = overtake;
  opening = a i;
  reuses = reuses;
  nodes = b i;
  time = record { moment = (d i).moment; own = (d i).own };
  lives = (d i).lives;
  copies = (d i).copies;
  log = log_view (e i);
  notes = (d i).notes;
}

-- all clocks are shown
pub one_shown : (i : ℕ) → clock_of 0 None i ≡ clock_at (pace_of None) (clock_of 0 None i).exact
one_shown i = refl

pub own_shown : (o : OwnClocks) (i : ℕ) → clock_of 0 (Some o) i ≡ clock_at (pace_of (Some o)) (clock_of 0 (Some o) i).exact
own_shown o i = refl

pub today : IsTimely (pace_of None)
today = lives.today

-- Tests of what is to be made.

pub taken_more : (makers : List Maker) (i : ℕ) (link : Octets) (m : Maker) → slice_get makers i ≡ Some m → ((m.0).link ≡ link → ⊥)
    → (IsTaken makers i link → ⊥) → IsTaken makers (i + 1) link → ⊥
taken_more makers i link m at ne none h = go (decide_number h.before i)
  where
    go : ((h.before ≡ i) ⊎ (h.before ≡ i → ⊥)) → ⊥
    go (inl is) =
        let same : h.maker ≡ m = let e : Some h.maker ≡ Some m = sym h.at ∙ ap (slice_get makers) is ∙ at in cc in
        ne (sym (ap (λ (x : Maker). (x.0).link) same) ∙ h.same)
    go (inr ne') = none (record {
      before = h.before;
      maker = h.maker;
      below = (let lt : h.before < i + 1 = h.below in omega (arith, ne', lt));
      at = h.at;
      same = h.same;
    })

pub same_link_more : (makers : List Maker) (i : ℕ) (m : Maker) → slice_get makers i ≡ Some m → (IsTaken makers i (m.0).link → ⊥)
    → ((h : HaveSameLink makers) → h.second < i → ⊥) → (h : HaveSameLink makers) → h.second < i + 1 → ⊥
same_link_more makers i m at free none h lt = go (decide_number h.second i)
  where
    go : ((h.second ≡ i) ⊎ (h.second ≡ i → ⊥)) → ⊥
    go (inl is) =
        let same : h.other ≡ m = let e : Some h.other ≡ Some m = sym h.at_second ∙ ap (slice_get makers) is ∙ at in cc in
        free (record {
          before = h.first;
          maker = h.one;
          below = subst (λ (k : ℕ). h.first < k) is h.apart;
          at = h.at_first;
          same = h.same ∙ ap (λ (x : Maker). (x.0).link) same;
        })
    go (inr ne') = none h (omega (arith, ne', lt))

pub slots_more : (most : ℕ) (makers : List Maker) (i : ℕ) (m : Maker) → slice_get makers i ≡ Some m → has_slots_within most m.0 ≡ true
    → ((h : HasBadSlotsWithin most makers) → h.place < i → ⊥) → (h : HasBadSlotsWithin most makers) → h.place < i + 1 → ⊥
slots_more most makers i m at good none h lt = go (decide_number h.place i)
  where
    go : ((h.place ≡ i) ⊎ (h.place ≡ i → ⊥)) → ⊥
    go (inl is) =
        let same : h.maker ≡ m = let e : Some h.maker ≡ Some m = sym h.at ∙ ap (slice_get makers) is ∙ at in cc in
        let clash : true ≡ false = sym good ∙ sym (ap (λ (x : Maker). has_slots_within most x.0) same) ∙ h.bad in cc
    go (inr ne') = none h (omega (arith, ne', lt))

pub windows_more : (makers : List Maker) (i : ℕ) (m : Maker) → slice_get makers i ≡ Some m → window_fits (m.0).window ≡ true
    → ((h : HasBadWindow makers) → h.place < i → ⊥) → (h : HasBadWindow makers) → h.place < i + 1 → ⊥
windows_more makers i m at good none h lt = go (decide_number h.place i)
  where
    go : ((h.place ≡ i) ⊎ (h.place ≡ i → ⊥)) → ⊥
    go (inl is) =
        let same : h.maker ≡ m = let e : Some h.maker ≡ Some m = sym h.at ∙ ap (slice_get makers) is ∙ at in cc in
        let clash : true ≡ false = sym good ∙ sym (ap (λ (x : Maker). window_fits (x.0).window) same) ∙ h.bad in cc
    go (inr ne') = none h (omega (arith, ne', lt))

pub place_within : (makers : List Maker) (i : ℕ) (m : Maker) → slice_get makers i ≡ Some m → i < length makers
place_within makers i m at = slice_get_within makers i m at

drop_all : (makers : List Maker) (i : ℕ) → length makers ≤ i → greatest_window (drop i makers) ≡ 1
drop_all [] zero h = refl
drop_all [] (suc i) h = refl
drop_all (m ∷ makers) zero h = absurd (omega arith)
drop_all (m ∷ makers) (suc i) h = drop_all makers i (omega arith)

-- where all were looked at, the greatest so far is the greatest
pub greatest_end : (makers : List Maker) (i greatest : ℕ) → 1 ≤ greatest → length makers ≤ i
    → max greatest (greatest_window (drop i makers)) ≡ greatest_window makers → greatest ≡ greatest_window makers
greatest_end makers i greatest some all is =
    let one = drop_all makers i all in
    let e : max greatest 1 ≡ greatest_window makers = sym (ap (max greatest) one) ∙ is in
    let f : max greatest 1 ≡ greatest = omega arith in
    sym f ∙ e
