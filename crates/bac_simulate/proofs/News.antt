-- What is printed of new facts and copies, one after the other.
use Rattle.std.proofs.Common.{◌≡◌, ℕ, ◌+◌, ◌≤◌, false, List, length, map, drop, reverse, Option, Some, Result, OnOk, sym, ap, subst, ◌∙◌, slice_get}
use Rattle.std.proofs.lemmas.List.{drop_all, length-map, length-reverse, reverse-reverse}
use Rattle.std.specs.Io.KnownBytes.{Appends}
use Rattle.bac_journal.specs.Notes.{note_view, notes_view}
use Rattle.bac_journal.specs.Views.{copy_view}
use Rattle.bac_journal.specs.declared.copies.Copy as copy
use Rattle.bac_journal.specs.declared.noting.Note as note
use Rattle.bac_network.specs.Views.{fact_view, log_view}
use Rattle.bac_network.specs.declared.fact.Fact as fact
use Rattle.bac_world.specs.Once as once
use Rattle.bac_network.specs.Histories.{WorldView}
use Rattle.bac_world.specs.World as world
use Rattle.bac_simulate.specs.Captures.{record_of, records_of}
use Rattle.bac_simulate.specs.Printed.{copies_text, fact_text, facts_text, news_text}
use Rattle.bac_simulate.proofs.Appending.{before, drop_seen, joined, nothing_more}
use Rattle.bac_commands.specs.Facts.{sent_line}

-- ---- one more

pub fact_more : (notes : List world.Note) (facts : List fact.Fact) (i : ℕ) (f : fact.Fact) → slice_get facts i ≡ Some f → (a b c : Option (List ℕ))
    → Appends a b (fact_text notes (fact_view f)) → Appends b c (facts_text notes (drop (i + 1) (map fact_view facts)))
    → Appends a c (facts_text notes (drop i (map fact_view facts)))
fact_more notes facts i f at a b c p q =
    subst (λ (l : List once.Fact). Appends a c (facts_text notes l)) (sym (drop_seen fact_view facts i f at))
    (joined a b c (fact_text notes (fact_view f)) (facts_text notes (drop (i + 1) (map fact_view facts))) p q)

pub copy_more : (copies : List copy.Copy) (i : ℕ) (k : copy.Copy) → slice_get copies i ≡ Some k → (a b c : Option (List ℕ))
    → Appends a b (sent_line i k.from k.to k.octets.items) → Appends b c (copies_text (i + 1) (drop (i + 1) (map copy_view copies)))
    → Appends a c (copies_text i (drop i (map copy_view copies)))
copy_more copies i k at a b c p q =
    subst (λ (l : List world.Copy). Appends a c (copies_text i l)) (sym (drop_seen copy_view copies i k at))
    (joined a b c (sent_line i k.from k.to k.octets.items) (copies_text (i + 1) (drop (i + 1) (map copy_view copies))) p q)

pub record_more : (parts : ℕ) (copies : List copy.Copy) (i : ℕ) (k : copy.Copy) → slice_get copies i ≡ Some k → (a b c : Option (List ℕ))
    → Appends a b (record_of parts (copy_view k)) → Appends b c (records_of parts (drop (i + 1) (map copy_view copies)))
    → Appends a c (records_of parts (drop i (map copy_view copies)))
record_more parts copies i k at a b c p q =
    subst (λ (l : List world.Copy). Appends a c (records_of parts l)) (sym (drop_seen copy_view copies i k at))
    (joined a b c (record_of parts (copy_view k)) (records_of parts (drop (i + 1) (map copy_view copies))) p q)

-- ---- no more

past : {A B : Type 0} (f : A → B) (xs : List A) (n : ℕ) → length xs ≤ n → length (map f xs) ≤ n
past f xs n h = let same = length-map xs f in subst (λ (m : ℕ). m ≤ n) (sym same) h

pub no_fact_more : (notes : List world.Note) (facts : List fact.Fact) (i : ℕ) → length facts ≤ i → (a : Option (List ℕ))
    → Appends a a (facts_text notes (drop i (map fact_view facts)))
no_fact_more notes facts i h a =
    subst (λ (l : List once.Fact). Appends a a (facts_text notes l)) (sym (drop_all i (map fact_view facts) (past fact_view facts i h))) (nothing_more a)

pub no_copy_more : (copies : List copy.Copy) (i : ℕ) → length copies ≤ i → (a : Option (List ℕ))
    → Appends a a (copies_text i (drop i (map copy_view copies)))
no_copy_more copies i h a =
    subst (λ (l : List world.Copy). Appends a a (copies_text i l)) (sym (drop_all i (map copy_view copies) (past copy_view copies i h))) (nothing_more a)

-- ---- both

pub log_length : (facts : List fact.Fact) (log : List once.Fact) → log_view facts ≡ log → length facts ≡ length log
log_length facts log e = sym (length-map facts fact_view) ∙ (sym (length-reverse (map fact_view facts)) ∙ ap length e)

pub copies_length : (copies : List copy.Copy) (all : List world.Copy) → map copy_view copies ≡ all → length copies ≡ length all
copies_length copies all e = sym (length-map copies copy_view) ∙ ap length e

pub no_record_more : (parts : ℕ) (copies : List copy.Copy) (i : ℕ) → length copies ≤ i → (a : Option (List ℕ))
    → Appends a a (records_of parts (drop i (map copy_view copies)))
no_record_more parts copies i h a =
    subst (λ (l : List world.Copy). Appends a a (records_of parts l)) (sym (drop_all i (map copy_view copies) (past copy_view copies i h))) (nothing_more a)

pub news_told : {T E : Type 0} (r : Result T E) (w : WorldView) (notes : List note.Note) (facts : List fact.Fact) (copies : List copy.Copy) (i k : ℕ)
    → (a b c : Option (List ℕ)) → notes_view notes ≡ w.notes → log_view facts ≡ w.log → map copy_view copies ≡ w.copies
    → Appends a b (facts_text (map note_view notes) (drop i (map fact_view facts)))
    → OnOk r (Appends b c (copies_text k (drop k (map copy_view copies)))) → OnOk r (Appends a c (news_text false i k w))
news_told r w notes facts copies i k a b c ns fs cs p q =
    let notes_are : map note_view notes ≡ reverse w.notes = sym (reverse-reverse (map note_view notes)) ∙ ap reverse ns in
    let facts_are : map fact_view facts ≡ reverse w.log = sym (reverse-reverse (map fact_view facts)) ∙ ap reverse fs in
    let first : Appends a b (facts_text (reverse w.notes) (drop i (reverse w.log))) =
    subst (λ (l : List world.Note). Appends a b (facts_text l (drop i (reverse w.log)))) notes_are
    (subst (λ (l : List once.Fact). Appends a b (facts_text (map note_view notes) (drop i l))) facts_are p) in
    let second : OnOk r (Appends b c (copies_text k (drop k w.copies))) =
    subst (λ (l : List world.Copy). OnOk r (Appends b c (copies_text k (drop k l)))) cs q in
    before r a b c (facts_text (reverse w.notes) (drop i (reverse w.log))) (copies_text k (drop k w.copies)) first second
