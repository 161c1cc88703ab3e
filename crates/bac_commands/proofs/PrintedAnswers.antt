-- Lines that are printed one after the other.
use Rattle.std.proofs.Common.{◌≡◌, ℕ, ◌+◌, ◌<◌, List, [], ◌∷◌, ◌++◌, length, take, get_or, Option, Result, Ok, Err, OnOk, ap, sym, subst, ◌∙◌}
use Rattle.std.proofs.KnownBytes.{Appends-kept, Appends-trans}
use Rattle.std.proofs.lemmas.List.{append_assoc, append-nil, take_more}
use Rattle.std.specs.Io.KnownBytes.{Appends, Keeps}
use Rattle.bac_transaction.specs.Sends.{Datagram}
use Rattle.bac_store.specs.Stores.{Store}
use Rattle.bac_commands.specs.Answers.{AreAnswersOf}
use Rattle.bac_commands.specs.AnswerTexts.{ArePrintedOf, line_of, lines_of, sent_text}

lines_more : (ds : List Datagram) (d : Datagram) → lines_of (ds ++ d ∷ []) ≡ lines_of ds ++ line_of d
lines_more [] d = append-nil (line_of d)
lines_more (x ∷ xs) d = ap (λ (l : List ℕ). line_of x ++ l) (lines_more xs d) ∙ sym (append_assoc (line_of x) (lines_of xs) (line_of d))

-- one more line after those of the first datagrams
pub one_more : (a b c : Option (List ℕ)) (ds : List Datagram) (i : ℕ) (d : Datagram) → i < length ds → Appends a b (lines_of (take i ds))
    → Appends b c (line_of (get_or ds i d)) → Appends a c (lines_of (take (i + 1) ds))
one_more a b c ds i d lt p q =
    subst (Appends a c) (sym (ap lines_of (take_more ds i d lt) ∙ lines_more (take i ds) (get_or ds i d)))
    (Appends-trans a b c (lines_of (take i ds)) (line_of (get_or ds i d)) p q)

-- the answers were printed, and flushed
pub all_printed : {T E : Type 0} (r : Result T E) (store : Store) (octets : List ℕ) (a b c : Option (List ℕ)) (sent printed : List Datagram)
    → AreAnswersOf store octets sent → printed ≡ sent → Appends a b (sent_text printed) → Keeps b c → OnOk r (ArePrintedOf store octets a c)
all_printed (Ok t) store octets a b c sent printed h same p k = record {
  sent = sent;
  answers = h;
  printed = Appends-kept a b c (sent_text sent) (subst (λ (l : List Datagram). Appends a b (sent_text l)) same p) k;
}
all_printed (Err e) store octets a b c sent printed h same p k = tt
