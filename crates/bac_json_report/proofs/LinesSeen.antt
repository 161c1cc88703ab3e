-- Lines that a report saw, one after the other.
use Rattle.std.proofs.Common.{◌≡◌, ℕ, Bool, true, false, List, [], ◌∷◌, ◌++◌, Option, Some, None, refl, sym, subst, ◌∙◌, append_assoc, append-nil}
use Rattle.std.proofs.KnownBytes.{Appends-nil, Appends-trans, Appends-kept}
use Rattle.std.specs.Io.KnownBytes.{Appends, Keeps}
use Rattle.std.specs.Io.BufRead.{drop_through}
use Rattle.bac_text.specs.Lines.{LINE_END, line_in, lines_of}
use Rattle.bac_text.specs.NextLine.{IsNextLine}
use Rattle.bac_text.specs.Statuses.{IfEnded}
use Rattle.bac_text.specs.declared.status.Status.{Status}
use Rattle.bac_text.specs.declared.status.Status.TheVariants as status
use Rattle.bac_text.proofs.LineFronts.{first_line}
use Rattle.bac_json_report.specs.LineReports.{AreReported, AreSeen, AreVisited, Ending, IsEnded, IsOver, IsStep, IsTaken, IsVisited, Prints}

-- what holds in any case holds if the command ends with 0 or 1
pub if_ended : (s : Status) (Promise : Type 0) → Promise → IfEnded s Promise
if_ended status.Done Promise p = p
if_ended status.Faulty Promise p = p
if_ended status.CommandLine Promise p = tt
if_ended status.Output Promise p = tt
if_ended status.Memory Promise p = tt

module _ (S : Type 0) (Visits : Prints S) where
  -- a line was taken, and the report saw it
  pub line_seen : (input left a b : Option (List ℕ)) (line shown : List ℕ) (before now : S) (found : Bool) → found ≡ true → shown ≡ line
      → IsNextLine input left line found → IsVisited Visits shown a b before now → IsStep S Visits input left a b before now true
  line_seen None left a b line shown before now found is same next told = tt
  line_seen (Some xs) left a b line shown before now found is same next told =
      let taken = subst (λ (x : Bool). IsNextLine (Some xs) left line x) is next in
      record {
        line = line_in xs;
        rest = drop_through LINE_END xs;
        lines = first_line xs taken.0;
        is = taken.1.0;
        visited = subst (λ (l : List ℕ). IsVisited Visits l a b before now) (same ∙ taken.1.1) told;
      }

  -- there was none
  pub none_left : (input left a : Option (List ℕ)) (line : List ℕ) (before now : S) (found : Bool) → found ≡ false → now ≡ before → Keeps a a
      → IsNextLine input left line found → IsStep S Visits input left a a before now false
  none_left None left a line before now found is same keeps next = tt
  none_left (Some xs) left a line before now found is same keeps next =
      let over = subst (λ (x : Bool). IsNextLine (Some xs) left line x) is next in
      record { none = over.0; keeps = keeps; same = same }

  -- ---- all lines

  -- some lines were seen, and the others stand before the reader
  pub record IsFrontSeen (octets : List ℕ) (left old new : Option (List ℕ)) (before now : S) : Type 0 where
    pub text : List ℕ
    pub rest : List ℕ
    pub is : left ≡ Some rest
    pub printed : Appends old new text
    pub told : (back : List ℕ) (final : S) → AreSeen S Visits (lines_of rest) now back final → AreSeen S Visits (lines_of octets) before (text ++ back) final

  abbrev pub AreFrontSeen : (input left old new : Option (List ℕ)) → (before now : S) → Type 0
  AreFrontSeen None left old new before now = Unit {0}
  AreFrontSeen (Some octets) left old new before now = IsFrontSeen octets left old new before now

  pub none_seen : (input a : Option (List ℕ)) (state : S) → AreFrontSeen input input a a state state
  none_seen None a state = tt
  none_seen (Some xs) a state = record { text = []; rest = xs; is = refl; printed = Appends-nil a; told = λ back final seen. seen }

  step_at : (here : List ℕ) (left new a b : Option (List ℕ)) (before now : S) (found : Bool) → left ≡ Some here
      → IsStep S Visits left new a b before now found → IsStep S Visits (Some here) new a b before now found
  step_at here left new a b before now found is step = subst (λ (o : Option (List ℕ)). IsStep S Visits o new a b before now found) is step

  pub one_more : (input left new a b c : Option (List ℕ)) (first before now : S) (found : Bool) → AreFrontSeen input left a b first before
      → IsStep S Visits left new b c before now found → found ≡ true → AreFrontSeen input new a c first now
  one_more None left new a b c first before now found front step is = tt
  one_more (Some xs) left new a b c first before now found front step is =
      let taken : IsTaken S Visits front.rest new b c before now =
      subst (λ (x : Bool). IsStep S Visits (Some front.rest) new b c before now x) is (step_at front.rest left new b c before now found front.is step) in
      let line = taken.visited in
      record {
        text = front.text ++ line.text;
        rest = taken.rest;
        is = taken.is;
        printed = Appends-trans a b c _ _ front.printed line.printed;
        told = λ back final seen.
            let here : AreSeen S Visits (taken.line ∷ lines_of taken.rest) before (line.text ++ back) final = record {
              next = now;
              front = line.text;
              told = line.told;
              back = back;
              is = refl;
              then = seen;
            } in
            let all = front.told (line.text ++ back) final
            (subst (λ (ls : List (List ℕ)). AreSeen S Visits ls before (line.text ++ back) final) (sym taken.lines) here) in
            subst (λ (t : List ℕ). AreSeen S Visits (lines_of xs) first t final) (sym (append_assoc front.text line.text back)) all;
      }

  pub all_seen : (input left new a b c : Option (List ℕ)) (first before now : S) (found : Bool) → AreFrontSeen input left a b first before
      → IsStep S Visits left new b c before now found → found ≡ false → AreVisited S Visits input a c first now
  all_seen None left new a b c first before now found front step is = tt
  all_seen (Some xs) left new a b c first before now found front step is =
      let over : IsOver S front.rest b c before now =
      subst (λ (x : Bool). IsStep S Visits (Some front.rest) new b c before now x) is (step_at front.rest left new b c before now found front.is step) in
      let none : AreSeen S Visits (lines_of front.rest) before [] now =
      subst (λ (l : List ℕ). AreSeen S Visits (lines_of l) before [] now) (sym over.none) (refl, over.same) in
      record {
        text = front.text;
        seen = subst (λ (t : List ℕ). AreSeen S Visits (lines_of xs) first t now) (append-nil front.text) (front.told [] now none);
        printed = Appends-kept a b c _ front.printed over.keeps;
      }

  pub reported : (Ends : Ending S) (input a b c : Option (List ℕ)) (first final : S) (s : Status) → AreVisited S Visits input a b first final
      → IsEnded Ends final b c s → AreReported S Visits Ends first input a c s
  reported Ends None a b c first final s seen end = tt
  reported Ends (Some xs) a b c first final s seen end = record {
    text = seen.text;
    final = final;
    seen = seen.seen;
    end = end.text;
    ends = end.ends;
    printed = Appends-trans a b c _ _ seen.printed end.printed;
  }
