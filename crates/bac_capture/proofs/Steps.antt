-- Handling records and blocks, one after the other: the text for each precedes the text for the rest.
use Rattle.std.proofs.Common.{◌≡◌, ℕ, zero, suc, List, [], ◌++◌, Option, Some, None, Result, Ok, Err, refl, sym, subst, ◌∙◌, append_assoc, append-nil}
use Rattle.std.specs.Io.KnownBytes.{Appends, Keeps}
use Rattle.std.proofs.KnownBytes.{Appends-nil, Appends-trans, Appends-kept}
use Rattle.bac_capture.specs.declared.fault.FileFault.{FileFault}
use Rattle.bac_capture.specs.Blocks.{LayoutView, FrameView, BlockView, FrameBlock, SectionBlock, InterfaceBlock, OtherBlock, block_at, after}
use Rattle.bac_capture.specs.Files.{Record, Ended, Broken, Whole, record_at}
use Rattle.bac_capture.specs.declared.walk.Step.{Step}
use Rattle.bac_capture.specs.declared.walk.Step.TheVariants as step
use Rattle.bac_capture.specs.Walks.{Prints, Rest, IsBlock, IsWhole, IsNext, AreRead}
use Rattle.bac_capture.specs.Reports.{IsPassed, IsTaken, IsWholeTaken}
use Rattle.bac_capture.specs.Reports.{IsRecordTaken, IsStep, AreWalked}

kept_text : (old new : Option (List ℕ)) → Keeps old new → Appends old new []
kept_text None new k = tt
kept_text (Some xs) None k = absurd k
kept_text (Some xs) (Some ys) k = k ∙ sym (append-nil xs)

module _ (S : Type 0) (Visits : Prints FrameView S) (Breaks : Prints FileFault S) where
  -- the effect of a step after which reading continues: the text that it printed, and the result for the rest
  pub record GoesOn (layout next : LayoutView) (here : Record) (left old new : Option (List ℕ)) (before now : S) : Type 1 where
    pub rest : List ℕ
    pub is : left ≡ Some rest
    pub text : List ℕ
    pub printed : Appends old new text
    pub then : (Then : Rest S) (more : List ℕ) (final : S) → Then next now rest more final
        → IsNext S Visits Breaks layout before here (text ++ more) final Then

  -- the text for a block, and the result for the rest
  pub record BlockGoesOn (layout next : LayoutView) (block : BlockView) (old new : Option (List ℕ)) (before now : S) : Type 1 where
    pub text : List ℕ
    pub printed : Appends old new text
    pub then : (Then : LayoutView → S → List ℕ → Type 0) (more : List ℕ) → Then next now more
        → IsBlock S Visits block before (text ++ more) (Then (after layout block))

  passed : (layout next : LayoutView) (block : BlockView) (old new : Option (List ℕ)) (before now : S) → next ≡ after layout block
      → IsPassed S old new before now
      → ((Then : S → List ℕ → Type 0) (text : List ℕ) → Then before text → IsBlock S Visits block before text Then)
      → BlockGoesOn layout next block old new before now
  passed layout next block old new before now is p goes = record {
    text = [];
    printed = kept_text old new p.0;
    then = λ Then more t. goes (Then (after layout block)) more
        (subst (λ (l : LayoutView). Then l before more) is (subst (λ (s : S). Then next s more) p.1 t));
  }

  block_goes_on : (layout next : LayoutView) (block : BlockView) (old new : Option (List ℕ)) (before now : S)
      → IsTaken S Visits layout next block old new before now → BlockGoesOn layout next block old new before now
  block_goes_on layout next (FrameBlock frame) old new before now t = record {
    text = t.1.text;
    printed = t.1.printed;
    then = λ Then more rest. record {
      next = now;
      first = t.1.text;
      told = t.1.says;
      more = more;
      is = refl;
      then = subst (λ (l : LayoutView). Then l now more) t.0 rest;
    };
  }
  block_goes_on layout next (SectionBlock order) old new before now t =
      passed layout next (SectionBlock order) old new before now t.0 t.1 (λ Then text h. h)
  block_goes_on layout next (InterfaceBlock interface) old new before now t =
      passed layout next (InterfaceBlock interface) old new before now t.0 t.1 (λ Then text h. h)
  block_goes_on layout next OtherBlock old new before now t = passed layout next OtherBlock old new before now t.0 t.1 (λ Then text h. h)

  -- after a whole record with this block reading continues
  pub record WholeGoesOn (layout next : LayoutView) (block : Result BlockView FileFault) (rest : List ℕ) (old new : Option (List ℕ)) (before now : S) : Type 1 where
    pub text : List ℕ
    pub printed : Appends old new text
    pub then : (Then : Rest S) (more : List ℕ) (final : S) → Then next now rest more final
        → IsWhole S Visits Breaks layout before block rest (text ++ more) final Then

  whole_goes_on : (layout next : LayoutView) (block : Result BlockView FileFault) (rest : List ℕ) (old new : Option (List ℕ)) (before now : S)
      → IsWholeTaken S Visits Breaks layout next block old new before now step.Taken → WholeGoesOn layout next block rest old new before now
  whole_goes_on layout next (Err fault) rest old new before now t = absurd t
  whole_goes_on layout next (Ok block) rest old new before now t =
      let b = block_goes_on layout next block old new before now t in
      record {
        text = b.text;
        printed = b.printed;
        then = λ Then more final h. b.then (λ l s m. Then l s rest m final) more h;
      }

  goes_on : (layout next : LayoutView) (here : Record) (left old new : Option (List ℕ)) (before now : S)
      → IsRecordTaken S Visits Breaks layout next here left old new before now step.Taken → GoesOn layout next here left old new before now
  goes_on layout next Ended left old new before now t = absurd t
  goes_on layout next (Broken fault) left old new before now t = absurd t
  goes_on layout next (Whole head body rest) left old new before now t =
      let w = whole_goes_on layout next (block_at layout head body) rest old new before now t.1 in
      record { rest = rest; is = t.0; text = w.text; printed = w.printed; then = w.then }

  -- ---- the file cannot be read on

  -- the text that was printed last
  pub record IsOver (layout : LayoutView) (here : Record) (old new : Option (List ℕ)) (before now : S) : Type 1 where
    pub text : List ℕ
    pub printed : Appends old new text
    pub then : (Then : Rest S) → IsNext S Visits Breaks layout before here text now Then

  pub record IsWholeOver (layout : LayoutView) (block : Result BlockView FileFault) (rest : List ℕ) (old new : Option (List ℕ)) (before now : S) : Type 1 where
    pub text : List ℕ
    pub printed : Appends old new text
    pub then : (Then : Rest S) → IsWhole S Visits Breaks layout before block rest text now Then

  whole_over : (layout next : LayoutView) (block : Result BlockView FileFault) (rest : List ℕ) (old new : Option (List ℕ)) (before now : S)
      → IsWholeTaken S Visits Breaks layout next block old new before now step.Broken → IsWholeOver layout block rest old new before now
  whole_over layout next (Err fault) rest old new before now t = record {
    text = t.text;
    printed = t.printed;
    then = λ Then. t.says;
  }
  whole_over layout next (Ok block) rest old new before now t = absurd t

  over : (layout next : LayoutView) (here : Record) (left old new : Option (List ℕ)) (before now : S)
      → IsRecordTaken S Visits Breaks layout next here left old new before now step.Broken → IsOver layout here old new before now
  over layout next Ended left old new before now t = absurd t
  over layout next (Broken fault) left old new before now t = record {
    text = t.text;
    printed = t.printed;
    then = λ Then. t.says;
  }
  over layout next (Whole head body rest) left old new before now t =
      let w = whole_over layout next (block_at layout head body) rest old new before now t.1 in
      record { text = w.text; printed = w.printed; then = w.then }

  -- ---- one after the other

  -- some records and blocks were handled, and the others follow
  pub record IsSoFar (begun now : LayoutView) (octets : List ℕ) (left old new : Option (List ℕ)) (start state : S) : Type 0 where
    pub rest : List ℕ
    pub is : left ≡ Some rest
    pub text : List ℕ
    pub printed : Appends old new text
    pub then : (n : ℕ) (more : List ℕ) (final : S) → AreRead n S Visits Breaks now state rest more final
        → (m : ℕ) × AreRead m S Visits Breaks begun start octets (text ++ more) final

  abbrev pub AreSoFar : (begun now : LayoutView) → (input left old new : Option (List ℕ)) → (start state : S) → Type 0
  AreSoFar begun now None left old new start state = Unit {0}
  AreSoFar begun now (Some octets) left old new start state = IsSoFar begun now octets left old new start state

  pub none_so_far : (layout : LayoutView) (input out : Option (List ℕ)) (start : S) → AreSoFar layout layout input input out out start start
  none_so_far layout None out start = tt
  none_so_far layout (Some octets) out start = record {
    rest = octets;
    is = refl;
    text = [];
    printed = Appends-nil out;
    then = λ n more final r. (n, r);
  }

  here_of : (now next : LayoutView) (rest : List ℕ) (left left_new old new : Option (List ℕ)) (before after : S) (s : Step) → left ≡ Some rest
      → IsStep S Visits Breaks now next left left_new old new before after s
      → IsRecordTaken S Visits Breaks now next (record_at now.form now.order rest) left_new old new before after s
  here_of now next rest left left_new old new before after s e t =
      subst (λ (o : Option (List ℕ)). IsStep S Visits Breaks now next o left_new old new before after s) e t

  pub more_so_far : (begun now next : LayoutView) (input left left_new a b c : Option (List ℕ)) (start before after : S) (s : Step)
      → AreSoFar begun now input left a b start before → IsStep S Visits Breaks now next left left_new b c before after s → s ≡ step.Taken
      → AreSoFar begun next input left_new a c start after
  more_so_far begun now next None left left_new a b c start before after s sofar t e = tt
  more_so_far begun now next (Some octets) left left_new a b c start before after s sofar t e =
      let here = record_at now.form now.order sofar.rest in
      let taken = subst (λ (q : Step). IsRecordTaken S Visits Breaks now next here left_new b c before after q) e
      (here_of now next sofar.rest left left_new b c before after s sofar.is t) in
      let g = goes_on now next here left_new b c before after taken in
      record {
        rest = g.rest;
        is = g.is;
        text = sofar.text ++ g.text;
        printed = Appends-trans a b c _ _ sofar.printed g.printed;
        then = λ n more final r.
            let whole = sofar.then (suc n) (g.text ++ more) final (g.then (AreRead n S Visits Breaks) more final r) in
            (whole.0, subst (λ (l : List ℕ). AreRead whole.0 S Visits Breaks begun start octets l final) (sym (append_assoc sofar.text g.text more)) whole.1);
      }

  pub all_ended : (begun now next : LayoutView) (input left left_new a b c : Option (List ℕ)) (start before after : S) (s : Step)
      → AreSoFar begun now input left a b start before → IsStep S Visits Breaks now next left left_new b c before after s → s ≡ step.Ended
      → AreWalked S Visits Breaks begun input a c start after
  all_ended begun now next None left left_new a b c start before after s sofar t e = tt
  all_ended begun now next (Some octets) left left_new a b c start before after s sofar t e =
      let end = ended (record_at now.form now.order sofar.rest)
      (subst (λ (q : Step). IsRecordTaken S Visits Breaks now next (record_at now.form now.order sofar.rest) left_new b c before after q) e
      (here_of now next sofar.rest left left_new b c before after s sofar.is t)) in
      let whole = sofar.then zero [] after (end.0, refl, end.1.1) in
      record {
        records = whole.0;
        text = sofar.text;
        read = subst (λ (l : List ℕ). AreRead whole.0 S Visits Breaks begun start octets l after) (append-nil sofar.text) whole.1;
        printed = Appends-kept a b c _ sofar.printed end.1.0;
      } where
        ended : (here : Record) → IsRecordTaken S Visits Breaks now next here left_new b c before after step.Ended → (here ≡ Ended) × IsPassed S b c before after
        ended Ended u = (refl, u)
        ended (Broken fault) u = absurd u
        ended (Whole head body rest) u = absurd (no_end (block_at now head body) u.1) where
          no_end : (block : Result BlockView FileFault) → IsWholeTaken S Visits Breaks now next block b c before after step.Ended → ⊥
          no_end (Err fault) v = v
          no_end (Ok block) v = v

  pub all_broken : (begun now next : LayoutView) (input left left_new a b c : Option (List ℕ)) (start before after : S) (s : Step)
      → AreSoFar begun now input left a b start before → IsStep S Visits Breaks now next left left_new b c before after s → s ≡ step.Broken
      → AreWalked S Visits Breaks begun input a c start after
  all_broken begun now next None left left_new a b c start before after s sofar t e = tt
  all_broken begun now next (Some octets) left left_new a b c start before after s sofar t e =
      let here = record_at now.form now.order sofar.rest in
      let taken = subst (λ (q : Step). IsRecordTaken S Visits Breaks now next here left_new b c before after q) e
      (here_of now next sofar.rest left left_new b c before after s sofar.is t) in
      let o = over now next here left_new b c before after taken in
      let whole = sofar.then (suc zero) o.text after (o.then (AreRead zero S Visits Breaks)) in
      record {
        records = whole.0;
        text = sofar.text ++ o.text;
        read = whole.1;
        printed = Appends-trans a b c _ _ sofar.printed o.printed;
      }
