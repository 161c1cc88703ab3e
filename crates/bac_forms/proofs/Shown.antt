-- Datagrams that were printed, one after the other.
use Rattle.std.proofs.Common.{◌≡◌, ◌+◌, ℕ, length, Bool, true, false, ◌&&◌, List, [], ◌∷◌, ◌++◌, Option, Result, Ok, Err, IfOk, refl, sym, subst, arith}
use Rattle.std.proofs.Common.{append_assoc, append-nil}
use Rattle.std.specs.Global.{Vec}
use Rattle.std.specs.Io.KnownBytes.{Appends, Keeps}
use Rattle.std.proofs.KnownBytes.{Appends-nil, Appends-trans, Appends-kept}
use Rattle.bac_service_text.proofs.Appending.{both, line_is}
use Rattle.bac_text.specs.DecodedLines.{IsDatagramText}
use Rattle.bac_text.specs.Outcome.{IsPrinted, shown_status}
use Rattle.bac_text.specs.Texts.{AppendsText, Is}
use Rattle.bac_forms.specs.Decoded.{AreAllShown, AreDatagramTexts, IsNumberedText, number_line}
use Rattle.bac_forms.specs.Framed.{IsItemText}
use Rattle.bac_forms.specs.Reading.{octets_of}
use Rattle.bac_forms.specs.declared.decode.Printing.{Printing}

and_assoc : (a b c : Bool) → (a && b) && c ≡ a && (b && c)
and_assoc true b c = refl
and_assoc false b c = refl

and_true : (a : Bool) → a && true ≡ a
and_true true = refl
and_true false = refl

-- what was printed of a datagram
datagram_text : (in_words fine : Bool) (datagram : List ℕ) (a b : Option (List ℕ)) → IsPrinted in_words fine datagram a b
    → AppendsText a b (IsDatagramText in_words fine datagram)
datagram_text in_words true datagram a b told = (told.1.0, ((told.0, told.1.1.0), told.1.1.1))
datagram_text in_words false datagram a b told = (told.printed.0, ((told.fault, (told.at_fault, told.printed.1.0)), told.printed.1.1))

-- the same as what the call returned says it
pub datagram_told : {E : Type 0} (in_words : Bool) (datagram : List ℕ) (r : Result Bool E) (a b : Option (List ℕ))
    → IfOk r (λ fine. IsPrinted in_words fine datagram a b) → IfOk r (λ fine. AppendsText a b (IsDatagramText in_words fine datagram))
datagram_told in_words datagram (Ok fine) a b told = datagram_text in_words fine datagram a b told
datagram_told in_words datagram (Err error) a b told = told

-- the same behind its number
pub numbered_text : (p : Printing) (number : ℕ) (fine : Bool) (datagram : List ℕ) (a b c : Option (List ℕ)) → Appends a b (number_line p.numbered number)
    → AppendsText b c (IsItemText p.frames p.in_words datagram fine) → AppendsText a c (IsNumberedText p number datagram fine)
numbered_text p number fine datagram a b c line told =
    both a b c (Is (number_line p.numbered number)) (IsItemText p.frames p.in_words datagram fine) (line_is a b (number_line p.numbered number) line) told

-- the same as what the call returned says it
pub numbered_at : {E : Type 0} (p : Printing) (number : ℕ) (datagram : List ℕ) (r : Result Bool E) (a b c : Option (List ℕ))
    → Appends a b (number_line p.numbered number) → IfOk r (λ fine. AppendsText b c (IsItemText p.frames p.in_words datagram fine))
    → IfOk r (λ fine. AppendsText a c (IsNumberedText p number datagram fine))
numbered_at p number datagram (Ok fine) a b c line told = numbered_text p number fine datagram a b c line told
numbered_at p number datagram (Err error) a b c line told = told

-- some were printed, and the others stand before
pub record IsFrontShown (p : Printing) (all rest : List (List ℕ)) (number : ℕ) (fine : Bool) (old new : Option (List ℕ)) : Type 0 where
  pub text : List ℕ
  pub printed : Appends old new text
  pub told : (there : Bool) (back : List ℕ) → AreDatagramTexts p number rest there back → AreDatagramTexts p 1 all (fine && there) (text ++ back)

pub none_shown : (p : Printing) (all : List (List ℕ)) (a : Option (List ℕ)) → IsFrontShown p all all 1 true a a
none_shown p all a = record { text = []; printed = Appends-nil a; told = λ there back texts. texts }

pub one_more : (p : Printing) (all : List (List ℕ)) (datagram : List ℕ) (rest : List (List ℕ)) (number : ℕ) (fine here : Bool) (a b c : Option (List ℕ))
    → IsFrontShown p all (datagram ∷ rest) number fine a b → AppendsText b c (IsNumberedText p number datagram here)
    → IsFrontShown p all rest (number + 1) (fine && here) a c
one_more p all datagram rest number fine here a b c front line = record {
  text = front.text ++ line.0;
  printed = Appends-trans a b c _ _ front.printed line.1.1;
  told = λ there back texts.
      let whole = front.told (here && there) (line.0 ++ back) (record {
        here = here;
        there = there;
        front = line.0;
        back = back;
        first = line.1.0;
        others = texts;
        all = refl;
        is = refl;
      }) in
      subst (λ (t : List ℕ). AreDatagramTexts p 1 all ((fine && here) && there) t) (sym (append_assoc front.text line.0 back))
      (subst (λ (f : Bool). AreDatagramTexts p 1 all f (front.text ++ (line.0 ++ back))) (sym (and_assoc fine here there)) whole);
}

pub all_shown : (p : Printing) (all : List (List ℕ)) (number : ℕ) (fine : Bool) (a b : Option (List ℕ)) → IsFrontShown p all [] number fine a b
    → AppendsText a b (AreDatagramTexts p 1 all fine)
all_shown p all number fine a b front =
    let texts : AreDatagramTexts p 1 all fine front.text =
    subst (λ (t : List ℕ). AreDatagramTexts p 1 all fine t) (append-nil front.text)
    (subst (λ (f : Bool). AreDatagramTexts p 1 all f (front.text ++ [])) (and_true fine) (front.told true [] (refl, refl))) in
    (front.text, (texts, front.printed))

-- ---- the same of the octets of vectors

pub vectors_step : (p : Printing) (datagrams rest : List (Vec ℕ)) (datagram : Vec ℕ) (others : List (Vec ℕ)) (octets : List ℕ) (number : ℕ)
    (fine here both_fine : Bool) (a b c : Option (List ℕ)) → IsFrontShown p (octets_of datagrams) (octets_of rest) number fine a b
    → rest ≡ datagram ∷ others → octets ≡ datagram.items → AppendsText b c (IsNumberedText p number octets here) → both_fine ≡ fine && here
    → IsFrontShown p (octets_of datagrams) (octets_of others) (number + 1) both_fine a c
vectors_step p datagrams rest datagram others octets number fine here both_fine a b c front is octets_are line all =
    let started = subst (λ (l : List (Vec ℕ)). IsFrontShown p (octets_of datagrams) (octets_of l) number fine a b) is front in
    let shown = subst (λ (o : List ℕ). AppendsText b c (IsNumberedText p number o here)) octets_are line in
    subst (λ (f : Bool). IsFrontShown p (octets_of datagrams) (octets_of others) (number + 1) f a c) (sym all)
    (one_more p (octets_of datagrams) datagram.items (octets_of others) number fine here a b c started shown)

pub vectors_shown : (p : Printing) (datagrams rest : List (Vec ℕ)) (number : ℕ) (fine : Bool) (a b : Option (List ℕ))
    → IsFrontShown p (octets_of datagrams) (octets_of rest) number fine a b → length rest ≡ 0
    → AppendsText a b (AreDatagramTexts p 1 (octets_of datagrams) fine)
vectors_shown p datagrams [] number fine a b front none = all_shown p (octets_of datagrams) number fine a b front
vectors_shown p datagrams (datagram ∷ rest) number fine a b front none = search (arith, none)

-- and then flushed
pub flushed : (p : Printing) (datagrams : List (List ℕ)) (fine : Bool) (a b c : Option (List ℕ)) → AppendsText a b (AreDatagramTexts p 1 datagrams fine)
    → Keeps b c → AreAllShown p datagrams a c (shown_status fine)
flushed p datagrams true a b c told keeps = (told.0, (told.1.0, Appends-kept a b c told.0 told.1.1 keeps))
flushed p datagrams false a b c told keeps = (told.0, (told.1.0, Appends-kept a b c told.0 told.1.1 keeps))
