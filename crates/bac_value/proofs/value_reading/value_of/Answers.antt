use Rattle.std.proofs.Common.{arith, ap, sym, refl, ◌∙◌, ◌≡◌, length, None, IsTrue}
use Rattle.bac_value.specs.Reading.{length_in, flaw}
use Rattle.bac_value.specs.Meaning.{datum_in}
use Rattle.bac_value.proofs.Meanings.{meant_is, is_none, on_err}
use Rattle.bac_value.proofs.value_reading.value_of.Goals as goal

pub returns-in_ok-value_of_kind-in-Application-Length-clause-value : goal.returns-in_ok-value_of_kind-in-Application-Length-clause-value
returns-in_ok-value_of_kind-in-Application-Length-clause-value g c =
    let e = c.args.element in
    let xs = g.O.Octets.octets e.contents in
    let sized : IsTrue (length_in e.tag.number (length xs)) = ap (length_in e.tag.number) (sym c.len-len.ensures.count) ∙ sym c.is_length_in.ensures
    ∙ c.if-not-is_length_in.false in
    let right : flaw e.tag.number xs ≡ None = sym c.flaw_in.ensures ∙ is_none _ (sym c.is_some.ensures ∙ c.if-is_some.false) in
    meant_is e.tag.number e.tag.class e.tag.form xs _ c.in-Application-Length.length e.tag.fits c.in-Application-Length.is-0 c.in-Application-Length.is-1
    (omega (arith, c.if-len-length.true, c.len-len.ensures.count)) c.len-len.ensures.each sized right
    c.in_ok-value_of_kind-in-Application-Length.ensures.value

pub returns-in_err-value_of_kind-in-Application-Length-clause-full : goal.returns-in_err-value_of_kind-in-Application-Length-clause-full
returns-in_err-value_of_kind-in-Application-Length-clause-full g c =
    let e = c.args.element in
    let xs = g.O.Octets.octets e.contents in
    let sized : IsTrue (length_in e.tag.number (length xs)) = ap (length_in e.tag.number) (sym c.len-len.ensures.count) ∙ sym c.is_length_in.ensures
    ∙ c.if-not-is_length_in.false in
    let right : flaw e.tag.number xs ≡ None = sym c.flaw_in.ensures ∙ is_none _ (sym c.is_some.ensures ∙ c.if-is_some.false) in
    let is = meant_is e.tag.number e.tag.class e.tag.form xs (datum_in e.tag.number xs) c.in-Application-Length.length e.tag.fits
    c.in-Application-Length.is-0 c.in-Application-Length.is-1 (omega (arith, c.if-len-length.true, c.len-len.ensures.count)) c.len-len.ensures.each
    sized right refl in
    on_err c.from_residual.result (datum_in e.tag.number xs, is, c.in_err-value_of_kind-in-Application-Length.ensures.full)
