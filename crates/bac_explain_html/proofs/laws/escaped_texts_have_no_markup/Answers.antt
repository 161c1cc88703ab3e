use Rattle.bac_explain_html.proofs.Escaping.{no_markup}
use Rattle.bac_explain_html.proofs.laws.escaped_texts_have_no_markup.Goals as goal

pub returns : goal.returns
returns c = no_markup
