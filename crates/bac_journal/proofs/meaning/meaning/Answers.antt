-- Octets that can't be read mean nothing.
use Rattle.std.proofs.Common.{subst}
use Rattle.bac_apdu.specs.Spelling.{SpellsApdu}
use Rattle.bac_npdu.specs.Views.{peer_view}
use Rattle.bac_npdu.proofs.Datagrams.{carries_one}
use Rattle.bac_journal.proofs.meaning.meaning.Goals as goal

pub returns-in_default-clause-none : goal.returns-in_default-clause-none
returns-in_default-clause-none c = λ none peer a m. c.in_default.ensures.none peer m.apdu_octets m.carries

pub returns-in_default-read-clause-none : goal.returns-in_default-read-clause-none
returns-in_default-read-clause-none c = λ none peer a m.
    let same = carries_one c.args.from c.args.octets.now peer (peer_view c.in-Ok._peer) m.apdu_octets c.in-Ok.octets.now m.carries c.in-Ok.ensures.carried in
    c.in_default-read.ensures.refused a (subst (SpellsApdu a) same.1 m.spelled)
