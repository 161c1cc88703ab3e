use Rattle.bac_simulate.proofs.ToldTexts.{news_told}
use Rattle.bac_simulate.proofs.told.news_text.Goals as goal

pub returns : goal.returns
returns c =
    news_told c.args.style c.args.world.now c.args.before.facts c.args.before.copies c.ms_now.result c.asks.result.now c.log.result.now c.copies.result.now _ _ _
    c.new-text.ensures.items c.ms_now.ensures c.asks.ensures c.log.ensures c.copies.ensures c.in_ok-add_facts.ensures c.in_ok-add_copies.ensures
