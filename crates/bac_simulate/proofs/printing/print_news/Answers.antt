use Rattle.bac_simulate.proofs.News.{news_told}
use Rattle.bac_simulate.proofs.printing.print_news.Goals as goal

pub returns : goal.returns
returns g c =
    news_told _ c.args.world.now c.asks.result.now c.log.result.now c.copies.result.now c.args.before.facts c.args.before.copies _ _ _
    c.asks.ensures c.log.ensures c.copies.ensures c.in_ok-print_facts.ensures c.print_copies.ensures
