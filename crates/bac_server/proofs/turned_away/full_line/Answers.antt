-- How many, and when a slot gets free.
use Rattle.std.proofs.Common.{ℕ, subst}
use Rattle.bac_log_json.specs.Logs.{TableFull}
use Rattle.bac_server.specs.EventTexts.{IsEventText}
use Rattle.bac_server.proofs.EventLines.{if_ok}
use Rattle.bac_server.proofs.turned_away.full_line.Goals as goal

pub returns : goal.returns
returns c = if_ok c.event_text.result _ _ (λ t is. record {
  next = c.next_free.result;
  is_next = record { from = c.next_free.ensures.from; full = c.next_free.ensures.full; free = c.next_free.ensures.free };
  is = subst (λ (wait : ℕ). IsEventText c.args.format c.args.at (TableFull c.args.away wait) t.items) c.saturating_sub-wait.ensures is;
}) c.event_text.ensures
