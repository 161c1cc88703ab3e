-- What holds of every world in code, by the run that led to it.
use Rattle.std.proofs.Common.{ℕ}
use Rattle.bac_network.specs.Histories.{HasNoReuse, HasRun, HasRunSo, IsOnceNow, IsOnceSoNow, WorldView}
use Rattle.bac_network.specs.Laws.{HasRightLog, IsStrict}
use Rattle.bac_network.proofs.Histories.{among_now, apart_now, asks_now, ended_now, once_now, once_so_now, performed_now, permitted_now, replayed_now}
use Rattle.bac_network.proofs.Histories.{requests_now}
use Rattle.bac_network.proofs.OfNone.{strangers_now}
use Rattle.bac_network.proofs.Strictly.{history_strictly}

pub right_log : (W : ℕ) (w : WorldView) → HasRunSo W w → HasRightLog w
right_log W w h =
    let once : IsOnceSoNow w = once_so_now W w h in
    record { once = once; ended = ended_now w once; permitted = permitted_now w once; stores = replayed_now w once; strangers = strangers_now W w h }

-- where no node lets invoke IDs be used again
pub strict : (W : ℕ) (w : WorldView) → HasNoReuse w → HasRunSo W w → IsStrict w
strict W w none h =
    let run : HasRun W w = history_strictly W w none h in
    let right : IsOnceNow w = once_now W w run in
    record {
      history = (W, run);
      log = record { once = right; performed = performed_now w right };
      requests_alone = requests_now w right;
      among_nodes = among_now w right;
      asks_alone = asks_now w right;
      apart = apart_now W w run;
    }
