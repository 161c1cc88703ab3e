-- A moment as JSON.
use Rattle.std.proofs.Common.{◌≡◌, ℕ, List, Option}
use Rattle.bac_json.specs.Forms.{string_or_null}
use Rattle.bac_json_report.specs.TimeForms.{IsTimeForm}
use Rattle.bac_moment.specs.Times.{IsTextOf}
use Rattle.serde_json.specs.Data.{Data}

pub time_formed : (time : Option ℕ) (text : Option (List ℕ)) (d : Data) → IsTextOf time text → d ≡ string_or_null text → IsTimeForm time d
time_formed time text d of is = record { text = text; text_of = of; is = is }
