use Rattle.std.proofs.Common.{rules}
use Rattle.bac_files.proofs.Joined.{taken_into}
use Rattle.bac_files.specs.Parts.{part_view}
use Rattle.bac_files.proofs.gathering.Gathering.append.Goals as goal

-- src/gathering.rt
pub returns-clause-joined : goal.returns-clause-joined
returns-clause-joined c = taken_into c.args.self.now _ (part_view c.args.part) (search rules) (search rules)
