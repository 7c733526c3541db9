use Rattle.std.proofs.Common.{arith}
use Rattle.std.proofs.lemmas.Grind.{common_steps}
use Rattle.nt_lane_record.proofs.LaneNumbers.{number_within}
use Rattle.nt_lane_record.proofs.numbers.lane_number.Goals as goal

pub number-requires : goal.number-requires
number-requires c =
    let below = number_within c.args.script.now c.args.lane c.requires.lane in
    grind (arith, common_steps)
