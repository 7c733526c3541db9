use Rattle.std.proofs.Common.{arith, refl}
use Rattle.nt_friendly.specs.Fields.{content, uncommented}
use Rattle.nt_friendly.proofs.Cuts.{begun_short, bytes_total, uncommented_short}
use Rattle.nt_friendly.proofs.fields.field_place.Goals as goal

pub overflow_sub-column : goal.overflow_sub-column
overflow_sub-column c = rw c.begun-begun.ensures (begun_short 0 c.uncommented-read.result.now)

pub loop-rest-init : goal.loop-rest-init
loop-rest-init c =
    let short = uncommented_short c.args.line.now in
    let less = begun_short 0 (uncommented c.args.line.now) in
    let total = bytes_total (content c.args.line.now) in
    rw (c.begun-begun.ensures, c.uncommented-read.ensures) (record { place = refl; within = omega (arith, short, less, total) })
