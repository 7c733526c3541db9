use Rattle.std.proofs.Common.{arith, ◌∙◌}
use Rattle.nt_cpu.proofs.Served.{serves_far, set_value}
use Rattle.nt_cpu.proofs.keeping.serve.Goals as goal

pub returns-then-class-lt16 : goal.returns-then-class-lt16
returns-then-class-lt16 c =
    c.serve.ensures ∙ set_value c.args.served.now c.args.seen.now c.args.class c.requires (omega arith)

pub returns-else-class-lt16 : goal.returns-else-class-lt16
returns-else-class-lt16 c =
    serves_far c.args.served.now c.args.seen.now c.args.class c.requires (omega arith)
