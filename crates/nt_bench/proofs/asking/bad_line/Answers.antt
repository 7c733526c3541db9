use Rattle.std.proofs.Common.{subst}
use Rattle.nt_friendly.specs.Text.{strict_text}
use Rattle.nt_ask.specs.declared.reading.AskRefusal.{AskRefusal}
use Rattle.nt_people.specs.declared.fault.Fault.TheVariants as fault
use Rattle.nt_bench.specs.Asking.{IsRefusedBy}
use Rattle.nt_bench.proofs.Answered.{bad_line_in}
use Rattle.nt_bench.proofs.asking.bad_line.Goals as goal

pub returns-in-Script : goal.returns-in-Script
returns-in-Script c = λ form.
    let cause = subst (λ (r : AskRefusal). IsRefusedBy (strict_text c.args.friendly.now.bytes.now) r) c.in-Script.is c.requires.cause in
    bad_line_in form c.args.friendly.now c.in-Script.line (fault.Script c.in-Script.kind) _ _ cause c.refused.ensures

pub returns-in-Expect : goal.returns-in-Expect
returns-in-Expect c = λ form.
    let cause = subst (λ (r : AskRefusal). IsRefusedBy (strict_text c.args.friendly.now.bytes.now) r) c.in-Expect.is c.requires.cause in
    bad_line_in form c.args.friendly.now c.in-Expect.line (fault.Expect c.in-Expect.kind) _ _ cause c.refused-in-Expect.ensures
