use Rattle.std.proofs.Common.{subst}
use Rattle.nt_script.specs.Gives.{GivesRead}
use Rattle.std.specs.Prelude.{Err, Result}
use Rattle.nt_script.specs.declared.reading.ScriptRefusal.{ScriptRefusal}
use Rattle.nt_top.specs.declared.task.Task.{Task}
use Rattle.nt_top.specs.Answer.{text_of}
use Rattle.nt_top.specs.Tasks.{task_of}
use Rattle.nt_top.proofs.Found.{bad_refused, refused_in}
use Rattle.nt_top.proofs.answer.ask_in.Goals as goal

abbrev failed : ScriptRefusal → Result Task ScriptRefusal
failed r = Err r

pub returns-in-Err-Bad-clause-asks : goal.returns-in-Err-Bad-clause-asks
returns-in-Err-Bad-clause-asks c =
    refused_in c.args.form c.args.bytes.now c.in-Err-Bad.line c.in-Err-Bad.kind c.refused.result.status (text_of c.refused.result.text)
    (bad_refused c.args.form c.args.bytes.now c.in-Err-Bad.line c.in-Err-Bad.kind
    (subst (λ (r : ScriptRefusal). GivesRead (failed r) (task_of c.args.form c.args.bytes.now)) c.in-Err-Bad.field-0-is c.in-Err-Bad.ensures.read))
    c.refused.ensures
