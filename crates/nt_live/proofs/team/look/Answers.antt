use Rattle.nt_mark.specs.Names.{pass_view}
use Rattle.nt_live.proofs.Looks.{one_look}
use Rattle.nt_live.proofs.team.look.Goals as goal

pub returns-then-is_used-clause-looked : goal.returns-then-is_used-clause-looked
returns-then-is_used-clause-looked c =
    one_look (pass_view c.args.pass.now) (pass_view c.look.new.pass) c.args.cpu c.args.class c.look.result c.look.ensures.looked
