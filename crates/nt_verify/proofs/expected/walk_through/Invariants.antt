use Rattle.std.proofs.Common.{◌≡◌, take}
use Rattle.nt_verify.specs.Sites.{first_frame}
use Rattle.nt_verify.specs.Walks.{walked}
use Rattle.nt_verify.proofs.expected.walk_through.Given as goal

abbrev pub invariant-loop-command : goal.invariant-loop-command
invariant-loop-command l = l.walk ≡ walked (first_frame l.script l.site) (take l.command-index l.commands)
