use Rattle.std.proofs.Common.{◌≡◌, List, Some, ap, arith, length, slice_get, sym}
use Rattle.std.proofs.lemmas.List.{length-take-le}
use Rattle.std.proofs.lemmas.Option.{slice_get_within}
use Rattle.nt_event.specs.declared.commands.Command.{Command}
use Rattle.nt_verify.proofs.Declared.{commands_few, low_prefix}
use Rattle.nt_verify.specs.Sites.{routine_at}
use Rattle.nt_verify.proofs.expected.expect.Goals as goal

pub slice_bounds-walk_through-end : goal.slice_bounds-walk_through-end
slice_bounds-walk_through-end c =
    let same = c.commands-commands.ensures in
    let there : slice_get c.commands-commands.result.now c.args.place ≡ Some c.in-Some.command = rw same (sym c.in-Some.ensures) in
    let l = slice_get_within c.commands-commands.result.now c.args.place c.in-Some.command there in
    sym (length-take-le c.args.place c.commands-commands.result.now (omega (arith, l)))

pub walk_through-walk-requires-clause-few : goal.walk_through-walk-requires-clause-few
walk_through-walk-requires-clause-few c =
    let same = c.commands-commands.ensures in
    let there : slice_get c.commands-commands.result.now c.args.place ≡ Some c.in-Some.command = rw same (sym c.in-Some.ensures) in
    let l = slice_get_within c.commands-commands.result.now c.args.place c.in-Some.command there in
    let n = length-take-le c.args.place c.commands-commands.result.now (omega (arith, l)) in
    let few = commands_few c.args.script.now (routine_at c.args.script.now c.args.site) c.requires in
    let e = ap (λ (cs : List Command). length cs) same in
    omega (arith, l, n, few, e)

pub walk_through-walk-requires-clause-locks : goal.walk_through-walk-requires-clause-locks
walk_through-walk-requires-clause-locks c =
    low_prefix c.args.script.now (routine_at c.args.script.now c.args.site) c.commands-commands.result.now c.args.place c.requires c.commands-commands.ensures
