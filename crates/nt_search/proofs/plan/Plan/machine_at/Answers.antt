use Rattle.std.proofs.Common.{[], List, arith, get_or, subst, sym}
use Rattle.std.proofs.lemmas.Result.{IfErr-weaker, IfOk-weaker, err_from_is_err_and}
use Rattle.nt_event.specs.declared.events.Turn.{Turn}
use Rattle.nt_search.specs.Searches.{IsWayStop}
use Rattle.nt_search.specs.Ways.{Lead}
use Rattle.nt_search.proofs.Listing.{if_err}
use Rattle.nt_search.proofs.Beginning.{path_stopped}
use Rattle.nt_search.proofs.plan.Plan.machine_at.Goals as goal

pub returns-in_err-path-clause-cause : goal.returns-in_err-path-clause-cause
returns-in_err-path-clause-cause c =
    let e = err_from_is_err_and c.from_residual.result c.from_residual.ensures.1 in
    if_err _ c.from_residual.result e.0 e.1 (λ all are kept. subst (IsWayStop c.args.self.now all) (sym e.2) tt)

pub machine_from-requires-clause-begins : goal.machine_from-requires-clause-begins
machine_from-requires-clause-begins c =
    let path = c.in_ok-path.ensures c.args.self.now.script.now c.requires.ways.0 c.requires.ways.1 in
    (path.from, path.begins)

pub returns-in_err-machine-clause-cause : goal.returns-in_err-machine-clause-cause
returns-in_err-machine-clause-cause c =
    let e = err_from_is_err_and c.from_residual-in_err-machine.result c.from_residual-in_err-machine.ensures.1 in
    if_err _ c.from_residual-in_err-machine.result e.0 e.1 (λ all are kept. subst (IsWayStop c.args.self.now all) (sym e.2) tt)

pub gone_on-requires-clause-at : goal.gone_on-requires-clause-at
gone_on-requires-clause-at c =
    let x = c.args.self.now in
    let s = x.script.now in
    let all = c.requires.ways.0 in
    let are = c.requires.ways.1 in
    let path = c.in_ok-path.ensures s all are in
    let from = get_or all path.from [] in
    let h = get_or all c.args.number [] in (
      from,
      h,
      subst (λ (ts : List Turn). Lead s ts from h) (sym c.as_slice.ensures.value) path.lead,
      c.in_ok-machine.ensures all path.from are.first c.requires.ways.2 path.begins,
    )

pub returns-clause-at : goal.returns-clause-at
returns-clause-at c =
    let x = c.args.self.now in
    let s = x.script.now in
    IfOk-weaker c.gone_on.result _ _
    (λ m at all are kept.
    let path = c.in_ok-path.ensures s all are in
    let from = get_or all path.from [] in
    let h = get_or all c.args.number [] in
    let lead = subst (λ (ts : List Turn). Lead s ts from h) (sym c.as_slice.ensures.value) path.lead in
    let to = at from h lead (c.in_ok-machine.ensures all path.from are.first kept path.begins) in
    let count = are.count in
    let number = c.requires.number in
    record { state = omega (arith, count, number); stands = to.0; short = to.1 })
    c.gone_on.ensures.at

pub returns-clause-cause : goal.returns-clause-cause
returns-clause-cause c =
    let x = c.args.self.now in
    let s = x.script.now in
    IfErr-weaker c.gone_on.result _ _
    (λ stop why all are kept.
    let path = c.in_ok-path.ensures s all are in
    let from = get_or all path.from [] in
    let h = get_or all c.args.number [] in
    let lead = subst (λ (ts : List Turn). Lead s ts from h) (sym c.as_slice.ensures.value) path.lead in
    let count = are.count in
    let number = c.requires.number in
    path_stopped x all c.args.number stop (omega (arith, count, number))
    (why from h lead (c.in_ok-machine.ensures all path.from are.first kept path.begins)))
    c.gone_on.ensures.cause
