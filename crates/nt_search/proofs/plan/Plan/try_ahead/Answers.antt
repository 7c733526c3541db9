use Rattle.std.proofs.Common.{[], List, get_or, subst, sym}
use Rattle.std.proofs.lemmas.Result.{IfErr-weaker, err_from_is_err_and, on_ok_weaker}
use Rattle.nt_event.specs.declared.events.Turn.{Turn}
use Rattle.nt_search.specs.declared.stop.Stop.{Stop}
use Rattle.nt_search.specs.Searches.{AreTried, IsStopped}
use Rattle.nt_search.proofs.Listing.{if_err}
use Rattle.nt_search.proofs.TryingMore.{starved}
use Rattle.nt_search.proofs.plan.Plan.try_ahead.Goals as goal

pub returns-in_err-unnoticed-clause-stopped : goal.returns-in_err-unnoticed-clause-stopped
returns-in_err-unnoticed-clause-stopped c =
    let e = err_from_is_err_and c.from_residual.result c.from_residual.ensures.1 in
    if_err _ c.from_residual.result e.0 e.1
    (λ all h at. subst (λ (stop : Stop). IsStopped c.args.self.now all stop c.args.found.now) (sym e.2) (starved c.args.self.now all c.args.found.now h))

pub returns-in_err-turns-clause-stopped : goal.returns-in_err-turns-clause-stopped
returns-in_err-turns-clause-stopped c =
    let e = err_from_is_err_and c.from_residual-in_err-turns.result c.from_residual-in_err-turns.ensures.1 in
    if_err _ c.from_residual-in_err-turns.result e.0 e.1
    (λ all h at. subst (λ (stop : Stop). IsStopped c.args.self.now all stop c.args.found.now) (sym e.2) (starved c.args.self.now all c.args.found.now h))

pub returns-in_err-next-clause-stopped : goal.returns-in_err-next-clause-stopped
returns-in_err-next-clause-stopped c =
    let e = err_from_is_err_and c.from_residual-in_err-next.result c.from_residual-in_err-next.ensures.1 in
    if_err _ c.from_residual-in_err-next.result e.0 e.1
    (λ all h at. subst (λ (stop : Stop). IsStopped c.args.self.now all stop c.args.found.now) (sym e.2) (starved c.args.self.now all c.args.found.now h))

pub try_all-tried-requires-clause-at : goal.try_all-tried-requires-clause-at
try_all-tried-requires-clause-at c =
    let at = c.requires.at.2 in
    let x = c.args.self.now in (
      c.requires.at.0,
      c.requires.at.1,
      at,
      c.in_ok-next.ensures x c.requires.at.0 c.args.from at,
    )

pub returns-clause-stopped : goal.returns-clause-stopped
returns-clause-stopped c =
    let x = c.args.self.now in
    IfErr-weaker c.try_all-tried.result _ _
    (λ stop h all are at.
    h all are at (c.in_ok-next.ensures x all c.args.from at))
    c.try_all-tried.ensures.stopped

pub returns-clause-tried : goal.returns-clause-tried
returns-clause-tried c =
    let x = c.args.self.now in
    let s = x.script.now in
    on_ok_weaker c.try_all-tried.result
    (λ h all are at.
    let past = get_or all c.args.from [] in
    let whole = c.in_ok-turns.ensures past (c.in_ok-unnoticed.ensures.asked s x.limit x.watched.items past at.stands) in
    let tried = subst (λ (ts : List Turn). AreTried x all past ts c.args.found.now c.try_all-tried.new.found) c.as_slice.ensures.value
    (h all are at (c.in_ok-next.ensures x all c.args.from at)) in
    (c.in_ok-turns.turns.items, whole, tried))
    c.try_all-tried.ensures.tried
