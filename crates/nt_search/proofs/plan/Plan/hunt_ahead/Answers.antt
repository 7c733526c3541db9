use Rattle.std.proofs.Common.{subst, sym}
use Rattle.std.proofs.lemmas.Result.{IfErr-weaker, err_from_is_err_and, on_ok_weaker}
use Rattle.nt_search.specs.declared.stop.Stop.{Stop}
use Rattle.nt_search.specs.Searches.{IsStopped}
use Rattle.nt_search.proofs.Listing.{if_err}
use Rattle.nt_search.proofs.TryingMore.{starved}
use Rattle.nt_search.proofs.plan.Plan.hunt_ahead.Goals as goal

pub returns-in_err-unnoticed-clause-stopped : goal.returns-in_err-unnoticed-clause-stopped
returns-in_err-unnoticed-clause-stopped c =
    let e = err_from_is_err_and c.from_residual.result c.from_residual.ensures.1 in
    if_err _ c.from_residual.result e.0 e.1
    (λ all h at. subst (λ (stop : Stop). IsStopped c.args.self.now all stop c.args.found.now) (sym e.2) (starved c.args.self.now all c.args.found.now h))

pub returns-in_err-turns-clause-stopped : goal.returns-in_err-turns-clause-stopped
returns-in_err-turns-clause-stopped c =
    let e = err_from_is_err_and c.from_residual-in_err-turns.result c.from_residual-in_err-turns.ensures.1 in
    if_err _ c.from_residual-in_err-turns.result e.0 e.1
    (λ all h at. subst (λ (stop : Stop). IsStopped c.args.self.now all stop c.args.found.now) (sym e.2) (starved c.args.self.now all c.args.found.now h))

pub returns-in_err-next-clause-stopped : goal.returns-in_err-next-clause-stopped
returns-in_err-next-clause-stopped c =
    let e = err_from_is_err_and c.from_residual-in_err-next.result c.from_residual-in_err-next.ensures.1 in
    if_err _ c.from_residual-in_err-next.result e.0 e.1
    (λ all h at. subst (λ (stop : Stop). IsStopped c.args.self.now all stop c.args.found.now) (sym e.2) (starved c.args.self.now all c.args.found.now h))

pub hunt_within-hunted-requires-clause-at : goal.hunt_within-hunted-requires-clause-at
hunt_within-hunted-requires-clause-at c =
    let at = c.requires.at.2 in
    let x = c.args.self.now in (
      c.requires.at.0,
      c.requires.at.1,
      at,
      c.in_ok-next.ensures x c.requires.at.0 c.args.place.now.state at,
    )

pub returns-clause-stopped : goal.returns-clause-stopped
returns-clause-stopped c =
    let x = c.args.self.now in
    IfErr-weaker c.hunt_within-hunted.result _ _
    (λ stop h all are at.
    h all are at (c.in_ok-next.ensures x all c.args.place.now.state at))
    c.hunt_within-hunted.ensures.stopped

pub returns-clause-more : goal.returns-clause-more
returns-clause-more c =
    let x = c.args.self.now in
    on_ok_weaker c.hunt_within-hunted.result
    (λ h all are at.
    h all are at (c.in_ok-next.ensures x all c.args.place.now.state at))
    c.hunt_within-hunted.ensures.more
