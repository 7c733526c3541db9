use Rattle.std.proofs.Common.{subst, sym, ℕ, ◌++◌}
use Rattle.std.proofs.lemmas.Result.{err_from_is_err_and}
use Rattle.nt_search.specs.declared.stop.Stop.{Stop}
use Rattle.nt_search.specs.Searches.{IsAt, IsStopped}
use Rattle.nt_search.proofs.Listing.{if_err}
use Rattle.nt_search.proofs.Beginning.{stations_more}
use Rattle.nt_search.proofs.TryingMore.{at_more, way_stopped}
use Rattle.nt_search.proofs.plan.Plan.hunt_at.Goals as goal

pub machine_at-requires-clause-ways : goal.machine_at-requires-clause-ways
machine_at-requires-clause-ways c = (c.requires.found.0, c.requires.found.1.states.ways, c.requires.found.2)

pub returns-in_err-machine-clause-stopped : goal.returns-in_err-machine-clause-stopped
returns-in_err-machine-clause-stopped c =
    let r = err_from_is_err_and c.from_residual.result c.from_residual.ensures.1 in
    if_err _ c.from_residual.result r.0 r.1
    (λ all h kept. subst (λ (stop : Stop). IsStopped c.args.self.now all stop c.args.found.now) (sym r.2)
    (way_stopped c.args.self.now all _ c.args.found.now (c.in_err-machine.ensures.cause all h.states.ways kept) h))

pub note_end-requires-clause-at : goal.note_end-requires-clause-at
note_end-requires-clause-at c =
    let h = c.requires.found in
    (h.0, h.1, c.in_ok-machine.ensures.at h.0 h.1.states.ways h.2)

pub hunt_ahead-requires-clause-at : goal.hunt_ahead-requires-clause-at
hunt_ahead-requires-clause-at c =
    let x = c.args.self.now in
    let h = c.requires.found in
    let at = c.in_ok-machine.ensures.at h.0 h.1.states.ways h.2 in (
      h.0,
      (c.note_end.ensures h.0 h.1 at).found,
      subst (λ (k : ℕ). IsAt x h.0 k c.in_ok-machine.machine) (sym c.new-place.ensures) at,
    )

pub returns-in-Err-clause-stopped : goal.returns-in-Err-clause-stopped
returns-in-Err-clause-stopped c all h kept =
    let x = c.args.self.now in
    let at = c.in_ok-machine.ensures.at all h.states.ways kept in
    c.in-Err.ensures.stopped all (c.note_end.ensures all h at).found (subst (λ (k : ℕ). IsAt x all k c.in_ok-machine.machine) (sym c.new-place.ensures) at)

pub returns-in-Ok-clause-more : goal.returns-in-Ok-clause-more
returns-in-Ok-clause-more c all h kept =
    let x = c.args.self.now in
    let n = c.args.number in
    let m = c.in_ok-machine.machine in
    let at = c.in_ok-machine.ensures.at all h.states.ways kept in
    let a = c.in-Ok.ensures.more all (c.note_end.ensures all h at).found (subst (λ (k : ℕ). IsAt x all k m) (sym c.new-place.ensures) at) in
    (a, c.keep.ensures x (all ++ a.more) (stations_more x all a.more c.args.stations.now kept) (at_more x all a.more n m at))
