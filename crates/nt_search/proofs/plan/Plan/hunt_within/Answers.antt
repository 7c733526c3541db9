use Rattle.std.proofs.Common.{List, subst, sym, ℕ, ◌++◌}
use Rattle.std.proofs.lemmas.Result.{err_from_is_err_and}
use Rattle.nt_event.specs.declared.events.Event.{Event}
use Rattle.nt_search.specs.declared.stop.Stop.{Stop}
use Rattle.nt_search.specs.Searches.{AreFound, IsAt, IsStopped}
use Rattle.nt_search.specs.Stations.{IsTrial}
use Rattle.nt_search.proofs.Hunts.{more_on}
use Rattle.nt_search.proofs.Listing.{if_err}
use Rattle.nt_search.proofs.Beginning.{trial_more}
use Rattle.nt_search.proofs.TryingMore.{at_more, stopped_more}
use Rattle.nt_search.proofs.plan.Plan.hunt_within.Goals as goal

pub returns-in_err-could_go_on-clause-stopped : goal.returns-in_err-could_go_on-clause-stopped
returns-in_err-could_go_on-clause-stopped c =
    let r = err_from_is_err_and c.from_residual.result c.from_residual.ensures.1 in
    if_err _ c.from_residual.result r.0 r.1
    (λ all h at next. subst (λ (stop : Stop). IsStopped c.args.self.now all stop c.hunt_turns.new.found) (sym r.2)
    (c.in_err-could_go_on.ensures.stopped all h at next))

pub hunt_others-requires-clause-at : goal.hunt_others-requires-clause-at
hunt_others-requires-clause-at c =
    let x = c.args.self.now in
    let at = c.requires.at in
    let n = c.args.place.now.state in
    let a = c.in_ok-could_go_on.ensures.more at.0 at.1 at.2 at.3 in
    subst (λ (k : ℕ). (all : List (List Event)) × AreFound x all c.hunt_turns.new.found × IsAt x all k c.args.machine.now ×
    IsTrial x all k c.hunt_turns.new.next) (sym c.left-left.ensures) (
      at.0 ++ a.more,
      a.found,
      at_more x at.0 a.more n c.args.machine.now at.2,
      trial_more x at.0 a.more n c.hunt_turns.new.next (c.in_ok-could_go_on.ensures.next at.0 at.2 at.3),
    )

pub returns-in_err-hunt_others-clause-stopped : goal.returns-in_err-hunt_others-clause-stopped
returns-in_err-hunt_others-clause-stopped c =
    let r = err_from_is_err_and c.from_residual-in_err-hunt_others.result c.from_residual-in_err-hunt_others.ensures.1 in
    if_err _ c.from_residual-in_err-hunt_others.result r.0 r.1
    (λ all h at next.
    let x = c.args.self.now in
    let n = c.args.place.now.state in
    let a = c.in_ok-could_go_on.ensures.more all h at next in
    subst (λ (stop : Stop). IsStopped x all stop c.hunt_others.new.found) (sym r.2)
    (stopped_more x all a.more _ c.hunt_others.new.found
    (c.in_err-hunt_others.ensures.stopped (all ++ a.more) a.found
    (subst (λ (k : ℕ). IsAt x (all ++ a.more) k c.args.machine.now) (sym c.left-left.ensures) (at_more x all a.more n c.args.machine.now at))
    (subst (λ (k : ℕ). IsTrial x (all ++ a.more) k c.hunt_turns.new.next) (sym c.left-left.ensures)
    (trial_more x all a.more n c.hunt_turns.new.next (c.in_ok-could_go_on.ensures.next all at next))))))

pub returns-clause-more : goal.returns-clause-more
returns-clause-more c all h at next =
    let x = c.args.self.now in
    let n = c.args.place.now.state in
    let a = c.in_ok-could_go_on.ensures.more all h at next in
    more_on x all a.more c.hunt_others.new.found
    (c.in_ok-hunt_others.ensures.more (all ++ a.more) a.found
    (subst (λ (k : ℕ). IsAt x (all ++ a.more) k c.args.machine.now) (sym c.left-left.ensures) (at_more x all a.more n c.args.machine.now at))
    (subst (λ (k : ℕ). IsTrial x (all ++ a.more) k c.hunt_turns.new.next) (sym c.left-left.ensures)
    (trial_more x all a.more n c.hunt_turns.new.next (c.in_ok-could_go_on.ensures.next all at next))))
