use Rattle.std.proofs.Common.{refl, subst, sym, ◌++◌}
use Rattle.std.proofs.lemmas.Result.{err_from_is_err_and}
use Rattle.nt_search.specs.declared.found.Found.{Found}
use Rattle.nt_search.specs.declared.stop.Stop.{Stop}
use Rattle.nt_search.specs.declared.stop.Stop.TheVariants.{NoMemory}
use Rattle.nt_search.specs.Searches.{IsStopped}
use Rattle.nt_search.proofs.Expanded.{expanded}
use Rattle.nt_search.proofs.Listing.{if_err}
use Rattle.nt_search.proofs.TryingMore.{starved_by, stopped_more}
use Rattle.nt_search.proofs.plan.Plan.expand.Goals as goal

pub try_ahead-requires-clause-at : goal.try_ahead-requires-clause-at
try_ahead-requires-clause-at c =
    let at = c.requires.at in
    (at.0, (c.note_end.ensures at.0 at.1 at.2).found, at.2)

pub returns-in_err-try_ahead-clause-stopped : goal.returns-in_err-try_ahead-clause-stopped
returns-in_err-try_ahead-clause-stopped c =
    let r = err_from_is_err_and c.from_residual.result c.from_residual.ensures.1 in
    if_err _ c.from_residual.result r.0 r.1
    (λ all h at.
    let end = c.note_end.ensures all h at in
    subst (λ (stop : Stop). IsStopped c.args.self.now all stop c.try_ahead.new.found) (sym r.2)
    (c.in_err-try_ahead.ensures.stopped all end.found at))

pub returns-in_err-close-clause-stopped : goal.returns-in_err-close-clause-stopped
returns-in_err-close-clause-stopped c =
    let e = err_from_is_err_and c.from_residual-in_err-close.result c.from_residual-in_err-close.ensures.1 in
    if_err _ c.from_residual-in_err-close.result e.0 e.1
    (λ all h at.
    let x = c.args.self.now in
    let end = c.note_end.ensures all h at in
    let are = c.in_ok-try_ahead.ensures.tried all end.found at in
    let f : Found = record c.try_ahead.new.found { graph = c.close.new.self } in
    subst (λ (stop : Stop). IsStopped x all stop f) (sym e.2)
    (stopped_more x all are.2.more NoMemory f (starved_by x (all ++ are.2.more) f are.2.found.states are.2.found.few are.2.found.noted)))

pub returns-clause-expanded : goal.returns-clause-expanded
returns-clause-expanded c all h at =
    let x = c.args.self.now in
    let end = c.note_end.ensures all h at in
    let are = c.in_ok-try_ahead.ensures.tried all end.found at in
    expanded x all c.args.found.now h c.args.from c.args.machine.now at c.note_end.new.found c.try_ahead.new.found _ are.0 are.1 end are.2
    c.requires.opened refl refl c.in_ok-close.ensures.ok
