use Rattle.std.proofs.Common.{None, Some, arith, get_or, subst, ◌≡◌}
use Rattle.std.specs.Prelude.{List, Option}
use Rattle.nt_search.specs.declared.failures.Failure.{Failure}
use Rattle.nt_findings.proofs.Showing.{failure_of}
use Rattle.nt_findings.proofs.question.Question.shown_at.Goals as goal

pub shown_by-requires-clause-state : goal.shown_by-requires-clause-state
shown_by-requires-clause-state c =
    let q = c.args.self.now in
    let r = c.requires in
    let f = c.in-Some.failure in
    let k = c.in-Some.ensures in
    let one = subst (λ (fs : List (Option Failure)). get_or fs k.0 None ≡ Some f) c.as_slice.ensures.value k.3 in
    let fails = failure_of q.script.now r.0 q.expectations.now c.args.places.now c.args.found.now.failures.items k.0 c.args.place f r.2 k.1 k.2 one in
    let state = fails.state in
    let count = r.1.count in
    omega (arith, state, count)

pub returns-in_ok-shown-in-Some : goal.returns-in_ok-shown-in-Some
returns-in_ok-shown-in-Some c =
    let q = c.args.self.now in
    let r = c.requires in
    let f = c.in-Some.failure in
    let k = c.in-Some.ensures in
    let one = subst (λ (fs : List (Option Failure)). get_or fs k.0 None ≡ Some f) c.as_slice.ensures.value k.3 in
    let fails = failure_of q.script.now r.0 q.expectations.now c.args.places.now c.args.found.now.failures.items k.0 c.args.place f r.2 k.1 k.2 one in
    c.in_ok-shown-in-Some.ensures q.script.now r.0 _ r.1 fails
