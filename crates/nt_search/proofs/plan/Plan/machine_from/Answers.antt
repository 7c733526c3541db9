use Rattle.std.proofs.Common.{[], List, ap, arith, get_or, subst, sym, ℕ, ◌∙◌}
use Rattle.std.proofs.lemmas.Result.{IfOk-weaker}
use Rattle.nt_event.specs.declared.events.Event.{Event}
use Rattle.nt_expect.specs.declared.expectations.Watched.{Watched}
use Rattle.nt_search.specs.Machines.{Stands}
use Rattle.nt_search.proofs.Beginning.{at_place, none_begins, some_begins}
use Rattle.nt_search.proofs.plan.Plan.machine_from.Goals as goal

pub index-requires : goal.index-requires
index-requires c =
    let ys = c.args.stations.now in
    let low = (some_begins ys c.args.place c.in-Some.place c.requires.begins.0 c.in-Some.is c.requires.begins.1).low in
    let count = ys.kept.ok.0 in
    omega (arith, low, count)

pub returns-in-Some : goal.returns-in-Some
returns-in-Some c =
    let x = c.args.self.now in
    let ys = c.args.stations.now in
    IfOk-weaker c.copy.result _ _
    (λ m stands all state first are begins.
    let is = some_begins ys c.args.place c.in-Some.place state c.in-Some.is begins in
    stands x.script.now x.limit x.watched.items (get_or all state [])
    (at_place x all ys c.in-Some.place state c.index.result.now c.index.ensures is are).stands)
    c.copy.ensures

pub returns-in-None : goal.returns-in-None
returns-in-None c =
    let x = c.args.self.now in
    IfOk-weaker c.new.result _ _
    (λ m stands all state first are begins.
    let none = none_begins c.args.stations.now c.args.place state c.in-None.is begins in
    let empty = ap (λ (n : ℕ). get_or all n []) none ∙ first in
    subst (λ (h : List Event). Stands x.script.now x.limit x.watched.items h m) (sym empty)
    (subst (λ (w : List Watched). Stands x.script.now x.limit w [] m) c.as_slice.ensures.value stands))
    c.new.ensures
