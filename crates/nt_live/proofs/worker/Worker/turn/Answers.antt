use Rattle.std.proofs.Common.{ap, arith, subst, sym, ◌<◌, ◌∙◌, ◌≡◌}
use Rattle.std.specs.Prelude.{IfOk, Option}
use Rattle.nt_mark.specs.declared.seats.Pass.{Pass}
use Rattle.nt_live.proofs.Keeping.{done_where, goes_same, has_room, seated_of, worker_again}
use Rattle.nt_live.specs.declared.worker.Outcome.TheVariants.{Stopped}
use Rattle.nt_live.specs.OwnLists.{OwnEvents}
use Rattle.nt_live.specs.Turning.{at_work}
use Rattle.nt_live.specs.Workers.{HasWorked, WorkerState, view_in}
use Rattle.nt_live.proofs.worker.Worker.turn.Goals as goal

pub returns-then-board-made-clause-goes : goal.returns-then-board-made-clause-goes
returns-then-board-made-clause-goes g c = goes_same c.args.self.now

pub make_next-pass-requires-clause-seated : goal.make_next-pass-requires-clause-seated
make_next-pass-requires-clause-seated g c =
    seated_of g.N.Shared.table g.N.Plan.script g.N.Plan.turns c.self.inside.cpu c.self.inside.pass c.self.inside.list.pairs c.in-Some.pass
    c.self.invariant (sym c.take.ensures.value ∙ c.in-Some.is)

pub make_next-pass-requires-clause-room : goal.make_next-pass-requires-clause-room
make_next-pass-requires-clause-room g c =
    let i = c.self.inside in
    let few = c.if-board-made.false in
    let made = c.made.ensures in
    let turns = c.args.board.now.turns_is in
    let fewer : i.cpu.own.made < g.N.Plan.turns = omega (arith, few, made, turns) in
    has_room g.N.Shared.table g.N.Plan.script g.N.Plan.turns i.cpu i.pass i.list.pairs i.list.room c.self.invariant i.room fewer

pub invariant_of-self : goal.invariant_of-self
invariant_of-self g c =
    let i = c.self.inside in
    let a = c.make_next-pass in
    worker_again g.N.Shared.table g.N.Plan.script g.N.Plan.turns i.cpu a.new.cpu i.pass i.list.pairs a.new.list.pairs c.in-Some.pass a.result.pass
    a.ensures.0 a.result.outcome c.self.invariant (sym c.take.ensures.value ∙ c.in-Some.is) a.ensures.1
    (ap (λ (x : OwnEvents). x.pairs) a.ensures.2)

pub returns-clause-stopped : goal.returns-clause-stopped
returns-clause-stopped g c =
    let i = c.self.inside in
    let a = c.make_next-pass in
    let new : WorkerState = at_work a.new.cpu a.result.pass in
    let old : at_work i.cpu c.in-Some.pass ≡ c.args.self.now =
    ap (λ (o : Option Pass). record { cpu = i.cpu; view = view_in o }) (sym (sym c.take.ensures.value ∙ c.in-Some.is)) ∙ c.self.view_is in
    subst (λ (w : WorkerState). IfOk a.result.outcome (λ t. t ≡ Stopped → HasWorked w new)) old
    (done_where a.result.outcome (at_work i.cpu c.in-Some.pass) new a.ensures.1.done)
