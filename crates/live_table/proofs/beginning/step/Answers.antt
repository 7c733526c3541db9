use Rattle.std.proofs.Common.{subst, sym}
use Rattle.std.specs.Prelude.{ℕ}
use Rattle.nt_cpu.specs.Turns.{Serves}
use Rattle.nt_lane.specs.Views.{SeatGrows, words_of}
use Rattle.nt_mark.specs.declared.marks.Marks.{Marks}
use Rattle.nt_mark.specs.declared.seats.Pass.{Pass}
use Rattle.nt_mark.specs.Names.{pass_view}
use Rattle.nt_live.proofs.Turning.{IsTold, advanced, serves_at_work}
use Rattle.nt_live.specs.Turning.{IsAdvanced, IsSeated, made_of, outcome_of}
use Rattle.live_table.proofs.beginning.step.Goals as goal

pub advance-turned-requires-clause-serves : goal.advance-turned-requires-clause-serves
advance-turned-requires-clause-serves g c =
    let n = c.new-seat.ensures in
    let m = c.args.marks.now in
    subst (λ (x : Marks). Serves c.args.cpu.now (words_of x (pass_view c.new-seat.result.pass))) (sym n.1.0)
    (subst (λ (x : Pass). Serves c.args.cpu.now (words_of m (pass_view x))) (sym n.0)
    (serves_at_work g.N.Plan.script g.N.Plan.turns m c.args.cpu.now (pass_view c.args.pass) c.requires.sizes.0 c.requires.sizes.1.1 c.requires.seated.work
    c.requires.seated.knows))

-- the seat is that of the pass, and leaves it
pub returns : goal.returns
unfolding IsTold
returns g c =
    let t = g.N.Shared.table in
    let s = g.N.Plan.script in
    let limit = g.N.Plan.turns in
    let n = c.new-seat.ensures in
    let a = c.new-seat.result in
    let z = c.advance-turned.new.floor in
    let x = c.args.cpu.now in
    let y = c.advance-turned.new.self in
    let r = c.advance-turned.result in
    let seated : IsSeated t s limit x a.pass = subst (λ (p : Pass). IsSeated t s limit x p) (sym n.0) c.requires.seated in
    let grows : SeatGrows 0 z.last (pass_view a.pass) (pass_view z.pass) =
    subst (λ (k : ℕ). SeatGrows k z.last (pass_view a.pass) (pass_view z.pass)) n.1.1 c.advance-turned.ensures.grows in
    let is : IsAdvanced t s limit x y a.pass z.pass (made_of z.last r) (outcome_of r) =
    advanced t s limit a.marks.now z.marks.now x y a.pass z.pass z.last r a.cpus seated z.seat z.listed c.advance-turned.ensures.knows grows
    (c.advance-turned.ensures.ok, c.advance-turned.ensures.same) in
    subst (λ (q : Pass). IsSeated t s limit y q) (sym c.leave-pass.ensures.pass) is.seated
