use Rattle.std.proofs.Common.{ap, arith, subst, sym, ◌∙◌}
use Rattle.std.proofs.lemmas.Bool.Decides.{nat_tests}
use Rattle.std.specs.Prelude.{List, length, refl, ℕ, ◌<◌, ◌≤◌}
use Rattle.nt_event.specs.declared.jobs.Stand.{Stand}
use Rattle.nt_event.specs.declared.scripts.Script.{Script}
use Rattle.nt_event.specs.Own.{Own, stand_in}
use Rattle.nt_event.specs.Lists.{value_at}
use Rattle.nt_event.proofs.Options.{not_true}
use Rattle.nt_event.proofs.Tables.{length-table_from}
use Rattle.nt_event.specs.declared.acts.Acted.{Acted}
use Rattle.nt_event.specs.Acts.{IsActed, IsMet, StandFits, acted_of}
use Rattle.nt_floor.specs.Views.{IsMoved}
use Rattle.nt_frame.specs.Nesting.{AreNamedBelow}
use Rattle.nt_frame.proofs.Below.{below_more}
use Rattle.nt_cpu.specs.Fits.{Allow}
use Rattle.nt_cpu.specs.Insides.{IsSoundInside, state_in}
use Rattle.nt_cpu.specs.States.{CpuState}
use Rattle.nt_cpu.specs.Steps.{Knows}
use Rattle.nt_cpu.proofs.Dues.{due_same}
use Rattle.nt_cpu.proofs.Knowing.{has_words, knows_acted, knows_of}
use Rattle.nt_cpu.proofs.SharedEvents.{acted_fits, acted_left, acted_taken, stand_fits, stands_met}
use Rattle.nt_cpu.proofs.Taken.{sound_seen}
use Rattle.nt_cpu.proofs.cpu.Cpu.make_shared.Goals as goal

pub act-requires-clause-room : goal.act-requires-clause-room
act-requires-clause-room g c =
    c.requires.serves.drawable (let r = c.requires.room in grind (arith, nat_tests))

pub act-requires-clause-stand : goal.act-requires-clause-stand
act-requires-clause-stand g c =
    let stood = c.new-stand.ensures ∙ ap (λ (x : CpuState). stand_in x.cpu x.own) c.self.view_is in
    let s : CpuState = c.args.self.now in
    subst (λ (x : Script). StandFits x c.new-stand.result) (sym c.requires.script)
    (subst (λ (st : Stand). StandFits s.script st) (sym stood) (stand_fits s c.sound.ensures))

pub act-requires-clause-met : goal.act-requires-clause-met
act-requires-clause-met g c =
    let stood = c.new-stand.ensures ∙ ap (λ (x : CpuState). stand_in x.cpu x.own) c.self.view_is in
    let s : CpuState = c.args.self.now in
    let states = (g.F.Words.view c.args.floor.now).states in
    subst (λ (x : Script). IsMet x states c.new-stand.result c.args.job) (sym c.requires.script)
    (subst (λ (st : Stand). IsMet s.script states st c.args.job) (sym stood)
    (stands_met s states c.args.job c.requires.serves.stands c.requires.due))

pub renew_due-requires : goal.renew_due-requires
renew_due-requires g c h =
    c.self.invariant.due
    ∙ due_same c.self.inside.seen c.self.inside.kept.served c.act.new.seen c.self.inside.kept.served
    (c.in_ok-made.ensures.interrupts (not_true c.in_ok-made.made.interrupts h)) (λ k a b. refl)

-- after a refusal
pub invariant_of-self : goal.invariant_of-self
invariant_of-self g c =
    subst (λ (xs : List ℕ). IsSoundInside (record c.self.inside { seen = xs })) (sym c.in_err-made.ensures.unseen) c.self.invariant

-- before the event is taken up
pub invariant_of-self-2 : goal.invariant_of-self-2
invariant_of-self-2 g c = record {
  sound = sound_seen (state_in c.self.inside) c.act.new.seen c.self.invariant.sound
      (ap (λ (xs : List ℕ). length xs) c.in_ok-made.ensures.event.3.1.1.seen ∙ length-table_from 0 16 _);
  due = c.renew_due.ensures;
}

pub take_up-requires-clause-number : goal.take_up-requires-clause-number
take_up-requires-clause-number g c =
    let s : CpuState = c.args.self.now in
    let n = c.in_ok-made.made.number in
    subst (λ (x : CpuState). AreNamedBelow n x.own.frames) (sym c.self.view_is)
    (below_more (g.F.Words.view c.args.floor.now).next n s.own.frames c.in_ok-made.ensures.event.3.1.0.least.0 c.requires.serves.named)

pub take_up-requires-clause-allow : goal.take_up-requires-clause-allow
take_up-requires-clause-allow g c =
    let stood = c.new-stand.ensures ∙ ap (λ (x : CpuState). stand_in x.cpu x.own) c.self.view_is in
    let s : CpuState = c.args.self.now in
    let e = c.in_ok-made.ensures.event in
    let a : Acted = acted_of c.in_ok-made.made c.act.new.event e.1 in
    let i = subst (λ (st : Stand). IsActed s.script e.0 st c.args.job a) stood
    (subst (λ (x : Script). IsActed x e.0 c.new-stand.result c.args.job a) c.requires.script e.3.0) in
    subst (λ (x : CpuState). Allow x.script a.event.what x.own.frames) (sym c.self.view_is)
    (acted_fits s c.args.job e.0 a c.sound.ensures c.requires.good i).allow

pub returns-clause-ok : goal.returns-clause-ok
returns-clause-ok g c =
    let stood = c.new-stand.ensures ∙ ap (λ (x : CpuState). stand_in x.cpu x.own) c.self.view_is in
    let s : CpuState = c.args.self.now in
    let e = c.in_ok-made.ensures.event in
    let a : Acted = acted_of c.in_ok-made.made c.act.new.event e.1 in
    let v = g.F.Words.view c.args.floor.now in
    let w = g.F.Words.view c.act.new.self in
    let i = subst (λ (st : Stand). IsActed s.script e.0 st c.args.job a) stood
    (subst (λ (x : Script). IsActed x e.0 c.new-stand.result c.args.job a) c.requires.script e.3.0) in
    let m = subst (λ (st : Stand). IsMoved s.script a.number a.event st e.0 v w) stood
    (subst (λ (x : Script). IsMoved x a.number a.event c.new-stand.result e.0 v w) c.requires.script e.3.1.0) in
    let below : (k : ℕ) → k < 16 → value_at s.own.seen k ≤ a.number = λ k b. let p = c.requires.serves.below k b in let q = m.least.0 in omega arith in (
      e.0,
      a.number,
      (
        record {
          what = i.what;
          event = i.event;
          state = acted_taken s (state_in c.self.inside) c.take_up.new.self a.number a.due a.event c.act.new.seen a.told.value c.self.view_is e.3.1.1.seen
              c.take_up.ensures ∙ ap (λ (x : Own). record s { own = x }) (acted_left s c.args.job e.0 a c.sound.ensures c.requires.good below i);
          floor = m;
        },
        subst (λ (st : Stand). g.F.Floor.found c.act.new.self a.number a.event st e.0) stood e.2,
      ),
    )

pub returns-clause-knows : goal.returns-clause-knows
returns-clause-knows g c =
    let stood = c.new-stand.ensures ∙ ap (λ (x : CpuState). stand_in x.cpu x.own) c.self.view_is in
    let s : CpuState = c.args.self.now in
    let e = c.in_ok-made.ensures.event in
    let a : Acted = acted_of c.in_ok-made.made c.act.new.event e.1 in
    let m = e.3.1.0 in
    let w = g.F.Words.view c.act.new.self in
    let v = g.F.Words.view c.args.floor.now in
    let here = has_words s v c.sound.ensures c.requires.serves.cpus in
    let taken = acted_taken s (state_in c.self.inside) c.take_up.new.self a.number a.due a.event c.act.new.seen a.told.value c.self.view_is e.3.1.1.seen
    c.take_up.ensures in
    subst (λ (x : CpuState). Knows x w) (sym taken)
    (knows_acted s a.number a.due a.event a.told.value v w c.sound.ensures here (knows_of s v c.requires.serves) m.least.0 m.least.1
    (λ k q. m.never_falls s.cpu k (here, q)) (λ k q. subst
    (λ (st : Stand). (value_at a.told.value k ≤ w.value st.cpu k) × (value_at a.told.value k ≤ w.next)) stood
    (e.3.1.1.known k q)))
