use Rattle.std.proofs.Common.{ap, max, subst, ◌∙◌}
use Rattle.std.specs.Prelude.{None, Option, refl, ℕ, ◌<◌, ◌≡◌}
use Rattle.nt_event.specs.declared.events.Event.{Event}
use Rattle.nt_event.specs.Own.{stand_in}
use Rattle.nt_event.specs.Lists.{table, value_at}
use Rattle.nt_floor.specs.Views.{IsDrawn}
use Rattle.nt_cpu.specs.Alone.{IsMarkedFor, alone_asks, alone_event, noticed}
use Rattle.nt_cpu.specs.Leaves.{own_with}
use Rattle.nt_cpu.specs.Notices.{notice_of}
use Rattle.nt_cpu.specs.States.{CpuState}
use Rattle.nt_event.specs.declared.class.Asked.{Asked}
use Rattle.nt_cpu.proofs.Taken.{own_with_same, taken_seen}
use Rattle.nt_cpu.proofs.cpu.Cpu.make_alone.Goals as goal

pub returns-clause-made : goal.returns-clause-made
returns-clause-made g c =
    let n = c.draw-n.result in
    let s : CpuState = c.args.self.now in
    let w = c.args.event.now.what in
    let v = g.W.Words.view c.args.words.now in
    let u = g.W.Words.view c.draw-n.new.self in
    let z = g.W.Words.view c.mark.new.words in
    let st = stand_in s.cpu s.own in
    let is : c.args.event.now ≡ alone_event s.cpu w s.own.frames = c.requires.event in
    let asked : c.asks-asked.result ≡ alone_asks st w = c.asks-asked.ensures.asks in
    let cpu = ap (λ (x : CpuState). x.cpu) c.notice.view_is in
    let seen : ℕ → ℕ = λ k. max (value_at s.own.seen k) (notice_of c.noticed.result k) in
    let same : (k : ℕ) → k < 16 → seen k
    ≡ max (value_at s.own.seen k) (noticed s.cpu w (alone_asks st w) n k) = λ k b. ap (λ (y : ℕ). max (value_at s.own.seen k) y)
    (c.noticed.ensures.value k b
    ∙ (ap (λ (p : _). noticed p w c.asks-asked.result n k) cpu
    ∙ ap (λ (a : Option Asked). noticed s.cpu w a n k) asked)) in
    let taken = taken_seen s c.take_up.new.self n None c.args.event.now (table 16 seen) seen refl
    (c.take_up.ensures ∙ ap (λ (x : CpuState). record x { own = own_with x.script n None c.args.event.now (λ k. value_at x.own.seen k) x.own })
    c.notice-2.ensures) in (
      n,
      u,
      record {
        drawn = subst (λ (e : Event). IsDrawn n e v u) is c.draw-n.ensures.drawn;
        marked = subst (λ (a : Option Asked). IsMarkedFor a n u z) asked c.mark.ensures.marked;
        state = taken ∙ (ap (λ (x : _). record s { own = x })
            (ap (λ (e : Event). own_with s.script n None e seen s.own) is
            ∙ own_with_same s.script n None (alone_event s.cpu w s.own.frames) _ _ s.own same));
      },
    )

pub returns-clause-grows : goal.returns-clause-grows
returns-clause-grows g c =
    g.met.W.Words.grows_through c.args.words.now c.draw-n.new.self c.mark.new.words c.draw-n.ensures.grows c.mark.ensures.grows
