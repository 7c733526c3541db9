use Rattle.std.proofs.Common.{ap, refl, subst, sym, ◌∙◌}
use Rattle.std.specs.Prelude.{IfSome, IsTrue, Some, ◌≡◌}
use Rattle.nt_event.specs.declared.scripts.Script.{Script}
use Rattle.nt_event.specs.Script.{fits}
use Rattle.nt_states.specs.ThreadFits.{RunsHere, WhatFits, named_thread}
use Rattle.nt_states.specs.ThreadLanes.{ThreadLanes, left}
use Rattle.nt_thread_lanes.proofs.Allows.{names_one}
use Rattle.nt_lane_record.specs.Held.{GroupState}
use Rattle.nt_lane_record.proofs.states.Group.leave.Goals as goal

pub tell-requires-clause-thread : goal.tell-requires-clause-thread
tell-requires-clause-thread c =
    let x : ThreadLanes = c.self.inside.state in
    let st = c.args.stand.now in
    let w = c.args.event.now.what in
    let t = c.in-Some.thread in
    let same : x ≡ c.args.self.now.threads = ap (λ (g : GroupState). g.threads) c.self.view_is in
    let at : x.script ≡ c.args.script.now = ap (λ (y : ThreadLanes). y.script) same ∙ c.requires.script in
    let named : named_thread x.script w ≡ Some t = subst (λ (s : Script). named_thread s w ≡ Some t) (sym at) (sym c.named_thread.ensures ∙ c.in-Some.is) in
    let fit : IsTrue (fits x.script) = subst (λ (s : Script). IsTrue (fits s)) (sym at) c.requires.fits in
    (names_one x st w t fit (subst (λ (y : ThreadLanes). WhatFits y st w) (sym same) c.requires.what) named).named

pub tell-requires-clause-named : goal.tell-requires-clause-named
tell-requires-clause-named c =
    let x : ThreadLanes = c.self.inside.state in
    let w = c.args.event.now.what in
    let t = c.in-Some.thread in
    let same : x ≡ c.args.self.now.threads = ap (λ (g : GroupState). g.threads) c.self.view_is in
    let at : x.script ≡ c.args.script.now = ap (λ (y : ThreadLanes). y.script) same ∙ c.requires.script in
    subst (λ (s : Script). named_thread s w ≡ Some t) (sym at) (sym c.named_thread.ensures ∙ c.in-Some.is)

pub tell-requires-clause-may : goal.tell-requires-clause-may
tell-requires-clause-may c =
    let x : ThreadLanes = c.self.inside.state in
    let st = c.args.stand.now in
    let w = c.args.event.now.what in
    let t = c.in-Some.thread in
    let same : x ≡ c.args.self.now.threads = ap (λ (g : GroupState). g.threads) c.self.view_is in
    let at : x.script ≡ c.args.script.now = ap (λ (y : ThreadLanes). y.script) same ∙ c.requires.script in
    let named : named_thread x.script w ≡ Some t = subst (λ (s : Script). named_thread s w ≡ Some t) (sym at) (sym c.named_thread.ensures ∙ c.in-Some.is) in
    let fit : IsTrue (fits x.script) = subst (λ (s : Script). IsTrue (fits s)) (sym at) c.requires.fits in
    (names_one x st w t fit (subst (λ (y : ThreadLanes). WhatFits y st w) (sym same) c.requires.what) named).may

pub leave-requires : goal.leave-requires
leave-requires c =
    let x : ThreadLanes = c.self.inside.state in
    let st = c.args.stand.now in
    let same : x ≡ c.args.self.now.threads = ap (λ (g : GroupState). g.threads) c.self.view_is in
    record {
      cpu = c.requires.cpu;
      thread = c.requires.thread;
      stands = subst (λ (y : ThreadLanes). IfSome st.thread (RunsHere y st)) (sym same) (c.requires.runs (sym c.named_thread.ensures ∙ c.in-None.is));
      what = subst (λ (y : ThreadLanes). WhatFits y st c.args.event.now.what) (sym same) c.requires.what;
    }

pub returns-in-Some : goal.returns-in-Some
returns-in-Some c =
    let e = c.tell.ensures c.args.stand.now c.args.event.now refl
    ∙ ap (λ (g : GroupState). left c.args.n c.args.stand.now c.args.event.now g.threads) c.self.view_is in
    let p = ap (λ (g : GroupState). g.cpu) c.self.view_is in
    λ i. record { threads = e i; cpu = p i }

pub returns-in-None : goal.returns-in-None
returns-in-None c =
    let e = c.leave.ensures ∙ ap (λ (g : GroupState). left c.args.n c.args.stand.now c.args.event.now g.threads) c.self.view_is in
    let p = ap (λ (g : GroupState). g.cpu) c.self.view_is in
    λ i. record { threads = e i; cpu = p i }
