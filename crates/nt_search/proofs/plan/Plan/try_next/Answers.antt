use Rattle.std.proofs.Common.{[], ap, false, get_or, length, refl, subst, sym, true, ◌∷◌, ◌∙◌, ◌≡◌}
use Rattle.std.specs.Prelude.{List}
use Rattle.nt_expect.specs.declared.expectations.Watched.{Watched}
use Rattle.nt_search.specs.Machines.{IsRefused, IsTaken, Stands}
use Rattle.std.proofs.lemmas.Result.{err_from_is_err_and}
use Rattle.nt_search.specs.declared.stop.Stop.{Stop}
use Rattle.nt_search.specs.Searches.{IsStopped}
use Rattle.nt_search.proofs.Leading.{uncut}
use Rattle.nt_search.proofs.Keeping.{found_grown, tried_grown}
use Rattle.nt_search.proofs.Listing.{if_err, keys_count}
use Rattle.nt_search.proofs.Machines.{came_length}
use Rattle.nt_search.proofs.Trying.{none_tried, stopped, tried}
use Rattle.nt_search.proofs.TryingMore.{starved}
use Rattle.nt_search.proofs.plan.Plan.try_next.Goals as goal

pub take-requires : goal.take-requires
take-requires c =
    let x = c.args.self.now in
    let at = c.requires.at.3 in
    uncut x.script.now x.limit x.watched.items _ _ c.args.next.now at.stands at.short c.as_slice.ensures.value

pub returns-then-not-branch-clause-tried : goal.returns-then-not-branch-clause-tried
returns-then-not-branch-clause-tried c all h at next =
    let x = c.args.self.now in
    let s = x.script.now in
    let past = get_or all c.args.from [] in
    let e = c.as_slice.ensures.value in
    let test = c.if-not-branch.true in
    let q : c.in_ok-take.field-0 ≡ false = cc in
    let old = subst (λ (w : List Watched). Stands s x.limit w past c.args.next.now) (sym e) next.stands in
    let refused = c.in_ok-take.ensures.refused q s x.limit past old next.short in
    none_tried x all c.args.found.now h c.args.from c.args.machine.now at c.args.turn.now c.take.new.self
    (subst (λ (w : List Watched). IsRefused s x.limit w c.args.turn.now past c.take.new.self) e refused)

pub judge_event-requires-clause-flags : goal.judge_event-requires-clause-flags
judge_event-requires-clause-flags c =
    let x = c.args.self.now in
    came_length x.watched.items _ c.args.machine.now.came.items c.requires.at.2.stands.came
    ∙ ap (λ (ws : List Watched). length ws) c.requires.plan.watched

pub key-requires : goal.key-requires
key-requires c =
    let x = c.args.self.now in
    let s = x.script.now in
    let past = get_or c.requires.at.0 c.args.from [] in
    let next = c.requires.at.3 in
    let e = c.as_slice.ensures.value in
    let test = c.if-not-branch.false in
    let q : c.in_ok-take.field-0 ≡ true = cc in
    let old = subst (λ (w : List Watched). Stands s x.limit w past c.args.next.now) (sym e) next.stands in
    let taken = c.in_ok-take.ensures.taken q s x.limit past old next.short in
    (s, x.limit, c.as_slice.result.now, c.take.new.self.event ∷ past, taken.stands)

pub returns-then-not-branch-clause-refused : goal.returns-then-not-branch-clause-refused
returns-then-not-branch-clause-refused c r all next =
    let x = c.args.self.now in
    let s = x.script.now in
    let past = get_or all c.args.from [] in
    let e = c.as_slice.ensures.value in
    let test = c.if-not-branch.true in
    let q : c.in_ok-take.field-0 ≡ false = cc in
    let old = subst (λ (w : List Watched). Stands s x.limit w past c.args.next.now) (sym e) next.stands in
    let refused = c.in_ok-take.ensures.refused q s x.limit past old next.short in
    record { state = next.state; stands = subst (λ (w : List Watched). Stands s x.limit w past c.take.new.self) e refused.stands; short = next.short }

pub lead-requires-clause-count : goal.lead-requires-clause-count
lead-requires-clause-count c =
    let x = c.args.self.now in
    let y = c.key.new.states in
    let h = found_grown x c.requires.at.0 c.args.found.now y c.requires.at.1 c.in_ok-key.ensures.grown in
    keys_count x.script.now x.watched.items c.requires.plan.fit y.parts c.requires.at.0 y.keys h.states.keys ∙ sym h.states.ways.count

pub returns-in_err-take-clause-stopped : goal.returns-in_err-take-clause-stopped
returns-in_err-take-clause-stopped c =
    let e = err_from_is_err_and c.from_residual.result c.from_residual.ensures.1 in
    if_err _ c.from_residual.result e.0 e.1
    (λ all h at next. subst (λ (stop : Stop). IsStopped c.args.self.now all stop c.args.found.now) (sym e.2) (starved c.args.self.now all c.args.found.now h))

pub returns-in_err-key-clause-stopped : goal.returns-in_err-key-clause-stopped
returns-in_err-key-clause-stopped c =
    let e = err_from_is_err_and c.from_residual-in_err-key.result c.from_residual-in_err-key.ensures.1 in
    let y = c.key.new.states in
    if_err _ c.from_residual-in_err-key.result e.0 e.1
    (λ all h at next. subst (λ (stop : Stop). IsStopped c.args.self.now all stop (record c.args.found.now { states = y })) (sym e.2)
    (starved c.args.self.now all _ (found_grown c.args.self.now all c.args.found.now y h c.in_err-key.ensures.grown)))

pub returns-in_err-lead-clause-stopped : goal.returns-in_err-lead-clause-stopped
returns-in_err-lead-clause-stopped c =
    let r = err_from_is_err_and c.from_residual-in_err-lead.result c.from_residual-in_err-lead.ensures.1 in
    if_err _ c.from_residual-in_err-lead.result r.0 r.1
    (λ all h at next.
    let x = c.args.self.now in
    let s = x.script.now in
    let past = get_or all c.args.from [] in
    let e = c.as_slice.ensures.value in
    let test = c.if-not-branch.false in
    let q : c.in_ok-take.field-0 ≡ true = cc in
    let n = c.take.new.self in
    let t = c.args.turn.now in
    let old = subst (λ (w : List Watched). Stands s x.limit w past c.args.next.now) (sym e) next.stands in
    let taken = subst (λ (w : List Watched). IsTaken s x.limit w t past n.event n) e (c.in_ok-take.ensures.taken q s x.limit past old next.short) in
    let before = subst (λ (w : List Watched). Stands s x.limit w past c.args.machine.now) c.requires.plan.watched at.stands in
    let after = subst (λ (w : List Watched). Stands s x.limit w (n.event ∷ past) n) c.requires.plan.watched taken.stands in
    let judged = c.judge_event.ensures.judged s x.limit past before after in
    let keyed = c.in_ok-key.ensures.key s x.limit x.watched.items (n.event ∷ past) taken.stands in
    let y = c.key.new.states in
    let g = found_grown x all c.args.found.now y h c.in_ok-key.ensures.grown in
    subst (λ (stop : Stop). IsStopped x all stop c.lead.new.self) (sym r.2)
    (stopped x all (record c.args.found.now { states = y }) g c.args.from c.args.machine.now at t n.event n taken _ c.judge_event.new.failures.items
    c.in_ok-key.key _ c.requires.plan refl refl at.stands.took judged keyed refl refl _ c.lead.new.self _ refl refl c.in_err-lead.ensures.err
    c.in_err-lead.ensures.few))

pub returns-clause-tried : goal.returns-clause-tried
returns-clause-tried c all h at next =
    let x = c.args.self.now in
    let s = x.script.now in
    let past = get_or all c.args.from [] in
    let e = c.as_slice.ensures.value in
    let test = c.if-not-branch.false in
    let q : c.in_ok-take.field-0 ≡ true = cc in
    let n = c.take.new.self in
    let t = c.args.turn.now in
    let old = subst (λ (w : List Watched). Stands s x.limit w past c.args.next.now) (sym e) next.stands in
    let taken = subst (λ (w : List Watched). IsTaken s x.limit w t past n.event n) e (c.in_ok-take.ensures.taken q s x.limit past old next.short) in
    let before = subst (λ (w : List Watched). Stands s x.limit w past c.args.machine.now) c.requires.plan.watched at.stands in
    let after = subst (λ (w : List Watched). Stands s x.limit w (n.event ∷ past) n) c.requires.plan.watched taken.stands in
    let judged = c.judge_event.ensures.judged s x.limit past before after in
    let keyed = c.in_ok-key.ensures.key s x.limit x.watched.items (n.event ∷ past) taken.stands in
    let y = c.key.new.states in
    let g = found_grown x all c.args.found.now y h c.in_ok-key.ensures.grown in
    tried_grown x all past (t ∷ []) c.args.found.now c.lead.new.self y
    (tried x all (record c.args.found.now { states = y }) g c.args.from c.args.machine.now at t n.event n taken _ c.judge_event.new.failures.items
    c.in_ok-key.key _ c.requires.plan refl refl at.stands.took judged keyed refl refl _ c.lead.new.self refl refl refl c.in_ok-lead.ensures.led
    c.in_ok-lead.ensures.few)
