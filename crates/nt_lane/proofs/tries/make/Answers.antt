use Rattle.std.proofs.Common.{ap, arith, subst, sym, ◌∙◌}
use Rattle.std.specs.List.{list_any}
use Rattle.std.specs.Prelude.{List, if◌then◌else◌, map, ◌+◌, ◌≡◌}
use Rattle.nt_event.specs.declared.jobs.Lane.{Lane}
use Rattle.nt_event.specs.declared.scripts.Script.{Script}
use Rattle.nt_event.specs.Lanes.{lane_number, what_lanes}
use Rattle.nt_event.specs.Lists.{table, value_at}
use Rattle.nt_event.specs.Requests.{Ask, is_ask}
use Rattle.nt_event.specs.Acts.{told_over}
use Rattle.nt_mark.specs.Names.{pass_view}
use Rattle.nt_states.proofs.Requests.{each_asked}
use Rattle.nt_states.specs.LaneLists.{AskFits}
use Rattle.nt_states.specs.Reads.{AreHeld}
use Rattle.nt_lane.specs.Answers.{IsHeld, held_lanes}
use Rattle.nt_lane.specs.Locks.{states_of, told_in}
use Rattle.nt_lane.proofs.Doing.{is_done}
use Rattle.nt_lane.proofs.Readying.{all_ready}
use Rattle.nt_lane.proofs.tries.make.Goals as goal

pub touched_numbers-numbers-requires-clause-touched : goal.touched_numbers-numbers-requires-clause-touched
touched_numbers-numbers-requires-clause-touched g c =
    let h = c.args.locked.now in
    let p = c.args.plan.now in
    let l = held_lanes (states_of g.N.Plan.script h) in
    (l, subst (λ (s : Script). p.lanes ≡ what_lanes s c.args.stand.now p.event.what l) (sym c.requires.script.0) c.requires.planned.lanes)

pub told-value-requires-clause-held : goal.told-value-requires-clause-held
told-value-requires-clause-held g c =
    subst (λ (xs : List Lane). AreHeld (IsHeld (states_of g.N.Plan.script c.args.locked.now)) xs) (sym c.as_slice.ensures) c.requires.planned.held

pub tell_own-requires : goal.tell_own-requires
tell_own-requires g c k d l =
    (each_asked (AskFits g.N.Plan.script) c.as_slice-2.result.now c.args.plan.now.asks c.as_slice-2.ensures c.requires.planned.asks_named k d l).class

pub note-requires-clause-ready : goal.note-requires-clause-ready
note-requires-clause-ready g c =
    all_ready g.N.Plan.script c.args.locked.now c.args.stand.now c.args.job.now c.args.plan.now c.requires.planned c.there.ensures c.requires.script.1
    c.requires.stand c.requires.job c.draw_plan-number.result c.touched_numbers-numbers.result (pass_view c.args.pass.now) c.draw_plan-number.ensures.made.from
    (c.touched_numbers-numbers.ensures.numbers ∙ (λ i. map (lane_number (c.requires.script.0 i)) c.args.plan.now.lanes))
    c.requires.known c.requires.roomy

pub returns-clause-done : goal.returns-clause-done
returns-clause-done g c =
    let h = c.args.locked.now in
    let n = c.draw_plan-number.result in
    let told = rw c.cpu.ensures at c.told-value.ensures in
    let own = rw c.cpu-2.ensures at c.tell_own.ensures in
    record {
      told = record { value = c.tell_own.new.values };
      done = is_done g.N.Plan.script c.args.locked.now c.args.stand.now c.args.job.now c.args.plan.now c.draw_plan-number.result
          c.touched_numbers-numbers.result c.told-value.result c.tell_own.new.values (pass_view c.args.pass.now) (pass_view c.draw_plan-number.new.pass)
          (pass_view c.note.new.pass) c.there.ensures c.requires.known c.requires.planned
          (c.touched_numbers-numbers.ensures.numbers ∙ (λ i. map (lane_number (c.requires.script.0 i)) c.args.plan.now.lanes))
          (omega (arith, c.draw_plan-number.ensures.step.below)) c.draw_plan-number.ensures.made c.note.ensures.learns c.note.ensures.left
          (told ∙ ap (λ (xs : List Lane). table 16 (λ k. told_over (told_in h) xs c.args.stand.now.cpu k)) c.as_slice.ensures)
          (own
          ∙ ap (λ (xs : List Ask). table 16 (λ k. if list_any (is_ask c.args.stand.now.cpu k) xs then n + 1 else value_at c.told-value.result k))
          c.as_slice-2.ensures);
      seen = c.raise_all.ensures.values;
      interrupts = c.raise_all.ensures.interrupts;
    }
