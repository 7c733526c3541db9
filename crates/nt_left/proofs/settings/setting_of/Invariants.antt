use Rattle.std.proofs.Common.{◌≡◌, ◌*◌, ◌≤◌, ◌^◌}
use Rattle.nt_event.specs.Frames.{time}
use Rattle.nt_event.specs.Timers.{timer_setting}
use Rattle.nt_left.specs.Walks.{lent, past_at}
use Rattle.nt_left.proofs.settings.setting_of.Given as goal

abbrev pub invariant-loop-number : goal.invariant-loop-number
invariant-loop-number l = record {
  time : l.now ≡ time (past_at l.number (lent l.events));
  bound : l.now ≤ l.number * 2 ^ 32;
  setting : l.setting ≡ timer_setting l.timer (past_at l.number (lent l.events));
}
