-- What bears on the expiry of a timer after the first events of a run.
use Rattle.std.specs.Prelude.{◌≡◌}
use Rattle.nt_event.specs.declared.events.Turn.TheVariants.{Next as NextTurn}
use Rattle.nt_event.specs.declared.numbers.CpuNo.{CpuNo}
use Rattle.nt_event.specs.Frames.{time}
use Rattle.nt_event.specs.Own.{own_of}
use Rattle.nt_event.specs.Step.{is_cut, step}
use Rattle.nt_why.specs.declared.question.Course.{Course}
use Rattle.nt_why.specs.declared.times.Place.{Place}
use Rattle.nt_why.specs.declared.times.Times.{Times}
use Rattle.nt_why.specs.Courses.{past_on}
use Rattle.nt_why.specs.Lined.{IsWhat}
use Rattle.nt_why.specs.Says.{IsStood}
use Rattle.nt_why.specs.Timers.{first_key, first_sweeping, owes}

-- the time, what is due first, and who owes a sweep are so then
pub record AreTimes (c : Course) (x : Times) : Type 0 where
  pub now : time (past_on c) ≡ x.time
  pub due : first_key c.script.now (past_on c) ≡ x.first
  pub sweep : first_sweeping c.script.now (past_on c) ≡ x.sweeping

-- the processor stands so then, and this comes next on it
pub record IsPlace (c : Course) (p : CpuNo) (x : Place) : Type 0 where
  pub is : x.stood.cpu ≡ p
  pub stands : IsStood c.script.now (past_on c) x.stood
  pub sweeps : owes c.script.now (past_on c) p ≡ x.owes
  pub ends : is_cut c.turns (own_of c.script.now p (past_on c)) ≡ x.cut
  pub comes : IsWhat (step c.script.now c.turns (NextTurn p) (past_on c)) x.next
