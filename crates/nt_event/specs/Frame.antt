-- A frame: a routine that has begun and has not ended.
use Rattle.std.specs.Prelude.{Bool, List, Option, ℕ}
use Rattle.nt_event.specs.declared.frames.Again.{Again}
use Rattle.nt_event.specs.declared.frames.Body.{Body}
use Rattle.nt_event.specs.declared.frames.Held.{Held}

pub record Frame : Type 0 where
  -- the number of the event that began it
  pub name : ℕ
  pub body : Body
  pub level : ℕ
  -- how many commands its present routine has called
  pub place : ℕ
  -- how often its present routine has entered a critical region and not left it, and a guarded one
  pub crit : ℕ
  pub guard : ℕ
  -- it is an APC in its kernel routine
  pub kernel_phase : Bool
  -- it is the base of a thread whose base routine has ended
  pub leaving : Bool
  -- the wait that a kernel APC interrupts or may interrupt: the thread is blocked in it, or has it to take up again
  pub again : Option Again
  -- the lock on which it spins
  pub spin : Option Held
  -- the locks that it holds, the one acquired last first
  pub held : List Held
