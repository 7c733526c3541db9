-- The record that contracts see of the fields of a floor in memory.
use Rattle.nt_plain.specs.declared.plain.PlainFloor.TheInside.{Inside}
use Rattle.nt_plain.specs.Made.{IsKept}
use Rattle.nt_plain.specs.States.{PlainState}

abbrev pub state_in : Inside → PlainState
state_in a =
    record {
      script = a.states.script;
      limit = a.limit;
      next = a.next;
      asked = a.asked;
      marks = a.marks;
      lanes = a.states.lanes;
      told = a.told;
    }

abbrev pub IsKeptInside : Inside → Type 0
IsKeptInside a = IsKept (state_in a)
