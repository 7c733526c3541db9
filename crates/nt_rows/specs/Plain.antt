-- The script that the worked rows change: a row says only the fields that it sets.
use Rattle.std.specs.Prelude.{None, []}
use Rattle.nt_event.specs.declared.scripts.Script.{Script}

-- one processor, and nothing declared
abbrev pub plain : Script
plain =
    record {
      cpus = 1;
      depth = None;
      threaded = None;
      isrs = [];
      dpcs = [];
      timers = [];
      threads = [];
      apcs = [];
      routines = [];
      locks = 0;
    }
