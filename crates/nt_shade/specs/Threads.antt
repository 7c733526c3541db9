-- What a shade says of a thread, in the words of the machine's definitions. The numbers of its wait and of its APCs'
-- inserts are 0.
use Rattle.std.specs.Prelude.{map, reverse}
use Rattle.nt_event.specs.declared.inserts.Pick.{Pick}
use Rattle.nt_event.specs.Apcs.{ApcQueues}
use Rattle.nt_event.specs.Threads.{ThreadFacts}
use Rattle.nt_shade.specs.declared.threads.ShadePick.{ShadePick}
use Rattle.nt_shade.specs.declared.threads.ShadeThread.{ShadeThread}

abbrev pub pick_said : ShadePick → Pick
pick_said x = record { apc = x.apc; kind = x.kind; number = 0 }

-- a shade has the newest insert last, the definitions have it first
abbrev pub apcs_said : ShadeThread → ApcQueues
apcs_said x = record { pending = map pick_said (reverse x.apcs.items); closed = x.closed }

abbrev pub thread_said : ShadeThread → ThreadFacts
thread_said x =
    record {
      doing = x.doing;
      alerted_kernel = x.alerted_kernel;
      alerted_user = x.alerted_user;
      user_pending = x.user_pending;
      released = x.released;
      leaving = x.leaving;
      apcs = apcs_said x;
    }
