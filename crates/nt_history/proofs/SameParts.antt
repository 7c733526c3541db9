-- Numbers, commands and replies that are found equal are the same.
use Rattle.std.proofs.Common.{ap}
use Rattle.std.proofs.lemmas.Bool.{eqb-true}
use Rattle.std.specs.Prelude.{refl}
use Rattle.nt_event.specs.Numbers.{apc, cpu, dpc, lock, thread, timer}
use denote.Enum.Bare.{same_true}
use Rattle.nt_event.specs.contracts.commands.Command as command
use Rattle.nt_event.specs.contracts.commands.CommandPartialEq.TheImpl as command_eq
use Rattle.nt_event.specs.contracts.commands.Importance as importance
use Rattle.nt_event.specs.contracts.commands.ImportancePartialEq.TheImpl as importance_eq
use Rattle.nt_event.specs.contracts.commands.Mode as mode
use Rattle.nt_event.specs.contracts.commands.ModePartialEq.TheImpl as mode_eq
use Rattle.nt_event.specs.contracts.commands.Refusal as refusal
use Rattle.nt_event.specs.contracts.commands.RefusalPartialEq.TheImpl as refusal_eq
use Rattle.nt_event.specs.contracts.commands.Reply as reply
use Rattle.nt_event.specs.contracts.commands.ReplyPartialEq.TheImpl as reply_eq
use Rattle.nt_event.specs.contracts.commands.TimerKey as key
use Rattle.nt_event.specs.contracts.commands.TimerKeyPartialEq.TheImpl as key_eq
use Rattle.nt_event.specs.contracts.events.Begun as begun
use Rattle.nt_event.specs.contracts.events.BegunPartialEq.TheImpl as begun_eq
use Rattle.nt_event.specs.contracts.numbers.ApcNoPartialEq.TheImpl as apc_eq
use Rattle.nt_event.specs.contracts.numbers.CpuNoPartialEq.TheImpl as cpu_eq
use Rattle.nt_event.specs.contracts.numbers.DpcNoPartialEq.TheImpl as dpc_eq
use Rattle.nt_event.specs.contracts.numbers.LockNoPartialEq.TheImpl as lock_eq
use Rattle.nt_event.specs.contracts.numbers.ThreadNoPartialEq.TheImpl as thread_eq
use Rattle.nt_event.specs.contracts.numbers.TimerNoPartialEq.TheImpl as timer_eq
use Rattle.nt_history.proofs.Same.{Same, bool_same, enum_same, nat_same, none_same, one_same, option_same, three_same, two_same}

-- ---- numbers

-- processor numbers that are found equal are the same
pub cpu_same : Same cpu_eq.ghosts.eq
cpu_same x y h = ap cpu (eqb-true x.0 y.0 h)

-- thread numbers that are found equal are the same
pub thread_same : Same thread_eq.ghosts.eq
thread_same x y h = ap thread (eqb-true x.0 y.0 h)

-- DPC numbers that are found equal are the same
pub dpc_same : Same dpc_eq.ghosts.eq
dpc_same x y h = ap dpc (eqb-true x.0 y.0 h)

-- APC numbers that are found equal are the same
pub apc_same : Same apc_eq.ghosts.eq
apc_same x y h = ap apc (eqb-true x.0 y.0 h)

-- timer numbers that are found equal are the same
pub timer_same : Same timer_eq.ghosts.eq
timer_same x y h = ap timer (eqb-true x.0 y.0 h)

-- spin lock numbers that are found equal are the same
pub lock_same : Same lock_eq.ghosts.eq
lock_same x y h = ap lock (eqb-true x.0 y.0 h)

-- ---- commands and replies

-- modes that are found equal are the same
pub mode_same : Same mode_eq.ghosts.eq
mode_same = same_true mode.the_type tt

-- importances that are found equal are the same
pub importance_same : Same importance_eq.ghosts.eq
importance_same = same_true importance.the_type tt

-- refusals that are found equal are the same
pub refusal_same : Same refusal_eq.ghosts.eq
refusal_same = same_true refusal.the_type tt

-- Done, Yes, No, Status, Blocked, Spin, Refused
pub reply_same : Same reply_eq.ghosts.eq
reply_same =
    enum_same reply.enum _
    (none_same, (none_same, (none_same, (one_same nat_same, (none_same, (none_same, (one_same refusal_same, tt)))))))

-- timer keys that are found equal are the same
pub key_same : Same key_eq.ghosts.eq
key_same = enum_same key.enum _ (one_same timer_same, (one_same thread_same, tt))

-- commands that are found equal are the same
pub command_same : Same command_eq.ghosts.eq
command_same = enum_same command.enum _ (
  one_same nat_same,
  (
    one_same nat_same,
    (
      one_same dpc_same,
      (
        one_same dpc_same,
        (
          two_same dpc_same importance_same,
          (
            two_same dpc_same (option_same cpu_same),
            (
              three_same timer_same nat_same nat_same,
              (
                one_same timer_same,
                (
                  one_same apc_same,
                  (
                    one_same apc_same,
                    (
                      none_same,
                      (
                        none_same,
                        (
                          none_same,
                          (
                            none_same,
                            (
                              two_same mode_same (bool_same _ refl refl),
                              (
                                three_same mode_same (bool_same _ refl refl) nat_same,
                                (
                                  one_same thread_same,
                                  (
                                    two_same thread_same mode_same,
                                    (
                                      one_same mode_same,
                                      (
                                        two_same cpu_same nat_same,
                                        (one_same nat_same, (none_same, (none_same, (one_same lock_same, (one_same lock_same, (one_same nat_same, tt)))))),
                                      ),
                                    ),
                                  ),
                                ),
                              ),
                            ),
                          ),
                        ),
                      ),
                    ),
                  ),
                ),
              ),
            ),
          ),
        ),
      ),
    ),
  ),
)

-- values that tell which routine began are the same if they are found equal
pub begun_same : Same begun_eq.ghosts.eq
begun_same = enum_same begun.enum _ (one_same nat_same, (one_same dpc_same, (one_same dpc_same, (one_same apc_same, tt))))
