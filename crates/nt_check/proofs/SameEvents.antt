-- Events that are found equal are the same.
use Rattle.std.proofs.Common.{ap, subst, sym, ◌∙◌}
use Rattle.std.proofs.lemmas.Bool.Decides.{Decides-eqb}
use Rattle.std.proofs.lemmas.Bool.{eqb-true}
use Rattle.std.proofs.lemmas.Slice.Eq.{slice_eq-Decides}
use Rattle.std.specs.Prelude.{Bool, IsTrue, List, refl, true, ℕ, ◌↔◌, ◌≡◌}
use Rattle.nt_event.specs.declared.events.Event.{Event}
use Rattle.nt_event.specs.Numbers.{apc, cpu, dpc, thread, timer}
use Rattle.nt_event.proofs.Options.{both}
use denote.Enum.Bare.{same_true}
use Rattle.nt_event.specs.contracts.commands.Command as command
use Rattle.nt_event.specs.contracts.commands.CommandPartialEq.TheImpl as command_eq
use Rattle.nt_event.specs.contracts.commands.Importance as importance
use Rattle.nt_event.specs.contracts.commands.ImportancePartialEq.TheImpl as importance_eq
use Rattle.nt_event.specs.contracts.commands.Mode as mode
use Rattle.nt_event.specs.contracts.commands.ModePartialEq.TheImpl as mode_eq
use Rattle.nt_event.specs.contracts.commands.Refusal as refusal
use Rattle.nt_event.specs.contracts.commands.RefusalPartialEq.TheImpl as refusal_eq
use Rattle.nt_event.specs.contracts.commands.Reply as reply
use Rattle.nt_event.specs.contracts.commands.ReplyPartialEq.TheImpl as reply_eq
use Rattle.nt_event.specs.contracts.commands.TimerKey as key
use Rattle.nt_event.specs.contracts.commands.TimerKeyPartialEq.TheImpl as key_eq
use Rattle.nt_event.specs.contracts.events.Begun as begun
use Rattle.nt_event.specs.contracts.events.BegunPartialEq.TheImpl as begun_eq
use Rattle.nt_event.specs.contracts.events.EventEq.TheImpl.Laws.{laws-law}
use Rattle.nt_event.specs.contracts.events.EventPartialEq.TheImpl as event_eq
use Rattle.nt_event.specs.contracts.events.RisesPartialEq.TheImpl as rises_eq
use Rattle.nt_event.specs.contracts.events.What as what
use Rattle.nt_event.specs.contracts.events.WhatPartialEq.TheImpl as what_eq
use Rattle.nt_event.specs.contracts.numbers.ApcNoPartialEq.TheImpl as apc_eq
use Rattle.nt_event.specs.contracts.numbers.CpuNoPartialEq.TheImpl as cpu_eq
use Rattle.nt_event.specs.contracts.numbers.DpcNoPartialEq.TheImpl as dpc_eq
use Rattle.nt_event.specs.contracts.numbers.ThreadNoPartialEq.TheImpl as thread_eq
use Rattle.nt_event.specs.contracts.numbers.TimerNoPartialEq.TheImpl as timer_eq
use Rattle.nt_history.proofs.Same.{Same, bool_same, enum_same, nat_same, none_same, one_same, option_same, three_same, two_same}
use Rattle.nt_history.proofs.SameParts.{apc_same, begun_same, command_same, cpu_same, dpc_same, key_same, lock_same, reply_same, thread_same}

-- looks whose values test equal are the same
rises_same : Same rises_eq.ghosts.eq
rises_same x y h =
    ap (λ (v : List ℕ). record { value = v }) ((slice_eq-Decides Decides-eqb x.value y.value _ refl).0 h)

-- what two events did is the same if it tests equal
what_same : Same what_eq.ghosts.eq
what_same = enum_same what.enum _ (
  three_same nat_same command_same reply_same,
  (
    one_same rises_same,
    (
      two_same begun_same nat_same,
      (
        one_same nat_same,
        (
          one_same nat_same,
          (
            two_same key_same nat_same,
            (
              two_same dpc_same reply_same,
              (
                one_same nat_same,
                (
                  two_same thread_same (option_same nat_same),
                  (
                    two_same nat_same reply_same,
                    (two_same apc_same nat_same, (one_same thread_same, (two_same nat_same lock_same, (none_same, tt)))),
                  ),
                ),
              ),
            ),
          ),
        ),
      ),
    ),
  ),
)

-- the equality test of events is true only of events that are the same
pub event_same : Same event_eq.ghosts.eq
event_same x y h =
    let a = both _ _ h in
    let b = both _ _ a.1 in
    let c = both _ _ b.1 in
    let cpus = cpu_same x.cpu y.cpu a.0 in
    let threads = option_same thread_same x.thread y.thread b.0 in
    let levels = nat_same x.level y.level c.0 in
    let whats = what_same x.what y.what c.1 in
    λ i. record { cpu = cpus i; thread = threads i; level = levels i; what = whats i }

-- an event tests equal to itself
event_self : (e : Event) → event_eq.ghosts.eq e e ≡ true
event_self e = laws-law.refl e

-- the test of two events is true exactly if they are the same event
pub event_test : (x y : Event) (b : Bool) → b ≡ event_eq.ghosts.eq x y → IsTrue b ↔ (x ≡ y)
event_test x y b h = (λ t. event_same x y (sym h ∙ t), λ k. h ∙ subst (λ (z : Event). event_eq.ghosts.eq x z ≡ true) k (event_self x))
