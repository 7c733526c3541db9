-- What a walk tells of runs. The laws stand in src/laws.rt.
use Rattle.std.specs.List.{Contains}
use Rattle.std.specs.Prelude.{Bool, List, None, Option, Some, [], false, nat_lt, true, ℕ, ◌∷◌, ◌≡◌}
use Rattle.nt_event.specs.declared.commands.Command.{Command}
use Rattle.nt_event.specs.declared.commands.Reply.{Reply}
use Rattle.nt_event.specs.declared.commands.Reply.TheVariants.{Blocked, Done, No, Refused, Spin, Status, Yes}
use Rattle.nt_event.specs.declared.events.Event.{Event}
use Rattle.nt_event.specs.declared.events.What.{What}
use Rattle.nt_event.specs.declared.events.What.TheVariants.{Call}
use Rattle.nt_event.specs.declared.numbers.CpuNo.{CpuNo}
use Rattle.nt_event.specs.declared.scripts.Script.{Script}
use Rattle.nt_event.specs.Families.{in_call}
use Rattle.nt_event.specs.Frame.{Frame}
use Rattle.nt_event.specs.Frames.{frames_of, innermost}
use Rattle.nt_event.specs.Jobs.{spins_still}
use Rattle.nt_event.specs.Own.{own_of}
use Rattle.nt_event.specs.Replies.{is_refused}
use Rattle.nt_event.specs.Robin.{is_settled}
use Rattle.nt_event.specs.Routines.{next_command}
use Rattle.nt_event.specs.Script.{fits}
use Rattle.nt_event.specs.Step.{IsRun, is_cut}
use Rattle.nt_verify.specs.declared.expected.Expected.{Expected}
use Rattle.nt_verify.specs.Findings.{findings, is_ordered}
use Rattle.nt_verify.specs.Sites.{site_of, sites}
use Rattle.nt_verify.specs.Walks.{expected_at}

-- what is expected of a call that replies so at this level
abbrev pub told : Reply → ℕ → Option Expected
told (Refused r) level = Some (record { refusal = r; level = level })
told Done level = None
told Yes level = None
told No level = None
told (Status status) level = None
told Blocked level = None
told Spin level = None

-- the call by the frame of this name is made by the innermost frame, is its next command, at a site of the script, and
-- is refused exactly as it is expected to be: by that refusal, at that level
pub record IsExpected (s : Script) (p : CpuNo) (n : ℕ) (c : Command) (y : Reply) (past : List Event) : Type 0 where
  pub frame : Frame
  pub inner : innermost (frames_of s p past) ≡ Some frame
  pub name : n ≡ frame.name
  pub command : next_command s p frame ≡ Some c
  pub declared : Contains (sites s) (site_of p frame)
  pub expected : expected_at s (site_of p frame) frame.place ≡ told y frame.level

-- in a run each call is refused exactly as expected
abbrev pub CallsAreExpected : Type 0
CallsAreExpected = (s : Script) (limit : ℕ) (e : Event) (past : List Event) (n : ℕ) (c : Command) (y : Reply) →
    IsRun s limit (e ∷ past) → e.what ≡ Call n c y → IsExpected s e.cpu n c y past

-- the event is a call of a command that is refused
abbrev pub refuses : What → Bool
refuses w = in_call (λ f c y. is_refused y) false w

-- where nothing is found in a script, no run of it has a refused command
abbrev pub CleanScriptsRefuseNothing : Type 0
CleanScriptsRefuseNothing = (s : Script) (limit : ℕ) (e : Event) (past : List Event) → findings s ≡ [] →
    IsRun s limit past → Contains past e → refuses e.what ≡ false

-- where locks are acquired in rising order, no processor spins in a settled run in which none is cut
abbrev pub OrderedScriptsSpinNowhere : Type 0
OrderedScriptsSpinNowhere = (s : Script) (limit : ℕ) (p : CpuNo) (past : List Event) → fits s ≡ true →
    is_ordered s ≡ true → IsRun s limit past → is_settled s limit past ≡ true →
    ((q : CpuNo) → nat_lt q.0 s.cpus ≡ true → is_cut limit (own_of s q past) ≡ false) →
    nat_lt p.0 s.cpus ≡ true → spins_still (own_of s p past) ≡ false
