-- What holds of the threads of a script at any time.
use Rattle.std.specs.Prelude.{Bool, IsTrue, List, false, get_or, length, ◌≡◌}
use Rattle.std.specs.List.{All}
use Rattle.nt_event.specs.declared.inserts.Pick.{Pick}
use Rattle.nt_event.specs.declared.numbers.ApcNo.{ApcNo}
use Rattle.nt_event.specs.declared.numbers.ThreadNo.{ThreadNo}
use Rattle.nt_event.specs.declared.scripts.Script.{Script}
use Rattle.nt_event.specs.Apcs.{ApcQueues, is_inserted}
use Rattle.nt_event.specs.Routines.{kind_of, owner_of}
use Rattle.nt_event.specs.Script.{fits, has_apc}
use Rattle.nt_states.specs.ThreadLanes.{ThreadLanes, facts_in}

-- a pending insert of a thread is of an APC object of the script, and of its kind and its thread
pub record IsOurs (s : Script) (t : ThreadNo) (x : Pick) : Type 0 where
  pub apc : IsTrue (has_apc s x.apc)
  pub kind : x.kind ≡ kind_of s x.apc
  pub owner : owner_of s x.apc ≡ t

abbrev pub AreOurs : Script → ThreadNo → ApcQueues → Type 0
AreOurs s t q = All (IsOurs s t) q.pending

pub record IsSound (x : ThreadLanes) : Type 0 where
  pub script : IsTrue (fits x.script)
  pub threads : length x.facts ≡ length x.script.threads
  pub picks : (t : ThreadNo) → AreOurs x.script t (facts_in x t).apcs

-- the marks of the APC objects: whether each is inserted
pub record AreMarked (marks : List Bool) (x : ThreadLanes) : Type 0 where
  pub count : length marks ≡ length x.script.apcs
  pub each : (a : ApcNo) → IsTrue (has_apc x.script a) → get_or marks a.0 false
      ≡ is_inserted a (facts_in x (owner_of x.script a)).apcs
