-- What is put together is the load of a seed, and it has a text.
use Rattle.std.proofs.Common.{List, None, ap, lit≤, refl, suc, sym, [], ℕ, ◌++◌, ◌∙◌, ◌∷◌, ◌≡◌}
use Rattle.nt_event.proofs.Tables.{length-table_from}
use Rattle.nt_event.specs.Lists.{table}
use Rattle.nt_event.specs.declared.scripts.ApcDecl.{ApcDecl}
use Rattle.nt_event.specs.declared.scripts.DpcDecl.{DpcDecl}
use Rattle.nt_event.specs.declared.scripts.Isr.{Isr}
use Rattle.nt_event.specs.declared.scripts.Routine.{Routine}
use Rattle.nt_event.specs.declared.scripts.Script.{Script}
use Rattle.nt_event.specs.declared.scripts.ThreadDecl.{ThreadDecl}
use Rattle.nt_event.specs.declared.scripts.TimerDecl.{TimerDecl}
use Rattle.nt_line.specs.NameLists.{NameLists}
use Rattle.nt_load.proofs.Differing.{load_names_differ}
use Rattle.nt_load.proofs.Fitting.{both_lengths, has_load, load_fits, load_ranges}
use Rattle.nt_load.specs.Load.{all_apcs, busy_routine, busy_thread, idle_dpc, idle_isr, idle_routine, load_input, load_names, load_script, object_names}
use Rattle.nt_load.specs.Load.{spelled, spelled_names, thing_names, timer_of_dpc}
use Rattle.nt_script.specs.Sound.{IsSound}
use Rattle.nt_script.specs.declared.walk.Input.{Input}

-- a script of four processors with these parts
abbrev pub with_parts : List Isr → List DpcDecl → List TimerDecl → List ThreadDecl → List ApcDecl → List Routine → Script
with_parts isrs dpcs timers threads apcs routines = record {
  cpus = 4;
  depth = None;
  threaded = None;
  isrs = isrs;
  dpcs = dpcs;
  timers = timers;
  threads = threads;
  apcs = apcs;
  routines = routines;
  locks = 0;
}

-- tables of the parts of the load, with the routines of a seed, make the script of the load of that seed
pub made_script : (seed : ℕ) (isrs : List Isr) (dpcs : List DpcDecl) (timers : List TimerDecl) (threads : List ThreadDecl) (apcs : List ApcDecl)
    (routines : List Routine) → isrs ≡ table 4 idle_isr → dpcs ≡ table 32 idle_dpc → timers ≡ table 8 timer_of_dpc → threads ≡ table 32 busy_thread →
    apcs ≡ all_apcs → routines ≡ idle_routine ∷ table 32 (busy_routine seed) → with_parts isrs dpcs timers threads apcs routines ≡ load_script seed
made_script seed isrs dpcs timers threads apcs routines i d t h a r = rw (i, d, t, h, a, r) refl

-- an input of a script and names
abbrev pub input_of : Script → NameLists → Input
input_of script names = record { version = 1; script = script; names = names }

-- the script of the load of a seed and the names of the load make the load of that seed
pub made_load : (seed : ℕ) (script : Script) (names : NameLists) → script ≡ load_script seed → names ≡ load_names → input_of script names ≡ load_input seed
unfolding load_input
made_load seed script names s n = rw (s, n) refl

-- the load of each seed is a sound input
pub load_is_sound : (seed : ℕ) → IsSound (load_input seed)
unfolding load_input load_names object_names thing_names
load_is_sound seed =
    let h = has_load seed in
    record {
      version = (lit≤ tt, lit≤ tt);
      fits = load_fits seed;
      cpus = lit≤ tt;
      no_locks = λ one. refl;
      ranges = load_ranges seed;
      dpcs = length-table_from 0 32 (spelled (100 ∷ [])) ∙ sym h.dpcs;
      timers = length-table_from 0 8 (spelled (107 ∷ [])) ∙ sym h.timers;
      threads = length-table_from 0 32 (spelled (116 ∷ [])) ∙ sym h.threads;
      apcs = both_lengths (spelled_names (115 ∷ []) 32 ++ spelled_names (110 ∷ []) 32) (spelled_names (117 ∷ []) 32) 64 32
          (both_lengths (spelled_names (115 ∷ []) 32) (spelled_names (110 ∷ []) 32) 32 32
          (length-table_from 0 32 (spelled (115 ∷ []))) (length-table_from 0 32 (spelled (110 ∷ []))))
          (length-table_from 0 32 (spelled (117 ∷ []))) ∙ sym h.apcs;
      locks = refl;
      routines = ap suc (length-table_from 0 32 (spelled (98 ∷ []))) ∙ sym h.routines;
      names = load_names_differ;
    }
