-- What a load's parts answer.
use Rattle.std.proofs.Common.{◌≡◌, ◌∙◌, ◌≤◌, ℕ, List, ap, subst, sym}
use Rattle.std.specs.Prelude.{IsTrue}
use Rattle.nt_event.specs.declared.events.History.{History}
use Rattle.nt_event.specs.declared.scripts.Script.{Script}
use Rattle.nt_event.specs.Script.{fits}
use Rattle.nt_line.specs.NameLists.{NameLists}
use Rattle.nt_load.specs.Load.{load_input, load_names, load_script}
use Rattle.nt_print.specs.Summary.{summary_text}
use Rattle.nt_script.specs.Sound.{IsSound}
use Rattle.nt_script.specs.declared.walk.Input.{Input}
use Rattle.nt_top.specs.Runs.{IsRobinRun}
use Rattle.nt_top.specs.Outcome.{IsSummary}

-- the script of a seed's load fits, if the load's input is sound
pub drawn_fits : (seed : ℕ) (script : Script) → script ≡ load_script seed → IsSound (load_input seed) → IsTrue (fits script)
unfolding load_input
drawn_fits seed script e sound = subst (λ (s : Script). IsTrue (fits s)) (sym e) sound.fits

-- the script of a seed's load has at most 8 processors, if the load's input is sound
pub drawn_cpus : (seed : ℕ) (script : Script) → script ≡ load_script seed → IsSound (load_input seed) → script.cpus ≤ 8
unfolding load_input
drawn_cpus seed script e sound = subst (λ (s : Script). s.cpus ≤ 8) (sym e) sound.cpus

-- a script with a version and names
abbrev pub input_of : Script → ℕ → NameLists → Input
input_of script version names = record { version = version; script = script; names = names }

-- the summary of the robin run of a seed's load is a summary of the seed with this limit
pub summed_up : (seed limit : ℕ) (script : Script) (h : History) (text : List ℕ) → script ≡ load_script seed → IsRobinRun script limit h →
    ((version : ℕ) (names : NameLists) → text ≡ summary_text (input_of script version names) h) → IsSummary seed limit text
unfolding load_input
summed_up seed limit script h text e r is = record {
  history = h;
  run = subst (λ (s : Script). IsRobinRun s limit h) e r;
  is = is 1 load_names ∙ ap (λ (s : Script). summary_text (input_of s 1 load_names) h) e;
}
