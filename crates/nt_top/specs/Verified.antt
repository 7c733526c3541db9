-- The lines of `verify`: what is found in a script, and whether it acquires its locks in rising order.
use Rattle.std.specs.List.{flat_map}
use Rattle.std.specs.Prelude.{Bool, List, [], codes, decimal, false, length, true, ℕ, ◌++◌, ◌<◌, ◌∷◌}
use Rattle.nt_event.specs.Numbered.{refusal_name, refusal_number}
use Rattle.nt_line.specs.NameLists.{NameLists, show_apc, show_dpc, show_thread}
use Rattle.nt_script.specs.declared.walk.Input.{Input}
use Rattle.nt_verify.specs.declared.finding.Finding.{Finding}
use Rattle.nt_verify.specs.declared.site.Site.{Site}
use Rattle.nt_verify.specs.declared.site.Site.TheVariants as at
use Rattle.nt_verify.specs.Findings.{findings, is_ordered}

-- a site's object has a name
abbrev pub IsNamed : NameLists → Site → Type 0
IsNamed names (at.Isr p level) = Unit {0}
IsNamed names (at.Dpc d) = d.0 < length names.dpcs
IsNamed names (at.Threaded d) = d.0 < length names.dpcs
IsNamed names (at.Kernel a) = a.0 < length names.apcs
IsNamed names (at.Normal a) = a.0 < length names.apcs
IsNamed names (at.Rundown a) = a.0 < length names.apcs
IsNamed names (at.Base t) = t.0 < length names.threads

-- the use of a routine: what it is for, with a processor and a level or the name of its object
abbrev pub site_text : NameLists → Site → List ℕ
site_text names (at.Isr p level) = codes "isr " ++ (decimal p.0 ++ 32 ∷ decimal level)
site_text names (at.Dpc d) = codes "dpc " ++ show_dpc names d
site_text names (at.Threaded d) = codes "threaded " ++ show_dpc names d
site_text names (at.Kernel a) = codes "kernel " ++ show_apc names a
site_text names (at.Normal a) = codes "normal " ++ show_apc names a
site_text names (at.Rundown a) = codes "rundown " ++ show_apc names a
site_text names (at.Base t) = codes "base " ++ show_thread names t

-- a command that is refused: its site, its place in the routine, the level there, and the refusal
abbrev pub finding_line : NameLists → Finding → List ℕ
finding_line names f = site_text names f.site ++ 32 ∷ (decimal f.place ++ (codes " level " ++ (decimal f.level
    ++ (codes ": " ++ (decimal (refusal_number f.refusal) ++ 32 ∷ (refusal_name f.refusal ++ 10 ∷ []))))))

abbrev pub clean_line : List Finding → List ℕ
clean_line [] = codes "clean\n"
clean_line (f ∷ fs) = []

-- a line for each finding, or one that there is none
abbrev pub found_text : NameLists → List Finding → List ℕ
found_text names fs = clean_line fs ++ flat_map (finding_line names) fs

abbrev pub order_line : Bool → List ℕ
order_line true = codes "locks ordered\n"
order_line false = codes "locks unordered\n"

-- what `verify` writes of a script
abbrev pub verify_text : Input → List ℕ
verify_text input = found_text input.names (findings input.script) ++ order_line (is_ordered input.script)
