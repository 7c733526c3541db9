-- The lines of processors, one after the other.
use Rattle.std.proofs.Common.{◌≡◌, ◌∙◌, ℕ, suc, ◌+◌, ◌-◌, ◌<◌, List, ◌++◌, length, arith, ap}
use Rattle.std.proofs.lemmas.List.{length-append}
use Rattle.nt_text.specs.Lines.{Row}
use Rattle.nt_event.specs.declared.events.History.{History}
use Rattle.nt_print.specs.Report.{cut_of, cut_rows}

-- the lines of the processors from p on are that of p and those of the processors from p + 1 on
pub cuts_go_on : (h : History) (p cpus : ℕ) → p < cpus → cut_rows h p (cpus - p) ≡ cut_of h p ++ cut_rows h (p + 1) (cpus - (p + 1))
cuts_go_on h p cpus lt =
    let more : cpus - p ≡ suc (cpus - (p + 1)) = omega arith in ap (λ (n : ℕ). cut_rows h p n) more

-- one more processor is counted
pub cuts_counted : (h : History) (p cpus n k total : ℕ) → p < cpus → n + length (cut_rows h p (cpus - p)) ≡ total → k ≡ length (cut_of h p) →
    (n + k) + length (cut_rows h (p + 1) (cpus - (p + 1))) ≡ total
cuts_counted h p cpus n k total lt before line =
    let whole : length (cut_rows h p (cpus - p)) ≡ length (cut_of h p) + length (cut_rows h (p + 1) (cpus - (p + 1))) =
    ap (λ (rows : List Row). length rows) (cuts_go_on h p cpus lt) ∙ length-append (cut_of h p) (cut_rows h (p + 1) (cpus - (p + 1))) in
    omega (arith, whole, before, line)
