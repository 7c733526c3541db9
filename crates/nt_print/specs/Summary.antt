-- The summary of a history: six counts, a line each.
use Rattle.std.specs.Prelude.{ℕ, Bool, true, false, List, [], ◌∷◌, count_by, length, reverse, codes, decimal}
use Rattle.nt_text.specs.Lines.{Row, rows_text}
use Rattle.nt_event.specs.declared.events.Event.{Event}
use Rattle.nt_event.specs.declared.events.History.{History}
use Rattle.nt_event.specs.declared.events.What.{What}
use Rattle.nt_script.specs.declared.walk.Input.{Input}
use Rattle.nt_print.specs.Report.{cut_rows, wait_rows}
use Rattle.nt_event.specs.Families.{in_begin, in_call}
use Rattle.nt_event.specs.Replies.{is_refused}

-- ---- what is counted

abbrev pub is_call : What → Bool
is_call w = in_call (λ frame c reply. true) false w

abbrev pub is_refused_call : What → Bool
is_refused_call w = in_call (λ frame c reply. is_refused reply) false w

abbrev pub is_begin : What → Bool
is_begin w = in_begin (λ begun from. true) false w

-- how many events did such a thing
abbrev pub how_many : (What → Bool) → List Event → ℕ
how_many test events = count_by (λ e. test e.what) events

-- how many `cut` lines the report has
abbrev pub cut_lines : Input → History → ℕ
cut_lines input h = length (cut_rows h 0 input.script.cpus)

-- how many `waits` lines the report has
abbrev pub wait_lines : Input → History → ℕ
wait_lines input h = length (wait_rows input.names (reverse h.events))

-- ---- its lines

abbrev pub count_row : List ℕ → ℕ → Row
count_row word n = word ∷ decimal n ∷ []

abbrev pub summary_rows : Input → History → List Row
summary_rows input h =
    count_row (codes "events") (length h.events) ∷ count_row (codes "calls") (how_many is_call h.events)
    ∷ count_row (codes "refused") (how_many is_refused_call h.events)
    ∷ count_row (codes "begins") (how_many is_begin h.events) ∷ count_row (codes "cut") (cut_lines input h)
    ∷ count_row (codes "waits") (wait_lines input h) ∷ []

-- the summary of a history
abbrev pub summary_text : Input → History → List ℕ
summary_text input h = rows_text (summary_rows input h)
