-- The commands of the load: which one is drawn, how many draws it takes, and where each begins.
use Rattle.std.specs.Prelude.{List, Some, [], get_or, suc, zero, ℕ, ◌+◌, ◌∷◌}
use Rattle.nt_event.specs.Lists.{table}
use Rattle.nt_event.specs.Numbers.{apc, cpu, dpc, timer}
use Rattle.nt_event.specs.declared.commands.Command.TheVariants as cmd
use Rattle.nt_event.specs.declared.commands.Command.{Command}
use Rattle.nt_event.specs.declared.commands.Importance.TheVariants.{High, Low, Medium, MediumHigh}
use Rattle.nt_event.specs.declared.commands.Importance.{Importance}
use Rattle.nt_load.specs.Draws.{after, draw}
use Rattle.nt_load.specs.declared.commands.Row.TheVariants as row
use Rattle.nt_load.specs.declared.commands.Row.{Row}

-- the rows that a value below sixteen chooses
unfoldable pub rows : List Row
rows =
    row.Raise ∷ row.Lower ∷ row.Queue ∷ row.Queue ∷ row.Unqueue ∷ row.SetImportance ∷ row.SetTarget ∷ row.SetTimer ∷
    row.Clock ∷ row.InsertSpecial ∷ row.InsertNormal ∷ row.InsertUser ∷ row.EnterCrit ∷ row.LeaveCrit ∷ row.Interrupt ∷
    row.ToUser ∷ []

-- the importances that a value below four chooses
unfoldable pub importances : List Importance
importances = Low ∷ Medium ∷ MediumHigh ∷ High ∷ []

abbrev pub importance : ℕ → Importance
importance n = get_or importances n High

-- the row that is drawn from a number
abbrev pub row_at : ℕ → Row
row_at x = get_or rows (draw 0 16 x) row.ToUser

-- the command of a row, drawn from a number: draw 0 chose the row, its fields from left to right are draws 1 and 2
abbrev pub command_of : Row → ℕ → Command
command_of row.Raise x = cmd.Raise 2
command_of row.Lower x = cmd.Lower 0
command_of row.Queue x = cmd.Queue (dpc (draw 1 32 x))
command_of row.Unqueue x = cmd.Unqueue (dpc (draw 1 32 x))
command_of row.SetImportance x = cmd.SetImportance (dpc (draw 1 32 x)) (importance (draw 2 4 x))
command_of row.SetTarget x = cmd.SetTarget (dpc (draw 1 32 x)) (Some (cpu (draw 2 4 x)))
command_of row.SetTimer x = cmd.SetTimer (timer (draw 1 8 x)) (draw 2 16 x) 0
command_of row.Clock x = cmd.Clock 1
command_of row.InsertSpecial x = cmd.InsertApc (apc (draw 1 32 x))
command_of row.InsertNormal x = cmd.InsertApc (apc (32 + draw 1 32 x))
command_of row.InsertUser x = cmd.InsertApc (apc (64 + draw 1 32 x))
command_of row.EnterCrit x = cmd.EnterCrit
command_of row.LeaveCrit x = cmd.LeaveCrit
command_of row.Interrupt x = cmd.Interrupt (cpu (draw 1 4 x)) 5
command_of row.ToUser x = cmd.ToUser

-- how many fields of a row are drawn
abbrev pub field_count : Row → ℕ
field_count row.Raise = 0
field_count row.Lower = 0
field_count row.Queue = 1
field_count row.Unqueue = 1
field_count row.SetImportance = 2
field_count row.SetTarget = 2
field_count row.SetTimer = 2
field_count row.Clock = 0
field_count row.InsertSpecial = 1
field_count row.InsertNormal = 1
field_count row.InsertUser = 1
field_count row.EnterCrit = 0
field_count row.LeaveCrit = 0
field_count row.Interrupt = 1
field_count row.ToUser = 0

-- how many draws the command takes that is drawn from a number: its row and its fields
abbrev pub draw_count : ℕ → ℕ
draw_count x = 1 + field_count (row_at x)

-- how many draws the first n commands take that are drawn from a number
unfoldable pub draws_before : ℕ → ℕ → ℕ
draws_before zero x = 0
draws_before (suc n) x = draws_before n x + draw_count (after (draws_before n x) x)

-- the number at which the command with number n begins, counted from 0
abbrev pub begin : ℕ → ℕ → ℕ
begin n x = after (draws_before n x) x

-- the command with number n
abbrev pub command_at : ℕ → ℕ → Command
command_at n x = command_of (row_at (begin n x)) (begin n x)

-- the first n commands that are drawn from a number
abbrev pub commands : ℕ → ℕ → List Command
commands n x = table n (λ i. command_at i x)
