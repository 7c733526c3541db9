-- What contracts name of marks, passes and keepers.
use Rattle.std.specs.Prelude.{ℕ, List, map}
use Rattle.atomic_table.specs.Seated.{TableId}
use Rattle.nt_mark.specs.declared.view.View.{View}
use Rattle.nt_mark.specs.declared.view.Note.{Note}
use Rattle.nt_mark.specs.declared.seats.Pass.{Pass}
use Rattle.nt_mark.specs.declared.seats.Keeper.{Keeper}
use Rattle.nt_mark.specs.declared.marks.Marks.{Marks}
use Rattle.nt_mark.specs.Views.{first_notes}

-- the table, of which passes and keepers have to be
abbrev pub table_of : Marks → TableId
table_of m = m.table.shared.table_id

-- the processors
abbrev pub cpus_of : Marks → ℕ
cpus_of m = m.table.shared.key.cpus

-- the lanes
abbrev pub lanes_of : Marks → ℕ
lanes_of m = m.table.shared.key.lanes

-- the parts of all passes together
abbrev pub parts_of : Marks → ℕ
parts_of m = m.table.shared.key.parts

-- how many numbers may be drawn for each part
abbrev pub limit_of : Marks → ℕ
limit_of m = m.table.shared.key.limit

abbrev pub pass_table : Pass → TableId
pass_table p = p.seat.table_id

-- what a pass has and knows
abbrev pub pass_view : Pass → View
pass_view p = p.seat.me.0

abbrev pub keeper_table : Keeper → TableId
keeper_table k = k.seat.table_id

abbrev pub keeper_lane : Keeper → ℕ
keeper_lane k = k.lane

-- what a keeper has and knows
abbrev pub keeper_view : Keeper → View
keeper_view k = k.seat.me.0

-- the list of the keeper's lane
abbrev pub keeper_notes : Keeper → List Note
keeper_notes k = first_notes (keeper_view k).kept

abbrev pub pass_views : List Pass → List View
pass_views ps = map pass_view ps

abbrev pub keeper_views : List Keeper → List View
keeper_views ks = map keeper_view ks

abbrev pub keeper_lanes : List Keeper → List ℕ
keeper_lanes ks = map keeper_lane ks
