-- What closing shows of one list of all events.
use Rattle.std.specs.Prelude.{All, Contains, List, get_or, length, map, true, ℕ, ◌≡◌}
use Rattle.atomic_table.specs.Seated.{TableId}
use Rattle.nt_event.specs.declared.events.Event.{Event}
use Rattle.nt_event.specs.declared.scripts.Script.{Script}
use Rattle.nt_event.specs.Robin.{is_settled}
use Rattle.nt_event.specs.Step.{IsRun}
use Rattle.nt_cpu.specs.States.{CpuState}
use Rattle.nt_mark.specs.declared.seats.Keeper.{Keeper}
use Rattle.nt_mark.specs.declared.view.View.{View}
use Rattle.nt_lane_record.specs.declared.piece.Piece.{Piece}
use Rattle.nt_lane.specs.Pieces.{ArePiecesOf}
use Rattle.nt_live.specs.Gathered.{IsItsPart}
use Rattle.nt_live.specs.Gathering.{IsClosed}
use Rattle.nt_live.specs.Teams.{HaveNoMore}
use Rattle.nt_live.specs.Workers.{WorkerState, pairs_of}

abbrev pub numbers_of : List (ℕ × Event) → List ℕ
numbers_of list = map (λ (x : ℕ × Event). x.0) list

-- the list of events has as many, each at its number
pub record ArePlaced (list : List (ℕ × Event)) (es : List Event) : Type 0 where
  pub count : length es ≡ length list
  pub each : (x : ℕ × Event) → Contains list x → (d : Event) → get_or es x.0 d ≡ x.1

-- the marks and lanes of the pass are closed; these are its events in the order of their numbers, and the numbers of
-- the lanes
pub record IsMerged (s : Script) (v : View) (es : List Event) (ps : List Piece) : Type 0 where
  pub keepers : List Keeper
  pub closed : IsClosed s v keepers (length es)
  pub placed : ArePlaced (pairs_of v) es
  pub table : TableId
  pub lists : ArePiecesOf table ps keepers

-- a run, of which each worker's list is exactly its processor's part
pub record IsWorked (s : Script) (limit : ℕ) (ws : List WorkerState) (h : List Event) : Type 0 where
  pub run : IsRun s limit h
  pub parts : All (IsItsPart h) ws

-- where none of the processors has more to do, it is settled
abbrev pub IsSettledBy : Script → ℕ → View → List CpuState → List Event → Type 0
IsSettledBy s limit v cpus h = HaveNoMore limit v cpus → is_settled s limit h ≡ true
