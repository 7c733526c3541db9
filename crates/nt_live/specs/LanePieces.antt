-- The numbers of closed lanes, in the history that they show.
use Rattle.std.specs.Prelude.{All, Contains, List, get_or, map, reverse, ℕ, ◌≡◌}
use Rattle.atomic_table.specs.Seated.{TableId}
use Rattle.nt_event.specs.declared.events.Event.{Event}
use Rattle.nt_event.specs.declared.jobs.Lane.{Lane}
use Rattle.nt_event.specs.declared.numbers.CpuNo.{CpuNo}
use Rattle.nt_event.specs.declared.scripts.Script.{Script}
use Rattle.nt_event.specs.Lanes.{lane_count, lane_number}
use Rattle.nt_event.specs.LaneStates.{lane_piece}
use Rattle.nt_states.specs.LaneLists.{LaneFits}
use Rattle.nt_compose.specs.Composition.{Placed, events}
use Rattle.nt_compose.specs.Parts.{Numbered}
use Rattle.nt_mark.specs.declared.seats.Keeper.{Keeper}
use Rattle.nt_mark.specs.declared.view.View.{View}
use Rattle.nt_mark.specs.Closing.{IsEachOnce}
use Rattle.nt_mark.specs.Names.{keeper_lane, keeper_notes}
use Rattle.nt_mark.specs.Views.{note_numbers}
use Rattle.nt_lane_record.specs.declared.piece.Piece.{Piece}
use Rattle.nt_lane.specs.Pieces.{ArePiecesOf}
use Rattle.nt_live.specs.Gathered.{IsGathered, pair_of}
use Rattle.nt_live.specs.Gathering.{AreTogether, IsClosed, IsWhole}
use Rattle.nt_live.specs.Workers.{WorkerState}

-- in the history that closed passes and lanes show, the list of each lane's keeper is the piece of its lane, the oldest
-- event first
abbrev pub LanesHavePieces : Type 0
LanesHavePieces = (s : Script) (limit : ℕ) (v : View) (mine : CpuNo → List Numbered) (ks : List Keeper) (n : ℕ)
    (h : List Placed) → AreTogether s limit v mine → IsClosed s v ks n → IsWhole s limit mine n h → (x : Lane) →
    LaneFits s x → (k : Keeper) → Contains ks k → keeper_lane k ≡ lane_number s x → note_numbers (keeper_notes k)
    ≡ reverse (map (λ e. e.number) (lane_piece s x (events h)))

-- ---- with the events

-- the number with the event that stands at it in this history
abbrev pub numbered_in : List Event → Event → ℕ → ℕ × Event
numbered_in past d n = (n, get_or (reverse past) n d)

-- the numbers of a lane, each with the event that stands at it in this history, are the lane's piece of the history,
-- the oldest first
abbrev pub IsItsPiece : Script → List Event → Piece → Type 0
IsItsPiece s past p = (x : Lane) → LaneFits s x → p.lane ≡ lane_number s x → (d : Event) →
    map (numbered_in past d) p.numbers.items ≡ reverse (map pair_of (lane_piece s x past))

-- so are, with their events, those of each lane whose keeper is one of these
abbrev pub ListsArePieces : Type 0
ListsArePieces = (s : Script) (limit : ℕ) (v : View) (mine : CpuNo → List Numbered) (ks : List Keeper) (n : ℕ)
    (h : List Placed) → AreTogether s limit v mine → IsClosed s v ks n → IsWhole s limit mine n h → (table : TableId)
    (ps : List Piece) → ArePiecesOf table ps ks → All (IsItsPiece s (events h)) ps

-- ---- what is gathered

-- there are numbers for each lane of the script, each of which with its event are the piece of the lane in this history
pub record ArePieces (s : Script) (past : List Event) (ps : List Piece) : Type 0 where
  pub once : IsEachOnce (lane_count s) (map (λ (p : Piece). p.lane) ps)
  pub each : All (IsItsPiece s past) ps

-- a settled run of what the workers did and turns of the robin rule behind it, with the numbers of the lanes in what
-- the workers did
abbrev pub IsGatheredWith : Script → ℕ → List WorkerState → List Piece → List Event → Type 0
IsGatheredWith s limit ws ps h = (g : IsGathered s limit ws h) × ArePieces s g.worked ps
