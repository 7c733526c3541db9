-- What stands at the start, and what all seats together show at the end.
use Rattle.std.specs.Prelude.{◌≡◌, ◌⊎◌, ℕ, ◌+◌, ◌<◌, ◌==◌, nat_lt, List, [], ◌∷◌, ◌++◌, length, slice_index_or, All}
use Rattle.std.specs.Prelude.{Contains, count_by, if◌then◌else◌}
use Rattle.atomic_table.specs.Seated.{TableId}
use Rattle.nt_mark.specs.declared.view.Entry.{Entry}
use Rattle.nt_mark.specs.declared.view.Look.{Look}
use Rattle.nt_mark.specs.declared.view.Note.{Note}
use Rattle.nt_mark.specs.declared.view.LaneList.{LaneList}
use Rattle.nt_mark.specs.declared.view.View.{View}
use Rattle.nt_mark.specs.declared.seats.Pass.{Pass}
use Rattle.nt_mark.specs.declared.seats.Keeper.{Keeper}
use Rattle.nt_mark.specs.Views.{both, mark_of}
use Rattle.nt_mark.specs.Rule.{IsBeginning}
use Rattle.nt_mark.specs.Names.{pass_view, pass_views, keeper_table, keeper_lane, keeper_view, keeper_views}
use Rattle.nt_mark.specs.Names.{keeper_notes}

-- the keeper of this lane of the table, with an empty list, which knows nothing yet
pub record IsNewKeeper (table : TableId) (lane : ℕ) (k : Keeper) : Type 0 where
  pub table_is : keeper_table k ≡ table
  pub lane_is : keeper_lane k ≡ lane
  pub notes : keeper_notes k ≡ []
  pub known : (keeper_view k).known ≡ []
  pub reached : (keeper_view k).reached ≡ []
  pub prefixes : All (λ (q : LaneList). q.notes ≡ []) (keeper_view k).prefixes

-- keeper x keeps lane x
abbrev pub AreNewKeepers : TableId → List Keeper → Type 0
AreNewKeepers table ks = (x : ℕ) (d : Keeper) → x < length ks → IsNewKeeper table x (slice_index_or ks x d)

-- a view with these others as one
abbrev pub gathered : View → List View → View
gathered v [] = v
gathered v (w ∷ ws) = both (gathered v ws) w

-- the passes as one
abbrev pub passes : Pass → List Pass → View
passes p others = gathered (pass_view p) (pass_views others)

-- what each of the passes and keepers has and knows
abbrev pub seat_views : Pass → List Pass → List Keeper → List View
seat_views p others keepers = pass_view p ∷ (pass_views others ++ keeper_views keepers)

-- the prefix is one of the list of that lane's keeper
abbrev pub IsOfKeeper : List Keeper → LaneList → Type 0
IsOfKeeper keepers q = (k : Keeper) × Contains keepers k × (keeper_lane k ≡ q.lane) ×
    IsBeginning q.notes (keeper_notes k)

-- the list has each number below n once, and no other
abbrev pub IsEachOnce : ℕ → List ℕ → Type 0
IsEachOnce n xs = (k : ℕ) → count_by (λ x. x == k) xs ≡ (if nat_lt k n then 1 else 0)

-- the number is that of one of these entries, which has the lane
abbrev pub IsOfEntry : List Entry → ℕ → Note → Type 0
IsOfEntry es lane n = (e : Entry) × Contains es e × (e.number ≡ n.number) × Contains e.lanes lane

-- the value is 0, or one more than a number that was drawn, and marked for this processor and class
abbrev pub WasAsked : View → Look → Type 0
WasAsked v l = (l.value ≡ 0) ⊎ ((n : ℕ) × (l.value ≡ n + 1) × Contains v.marks (mark_of l.cpu l.class n) ×
    ((e : Entry) × Contains v.entries e × (e.number ≡ n)))
