-- What closing the marks and the lanes says of one pass and one list of its events.
use Rattle.std.proofs.Common.{ap, subst, sym, ◌∙◌}
use Rattle.std.proofs.lemmas.List.{length-map}
use Rattle.std.proofs.lemmas.List.Elements.{All-cons, All-head, All-nil, All-tail}
use Rattle.std.specs.List.Sorted.{IsStrictlyIncreasing}
use Rattle.std.specs.Prelude.{All, Contains, List, [], length, map, refl, ℕ, ◌++◌, ◌∷◌, ◌≡◌}
use Rattle.atomic_table.specs.Seated.{TableId}
use Rattle.nt_event.specs.declared.events.Event.{Event}
use Rattle.nt_mark.specs.declared.seats.Keeper.{Keeper}
use Rattle.nt_mark.specs.declared.view.Entry.{Entry}
use Rattle.nt_event.specs.declared.scripts.Script.{Script}
use Rattle.nt_event.specs.Lanes.{lane_count}
use Rattle.nt_mark.specs.declared.view.View.{View}
use Rattle.nt_mark.specs.declared.seats.Pass.{Pass}
use Rattle.nt_mark.specs.Closing.{IsEachOnce, IsOfEntry, IsOfKeeper, WasAsked, passes, seat_views}
use Rattle.nt_mark.specs.Names.{keeper_lane, keeper_lanes, keeper_notes, keeper_table, keeper_view, keeper_views, pass_view, pass_views}
use Rattle.nt_mark.specs.Views.{entry_numbers, note_numbers}
use Rattle.nt_lane_record.specs.declared.piece.Piece.{Piece}
use Rattle.nt_lane.specs.Pieces.{ArePiecesOf}
use Rattle.nt_live.specs.Merging.{ArePlaced, IsMerged, numbers_of}
use Rattle.nt_live.specs.Workers.{pairs_of}

-- the keepers of pieces are of their table
pub keepers_at : (table other : TableId) (ps : List Piece) (ks : List Keeper) → table ≡ other → ArePiecesOf table ps ks → All (λ k. keeper_table k ≡ other) ks
keepers_at table other [] [] e h = All-nil (λ k. keeper_table k ≡ other)
keepers_at table other [] (k ∷ ks) e h = absurd h
keepers_at table other (p ∷ ps) [] e h = absurd h
keepers_at table other (p ∷ ps) (k ∷ ks) e h =
    All-cons (λ (k : Keeper). keeper_table k ≡ other) k ks (h.0.table_is ∙ e) (keepers_at table other ps ks e h.1)

-- the numbers of the list are those of the entries
pub numbers_are : (es : List Entry) → numbers_of (map (λ (e : Entry). (e.number, e.event)) es) ≡ entry_numbers es
numbers_are [] = refl
numbers_are (e ∷ es) = ap (λ (xs : List ℕ). e.number ∷ xs) (numbers_are es)

-- a list of a pass's events has each number below its length once, if the pass's entries do
each_once : (list : List (ℕ × Event)) (v : View) (n : ℕ) → list ≡ pairs_of v → n ≡ length v.entries → IsEachOnce n (entry_numbers v.entries) →
    (length list ≡ n) × IsEachOnce n (numbers_of list)
each_once list v n is count once =
    let numbers : numbers_of list ≡ entry_numbers v.entries = ap (λ (xs : List (ℕ × Event)). numbers_of xs) is ∙ numbers_are v.entries in (
      ap (λ (xs : List (ℕ × Event)). length xs) is ∙ (length-map v.entries (λ (e : Entry). (e.number, e.event)) ∙ sym count),
      subst (λ (xs : List ℕ). IsEachOnce n xs) (sym numbers) once,
    )

-- what closing says of a pass, of others, and of the keepers of this many lanes
abbrev pub Shows : Pass → List Keeper → ℕ → ℕ → List Pass → Type 0
Shows p ks n lanes others = (n ≡ length (passes p others).entries) × (IsEachOnce n (entry_numbers (passes p others).entries)
    × (IsEachOnce lanes (keeper_lanes ks) × (All (λ k. IsStrictlyIncreasing (note_numbers (keeper_notes k))) ks
    × (All (λ k. All (IsOfEntry (passes p others).entries (keeper_lane k)) (keeper_notes k)) ks
    × (All (λ (v : View). All (IsOfKeeper ks) v.prefixes) (seat_views p others ks) × (All (WasAsked (passes p others)) (passes p others).looks
    × All (λ (v : View). All (Contains (passes p others).entries) v.known) (seat_views p others ks)))))))

-- the lanes of lists are those of their keepers
pub lanes_are : (table : TableId) (ps : List Piece) (ks : List Keeper) → ArePiecesOf table ps ks → map (λ (p : Piece). p.lane) ps ≡ keeper_lanes ks
lanes_are table [] [] a = refl
lanes_are table [] (k ∷ ks) a = absurd a
lanes_are table (p ∷ ps) [] a = absurd a
lanes_are table (p ∷ ps) (k ∷ ks) a =
    ap (λ (n : ℕ). n ∷ map (λ (p : Piece). p.lane) ps) (sym a.0.lane) ∙ ap (λ (ns : List ℕ). keeper_lane k ∷ ns) (lanes_are table ps ks a.1)

module _ (s : Script) (p : Pass) (list : List (ℕ × Event)) (ks : List Keeper) (n lanes : ℕ) (others : List Pass) (shows : Shows p ks n lanes others)
    (none : others ≡ []) (is : list ≡ pairs_of (pass_view p)) (all : lanes ≡ lane_count s) where
  alone : Shows p ks n lanes []
  alone = subst (Shows p ks n lanes) none shows

  -- if one pass shows all and there are no others, its list has so many events, and each number once
  pub once_alone : (n ≡ length list) × IsEachOnce n (numbers_of list)
  once_alone = let h = alone in let e = each_once list (pass_view p) n is h.0 h.1.0 in (sym e.0, e.1)

  -- if one pass shows all and there are no others, its events by number are merged with the pieces of the lanes
  pub merged_alone : (table : TableId) (ps : List Piece) (es : List Event) → ArePiecesOf table ps ks → ArePlaced list es → IsMerged s (pass_view p) es ps
  merged_alone table ps es lists h =
      let shut = alone in
      let z = each_once list (pass_view p) n is shut.0 shut.1.0 in
      let long : n ≡ length es = sym (h.count ∙ z.0) in
      record {
        keepers = ks;
        closed = record {
          once = subst (λ (k : ℕ). IsEachOnce k (entry_numbers (pass_view p).entries)) long shut.1.0;
          lanes = subst (λ (k : ℕ). IsEachOnce k (keeper_lanes ks)) all shut.1.1.0;
          rise = shut.1.1.1.0;
          notes = shut.1.1.1.1.0;
          prefixes = All-head (λ (v : View). All (IsOfKeeper ks) v.prefixes) (pass_view p) (pass_views [] ++ keeper_views ks) shut.1.1.1.1.1.0;
          looks = shut.1.1.1.1.1.1.0;
        };
        placed = subst (λ (xs : List (ℕ × Event)). ArePlaced xs es) is h;
        table = table;
        lists = lists;
      }
