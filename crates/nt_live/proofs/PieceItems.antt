-- The numbers that stand beside the keepers are, with their events, the pieces of their lanes.
use Rattle.std.proofs.Common.{ap, append_assoc, arith, sym, ◌∙◌}
use Rattle.std.proofs.lemmas.List.{get_or_at, length-reverse, map-append, reverse-append}
use Rattle.std.specs.Prelude.{Bool, Contains, List, [], false, get_or, length, map, refl, reverse, suc, true, zero, ℕ, ◌++◌, ◌<◌, ◌∷◌, ◌≡◌}
use Rattle.atomic_table.specs.Seated.{TableId}
use Rattle.nt_event.specs.declared.events.Event.{Event}
use Rattle.nt_event.specs.declared.jobs.Lane.{Lane}
use Rattle.nt_event.specs.declared.numbers.CpuNo.{CpuNo}
use Rattle.nt_event.specs.declared.scripts.Script.{Script}
use Rattle.nt_event.specs.LaneStates.{Entry as PieceEntry, entry_if, lane_piece}
use Rattle.nt_event.specs.Lanes.{touches}
use Rattle.nt_mark.proofs.Sums.{in_first, in_rest}
use Rattle.nt_mark.specs.declared.seats.Keeper.{Keeper}
use Rattle.nt_mark.specs.declared.view.View.{View}
use Rattle.nt_compose.specs.Composition.{Placed, events}
use Rattle.nt_compose.specs.Parts.{Numbered}
use Rattle.nt_lane_record.specs.declared.piece.Piece.{Piece}
use Rattle.nt_lane_record.specs.Pieces.{IsPieceOf}
use Rattle.nt_lane.specs.Pieces.{ArePiecesOf}
use Rattle.nt_live.specs.Gathered.{pair_of}
use Rattle.nt_live.specs.Gathering.{AreTogether, IsClosed, IsWhole}
use Rattle.nt_live.specs.LanePieces.{IsItsPiece, ListsArePieces, numbered_in}
use Rattle.nt_live.proofs.Pieced.{its_numbers}

-- ---- lists

-- mapping a reversed list is reversing the mapped list
map-reverse : {A B : Type 0} (f : A → B) (xs : List A) → map f (reverse xs) ≡ reverse (map f xs)
map-reverse f [] = refl
map-reverse {A} {B} f (x ∷ xs) =
    ap (λ (ys : List A). map f ys) (reverse-append (x ∷ []) xs)
    ∙ (map-append f (reverse xs) (x ∷ [])
    ∙ (ap (λ (ys : List B). ys ++ f x ∷ []) (map-reverse f xs) ∙ sym (reverse-append (f x ∷ []) (map f xs))))

-- the keeper that stands at the place of a list
pub keeper_at : (table : TableId) (ps : List Piece) (ks : List Keeper) → ArePiecesOf table ps ks → (i : ℕ) (d : Piece) → i < length ps →
    (k : Keeper) × Contains ks k × IsPieceOf table (get_or ps i d) k
keeper_at table [] [] a i d l = absurd (omega (arith, l))
keeper_at table [] (k ∷ ks) a i d l = absurd a
keeper_at table (p ∷ ps) [] a i d l = absurd a
keeper_at table (p ∷ ps) (k ∷ ks) a zero d l = (k, in_first k ks, a.0)
keeper_at table (p ∷ ps) (k ∷ ks) a (suc i) d l =
    let o = keeper_at table ps ks a.1 i d (omega (arith, l)) in (o.0, in_rest k ks o.0 o.1, o.2)

-- ---- in the history

-- the numbers of a lane's piece of the first events of a history, each with the event that stands at it, are the piece
numbered : (s : Script) (x : Lane) (d : Event) (front past : List Event) →
    map (numbered_in (front ++ past) d) (map (λ e. e.number) (lane_piece s x past)) ≡ map pair_of (lane_piece s x past)
numbered s x d front [] = refl
numbered s x d front (y ∷ past) =
    go (touches s x y past)
    (ap (λ (es : List Event). map (numbered_in es d) (map (λ e. e.number) (lane_piece s x past))) (sym (append_assoc front (y ∷ []) past))
    ∙ numbered s x d (front ++ y ∷ []) past)
  where
    whole : reverse (front ++ y ∷ past) ≡ reverse past ++ y ∷ reverse front
    whole =
        reverse-append front (y ∷ past)
        ∙ (ap (λ (es : List Event). es ++ reverse front) (reverse-append (y ∷ []) past) ∙ append_assoc (reverse past) (y ∷ []) (reverse front))

    here : numbered_in (front ++ y ∷ past) d (length past) ≡ (length past, y)
    here =
        ap (λ (e : Event). (length past, e))
        (ap (λ (es : List Event). get_or es (length past) d) whole ∙ get_or_at (reverse past) y (reverse front) d (length past) (length-reverse past))

    go : (b : Bool) → map (numbered_in (front ++ y ∷ past) d) (map (λ e. e.number) (lane_piece s x past)) ≡ map pair_of (lane_piece s x past) →
        map (numbered_in (front ++ y ∷ past) d) (map (λ e. e.number) (entry_if b (length past) y (lane_piece s x past)))
        ≡ map pair_of (entry_if b (length past) y (lane_piece s x past))
    go true ih = λ i. here i ∷ ih i
    go false ih = ih

module _ (s : Script) (limit : ℕ) (v : View) (mine : CpuNo → List Numbered) (ks : List Keeper) (n : ℕ) (h : List Placed) (t : AreTogether s limit v mine)
    (c : IsClosed s v ks n) (w : IsWhole s limit mine n h) where
  its_items : (table : TableId) (p : Piece) (k : Keeper) → Contains ks k → IsPieceOf table p k → IsItsPiece s (events h) p
  its_items table p k has i x fits lane d =
      let piece : List PieceEntry = lane_piece s x (events h) in
      let at : ℕ → ℕ × Event = numbered_in (events h) d in
      let numbers : p.numbers.items ≡ reverse (map (λ e. e.number) piece) =
      i.numbers ∙ its_numbers s limit v mine ks n h t c w x fits k has (i.lane ∙ lane) in
      ap (λ (ns : List ℕ). map at ns) numbers
      ∙ (map-reverse at (map (λ e. e.number) piece) ∙ ap (λ (es : List (ℕ × Event)). reverse es) (numbered s x d [] (events h)))

-- the numbers beside each keeper of closed lanes are, with their events, its lane's piece of the history
pub lists_are_pieces : ListsArePieces
lists_are_pieces s limit v mine ks n h t c w table ps are i d l =
    let o = keeper_at table ps ks are i d l in
    its_items s limit v mine ks n h t c w table (get_or ps i d) o.0 o.1 o.2
