-- What a pass puts and takes, and the rule of the queue: there is one list of all puts, and a beginning of it is all
-- takes.
use Rattle.std.specs.Prelude.{Bool, List, [], filter, map, sum_by, ℕ, ◌+◌, ◌++◌, ◌-◌, ◌<◌, ◌==◌, ◌∷◌, ◌≡◌, ◌≢◌, ◌≤◌}
use Rattle.std.specs.Prelude.{◌⊎◌}
use mathlib.Core.Option.{some}
use lib.ListN.{get_elem?}
use Rattle.nt_work.specs.declared.item.Item.{Item}
use Rattle.nt_work.specs.declared.view.Hand.{Hand}
use Rattle.nt_work.specs.declared.view.Move.{Move}
use Rattle.nt_work.specs.declared.view.View.{View}

-- how many parts a queue has
abbrev pub all_parts : ℕ
all_parts = 17

-- ---- what a pass did

abbrev pub new_hand : ℕ → Hand
new_hand n = record { number = n; put = []; taken = [] }

-- the first pass: it has every part
abbrev pub whole : View
whole = record { hand = new_hand 0; spare = 16; parts = 17; met = [] }

-- the pass has put or taken one item more
abbrev pub with_put : View → Item → View
with_put v x = record v { hand = record v.hand { put = v.hand.put ++ x ∷ [] } }

abbrev pub with_taken : View → Item → View
with_taken v x = record v { hand = record v.hand { taken = v.hand.taken ++ x ∷ [] } }

-- the pass has given away a part, and the new pass, which has the last of its numbers
abbrev pub fewer : View → View
fewer v = record v { spare = v.spare - 1; parts = v.parts - 1 }

abbrev pub fresh : View → View
fresh v = record { hand = new_hand (v.hand.number + v.spare); spare = 0; parts = 1; met = [] }

-- the pass has met another, and what is left of that one
abbrev pub met_by : View → View → View
met_by v w = record { hand = v.hand; spare = 0; parts = v.parts + w.parts; met = v.met ++ w.hand ∷ w.met }

abbrev pub nobody : View
nobody = record { hand = new_hand 0; spare = 0; parts = 0; met = [] }

-- what it did and what the passes did that it met
abbrev pub hands : View → List Hand
hands v = v.hand ∷ v.met

-- ---- the list of all puts, and that of all takes

abbrev pub item_in : Move → Item
item_in m = m.item

abbrev pub is_by : ℕ → Move → Bool
is_by n m = m.by == n

-- what the pass of this number put or took, in order
abbrev pub of : ℕ → List Move → List Item
of n ms = map item_in (filter (is_by n) ms)

-- what one pass did stands in the lists in its order, each once
abbrev pub IsHand : List Move → List Move → Hand → Type 0
IsHand puts takes h = (of h.number puts ≡ h.put) × (of h.number takes ≡ h.taken)

abbrev pub EachHand : (Hand → Type 0) → List Hand → Type 0
EachHand P [] = Unit {0}
EachHand P (h ∷ hs) = P h × EachHand P hs

abbrev pub EachMove : (Move → Type 0) → List Move → Type 0
EachMove P [] = Unit {0}
EachMove P (m ∷ ms) = P m × EachMove P ms

-- one of these passes has the number
abbrev pub HasNumber : ℕ → List Hand → Type 0
HasNumber n [] = ⊥
HasNumber n (h ∷ hs) = (h.number ≡ n) ⊎ HasNumber n hs

-- no two have the same number
abbrev pub AreApart : List Hand → Type 0
AreApart [] = Unit {0}
AreApart (h ∷ hs) = EachHand (λ other. other.number ≢ h.number) hs × AreApart hs

-- ---- the rule

-- what holds of the pass at this place, where it has a part
pub record IsSeated (puts takes : List Move) (seat : ℕ → ℕ) (k : ℕ) (v : View) : Type 0 where
  pub seats : EachHand (λ h. seat h.number ≡ k) (hands v)
  pub spares : (n : ℕ) → v.hand.number < n → n ≤ v.hand.number + v.spare → seat n ≡ k
  pub did : EachHand (IsHand puts takes) (hands v)
  pub apart : AreApart (hands v)

-- the one who moved it has a part, by itself or through one that it met
abbrev pub IsOwned : (ℕ → ℕ) → List View → Move → Type 0
IsOwned seat views m = (v : View) × (get_elem? views (seat m.by) ≡ some v) × (0 < v.parts) × HasNumber m.by (hands v)

-- the rule, of what the queue holds and of all passes
pub record IsKept (items : List Item) (views : List View) : Type 0 where
  pub puts : List Move
  pub takes : List Move
  pub seat : ℕ → ℕ
  pub order : map item_in puts ≡ map item_in takes ++ items
  pub parts : sum_by (λ v. v.parts) views ≡ all_parts
  pub each : (k : ℕ) (v : View) → get_elem? views k ≡ some v → 0 < v.parts → IsSeated puts takes seat k v
  pub put_by : EachMove (IsOwned seat views) puts
  pub taken_by : EachMove (IsOwned seat views) takes

-- What a pass knows at a moment at which the queue holds these items: there is a list of all puts so far, which begins
-- with all takes so far and goes on with the items. What the pass put and took stands in them in its order, each once.
-- A pass with all parts knows who put and took each.
pub record Told (v : View) (items : List Item) : Type 0 where
  pub puts : List Move
  pub takes : List Move
  pub order : map item_in puts ≡ map item_in takes ++ items
  pub did : EachHand (IsHand puts takes) (hands v)
  pub apart : AreApart (hands v)
  pub put_by : v.parts ≡ all_parts → EachMove (λ m. HasNumber m.by (hands v)) puts
  pub taken_by : v.parts ≡ all_parts → EachMove (λ m. HasNumber m.by (hands v)) takes
