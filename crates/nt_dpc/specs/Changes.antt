-- What calls do to a queue, one after another, and which inserts are pending after them.
use Rattle.std.specs.Prelude.{Bool, List, [], false, true, ℕ, ◌<◌, ◌≡◌, ◌≤◌, ◌∷◌, ◌⊎◌}
use Rattle.nt_event.specs.declared.inserts.Insert.{Insert}
use Rattle.nt_event.specs.declared.inserts.Part.{Part}
use Rattle.nt_event.specs.declared.numbers.DpcNo.{DpcNo}
use Rattle.nt_event.specs.Queues.{is_high_in, is_in, is_of_dpc}
use Rattle.nt_dpc.specs.Queues.{QueueFacts, holds_dpc, with_entry, with_idle, without_entry}

-- a call that changed the queue: an insert that answered yes, a removal that answered true, a take, a rest or a run
pub data QueueChange : Type 0 where
  Added : Insert → QueueChange
  Removed : DpcNo → QueueChange
  Taken : DpcNo → QueueChange
  Idled : Bool → QueueChange

-- what it leaves
abbrev pub queue_changed : QueueChange → QueueFacts → QueueFacts
queue_changed (Added x) q = with_entry x q
queue_changed (Removed d) q = without_entry d q
queue_changed (Taken d) q = without_entry d q
queue_changed (Idled idle) q = with_idle idle q

-- the queue after the changes, of which the last stands first
abbrev pub after_changes : QueueFacts → List QueueChange → QueueFacts
after_changes q [] = q
after_changes q (c ∷ past) = queue_changed c (after_changes q past)

-- an object that was added had no entry then, and its number is below the count
abbrev pub IsAccepted : QueueFacts → QueueChange → Type 0
IsAccepted q (Added x) = (x.dpc.0 < q.count) × (holds_dpc x.dpc q.state.pending ≡ false)
IsAccepted q (Removed d) = Unit {0}
IsAccepted q (Taken d) = Unit {0}
IsAccepted q (Idled idle) = Unit {0}

abbrev pub AllAccepted : QueueFacts → List QueueChange → Type 0
AllAccepted q [] = Unit {0}
AllAccepted q (c ∷ past) = IsAccepted (after_changes q past) c × AllAccepted q past

-- every insert among the changes has a number below n
abbrev pub AddedBelow : ℕ → List QueueChange → Type 0
AddedBelow n [] = Unit {0}
AddedBelow n (Added x ∷ past) = (x.number < n) × AddedBelow n past
AddedBelow n (_ ∷ past) = AddedBelow n past

-- each insert has a number above those of the inserts before it
abbrev pub NumbersRise : List QueueChange → Type 0
NumbersRise [] = Unit {0}
NumbersRise (Added x ∷ past) = AddedBelow x.number past × NumbersRise past
NumbersRise (_ ∷ past) = NumbersRise past

-- the insert was made, and no later change used up the object's insert
abbrev pub IsPending : Insert → List QueueChange → Type 0
IsPending x [] = ⊥
IsPending x (Added y ∷ past) = (x ≡ y) ⊎ IsPending x past
IsPending x (Removed d ∷ past) = (is_of_dpc d x ≡ false) × IsPending x past
IsPending x (Taken d ∷ past) = (is_of_dpc d x ≡ false) × IsPending x past
IsPending x (Idled idle ∷ past) = IsPending x past

-- the first of a part: the pending High insert of greatest number; where none is High, the pending one of least number
pub record IsFirst (part : Part) (x : Insert) (past : List QueueChange) : Type 0 where
  pub pending : IsPending x past
  pub in_part : is_in part x ≡ true
  pub newest_high : x.high ≡ true → (y : Insert) → IsPending y past → is_high_in part y ≡ true → y.number ≤ x.number
  pub none_high : x.high ≡ false → (y : Insert) → IsPending y past → is_high_in part y ≡ false
  pub oldest : x.high ≡ false → (y : Insert) → IsPending y past → is_in part y ≡ true → x.number ≤ y.number
