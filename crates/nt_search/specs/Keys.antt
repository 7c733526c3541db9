-- What tells a state apart: the numbers of its parts, each of which is kept once.
use Rattle.std.specs.Global.{Vec}
use Rattle.std.specs.Prelude.{Bool, List, Some, [], slice_get, true, ℕ, ◌++◌, ◌∷◌, ◌≡◌}
use Rattle.nt_event.specs.declared.events.Event.{Event}
use Rattle.nt_event.specs.declared.scripts.Script.{Script}
use Rattle.nt_alike.specs.Free.{IsFreeRun}
use Rattle.nt_expect.specs.declared.expectations.Watched.{Watched}
use Rattle.nt_shade.specs.declared.cpus.ShadeCpu.{ShadeCpu}
use Rattle.nt_shade.specs.declared.shade.Shade.{Shade}
use Rattle.nt_shade.specs.declared.threads.ShadeThread.{ShadeThread}
use Rattle.nt_shade.specs.Same.{are_equal as equal_shades}
use Rattle.nt_shade.specs.Shade.{IsShadeOf}
use Rattle.nt_shade_dpcs.specs.declared.shade.ShadeDpcs.{ShadeDpcs}
use Rattle.nt_search.specs.declared.states.Key.{Key}
use Rattle.nt_shows.specs.Tells.{AreCame}

-- what contracts see of parts: lists of them, in the order of their numbers
pub record SeenParts : Type 0 where
  pub dpcs : List ShadeDpcs
  pub counts : List (Vec ℕ)
  pub threads : List (Vec ShadeThread)
  pub cpus : List (Vec ShadeCpu)
  pub came : List (Vec Bool)

-- the parts of these numbers are those of this shade and these flags
pub record AreParts (x : SeenParts) (key : Key) (shade : Shade) (flags : Vec Bool) : Type 0 where
  pub dpcs : slice_get x.dpcs key.dpcs ≡ Some shade.dpcs
  pub counts : slice_get x.counts key.counts ≡ Some shade.counts
  pub threads : slice_get x.threads key.threads ≡ Some shade.threads
  pub cpus : slice_get x.cpus key.cpus ≡ Some shade.cpus
  pub came : slice_get x.came key.came ≡ Some flags

-- the parts of these numbers are equal to those of this shade and these flags
pub record AreNumbered (x : SeenParts) (key : Key) (shade : Shade) (came : Vec Bool) : Type 0 where
  pub kept : Shade
  pub flags : Vec Bool
  pub parts : AreParts x key kept flags
  pub equal : equal_shades shade kept ≡ true
  pub same : came.items ≡ flags.items

-- the list goes on as this one does, with more behind it
abbrev pub GoesOn : {A : Type 0} → List A → List A → Type 0
GoesOn {A} old new = (more : List A) × (new ≡ old ++ more)

-- the parts that were there keep their numbers
pub record HasMore (old new : SeenParts) : Type 0 where
  pub dpcs : GoesOn old.dpcs new.dpcs
  pub counts : GoesOn old.counts new.counts
  pub threads : GoesOn old.threads new.threads
  pub cpus : GoesOn old.cpus new.cpus
  pub came : GoesOn old.came new.came

-- the parts of the key's numbers are a shade of this free run, and flags that tell what came in it
pub record IsKeyOf (s : Script) (watched : List Watched) (past : List Event) (x : SeenParts) (key : Key) : Type 0 where
  pub free : IsFreeRun s past
  pub kept : Shade
  pub flags : Vec Bool
  pub parts : AreParts x key kept flags
  pub shade : IsShadeOf s past kept
  pub came : AreCame watched past flags.items

-- the keys are those of these histories, in their order
abbrev pub AreKeys : Script → List Watched → List (List Event) → SeenParts → List Key → Type 0
AreKeys s watched [] x [] = Unit {0}
AreKeys s watched [] x (key ∷ keys) = ⊥
AreKeys s watched (past ∷ all) x [] = ⊥
AreKeys s watched (past ∷ all) x (key ∷ keys) = IsKeyOf s watched past x key × AreKeys s watched all x keys
