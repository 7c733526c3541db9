-- Shades that say the same, and what that means for the histories whose shades they are.
use Rattle.std.specs.Prelude.{Bool, List, map, true, ◌≡◌}
use Rattle.nt_event.specs.declared.events.Event.{Event}
use Rattle.nt_event.specs.declared.scripts.Script.{Script}
use Rattle.nt_alike.specs.Declared.{AlikeDeclared}
use Rattle.nt_shade_dpcs.specs.Same.{SayTheSame as LanesSayTheSame}
use Rattle.nt_shade.specs.contracts.shade.ShadePartialEq.TheImpl as shade_eq
use Rattle.nt_shade.specs.declared.shade.Shade.{Shade}
use Rattle.nt_shade.specs.Cpus.{cpu_said}
use Rattle.nt_shade.specs.Shade.{IsShadeOf}
use Rattle.nt_shade.specs.Threads.{thread_said}

pub record SayTheSame (x y : Shade) : Type 0 where
  pub dpcs : LanesSayTheSame x.dpcs y.dpcs
  pub counts : x.counts.items ≡ y.counts.items
  pub threads : map thread_said x.threads.items ≡ map thread_said y.threads.items
  pub cpus : map cpu_said x.cpus.items ≡ map cpu_said y.cpus.items

-- where the shades of two histories say the same, the histories are alike in all that the script declares
abbrev pub SameShadesAreAlike : Type 0
SameShadesAreAlike = (s : Script) (h k : List Event) (x y : Shade) → IsShadeOf s h x → IsShadeOf s k y →
    SayTheSame x y → AlikeDeclared s h k

-- what `==` answers of two shades; a map or a set of shades compares its keys by it
abbrev pub are_equal : Shade → Shade → Bool
are_equal = (shade_eq.ghosts).eq

abbrev pub EqualShadesSayTheSame : Type 0
EqualShadesSayTheSame = (x y : Shade) → are_equal x y ≡ true → SayTheSame x y
