-- The first kernel APC once one more is inserted.
use Rattle.std.specs.Prelude.{Bool, None, Option, Some, false, unwrap_or, ℕ, ◌&&◌, ◌==◌}
use Rattle.nt_event.specs.declared.commands.ApcKind.{ApcKind}
use Rattle.nt_event.specs.declared.commands.ApcKind.TheVariants.{Normal as NormalApc, Special as SpecialApc}
use Rattle.nt_event.specs.declared.commands.ApcKind.TheVariants.{User as UserApc}
use Rattle.nt_event.specs.declared.commands.Regions.{Regions}
use Rattle.nt_event.specs.Apcs.{lets_through}

-- the kind of the first kernel APC once one of this kind is inserted, where the first one was of that kind, or there
-- was none
abbrev pub kind_with : ApcKind → Option ApcKind → Option ApcKind
kind_with SpecialApc first = Some SpecialApc
kind_with NormalApc first = Some (unwrap_or first NormalApc)
kind_with UserApc first = first

-- a kernel APC of this kind, where there is one, may begin at this level and in these regions
abbrev pub may_begin : Regions → ℕ → Option ApcKind → Bool
may_begin r level None = false
may_begin r level (Some kind) = (level == 0) && lets_through r kind
