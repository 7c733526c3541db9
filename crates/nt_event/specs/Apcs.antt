-- APC queues: the pending inserts of a thread, the first of each kind, and what is deliverable (Windows Internals,
-- "Asynchronous procedure calls").
use Rattle.std.specs.List.{list_any}
use Rattle.std.specs.Option.{option_or}
use Rattle.std.specs.Prelude.{Bool, List, Option, Some, [], false, filter, find, is_some, not, option_and_then, reverse}
use Rattle.std.specs.Prelude.{true, ℕ, ◌&&◌, ◌==◌, ◌∷◌}
use Rattle.nt_event.specs.declared.commands.ApcKind.{ApcKind}
use Rattle.nt_event.specs.declared.commands.ApcKind.TheVariants.{Normal as NormalApc, Special as SpecialApc}
use Rattle.nt_event.specs.declared.commands.ApcKind.TheVariants.{User as UserApc}
use Rattle.nt_event.specs.declared.commands.Regions.{Regions}
use Rattle.nt_event.specs.declared.inserts.Pick.{Pick}
use Rattle.nt_event.specs.declared.numbers.ApcNo.{ApcNo}
use Rattle.nt_event.specs.Lists.{when}

-- the pending inserts, the greatest number first, and whether the thread no longer takes any
pub record ApcQueues : Type 0 where
  pub pending : List Pick
  pub closed : Bool

abbrev pub start_apcs : ApcQueues
start_apcs = record { pending = []; closed = false }

abbrev pub is_of_apc : ApcNo → Pick → Bool
is_of_apc a x = x.apc.0 == a.0

abbrev pub same_kind : ApcKind → ApcKind → Bool
same_kind SpecialApc SpecialApc = true
same_kind NormalApc NormalApc = true
same_kind UserApc UserApc = true
same_kind _ _ = false

abbrev pub is_of_kind : ApcKind → Pick → Bool
is_of_kind kind x = same_kind kind x.kind

abbrev pub is_inserted : ApcNo → ApcQueues → Bool
is_inserted a q = list_any (is_of_apc a) q.pending

-- inserting answers no exactly where the object is inserted already or the thread no longer takes APCs
abbrev pub takes : ApcNo → ApcQueues → Bool
takes a q = not q.closed && not (is_inserted a q)

abbrev pub with_apc : Pick → ApcQueues → ApcQueues
with_apc x q = record q { pending = x ∷ q.pending }

abbrev pub without_apc : ApcNo → ApcQueues → ApcQueues
without_apc a q = record q { pending = filter (λ x. not (is_of_apc a x)) q.pending }

abbrev pub closed_apcs : ApcQueues → ApcQueues
closed_apcs q = record q { closed = true }

-- the one of a kind of least number
abbrev pub first_of_kind : ApcKind → ApcQueues → Option Pick
first_of_kind kind q = find (is_of_kind kind) (reverse q.pending)

-- special ones stand before normal ones, each by insertion
abbrev pub first_kernel : ApcQueues → Option Pick
first_kernel q = option_or (first_of_kind SpecialApc q) (first_of_kind NormalApc q)

abbrev pub first_user : ApcQueues → Option Pick
first_user q = first_of_kind UserApc q

abbrev pub has_kernel : ApcQueues → Bool
has_kernel q = is_some (first_kernel q)

abbrev pub has_user : ApcQueues → Bool
has_user q = is_some (first_user q)

-- a guarded region holds back all kernel APCs; a critical region, and a normal kernel APC in progress, the normal ones
abbrev pub lets_through : Regions → ApcKind → Bool
lets_through r SpecialApc = r.guard == 0
lets_through r _ = (r.guard == 0) && ((r.crit == 0) && not r.busy)

-- the first kernel APC, where it is deliverable: the level is PASSIVE_LEVEL and the regions let it through
abbrev pub deliverable : ApcQueues → Regions → ℕ → Option Pick
deliverable q r level =
    option_and_then (λ x. when ((level == 0) && lets_through r x.kind) (Some x)) (first_kernel q)
