-- The first APCs of a thread, by kind and number.
use Rattle.std.specs.List.{Contains}
use Rattle.std.specs.Prelude.{List, None, Option, Some, false, length, true, ℕ, ◌≡◌, ◌≤◌, ◌⊎◌}
use Rattle.nt_event.specs.declared.commands.ApcKind.{ApcKind}
use Rattle.nt_event.specs.declared.commands.ApcKind.TheVariants.{Normal as NormalApc, Special as SpecialApc}
use Rattle.nt_event.specs.declared.commands.ApcKind.TheVariants.{User as UserApc}
use Rattle.nt_event.specs.declared.events.Event.{Event}
use Rattle.nt_event.specs.declared.inserts.Pick.{Pick}
use Rattle.nt_event.specs.declared.numbers.ThreadNo.{ThreadNo}
use Rattle.nt_event.specs.declared.scripts.Script.{Script}
use Rattle.nt_event.specs.Apcs.{first_kernel, first_user, is_of_kind}
use Rattle.nt_event.specs.Waits.{facts}
use Rattle.nt_runs.specs.Falling.{Falls}

-- the numbers fall, from below the bound
abbrev pub PicksFall : ℕ → List Pick → Type 0
PicksFall n xs = Falls (λ (x : Pick). x.number) n xs

-- the pending APCs of a thread stand by their numbers, the greatest first, each an earlier event's
abbrev pub PendingApcsFall : Type 0
PendingApcsFall = (s : Script) (t : ThreadNo) (past : List Event) →
    PicksFall (length past) (facts s t past).apcs.pending

-- none of this kind is pending
abbrev pub HasNoneOfKind : ApcKind → List Pick → Type 0
HasNoneOfKind kind xs = (y : Pick) → Contains xs y → is_of_kind kind y ≡ false

-- x is the pending one of this kind of least number
abbrev pub IsLeastOfKind : ApcKind → List Pick → Pick → Type 0
IsLeastOfKind kind xs x = Contains xs x × (is_of_kind kind x ≡ true) ×
    ((y : Pick) → Contains xs y → is_of_kind kind y ≡ true → x.number ≤ y.number)

-- what is answered as the first user APC
abbrev pub IsFirstUser : List Pick → Option Pick → Type 0
IsFirstUser xs None = HasNoneOfKind UserApc xs
IsFirstUser xs (Some x) = IsLeastOfKind UserApc xs x

-- what is answered as the first kernel APC: the special one of least number, else the normal one of least number, else
-- none
abbrev pub IsFirstKernel : List Pick → Option Pick → Type 0
IsFirstKernel xs None = HasNoneOfKind SpecialApc xs × HasNoneOfKind NormalApc xs
IsFirstKernel xs (Some x) = IsLeastOfKind SpecialApc xs x ⊎ (HasNoneOfKind SpecialApc xs × IsLeastOfKind NormalApc xs x)

-- the first APCs of a thread are by kind and number
abbrev pub FirstApcsAreByKindAndNumber : Type 0
FirstApcsAreByKindAndNumber = (s : Script) (t : ThreadNo) (past : List Event) →
    IsFirstKernel (facts s t past).apcs.pending (first_kernel (facts s t past).apcs) ×
    IsFirstUser (facts s t past).apcs.pending (first_user (facts s t past).apcs)
