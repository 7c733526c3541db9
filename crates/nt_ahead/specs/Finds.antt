-- What a look of a processor may find after a history, and when a list has all its looks.
use Rattle.std.specs.Prelude.{Contains, List, length, ℕ, ◌<◌, ◌≡◌, ◌⊎◌}
use Rattle.nt_event.specs.declared.events.Event.{Event}
use Rattle.nt_event.specs.declared.events.Rises.{Rises}
use Rattle.nt_event.specs.declared.numbers.CpuNo.{CpuNo}
use Rattle.nt_event.specs.declared.scripts.Script.{Script}
use Rattle.nt_event.specs.Classes.{class_count}
use Rattle.nt_event.specs.Lists.{value_at}
use Rattle.nt_event.specs.Requests.{seen}
use Rattle.nt_shade_asks.specs.Values.{values_above}

-- the values by which the processor was asked for the class, above what it has seen
abbrev pub values_ahead : Script → List Event → CpuNo → ℕ → List ℕ
values_ahead s past p c = values_above s p c (seen s p c past) past

-- what a look may find of the class: nothing, or one of these
abbrev pub MayFind : Script → List Event → CpuNo → ℕ → ℕ → Type 0
MayFind s past p c value = (value ≡ 0) ⊎ Contains (values_ahead s past p c) value

-- each choice of what may be found of the 16 classes is one of these; it may be that nothing is found at all
abbrev pub HasAllFinds : Script → List Event → CpuNo → List Rises → Type 0
HasAllFinds s past p finds = (r : Rises) → length r.value ≡ class_count →
    ((c : ℕ) → c < class_count → MayFind s past p c (value_at r.value c)) → Contains finds r
