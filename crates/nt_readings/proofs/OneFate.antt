-- In a run of a script that fits each insert has exactly one fate.
use Rattle.std.proofs.Common.{sym}
use Rattle.std.specs.List.{Contains}
use Rattle.std.specs.Prelude.{List, refl, true, ℕ, ◌↔◌, ◌≡◌}
use Rattle.nt_event.specs.declared.events.Event.{Event}
use Rattle.nt_event.specs.declared.scripts.Script.{Script}
use Rattle.nt_event.specs.Fate.{BegunBy, Fate, FlushedBy, Inserted, RemovedBy, StillWaits, Thing, fate_of, waiting_inserts}
use Rattle.nt_event.specs.Script.{fits}
use Rattle.nt_event.specs.Step.{IsRun}
use Rattle.nt_readings.specs.Fates.{Became, HasOneFate, IsInsert, IsPending}
use Rattle.nt_readings.proofs.Declared.{holds_of_each}
use Rattle.nt_readings.proofs.Fates.{fate_is_first_use, inserts_listed}

-- what an insert became is its fate, where waiting is being pending
became : (s : Script) (thing : Thing) (n : ℕ) (past : List Event) → ((fate_of thing n past ≡ StillWaits) ↔ IsPending s thing n past) → (x : Fate) →
    (fate_of thing n past ≡ x) ↔ Became s thing n past x
became s thing n past w (BegunBy m) = fate_is_first_use thing n past (BegunBy m)
became s thing n past w (FlushedBy m) = fate_is_first_use thing n past (FlushedBy m)
became s thing n past w (RemovedBy m) = fate_is_first_use thing n past (RemovedBy m)
became s thing n past w StillWaits = w

-- in a run of a script that fits, an insert still waits exactly where it is pending
waits_as_pending : (s : Script) (limit : ℕ) (thing : Thing) (n : ℕ) (past : List Event) → IsRun s limit past → fits s ≡ true → IsInsert thing n past →
    (fate_of thing n past ≡ StillWaits) ↔ IsPending s thing n past
waits_as_pending s limit thing n past r h i =
    let both = (holds_of_each s limit past r h).waiting thing n in
    (λ w. both.0 (i, w), λ p. (both.1 p).1)

-- in a run of a script that fits, each insert was begun, flushed, removed or is pending, and only one of these
pub each_insert_has_one_fate : (s : Script) (limit : ℕ) (thing : Thing) (n : ℕ) (past : List Event) → IsRun s limit past → fits s ≡ true →
    IsInsert thing n past → HasOneFate s thing n past
each_insert_has_one_fate s limit thing n past r h i =
    let w = waits_as_pending s limit thing n past r h i in
    record {
      fate = fate_of thing n past;
      had = (became s thing n past w (fate_of thing n past)).0 refl;
      only = λ x b. sym ((became s thing n past w x).1 b);
    }

-- in a run of a script that fits, the waiting inserts are exactly the pending ones
pub waiting_are_the_pending : (s : Script) (limit : ℕ) (x : Inserted) (past : List Event) → IsRun s limit past → fits s ≡ true →
    Contains (waiting_inserts past) x ↔ IsPending s x.thing x.number past
waiting_are_the_pending s limit x past r h = (forth, back)
  where
    both : (IsInsert x.thing x.number past × (fate_of x.thing x.number past ≡ StillWaits)) ↔ IsPending s x.thing x.number past
    both = (holds_of_each s limit past r h).waiting x.thing x.number

    forth : Contains (waiting_inserts past) x → IsPending s x.thing x.number past
    forth c =
        let k = (inserts_listed past x).waiting.0 c in both.0 (k.0, (fate_is_first_use x.thing x.number past StillWaits).1 k.1)

    back : IsPending s x.thing x.number past → Contains (waiting_inserts past) x
    back p =
        let k = both.1 p in (inserts_listed past x).waiting.1 (k.0, (fate_is_first_use x.thing x.number past StillWaits).0 k.1)
