-- There is a first due key exactly where some key is due.
use Rattle.std.proofs.Common.{◌≡◌, Bool, true, false, List, [], ◌∷◌, Option, Some, None, option_map, ℕ, refl, ◌∙◌}
use Rattle.nt_event.specs.declared.commands.TimerKey.{TimerKey}
use Rattle.nt_timer.specs.Settings.{due_entry}
use Rattle.nt_event.specs.Timers.{SetKey, Timers, earlier, first_due, is_due_key, set_keys}
use Rattle.std.specs.List.{filter, list_any, reduce}
use Rattle.std.specs.Option.{is_some}

-- case: one key in front; there is an earliest due key exactly if some key is due
some_due : (now : ℕ) (k : SetKey) (ks : List SetKey) → is_some (reduce earlier (filter (is_due_key now) ks)) ≡ list_any (is_due_key now) ks → (t : Bool) →
    is_due_key now k ≡ t → is_some (reduce earlier (filter (is_due_key now) (k ∷ ks))) ≡ list_any (is_due_key now) (k ∷ ks)
some_due now k ks left true h = rw h
some_due now k ks left false h = rw h left

-- a list of keys has an earliest due one exactly if some key of it is due
is_some-reduce : (now : ℕ) (ks : List SetKey) → is_some (reduce earlier (filter (is_due_key now) ks)) ≡ list_any (is_due_key now) ks
is_some-reduce now [] = refl
is_some-reduce now (k ∷ ks) = some_due now k ks (is_some-reduce now ks) (is_due_key now k) refl

-- there is a first due key exactly where some key is due
pub is_some-first_due : (x : Timers) → is_some (first_due x) ≡ list_any (is_due_key x.now) (set_keys x)
is_some-first_due x = is_some-reduce x.now (set_keys x)

-- taking key and number of an option's setting leaves it with a value or without, as it was
is_some-map : (o : Option SetKey) → is_some (option_map (λ (k : SetKey). let e : TimerKey × ℕ = (k.key, k.setting.number) in e) o) ≡ is_some o
is_some-map None = refl
is_some-map (Some k) = refl

-- a due key is answered exactly where some key that is set is due
pub is_some-due_entry : (x : Timers) → is_some (due_entry x) ≡ list_any (is_due_key x.now) (set_keys x)
is_some-due_entry x = is_some-map (first_due x) ∙ is_some-first_due x
