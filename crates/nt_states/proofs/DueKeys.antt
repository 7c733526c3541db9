-- A key that expires is one of a timer or a thread of the script.
use Rattle.std.proofs.Common.{ap, arith, sym}
use Rattle.std.proofs.lemmas.Bool.{lt-ltb}
use Rattle.std.specs.Prelude.{IfSome, IsTrue, List, None, Option, Some, [], length, option_map, suc, zero, ℕ, ◌<◌, ◌∷◌, ◌≡◌}
use Rattle.nt_event.specs.declared.commands.TimerKey.{TimerKey}
use Rattle.nt_event.specs.declared.commands.TimerKey.TheVariants.{Delay as OfDelay, Timer as OfTimer}
use Rattle.nt_event.specs.declared.inserts.Setting.{Setting}
use Rattle.nt_event.specs.Timers.{setting_in}
use Rattle.nt_timer.specs.Settings.{due_entry}
use Rattle.nt_timer.proofs.Among.{due_setting}
use Rattle.nt_states.specs.AllStates.{AllStates}
use Rattle.nt_event.specs.Fitting.{key_fits}
use Rattle.nt_states.specs.Sound.{IsSound}

-- a setting that is read at a place of a list is at a place below the list's length
set_within : (xs : List (Option Setting)) (n : ℕ) (x : Setting) → setting_in xs n ≡ Some x → n < length xs
set_within [] n x h = absurd cc
set_within (y ∷ xs) zero x h = omega arith
set_within (y ∷ xs) (suc n) x h = let k = set_within xs n x h in omega arith

-- in sound states the key of the entry that is due names a timer or a thread of the script
pub due_key_fits : (x : AllStates) (key : TimerKey) → IsSound x → option_map (λ (e : TimerKey × ℕ). e.0) (due_entry x.lanes.timers) ≡ Some key →
    IsTrue (key_fits x.script key)
due_key_fits x (OfTimer t) sound h =
    let r = due_setting x.lanes.timers (OfTimer t) h in
    let below = set_within x.lanes.timers.timers t.0 r.0.setting r.3 in
    let size = sound.timers.timers in
    lt-ltb t.0 (length x.script.timers) (omega arith)
due_key_fits x (OfDelay t) sound h =
    let r = due_setting x.lanes.timers (OfDelay t) h in
    let below = set_within x.lanes.timers.delays t.0 r.0.setting r.3 in
    let size = sound.timers.delays in
    lt-ltb t.0 (length x.script.threads) (omega arith)

-- in sound states the entry that is due, where there is one, has a key that fits the script
pub due_fits : (x : AllStates) (o : Option (TimerKey × ℕ)) → IsSound x → o ≡ due_entry x.lanes.timers → IfSome o (λ k. IsTrue (key_fits x.script k.0))
due_fits x None sound e = tt
due_fits x (Some k) sound e = due_key_fits x k.0 sound (ap (λ (o : Option (TimerKey × ℕ)). option_map (λ (e : TimerKey × ℕ). e.0) o) (sym e))
