-- The timers of a shade are those of the history, at the start and after each event.
use Rattle.std.proofs.Common.{ap, subst, sym, ◌∙◌}
use Rattle.std.proofs.lemmas.Bool.{ltb-true}
use Rattle.std.specs.Prelude.{List, None, Option, [], length, suc, true, ℕ, ◌∷◌, ◌≡◌}
use Rattle.nt_event.specs.declared.commands.TimerKey.{TimerKey}
use Rattle.nt_event.specs.declared.commands.TimerKey.TheVariants.{Delay as OfDelay, Timer as OfTimer}
use Rattle.nt_event.specs.declared.events.Event.{Event}
use Rattle.nt_event.specs.declared.inserts.Setting.{Setting}
use Rattle.nt_event.specs.declared.scripts.Script.{Script}
use Rattle.nt_event.specs.Fitting.{key_fits}
use Rattle.nt_event.specs.Frames.{time_after}
use Rattle.nt_event.specs.Regions.{stand_at}
use Rattle.nt_event.specs.Timers.{Timers, timers_at}
use Rattle.nt_event.proofs.Moves.{timers_move}
use Rattle.nt_event.proofs.Tables.{get_or-table}
use Rattle.nt_timer.specs.Settings.{setting_at}
use Rattle.nt_shade_dpcs.specs.declared.timers.ShadeTimers.{ShadeTimers}
use Rattle.nt_shade_dpcs.specs.Keys.{keys_after, maker_of}
use Rattle.nt_shade_dpcs.specs.Shade.{due_again}
use Rattle.nt_shade_dpcs.specs.Timers.{AreSetKeys, AreTimers}
use Rattle.nt_shade_dpcs.proofs.KeysAfter.{keys_follow}

-- before the first event no timer key is set
none_set : (s : Script) (k : TimerKey) → key_fits s k ≡ true → None ≡ setting_at k (timers_at s [])
none_set s (OfTimer t) f = sym (get_or-table {A = Option Setting} (length s.timers) t.0 (λ i. None) None (ltb-true t.0 (length s.timers) f))
none_set s (OfDelay t) f = sym (get_or-table {A = Option Setting} (length s.threads) t.0 (λ i. None) None (ltb-true t.0 (length s.threads) f))

-- a shade at time 0 with no key set has the timers of the empty history
pub timers_start : (s : Script) (x : ShadeTimers) → x.now ≡ 0 → x.keys.items ≡ [] → AreTimers s 0 (timers_at s []) x
timers_start s x now none = record {
  time = now;
  keys = record { numbered = []; same = none; set = none_set s; order = tt; older = tt };
}

-- timers of a shade whose time and keys move as an event moves them are the history's timers after the event
pub timers_follow : (s : Script) (e : Event) (past : List Event) (x y : ShadeTimers) → AreTimers s (length past) (timers_at s past) x →
    (due : Option ℕ) → due ≡ due_again s e past → y.now ≡ time_after e.what x.now →
    y.keys.items ≡ keys_after x.now (maker_of s e) due e.what x.keys.items → AreTimers s (suc (length past)) (timers_at s (e ∷ past)) y
timers_follow s e past x y is due again now keys =
    record {
      time = now ∙ ap (time_after e.what) is.time;
      keys = subst (λ (t : Timers). AreSetKeys s (suc (length past)) t y.keys.items) (sym (timers_move s e past))
          (rw (keys, is.time, again) (keys_follow s (stand_at s e.cpu past) e (length past) (timers_at s past) x.keys.items is.keys));
    }
