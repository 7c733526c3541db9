-- When the timers of a shade are those of a history: the time, and the keys that are set, in the order in which they
-- expire. Their numbers, which the shade doesn't have, are those of the history.
use Rattle.std.specs.Prelude.{List, Option, [], find, map, option_map, true, ℕ, ◌<◌, ◌∷◌, ◌≡◌}
use Rattle.nt_event.specs.declared.commands.TimerKey.{TimerKey}
use Rattle.nt_event.specs.declared.inserts.Setting.{Setting}
use Rattle.nt_event.specs.declared.scripts.Script.{Script}
use Rattle.nt_event.specs.Fitting.{key_fits}
use Rattle.nt_event.specs.Timers.{SetKey, Timers, is_earlier}
use Rattle.nt_timer.specs.Settings.{setting_at}
use Rattle.nt_alike.specs.Lists.{Each}
use Rattle.nt_shade_dpcs.specs.declared.timers.ShadeKey.{ShadeKey}
use Rattle.nt_shade_dpcs.specs.declared.timers.ShadeTimers.{ShadeTimers}
use Rattle.nt_shade_dpcs.specs.Keys.{same_key}

abbrev pub shade_key : SetKey → ShadeKey
shade_key x = record { key = x.key; due = x.setting.due; period = x.setting.period }

-- what the list has of the key
abbrev pub setting_among : TimerKey → List SetKey → Option Setting
setting_among k xs = option_map (λ x. x.setting) (find (λ x. same_key k x.key) xs)

-- each expires before those that follow
abbrev pub AreInOrder : List SetKey → Type 0
AreInOrder [] = Unit {0}
AreInOrder (x ∷ xs) = Each (λ y. is_earlier x y ≡ true) xs × AreInOrder xs

-- these are the keys of the script that are set, each by one of the first n events
pub record AreSetKeys (s : Script) (n : ℕ) (x : Timers) (keys : List ShadeKey) : Type 0 where
  pub numbered : List SetKey
  pub same : keys ≡ map shade_key numbered
  pub set : (k : TimerKey) → key_fits s k ≡ true → setting_among k numbered ≡ setting_at k x
  pub order : AreInOrder numbered
  pub older : Each (λ y. y.setting.number < n) numbered

pub record AreTimers (s : Script) (n : ℕ) (x : Timers) (t : ShadeTimers) : Type 0 where
  pub time : t.now ≡ x.now
  pub keys : AreSetKeys s n x t.keys.items
