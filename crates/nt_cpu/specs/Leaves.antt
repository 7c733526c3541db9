-- What an event leaves of what a processor keeps.
use Rattle.std.specs.Prelude.{Option, ℕ, ◌+◌}
use Rattle.nt_event.specs.declared.events.Event.{Event}
use Rattle.nt_event.specs.declared.scripts.Script.{Script}
use Rattle.nt_event.specs.Frames.{frames_after}
use Rattle.nt_event.specs.Own.{Own, fire_after, is_rest, took_after}
use Rattle.nt_event.specs.Regions.{sweep_after}
use Rattle.nt_event.specs.Requests.{served_after}
use Rattle.nt_event.specs.Lists.{table, value_at}

-- where these values are seen after it
abbrev pub own_with : Script → ℕ → Option ℕ → Event → (ℕ → ℕ) → Own → Own
own_with s n due e seen x =
    record {
      made = x.made + 1;
      frames = frames_after s n due e x.frames;
      seen = table 16 seen;
      served = table 16 (λ c. served_after e.what c (seen c) (value_at x.served c));
      rested = is_rest e.what;
      took = took_after e.what x.took;
      fire = fire_after s e.what x.fire;
      sweep = sweep_after e.what x.sweep;
    }
