-- What a round leaves of the workers.
use Rattle.std.specs.Prelude.{List, get_or, length, ℕ, ◌<◌, ◌≡◌}
use Rattle.nt_live.specs.Workers.{GoesOnFrom, WorkerState}

-- as many workers, each of which goes on from what it was
pub record GoOn (old new : List WorkerState) : Type 0 where
  pub count : length new ≡ length old
  pub each : (k : ℕ) (d e : WorkerState) → k < length old → GoesOnFrom (get_or old k d) (get_or new k e)
