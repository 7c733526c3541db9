-- Frames stay nested when a part changes.
use Rattle.std.proofs.Common.{◌≡◌, ℕ, ◌<◌, true, Option, None, Some, List, [], arith, refl, lit<}
use Rattle.std.proofs.lemmas.List.{length-set}
use Rattle.std.proofs.lemmas.List.Elements.{All-set, All-from_get_or}
use Rattle.std.specs.Option.{option_map_or}
use Rattle.nt_event.specs.Frame.{Frame}
use Rattle.nt_event.specs.declared.numbers.ThreadNo.{ThreadNo}
use Rattle.nt_event.specs.Frames.{Frames, frames_in, thread_part}
use Rattle.nt_event.proofs.Tables.{get_or-table, length-table_from}
use Rattle.nt_frame.specs.Changes.{no_frames, on_part, on_running}
use Rattle.nt_frame.specs.Nesting.{AreNested, AreNewer, IsPart, IsThreadPart}

-- a thread without frames has its frames in order
empty_part : IsThreadPart []
empty_part = record { part = tt; crit = lit< tt; guard = lit< tt }

-- the frames at the start are nested, as there are none
pub nested_start : (n : ℕ) → AreNested (no_frames n)
nested_start n = record {
  own = tt;
  threads = All-from_get_or IsThreadPart _ [] (λ i h. let k : i < n = omega (arith, length-table_from {A = List Frame} 0 n (λ _. [])) in rw
      (get_or-table {A = List Frame} n i (λ _. []) [] k) empty_part);
  running = tt;
  newer = tt;
}

-- the part of the running thread, which has no frame where none runs
pub thread_part_nested : (x : Frames) → AreNested x → IsThreadPart (thread_part x)
thread_part_nested x h = go x.running refl
  where
    go : (r : Option ThreadNo) → x.running ≡ r → IsThreadPart (option_map_or (frames_in x.threads) r [])
    go None e = empty_part
    go (Some t) e = h.threads t.0 [] (rw e at h.running)

-- with the own part empty, nested frames stay nested if the running thread's part becomes a part of a thread
pub on_running_nested : (g : List Frame → List Frame) (x : Frames) → AreNested x → x.own ≡ [] → IsThreadPart (g (thread_part x)) →
    AreNested (on_running g x.running x)
on_running_nested g x h o p = go x.running refl p
  where
    go : (r : Option ThreadNo) → x.running ≡ r → IsThreadPart (g (option_map_or (frames_in x.threads) r [])) → AreNested (on_running g r x)
    go None e q = h
    go (Some t) e q = record {
      own = h.own;
      threads = All-set IsThreadPart x.threads t.0 (g (frames_in x.threads t)) q h.threads;
      running = simp (length-set) h.running;
      newer = rw o tt;
    }

-- nested frames stay nested if the own part becomes a well-formed part that is newer than the threads' frames
pub on_own_nested : (g : List Frame → List Frame) (x : Frames) → AreNested x → IsPart true (g x.own) → AreNewer (g x.own) x.threads →
    AreNested (on_part true g x)
on_own_nested g x h p n = record { own = p; threads = h.threads; running = h.running; newer = n }
