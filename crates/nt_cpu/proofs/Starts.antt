-- A processor that has made no event.
use Rattle.std.proofs.Common.{ap, arith, inl, ◌∙◌}
use Rattle.std.proofs.lemmas.List.Elements.{All-from_get_or, All-nil}
use Rattle.std.specs.Prelude.{All, IsTrue, List, None, [], false, length, refl, ℕ, ◌<◌, ◌≡◌, ◌≤◌, ◌⊎◌}
use Rattle.nt_event.specs.declared.limits.TheConstants.{TURNS}
use Rattle.nt_event.specs.Frame.{Frame}
use Rattle.nt_event.specs.declared.numbers.CpuNo.{CpuNo}
use Rattle.nt_event.specs.declared.scripts.Script.{Script}
use Rattle.nt_event.specs.Frames.{Frames}
use Rattle.nt_event.specs.Script.{fits, has_cpu}
use Rattle.nt_event.specs.Lists.{table}
use Rattle.nt_event.proofs.Tables.{get_or-table, length-table_from}
use Rattle.nt_frame.specs.Changes.{no_frames}
use Rattle.nt_frame.proofs.Nested.{nested_start}
use Rattle.nt_cpu.specs.declared.keeping.Kept.{Kept}
use Rattle.nt_cpu.specs.Sound.{EndsInBase, IsSmall, IsSmallPart, IsSound}
use Rattle.nt_cpu.proofs.Small.{part_nil}

-- what holds of no frames holds of each thread before any event
each_empty : (P : List Frame → Type 0) (n : ℕ) → P [] → All P (no_frames n).threads
each_empty P n h =
    All-from_get_or P _ [] (λ i b. let k : i < n = omega (arith, length-table_from {A = List Frame} 0 n (λ _. [])) in
    rw (get_or-table {A = List Frame} n i (λ _. []) [] k) h)

-- a processor of a script that fits, with no frames and nothing seen, served or made, is sound
pub sound_start : (s : Script) (p : CpuNo) (n : ℕ) (fs : Frames) (seen : List ℕ) (kept : Kept) → IsTrue (fits s) → IsTrue (has_cpu s p) → n ≤ TURNS → fs
    ≡ no_frames (length s.threads) → seen ≡ table 16 (λ c. 0) → kept
    ≡ record { served = table 16 (λ c. 0); rested = false; took = None; fire = None; sweep = false } →
    IsSound (record {
      script = s;
      cpu = p;
      limit = n;
      own = record {
        made = 0;
        frames = fs;
        seen = seen;
        served = kept.served;
        rested = kept.rested;
        took = kept.took;
        fire = kept.fire;
        sweep = kept.sweep;
      };
    })
sound_start s p n fs seen kept f q l e a b =
    rw (e, b) (record {
      script = f;
      cpu = q;
      limit = l;
      made = omega arith;
      seen = ap (λ (xs : List ℕ). length xs) a ∙ length-table_from 0 16 (λ c. 0);
      served = length-table_from 0 16 (λ c. 0);
      threads = length-table_from {A = List Frame} 0 (length s.threads) (λ _. []);
      nested = nested_start (length s.threads);
      small = record { own = All-nil (IsSmall s.locks 0); threads = each_empty (IsSmallPart s.locks 0) (length s.threads) (part_nil s.locks 0) };
      based = record { parts = each_empty (λ fs. (fs ≡ []) ⊎ EndsInBase fs) (length s.threads) (inl refl); runs = tt };
      waits = tt;
      fire = tt;
    })
