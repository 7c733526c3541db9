-- What is left of a processor after an event.
use Rattle.std.proofs.Common.{ap, arith, ◌∙◌}
use Rattle.std.proofs.lemmas.List.Elements.{All-head}
use Rattle.std.specs.Option.{option_map_or, option_or}
use Rattle.std.proofs.lemmas.Bool.Decides.{nat_tests}
use Rattle.std.specs.Prelude.{Bool, IfSome, List, None, Option, Some, [], false, length, nat_le, refl, true, ℕ, ◌&&◌, ◌+◌, ◌<◌, ◌^◌, ◌∷◌, ◌≡◌, ◌≤◌}
use Rattle.nt_event.specs.declared.events.What.{What}
use Rattle.nt_event.specs.Script.{fits, meets_limits}
use Rattle.nt_event.proofs.Booleans.{and_left, and_right}
use Rattle.nt_event.specs.declared.events.What.TheVariants.{Call}
use Rattle.nt_event.specs.declared.events.Event.{Event}
use Rattle.nt_event.specs.Frame.{Frame}
use Rattle.nt_event.specs.declared.numbers.DpcNo.{DpcNo}
use Rattle.nt_event.specs.declared.numbers.ThreadNo.{ThreadNo}
use Rattle.nt_event.specs.declared.scripts.Script.{Script}
use Rattle.nt_event.specs.Frames.{Frames, frames_after, frames_in, innermost, thread_if, thread_part}
use Rattle.nt_event.specs.Own.{Own, fire_after, is_rest, took_after}
use Rattle.nt_event.specs.Regions.{sweep_after}
use Rattle.nt_event.specs.Requests.{served_after}
use Rattle.nt_event.specs.Step.{thread_field}
use Rattle.nt_event.specs.Lists.{head_of, table, value_at}
use Rattle.nt_event.specs.Numbers.{is_by, thread}
use Rattle.nt_event.proofs.Tables.{get_or-table, length-table_from, table-same}
use Rattle.nt_floor.proofs.Values.{values_table}
use Rattle.nt_frame.specs.Nesting.{AreNested}
use Rattle.nt_cpu.specs.Fits.{Allow}
use Rattle.nt_cpu.specs.Leaves.{own_with}
use Rattle.nt_cpu.specs.Sound.{AreSmall, IsSmall, IsSmallPart, IsSound}
use Rattle.nt_cpu.specs.States.{CpuState}
use Rattle.nt_cpu.proofs.Based.{based_after}
use Rattle.nt_runs.proofs.Declared.{fire_after_fits}
use Rattle.nt_cpu.proofs.Kept.{waits_after}
use Rattle.nt_cpu.proofs.Small.{LockFits, part_nil, part_of, small_after}

-- the innermost frame is small
pub innermost_small : (m n : ℕ) (x : Frames) (f : Frame) → AreSmall m n x → innermost x ≡ Some f → IsSmall m n f
innermost_small m n x f h k = go x.own refl k
  where
    part : (r : Option ThreadNo) → IsSmallPart m n (option_map_or (frames_in x.threads) r [])
    part None = part_nil m n
    part (Some t) = part_of m n x.threads t.0 h.threads

    on_thread : (fs : List Frame) → thread_part x ≡ fs → head_of fs ≡ Some f → IsSmall m n f
    on_thread [] e q = absurd cc
    on_thread (g ∷ gs) e q =
        let i : g ≡ f = cc in
        let p : IsSmallPart m n (g ∷ gs) = rw (← e) (part x.running) in
        rw (← i) (All-head (IsSmall m n) g gs p.frames)

    go : (os : List Frame) → x.own ≡ os → option_or (head_of os) (head_of (thread_part x)) ≡ Some f → IsSmall m n f
    go [] e q = on_thread (thread_part x) refl q
    go (g ∷ gs) e q =
        let i : g ≡ f = cc in
        rw (← i) (All-head (IsSmall m n) g gs (rw e at h.own))

-- the record of what is left, field by field
pub left_is : (c : CpuState) (n : ℕ) (due : Option ℕ) (e : Event) (fs : Frames) (served : List ℕ) (rested : Bool) (took : Option ThreadNo)
    (fire : Option DpcNo) (sweep : Bool) → length c.own.seen ≡ 16 → fs ≡ frames_after c.script n due e c.own.frames →
    served ≡ table 16 (λ k. served_after e.what k (value_at c.own.seen k) (value_at c.own.served k)) → rested ≡ is_rest e.what →
    took ≡ took_after e.what c.own.took → fire ≡ fire_after c.script e.what c.own.fire → sweep ≡ sweep_after e.what c.own.sweep →
    record c {
      own = record { made = c.own.made + 1; frames = fs; seen = c.own.seen; served = served; rested = rested; took = took; fire = fire; sweep = sweep };
    }
    ≡ record c { own = own_with c.script n due e (λ k. value_at c.own.seen k) c.own }
left_is c n due e fs served rested took fire sweep l a d r t f w =
    λ i. record c { own = record { made = c.own.made + 1; frames = a i; seen = seen i; served = d i; rested = r i; took = t i; fire = f i; sweep = w i } }
  where
    seen : c.own.seen ≡ table 16 (λ k. value_at c.own.seen k)
    seen = values_table c.own.seen l

-- other values seen are as sound
pub sound_seen : (c : CpuState) (xs : List ℕ) → IsSound c → length xs ≡ 16 → IsSound (record c { own = record c.own { seen = xs } })
sound_seen c xs h l = record {
  script = h.script;
  cpu = h.cpu;
  limit = h.limit;
  made = h.made;
  seen = l;
  served = h.served;
  threads = h.threads;
  nested = h.nested;
  small = h.small;
  based = h.based;
  waits = h.waits;
  fire = h.fire;
}

-- the first of eight tests that hold together holds
first_test : (a b c d e f g h : Bool) → (a && b && c && d && e && f && g && h) ≡ true → a ≡ true
first_test true b c d e f g h k = refl
first_test false b c d e f g h k = k

-- a script that fits has at most 64 locks
pub locks_most : (s : Script) → fits s ≡ true → s.locks ≤ 64
locks_most s f =
    let m : meets_limits s ≡ true = first_test (meets_limits s) _ _ _ _ _ _ _ f in
    let l : nat_le s.locks 64 ≡ true = and_right _ (nat_le s.locks 64) (and_left _ _ (and_left _ _ m)) in
    grind (arith, nat_tests)

-- an event that the frames allow acquires a lock of the script
allowed_lock : (s : Script) (w : What) (x : Frames) → Allow s w x → LockFits s.locks w
allowed_lock s (Call f c y) x a = a.2
allowed_lock s _ x a = tt

-- what holds of a processor at any time holds after an event that its frames allow
pub sound_after : (c : CpuState) (n : ℕ) (due : Option ℕ) (e : Event) (seen : ℕ → ℕ) → IsSound c → c.own.made < c.limit → IfSome due (λ d. d < 2 ^ 51) →
    e.thread ≡ thread_field e.what c.own.frames.running → Allow c.script e.what c.own.frames → AreNested (frames_after c.script n due e c.own.frames) →
    IsSound (record c { own = own_with c.script n due e seen c.own })
sound_after c n due e seen h m d t a nested = record {
  script = h.script;
  cpu = h.cpu;
  limit = h.limit;
  made = omega arith;
  seen = length-table_from 0 16 seen;
  served = length-table_from 0 16 (λ k. served_after e.what k (seen k) (value_at c.own.served k));
  threads = length-table_from 0 (length c.script.threads)
      (λ t. thread_if (is_by e (thread t)) c.script n due e.what (frames_in c.own.frames.threads (thread t)));
  nested = nested;
  small = small_after c.script.locks c.script c.own.made n due e c.own.frames d (allowed_lock c.script e.what c.own.frames a) h.small;
  based = based_after c.script n due e c.own.frames h.threads t
      (rw (
        length-table_from {A = List Frame} 0 (length c.script.threads)
            (λ t. thread_if (is_by e (thread t)) c.script n due e.what (frames_in c.own.frames.threads (thread t))),
        ← h.threads,
      ) at nested.running) h.based;
  waits = waits_after c.script n due e.what c.own.frames a h.waits;
  fire = fire_after_fits c.script e.what c.own.fire h.script h.fire;
}

-- only the values of the sixteen classes matter
pub own_with_same : (s : Script) (n : ℕ) (due : Option ℕ) (e : Event) (f g : ℕ → ℕ) (x : Own) → ((k : ℕ) → k < 16 → f k ≡ g k) → own_with s n due e f x
    ≡ own_with s n due e g x
own_with_same s n due e f g x h =
    λ i. record {
      made = x.made + 1;
      frames = frames_after s n due e x.frames;
      seen = seen i;
      served = served i;
      rested = is_rest e.what;
      took = took_after e.what x.took;
      fire = fire_after s e.what x.fire;
      sweep = sweep_after e.what x.sweep;
    }
  where
    seen : table 16 f ≡ table 16 g
    seen = table-same 16 f g h

    served : table 16 (λ k. served_after e.what k (f k) (value_at x.served k)) ≡ table 16 (λ k. served_after e.what k (g k) (value_at x.served k))
    served =
        table-same 16 _ _ (λ k b. ap (λ (v : ℕ). served_after e.what k v (value_at x.served k)) (h k b))

-- what is left where these values were seen before the event
pub taken_seen : (c d : CpuState) (n : ℕ) (due : Option ℕ) (e : Event) (xs : List ℕ) (f : ℕ → ℕ) → xs ≡ table 16 f → d
    ≡ record c { own = own_with c.script n due e (λ k. value_at xs k) (record c.own { seen = xs }) } → d
    ≡ record c { own = own_with c.script n due e f c.own }
taken_seen c d n due e xs f a b =
    b
    ∙ (ap (λ (ys : List ℕ). record c { own = own_with c.script n due e (λ k. value_at ys k) (record c.own { seen = ys }) }) a
    ∙ ap (λ (x : Own). record c { own = x }) (own_with_same c.script n due e (λ k. value_at (table 16 f) k) f c.own (λ k h. get_or-table 16 k f 0 h)))
