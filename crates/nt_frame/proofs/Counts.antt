-- How many frames are open: an end leaves one fewer.
use Rattle.std.proofs.Common.{◌<◌, Option, None, Some, List, [], ◌∷◌, get_or, length, arith}
use Rattle.std.proofs.lemmas.List.{get_or-set_same}
use Rattle.std.specs.Option.{IfSome, IsSome}
use Rattle.nt_event.specs.declared.numbers.ThreadNo.{ThreadNo}
use Rattle.nt_event.specs.Frame.{Frame}
use Rattle.nt_event.specs.Frames.{Frames, innermost}
use Rattle.nt_event.specs.Lists.{head_of, tail_of}
use Rattle.nt_frame.specs.Changes.{without_innermost}
use Rattle.nt_frame.specs.Nesting.{AreNested, frame_count}

-- a part that has an innermost frame has one fewer without it
fewer_in : (fs : List Frame) → IsSome (head_of fs) → length (tail_of fs) < length fs
fewer_in [] some = absurd (cc)
fewer_in (f ∷ fs) some = omega arith

-- where a routine runs, one frame fewer is open once it has ended
pub fewer_ended : (x : Frames) → AreNested x → IsSome (innermost x) → frame_count (without_innermost x) < frame_count x
fewer_ended x a some = go x.own x.running x.threads a.running some
  where
    go : (own : List Frame) (running : Option ThreadNo) (threads : List (List Frame)) → IfSome running (λ t. t.0 < length threads) →
        IsSome (innermost (record { own = own; running = running; threads = threads })) →
        frame_count (without_innermost (record { own = own; running = running; threads = threads }))
        < frame_count (record { own = own; running = running; threads = threads })
    go (f ∷ fs) running threads below some = omega arith
    go [] None threads below some = absurd (cc)
    go [] (Some t) threads below some =
        let left = fewer_in (get_or threads t.0 []) some in
        rw (get_or-set_same threads t.0 (tail_of (get_or threads t.0 [])) [] below) (omega (arith, left))
