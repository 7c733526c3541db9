-- The conditions of a list of calls of frames, as a test that computes.
use Rattle.std.proofs.Common.{◌≡◌, ℕ, ◌<◌, ◌≤◌, Bool, true, false, not, ◌&&◌, nat_le, nat_lt, Option, None, Some, is_none, is_some, List, [], ◌∷◌, All, get_or}
use Rattle.std.proofs.Common.{length, arith, refl}
use Rattle.std.proofs.lemmas.List.Sums.{AllPass-from_list_all}
use Rattle.std.proofs.lemmas.Bool.Decides.{nat_tests}
use Rattle.std.specs.List.{list_all}
use Rattle.std.specs.Option.{ForSome, option_map_or}
use Rattle.nt_event.specs.declared.commands.Command.TheVariants.{Acquire}
use Rattle.nt_event.specs.Frame.{Frame}
use Rattle.nt_event.specs.Frames.{Frames, innermost}
use Rattle.nt_frame.specs.declared.calls.FrameCall.{FrameCall}
use Rattle.nt_frame.specs.declared.calls.FrameCall.TheVariants.{Acquired, AdvancePlace, Begin, EndBase, Enter, Finish, Free, Gone, Leave, Lower, Normal, Raise}
use Rattle.nt_frame.specs.declared.calls.FrameCall.TheVariants.{SetAgain}
use Rattle.nt_frame.specs.declared.calls.FrameCall.TheVariants.{SwitchAway, SwitchTo, Unlock}
use Rattle.nt_frame.specs.Calls.{MayCall, MayCallAll, left_by}
use Rattle.nt_frame.specs.Nesting.{next_name}
use Rattle.nt_frame.specs.Rules.{count_of, is_at_base, is_leaving, may_begin, may_go_on, refusal_in, regions_in}
use Rattle.nt_event.proofs.Booleans.{and_left, and_right, lt_is, none_is}

abbrev pub are_named_below : ℕ → Frames → Bool
are_named_below n x =
    nat_le (next_name x.own) n && list_all (λ fs. nat_le (next_name fs) n) x.threads

abbrev pub may_call : FrameCall → Frames → Bool
may_call (Begin b n) x = may_begin b x && are_named_below n x
may_call Normal x = may_go_on x
may_call Finish x = is_some (innermost x) && not (is_at_base x)
may_call (Raise l) x = is_some (innermost x)
may_call (Lower l) x = is_some (innermost x)
may_call (Enter r) x = nat_lt (count_of r (regions_in x)) 4294967295
may_call (Leave r) x = true
may_call (SwitchTo t) x = is_none x.running && nat_lt t.0 (length x.threads)
may_call SwitchAway x = is_some x.running
may_call EndBase x = is_at_base x && not (is_leaving x)
may_call Gone x = is_leaving x
may_call (SetAgain a) x = is_some (innermost x)
may_call AdvancePlace x =
    is_some (innermost x) && option_map_or (λ f. nat_lt f.place 4294967295) (innermost x) false
may_call (Acquired k done) x = nat_lt k.0 64 && (is_some (innermost x) && is_none (refusal_in (Acquire k) x))
may_call (Unlock k) x = true
may_call Free x = true

abbrev pub may_call_all : List FrameCall → Frames → Bool
may_call_all [] x = true
may_call_all (c ∷ cs) x = may_call c x && may_call_all cs (left_by c x)

-- numbers in order by the test are in order
le_is : (a b : ℕ) → nat_le a b ≡ true → a ≤ b
le_is a b h = grind (arith, nat_tests)

-- a flag whose negation is true is false
not_is : (b : Bool) → not b ≡ true → b ≡ false
not_is true h = cc
not_is false h = refl

-- if all lists of frames pass the test, the next name of each is at most the bound
all_named : (n : ℕ) (parts : List (List Frame)) → list_all (λ fs. nat_le (next_name fs) n) parts ≡ true → All (λ fs. next_name fs ≤ n) parts
all_named n parts h k d i =
    le_is (next_name (get_or parts k d)) n (AllPass-from_list_all (λ fs. nat_le (next_name fs) n) parts h k d i)

-- if an optional frame is there and passes the test, its place is below 2 to the 32nd less one
place_is : (o : Option Frame) → option_map_or (λ f. nat_lt f.place 4294967295) o false ≡ true → ForSome o (λ f. f.place < 4294967295)
place_is None h f e = cc
place_is (Some g) h f e = let s : g ≡ f = cc in rw (← s) (lt_is g.place 4294967295 h)

-- a call of frames that passes the test may be made in those frames
pub call_allowed : (c : FrameCall) (x : Frames) → may_call c x ≡ true → MayCall c x
call_allowed (Begin b n) x h =
    let m : are_named_below n x ≡ true = and_right (may_begin b x) _ h in
    (and_left _ _ h, (le_is (next_name x.own) n (and_left _ _ m), all_named n x.threads (and_right (nat_le (next_name x.own) n) _ m)))
call_allowed Normal x h = h
call_allowed Finish x h = (and_left _ _ h, not_is (is_at_base x) (and_right (is_some (innermost x)) _ h))
call_allowed (Raise l) x h = h
call_allowed (Lower l) x h = h
call_allowed (Enter r) x h = lt_is (count_of r (regions_in x)) 4294967295 h
call_allowed (Leave r) x h = tt
call_allowed (SwitchTo t) x h =
    (none_is x.running (and_left _ _ h), lt_is t.0 (length x.threads) (and_right (is_none x.running) _ h))
call_allowed SwitchAway x h = h
call_allowed EndBase x h = (and_left _ _ h, not_is (is_leaving x) (and_right (is_at_base x) _ h))
call_allowed Gone x h = h
call_allowed (SetAgain a) x h = h
call_allowed AdvancePlace x h =
    (and_left _ _ h, place_is (innermost x) (and_right (is_some (innermost x)) _ h))
call_allowed (Acquired k done) x h =
    let tries : (is_some (innermost x) && is_none (refusal_in (Acquire k) x)) ≡ true = and_right (nat_lt k.0 64) _ h in
    (lt_is k.0 64 (and_left _ _ h), and_left _ _ tries, none_is (refusal_in (Acquire k) x) (and_right (is_some (innermost x)) _ tries))
call_allowed (Unlock k) x h = tt
call_allowed Free x h = tt

-- a list of calls of frames that passes the test may be made, each in the frames that the ones before it leave
pub calls_allowed : (cs : List FrameCall) (x : Frames) → may_call_all cs x ≡ true → MayCallAll cs x
unfolding MayCallAll
calls_allowed [] x h = tt
calls_allowed (c ∷ cs) x h =
    (call_allowed c x (and_left _ _ h), calls_allowed cs (left_by c x) (and_right (may_call c x) _ h))
