-- What the tests of the next event say of the frames: the conditions of the calls that make it.
use Rattle.std.proofs.Common.{◌≡◌, ℕ, ◌==◌, Bool, true, false, not, ◌&&◌, if◌then◌else◌, None, Some, List, [], ◌∷◌, get_or, refl}
use Rattle.std.specs.List.{find, list_all}
use Rattle.nt_event.specs.declared.commands.ApcKind.{ApcKind}
use Rattle.nt_event.specs.declared.commands.ApcKind.TheVariants.{Normal, Special, User}
use Rattle.nt_event.specs.declared.commands.Command.{Command}
use Rattle.nt_event.specs.declared.commands.Command.TheVariants.{ToUser}
use Rattle.nt_event.specs.declared.frames.Body.TheVariants.{Apc, Base, Dpc, Int, Rundown, Threaded}
use Rattle.nt_event.specs.Frame.{Frame}
use Rattle.nt_event.specs.declared.numbers.ApcNo.{ApcNo}
use Rattle.nt_event.specs.declared.numbers.DpcNo.{DpcNo}
use Rattle.nt_event.specs.declared.numbers.ThreadNo.{ThreadNo}
use Rattle.nt_event.specs.Apcs.{lets_through}
use Rattle.nt_event.specs.Commands.{refusal}
use Rattle.nt_event.specs.Frames.{Frames, frames_in, innermost, is_base_body, is_on_thread, level_in}
use Rattle.nt_event.specs.Jobs.{has_normal, level_at, may_apcs, may_drain, may_interrupt, may_threaded}
use Rattle.nt_event.specs.Classes.{interrupt_classes, is_isr_level}
use Rattle.nt_event.specs.Own.{Own}
use Rattle.nt_event.specs.Routines.{is_kernel_kind}
use Rattle.nt_event.specs.Lists.{is_null}
use Rattle.nt_frame.specs.Rules.{is_at_base, is_leaving, may_begin, may_go_on, refusal_in, regions_in}
use Rattle.nt_frame.specs.Changes.{taken}
use Rattle.nt_frame.proofs.Named.{same_name}
use Rattle.nt_event.proofs.Booleans.{and_both, and_left, and_right}

-- ---- what is known of the innermost frame

-- whether a command is refused is decided by the level, the own part, the regions and the innermost frame
pub refusal_here : (c : Command) (f : Frame) (x : Frames) → innermost x ≡ Some f →
    refusal_in c x ≡ refusal (level_in x) (not (is_null x.own)) (regions_in x) f c
refusal_here c f x k = rw k

-- the processor is in a leaving thread exactly if its innermost frame is leaving
pub leaving_here : (f : Frame) (x : Frames) → innermost x ≡ Some f → is_leaving x ≡ f.leaving
leaving_here f x k = rw k

-- the processor is at a base exactly if its innermost frame is a base
pub base_here : (f : Frame) (x : Frames) → innermost x ≡ Some f → is_at_base x ≡ is_base_body f.body
base_here f x k = rw k

-- an APC may go on exactly if the innermost frame is in its kernel routine with a normal routine behind it
pub normal_here : (f : Frame) (x : Frames) → innermost x ≡ Some f → may_go_on x ≡ (f.kernel_phase && has_normal f.body)
normal_here f x k = rw k

-- ---- what may begin

-- what a search finds in a list of good numbers passes the search's test and is good
found : (test good : ℕ → Bool) (xs : List ℕ) (c : ℕ) → list_all good xs ≡ true → find test xs ≡ Some c → (test c ≡ true) × (good c ≡ true)
found test good [] c g h = absurd (cc)
found test good (y ∷ ys) c g h =
    go (test y) refl h (λ k. found test good ys c (and_right (good y) _ g) k)
  where
    go : (b : Bool) → test y ≡ b → (if b then Some y else find test ys) ≡ Some c → (find test ys ≡ Some c → (test c ≡ true) × (good c ≡ true)) →
        (test c ≡ true) × (good c ≡ true)
    go true e k later = let s : y ≡ c = cc in (rw (← s) e, rw (← s) (and_left _ _ g))
    go false e k later = later k

-- the interrupt that must begin
pub int_may_begin : (x : Own) (c : ℕ) → find (may_interrupt x) interrupt_classes ≡ Some c → may_begin (Int c) x.frames ≡ true
int_may_begin x c h =
    let f : (may_interrupt x c ≡ true) × (is_isr_level c ≡ true) = found (may_interrupt x) is_isr_level interrupt_classes c refl h in
    and_both _ _ f.1 (and_left _ _ f.0)

-- a processor that may drain its queue may begin a DPC
pub dpc_may_begin : (x : Own) (d : DpcNo) → may_drain x ≡ true → may_begin (Dpc d) x.frames ≡ true
dpc_may_begin x d h = and_left _ _ h

-- on a processor without a frame
pub idle_dpc_may_begin : (x : Frames) (d : DpcNo) → innermost x ≡ None → may_begin (Dpc d) x ≡ true
idle_dpc_may_begin x d k = rw k

-- a processor that may run threaded DPCs may begin a threaded DPC
pub threaded_may_begin : (x : Own) (d : DpcNo) → may_threaded x ≡ true → may_begin (Threaded d) x.frames ≡ true
threaded_may_begin x d h =
    rw (and_left (level_at x == 0) _ h, and_left (is_null x.frames.own) _ (and_right (level_at x == 0) _ h))

-- a processor that may deliver APCs may begin a kernel APC that the regions let through
pub apc_may_begin : (x : Own) (a : ApcNo) (kind : ApcKind) → may_apcs x ≡ true → is_kernel_kind kind ≡ true → lets_through (regions_in x.frames) kind ≡ true →
    may_begin (Apc a kind) x.frames ≡ true
apc_may_begin x a User h k l = cc
apc_may_begin x a Special h k l =
    rw (and_left (is_on_thread x.frames) _ (and_right (level_at x == 0) _ h), and_left (level_at x == 0) _ h) l
apc_may_begin x a Normal h k l =
    rw (and_left (is_on_thread x.frames) _ (and_right (level_at x == 0) _ h), and_left (level_at x == 0) _ h) l

-- where the base routine stands at a `touser` that isn't refused
pub user_may_begin : (x : Frames) (a : ApcNo) → refusal_in ToUser x ≡ None → may_begin (Apc a User) x ≡ true
user_may_begin x a h = rw h

-- in a leaving thread a rundown routine may begin
pub rundown_may_begin : (x : Frames) (a : ApcNo) → is_leaving x ≡ true → may_begin (Rundown a) x ≡ true
rundown_may_begin x a h = h

-- the thread that was just taken up, for the first time
pub base_may_begin : (x : Frames) (t : ThreadNo) → x.own ≡ [] → frames_in x.threads t ≡ [] → may_begin (Base t) (taken t x) ≡ true
base_may_begin x t o p =
    let q : get_or x.threads t.0 [] ≡ [] = p in
    let s : (t.0 == t.0) ≡ true = same_name t.0 in
    rw (s, o, q)
