-- Ranks: which routine may begin over which, and how many frames there are.
use Rattle.std.proofs.Common.{◌≡◌, ◌≢◌, ℕ, ◌-◌, ◌<◌, ◌≤◌, Bool, true, false, if◌then◌else◌, nat_lt, List, [], ◌∷◌, length, refl, arith, lit<, lit≤}
use Rattle.std.proofs.lemmas.Bool.Decides.{nat_tests}
use Rattle.nt_event.specs.declared.commands.ApcKind.TheVariants.{Normal, Special, User}
use Rattle.nt_event.specs.declared.frames.Body.{Body}
use Rattle.nt_event.specs.declared.frames.Body.TheVariants.{Apc, Base, Dpc, Int, Rundown, Threaded}
use Rattle.nt_event.specs.Frame.{Frame}
use Rattle.nt_event.specs.Frames.{base_level, is_normal_apc_body}
use Rattle.nt_event.specs.Classes.{is_isr_level}
use Rattle.nt_frame.specs.Changes.{is_own}
use Rattle.nt_frame.specs.Nesting.{IsOver, IsPart, has_isr_level, is_special_body, rank}

-- the levels of interrupts are 3 to 11, 13 and 14
isr_level_is : (l : ℕ) → is_isr_level l ≡ true → (3 ≤ l) × (l ≤ 14) × (l ≢ 12)
isr_level_is l h = (grind (arith, nat_tests), grind (arith, nat_tests), λ e. absurd (cc))

-- the rank of an interrupt level from 3 to 14, 12 left out, is from 3 to 13
int_rank_bounds : (l : ℕ) → (3 ≤ l) × (l ≤ 14) × (l ≡ 12 → ⊥) → (3 ≤ (if nat_lt l 12 then l else (l - 1))) × ((if nat_lt l 12 then l else (l - 1)) ≤ 13)
int_rank_bounds l h = (grind (arith, nat_tests), grind (arith, nat_tests))

-- a higher interrupt level has a higher rank, if it isn't 12
int_rank-lt : (k l : ℕ) → (l ≡ 12 → ⊥) → k < l → (if nat_lt k 12 then k else (k - 1)) < (if nat_lt l 12 then l else (l - 1))
int_rank-lt k l h t = grind (arith, nat_tests)

-- the rank of a routine is between 1 and 13, if an interrupt's level is one of an ISR
pub rank_bounds : (b : Body) → has_isr_level b ≡ true → (0 < rank b) × (rank b ≤ 13)
rank_bounds (Int l) h =
    let k : (3 ≤ (if nat_lt l 12 then l else (l - 1))) × ((if nat_lt l 12 then l else (l - 1)) ≤ 13) = int_rank_bounds l (isr_level_is l h) in
    (omega (arith, k.0), k.1)
rank_bounds (Dpc d) h = (lit< tt, lit≤ tt)
rank_bounds (Threaded d) h = (lit< tt, lit≤ tt)
rank_bounds (Apc a User) h = (lit< tt, lit≤ tt)
rank_bounds (Apc a Normal) h = (lit< tt, lit≤ tt)
rank_bounds (Apc a Special) h = (lit< tt, lit≤ tt)
rank_bounds (Base t) h = (lit< tt, lit≤ tt)
rank_bounds (Rundown a) h = (lit< tt, lit≤ tt)

-- the rank of a routine of a thread is at most 4
pub thread_rank_bound : (b : Body) → is_own b ≡ false → rank b ≤ 4
thread_rank_bound (Int l) h = cc
thread_rank_bound (Dpc d) h = cc
thread_rank_bound (Threaded d) h = cc
thread_rank_bound (Apc a User) h = lit≤ tt
thread_rank_bound (Apc a Normal) h = lit≤ tt
thread_rank_bound (Apc a Special) h = lit≤ tt
thread_rank_bound (Base t) h = lit≤ tt
thread_rank_bound (Rundown a) h = lit≤ tt

-- a part has room for a frame that may stand over it: it has fewer frames than that one's rank
pub length-under : (own : Bool) (fs : List Frame) (f : Frame) → IsPart own fs → IsOver f fs → 0 < rank f.body → length fs < rank f.body
length-under own [] f p o r = r
length-under own (g ∷ gs) f p o r =
    let k : length gs < rank g.body = length-under own gs g p.2 p.1 (rank_bounds g.body p.0.interrupt).0 in
    omega (arith, o.0)

-- ---- over which frames a routine may begin

-- an interrupt begins over a frame of a lower level
pub below_int : (b : Body) (k : Bool) (level l : ℕ) → is_own b ≡ true → base_level b k ≤ level → level < l → is_isr_level l ≡ true → rank b < rank (Int l)
below_int (Int m) k level l o h t i = int_rank-lt m l (isr_level_is l i).2 (omega arith)
below_int (Dpc d) k level l o h t i = omega (arith, (int_rank_bounds l (isr_level_is l i)).0)
below_int (Threaded d) k level l o h t i = omega (arith, (int_rank_bounds l (isr_level_is l i)).0)
below_int (Apc a kind) k level l o h t i = cc
below_int (Base u) k level l o h t i = cc
below_int (Rundown a) k level l o h t i = cc

-- a DPC begins over a threaded DPC
pub below_dpc : (b : Body) (k : Bool) (level : ℕ) → is_own b ≡ true → has_isr_level b ≡ true → base_level b k ≤ level → level < 2 → rank b < 2
below_dpc (Int m) k level o i h t = absurd (omega (arith, (isr_level_is m i).0))
below_dpc (Dpc d) k level o i h t = absurd (omega arith)
below_dpc (Threaded d) k level o i h t = lit< tt
below_dpc (Apc a kind) k level o i h t = cc
below_dpc (Base u) k level o i h t = cc
below_dpc (Rundown a) k level o i h t = cc

-- at PASSIVE_LEVEL a special APC begins over a frame that isn't one, and a normal one where none is in progress
pub below_apc : (b : Body) (k : Bool) → is_own b ≡ false → base_level b k ≤ 0 → (is_special_body b ≡ true → k ≡ true) → rank b < 4
below_apc (Int m) k o h s = cc
below_apc (Dpc d) k o h s = cc
below_apc (Threaded d) k o h s = cc
below_apc (Apc a User) k o h s = lit< tt
below_apc (Apc a Normal) k o h s = lit< tt
below_apc (Apc a Special) k o h s =
    let p : k ≡ true = s refl in absurd (omega (arith, rw p at h))
below_apc (Base u) k o h s = lit< tt
below_apc (Rundown a) k o h s = lit< tt

-- a routine of a thread with a rank below 4 that is no normal APC has a rank below 3
pub below_normal : (b : Body) → is_own b ≡ false → rank b < 4 → is_normal_apc_body b ≡ false → rank b < 3
below_normal (Int m) o r n = cc
below_normal (Dpc d) o r n = cc
below_normal (Threaded d) o r n = cc
below_normal (Apc a User) o r n = lit< tt
below_normal (Apc a Normal) o r n = cc
below_normal (Apc a Special) o r n = absurd (omega arith)
below_normal (Base u) o r n = lit< tt
below_normal (Rundown a) o r n = lit< tt
