-- The generator's number after draws, and where commands begin.
use Rattle.std.proofs.Common.{List, ap, arith, refl, suc, sym, zero, ℕ, ◌*◌, ◌+◌, ◌∙◌, ◌≡◌}
use Rattle.nt_event.proofs.Tables.{table-same}
use Rattle.nt_event.specs.Lists.{table}
use Rattle.nt_event.specs.declared.commands.Command.{Command}
use Rattle.nt_load.specs.Commands.{begin, command_at, command_of, commands, draw_count, draws_before, row_at}
use Rattle.nt_event.specs.declared.scripts.Routine.{Routine}
use Rattle.nt_load.specs.Load.{busy_routine}
use Rattle.nt_load.specs.Draws.{after, next}

-- some draws and then more are as many draws as both together
pub after_both : (j k x : ℕ) → after j (after k x) ≡ after (k + j) x
unfolding after
after_both zero k x = ap (λ (n : ℕ). after n x) (omega arith)
after_both (suc j) k x =
    let e : suc (k + j) ≡ k + suc j = omega arith in
    ap next (after_both j k x) ∙ ap (λ (n : ℕ). after n x) e

-- the next command begins behind the draws of the one before it
pub begin_more : (n x : ℕ) → begin (n + 1) x ≡ after (draw_count (begin n x)) (begin n x)
unfolding draws_before
begin_more n x =
    let e : n + 1 ≡ suc n = omega arith in
    ap (λ (k : ℕ). begin k x) e ∙ sym (after_both (draw_count (begin n x)) (draws_before n x) x)

-- the commands behind the first n begin as the commands do that are drawn from there
pub draws_both : (n m x : ℕ) → draws_before n x + draws_before m (begin n x) ≡ draws_before (n + m) x
unfolding draws_before
draws_both n zero x = nothing (draws_before n x) ∙ ap (λ (k : ℕ). draws_before k x) (omega arith)
  where
    nothing : (k : ℕ) → k + 0 ≡ k
    nothing k = omega arith
draws_both n (suc m) x =
    let e : n + suc m ≡ suc (n + m) = omega arith in
    let rest = draws_both n m x in
    let b : begin m (begin n x) ≡ begin (n + m) x = after_both (draws_before m (begin n x)) (draws_before n x) x
    ∙ ap (λ (k : ℕ). after k x) rest in
    rw e (grown (draws_before n x) (draws_before m (begin n x)) (draws_before (n + m) x)
    (draw_count (begin m (begin n x))) (draw_count (begin (n + m) x)) rest (ap (λ (y : ℕ). draw_count y) b))
  where
    grown : (a b c p q : ℕ) → a + b ≡ c → p ≡ q → a + (b + p) ≡ c + q
    grown a b c p q e f = omega (arith, e, f)

-- the number after some commands and then more is the number after as many commands as both together
pub begin_both : (n m x : ℕ) → begin m (begin n x) ≡ begin (n + m) x
begin_both n m x =
    after_both (draws_before m (begin n x)) (draws_before n x) x ∙ ap (λ (k : ℕ). after k x) (draws_both n m x)

-- the first command begins at the number that is given
pub begin_none : (x : ℕ) → x ≡ begin 0 x
unfolding after draws_before
begin_none x = refl

-- a command begins after the draws of the one before it
pub begin_next : (n x y z : ℕ) → y ≡ begin n x → z ≡ after (draw_count y) y → z ≡ begin (n + 1) x
begin_next n x y z e f = f ∙ (ap (λ (b : ℕ). after (draw_count b) b) e ∙ sym (begin_more n x))

-- a command counted from where an earlier one begins is the one with the sum of both numbers
command_both : (n i x : ℕ) → command_at i (begin n x) ≡ command_at (n + i) x
command_both n i x = ap (λ (b : ℕ). command_of (row_at b) b) (begin_both n i x)

-- the commands behind the first n
pub commands_both : (n m x y : ℕ) → y ≡ begin n x → commands m y ≡ table m (λ i. command_at (n + i) x)
commands_both n m x y e =
    ap (λ (b : ℕ). commands m b) e
    ∙ table-same m (λ i. command_at i (begin n x)) (λ i. command_at (n + i) x) (λ i l. command_both n i x)

-- a routine begins 128 commands after the one before it
pub begin_routine : (r x y z : ℕ) → y ≡ begin (128 * r) x → z ≡ begin 128 y → z ≡ begin (128 * (r + 1)) x
begin_routine r x y z e f =
    let n : 128 * r + 128 ≡ 128 * (r + 1) = omega arith in
    f ∙ (ap (λ (b : ℕ). begin 128 b) e ∙ (begin_both (128 * r) 128 x ∙ ap (λ (k : ℕ). begin k x) n))

-- the 128 commands that are drawn from where a routine begins are those of the busy routine
pub busy_routine_is : (r x y : ℕ) (routine : Routine) → y ≡ begin (128 * r) x → routine.commands ≡ commands 128 y → routine ≡ busy_routine x r
busy_routine_is r x y routine e f =
    ap (λ (cs : List Command). record { commands = cs }) (f ∙ commands_both (128 * r) 128 x y e)
