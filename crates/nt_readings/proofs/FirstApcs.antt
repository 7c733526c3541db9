-- The pending APCs of a thread stand by falling numbers, so the first of a kind is the one of least number.
use Rattle.std.proofs.Common.{arith, inl, inr, subst, sym}
use Rattle.std.specs.Option.{option_or}
use Rattle.std.specs.Prelude.{Bool, List, None, Option, Some, [], false, find, if◌then◌else◌, length, refl, reverse, suc, true, ℕ, ◌==◌, ◌∷◌, ◌≡◌}
use Rattle.nt_event.specs.declared.commands.ApcKind.{ApcKind}
use Rattle.nt_event.specs.declared.commands.ApcKind.TheVariants.{Normal as NormalApc, Special as SpecialApc, User as UserApc}
use Rattle.nt_event.specs.declared.commands.Command.TheVariants.{InsertApc, RemoveApc}
use Rattle.nt_event.specs.declared.commands.Reply.TheVariants.{Yes}
use Rattle.nt_event.specs.declared.events.Begun.TheVariants.{Apc}
use Rattle.nt_event.specs.declared.events.Event.{Event}
use Rattle.nt_event.specs.declared.events.What.{What}
use Rattle.nt_event.specs.declared.events.What.TheVariants.{Begin, Call, Flush}
use Rattle.nt_event.specs.declared.inserts.Pick.{Pick}
use Rattle.nt_event.specs.declared.numbers.ThreadNo.{ThreadNo}
use Rattle.nt_event.specs.declared.scripts.Script.{Script}
use Rattle.nt_event.specs.Apcs.{first_kernel, first_user, is_of_kind}
use Rattle.nt_event.specs.Routines.{owner_of}
use Rattle.nt_event.specs.Waits.{facts, is_of_thread, new_pick}
use Rattle.nt_readings.specs.FirstApcs.{IsFirstKernel, IsFirstUser, IsLeastOfKind, PicksFall}
use Rattle.nt_event.proofs.Elements.{found_contains, reversed_contains}
use Rattle.nt_laws.proofs.Fates.Picks.{made_picks, named_picks, picks_move, without_pick}
use Rattle.nt_runs.proofs.Falling.{falls_from, falls_kept, last_least, none_last}

-- ---- the numbers fall

-- the numbers of the pending APCs still fall after the thread's own event begins or flushes one
made_fall : (n : ℕ) (w : What) (xs : List Pick) → PicksFall n xs → PicksFall n (made_picks w xs)
made_fall n (Begin (Apc a) from) xs f = falls_kept Pick (λ (x : Pick). x.number) n _ xs f
made_fall n (Flush a from) xs f = falls_kept Pick (λ (x : Pick). x.number) n _ xs f
made_fall n w xs f = f

-- the numbers of the pending APCs still fall after a call inserts or removes one
named_fall : (s : Script) (t : ThreadNo) (n : ℕ) (w : What) (xs : List Pick) → PicksFall n xs → PicksFall (suc n) (named_picks s t n w xs)
named_fall s t n (Call f (InsertApc a) Yes) xs h = go ((owner_of s a).0 == t.0)
  where
    go : (b : Bool) → PicksFall (suc n) (if b then (new_pick s a n ∷ xs) else xs)
    go true = (omega arith, h)
    go false = falls_from Pick (λ (x : Pick). x.number) n (suc n) xs (omega arith) h
named_fall s t n (Call f (RemoveApc a) Yes) xs h = go ((owner_of s a).0 == t.0)
  where
    go : (b : Bool) → PicksFall (suc n) (if b then without_pick a xs else xs)
    go true = falls_from Pick (λ (x : Pick). x.number) n (suc n) (without_pick a xs) (omega arith) (falls_kept Pick (λ (x : Pick). x.number) n _ xs h)
    go false = falls_from Pick (λ (x : Pick). x.number) n (suc n) xs (omega arith) h
named_fall s t n w xs h = falls_from Pick (λ (x : Pick). x.number) n (suc n) xs (omega arith) h

-- the pending APCs of a thread stand by falling numbers, each that of an earlier event
pub picks_fall : (s : Script) (t : ThreadNo) (past : List Event) → PicksFall (length past) (facts s t past).apcs.pending
picks_fall s t [] = tt
picks_fall s t (e ∷ past) =
    subst (PicksFall (suc (length past))) (sym (picks_move s t e past))
    (named_fall s t (length past) e.what (if is_of_thread s t e then made_picks e.what (facts s t past).apcs.pending else (facts s t past).apcs.pending)
    (mine (is_of_thread s t e) (picks_fall s t past)))
  where
    mine : (b : Bool) → PicksFall (length past) (facts s t past).apcs.pending →
        PicksFall (length past) (if b then made_picks e.what (facts s t past).apcs.pending else (facts s t past).apcs.pending)
    mine true f = made_fall (length past) e.what (facts s t past).apcs.pending f
    mine false f = f

-- ---- the firsts

-- the pending APC of a kind that is found from the oldest on has the least number of its kind
of_kind : (kind : ApcKind) (n : ℕ) (xs : List Pick) (x : Pick) → PicksFall n xs → find (is_of_kind kind) (reverse xs) ≡ Some x → IsLeastOfKind kind xs x
of_kind kind n xs x f e =
    let found = found_contains (is_of_kind kind) (reverse xs) x e in
    (reversed_contains xs x found.0, found.1, λ y c t. last_least Pick (λ (x : Pick). x.number) (is_of_kind kind) n xs x y f e c t)

-- the user APC that is found from the oldest on is the first user APC
user_reads : (n : ℕ) (xs : List Pick) → PicksFall n xs → IsFirstUser xs (find (is_of_kind UserApc) (reverse xs))
user_reads n xs f = go (find (is_of_kind UserApc) (reverse xs)) refl
  where
    go : (o : Option Pick) → find (is_of_kind UserApc) (reverse xs) ≡ o → IsFirstUser xs o
    go None e = λ y c. none_last Pick (λ (x : Pick). x.number) (is_of_kind UserApc) xs y e c
    go (Some x) e = of_kind UserApc n xs x f e

-- the oldest special APC, else the oldest normal one, is the first kernel APC
kernel_reads : (n : ℕ) (xs : List Pick) → PicksFall n xs →
    IsFirstKernel xs (option_or (find (is_of_kind SpecialApc) (reverse xs)) (find (is_of_kind NormalApc) (reverse xs)))
kernel_reads n xs f = go (find (is_of_kind SpecialApc) (reverse xs)) refl
  where
    normal : (o : Option Pick) → find (is_of_kind SpecialApc) (reverse xs) ≡ None → find (is_of_kind NormalApc) (reverse xs) ≡ o → IsFirstKernel xs o
    normal None e k = (
      λ y c. none_last Pick (λ (x : Pick). x.number) (is_of_kind SpecialApc) xs y e c,
      λ y c. none_last Pick (λ (x : Pick). x.number) (is_of_kind NormalApc) xs y k c,
    )
    normal (Some x) e k = inr (λ y c. none_last Pick (λ (x : Pick). x.number) (is_of_kind SpecialApc) xs y e c, of_kind NormalApc n xs x f k)

    go : (o : Option Pick) → find (is_of_kind SpecialApc) (reverse xs) ≡ o → IsFirstKernel xs (option_or o (find (is_of_kind NormalApc) (reverse xs)))
    go None e = normal (find (is_of_kind NormalApc) (reverse xs)) e refl
    go (Some x) e = inl (of_kind SpecialApc n xs x f e)

-- the first kernel APC and the first user APC of a thread are those of least number, a special one first
pub firsts_by_number : (s : Script) (t : ThreadNo) (past : List Event) → IsFirstKernel (facts s t past).apcs.pending (first_kernel (facts s t past).apcs) ×
    IsFirstUser (facts s t past).apcs.pending (first_user (facts s t past).apcs)
firsts_by_number s t past = (
  kernel_reads (length past) (facts s t past).apcs.pending (picks_fall s t past),
  user_reads (length past) (facts s t past).apcs.pending (picks_fall s t past),
)
