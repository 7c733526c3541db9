-- In a run a class that was asked for is wanted until an event of its processor serves it.
use Rattle.std.proofs.Common.{ap, arith, subst, ◌∙◌}
use Rattle.std.proofs.lemmas.Bool.{eqb-true}
use Rattle.std.specs.List.{list_any}
use Rattle.std.specs.Prelude.{Bool, List, false, length, refl, suc, true, zero, ℕ, ◌&&◌, ◌+◌, ◌==◌, ◌∷◌, ◌≡◌, ◌≤◌}
use Rattle.nt_event.specs.declared.events.Begun.TheVariants.{Int}
use Rattle.nt_event.specs.declared.events.Event.{Event}
use Rattle.nt_event.specs.declared.events.What.{What}
use Rattle.nt_event.specs.declared.events.What.TheVariants.{Begin, Call, Clean}
use Rattle.nt_event.specs.declared.numbers.CpuNo.{CpuNo}
use Rattle.nt_event.specs.declared.scripts.Script.{Script}
use Rattle.nt_event.specs.Classes.{interrupt_classes}
use Rattle.nt_event.specs.Lanes.{lanes_at}
use Rattle.nt_event.specs.Own.{own_of}
use Rattle.nt_event.specs.Requests.{asked, asks, served, serves}
use Rattle.nt_event.specs.Step.{IsLegal, IsRun}
use Rattle.nt_event.specs.Numbers.{is_of}
use Rattle.nt_runs.proofs.Known.{Known, legal_known}
use Rattle.nt_runs.proofs.Running.{same_cpu}
use Rattle.nt_runs.proofs.Settled.{asked_below, asked_grows, seen_below}
use Rattle.nt_runs.proofs.Turns.{is_next}
use Rattle.nt_runs.proofs.Rundown.{served_below}
use Rattle.nt_close.specs.Close.{IsWanted}
use Rattle.nt_event.specs.Replies.{is_spin}

-- what is served was asked for
pub served_asked : (s : Script) (limit : ℕ) (p : CpuNo) (c : ℕ) (past : List Event) → IsRun s limit past → served s p c past ≤ asked s p c past
served_asked s limit p c past r =
    let a = served_below s limit p c past r in let b = seen_below s limit p c past r in omega (arith, a, b)

-- an event that doesn't serve the class, or one of another processor, leaves what is served
served_stays : (s : Script) (p : CpuNo) (c : ℕ) (e : Event) (past : List Event) → (is_of e p ≡ true → serves c e.what ≡ false) → served s p c (e ∷ past)
    ≡ served s p c past
served_stays s p c e past h = go (is_of e p) refl
  where
    go : (b : Bool) → is_of e p ≡ b → served s p c (e ∷ past) ≡ served s p c past
    go true o = rw (o, h o) refl
    go false o = rw o refl

-- a class that is wanted on a processor stays so after an event that doesn't serve it there
pub stays_wanted : (s : Script) (p : CpuNo) (c : ℕ) (e : Event) (past : List Event) → (is_of e p ≡ true → serves c e.what ≡ false) → IsWanted s p c past →
    IsWanted s p c (e ∷ past)
stays_wanted s p c e past h w =
    let x = served_stays s p c e past h in let y = asked_grows s p c e past in omega (arith, x, y, w)

-- an event that asks for the class and doesn't serve it
pub asks_wanted : (s : Script) (limit : ℕ) (p : CpuNo) (c : ℕ) (e : Event) (past : List Event) → IsRun s limit past →
    (is_of e p ≡ true → serves c e.what ≡ false) → asks s p c e past ≡ true → IsWanted s p c (e ∷ past)
asks_wanted s limit p c e past r h a =
    let x = served_stays s p c e past h in
    let y : asked s p c (e ∷ past) ≡ length past + 1 = rw a refl in
    let z = served_asked s limit p c past r in
    let w = asked_below s p c past in
    omega (arith, x, y, z, w)

-- what is known of an event of p
pub known_here : (s : Script) (limit : ℕ) (p : CpuNo) (e : Event) (past : List Event) → is_of e p ≡ true → IsLegal s limit e past → is_next e.what ≡ true →
    Known s p (own_of s p past) (lanes_at s past) e.what
known_here s limit p e past o g n =
    subst (λ (q : CpuNo). Known s q (own_of s q past) (lanes_at s past) e.what) (same_cpu e p o) (legal_known s limit e past g n)

-- classes below those of interrupts are served by a Clean alone
low_class : (c level : ℕ) → c ≤ 2 → list_any (λ k. k == level) interrupt_classes ≡ true → (level == c) ≡ true → false ≡ true
low_class c level l h e =
    let n : level ≡ c = eqb-true level c e in go c l (rw n at h)
  where
    go : (c : ℕ) → c ≤ 2 → list_any (λ k. k == c) interrupt_classes ≡ true → false ≡ true
    go zero l h = h
    go (suc zero) l h = h
    go (suc (suc zero)) l h = h
    go (suc (suc (suc c))) l h = absurd (omega (arith, l))

-- classes 0 to 2 are served by a Clean of the class only
pub serves_clean : (s : Script) (limit : ℕ) (p : CpuNo) (c : ℕ) (e : Event) (past : List Event) → c ≤ 2 → IsLegal s limit e past → is_of e p ≡ true →
    serves c e.what ≡ true → e.what ≡ Clean c
serves_clean s limit p c e past l g o h = go e.what refl h
  where
    go : (w : What) → e.what ≡ w → serves c w ≡ true → e.what ≡ Clean c
    go (Clean k) i h = i ∙ ap (λ (n : ℕ). Clean n) (eqb-true k c h)
    go (Begin (Int level) from) i h =
        let k = subst (λ (w : What). is_next w ≡ true → Known s p (own_of s p past) (lanes_at s past) w) i (known_here s limit p e past o g) in
        let f = low_class c level l (k refl).class h in cc
    go (Call f k y) i h = no_call (c == 12) refl h
      where
        no_call : (b : Bool) → (c == 12) ≡ b → (b && is_spin y) ≡ true → e.what ≡ Clean c
        no_call true q z = let n : c ≡ 12 = eqb-true c 12 q in absurd (omega (arith, n, l))
        no_call false q z = cc
    go w i h = cc
