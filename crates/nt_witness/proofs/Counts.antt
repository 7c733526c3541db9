-- How many of some turns a processor takes, and how many of some events it made.
use Rattle.std.proofs.Common.{ap, arith, rules, set, subst, sym, take, zero-add, ◌∙◌}
use Rattle.std.proofs.lemmas.Bool.{eqb-false, eqb-true}
use Rattle.std.proofs.lemmas.List.{get_or-replicate, get_or-set_other, get_or-set_same, length-replicate, length-set, reverse-append, take_more}
use Rattle.std.proofs.lemmas.List.Sums.{sum_by-append}
use Rattle.std.specs.List.{count_by}
use Rattle.std.specs.Ordering.{nat_cmp, ord_max}
use Rattle.std.specs.Prelude.{Bool, List, [], cond, false, get_or, if◌then◌else◌, length, max, refl, replicate, reverse, true, ℕ, ◌+◌, ◌++◌, ◌<◌, ◌==◌, ◌∷◌}
use Rattle.std.specs.Prelude.{◌≡◌, ◌≢◌, ◌≤◌}
use Rattle.nt_event.specs.declared.events.Event.{Event}
use Rattle.nt_event.specs.declared.events.Rises.{Rises}
use Rattle.nt_event.specs.declared.events.Turn.{Turn}
use Rattle.nt_event.specs.declared.numbers.CpuNo.{CpuNo}
use Rattle.nt_event.specs.Own.{made}
use Rattle.nt_event.specs.Step.{cpu_at}
use Rattle.nt_event.specs.Numbers.{cpu, is_of}
use Rattle.nt_event.proofs.Booleans.{same}
use Rattle.nt_history.specs.declared.brief.Brief.{Brief}
use Rattle.nt_history.specs.Briefs.{event_in, events_in}
use Rattle.nt_witness.specs.Limits.{count_of, most_of}

-- ---- turns

-- 1 where it is the processor's turn
abbrev pub one_of : CpuNo → Turn → ℕ
one_of p t = cond ((cpu_at t).0 == p.0) 1 0

-- a turn counts as one for the processor that takes it
pub own_turn : (t : Turn) → one_of (cpu_at t) t ≡ 1
own_turn t = ap (λ (b : Bool). cond b 1 0) (same (cpu_at t).0)

-- a turn at the front of a list adds to a processor's count if that processor takes it
pub count_more : (p : CpuNo) (t : Turn) (turns : List Turn) → count_of p (t ∷ turns) ≡ one_of p t + count_of p turns
count_more p t turns =
    sum_by-append (one_of p) (t ∷ []) turns ∙ ap (λ (n : ℕ). n + count_of p turns) (zero-add (one_of p t))

-- a turn at the end of a list adds to a processor's count if that processor takes it
pub count_last : (p : CpuNo) (t : Turn) (turns : List Turn) → count_of p (turns ++ t ∷ []) ≡ count_of p turns + one_of p t
count_last p t turns =
    sum_by-append (one_of p) turns (t ∷ []) ∙ ap (λ (n : ℕ). count_of p turns + n) (zero-add (one_of p t))

-- processors of one number take as many
same_count : (p q : CpuNo) (turns : List Turn) → p.0 ≡ q.0 → count_of p turns ≡ count_of q turns
same_count p q turns e = ap (λ (n : ℕ). count_by (λ t. (cpu_at t).0 == n) turns) e

-- no processor takes more than the most
pub count_most : (p : CpuNo) (turns : List Turn) → count_of p turns ≤ most_of turns
count_most p [] = omega arith
count_most p (t ∷ turns) = go ((cpu_at t).0 == p.0) refl (count_most p turns)
  where
    go : (b : Bool) → ((cpu_at t).0 == p.0) ≡ b → count_of p turns ≤ most_of turns → count_of p (t ∷ turns) ≤ most_of (t ∷ turns)
    go true e ih =
        let same : count_of (cpu_at t) (t ∷ turns) ≡ count_of p (t ∷ turns) = same_count (cpu_at t) p (t ∷ turns) (eqb-true (cpu_at t).0 p.0 e) in
        omega (arith, same)
    go false e ih =
        let none : one_of p t ≡ 0 = ap (λ (b : Bool). cond b 1 0) e in
        let more = count_more p t turns in
        omega (arith, none, more, ih)

-- with one more turn at the end, the most are as before, or those of its processor
pub most_last : (t : Turn) (turns : List Turn) → most_of (turns ++ t ∷ []) ≡ max (most_of turns) (count_of (cpu_at t) (turns ++ t ∷ []))
most_last t [] = omega arith
most_last t (x ∷ turns) = go ((cpu_at x).0 == (cpu_at t).0) refl ((cpu_at t).0 == (cpu_at x).0) refl (most_last t turns)
  where
    one : one_of (cpu_at t) t ≡ 1
    one = own_turn t

    go : (a : Bool) → ((cpu_at x).0 == (cpu_at t).0) ≡ a → (b : Bool) → ((cpu_at t).0 == (cpu_at x).0) ≡ b →
        most_of (turns ++ t ∷ []) ≡ max (most_of turns) (count_of (cpu_at t) (turns ++ t ∷ [])) →
        most_of (x ∷ turns ++ t ∷ []) ≡ max (most_of (x ∷ turns)) (count_of (cpu_at t) (x ∷ turns ++ t ∷ []))
    go true e b f ih =
        let n : (cpu_at x).0 ≡ (cpu_at t).0 = eqb-true (cpu_at x).0 (cpu_at t).0 e in
        let same : count_of (cpu_at x) (x ∷ turns ++ t ∷ []) ≡ count_of (cpu_at t) (x ∷ turns ++ t ∷ []) =
        same_count (cpu_at x) (cpu_at t) (x ∷ turns ++ t ∷ []) n in
        let before : count_of (cpu_at x) (x ∷ turns) ≡ count_of (cpu_at t) (x ∷ turns) = same_count (cpu_at x) (cpu_at t) (x ∷ turns) n in
        let last = count_last (cpu_at t) t (x ∷ turns) in
        let rest = count_last (cpu_at t) t turns in
        let more = count_more (cpu_at t) x turns in
        omega (arith, same, before, last, rest, more, one, ih)
    go false e true f ih =
        let n : (cpu_at t).0 ≡ (cpu_at x).0 = eqb-true (cpu_at t).0 (cpu_at x).0 f in
        let y : ((cpu_at x).0 == (cpu_at t).0) ≡ true = ap (λ (m : ℕ). (cpu_at x).0 == m) n ∙ same (cpu_at x).0 in
        absurd cc
    go false e false f ih =
        let none : one_of (cpu_at t) x ≡ 0 = ap (λ (b : Bool). cond b 1 0) e in
        let nor : one_of (cpu_at x) t ≡ 0 = ap (λ (b : Bool). cond b 1 0) f in
        let its = count_last (cpu_at x) t (x ∷ turns) in
        let last = count_last (cpu_at t) t (x ∷ turns) in
        let rest = count_last (cpu_at t) t turns in
        let more = count_more (cpu_at t) x turns in
        omega (arith, its, last, rest, more, none, nor, one, ih)

-- ---- the code's counts

-- a count for each processor of some turns, and the most
pub record IsTally (turns : List Turn) (counts : List ℕ) (most : ℕ) : Type 0 where
  pub all : length counts ≡ 256
  pub each : (p : ℕ) → p < 256 → get_or counts p 0 ≡ count_of (cpu p) turns
  pub greatest : most ≡ most_of turns

-- before any turn is counted, the count of each of 256 processors is zero and so is the most
pub no_tally : (most : ℕ) → most ≡ 0 → IsTally [] (replicate 256 0) most
no_tally most e = record { all = length-replicate {A = ℕ} 256 0; each = λ p low. get_or-replicate {A = ℕ} 256 p 0 0 low; greatest = e }

-- the greater of two numbers by their order is their maximum
max_is : (a b : ℕ) → ord_max nat_cmp a b ≡ max a b
max_is a b = search rules

-- one more turn is counted
pub tally_more : (turns : List Turn) (t : Turn) (counts : List ℕ) (most i new : ℕ) → IsTally turns counts most → i ≡ (cpu_at t).0 → i < 256 →
    new ≡ ord_max nat_cmp most (get_or (set counts i (get_or counts i 0 + 1)) i 0) →
    IsTally (turns ++ t ∷ []) (set counts i (get_or counts i 0 + 1)) new
tally_more turns t counts most i new tally e low n = record {
  all = length-set counts i (get_or counts i 0 + 1) ∙ tally.all;
  each = λ p below. go p (i == p) refl below;
  greatest =
      n ∙ (max_is most (get_or (set counts i (get_or counts i 0 + 1)) i 0) ∙ (ap (λ (m : ℕ). max most m) its
      ∙ (ap (λ (m : ℕ). max m (count_of (cpu_at t) (turns ++ t ∷ []))) tally.greatest ∙ sym (most_last t turns))));
}
  where
    inside : i < length counts
    inside = let all = tally.all in omega (arith, all, low)

    its : get_or (set counts i (get_or counts i 0 + 1)) i 0 ≡ count_of (cpu_at t) (turns ++ t ∷ [])
    its =
        let set_there = get_or-set_same counts i (get_or counts i 0 + 1) 0 inside in
        let before : get_or counts i 0 ≡ count_of (cpu_at t) turns = tally.each i low ∙ same_count (cpu i) (cpu_at t) turns e in
        let last = count_last (cpu_at t) t turns in
        let one = own_turn t in
        omega (arith, set_there, before, last, one)

    go : (p : ℕ) (b : Bool) → (i == p) ≡ b → p < 256 → get_or (set counts i (get_or counts i 0 + 1)) p 0 ≡ count_of (cpu p) (turns ++ t ∷ [])
    go p true k below =
        let there : p ≡ i = sym (eqb-true i p k) in
        ap (λ (m : ℕ). get_or (set counts i (get_or counts i 0 + 1)) m 0) there
        ∙ (its ∙ same_count (cpu_at t) (cpu p) (turns ++ t ∷ []) (sym (there ∙ e)))
    go p false k below =
        let elsewhere : p ≢ i = λ there. eqb-false i p k (sym there) in
        let none : one_of (cpu p) t ≡ 0 = ap (λ (m : ℕ). cond (m == p) 1 0) (sym e) ∙ ap (λ (b : Bool). cond b 1 0) k in
        let last = count_last (cpu p) t turns in
        let before = tally.each p below in
        let set_else = get_or-set_other counts i p (get_or counts i 0 + 1) 0 elsewhere in
        omega (arith, none, last, before, set_else)

-- the counts after the next turn of a list is counted are those of one more turn, with the most of them
pub tally_next : (turns : List Turn) (i : ℕ) (d : Turn) (p : CpuNo) (counts : List ℕ) (most n new : ℕ) → IsTally (take i turns) counts most →
    i < length turns → p ≡ cpu_at (get_or turns i d) → n ≡ p.0 → p.0 < 256 →
    new ≡ ord_max nat_cmp most (get_or (set counts n (get_or counts n 0 + 1)) n 0) →
    IsTally (take (i + 1) turns) (set counts n (get_or counts n 0 + 1)) new
tally_next turns i d p counts most n new tally inside q m low greatest =
    subst (λ (ts : List Turn). IsTally ts (set counts n (get_or counts n 0 + 1)) new) (sym (take_more turns i d inside))
    (tally_more (take i turns) (get_or turns i d) counts most n new tally (m ∙ ap (λ (c : CpuNo). c.0) q) (omega (arith, m, low)) greatest)

-- ---- events

-- the events that a processor made in two lists put together are those of the one and of the other
pub made_append : (p : CpuNo) (xs ys : List Event) → made p (xs ++ ys) ≡ made p xs + made p ys
made_append p [] ys = sym (zero-add (made p ys))
made_append p (e ∷ xs) ys = go (is_of e p) (made_append p xs ys)
  where
    go : (b : Bool) → made p (xs ++ ys) ≡ made p xs + made p ys →
        (if b then made p (xs ++ ys) + 1 else made p (xs ++ ys)) ≡ (if b then made p xs + 1 else made p xs) + made p ys
    go true h = omega (arith, h)
    go false h = h

-- the events of briefs, of which so many are the processor's
pub made_briefs : (p : ℕ) (rises : List Rises) (briefs : List Brief) → made (cpu p) (reverse (events_in briefs rises)) ≡ count_by (λ b. b.cpu.0 == p) briefs
made_briefs p rises [] = refl
made_briefs p rises (b ∷ briefs) =
    ap (made (cpu p)) (reverse-append (event_in rises b ∷ []) (events_in briefs rises))
    ∙ (made_append (cpu p) (reverse (events_in briefs rises)) (event_in rises b ∷ [])
    ∙ go (b.cpu.0 == p) refl (made_briefs p rises briefs))
  where
    its : ℕ
    its = count_by (λ (x : Brief). x.cpu.0 == p) briefs

    more : count_by (λ (x : Brief). x.cpu.0 == p) (b ∷ briefs) ≡ cond (b.cpu.0 == p) 1 0 + its
    more =
        sum_by-append (λ (x : Brief). cond (x.cpu.0 == p) 1 0) (b ∷ []) briefs
        ∙ ap (λ (n : ℕ). n + its) (zero-add (cond (b.cpu.0 == p) 1 0))

    go : (c : Bool) → (b.cpu.0 == p) ≡ c → made (cpu p) (reverse (events_in briefs rises)) ≡ its →
        made (cpu p) (reverse (events_in briefs rises)) + (if b.cpu.0 == p then 0 + 1 else 0) ≡ count_by (λ (x : Brief). x.cpu.0 == p) (b ∷ briefs)
    go true e ih =
        let one : ◌≡◌ {A = ℕ} (if b.cpu.0 == p then 0 + 1 else 0) 1 = ap (λ (c : Bool). if c then 0 + 1 else 0) e in
        let too : ◌≡◌ {A = ℕ} (cond (b.cpu.0 == p) 1 0) 1 = ap (λ (c : Bool). cond c 1 0) e in
        omega (arith, ih, one, too, more)
    go false e ih =
        let none : ◌≡◌ {A = ℕ} (if b.cpu.0 == p then 0 + 1 else 0) 0 = ap (λ (c : Bool). if c then 0 + 1 else 0) e in
        let nor : ◌≡◌ {A = ℕ} (cond (b.cpu.0 == p) 1 0) 0 = ap (λ (c : Bool). cond c 1 0) e in
        omega (arith, ih, none, nor, more)
