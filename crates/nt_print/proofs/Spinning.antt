-- The last spins of processors, and which of them rested last, with one event more.
use Rattle.std.proofs.Common.{◌≡◌, ◌≢◌, ◌∙◌, ℕ, ◌+◌, ◌<◌, ◌≤◌, Bool, true, false, List, ◌∷◌, length, get_or, set, take, reverse, Option, Some, None, refl, sym}
use Rattle.std.proofs.Common.{ap, subst, arith}
use Rattle.std.specs.Prelude.{◌&&◌, ◌==◌, nat_lt, if◌then◌else◌}
use Rattle.std.proofs.lemmas.Bool.{eq-eqb, eqb-false, eqb-true, lt-ltb, ne_eqb}
use Rattle.std.proofs.lemmas.List.{get_or-set_other, get_or-set_same, length-set}
use Rattle.nt_event.specs.declared.events.Event.{Event}
use Rattle.nt_event.specs.Locks.{Frees, Gets, LockMove, NoMove, Spins, lock_move}
use Rattle.nt_event.specs.Numbers.{cpu}
use Rattle.nt_event.specs.Own.{is_rest, rested}
use Rattle.nt_print.specs.declared.spins.Spun.{Spun}
use Rattle.nt_print.specs.declared.tally.Tally.{Tally}
use Rattle.nt_print.specs.Spins.{last_spin, spin_after}
use Rattle.nt_print.specs.Tally.{TellsSpins, noted_rest, noted_spin, rests_by, with_event}
use Rattle.nt_print.proofs.Past.{past_length, past_more}

-- noting a spin keeps the number of processors whose spins are noted
pub length-noted_spin : (k p : ℕ) (m : LockMove) (spins : List (Option Spun)) → length (noted_spin k p m spins) ≡ length spins
length-noted_spin k p (Spins l) spins = length-set spins p (Some (record { number = k; lock = l }))
length-noted_spin k p (Gets l) spins = refl
length-noted_spin k p (Frees l) spins = refl
length-noted_spin k p NoMove spins = refl

-- noting a rest keeps the number of processors whose rests are noted
pub length-noted_rest : (p made : ℕ) (rest : Bool) (numbers : List ℕ) → length (noted_rest p made rest numbers) ≡ length numbers
length-noted_rest p made true numbers = length-set numbers p made
length-noted_rest p made false numbers = refl

-- ---- the last spins

-- what is noted at a place: at that of the processor what its event makes of it
noted : (n c p : ℕ) (m : LockMove) (spins : List (Option Spun)) → p < length spins →
    get_or (noted_spin n c m spins) p None ≡ (if c == p then spin_after n m (get_or spins p None) else get_or spins p None)
noted n c p m spins lt = go (c == p) refl
  where
    here : (m : LockMove) → get_or (noted_spin n p m spins) p None ≡ spin_after n m (get_or spins p None)
    here (Spins l) = get_or-set_same spins p (Some (record { number = n; lock = l })) None lt
    here (Gets l) = refl
    here (Frees l) = refl
    here NoMove = refl

    elsewhere : (m : LockMove) → p ≢ c → get_or (noted_spin n c m spins) p None ≡ get_or spins p None
    elsewhere (Spins l) apart = get_or-set_other spins c p (Some (record { number = n; lock = l })) None apart
    elsewhere (Gets l) apart = refl
    elsewhere (Frees l) apart = refl
    elsewhere NoMove apart = refl

    go : (b : Bool) → (c == p) ≡ b →
        get_or (noted_spin n c m spins) p None ≡ (if b then spin_after n m (get_or spins p None) else get_or spins p None)
    go true e = ap (λ (x : ℕ). get_or (noted_spin n x m spins) p None) (eqb-true c p e) ∙ here m
    go false e = elsewhere m (λ s. eqb-false c p e (sym s))

-- ---- which rested last

-- what it says of the two numbers of a processor that it rested last
abbrev says : ℕ → ℕ → Bool
says rest many = nat_lt 0 rest && (rest == many)

-- raising a processor's count by one is read at that processor as one more
made_more : (made : List ℕ) (p : ℕ) → p < length made → get_or (set made p (get_or made p 0 + 1)) p 0 ≡ get_or made p 0 + 1
made_more made p lt = get_or-set_same made p (get_or made p 0 + 1) 0 lt

-- raising a processor's count leaves the count of another processor
made_elsewhere : (made : List ℕ) (c p : ℕ) → p ≢ c → get_or (set made c (get_or made c 0 + 1)) p 0 ≡ get_or made p 0
made_elsewhere made c p apart = get_or-set_other made c p (get_or made c 0 + 1) 0 apart

-- the rest after a count of events says so at that very count
says_now : (n : ℕ) → says (n + 1) (n + 1) ≡ true
says_now n = ap (λ (b : Bool). b && ((n + 1) == (n + 1))) (lt-ltb 0 (n + 1) (omega arith)) ∙ eq-eqb (n + 1) (n + 1) refl

-- a rest noted at an earlier count does not say that it was the last event
says_not : (rest many : ℕ) → rest ≤ many → says rest (many + 1) ≡ false
says_not rest many le =
    ap (λ (b : Bool). nat_lt 0 rest && b) (ne_eqb rest (many + 1) (λ e. omega (arith, e, le))) ∙ and_false (nat_lt 0 rest)
  where
    and_false : (b : Bool) → (b && false) ≡ false
    and_false true = refl
    and_false false = refl

-- the number of a processor at its own event, and at that of another
rest_here : (made numbers : List ℕ) (p : ℕ) (rest : Bool) → p < length made → p < length numbers → get_or numbers p 0 ≤ get_or made p 0 →
    says (get_or (noted_rest p (get_or (set made p (get_or made p 0 + 1)) p 0) rest numbers) p 0) (get_or (set made p (get_or made p 0 + 1)) p 0) ≡ rest
rest_here made numbers p true lt within le =
    let now : ℕ = get_or (set made p (get_or made p 0 + 1)) p 0 in
    ap (λ (n : ℕ). says n now) (get_or-set_same numbers p now 0 within) ∙ ap (λ (n : ℕ). says n n) (made_more made p lt) ∙ says_now (get_or made p 0)
rest_here made numbers p false lt within le =
    ap (λ (n : ℕ). says (get_or numbers p 0) n) (made_more made p lt) ∙ says_not (get_or numbers p 0) (get_or made p 0) le

-- noting a rest of one processor leaves the noted number of another
rest_elsewhere : (numbers : List ℕ) (c p many : ℕ) (rest : Bool) → p ≢ c → get_or (noted_rest c many rest numbers) p 0 ≡ get_or numbers p 0
rest_elsewhere numbers c p many true apart = get_or-set_other numbers c p many 0 apart
rest_elsewhere numbers c p many false apart = refl

-- with one event more the noted rest is at most the number of events that the processor made
rest_within : (made numbers : List ℕ) (p : ℕ) (rest : Bool) → p < length made → p < length numbers → get_or numbers p 0 ≤ get_or made p 0 →
    get_or (noted_rest p (get_or (set made p (get_or made p 0 + 1)) p 0) rest numbers) p 0 ≤ get_or (set made p (get_or made p 0 + 1)) p 0
rest_within made numbers p true lt within le =
    let same = get_or-set_same numbers p (get_or (set made p (get_or made p 0 + 1)) p 0) 0 within in
    omega (arith, same)
rest_within made numbers p false lt within le = let more = made_more made p lt in omega (arith, more, le)

-- ---- one event more

-- with one event more the tally still tells the last spin of each processor
one_more : (events past : List Event) (e : Event) (t : Tally) → length t.rested ≡ length t.made → TellsSpins past t →
    TellsSpins (e ∷ past) (with_event events (length past) e t)
one_more events past e t many tells = record { spins = spins; rests = rests; before = before }
  where
    next : Tally
    next = with_event events (length past) e t

    now : List ℕ
    now = set t.made e.cpu.0 (get_or t.made e.cpu.0 0 + 1)

    noted_long : length next.rested ≡ length t.rested
    noted_long = length-noted_rest e.cpu.0 (get_or now e.cpu.0 0) (is_rest e.what) t.rested

    spins : (p : ℕ) → p < length next.spins → get_or next.spins p None ≡ last_spin (cpu p) (e ∷ past)
    spins p lt =
        let long = length-noted_spin (length past) e.cpu.0 (lock_move e.what) t.spins in
        let within : p < length t.spins = omega (arith, lt, long) in
        noted (length past) e.cpu.0 p (lock_move e.what) t.spins within
        ∙ ap (λ (o : Option Spun). if e.cpu.0 == p then spin_after (length past) (lock_move e.what) o else o) (tells.spins p within)

    rests : (p : ℕ) → p < length next.rested → rests_by next p ≡ rested (cpu p) (e ∷ past)
    rests p lt = go (e.cpu.0 == p) refl
      where
        within : p < length t.rested
        within = omega (arith, lt, noted_long)

        go : (b : Bool) → (e.cpu.0 == p) ≡ b → rests_by next p ≡ (if b then is_rest e.what else rested (cpu p) past)
        go true is =
            subst (λ (c : ℕ). says (get_or (noted_rest c (get_or (set t.made c (get_or t.made c 0 + 1)) c 0) (is_rest e.what) t.rested) p 0)
            (get_or (set t.made c (get_or t.made c 0 + 1)) p 0) ≡ is_rest e.what) (sym (eqb-true e.cpu.0 p is))
            (rest_here t.made t.rested p (is_rest e.what) (omega (arith, within, many)) within (tells.before p within))
        go false is =
            let apart : p ≢ e.cpu.0 = λ s. eqb-false e.cpu.0 p is (sym s) in
            ap (λ (n : ℕ). says n (get_or now p 0)) (rest_elsewhere t.rested e.cpu.0 p (get_or now e.cpu.0 0) (is_rest e.what) apart)
            ∙ ap (λ (n : ℕ). says (get_or t.rested p 0) n) (made_elsewhere t.made e.cpu.0 p apart) ∙ tells.rests p within

    before : (p : ℕ) → p < length next.rested → get_or next.rested p 0 ≤ get_or next.made p 0
    before p lt = go (e.cpu.0 == p) refl
      where
        within : p < length t.rested
        within = omega (arith, lt, noted_long)

        go : (b : Bool) → (e.cpu.0 == p) ≡ b → get_or next.rested p 0 ≤ get_or next.made p 0
        go true is =
            subst (λ (c : ℕ). get_or (noted_rest c (get_or (set t.made c (get_or t.made c 0 + 1)) c 0) (is_rest e.what) t.rested) p 0
            ≤ get_or (set t.made c (get_or t.made c 0 + 1)) p 0) (sym (eqb-true e.cpu.0 p is))
            (rest_within t.made t.rested p (is_rest e.what) (omega (arith, within, many)) within (tells.before p within))
        go false is =
            let apart : p ≢ e.cpu.0 = λ s. eqb-false e.cpu.0 p is (sym s) in
            let rest = rest_elsewhere t.rested e.cpu.0 p (get_or now e.cpu.0 0) (is_rest e.what) apart in
            let many = made_elsewhere t.made e.cpu.0 p apart in
            let old = tells.before p within in
            omega (arith, rest, many, old)

-- the tally's spins when the next event is tallied
pub spins_step : (events : List Event) (k : ℕ) (e : Event) (t : Tally) → k < length events → e ≡ get_or events k e → length t.rested ≡ length t.made →
    TellsSpins (reverse (take k events)) t → TellsSpins (reverse (take (k + 1) events)) (with_event events k e t)
spins_step events k e t lt is many tells =
    let past : List Event = reverse (take k events) in
    let long : length past ≡ k = past_length events k (omega (arith, lt)) in
    subst (λ (es : List Event). TellsSpins es (with_event events k e t)) (sym (past_more events k e lt is))
    (subst (λ (n : ℕ). TellsSpins (e ∷ past) (with_event events n e t)) long (one_more events past e t many tells))
