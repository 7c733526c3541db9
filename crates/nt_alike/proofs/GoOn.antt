-- Histories that are alike go on alike: the like of each event that may come, turn by turn.
use Rattle.std.proofs.Common.{ap, arith, inl, inr, subst, sym, ◌∙◌}
use Rattle.std.specs.Prelude.{List, None, Ok, Option, Some, false, get_or, length, max, nat_lt, not, option_map, refl, suc, true, ℕ, ◌∷◌, ◌≡◌, ◌≤◌, ◌⊎◌}
use Rattle.nt_event.specs.declared.events.Event.{Event}
use Rattle.nt_event.specs.declared.events.Rises.{Rises}
use Rattle.nt_event.specs.declared.events.ScheduleKind.TheVariants.{BadChoice, BadLook, NoSuchCpu, NothingToDo}
use Rattle.nt_event.specs.declared.events.Turn.{Turn}
use Rattle.nt_event.specs.declared.events.Turn.TheVariants.{Look as LookTurn, Next, Switch as SwitchTurn}
use Rattle.nt_event.specs.declared.events.What.{What}
use Rattle.nt_event.specs.declared.events.What.TheVariants.{Begin, Call, Clean, End, Expire, Fire, Flush, Free, Gone, Look, Normal, Rest, Rewait, Switch}
use Rattle.nt_event.specs.declared.jobs.Job.TheVariants.{Switch as SwitchJob}
use Rattle.nt_event.specs.declared.numbers.CpuNo.{CpuNo}
use Rattle.nt_event.specs.declared.numbers.ThreadNo.{ThreadNo}
use Rattle.nt_event.specs.declared.scripts.Script.{Script}
use Rattle.nt_event.specs.Frames.{frames_of, running}
use Rattle.nt_event.specs.Jobs.{job_event, may_switch, next_what}
use Rattle.nt_event.specs.Lanes.{lanes_at}
use Rattle.nt_event.specs.Lists.{when}
use Rattle.nt_event.specs.Own.{own_of, stand_in}
use Rattle.nt_event.specs.Requests.{looked}
use Rattle.nt_event.specs.Step.{IsLegal, IsRun, cpu_at, event_at, is_good_look, thread_field, turn_at, turn_of, uncut_step, was_asked}
use Rattle.nt_event.proofs.Options.{holds_at, when_gives}
use Rattle.nt_runs.proofs.Known.{legal_known}
use Rattle.nt_runs.proofs.Running.{thread_named}
use Rattle.nt_runs.proofs.Steps.{event_gives, refused_gives, step_gives}
use Rattle.nt_runs.proofs.Turns.{is_next, next_is_next}
use Rattle.nt_alike.specs.Alike.{Alike, HasItsLike}
use Rattle.nt_alike.specs.Bare.{bare_what}
use Rattle.nt_alike.specs.Free.{IsFreeRun, IsFreeStep, LookIsShort, MayCome, free_step}
use Rattle.nt_alike.proofs.Asked.{look_place}
use Rattle.nt_alike.proofs.Frames.{NamesFrame, NamesInner}
use Rattle.nt_alike.proofs.Free.{legal_free, run_free}
use Rattle.nt_alike.proofs.Next.{look_match, next_like, none_or_asked, switch_like}
use Rattle.nt_alike.proofs.Leaves.{alike_now, events_same}
use Rattle.nt_alike.proofs.Moves.{knows, names_inner}

-- ---- what is known of a legal event

-- an event that a processor's next step gives looks at no value of a class
quiet : (w : What) (c : ℕ) → is_next w ≡ true → looked w c ≡ 0
quiet (Look r) c h = cc
quiet w c h = refl

-- an event that isn't a Look finds nothing
abbrev NoLook : What → Type 0
NoLook w = (c : ℕ) → looked w c ≡ 0

-- an event that may come names only the innermost frame of its processor
inner_of : (s : Script) (limit : ℕ) (e : Event) (past : List Event) → IsLegal s limit e past → NamesInner e (frames_of s e.cpu past)
inner_of s limit e past l = go e.what refl
  where
    none : (w : What) → e.what ≡ w → ((m : ℕ) → NamesFrame m w → ⊥) → NamesInner e (frames_of s e.cpu past)
    none w q n =
        let k : (m : ℕ) → NamesFrame m e.what → ⊥ = λ m h. n m (subst (NamesFrame m) q h) in
        names_inner s e.cpu past e (λ m h. absurd (k m h)) (inl k)

    known : (w : What) → e.what ≡ w → is_next w ≡ true → e.thread ≡ running e.cpu past → NamesInner e (frames_of s e.cpu past)
    known w q n t =
        names_inner s e.cpu past e (knows s e.cpu (own_of s e.cpu past) (lanes_at s past) e.what (legal_known s limit e past l (ap is_next q ∙ n))) (inr t)

    thread : (w : What) → e.what ≡ w → e.thread ≡ thread_field w (running e.cpu past)
    thread w q = thread_named s limit e past l ∙ ap (λ (v : What). thread_field v (running e.cpu past)) q

    go : (w : What) → e.what ≡ w → NamesInner e (frames_of s e.cpu past)
    go (Call f c y) q = known (Call f c y) q refl (thread (Call f c y) q)
    go (Rewait f y) q = known (Rewait f y) q refl (thread (Rewait f y) q)
    go (Normal f) q = known (Normal f) q refl (thread (Normal f) q)
    go (End f) q = known (End f) q refl (thread (End f) q)
    go (Free f k) q = known (Free f k) q refl (thread (Free f k) q)
    go w q = none w q (λ m h. h)

-- ---- the other event

module _ (s : Script) (h k : List Event) (rh : IsFreeRun s h) (rk : IsFreeRun s k) (al : Alike s h k) where
  limit : ℕ
  limit = suc (max (length h) (length k))

  -- an event that may come after the other, and is alike, leaves the histories alike
  finish : (e f : Event) → IsFreeStep s e h → IsFreeStep s f k → LookIsShort f.what → e.cpu ≡ f.cpu → bare_what e.what ≡ bare_what f.what →
      ((c : ℕ) → (looked e.what c ≡ 0) ⊎ (was_asked s e.cpu c (looked e.what c) h ≡ true)) →
      ((c : ℕ) → (looked f.what c ≡ 0) ⊎ (was_asked s f.cpu c (looked f.what c) k ≡ true)) →
      ((c : ℕ) → look_place s e.cpu c e.what h ≡ look_place s f.cpu c f.what k) →
      HasItsLike s e h k
  unfolding limit
  finish e f me mf short cpus what fe ff look =
      let le : IsLegal s limit e h = legal_free s limit e h (omega arith) me in
      let lf : IsLegal s limit f k = legal_free s limit f k (omega arith) mf in
      let rh2 : IsRun s limit (e ∷ h) = (le, run_free s limit h (omega arith) rh) in
      let rk2 : IsRun s limit (f ∷ k) = (lf, run_free s limit k (omega arith) rk) in
      let ie = inner_of s limit e h le in
      let jf = inner_of s limit f k lf in
      let ge = step_gives s limit e h le in
      let gf = step_gives s limit f k lf in
      record {
        event = f;
        comes = (mf, short);
        same = events_same s limit h k e f rh2 rk2 al cpus what ge gf ie jf fe ff look;
        alike = alike_now s limit h k e f rh2 rk2 al cpus what ge gf ie jf fe ff look;
      }

  quiet_place : (p : CpuNo) (w v : What) → NoLook w → NoLook v → (c : ℕ) → look_place s p c w h ≡ look_place s p c v k
  quiet_place p w v a b c = let x = a c in let y = b c in rw (x, y) (al.asks p c)

  -- events of the turns Next and Switch
  offered : (p : CpuNo) (e : Event) (o q : Option What) → IsFreeStep s e h → e.cpu ≡ p →
      option_map bare_what o ≡ option_map bare_what q → (w : What) → o ≡ Some w → event_at s p w (frames_of s p h) ≡ e → NoLook w →
      ((v : What) → q ≡ Some v → bare_what w ≡ bare_what v → IsFreeStep s (event_at s p v (frames_of s p k)) k × NoLook v × LookIsShort v) →
      HasItsLike s e h k
  offered p e o q me here same w ow made nl back =
      let g : (v : What) × (q ≡ Some v) × (bare_what w ≡ bare_what v) = found q (sym same ∙ ap (option_map bare_what) ow) in
      let b = back g.0 g.1 g.2 in
      let ew : e.what ≡ w = sym (ap (λ (z : Event). z.what) made) in
      let ne : NoLook e.what = subst NoLook (sym ew) nl in
      let bw : bare_what e.what ≡ bare_what g.0 = ap bare_what ew ∙ g.2 in
      finish e (event_at s p g.0 (frames_of s p k)) me b.0 b.2 here bw (λ c. inl (ne c)) (λ c. inl (b.1 c))
      (λ c. ap (λ (q : CpuNo). look_place s q c e.what h) here ∙ quiet_place p e.what g.0 ne b.1 c)
    where
      found : (q : Option What) → option_map bare_what q ≡ Some (bare_what w) → (v : What) × (q ≡ Some v) × (bare_what w ≡ bare_what v)
      found None x = cc
      found (Some v) x = (v, refl, same_some (bare_what w) (bare_what v) (sym x))
        where
          same_some : (a b : What) → ◌≡◌ {A = Option What} (Some a) (Some b) → a ≡ b
          same_some a b e = cc

  -- the processor is one of the script's
  has_cpu : (e : Event) → IsFreeStep s e h → not (nat_lt (cpu_at (turn_of e)).0 s.cpus) ≡ false
  has_cpu e m =
      let t = turn_of e in
      (refused_gives (not (nat_lt (cpu_at t).0 s.cpus)) NoSuchCpu (uncut_step s t (own_of s (cpu_at t) h) (lanes_at s h) h) e m).0

  uncut : (e : Event) (t : Turn) → turn_of e ≡ t → IsFreeStep s e h → uncut_step s t (own_of s (cpu_at t) h) (lanes_at s h) h ≡ Ok e
  uncut e t q m =
      let m2 : free_step s t h ≡ Ok e = ap (λ (u : Turn). free_step s u h) (sym q) ∙ m in
      (refused_gives (not (nat_lt (cpu_at t).0 s.cpus)) NoSuchCpu (uncut_step s t (own_of s (cpu_at t) h) (lanes_at s h) h) e m2).1

  has_cpu_at : (e : Event) (t : Turn) → turn_of e ≡ t → IsFreeStep s e h → not (nat_lt (cpu_at t).0 s.cpus) ≡ false
  has_cpu_at e t q m = ap (λ (u : Turn). not (nat_lt (cpu_at u).0 s.cpus)) (sym q) ∙ has_cpu e m

  -- a turn of the other that gives an event
  may_come : (t : Turn) (f : Event) → turn_of f ≡ t → not (nat_lt (cpu_at t).0 s.cpus) ≡ false →
      uncut_step s t (own_of s (cpu_at t) k) (lanes_at s k) k ≡ Ok f → IsFreeStep s f k
  may_come t f q c u =
      let m : free_step s t k ≡ Ok f = rw c u in ap (λ (z : Turn). free_step s z k) q ∙ m

  next_turn : (p : CpuNo) (w : What) → is_next w ≡ true → turn_at p w ≡ Next p
  next_turn p (Look r) n = cc
  next_turn p (Switch t st) n = cc
  next_turn p w n = refl

  short_next : (w : What) → is_next w ≡ true → LookIsShort w
  short_next (Look r) n = cc
  short_next w n = tt

  -- what a processor has to do next is no Look and no Switch
  next_at : (past : List Event) (p : CpuNo) (w : What) → next_what s p (own_of s p past) (lanes_at s past) ≡ Some w → is_next w ≡ true
  next_at past p w q =
      holds_at (λ v. is_next v ≡ true) (next_what s p (own_of s p past) (lanes_at s past)) w (next_is_next s p (own_of s p past) (lanes_at s past)) q

  goes_next : (e : Event) → is_next e.what ≡ true → IsFreeStep s e h → HasItsLike s e h k
  goes_next e n m =
      let p = e.cpu in
      let t : turn_of e ≡ Next p = next_turn p e.what n in
      let g = event_gives s p (own_of s p h) NothingToDo (next_what s p (own_of s p h) (lanes_at s h)) e (uncut e (Next p) t m) in
      let nw : is_next g.0 ≡ true = next_at h p g.0 g.1 in
      offered p e (next_what s p (own_of s p h) (lanes_at s h)) (next_what s p (own_of s p k) (lanes_at s k)) m refl
      (next_like s h k al p) g.0 g.1 g.2 (λ c. quiet g.0 c nw)
      (λ v q b.
      let nv : is_next v ≡ true = next_at k p v q in
      (may_come (Next p) (event_at s p v (frames_of s p k)) (next_turn p v nv) (has_cpu_at e (Next p) t m) (rw q refl), λ c. quiet v c nv, short_next v nv))

  goes_switch : (e : Event) (u : ThreadNo) (st : Option ℕ) → e.what ≡ Switch u st → IsFreeStep s e h → HasItsLike s e h k
  goes_switch e u st n m =
      let p = e.cpu in
      let t : turn_of e ≡ SwitchTurn p u = ap (turn_at p) n in
      let o = when (may_switch (own_of s p h)) (job_event s (stand_in p (own_of s p h)) (lanes_at s h) (SwitchJob u)) in
      let q = when (may_switch (own_of s p k)) (job_event s (stand_in p (own_of s p k)) (lanes_at s k) (SwitchJob u)) in
      let g = event_gives s p (own_of s p h) BadChoice o e (uncut e (SwitchTurn p u) t m) in
      let w : g.0 ≡ Switch u st = ap (λ (z : Event). z.what) g.2 ∙ n in
      offered p e o q m refl (switch_like s h k al p u) g.0 g.1 g.2 (subst NoLook (sym w) (λ c. refl))
      (λ v y b.
      let x : v ≡ Switch u st = is_switch v (ap bare_what (sym w) ∙ b) in (
        may_come (SwitchTurn p u) (event_at s p v (frames_of s p k)) (ap (turn_at p) x) (has_cpu_at e (SwitchTurn p u) t m) (rw y refl),
        subst NoLook (sym x) (λ c. refl),
        subst LookIsShort (sym x) tt,
      ))
    where
      is_switch : (v : What) → bare_what (Switch u st) ≡ bare_what v → v ≡ Switch u st
      is_switch (Switch a b) h = sym h
      is_switch (Call f c y) h = cc
      is_switch (Look r) h = cc
      is_switch (Begin b from) h = cc
      is_switch (Normal f) h = cc
      is_switch (End f) h = cc
      is_switch (Expire key from) h = cc
      is_switch (Fire d y) h = cc
      is_switch (Clean c) h = cc
      is_switch (Rewait f y) h = cc
      is_switch (Flush a from) h = cc
      is_switch (Gone t) h = cc
      is_switch (Free f l) h = cc
      is_switch Rest h = cc

  goes_look : (e : Event) (r : Rises) → e.what ≡ Look r → LookIsShort (Look r) → IsFreeStep s e h → HasItsLike s e h k
  unfolding limit
  goes_look e r n short m =
      let p = e.cpu in
      let t : turn_of e ≡ LookTurn p r = ap (turn_at p) n in
      let x = own_of s p h in
      let g = event_gives s p x BadLook (when (is_good_look s p r.value x h) (Some (Look r))) e (uncut e (LookTurn p r) t m) in
      let good = (when_gives (is_good_look s p r.value x h) (Some (Look r)) g.0 g.1).0 in
      let rh2 = run_free s limit h (omega arith) rh in
      let rk2 = run_free s limit k (omega arith) rk in
      let c = look_match s limit p h k rh2 rk2 al r.value short good in
      let v : What = Look (record { value = c.0 }) in
      let f : Event = event_at s p v (frames_of s p k) in
      let come : IsFreeStep s f k =
      may_come (LookTurn p (record { value = c.0 })) f refl (has_cpu_at e (LookTurn p r) t m) (let z = c.2 in rw z refl) in
      let len : length c.0 ≤ 16 = (let a = c.1 in omega (arith, a, short)) in
      let bw : bare_what e.what ≡ bare_what v = ap bare_what n in
      finish e f m come len refl bw
      (λ i. subst (λ (w : What). (looked w i ≡ 0) ⊎ (was_asked s p i (looked w i) h ≡ true)) (sym n)
      (none_or_asked s limit p h k rh2 rk2 al i (get_or r.value i 0) h (c.3 i).good))
      (λ i. none_or_asked s limit p h k rh2 rk2 al i (get_or c.0 i 0) k (c.3 i).found)
      (λ i. ap (λ (w : What). look_place s p i w h) n ∙ (c.3 i).place)

  -- each event that may come after one of two free runs that are alike has its like after the other
  pub goes : (e : Event) → MayCome s e h → HasItsLike s e h k
  goes e m = go e.what refl m.1
    where
      go : (w : What) → e.what ≡ w → LookIsShort e.what → HasItsLike s e h k
      go (Look r) q l = goes_look e r q (subst LookIsShort q l) m.0
      go (Switch u st) q l = goes_switch e u st q m.0
      go w q l = goes_next e (ap is_next q) m.0
