-- Each event that may come has its turn in a list of all turns that may be taken: itself, or a look with 16 values.
use Rattle.std.proofs.Common.{ap, subst, sym, ◌∙◌}
use Rattle.std.specs.List.{list_any}
use Rattle.std.specs.Prelude.{Contains, List, None, Ok, Option, Some, [], length, max, nat_lt, not, refl, replicate, suc, true, zero, ℕ, ◌&&◌}
use Rattle.std.specs.Prelude.{◌++◌, ◌-◌, ◌==◌, ◌||◌}
use Rattle.std.specs.Prelude.{◌∷◌, ◌≡◌}
use Rattle.nt_event.specs.declared.events.Event.{Event}
use Rattle.nt_event.specs.declared.events.Rises.{Rises}
use Rattle.nt_event.specs.declared.events.ScheduleKind.TheVariants.{BadLook, NoSuchCpu}
use Rattle.nt_event.specs.declared.events.Turn.{Turn}
use Rattle.nt_event.specs.declared.events.Turn.TheVariants.{Look as LookTurn, Next, Switch as SwitchTurn}
use Rattle.nt_event.specs.declared.events.What.{What}
use Rattle.nt_event.specs.declared.events.What.TheVariants.{Begin, Call, Clean, End, Expire, Fire, Flush, Free, Gone, Look, Normal, Rest, Rewait, Switch}
use Rattle.nt_event.specs.declared.numbers.CpuNo.{CpuNo}
use Rattle.nt_event.specs.declared.scripts.Script.{Script}
use Rattle.nt_event.specs.Lanes.{Lanes, lanes_at}
use Rattle.nt_event.specs.Lists.{value_at, when}
use Rattle.nt_event.specs.Own.{Own, own_of}
use Rattle.nt_event.specs.Requests.{seen, told_by}
use Rattle.nt_event.specs.Step.{event_at, good_rises, is_good_look, turn_at, turn_of, uncut_step, was_asked}
use Rattle.nt_event.proofs.Options.{both, when_gives}
use Rattle.nt_event.proofs.Tables.{table-same}
use Rattle.nt_runs.proofs.Steps.{event_gives, refused_gives}
use Rattle.nt_alike.specs.Alike.{Alike, SameOrder, newer, unnoticed}
use Rattle.nt_alike.specs.Bare.{bare_event, bare_lanes, bare_own}
use Rattle.nt_alike.specs.Free.{LookIsShort, MayCome, free_step}
use Rattle.nt_alike.proofs.Relation.{alike_self}
use Rattle.nt_ahead.specs.Like.{HasTurnOf}
use Rattle.nt_ahead.specs.Turns.{HasAll, MayTake, TurnIsShort, filled, filled_turn}
use Rattle.nt_ahead.proofs.Filled.{filled_any, filled_reads}

-- the event of a look that finds this
abbrev look_event : CpuNo → Rises → Event
look_event p r = record { cpu = p; thread = None; level = 0; what = Look r }

-- ---- looks that find the same leave the same

module _ (s : Script) (past : List Event) (p : CpuNo) (r q : Rises) (same : (c : ℕ) → value_at r.value c ≡ value_at q.value c) where
  lanes_same : lanes_at s (look_event p r ∷ past) ≡ lanes_at s (look_event p q ∷ past)
  lanes_same = refl

  seen_same : (o : CpuNo) (c : ℕ) → seen s o c (look_event p r ∷ past) ≡ seen s o c (look_event p q ∷ past)
  seen_same o c = let k = same c in rw k refl

  own_same : (o : CpuNo) → own_of s o (look_event p r ∷ past) ≡ own_of s o (look_event p q ∷ past)
  own_same o =
      let t = table-same 16 (λ c. seen s o c (look_event p r ∷ past)) (λ c. seen s o c (look_event p q ∷ past)) (λ c l. seen_same o c) in
      ap (λ (values : List ℕ). record (own_of s o (look_event p q ∷ past)) { seen = values }) t

  -- as many asks are not noticed, also above what a lane tells
  unnoticed_same : (o : CpuNo) (c u : ℕ) → unnoticed s o c u (look_event p r ∷ past) ≡ unnoticed s o c u (look_event p q ∷ past)
  unnoticed_same o c u = ap (λ (v : ℕ). newer s o c (max v u) (look_event p q ∷ past)) (seen_same o c)

  look_alike : Alike s (look_event p r ∷ past) (look_event p q ∷ past)
  look_alike =
      let self = alike_self s (look_event p r ∷ past) in
      record {
        lanes = ap bare_lanes lanes_same;
        order = subst (λ (l : Lanes). SameOrder (lanes_at s (look_event p r ∷ past)).timers l.timers) lanes_same self.order;
        own = λ o. ap bare_own (own_same o);
        asks = λ o c. unnoticed_same o c 0;
        told = λ x o c. unnoticed_same o c (told_by s x o c (look_event p r ∷ past));
      }

-- ---- a look with 16 values is as good

-- 0 is always a good value
zeros_good : (s : Script) (p : CpuNo) (c n : ℕ) (x : Own) (past : List Event) → good_rises s p c (replicate n 0) x past ≡ true
zeros_good s p c zero x past = refl
zeros_good s p c (suc n) x past = zeros_good s p (suc c) n x past

-- good values of a look stay good with zeros put after them
good_behind : (s : Script) (p : CpuNo) (c n : ℕ) (vs : List ℕ) (x : Own) (past : List Event) → good_rises s p c vs x past ≡ true →
    good_rises s p c (vs ++ replicate n 0) x past ≡ true
good_behind s p c n [] x past g = zeros_good s p c n x past
good_behind s p c n (v ∷ vs) x past g =
    let first = (v == 0) || (nat_lt (value_at x.seen c) v && was_asked s p c v past) in
    let parts = both first (good_rises s p (suc c) vs x past) g in
    let rest = good_behind s p (suc c) n vs x past parts.1 in
    rw (parts.0, rest) refl

-- a good look stays good if its values are filled up with zeros
filled_good : (s : Script) (p : CpuNo) (vs : List ℕ) (x : Own) (past : List Event) → is_good_look s p vs x past ≡ true →
    is_good_look s p (filled vs) x past ≡ true
filled_good s p vs x past g =
    let parts = both (list_any (λ v. nat_lt 0 v) vs) (good_rises s p 0 vs x past) g in
    let any : list_any (λ v. nat_lt 0 v) (filled vs) ≡ true = filled_any vs parts.0 in
    let good = good_behind s p 0 (16 - length vs) vs x past parts.1 in
    rw (any, good) refl

-- ---- each event that may come

-- a turn has as few values as its event
short_turn : (p : CpuNo) (w : What) → LookIsShort w → TurnIsShort (turn_at p w)
short_turn p (Look r) l = l
short_turn p (Switch t status) l = tt
short_turn p (Call f c y) l = tt
short_turn p (Begin b from) l = tt
short_turn p (Normal f) l = tt
short_turn p (End f) l = tt
short_turn p (Expire key from) l = tt
short_turn p (Fire d y) l = tt
short_turn p (Clean c) l = tt
short_turn p (Rewait f y) l = tt
short_turn p (Flush a from) l = tt
short_turn p (Gone t) l = tt
short_turn p (Free f k) l = tt
short_turn p Rest l = tt

module _ (s : Script) (past : List Event) (turns : List Turn) (e : Event) (all : HasAll s past turns) (m : MayCome s e past) where
  may : MayTake s past (turn_of e)
  may = record { event = e; gives = m.0; short = short_turn e.cpu e.what m.1 }

  -- the event itself, where its turn is no Look
  itself : filled_turn (turn_of e) ≡ turn_of e → HasTurnOf s past turns e
  itself q =
      record { turn = turn_of e; among = subst (Contains turns) q (all (turn_of e) may); event = e; gives = m.0; same = refl; alike = alike_self s (e ∷ past) }

  -- a look that finds the same of each class
  a_look : (p : CpuNo) (r : Rises) → turn_of e ≡ LookTurn p r → HasTurnOf s past turns e
  a_look p r t =
      let x = own_of s p past in
      let gives : free_step s (LookTurn p r) past ≡ Ok e = subst (λ (u : Turn). free_step s u past ≡ Ok e) t m.0 in
      let a = refused_gives (not (nat_lt p.0 s.cpus)) NoSuchCpu (uncut_step s (LookTurn p r) x (lanes_at s past) past) e gives in
      let b = event_gives s p x BadLook (when (is_good_look s p r.value x past) (Some (Look r))) e a.1 in
      let c = when_gives (is_good_look s p r.value x past) (Some (Look r)) b.0 b.1 in
      let w : Look r ≡ b.0 = inside (Look r) b.0 c.1 in
      let is : look_event p r ≡ e = ap (λ (v : What). event_at s p v x.frames) w ∙ b.2 in
      let q : Rises = record { value = filled r.value } in
      let good = filled_good s p r.value x past c.0 in
      let no = a.0 in
      let comes : free_step s (LookTurn p q) past ≡ Ok (look_event p q) = rw (no, good) refl in
      let like = look_alike s past p r q (λ k. sym (filled_reads r.value k)) in
      record {
        turn = LookTurn p q;
        among = subst (λ (u : Turn). Contains turns (filled_turn u)) t (all (turn_of e) may);
        event = look_event p q;
        gives = comes;
        same = subst (λ (f : Event). bare_event f ≡ bare_event (look_event p q)) is refl;
        alike = subst (λ (f : Event). Alike s (f ∷ past) (look_event p q ∷ past)) is like;
      }
    where
      inside : (v w : What) → ◌≡◌ {A = Option What} (Some v) (Some w) → v ≡ w
      inside v w h = cc

  -- where a list has all turns that may be taken, each event that may come has its turn there, or a like one
  pub has_turn : HasTurnOf s past turns e
  has_turn = go (turn_of e) refl
    where
      go : (t : Turn) → turn_of e ≡ t → HasTurnOf s past turns e
      go (Next p) q = itself (ap filled_turn q ∙ sym q)
      go (SwitchTurn p t) q = itself (ap filled_turn q ∙ sym q)
      go (LookTurn p r) q = a_look p r q
