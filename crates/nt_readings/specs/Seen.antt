-- What a processor has seen and served of a class, by positions in the history.
use Rattle.std.specs.Prelude.{List, true, ℕ, ◌+◌, ◌<◌, ◌∷◌, ◌≡◌, ◌≤◌, ◌⊎◌}
use Rattle.nt_event.specs.declared.commands.Reply.TheVariants.{Spin}
use Rattle.nt_event.specs.declared.events.Begun.TheVariants.{Apc, Dpc, Int, Threaded}
use Rattle.nt_event.specs.declared.events.Event.{Event}
use Rattle.nt_event.specs.declared.events.What.{What}
use Rattle.nt_event.specs.declared.jobs.Lane.{Lane}
use Rattle.nt_event.specs.declared.numbers.CpuNo.{CpuNo}
use Rattle.nt_event.specs.declared.scripts.Script.{Script}
use Rattle.nt_event.specs.Classes.{lock_class}
use Rattle.nt_event.specs.Lanes.{touches}
use Rattle.nt_event.specs.Requests.{asks, looked, seen, served}
use Rattle.nt_event.specs.Step.{IsRun}
use Rattle.nt_event.specs.Numbers.{is_of}
use Rattle.nt_readings.specs.Positions.{At, EachAfter, Everywhere, IsGreatestNext, Somewhere}
use Rattle.nt_event.specs.Families.{in_begin, in_call, in_clean}
use Rattle.nt_event.specs.declared.events.Begun.{Begun}

-- event n asks for the class on p
abbrev pub IsAsk : Script → CpuNo → ℕ → ℕ → List Event → Type 0
IsAsk s p c n past = At (λ e before. asks s p c e before ≡ true) n past

-- p made event n
abbrev pub IsMade : CpuNo → ℕ → List Event → Type 0
IsMade p n past = At (λ e before. is_of e p ≡ true) n past

-- event n touches the lane
abbrev pub IsTouch : Script → Lane → ℕ → List Event → Type 0
IsTouch s x n past = At (λ e before. touches s x e before ≡ true) n past

-- a Look of p has a value of at least n + 1 in the class
abbrev pub IsLookedAt : CpuNo → ℕ → ℕ → List Event → Type 0
IsLookedAt p c n past = Somewhere (λ e before. (is_of e p ≡ true) × (n + 1 ≤ looked e.what c)) past

-- a later event of p touches a lane that event n touches
abbrev pub IsMet : Script → CpuNo → ℕ → List Event → Type 0
IsMet s p n past = Somewhere (λ e before. (is_of e p ≡ true) × (x : Lane) × (touches s x e before ≡ true) ×
    IsTouch s x n before) past

-- p noticed event n: it made it, or looked at its value, or met it on a lane
abbrev pub IsNoticed : Script → CpuNo → ℕ → ℕ → List Event → Type 0
IsNoticed s p c n past = IsMade p n past ⊎ (IsLookedAt p c n past ⊎ IsMet s p n past)

-- event n is an ask for the class on p that p noticed
abbrev pub IsNoticedAsk : Script → CpuNo → ℕ → List Event → ℕ → Type 0
IsNoticedAsk s p c past n = IsAsk s p c n past × IsNoticed s p c n past

-- in a run, seen is the greatest n + 1 over the asks that the processor noticed, else 0
abbrev pub SeenIsGreatestNoticed : Type 0
SeenIsGreatestNoticed = (s : Script) (limit : ℕ) (p : CpuNo) (c : ℕ) (past : List Event) → IsRun s limit past →
    IsGreatestNext (IsNoticedAsk s p c past) (seen s p c past)

abbrev pub BeginServes : ℕ → Begun → Type 0
BeginServes c (Int level) = (level ≡ c) × (2 < c) × (c ≡ lock_class → ⊥)
BeginServes c (Dpc d) = ⊥
BeginServes c (Threaded d) = ⊥
BeginServes c (Apc a) = ⊥

-- the event serves the class: a Clean of it for the classes 0 to 2, a call that spins for that of released locks, a
-- Begin of its interrupt for the others
abbrev pub IsServing : ℕ → What → Type 0
IsServing c w =
    in_clean (λ k. (k ≡ c) × (c < 3))
    (in_call (λ f command y. (c ≡ lock_class) × (y ≡ Spin)) (in_begin (λ b from. BeginServes c b) ⊥ w) w) w

-- an event of p doesn't serve the class
abbrev pub IsNoService : CpuNo → ℕ → Event → List Event → Type 0
IsNoService p c e before = is_of e p ≡ true → IsServing c e.what → ⊥

-- event n of p served the class, and this was seen just after it
abbrev pub IsServedAt : Script → CpuNo → ℕ → ℕ → ℕ → List Event → Type 0
IsServedAt s p c v n past = At (λ e before. (is_of e p ≡ true) × IsServing c e.what ×
    (v ≡ seen s p c (e ∷ before))) n past

-- the value is what was seen just after the last event that served the class, else 0
abbrev pub IsServed : Script → CpuNo → ℕ → ℕ → List Event → Type 0
IsServed s p c v past = ((v ≡ 0) × Everywhere (IsNoService p c) past) ⊎
    ((n : ℕ) × IsServedAt s p c v n past × EachAfter (IsNoService p c) n past)

-- in a run, served is what was seen just after the last Clean of the class by the processor, for the classes 0 to 2,
-- just after its last call with reply spin, for that of released locks, or just after the last Begin of the class's
-- interrupt on it, for the others, else 0
abbrev pub ServedIsSeenAtLastService : Type 0
ServedIsSeenAtLastService = (s : Script) (limit : ℕ) (p : CpuNo) (c : ℕ) (past : List Event) → IsRun s limit past →
    IsServed s p c (served s p c past) past
