-- What an event asks for, touches and leaves is determined by what its processor keeps and the states of the lanes that it touches.
use Rattle.std.proofs.Common.{ap, subst, sym, ◌∙◌}
use Rattle.std.proofs.lemmas.Bool.{eq-eqb}
use Rattle.std.specs.List.{list_any}
use Rattle.std.specs.Prelude.{Bool, List, Ok, Option, Some, [], get_or, length, max, refl, true, ℕ, ◌&&◌, ◌<◌, ◌∷◌, ◌≡◌}
use Rattle.nt_event.specs.declared.events.Event.{Event}
use Rattle.nt_event.specs.declared.events.What.{What}
use Rattle.nt_event.specs.declared.events.What.TheVariants.{Switch}
use Rattle.nt_event.specs.declared.jobs.Lane.{Lane}
use Rattle.nt_event.specs.declared.jobs.Stand.{Stand}
use Rattle.nt_event.specs.declared.numbers.CpuNo.{CpuNo}
use Rattle.nt_event.specs.declared.numbers.ThreadNo.{ThreadNo}
use Rattle.nt_event.specs.declared.scripts.Script.{Script}
use Rattle.nt_event.specs.Frames.{due_of, running, time}
use Rattle.nt_event.specs.LaneStates.{LaneState, content, lane_state, told_table}
use Rattle.nt_event.specs.Lanes.{Lanes, lanes_after, lanes_at, lanes_of, same_lane, touches, what_lanes}
use Rattle.nt_event.specs.Own.{Own, own_after_event, own_of, stand_in}
use Rattle.nt_event.specs.Regions.{stand_at}
use Rattle.nt_event.specs.Requests.{asks, is_ask, raised, told, told_by, told_by_all, what_asks}
use Rattle.nt_event.specs.Routines.{cpu_of}
use Rattle.nt_event.specs.Step.{IsLegal, step, turn_at}
use Rattle.nt_event.specs.Numbers.{cpu, is_of}
use Rattle.nt_event.specs.Lists.{table}
use Rattle.nt_event.proofs.Moves.{lanes_move, own_moves_here}
use Rattle.nt_runs.proofs.Robin.{cpu_below}
use Rattle.nt_runs.proofs.Running.{taken, own_runs}
use Rattle.nt_event.proofs.Tables.{get_or-table, table-same}
use Rattle.nt_laws.specs.Locality.{Alike, LeavesAlike, SameOnEach}
use Rattle.nt_runs.proofs.Locality.Leaves.{asks_same, content_left, delay_timers, keeps_same, lanes_same}
use Rattle.nt_laws.proofs.Local.{all_threads, contents}

-- a place of two tables whose elements there are the same
at_same : {A : Type 0} (n i : ℕ) (f g : ℕ → A) (d : A) → get_or (table n f) i d ≡ get_or (table n g) i d → i < n → f i ≡ g i
at_same n i f g d e l = sym (get_or-table n i f d l) ∙ (e ∙ get_or-table n i g d l)

module _ (s : Script) (h k : List Event) (e : Event) (long : length h ≡ length k) (stand : stand_at s e.cpu h ≡ stand_at s e.cpu k)
    (q : SameOnEach s h k (what_lanes s (stand_at s e.cpu h) e.what (lanes_at s h))) where
  content_after : (x : Lane) → lane_state s x h ≡ lane_state s x k → content s (lanes_at s (e ∷ h)) x ≡ content s (lanes_at s (e ∷ k)) x
  content_after x a =
      ap (λ (l : Lanes). content s l x) (lanes_move s e h)
      ∙ (content_left s (lanes_at s h) (lanes_at s k) (all_threads s h) (all_threads s k) (length h) (stand_at s e.cpu h) e refl (contents s h k _ q) x
      (ap (λ (y : LaneState). y.content) a)
      ∙ (ap (λ (n : ℕ). content s (lanes_after s n (stand_at s e.cpu h) e (lanes_at s k)) x) long
      ∙ (ap (λ (st : Stand). content s (lanes_after s (length k) st e (lanes_at s k)) x) stand
      ∙ ap (λ (l : Lanes). content s l x) (sym (lanes_move s e k)))))

  -- what a lane tells, where the event asks for the same and touches the same lanes
  told_same : (x : Lane) → lane_state s x h ≡ lane_state s x k → (p c : ℕ) → p < s.cpus → c < 16 → told_by s x (cpu p) c h ≡ told_by s x (cpu p) c k
  told_same x a p c l m =
      let t : told_table s x h ≡ told_table s x k = ap (λ (y : LaneState). y.told) a in
      let row : table 16 (λ c. told_by s x (cpu p) c h) ≡ table 16 (λ c. told_by s x (cpu p) c k) = at_same s.cpus p
      (λ p. table 16 (λ c. told_by s x (cpu p) c h)) (λ p. table 16 (λ c. told_by s x (cpu p) c k)) [] (ap (λ (xs : List (List ℕ)). get_or xs p []) t) l in
      at_same 16 c (λ c. told_by s x (cpu p) c h) (λ c. told_by s x (cpu p) c k) 0 (ap (λ (xs : List ℕ). get_or xs c 0) row) m

  module _ (asked : (p : CpuNo) (c : ℕ) → asks s p c e h ≡ asks s p c e k) (lanes : lanes_of s e h ≡ lanes_of s e k) where
    told_left : (x : Lane) → lane_state s x h ≡ lane_state s x k → told_table s x (e ∷ h) ≡ told_table s x (e ∷ k)
    told_left x a =
        table-same _ _ _ (λ p l. table-same _ _ _ (λ c m. ap (λ (b : Bool). raised (b && asks s (cpu p) c e h) (length h) (told_by s x (cpu p) c h))
        (ap (λ (xs : List Lane). list_any (same_lane x) xs) lanes)
        ∙ (ap (λ (b : Bool). raised (touches s x e k && b) (length h) (told_by s x (cpu p) c h)) (asked (cpu p) c)
        ∙ (ap (λ (n : ℕ). raised (touches s x e k && asks s (cpu p) c e k) n (told_by s x (cpu p) c h)) long
        ∙ ap (raised (touches s x e k && asks s (cpu p) c e k) (length k)) (told_same x a p c l m)))))

    pub state_left : (x : Lane) → lane_state s x h ≡ lane_state s x k → lane_state s x (e ∷ h) ≡ lane_state s x (e ∷ k)
    state_left x a = λ i. record { content = content_after x a i; told = told_left x a i }

    pub states_left : (xs : List Lane) → SameOnEach s h k xs → SameOnEach s (e ∷ h) (e ∷ k) xs
    states_left [] a = tt
    states_left (x ∷ xs) a = (state_left x a.0, states_left xs a.1)

    -- what the lanes of a list tell
    pub told_all_same : (xs : List Lane) (p c : ℕ) → p < s.cpus → c < 16 → SameOnEach s h k xs → told_by_all s xs (cpu p) c h ≡ told_by_all s xs (cpu p) c k
    told_all_same [] p c l m a = refl
    told_all_same (x ∷ xs) p c l m a =
        ap (λ (n : ℕ). max n (told_by_all s xs (cpu p) c h)) (told_same x a.0 p c l m) ∙ ap (max (told_by s x (cpu p) c k)) (told_all_same xs p c l m a.1)

-- ---- the law

-- a legal Switch takes up a thread of its processor
switch_own : (s : Script) (limit : ℕ) (e : Event) (past : List Event) → IsLegal s limit e past → (t : ThreadNo) (status : Option ℕ) → e.what
    ≡ Switch t status → (cpu_of s t).0 ≡ e.cpu.0
switch_own s limit e past g t status k =
    (taken s limit e.cpu t past e (subst (λ (w : What). step s limit (turn_at e.cpu w) past ≡ Ok e) k g)).1

-- the same event after two runs that agree on what it meets asks for, touches, leaves and keeps the same
pub leaves_the_same : (s : Script) (limit : ℕ) (h k : List Event) (e : Event) → Alike s limit h k e → LeavesAlike s h k e
leaves_the_same s limit h k e a =
    record { asks = asked; lanes = lanes; states = states_left s h k e a.length stand a.lanes asked lanes (lanes_of s e h) a.lanes; own = own }
  where
    stand : stand_at s e.cpu h ≡ stand_at s e.cpu k
    stand = ap (λ (x : Own). stand_in e.cpu x) a.own

    run : (t : ThreadNo) → running e.cpu h ≡ Some t → (cpu_of s t).0 ≡ e.cpu.0
    run = own_runs s limit e.cpu h a.first.1

    lanes : lanes_of s e h ≡ lanes_of s e k
    lanes =
        lanes_same s (lanes_at s h) (lanes_at s k) (all_threads s h) (all_threads s k) (stand_at s e.cpu h) run e.what (contents s h k _ a.lanes)
        ∙ ap (λ (st : Stand). what_lanes s st e.what (lanes_at s k)) stand

    all_asks : what_asks s (stand_at s e.cpu h) e.what (lanes_at s h) ≡ what_asks s (stand_at s e.cpu k) e.what (lanes_at s k)
    all_asks =
        asks_same s (lanes_at s h) (lanes_at s k) (all_threads s h) (all_threads s k) (stand_at s e.cpu h) run e.what (switch_own s limit e h a.first.0)
        (contents s h k _ a.lanes) ∙ ap (λ (st : Stand). what_asks s st e.what (lanes_at s k)) stand

    asked : (p : CpuNo) (c : ℕ) → asks s p c e h ≡ asks s p c e k
    asked p c = ap (list_any (is_ask p c)) all_asks

    below : e.cpu.0 < s.cpus
    below = cpu_below s limit e h a.first.0

    tells : (c : ℕ) → c < 16 → told s e.cpu c e h ≡ told s e.cpu c e k
    tells c l =
        told_all_same s h k e a.length stand a.lanes asked lanes (lanes_of s e h) e.cpu.0 c below l a.lanes
        ∙ ap (λ (xs : List Lane). told_by_all s xs e.cpu c k) lanes

    itself : is_of e e.cpu ≡ true
    itself = eq-eqb e.cpu.0 e.cpu.0 refl

    own : own_of s e.cpu (e ∷ h) ≡ own_of s e.cpu (e ∷ k)
    own =
        own_moves_here s e.cpu e h itself ∙ (ap (λ (n : ℕ). own_after_event s n (due_of e.what (time h)) e (λ c. asks s e.cpu c e h) (λ c. told s e.cpu c e h)
        (own_of s e.cpu h)) a.length ∙ (keeps_same s (length k) (time h) (time k) e (λ c. asks s e.cpu c e h) (λ c. asks s e.cpu c e k)
        (λ c. told s e.cpu c e h) (λ c. told s e.cpu c e k) (own_of s e.cpu h)
        (delay_timers s (lanes_at s h) (lanes_at s k) (stand_at s e.cpu h) e.what (contents s h k _ a.lanes)) (λ c l. asked e.cpu c) tells
        ∙ (ap (own_after_event s (length k) (due_of e.what (time k)) e (λ c. asks s e.cpu c e k) (λ c. told s e.cpu c e k)) a.own
        ∙ sym (own_moves_here s e.cpu e k itself))))
