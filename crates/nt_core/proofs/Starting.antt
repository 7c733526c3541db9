-- The machine before the first event.
use Rattle.std.proofs.Common.{arith, subst, sym, ◌∙◌}
use Rattle.std.specs.Prelude.{IsTrue, List, [], ℕ, ◌*◌, ◌≡◌, ◌≤◌}
use Rattle.nt_event.specs.declared.limits.TheConstants.{EVENTS, TURNS}
use Rattle.nt_event.specs.declared.events.Event.{Event}
use Rattle.nt_event.specs.declared.scripts.Script.{Script}
use Rattle.nt_event.specs.Script.{fits}
use Rattle.nt_floor.specs.Views.{IsUnmoved, View}
use Rattle.nt_plain.specs.States.{IsFresh, PlainState, view_of}
use Rattle.nt_plain.proofs.Openings.{fresh_opening}
use Rattle.nt_cpus.specs.Following.{AreAfter, cpus_of}
use Rattle.nt_cpus.specs.States.{CpusState}
use Rattle.nt_cpus.proofs.Floors.{follows_still}
use Rattle.nt_cpus.proofs.Starting.{start_after}

-- a fresh machine is sound
pub start_sound : (s : Script) (turns : ℕ) (past : List Event) (c : CpusState) (f : PlainState) → IsTrue (fits s) → turns ≤ TURNS →
    s.cpus * turns ≤ EVENTS → c ≡ record { script = s; limit = turns; cpus = cpus_of s turns [] } → IsFresh s turns f → past ≡ [] →
    AreAfter past c f.script (view_of f)
start_sound s turns past c f fit each all h k e =
    subst (λ (x : List Event). AreAfter x c f.script (view_of f)) (sym e)
    (start_after s turns c f.script (view_of f) fit each all h k.script (fresh_opening s turns f k))

-- where nothing happened on the floor, they stand after the same history
pub after_still : (past : List Event) (c : CpusState) (s t : Script) (v w : View) → AreAfter past c s v → t ≡ s → IsUnmoved v w → AreAfter past c t w
after_still past c s t v w h e u = record {
  script = h.script;
  small = h.small;
  run = h.run;
  every = h.every;
  follows = follows_still c.script past v w h.follows u;
  same = e ∙ h.same;
  drawable = (let d = h.drawable in let n = u.drawable in omega (arith, d, n));
}
