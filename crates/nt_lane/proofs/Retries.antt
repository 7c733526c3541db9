-- A pass that only learned in a try may try again.
use Rattle.std.proofs.Common.{ap, arith, refl, subst, ◌∙◌}
use Rattle.std.specs.Prelude.{List, length, map, ℕ, ◌*◌, ◌++◌, ◌∷◌, [], ◌≡◌, ◌≤◌}
use Rattle.nt_event.specs.declared.events.Event.{Event}
use Rattle.nt_event.specs.declared.jobs.Job.{Job}
use Rattle.nt_event.specs.declared.jobs.Stand.{Stand}
use Rattle.nt_event.specs.declared.scripts.Script.{Script}
use Rattle.nt_event.specs.Requests.{Ask}
use Rattle.nt_event.specs.declared.acts.ActRefusal.{ActRefusal}
use Rattle.nt_event.specs.declared.acts.Acted.{Acted}
use Rattle.nt_event.specs.declared.acts.Made.{Made}
use Rattle.nt_event.specs.Acts.{acted_of}
use Rattle.nt_mark.specs.declared.marks.Marks.{Marks}
use Rattle.nt_mark.specs.declared.view.Entry.{Entry}
use Rattle.nt_mark.specs.declared.view.Mark.{Mark}
use Rattle.nt_mark.specs.declared.view.View.{View}
use Rattle.nt_mark.specs.Names.{limit_of}
use Rattle.nt_mark.specs.Views.{entry, step_word}
use Rattle.nt_lane.specs.Marked.{mark_for}
use Rattle.nt_lane.specs.Tries.{HasMade, IsDone, IsMade, IsNotDone}
use Rattle.nt_lane_record.specs.Passes.{Learns, grows_same, grows_through}
use Rattle.nt_lane.specs.Views.{drawable_of}

-- a pass that did nothing has learned from itself
pub learns_same : (v : View) → Learns v v
learns_same v = record { entries = refl; marks = refl; looks = refl; least = λ u. omega arith; grows = grows_same v }

-- a pass that learned twice in a row has learned from the first to the last
pub learns_through : (u v w : View) → Learns u v → Learns v w → Learns u w
learns_through u v w g h = record {
  entries = h.entries ∙ g.entries;
  marks = h.marks ∙ g.marks;
  looks = h.looks ∙ g.looks;
  least = λ x. let a = g.least x in let b = h.least x in omega arith;
  grows = grows_through u v w g.grows h.grows;
}

-- a pass that only learned may still draw an event if it could before
pub room_left : (m : Marks) (u v : View) → Learns u v → 1 ≤ drawable_of m u → 1 ≤ drawable_of m v
room_left m u v l h =
    let entries : length v.entries ≡ length u.entries = ap (λ (es : List Entry). length es) l.entries in
    let parts : limit_of m * v.parts ≡ limit_of m * u.parts = ap (λ (n : ℕ). limit_of m * n) l.grows.parts in
    omega (arith, entries, parts, h)

-- ---- before an event was made, and after it

-- an event that a pass made after it had only learned was made since before it learned
pub made_after : (n : ℕ) (e : Event) (lanes : List ℕ) (asks : List Ask) (u v w : View) → Learns u v → HasMade n e lanes asks v w →
    HasMade n e lanes asks u w
made_after n e lanes asks u v w l h = record {
  entries = h.entries ∙ ap (λ (es : List Entry). es ++ entry n e lanes ∷ []) l.entries;
  marks = h.marks ∙ ap (λ (ms : List Mark). ms ++ map (mark_for n) asks) l.marks;
  looks = h.looks ∙ l.looks;
  least = λ x. let a = l.least x in let b = h.least x in omega arith;
  from = let a = l.least step_word in let b = h.from in omega arith;
  to = h.to;
  asked = h.asked;
  grows = grows_through u v w l.grows h.grows;
}

-- an act that was done after the pass had only learned was done since before it learned
pub done_after : (s : Script) (st : Stand) (job : Job) (u v w : View) (a : Acted) → Learns u v → IsDone s st job v w a → IsDone s st job u w a
done_after s st job u v w a l d = record {
  found = d.found;
  by = d.by;
  acted = d.acted;
  made = made_after _ _ _ _ u v w l d.made;
  asks_named = d.asks_named;
  fits = d.fits;
  told = d.told;
}

-- an act that was made after the pass had only learned, with nothing more seen, was made since before it learned
pub act_made_after : (s : Script) (st : Stand) (job : Job) (u v w : View) (before now after : List ℕ) (e : Event) (m : Made) → Learns u v → now ≡ before →
    IsMade s st job v w now after e m → IsMade s st job u w before after e m
act_made_after s st job u v w before now after e m l same h =
    subst (λ (seen : List ℕ). IsMade s st job u w seen after e m) same (record {
      told = h.told;
      done = done_after s st job u v w (acted_of m e h.told) l h.done;
      seen = h.seen;
      interrupts = h.interrupts;
    })

-- an act that was refused after the pass had only learned was refused since before it learned
pub not_done_after : (s : Script) (st : Stand) (job : Job) (u v w : View) (r : ActRefusal) → Learns u v → IsNotDone s st job v w r →
    IsNotDone s st job u w r
not_done_after s st job u v w r l h = record {
  found = h.found;
  shown = h.shown;
  cause = h.cause;
  learns = learns_through u v w l h.learns;
}
