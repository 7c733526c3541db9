-- Turns that are taken one after another.
use Rattle.std.proofs.Common.{ap, append_assoc, arith, sym, ◌∙◌}
use Rattle.std.proofs.lemmas.List.{map_push, reverse-append}
use Rattle.std.specs.Prelude.{List, Ok, [], length, map, refl, reverse, suc, ℕ, ◌+◌, ◌++◌, ◌∷◌, ◌≡◌}
use Rattle.nt_event.specs.declared.events.Event.{Event}
use Rattle.nt_event.specs.declared.events.Turn.{Turn}
use Rattle.nt_event.specs.Step.{step, turn_of, turns}
use Rattle.nt_runs.proofs.Turns.{turn_same}
use Rattle.nt_core.specs.States.{CoreState, with_event}

-- the turns of a history with one event more, and then others, are those of before, that event's turn, and the others
turns_then : (e : Event) (past : List Event) (ts : List Turn) → turns (e ∷ past) ++ ts ≡ turns past ++ turn_of e ∷ ts
turns_then e past ts =
    ap (λ (x : List Turn). x ++ ts) (ap (map turn_of) (reverse-append (e ∷ []) past) ∙ map_push turn_of (reverse past) e)
    ∙ append_assoc (turns past) (turn_of e ∷ []) ts

-- the turns up to some place of the list were taken, and these are left
pub record IsOnWay (list left : List Turn) (at : ℕ) (begin now : CoreState) : Type 0 where
  pub script : now.script ≡ begin.script
  pub limit : now.limit ≡ begin.limit
  pub place : at ≡ length now.past
  pub list_is : list ≡ turns now.past ++ left

-- before any turn is taken, all are left
pub way_start : (list left : List Turn) (begin : CoreState) → begin.past ≡ [] → left ≡ list → IsOnWay list left 0 begin begin
way_start list left begin empty all = record {
  script = refl;
  limit = refl;
  place = sym (ap (λ (h : List Event). length h) empty);
  list_is = sym (ap (λ (h : List Event). turns h ++ left) empty ∙ all);
}

-- one turn more was taken
pub way_more : (list left rest : List Turn) (at : ℕ) (t : Turn) (e : Event) (begin now new : CoreState) → IsOnWay list left at begin now →
    left ≡ t ∷ rest → step now.script now.limit t now.past ≡ Ok e → new ≡ with_event e now → IsOnWay list rest (at + 1) begin new
way_more list left rest at t e begin now new on first taken is = record {
  script = ap (λ (c : CoreState). c.script) is ∙ on.script;
  limit = ap (λ (c : CoreState). c.limit) is ∙ on.limit;
  place =
      let place = on.place in
      let more : length new.past ≡ suc (length now.past) = ap (λ (c : CoreState). length c.past) is in
      omega (arith, place, more);
  list_is =
      on.list_is ∙ (ap (λ (x : List Turn). turns now.past ++ x) first
      ∙ (ap (λ (u : Turn). turns now.past ++ u ∷ rest) (sym (turn_same now.script now.limit t now.past e taken))
      ∙ (sym (turns_then e now.past rest) ∙ sym (ap (λ (c : CoreState). turns c.past ++ rest) is))));
}
