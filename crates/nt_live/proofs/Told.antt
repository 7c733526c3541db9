-- The lists that words tell, back as a pass has them.
use Rattle.std.proofs.Common.{ap, append-nil, append_assoc, sym, ◌∙◌}
use Rattle.std.proofs.lemmas.List.{map-append}
use Rattle.std.specs.Prelude.{List, Some, [], map, refl, ℕ, ◌++◌, ◌∷◌, ◌≡◌}
use Rattle.nt_cpu.specs.Steps.{with_looks}
use Rattle.nt_event.specs.declared.events.Event.{Event}
use Rattle.nt_event.specs.Requests.{Ask}
use Rattle.nt_floor.specs.Lists.{Draw, Lists, Look as LookTold, Mark as MarkTold, with_draw, with_marks}
use Rattle.nt_lane.specs.Marked.{mark_for}
use Rattle.nt_lane.specs.Views.{draw_told, lists_of, look_told, mark_told}
use Rattle.nt_mark.specs.declared.view.Entry.{Entry}
use Rattle.nt_mark.specs.declared.view.Look.{Look}
use Rattle.nt_mark.specs.declared.view.Mark.{Mark}
use Rattle.nt_mark.specs.declared.view.View.{View}
use Rattle.nt_mark.specs.Views.{entry, look_of, mark_of}

-- the entry of a pass that a told draw stands for
entry_back : Draw → Entry
entry_back d = record { number = d.number; event = d.event; lanes = d.lanes }

-- the mark of a pass that a told mark stands for
mark_back : MarkTold → Mark
mark_back m = mark_of m.cpu m.class m.number

unfoldable pub look_back : LookTold → Look
look_back l = look_of l.cpu l.class l.value

-- entries that are told and read back are those that were told
entries_back : (es : List Entry) → map entry_back (map draw_told es) ≡ es
unfolding entry_back
entries_back [] = refl
entries_back (e ∷ es) = ap (λ (l : List Entry). e ∷ l) (entries_back es)

-- marks that are told and read back are those that were told
marks_back : (ms : List Mark) → map mark_back (map mark_told ms) ≡ ms
unfolding mark_back
marks_back [] = refl
marks_back (m ∷ ms) = ap (λ (l : List Mark). m ∷ l) (marks_back ms)

-- looks that are told and read back are those that were told
looks_back : (ls : List Look) → map look_back (map look_told ls) ≡ ls
unfolding look_back
looks_back [] = refl
looks_back (l ∷ ls) = ap (λ (k : List Look). l ∷ k) (looks_back ls)

-- looks that words tell are the same after they are turned into looks of a pass and told again
pub looks_told : (ls : List LookTold) → map look_told (map look_back ls) ≡ ls
unfolding look_back
looks_told [] = refl
looks_told (l ∷ ls) = ap (λ (k : List LookTold). l ∷ k) (looks_told ls)

-- the told mark of an ask of the event of number n
ask_mark : ℕ → Ask → MarkTold
ask_mark n a = record { cpu = a.cpu; class = a.class; number = n }

-- marking an event's asks adds their told marks at the end of the lists
marked_all : (n : ℕ) (asks : List Ask) (l : Lists) → with_marks n asks (Some l) ≡ Some (record l { marks = l.marks ++ map (ask_mark n) asks })
unfolding ask_mark
marked_all n [] l = ap (λ (ms : List MarkTold). Some (record l { marks = ms })) (sym (append-nil l.marks))
marked_all n (a ∷ asks) l =
    marked_all n asks (record l { marks = l.marks ++ ask_mark n a ∷ [] })
    ∙ ap (λ (ms : List MarkTold). Some (record l { marks = ms })) (append_assoc l.marks (ask_mark n a ∷ []) (map (ask_mark n) asks))

-- the told marks of an event's asks, read back, are the event's marks
asks_back : (n : ℕ) (asks : List Ask) → map mark_back (map (ask_mark n) asks) ≡ map (mark_for n) asks
unfolding ask_mark mark_back
asks_back n [] = refl
asks_back n (a ∷ asks) = ap (λ (l : List Mark). mark_of a.cpu a.class n ∷ l) (asks_back n asks)

-- values that are equal as options are equal
some_of : {A : Type 0} {a b : A} → Some a ≡ Some b → a ≡ b
some_of h = cc

-- a single told draw, read back, is the single entry of its number, event and lanes
one_back : (d : Draw) → map entry_back (d ∷ []) ≡ entry d.number d.event d.lanes ∷ []
unfolding entry_back
one_back d = refl

-- what was drawn, marked and looked, where the words tell it
pub record Told (v w : View) (n : ℕ) (e : Event) (lanes : List ℕ) (asks : List Ask) (looks : List LookTold) : Type 0 where
  pub entries : w.entries ≡ v.entries ++ entry n e lanes ∷ []
  pub marks : w.marks ≡ v.marks ++ map (mark_for n) asks
  pub looks_are : w.looks ≡ v.looks ++ map look_back looks

-- where words tell a draw, marks and looks, the pass has just that entry and those marks and looks more
pub told_lists : (v w : View) (n : ℕ) (e : Event) (lanes : List ℕ) (asks : List Ask) (looks : List LookTold) →
    Some (lists_of w) ≡ with_marks n asks (with_draw n e lanes (with_looks looks (Some (lists_of v)))) → Told v w n e lanes asks looks
told_lists v w n e lanes asks looks h =
    let d : Draw = record { number = n; event = e; lanes = lanes } in
    let is : lists_of w ≡ record {
      draws = map draw_told v.entries ++ d ∷ [];
      marks = map mark_told v.marks ++ map (ask_mark n) asks;
      looks = map look_told v.looks ++ looks;
    } = some_of (h ∙ marked_all n asks (record {
      draws = map draw_told v.entries ++ d ∷ [];
      marks = map mark_told v.marks;
      looks = map look_told v.looks ++ looks;
    })) in
    let back : map entry_back (d ∷ []) ≡ entry n e lanes ∷ [] = one_back d in
    record {
      entries = sym (entries_back w.entries) ∙ (ap (λ (l : Lists). map entry_back l.draws) is ∙ (map-append entry_back (map draw_told v.entries) (d ∷ [])
          ∙ (ap (λ (es : List Entry). es ++ map entry_back (d ∷ [])) (entries_back v.entries) ∙ ap (λ (es : List Entry). v.entries ++ es) back)));
      marks = sym (marks_back w.marks) ∙ (ap (λ (l : Lists). map mark_back l.marks) is
          ∙ (map-append mark_back (map mark_told v.marks) (map (ask_mark n) asks)
          ∙ (ap (λ (ms : List Mark). ms ++ map mark_back (map (ask_mark n) asks)) (marks_back v.marks)
          ∙ ap (λ (ms : List Mark). v.marks ++ ms) (asks_back n asks))));
      looks_are = sym (looks_back w.looks) ∙ (ap (λ (l : Lists). map look_back l.looks) is ∙ (map-append look_back (map look_told v.looks) looks
          ∙ ap (λ (ls : List Look). ls ++ map look_back looks) (looks_back v.looks)));
    }

-- what was looked, where nothing was drawn or marked
pub record ToldLooks (v w : View) (looks : List LookTold) : Type 0 where
  pub entries : w.entries ≡ v.entries
  pub marks : w.marks ≡ v.marks
  pub looks_are : w.looks ≡ v.looks ++ map look_back looks

-- where words tell looks alone, the pass has just those looks more and the same entries and marks
pub told_looks : (v w : View) (looks : List LookTold) → Some (lists_of w) ≡ with_looks looks (Some (lists_of v)) → ToldLooks v w looks
told_looks v w looks h =
    let is : lists_of w ≡ record (lists_of v) { looks = map look_told v.looks ++ looks } = some_of h in
    record {
      entries = sym (entries_back w.entries) ∙ (ap (λ (l : Lists). map entry_back l.draws) is ∙ entries_back v.entries);
      marks = sym (marks_back w.marks) ∙ (ap (λ (l : Lists). map mark_back l.marks) is ∙ marks_back v.marks);
      looks_are = sym (looks_back w.looks) ∙ (ap (λ (l : Lists). map look_back l.looks) is ∙ (map-append look_back (map look_told v.looks) looks
          ∙ ap (λ (ls : List Look). ls ++ map look_back looks) (looks_back v.looks)));
    }
