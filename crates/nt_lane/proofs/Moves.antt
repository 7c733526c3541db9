-- What words see of a pass that made an event.
use Rattle.std.proofs.Common.{ap, append-nil, arith, refl, subst, sym, ◌∙◌}
use Rattle.std.proofs.lemmas.List.{append_assoc, length-append, map-append}
use Rattle.std.proofs.lemmas.List.Folds.{list_any-append}
use Rattle.std.specs.List.{list_any}
use Rattle.std.specs.Prelude.{All, Bool, List, Some, [], false, length, map, true, ℕ, ◌&&◌, ◌*◌, ◌+◌, ◌++◌, ◌==◌, ◌||◌, ◌∷◌, ◌≡◌, ◌≤◌}
use Rattle.nt_event.specs.declared.events.Event.{Event}
use Rattle.nt_event.specs.declared.jobs.Stand.{Stand}
use Rattle.nt_event.specs.declared.numbers.CpuNo.{CpuNo}
use Rattle.nt_event.specs.declared.scripts.Script.{Script}
use Rattle.nt_event.specs.Lanes.{lane_number, what_lanes}
use Rattle.nt_event.specs.Requests.{Ask, is_ask, what_asks}
use Rattle.nt_event.specs.Acts.{Found}
use Rattle.nt_floor.specs.Lists.{Lists, Mark as MarkTold, with_draw, with_marks}
use Rattle.nt_floor.specs.Views.{IsMoved}
use Rattle.nt_mark.specs.declared.marks.Marks.{Marks}
use Rattle.nt_mark.specs.declared.view.Entry.{Entry}
use Rattle.nt_mark.specs.declared.view.Look.{Look}
use Rattle.nt_mark.specs.declared.view.Mark.{Mark}
use Rattle.nt_mark.specs.declared.view.View.{View}
use Rattle.nt_mark.specs.Names.{limit_of}
use Rattle.nt_mark.specs.Views.{entry, reach, request_word}
use Rattle.nt_lane.specs.Marked.{mark_for}
use Rattle.nt_lane_record.specs.Records.{IsAskKnown}
use Rattle.nt_lane.specs.Tries.{HasMade}
use Rattle.nt_lane.specs.Views.{drawable_of, draw_told, is_mark, lists_of, look_told, mark_told, words_of}
use Rattle.nt_states.proofs.Requests.{all_head, all_tail, is_ask_true}

-- anything follows from false being equal to true
no_bool : {A : Type 0} → false ≡ true → A
no_bool h = cc

-- ---- marks

-- or-ing a conjunction with false changes nothing
or_off : (b e : Bool) → b ≡ (b || (e && false))
or_off true e = refl
or_off false true = refl
or_off false false = refl

-- a conjunction distributes over a disjunction
spread : (e x y : Bool) → ((e && x) || (e && y)) ≡ (e && (x || y))
spread true x y = refl
spread false x y = refl

-- a conjunction with false is false
none : (e : Bool) → false ≡ (e && false)
none true = refl
none false = refl

-- the equality test of numbers is the same in both orders
same_eqb : (m n : ℕ) → (m == n) ≡ (n == m)
same_eqb m n = grind arith

-- the marks of an event are those of its asks
marks_of : (k n : ℕ) (q : CpuNo) (c : ℕ) (asks : List Ask) → list_any (is_mark k q c) (map (mark_for n) asks) ≡ ((k == n) && list_any (is_ask q c) asks)
marks_of k n q c [] = none (k == n)
marks_of k n q c (a ∷ asks) =
    ap (λ (b : Bool). b || list_any (is_mark k q c) (map (mark_for n) asks)) (ap (λ (e : Bool). e && is_ask q c a) (same_eqb n k))
    ∙ (ap (λ (b : Bool). ((k == n) && is_ask q c a) || b) (marks_of k n q c asks) ∙ spread (k == n) (is_ask q c a) (list_any (is_ask q c) asks))

-- with the marks of an event's asks added, a mark is there if it was or if an ask of that event is for it
marked_more : (k n : ℕ) (q : CpuNo) (c : ℕ) (asks : List Ask) (old new : List Mark) → new ≡ old ++ map (mark_for n) asks →
    list_any (is_mark k q c) new ≡ (list_any (is_mark k q c) old || ((k == n) && list_any (is_ask q c) asks))
marked_more k n q c asks old new e =
    ap (λ (ms : List Mark). list_any (is_mark k q c) ms) e
    ∙ (list_any-append (is_mark k q c) old (map (mark_for n) asks)
    ∙ ap (λ (b : Bool). list_any (is_mark k q c) old || b) (marks_of k n q c asks))

-- what is asked is known
pub asked_known : (n : ℕ) (w : View) (q : CpuNo) (c : ℕ) (asks : List Ask) → All (IsAskKnown n w) asks → list_any (is_ask q c) asks ≡ true →
    n + 1 ≤ reach (request_word q c) w
asked_known n w q c [] h e = no_bool e
asked_known n w q c (a ∷ asks) h e = go (asked_known n w q c asks (all_tail (IsAskKnown n w) a asks h)) (is_ask q c a) refl
  where
    go : (list_any (is_ask q c) asks ≡ true → n + 1 ≤ reach (request_word q c) w) → (b : Bool) → is_ask q c a ≡ b → n + 1 ≤ reach (request_word q c) w
    go rest true k =
        let p = is_ask_true q c a k in
        let known : n + 1 ≤ reach (request_word a.cpu a.class) w = all_head (IsAskKnown n w) a asks h in
        let same : request_word q c ≡ request_word a.cpu a.class = omega (arith, p.0, p.1) in
        rw same known
    go rest false k = rest (subst (λ (b : Bool). (b || list_any (is_ask q c) asks) ≡ true) k e)

-- ---- lists

-- the mark that words tell of an ask of the event of number n
told_for : ℕ → Ask → MarkTold
told_for n a = record { cpu = a.cpu; class = a.class; number = n }

-- the marks of an event's asks are told as the marks that words tell of its asks
marks_told : (n : ℕ) (asks : List Ask) → map mark_told (map (mark_for n) asks) ≡ map (told_for n) asks
unfolding told_for
marks_told n [] = refl
marks_told n (a ∷ asks) = ap (λ (ms : List MarkTold). told_for n a ∷ ms) (marks_told n asks)

-- the lists that words tell after the marks of an event have those of its asks at the end
with_each : (n : ℕ) (asks : List Ask) (l : Lists) → with_marks n asks (Some l) ≡ Some (record l { marks = l.marks ++ map (told_for n) asks })
unfolding told_for
with_each n [] l = ap (λ (ms : List MarkTold). Some (record l { marks = ms })) (sym (append-nil l.marks))
with_each n (a ∷ asks) l =
    with_each n asks (record l { marks = l.marks ++ told_for n a ∷ [] })
    ∙ ap (λ (ms : List MarkTold). Some (record l { marks = ms })) (append_assoc l.marks (told_for n a ∷ []) (map (told_for n) asks))

-- the lists that words tell of a pass that made an event are those with its draw and its marks
lists_made : (n : ℕ) (e : Event) (lanes : List ℕ) (asks : List Ask) (v w : View) → HasMade n e lanes asks v w →
    Some (lists_of w) ≡ with_marks n asks (with_draw n e lanes (Some (lists_of v)))
lists_made n e lanes asks v w h =
    let draws : map draw_told w.entries ≡ map draw_told v.entries ++ record { number = n; event = e; lanes = lanes } ∷ [] =
    ap (λ (es : List Entry). map draw_told es) h.entries ∙ map-append draw_told v.entries (entry n e lanes ∷ []) in
    let marks : map mark_told w.marks ≡ map mark_told v.marks ++ map (told_for n) asks =
    ap (λ (ms : List Mark). map mark_told ms) h.marks
    ∙ (map-append mark_told v.marks (map (mark_for n) asks)
    ∙ ap (λ (ms : List MarkTold). map mark_told v.marks ++ ms) (marks_told n asks)) in
    let looks = ap (λ (ls : List Look). map look_told ls) h.looks in
    let is : Some (lists_of w) ≡ Some (record {
      draws = map draw_told v.entries ++ record { number = n; event = e; lanes = lanes } ∷ [];
      marks = map mark_told v.marks ++ map (told_for n) asks;
      looks = map look_told v.looks;
    }) = λ i. Some (record { draws = draws i; marks = marks i; looks = looks i }) in
    is ∙ sym (with_each n asks (record {
      draws = map draw_told v.entries ++ record { number = n; event = e; lanes = lanes } ∷ [];
      marks = map mark_told v.marks;
      looks = map look_told v.looks;
    }))

-- ---- an event that was made

-- a pass that could still draw and made an event moved, as words see it, as that event says
pub moved : (m : Marks) (s : Script) (n : ℕ) (e : Event) (st : Stand) (f : Found) (v w : View) → 1 ≤ drawable_of m v →
    HasMade n e (map (lane_number s) (what_lanes s st e.what f.lanes)) (what_asks s st e.what f.lanes) v w →
    IsMoved s n e st f (words_of m v) (words_of m w)
moved m s n e st f v w room h =
    let xs = map (lane_number s) (what_lanes s st e.what f.lanes) in
    let asks = what_asks s st e.what f.lanes in
    let entries : length w.entries ≡ length v.entries + 1 = ap (λ (es : List Entry). length es) h.entries ∙ length-append v.entries (entry n e xs ∷ []) in
    let parts : limit_of m * w.parts ≡ limit_of m * v.parts = ap (λ (k : ℕ). limit_of m * k) h.grows.parts in
    record {
      cpus = refl;
      alone = refl;
      least = (h.from, h.to);
      exact = λ a. no_bool a;
      drawable = omega (arith, entries, parts, room);
      lists = lists_made n e xs asks v w h;
      marked = λ k q c b. marked_more k n q c asks v.marks w.marks h.marks;
      value = λ a. no_bool a;
      never_falls = λ q c b. h.least (request_word q c);
      asked = λ q c b a. asked_known n w q c asks h.asked a;
      before = tt;
      after = tt;
      told_before = λ a. no_bool a;
      told_after = λ a. no_bool a;
    }
