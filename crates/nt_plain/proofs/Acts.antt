-- What an act answers and does to the view of a floor.
use Rattle.std.proofs.Common.{ap, arith, refl, sym, ◌∙◌}
use Rattle.std.proofs.lemmas.Bool.{ltb-true}
use Rattle.std.specs.Prelude.{All, Bool, IfSome, IsTrue, List, None, Some, [], false, true, ℕ, ◌+◌, ◌-◌, ◌<◌, ◌^◌, ◌∷◌, ◌≡◌, ◌≤◌}
use Rattle.nt_event.specs.declared.events.Event.{Event}
use Rattle.nt_event.specs.declared.events.What.{What}
use Rattle.nt_event.specs.declared.jobs.Job.{Job}
use Rattle.nt_event.specs.declared.jobs.Stand.{Stand}
use Rattle.nt_event.specs.declared.numbers.CpuNo.{CpuNo}
use Rattle.nt_event.specs.Acting.{acted_event}
use Rattle.nt_event.specs.Frames.{due_of}
use Rattle.nt_event.specs.Jobs.{job_event}
use Rattle.nt_event.specs.Lanes.{what_lanes}
use Rattle.nt_event.specs.Requests.{Ask, asks_in, raised, what_asks}
use Rattle.nt_event.specs.Script.{has_cpu}
use Rattle.nt_event.specs.Lists.{value_at}
use Rattle.nt_event.proofs.Tables.{get_or-table}
use Rattle.nt_event.specs.declared.acts.Acted.{Acted}
use Rattle.nt_event.specs.Acts.{IsActed, KindsFit, told_over}
use Rattle.nt_floor.specs.Lists.{with_marks}
use Rattle.nt_floor.specs.Views.{IsMoved, IsUnmoved}
use Rattle.nt_states.specs.LaneLists.{AskFits, LaneFits}
use Rattle.nt_plain.specs.Made.{IsKept, found_of, made, told_values}
use Rattle.nt_plain.specs.Places.{told_in, value_in}
use Rattle.nt_plain.specs.States.{PlainState, view_of}
use Rattle.nt_plain.proofs.Tells.{told_after_event}
use Rattle.nt_plain.proofs.Within.{all_within, over_below}
use Rattle.nt_states.proofs.Requests.{as_raised}
use Rattle.nt_plain.proofs.Writes.{marks_after, words_after}

-- the values that an answer tells
abbrev pub TellsOf : PlainState → Stand → What → List ℕ → Type 0
TellsOf f st w values = values ≡ told_values f st w

-- the value told of a class is raised by the event's requests over what its lanes told
told_value : (f : PlainState) (st : Stand) (w : What) (values : List ℕ) (c : ℕ) → TellsOf f st w values → c < 16 → value_at values c
    ≡ raised (asks_in f.script st w f.lanes st.cpu c) f.next (told_over (told_in f.script f.told) (what_lanes f.script st w f.lanes) st.cpu c)
told_value f st w values c e h =
    ap (λ (v : List ℕ). value_at v c) e ∙ get_or-table 16 c
    (λ k. raised (asks_in f.script st w f.lanes st.cpu k) f.next (told_over (told_in f.script f.told) (what_lanes f.script st w f.lanes) st.cpu k)) 0 h

-- an act that gives the event of its job, its due time and the told values answers as contracts demand
pub is_acted : (f : PlainState) (st : Stand) (job : Job) (w : What) (a : Acted) → job_event f.script st f.lanes job ≡ Some w → KindsFit f.script f.lanes →
    a.number ≡ f.next → a.event ≡ acted_event st f.lanes w → a.due ≡ due_of w f.lanes.timers.now → IfSome a.due (λ due. due < 2 ^ 51) →
    TellsOf f st w a.told.value → IsActed f.script (found_of f) st job a
is_acted f st job w a gives kinds number event due due_fits told =
    let same : a.event.what ≡ w = ap (λ (e : Event). e.what) event in
    record {
      what = rw same gives;
      event = event ∙ ap (λ (v : What). acted_event st f.lanes v) (sym same);
      kinds = kinds;
      due = rw same due;
      due_fits = due_fits;
      told = λ c h. rw (same, number) (told_value f st w a.told.value c told h);
    }

-- marks set for no list leave no list
no_lists : (n : ℕ) (asks : List Ask) → with_marks n asks None ≡ None
no_lists n [] = refl
no_lists n (a ∷ asks) = no_lists n asks

-- a value that is raised doesn't fall
rises : (b : Bool) (n old new : ℕ) → old ≤ n → new ≡ raised b n old → old ≤ new
rises true n old new h e = omega (arith, e)
rises false n old new h e = omega (arith, e)

-- what is asked for is raised to the event's ask
raised_here : (b : Bool) (n old new : ℕ) → b ≡ true → new ≡ raised b n old → n + 1 ≤ new
raised_here true n old new h e = omega (arith, e)
raised_here false n old new h e = cc

-- the word of a processor and class is raised after an event exactly if the event requests it
word_after : (f : PlainState) (st : Stand) (w : What) (q : CpuNo) (c : ℕ) → IsKept f → All (AskFits f.script) (what_asks f.script st w f.lanes) →
    q.0 < f.script.cpus → c < 16 → value_in (made st w f).asked q c ≡ raised (asks_in f.script st w f.lanes q c) f.next (value_in f.asked q c)
word_after f st w q c kept named h k =
    let low : value_in f.asked q c ≤ f.next = kept.asked q c h k in
    words_after f.script.cpus (f.next + 1) (what_asks f.script st w f.lanes) f.asked q c kept.asked_length
    (all_within f.script (what_asks f.script st w f.lanes) named) k (omega (arith, low))
    ∙ as_raised (asks_in f.script st w f.lanes q c) f.next (value_in f.asked q c)

-- an event of a kept floor whose lanes and requests fit moves the floor's view as it should
moved : (f : PlainState) (st : Stand) (w : What) → IsKept f → 1 ≤ f.limit - f.next → All (LaneFits f.script) (what_lanes f.script st w f.lanes) →
    All (AskFits f.script) (what_asks f.script st w f.lanes) →
    IsMoved f.script f.next (acted_event st f.lanes w) st (found_of f) (view_of f) (view_of (made st w f))
moved f st w kept room lanes_named asks_named =
    record {
      cpus = refl;
      alone = refl;
      least = (omega arith, omega arith);
      exact = λ h. (refl, refl);
      drawable = omega (arith, kept.next);
      lists = sym (no_lists f.next (what_asks f.script st w f.lanes));
      marked = λ k q c h. marks_after f.script.cpus f.limit f.next (what_asks f.script st w f.lanes) f.marks k q c kept.marks_length (omega arith)
          (all_within f.script (what_asks f.script st w f.lanes) asks_named) h.0;
      value = λ h q c k. word_after f st w q c kept asks_named k.0 k.1;
      never_falls = λ q c k. rises (asks_in f.script st w f.lanes q c) f.next (value_in f.asked q c) (value_in (made st w f).asked q c)
          (kept.asked q c k.0 k.1) (word_after f st w q c kept asks_named k.0 k.1);
      asked = λ q c k a. raised_here (asks_in f.script st w f.lanes q c) f.next (value_in f.asked q c) (value_in (made st w f).asked q c) a
          (word_after f st w q c kept asks_named k.0 k.1);
      before = refl;
      after = refl;
      told_before = λ h x q c k. refl;
      told_after = λ h x q c k. told_after_event f.script f.next (what_lanes f.script st w f.lanes)
          (what_asks f.script st w f.lanes) f.told x q c kept.told_length lanes_named
          (all_within f.script (what_asks f.script st w f.lanes) asks_named) k.0 k.1;
    }

-- a kept floor that makes an event whose lanes and requests fit the script moves its view as contracts demand
pub is_moved : (f g : PlainState) (st : Stand) (w : What) (n : ℕ) (e : Event) → IsKept f → 1 ≤ f.limit - f.next →
    All (LaneFits f.script) (what_lanes f.script st w f.lanes) → All (AskFits f.script) (what_asks f.script st w f.lanes) → n ≡ f.next → e
    ≡ acted_event st f.lanes w → g ≡ made st w f → IsMoved f.script n e st (found_of f) (view_of f) (view_of g)
is_moved f g st w n e kept room lanes_named asks_named number event state =
    rw (number, event, state) (moved f st w kept room lanes_named asks_named)

-- a told value raised together with a greater word stays at most the word and the next number
raised_below : (b : Bool) (n old value told word : ℕ) → old ≤ value → value ≤ n → told ≡ raised b n old → word ≡ raised b n value → (told ≤ word) ×
    (told ≤ n + 1)
raised_below true n old value told word h k e f = (omega (arith, e, f), omega (arith, e))
raised_below false n old value told word h k e f = (omega (arith, e, f, h), omega (arith, e, h, k))

-- told values were asked, and stand for numbers that were drawn
pub is_told : (f g : PlainState) (st : Stand) (w : What) (values : List ℕ) → IsKept f → IsTrue (has_cpu f.script st.cpu) →
    All (AskFits f.script) (what_asks f.script st w f.lanes) → g ≡ made st w f → TellsOf f st w values → (c : ℕ) → c < 16 →
    (value_at values c ≤ (view_of g).value st.cpu c) × (value_at values c ≤ (view_of g).next)
is_told f g st w values kept cpu asks_named state told c h =
    let low : st.cpu.0 < f.script.cpus = ltb-true st.cpu.0 f.script.cpus cpu in
    let over : told_over (told_in f.script f.told) (what_lanes f.script st w f.lanes) st.cpu c ≤ value_in f.asked st.cpu c = over_below
    (told_in f.script f.told) (what_lanes f.script st w f.lanes) st.cpu c (value_in f.asked st.cpu c) (λ x. kept.told x st.cpu c low h) in
    rw state (raised_below (asks_in f.script st w f.lanes st.cpu c) f.next (told_over (told_in f.script f.told) (what_lanes f.script st w f.lanes) st.cpu c)
    (value_in f.asked st.cpu c) (value_at values c) (value_in (made st w f).asked st.cpu c) over (kept.asked st.cpu c low h)
    (told_value f st w values c told h) (word_after f st w st.cpu c kept asks_named low h))

-- a floor that makes no event leaves its view unmoved
pub unmoved : (f : PlainState) → IsUnmoved (view_of f) (view_of f)
unmoved f =
    record {
      same = record { cpus = refl; alone = refl; states = refl; told = λ x p c h. refl };
      drawable = refl;
      lists = refl;
      next = omega arith;
      never_falls = λ q c h. omega arith;
      marked = λ k q c h. refl;
      exact = λ h. (refl, λ q c k. refl);
    }
