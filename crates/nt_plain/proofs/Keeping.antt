-- What an event leaves of a floor keeps what holds of it at any time.
use Rattle.std.proofs.Common.{ap, arith, refl, subst, sym, ◌∙◌}
use Rattle.std.proofs.lemmas.List.{length-set}
use Rattle.std.specs.List.{list_any}
use Rattle.std.specs.Prelude.{All, Bool, List, [], false, get_or, if◌then◌else◌, length, max, true, ℕ, ◌&&◌, ◌+◌, ◌-◌, ◌<◌, ◌^◌, ◌∷◌, ◌≡◌, ◌≤◌}
use Rattle.nt_event.specs.declared.events.Event.{Event}
use Rattle.nt_event.specs.declared.events.What.{What}
use Rattle.nt_event.specs.declared.jobs.Lane.{Lane}
use Rattle.nt_event.specs.declared.jobs.Stand.{Stand}
use Rattle.nt_event.specs.declared.numbers.CpuNo.{CpuNo}
use Rattle.nt_event.specs.declared.scripts.Script.{Script}
use Rattle.nt_event.specs.Acting.{acted_event}
use Rattle.nt_event.specs.Lanes.{lanes_after, what_lanes}
use Rattle.nt_event.specs.Requests.{Ask, is_ask, raised, what_asks}
use Rattle.nt_event.specs.Acts.{is_among}
use Rattle.nt_event.specs.declared.class.Asked.{Asked}
use Rattle.nt_states.specs.AllStates.{AllStates}
use Rattle.nt_states.specs.LaneLists.{AskFits, LaneFits, as_asks}
use Rattle.nt_plain.specs.Made.{IsKept, IsPlanned, made, marked_all, marked_in, raised_word, raised_words, tell_lanes, with_bit}
use Rattle.nt_plain.specs.Places.{row_of, told_in, value_in, word_place}
use Rattle.nt_plain.specs.States.{PlainState}
use Rattle.nt_plain.proofs.Tells.{length-tell_lanes, told_after_event}
use Rattle.nt_plain.proofs.ToldClasses.{tells_of_others}
use Rattle.nt_plain.proofs.Within.{all_within}
use Rattle.nt_plain.proofs.Writes.{words_after}

-- raising words by requests leaves as many words
length-raised_words : (to : ℕ) (asks : List Ask) (xs : List ℕ) → length (raised_words to asks xs) ≡ length xs
length-raised_words to [] xs = refl
length-raised_words to (a ∷ asks) xs =
    length-raised_words to asks (raised_word to a.cpu a.class xs) ∙ length-set xs (word_place a.cpu a.class) (max (value_in xs a.cpu a.class) to)

-- marking all processors' requests leaves as many marks
length-marked_all : (cpus n : ℕ) (asks : List Ask) (marks : List ℕ) → length (marked_all cpus n asks marks) ≡ length marks
length-marked_all cpus n [] marks = refl
length-marked_all cpus n (a ∷ asks) marks =
    length-marked_all cpus n asks (marked_in cpus n a.cpu a.class marks)
    ∙ length-set marks (row_of cpus n a.cpu) (with_bit a.class (get_or marks (row_of cpus n a.cpu) 0))

-- a value is at most the next number
up_to : (b : Bool) (n old new : ℕ) → old ≤ n → new ≡ (if b then n + 1 else old) → new ≤ n + 1
up_to true n old new h e = omega (arith, e)
up_to false n old new h e = omega (arith, e, h)

-- what is told was asked
told_up_to : (among asked : Bool) (n old value new word : ℕ) → old ≤ value → value ≤ n → new ≡ raised (among && asked) n old → word
    ≡ (if asked then n + 1 else value) → new ≤ word
told_up_to true true n old value new word h k e f = omega (arith, e, f)
told_up_to true false n old value new word h k e f = omega (arith, e, f, h)
told_up_to false true n old value new word h k e f = omega (arith, e, f, h, k)
told_up_to false false n old value new word h k e f = omega (arith, e, f, h)

-- what isn't told anew stays untold
told_no_more : (b : Bool) (n old new : ℕ) → old ≡ 0 → b ≡ false → new ≡ raised b n old → new ≡ 0
told_no_more true n old new h f e = cc
told_no_more false n old new h f e = omega (arith, e, h)

-- a floor with a number left stays kept after a fitting event in which the time advances by less than 2^32
pub kept_made : (f : PlainState) (st : Stand) (w : What) → IsKept f → f.next < f.limit → All (LaneFits f.script) (what_lanes f.script st w f.lanes) →
    All (AskFits f.script) (what_asks f.script st w f.lanes) → (made st w f).lanes.timers.now ≤ f.lanes.timers.now + (2 ^ 32 - 1) → IsKept (made st w f)
kept_made f st w kept room lanes_named asks_named time =
    record {
      asked_length = length-raised_words (f.next + 1) asks f.asked ∙ kept.asked_length;
      marks_length = length-marked_all f.script.cpus f.next asks f.marks ∙ kept.marks_length;
      told_length = length-tell_lanes f.script (f.next + 1) lanes asks f.told ∙ kept.told_length;
      cpus = kept.cpus;
      lane_count = kept.lane_count;
      limit = kept.limit;
      next = omega arith;
      asked = λ p c h k. up_to (list_any (is_ask p c) asks) f.next (value_in f.asked p c) (value_in (raised_words (f.next + 1) asks f.asked) p c)
          (kept.asked p c h k) (words p c h k);
      told = λ x p c h k. told_up_to (is_among x lanes) (list_any (is_ask p c) asks) f.next (told_in f.script f.told x p c) (value_in f.asked p c)
          (told_in f.script (tell_lanes f.script (f.next + 1) lanes asks f.told) x p c) (value_in (raised_words (f.next + 1) asks f.asked) p c)
          (kept.told x p c h k) (kept.asked p c h k) (told_after_event f.script f.next lanes asks f.told x p c kept.told_length lanes_named
          (all_within f.script asks asks_named) h k) (words p c h k);
      told_others = λ x p c h k other. told_no_more (is_among x lanes && list_any (is_ask p c) asks) f.next (told_in f.script f.told x p c)
          (told_in f.script (tell_lanes f.script (f.next + 1) lanes asks f.told) x p c) (kept.told_others x p c h k other)
          (tells_of_others f.script st w f.lanes x p c other) (told_after_event f.script f.next lanes asks f.told x p c kept.told_length lanes_named
          (all_within f.script asks asks_named) h k);
      time = omega (arith, time, kept.time);
    }
  where
    asks : List Ask
    asks = what_asks f.script st w f.lanes

    lanes : List Lane
    lanes = what_lanes f.script st w f.lanes

    words : (p : CpuNo) (c : ℕ) → p.0 < f.script.cpus → c < 16 → value_in (raised_words (f.next + 1) (what_asks f.script st w f.lanes) f.asked) p c
        ≡ (if list_any (is_ask p c) (what_asks f.script st w f.lanes) then f.next + 1 else value_in f.asked p c)
    words p c h k =
        let low : value_in f.asked p c ≤ f.next = kept.asked p c h k in
        words_after f.script.cpus (f.next + 1) (what_asks f.script st w f.lanes) f.asked p c kept.asked_length
        (all_within f.script (what_asks f.script st w f.lanes) asks_named) k (omega (arith, low))

-- the parts together
pub made_is : (f : PlainState) (st : Stand) (e : Event) (lanes : List Lane) (asks : List Ask) (s : Script) (touched : List Lane) (asked : List Asked)
    (words marks told : List ℕ) (x : AllStates) → IsPlanned f st e.what lanes asks → e ≡ acted_event st f.lanes e.what → s ≡ f.script → touched ≡ lanes →
    as_asks asked ≡ asks → words ≡ raised_words (f.next + 1) (as_asks asked) f.asked → marks ≡ marked_all s.cpus f.next (as_asks asked) f.marks → told
    ≡ tell_lanes s (f.next + 1) touched (as_asks asked) f.told → x ≡ record { script = f.script; lanes = lanes_after f.script f.next st e f.lanes } →
    record f { script = x.script; next = f.next + 1; asked = words; marks = marks; lanes = x.lanes; told = told } ≡ made st e.what f
made_is f st e lanes asks s touched asked words marks told x planned event script same_lanes same_asks w m t states =
    let a : as_asks asked ≡ what_asks f.script st e.what f.lanes = same_asks ∙ planned.asks in
    let l : touched ≡ what_lanes f.script st e.what f.lanes = same_lanes ∙ planned.lanes in
    let words_path = w ∙ ap (λ (z : List Ask). raised_words (f.next + 1) z f.asked) a in
    let marks_path = m ∙ (ap (λ (z : Script). marked_all z.cpus f.next (as_asks asked) f.marks) script
    ∙ ap (λ (z : List Ask). marked_all f.script.cpus f.next z f.marks) a) in
    let told_path = t ∙ (ap (λ (z : Script). tell_lanes z (f.next + 1) touched (as_asks asked) f.told) script
    ∙ (ap (λ (z : List Lane). tell_lanes f.script (f.next + 1) z (as_asks asked) f.told) l
    ∙ ap (λ (z : List Ask). tell_lanes f.script (f.next + 1) (what_lanes f.script st e.what f.lanes) z f.told) a)) in
    let states_path = states ∙ ap (λ (z : Event). record { script = f.script; lanes = lanes_after f.script f.next st z f.lanes }) event in
    λ i. record {
      script = (states_path i).script;
      limit = f.limit;
      next = f.next + 1;
      asked = words_path i;
      marks = marks_path i;
      lanes = (states_path i).lanes;
      told = told_path i;
    }

-- words, marks, told values and states written one by one for a planned event leave the floor kept
pub kept_left : (f : PlainState) (st : Stand) (e : Event) (lanes : List Lane) (asks : List Ask) (s : Script) (touched : List Lane) (asked : List Asked)
    (words marks told : List ℕ) (x : AllStates) → IsKept f → IsPlanned f st e.what lanes asks → e ≡ acted_event st f.lanes e.what → s ≡ f.script → touched
    ≡ lanes → as_asks asked ≡ asks → words ≡ raised_words (f.next + 1) (as_asks asked) f.asked → marks ≡ marked_all s.cpus f.next (as_asks asked) f.marks →
    told ≡ tell_lanes s (f.next + 1) touched (as_asks asked) f.told → x ≡ record { script = f.script; lanes = lanes_after f.script f.next st e f.lanes } →
    x.lanes.timers.now ≤ f.lanes.timers.now + (2 ^ 32 - 1) →
    IsKept (record f { script = x.script; next = f.next + 1; asked = words; marks = marks; lanes = x.lanes; told = told })
kept_left f st e lanes asks s touched asked words marks told x kept planned event script same_lanes same_asks w m t states time =
    let is = made_is f st e lanes asks s touched asked words marks told x planned event script same_lanes same_asks w m t states in
    let lanes_named : All (LaneFits f.script) (what_lanes f.script st e.what f.lanes) = subst
    (λ (l : List Lane). All (LaneFits f.script) l) planned.lanes planned.lanes_named in
    let asks_named : All (AskFits f.script) (what_asks f.script st e.what f.lanes) = subst
    (λ (l : List Ask). All (AskFits f.script) l) planned.asks planned.asks_named in
    let now : (made st e.what f).lanes.timers.now ≤ f.lanes.timers.now + (2 ^ 32 - 1) = subst
    (λ (g : PlainState). g.lanes.timers.now ≤ f.lanes.timers.now + (2 ^ 32 - 1)) is time in
    subst IsKept (sym is) (kept_made f st e.what kept planned.room lanes_named asks_named now)
