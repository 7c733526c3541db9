-- The events of a run are plain.
use Rattle.std.proofs.Common.{arith, subst, ◌∙◌}
use Rattle.std.proofs.lemmas.Bool.Decides.{nat_tests}
use Rattle.std.proofs.lemmas.Bool.{eqb-true}
use Rattle.std.specs.List.{AllByRecursion, list_all, list_any}
use Rattle.std.specs.Prelude.{Bool, IfSome, List, None, Option, Some, [], false, length, nat_le, nat_lt, refl, true, ℕ, ◌<◌, ◌==◌, ◌||◌, ◌∷◌, ◌≡◌, ◌≤◌}
use Rattle.nt_event.specs.declared.limits.TheConstants.{EVENTS}
use Rattle.nt_event.specs.declared.commands.Reply.{Reply}
use Rattle.nt_event.specs.declared.commands.Reply.TheVariants.{Status}
use Rattle.nt_event.specs.declared.events.Begun.{Begun}
use Rattle.nt_event.specs.declared.events.Begun.TheVariants.{Int}
use Rattle.nt_event.specs.declared.events.Event.{Event}
use Rattle.nt_event.specs.declared.events.What.{What}
use Rattle.nt_event.specs.declared.events.What.TheVariants.{Begin, Call, Clean, End, Expire, Fire, Flush, Free, Gone, Look, Normal, Rest, Rewait, Switch}
use Rattle.nt_event.specs.declared.scripts.Script.{Script}
use Rattle.nt_event.specs.Classes.{interrupt_classes}
use Rattle.nt_event.specs.Own.{own_of}
use Rattle.nt_event.specs.Replies.{alerted, kernel_apc, satisfied, user_apc}
use Rattle.nt_event.specs.Script.{fits}
use Rattle.nt_event.specs.Step.{IsRun, good_rises, is_look, step, turn_at}
use Rattle.nt_event.proofs.Options.{both}
use Rattle.nt_runs.proofs.Levels.{levels_hold}
use Rattle.nt_runs.proofs.Steps.{Gives, look_gives}
use Rattle.nt_laws.specs.Named.{AllFit, EventFits, earlier, keeps_to_classes, values_fit}
use Rattle.nt_laws.proofs.Named.EventsFit.{events_of_a_run_fit}
use Rattle.nt_laws.proofs.Named.RunFits.{event_named}
use Rattle.nt_script.specs.declared.walk.Input.{Input}
use Rattle.nt_print.specs.Conditions.{BegunInRange, EventIsPlain, IsWord, LookIsBare, ReplyInRange, StatusInRange, WhatInRange}
use Rattle.nt_ranges.specs.Looks.{LookIsWhole}
use Rattle.nt_ranges.specs.Statuses.{IsWaitStatus, ReplyIsOfWait, TellsWaitStatus}
use Rattle.nt_ranges.proofs.Called.{CommandsHaveRange, called_has_range}
use Rattle.nt_ranges.proofs.Levels.{AllKeepLevels, KeepsLevels, level_low}
use Rattle.nt_ranges.proofs.Lists.{all_then}
use Rattle.nt_ranges.proofs.Looks.{rises_below, some_rises}
use Rattle.nt_ranges.proofs.Statuses.{statuses_are_those_of_waits}
use Rattle.nt_ranges.proofs.NamedClasses.{MayNameLocks, rises_written}

-- ---- levels

-- one of a list of small numbers is small
one_below : (level : ℕ) (cs : List ℕ) → list_all (λ c. nat_le c 15) cs ≡ true → list_any (λ c. c == level) cs ≡ true → level ≤ 15
one_below level [] h k = absurd (no k)
  where
    no : false ≡ true → ⊥
    no e = cc
one_below level (c ∷ cs) h k =
    let parts = both (nat_le c 15) (list_all (λ c. nat_le c 15) cs) h in
    go (c == level) refl k parts.0 (one_below level cs parts.1)
  where
    go : (b : Bool) → (c == level) ≡ b → (b || list_any (λ c. c == level) cs) ≡ true → nat_le c 15 ≡ true →
        (list_any (λ c. c == level) cs ≡ true → level ≤ 15) → level ≤ 15
    go true e q l more =
        let same = eqb-true c level e in let low : c ≤ 15 = grind (arith, nat_tests) in omega (arith, same, low)
    go false e q l more = more q

-- an activity that begins is in range, if the event keeps to the interrupt classes
begun_low : (b : Begun) (from : ℕ) → keeps_to_classes (Begin b from) ≡ true → BegunInRange b
begun_low (Int level) from h = one_below level interrupt_classes refl h
begun_low b from h = tt

-- each event leaves levels in range
pub keep_levels : (s : Script) (limit : ℕ) (past : List Event) → CommandsHaveRange s → AllFit s past → IsRun s limit past → AllKeepLevels past
keep_levels s limit [] h f r = tt
keep_levels s limit (e ∷ past) h f r = (go e.what refl, keep_levels s limit past h f.1 r.1)
  where
    go : (w : What) → e.what ≡ w → KeepsLevels w
    go (Call n c y) k = called_has_range s limit e past n c y h r k
    go (Begin b from) k = begun_low b from (subst (λ (w : What). keeps_to_classes w ≡ true) k f.0.classes)
    go w k = tt

-- so its own level is in range
event_low : (s : Script) (limit : ℕ) (e : Event) (past : List Event) → EventFits s (length past) e → AllKeepLevels (e ∷ past) → IsRun s limit (e ∷ past) →
    e.level ≤ 15
event_low s limit e past f k r = go (is_look e.what) refl
  where
    go : (b : Bool) → is_look e.what ≡ b → e.level ≤ 15
    go true h = let none = (f.look h).1 in omega (arith, none)
    go false h =
        let same = levels_hold s limit e past r.0 h in let low = level_low s e.cpu (e ∷ past) k in omega (arith, same, low)

-- ---- statuses

-- a wait status fits in 64 bits
status_word : (x : ℕ) → IsWaitStatus x → IsWord x
status_word x h = go (x == satisfied) (x == user_apc) (x == kernel_apc) (x == alerted) refl refl refl refl h
  where
    go : (a b c d : Bool) → (x == satisfied) ≡ a → (x == user_apc) ≡ b → (x == kernel_apc) ≡ c → (x == alerted) ≡ d → (a || (b || (c || d))) ≡ true → IsWord x
    go true b c d i j k l q = let same = eqb-true x satisfied i in omega (arith, same)
    go false true c d i j k l q = let same = eqb-true x user_apc j in omega (arith, same)
    go false false true d i j k l q = let same = eqb-true x kernel_apc k in omega (arith, same)
    go false false false true i j k l q = let same = eqb-true x alerted l in omega (arith, same)
    go false false false false i j k l q = absurd (no q)
      where
        no : false ≡ true → ⊥
        no e = cc

-- a reply that a wait may give is in range
reply_in_range : (y : Reply) → ReplyIsOfWait y → ReplyInRange y
reply_in_range (Status x) h = status_word x h
reply_in_range y h = tt

-- an optional wait status is in range
status_in_range : (o : Option ℕ) → IfSome o IsWaitStatus → StatusInRange o
status_in_range None h = tt
status_in_range (Some x) h = status_word x h

-- ---- what an event does

-- what the last event of a run does is in range
what_in_range : (version : ℕ) (s : Script) (limit : ℕ) (e : Event) (past : List Event) → MayNameLocks version s → AllFit s (e ∷ past) → KeepsLevels e.what →
    length past ≤ EVENTS → LookIsWhole e.what → IsRun s limit (e ∷ past) → (w : What) → e.what ≡ w → WhatInRange version w
what_in_range version s limit e past may all low few whole r w eq = go w eq
  where
    f : EventFits s (length past) e
    f = all.0

    word : (w : What) (n : ℕ) → e.what ≡ w → earlier w ≡ Some n → IsWord n
    word w n k h = at (earlier w) h (subst (λ (w : What). IfSome (earlier w) (λ m. m < length past)) k f.earlier)
      where
        at : (o : Option ℕ) → o ≡ Some n → IfSome o (λ m. m < length past) → IsWord n
        at None q b = cc
        at (Some m) q b = let same : m ≡ n = cc in omega (arith, same, b, few)

    tells : (w : What) → e.what ≡ w → TellsWaitStatus w
    tells w k = subst TellsWaitStatus k (statuses_are_those_of_waits s limit e past r)

    kept : (w : What) → e.what ≡ w → KeepsLevels w
    kept w k = subst KeepsLevels k low

    go : (w : What) → e.what ≡ w → WhatInRange version w
    go (Call n c y) k = (
      word (Call n c y) n k refl,
      kept (Call n c y) k,
      reply_in_range y (tells (Call n c y) k),
    )
    go (Look x) k =
        let turn : Gives (step s limit (turn_at e.cpu (Look x)) past) e = subst (λ (v : What). Gives (step s limit (turn_at e.cpu v) past) e) k r.0 in
        let good = (look_gives s limit e.cpu x past e turn).0 in
        let rise = (both (list_any (λ v. nat_lt 0 v) x.value) (good_rises s e.cpu 0 x.value (own_of s e.cpu past) past) good).1 in
        let classes : keeps_to_classes (Look x) ≡ true = subst (λ (w : What). keeps_to_classes w ≡ true) k f.classes in
        let parts = both (list_any (λ v. nat_lt 0 v) x.value) (values_fit 0 x.value) classes in
        record {
          classes = subst LookIsWhole k whole;
          some = some_rises x.value ∙ parts.0;
          used = rises_written version s may e.cpu 0 x.value (own_of s e.cpu past) past all.1 rise;
          range = all_then (λ v. v ≤ length past) (λ v. v ≤ 18446744073709551615) (λ v h. omega (arith, h, few)) x.value
              (rises_below s e.cpu 0 x.value (own_of s e.cpu past) past rise);
        }
    go (Begin b from) k = (kept (Begin b from) k, word (Begin b from) from k refl)
    go (Normal n) k = word (Normal n) n k refl
    go (End n) k = word (End n) n k refl
    go (Expire key from) k = word (Expire key from) from k refl
    go (Fire d y) k = reply_in_range y (tells (Fire d y) k)
    go (Clean c) k =
        let few : nat_le c 2 ≡ true = subst (λ (w : What). keeps_to_classes w ≡ true) k f.classes in grind (arith, nat_tests)
    go (Switch t status) k = status_in_range status (tells (Switch t status) k)
    go (Rewait n y) k = (word (Rewait n y) n k refl, reply_in_range y (tells (Rewait n y) k))
    go (Flush a from) k = word (Flush a from) from k refl
    go (Gone t) k = tt
    go (Free n l) k = word (Free n l) n k refl
    go Rest k = tt

-- an event is a bare look if looks have no thread and the level 0
look_is_bare : (e : Event) (w : What) → (is_look w ≡ true → (e.thread ≡ None) × (e.level ≡ 0)) → LookIsBare e w
look_is_bare e (Look x) h = h refl
look_is_bare e w h = tt

-- all events of a run are plain, under the premises on its script, its length and its looks
all_plain : (input : Input) (limit : ℕ) (past : List Event) → MayNameLocks input.version input.script → AllFit input.script past →
    AllKeepLevels past → length past ≤ EVENTS → AllByRecursion (λ e. LookIsWhole e.what) past → IsRun input.script limit past →
    AllByRecursion (EventIsPlain input) past
all_plain input limit [] may f k few whole r = tt
all_plain input limit (e ∷ past) may f k few whole r =
    let s = input.script in
    let fewer : length past ≤ EVENTS = omega (arith, few) in
    let range = what_in_range input.version s limit e past may f k.0 fewer whole.0 r e.what refl in (
      (event_named s (length past) e f.0, (event_low s limit e past f.0 k r, range, look_is_bare e e.what f.0.look)),
      all_plain input limit past may f.1 k.1 fewer whole.1 r.1,
    )

-- the events of a run are plain, where its script fits and has locks in version 2 alone, its commands are in range, its looks are whole and it
-- has not too many events
pub events_are_plain : (input : Input) (limit : ℕ) (past : List Event) → fits input.script ≡ true → MayNameLocks input.version input.script →
    CommandsHaveRange input.script → length past ≤ EVENTS → AllByRecursion (λ e. LookIsWhole e.what) past → IsRun input.script limit past →
    AllByRecursion (EventIsPlain input) past
events_are_plain input limit past f may c few whole r =
    let all : AllFit input.script past = events_of_a_run_fit input.script limit past f r in
    all_plain input limit past may all (keep_levels input.script limit past c all r) few whole r
