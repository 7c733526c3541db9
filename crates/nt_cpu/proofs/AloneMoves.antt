-- An event that touches no lane, as its floor sees it.
use Rattle.std.proofs.Common.{ap, arith, sym, ◌∙◌}
use Rattle.std.proofs.lemmas.Bool.Decides.{nat_tests}
use Rattle.std.specs.List.{list_any}
use Rattle.std.specs.Prelude.{Bool, IfSome, List, None, Option, Some, [], false, if◌then◌else◌, length, map, max, refl, true, ℕ, ◌&&◌, ◌+◌, ◌<◌, ◌==◌, ◌||◌}
use Rattle.std.specs.Prelude.{◌≡◌, ◌≤◌}
use Rattle.nt_event.specs.declared.events.Event.{Event}
use Rattle.nt_event.specs.declared.events.What.{What}
use Rattle.nt_event.specs.declared.events.What.TheVariants.{Look}
use Rattle.nt_event.specs.declared.jobs.Lane.{Lane}
use Rattle.nt_event.specs.declared.jobs.Stand.{Stand}
use Rattle.nt_event.specs.declared.numbers.CpuNo.{CpuNo}
use Rattle.nt_event.specs.declared.scripts.Script.{Script}
use Rattle.nt_event.specs.Lanes.{Lanes, lane_number, lanes_after, lanes_at, what_lanes}
use Rattle.nt_event.specs.Own.{stand_in}
use Rattle.nt_event.specs.Requests.{asks_in, is_ask, looked, raised, seen_after, what_asks}
use Rattle.nt_event.specs.Objects.{object_of}
use Rattle.nt_event.specs.Queues.{queue_of}
use Rattle.nt_event.specs.Timers.{delay_setting, timer_setting}
use Rattle.nt_event.specs.Waits.{facts}
use Rattle.nt_event.specs.Locks.{lock_of}
use Rattle.nt_event.specs.Numbers.{lock, cpu, dpc, thread, timer}
use Rattle.nt_event.specs.Lists.{value_at}
use Rattle.nt_event.proofs.Tables.{length-table_from}
use Rattle.nt_event.specs.Acts.{Found, told_over}
use Rattle.nt_floor.specs.Lists.{Lists, with_draw, with_marks}
use Rattle.nt_floor.specs.Views.{HasWord, IsMoved, Tells, View, is_word}
use Rattle.nt_cpu.specs.Alone.{IsAlone, IsMarkedFor, MayBe, alone_asks, alone_event, alone_then, as_list, is_alone, noticed}
use Rattle.nt_cpu.specs.Leaves.{own_with}
use Rattle.nt_cpu.specs.Sound.{IsSound}
use Rattle.nt_cpu.specs.States.{CpuState}
use Rattle.nt_cpu.specs.Turns.{HaveStates, Serves, StandsIn, own_then}
use Rattle.nt_event.specs.declared.class.Asked.{Asked}
use Rattle.nt_cpu.proofs.Alones.{asks_alone, due_alone, lanes_alone}
use Rattle.nt_cpu.proofs.LanesKept.{lanes_kept}
use Rattle.nt_cpu.proofs.Taken.{own_with_same}

-- the states that the floor tells, else those of the start
abbrev pub told_states : Script → Option Lanes → Lanes
told_states s None = lanes_at s []
told_states s (Some l) = l

-- what it was made in
abbrev pub found_by : CpuState → View → Found
found_by c v = record { lanes = told_states c.script v.states; told = v.told }

-- ---- marks

abbrev pub asked_for : Option Asked → CpuNo → ℕ → Bool
asked_for a q k = list_any (is_ask q k) (as_list a)

-- a word is the asked one exactly if the request names its processor and class
same_word : (a : Asked) (q : CpuNo) (k : ℕ) → is_word a.cpu a.class q k ≡ (is_ask q k (record { cpu = a.cpu; class = a.class }) || false)
same_word a q k = go (q.0 == a.cpu.0) refl (k == a.class) refl
  where
    go : (b : Bool) → (q.0 == a.cpu.0) ≡ b → (d : Bool) → (k == a.class) ≡ d → ((q.0 == a.cpu.0) && (k == a.class))
        ≡ (((a.cpu.0 == q.0) && (a.class == k)) || false)
    go b e d f = grind (arith, nat_tests)

-- the lists after a mark for an optional request are the old ones with that mark
marked_lists : (a : Option Asked) (n : ℕ) (u z : View) → IsMarkedFor a n u z → z.lists ≡ with_marks n (as_list a) u.lists
marked_lists None n u z h = ap (λ (x : View). x.lists) h
marked_lists (Some a) n u z h = h.lists

-- or with false changes nothing
or_false : (b : Bool) → (b || false) ≡ b
or_false true = refl
or_false false = refl

-- after a mark for an optional request a mark is set if it was set before or is the new one
marked_marks : (a : Option Asked) (n : ℕ) (u z : View) → IsMarkedFor a n u z → (k : ℕ) (q : CpuNo) (d : ℕ) → HasWord u q d → z.marked k q d
    ≡ (u.marked k q d || ((k == n) && asked_for a q d))
marked_marks None n u z h k q d w =
    ap (λ (x : View). x.marked k q d) h ∙ none (u.marked k q d) (k == n)
  where
    none : (a b : Bool) → a ≡ (a || (b && false))
    none true b = refl
    none false true = refl
    none false false = refl
marked_marks (Some a) n u z h k q d w =
    h.marked k q d w ∙ ap (λ (b : Bool). u.marked k q d || ((k == n) && b)) (same_word a q d)

-- marking an event raises the words that it asks for to one above its number, and leaves the others
pub marked_value : (a : Option Asked) (n : ℕ) (u z : View) → IsMarkedFor a n u z → (q : CpuNo) (d : ℕ) → HasWord u q d → z.value q d
    ≡ (if asked_for a q d then max (u.value q d) (n + 1) else u.value q d)
marked_value None n u z h q d w = ap (λ (x : View). x.value q d) h
marked_value (Some a) n u z h q d w =
    h.value q d w ∙ ap (λ (b : Bool). if b then max (u.value q d) (n + 1) else u.value q d) (same_word a q d)

-- ---- what changed for the floor

pub record Stays (v z : View) : Type 0 where
  pub cpus : z.cpus ≡ v.cpus
  pub alone : z.alone ≡ v.alone
  pub states : z.states ≡ v.states
  pub told : (x : Lane) (q : CpuNo) (k : ℕ) → HasWord v q k → z.told x q k ≡ v.told x q k
  pub next : z.next ≡ v.next
  pub drawable : z.drawable ≡ v.drawable

-- marking an event leaves the processors, the lanes, what they tell, the next number and the numbers left
pub marked_stays : (a : Option Asked) (n : ℕ) (u z : View) → IsMarkedFor a n u z → Stays u z
marked_stays None n u z h = record {
  cpus = ap (λ (x : View). x.cpus) h;
  alone = ap (λ (x : View). x.alone) h;
  states = ap (λ (x : View). x.states) h;
  told = λ y q k w. ap (λ (x : View). x.told y q k) h;
  next = ap (λ (x : View). x.next) h;
  drawable = ap (λ (x : View). x.drawable) h;
}
marked_stays (Some a) n u z h = record {
  cpus = h.same.cpus;
  alone = h.same.alone;
  states = h.same.states;
  told = h.same.told;
  next = h.next;
  drawable = h.drawable;
}

-- where the states are told, they are the ones that were told before
tells_after : (s : Script) (states z : Option Lanes) (m : Lanes) → z ≡ states → m ≡ told_states s states → Tells z m
tells_after s states z m e h = rw e (go states h)
  where
    go : (o : Option Lanes) → m ≡ told_states s o → Tells o m
    go None k = tt
    go (Some l) k = sym k

-- the states that a floor tells are the ones that it is taken to have
pub tells_before : (s : Script) (states : Option Lanes) → Tells states (told_states s states)
tells_before s None = tt
tells_before s (Some l) = refl

-- the start has a state for each thing of the script
pub have_states : (s : Script) (past : List Event) → HaveStates s (lanes_at s past)
have_states s past = record {
  objects = length-table_from 0 (length s.dpcs) (λ d. object_of (dpc d) past);
  queues = length-table_from 0 s.cpus (λ p. queue_of s (cpu p) past);
  threads = length-table_from 0 (length s.threads) (λ t. facts s (thread t) past);
  timers = length-table_from 0 (length s.timers) (λ t. timer_setting (timer t) past);
  delays = length-table_from 0 (length s.threads) (λ t. delay_setting s (thread t) past);
  locks = length-table_from 0 s.locks (λ k. lock_of s (lock k) past);
}

-- the states that are told, or the opening ones, have one for each thing of the script
pub told_have : (c : CpuState) (states : Option Lanes) → IfSome states (λ l. StandsIn c l) → HaveStates c.script (told_states c.script states)
told_have c None h = have_states c.script []
told_have c (Some l) h = h.lanes

-- what is left of the states is what they were
states_kept : (c : CpuState) (states : Option Lanes) (n : ℕ) (e : Event) → IfSome states (λ l. StandsIn c l) → is_alone (stand_in c.cpu c.own).body e.what
    ≡ true → lanes_after c.script n (stand_in c.cpu c.own) e (told_states c.script states) ≡ told_states c.script states
states_kept c None n e h b =
    lanes_kept c.script n (stand_in c.cpu c.own) e (lanes_at c.script []) (have_states c.script []) b
states_kept c (Some l) n e h b =
    lanes_kept c.script n (stand_in c.cpu c.own) e l h.lanes b

-- raising a value that is at most the number is the same by a maximum and by the test
raise_value : (b alone : Bool) (n old : ℕ) → old ≤ n → (if b then max old (n + 1) else old) ≡ raised b n old
raise_value true alone n old h = omega arith
raise_value false alone n old h = refl

-- raising by a test never lowers a value
never_less : (b : Bool) (n old : ℕ) → old ≤ (if b then max old (n + 1) else old)
never_less true n old = omega arith
never_less false n old = omega arith

-- a value raised by a test that holds is at least the new number
at_least : (b : Bool) (n old : ℕ) → b ≡ true → n + 1 ≤ (if b then max old (n + 1) else old)
at_least true n old h = omega arith
at_least false n old h = cc

-- an event that touches no lane moves the floor as contracts demand
pub alone_moved : (c d : CpuState) (w : What) (n : ℕ) (v u z : View) → Serves c v → MayBe c w → IsAlone c d w n v u z →
    IsMoved c.script n (alone_event c.cpu w c.own.frames) (stand_in c.cpu c.own) (found_by c v) v z
alone_moved c d w n v u z h m i =
    let st : Stand = stand_in c.cpu c.own in
    let a : Option Asked = alone_asks st w in
    let l : Lanes = told_states c.script v.states in
    let g = i.drawn in
    let y = marked_stays a n u z i.marked in
    let least = g.least in
    let next : z.next ≡ n + 1 = y.next ∙ g.next in
    let asks : what_asks c.script st w l ≡ as_list a = asks_alone c.script st w l m.alone in
    let lanes : what_lanes c.script st w l ≡ [] = lanes_alone c.script st w l m.alone in
    let kept : lanes_after c.script n st (alone_event c.cpu w c.own.frames) l
    ≡ l = states_kept c v.states n (alone_event c.cpu w c.own.frames) h.stands m.alone in
    let word : (q : CpuNo) (k : ℕ) → HasWord v q k → HasWord u q k = λ q k b. let e = g.same.cpus in (omega arith, b.1) in
    let asked : (q : CpuNo) (k : ℕ) → asked_for a q k ≡ asks_in c.script st w l q k = λ q k. ap (λ (x : List _). list_any (is_ask q k) x) (sym asks) in
    record {
      cpus = y.cpus ∙ g.same.cpus;
      alone = y.alone ∙ g.same.alone;
      least = (least, omega arith);
      exact = λ e. (g.exact e, next);
      drawable = ap (λ (x : ℕ). x + 1) y.drawable ∙ g.drawable;
      lists = marked_lists a n u z i.marked ∙ ap (λ (x : Option Lists). with_marks n (as_list a) x) g.lists
          ∙ ap (λ (x : List _). with_marks n x (with_draw n (alone_event c.cpu w c.own.frames) [] v.lists)) (sym asks)
          ∙ ap (λ (x : List Lane). with_marks n (what_asks c.script st w l)
          (with_draw n (alone_event c.cpu w c.own.frames) (map (lane_number c.script) x) v.lists)) (sym lanes);
      marked = λ k q b e. marked_marks a n u z i.marked k q b (word q b e)
          ∙ (ap (λ (x : Bool). x || ((k == n) && asked_for a q b)) (g.marked k q b e) ∙ ap (λ (x : Bool). v.marked k q b || ((k == n) && x)) (asked q b));
      value = λ t q k e. marked_value a n u z i.marked q k (word q k e)
          ∙ (ap (λ (x : ℕ). if asked_for a q k then max x (n + 1) else x) (g.value q k e)
          ∙ (let o = h.values t q k e in raise_value (asked_for a q k) true n (v.value q k) (omega arith)
          ∙ ap (λ (x : Bool). raised x n (v.value q k)) (asked q k)));
      never_falls = λ q k e. rw (marked_value a n u z i.marked q k (word q k e), g.value q k e) (never_less (asked_for a q k) n (v.value q k));
      asked = λ q k e h. rw (marked_value a n u z i.marked q k (word q k e)) (at_least (asked_for a q k) n (u.value q k) (asked q k ∙ h));
      before = tells_before c.script v.states;
      after = tells_after c.script v.states z.states (lanes_after c.script n st (alone_event c.cpu w c.own.frames) l) (y.states ∙ g.same.states) kept;
      told_before = λ t x q k e. refl;
      told_after = λ t x q k e. y.told x q k (word q k e) ∙ (g.same.told x q k e ∙ rw lanes refl);
    }

-- ---- what is left of the processor

-- a Look asks for nothing
abbrev pub AsksNone : What → Option Asked → Type 0
AsksNone (Look r) a = a ≡ None
AsksNone w a = Unit {0}

-- a look asks for nothing
asks_none : (st : Stand) (w : What) → AsksNone w (alone_asks st w)
asks_none st (Look r) = refl
asks_none st _ = tt

-- case: what is noticed of a class that was not looked at, where nothing was asked
noticed_of_none : (n k old : ℕ) (w : What) → looked w k ≡ 0 → max old 0 ≡ seen_after n w k false 0 old
noticed_of_none n k old w e = rw e (omega arith)

-- case: what is noticed of a class that was not looked at, where a request may have been made
noticed_of_ask : (b : Bool) (n k old : ℕ) (w : What) → looked w k ≡ 0 → old ≤ n → max old (if b then n + 1 else 0) ≡ seen_after n w k (b || false) 0 old
noticed_of_ask true n k old w e h = omega arith
noticed_of_ask false n k old w e h = rw e (omega arith)

-- the value seen of a class after an event is what was seen before or noticed by it
noticed_seen : (p : CpuNo) (w : What) (a : Option Asked) (n k old : ℕ) → AsksNone w a → old ≤ n → max old (noticed p w a n k)
    ≡ seen_after n w k (asked_for a p k) 0 old
noticed_seen p (Look r) a n k old h l = rw h (omega arith)
noticed_seen p w None n k old h l = noticed_of_none n k old w refl
noticed_seen p w (Some a) n k old h l = noticed_of_ask ((a.cpu.0 == p.0) && (a.class == k)) n k old w refl l

-- after an event that touches no lane a processor keeps what it keeps by the states found
pub alone_left : (c : CpuState) (w : What) (n : ℕ) (v : View) → IsSound c → MayBe c w → ((k : ℕ) → k < 16 → value_at c.own.seen k ≤ n) → alone_then c n w
    ≡ own_then c (found_by c v) n (alone_event c.cpu w c.own.frames)
alone_left c w n v s m b =
    let st : Stand = stand_in c.cpu c.own in
    let e : Event = alone_event c.cpu w c.own.frames in
    let a : Option Asked = alone_asks st w in
    let l : Lanes = told_states c.script v.states in
    let frames = due_alone c.script n l.timers.now e c.own.frames s.nested s.threads refl m.alone m.allow in
    let asked : (k : ℕ) → asked_for a c.cpu k ≡ asks_in c.script st w l c.cpu k = λ k. ap (λ (x : List _). list_any (is_ask c.cpu k) x)
    (sym (asks_alone c.script st w l m.alone)) in
    let told : (k : ℕ) → 0 ≡ told_over v.told (what_lanes c.script st w l) c.cpu k = λ k. ap (λ (x : List Lane). told_over v.told x c.cpu k)
    (sym (lanes_alone c.script st w l m.alone)) in
    own_with_same c.script n None e (λ k. max (value_at c.own.seen k) (noticed c.cpu w a n k))
    (λ k. seen_after n w k (asks_in c.script st w l c.cpu k) (told_over v.told (what_lanes c.script st w l) c.cpu k) (value_at c.own.seen k)) c.own
    (λ k h. noticed_seen c.cpu w a n k (value_at c.own.seen k) (asks_none st w) (b k h)
    ∙ (ap (λ (x : Bool). seen_after n w k x 0 (value_at c.own.seen k)) (asked k)
    ∙ ap (λ (x : ℕ). seen_after n w k (asks_in c.script st w l c.cpu k) x (value_at c.own.seen k)) (told k)))
    ∙ ap (λ (x : _). record (own_with c.script n None e (λ k. seen_after n w k (asks_in c.script st w l c.cpu k)
    (told_over v.told (what_lanes c.script st w l) c.cpu k) (value_at c.own.seen k)) c.own) { frames = x }) (sym frames)
