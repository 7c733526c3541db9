-- Parts that are kept, each once: what numbers tell of a key, and still tell where more are kept.
use Rattle.std.proofs.Common.{subst, sym, ◌∙◌}
use Rattle.std.proofs.lemmas.Option.{none-some}
use Rattle.std.specs.Global.{Vec}
use Rattle.std.specs.Prelude.{Bool, List, Some, [], length, slice_get, suc, zero, ℕ, ◌++◌, ◌∷◌, ◌≡◌, ◌≤◌}
use Rattle.nt_event.specs.declared.events.Event.{Event}
use Rattle.nt_event.specs.declared.events.Turn.{Turn}
use Rattle.nt_event.specs.declared.scripts.Script.{Script}
use Rattle.nt_event.specs.Lanes.{lanes_at}
use Rattle.nt_alike.specs.Free.{IsFreeRun}
use Rattle.nt_expect.specs.declared.expectations.Watched.{Watched}
use Rattle.nt_shade.proofs.EqualShades.{equal_say}
use Rattle.nt_shade.specs.declared.shade.Shade.{Shade}
use Rattle.nt_shade.specs.Same.{SayTheSame}
use Rattle.nt_shade.specs.Shade.{AreCounts, IsShadeOf}
use Rattle.nt_shade_dpcs.specs.declared.shade.ShadeDpcs.{ShadeDpcs}
use Rattle.nt_shade_dpcs.specs.Same.{SayTheSame as LanesSayTheSame}
use Rattle.nt_shade_dpcs.specs.Shade.{IsShade}
use Rattle.nt_shade_dpcs.specs.Timers.{AreSetKeys}
use Rattle.nt_shows.specs.Tells.{AreCame}
use Rattle.nt_search.specs.declared.found.Found.{Found}
use Rattle.nt_search.specs.declared.plan.Plan.{Plan}
use Rattle.nt_search.specs.declared.states.Key.{Key}
use Rattle.nt_search.specs.declared.states.Way.{Way}
use Rattle.nt_search.specs.Keys.{AreKeys, AreNumbered, AreParts, GoesOn, HasMore, IsKeyOf, SeenParts}
use Rattle.nt_search.specs.Searches.{AreFound, AreTried}
use Rattle.nt_search.specs.States.{AreStates, HasGrown, Seen}
use Rattle.nt_search.specs.Ways.{AreWays}

-- ---- shades that say the same

-- what says the same of lanes is the shade of the same history there
lanes_too : (s : Script) (past : List Event) (x y : ShadeDpcs) → IsShade s past x → LanesSayTheSame x y → IsShade s past y
lanes_too s past x y h same = record {
  objects = sym same.objects ∙ h.objects;
  queues = sym same.queues ∙ h.queues;
  locks = sym same.locks ∙ h.locks;
  timers = record {
    time = sym same.now ∙ h.timers.time;
    keys = subst (AreSetKeys s (length past) (lanes_at s past).timers) same.keys h.timers.keys;
  };
}

-- a shade that says the same is one of the same history
shade_too : (s : Script) (past : List Event) (x y : Shade) → IsShadeOf s past x → SayTheSame x y → IsShadeOf s past y
shade_too s past x y h same = record {
  dpcs = lanes_too s past x.dpcs y.dpcs h.dpcs same.dpcs;
  counts = subst (AreCounts s past) same.counts h.counts;
  threads = sym same.threads ∙ h.threads;
  cpus = sym same.cpus ∙ h.cpus;
}

-- a key whose parts are equal to those of a history is a key of this history
pub keyed : (s : Script) (watched : List Watched) (past : List Event) (x : SeenParts) (key : Key) (shade : Shade) (came : Vec Bool) → IsFreeRun s past →
    IsShadeOf s past shade → AreCame watched past came.items → AreNumbered x key shade came → IsKeyOf s watched past x key
keyed s watched past x key shade came free is told n = record {
  free = free;
  kept = n.kept;
  flags = n.flags;
  parts = n.parts;
  shade = shade_too s past shade n.kept is (equal_say shade n.kept n.equal);
  came = subst (AreCame watched past) n.same told;
}

-- ---- more parts

-- a part keeps its number where the list goes on
part_more : {A : Type 0} (xs ys : List A) (n : ℕ) (a : A) → slice_get xs n ≡ Some a → slice_get (xs ++ ys) n ≡ Some a
part_more [] ys n a q = absurd (none-some a q)
part_more (x ∷ xs) ys zero a q = q
part_more (x ∷ xs) ys (suc n) a q = part_more xs ys n a q

-- and so does one of a list that goes on
part_on : {A : Type 0} (old new : List A) (n : ℕ) (a : A) → GoesOn old new → slice_get old n ≡ Some a → slice_get new n ≡ Some a
part_on old new n a on q = subst (λ xs. slice_get xs n ≡ Some a) (sym on.1) (part_more old on.0 n a q)

module _ (s : Script) (watched : List Watched) (x y : SeenParts) (more : HasMore x y) where
  -- parts that were there keep their numbers
  parts_on : (key : Key) (shade : Shade) (came : Vec Bool) → AreParts x key shade came → AreParts y key shade came
  parts_on key shade came h = record {
    dpcs = part_on x.dpcs y.dpcs key.dpcs shade.dpcs more.dpcs h.dpcs;
    counts = part_on x.counts y.counts key.counts shade.counts more.counts h.counts;
    threads = part_on x.threads y.threads key.threads shade.threads more.threads h.threads;
    cpus = part_on x.cpus y.cpus key.cpus shade.cpus more.cpus h.cpus;
    came = part_on x.came y.came key.came came more.came h.came;
  }

  -- a key stays that of its history
  key_on : (past : List Event) (key : Key) → IsKeyOf s watched past x key → IsKeyOf s watched past y key
  key_on past key h = record {
    free = h.free;
    kept = h.kept;
    flags = h.flags;
    parts = parts_on key h.kept h.flags h.parts;
    shade = h.shade;
    came = h.came;
  }

  -- and so does each
  keys_on : (all : List (List Event)) (keys : List Key) → AreKeys s watched all x keys → AreKeys s watched all y keys
  keys_on [] [] are = tt
  keys_on [] (key ∷ keys) are = absurd are
  keys_on (past ∷ all) [] are = absurd are
  keys_on (past ∷ all) (key ∷ keys) are = (key_on past key are.0, keys_on all keys are.1)

-- states stay those of their histories where more parts are kept
pub states_grown : (s : Script) (watched : List Watched) (all : List (List Event)) (old new : Seen) → HasGrown old new → AreStates s watched all old →
    AreStates s watched all new
states_grown s watched all old new grown are = record {
  keys = subst (AreKeys s watched all new.parts) (sym grown.keys) (keys_on s watched old.parts new.parts grown.parts all old.keys are.keys);
  ways = subst (AreWays s all) (sym grown.ways) are.ways;
}

-- and so does what was found
pub found_grown : (x : Plan) (all : List (List Event)) (f : Found) (y : Seen) → AreFound x all f → HasGrown f.states y →
    AreFound x all (record f { states = y })
found_grown x all f y h grown = record {
  states = states_grown x.script.now x.watched.items all f.states y grown h.states;
  few = subst (λ (ws : List Way). length ws ≤ x.most) (sym grown.ways) h.few;
  noted = h.noted;
  drawn = h.drawn;
  led = h.led;
}

-- turns that were tried from there were tried from what was found before more parts were kept
pub tried_grown : (x : Plan) (all : List (List Event)) (past : List Event) (turns : List Turn) (f new : Found) (y : Seen) →
    AreTried x all past turns (record f { states = y }) new → AreTried x all past turns f new
tried_grown x all past turns f new y h = record {
  more = h.more;
  found = h.found;
  targets = h.targets;
  drawn = h.drawn;
  led = h.led;
  lead = h.lead;
  silent = h.silent;
  kept = h.kept;
}
