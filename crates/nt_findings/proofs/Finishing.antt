-- What the search of all states leaves, part by part.
use Rattle.std.proofs.Common.{ap, arith, subst, sym, ◌∙◌}
use Rattle.std.specs.Prelude.{Bool, Err, IfOk, List, None, Ok, Option, Result, Some, [], false, is_none, is_some, length, not, refl, true, ℕ, ◌∷◌, ◌≡◌, ◌≤◌}
use Rattle.nt_event.specs.declared.events.Event.{Event}
use Rattle.nt_event.specs.declared.scripts.Script.{Script}
use Rattle.nt_alike.specs.Lists.{Among}
use Rattle.nt_alike.proofs.Lists.{among_map, each_map}
use Rattle.nt_ask.specs.declared.answer.Cut.{Cut}
use Rattle.nt_ask.specs.declared.answer.Verdict.{Verdict}
use Rattle.nt_expect.specs.declared.expectations.Expectation.{Expectation}
use Rattle.nt_expect.specs.declared.expectations.Expectation.TheVariants.{AlwaysEnds}
use Rattle.nt_expect.specs.declared.expectations.Watched.{Watched}
use Rattle.nt_search.specs.declared.found.End.{End}
use Rattle.nt_search.specs.declared.found.End.TheVariants.{Stopped, Whole}
use Rattle.nt_search.specs.declared.found.Searched.{Searched}
use Rattle.nt_search.specs.declared.stop.Stop.{Stop}
use Rattle.nt_search.specs.declared.stop.Stop.TheVariants.{NoMemory, States, Turns}
use Rattle.nt_search.specs.Ends.{is_whole, stop_of}
use Rattle.nt_search.specs.Searches.{HasCause, IsShownIn}
use Rattle.nt_verdict.specs.Closed.{AlikeWatching, IsClosed, LeadsTo}
use Rattle.nt_findings.specs.declared.question.Finished.{Finished}
use Rattle.nt_findings.specs.declared.question.Question.{Question}
use Rattle.nt_findings.specs.declared.question.Shown.{Shown}
use Rattle.nt_findings.specs.Known.{HoldTheOthers}
use Rattle.nt_findings.specs.Questions.{IsFinished, IsShownFor}
use Rattle.nt_findings.specs.Verdicts.{AreCounted, AreSaid, HasCut, IsSaid, cut_by, cut_of}

-- ---- how many states were found

-- a closed list for what is watched for is one for nothing
closed_for_none : (s : Script) (watched : List Watched) (all : List (List Event)) → IsClosed s watched all → IsClosed s [] all
closed_for_none s watched all h = record {
  opening = less [] h.opening;
  each = each_map (LeadsTo s watched all) (LeadsTo s [] all) all (λ k leads. (leads.0, λ f may. less (f ∷ k) (leads.1 f may))) h.each;
}
  where
    less : (k : List Event) → Among (AlikeWatching s watched k) all → Among (AlikeWatching s [] k) all
    less k = among_map (AlikeWatching s watched k) (AlikeWatching s [] k) all (λ x alike. (alike.0, tt))

-- a search that was not cut found all states, and one that was had its cause
whole_by : (end : End) → cut_by end ≡ None → is_whole end ≡ true
whole_by (Whole depths) q = refl
whole_by (Stopped stop) q = cc

-- by the search's words it is so by the answer's
caused : (limit most : ℕ) (all : List (List Event)) (stop : Stop) → HasCause limit most all stop → HasCut limit most all (cut_of stop)
caused limit most all States why = why
caused limit most all Turns why = why
caused limit most all NoMemory why = tt

-- why it ended early is why it was cut
caused_by : (limit most : ℕ) (all : List (List Event)) (end : End) → ((stop : Stop) → stop_of end ≡ Some stop → HasCause limit most all stop) → (c : Cut) →
    cut_by end ≡ Some c → HasCut limit most all c
caused_by limit most all (Whole depths) why c q = absurd (none q)
  where
    none : ◌≡◌ {A = Option Cut} None (Some c) → ⊥
    none r = cc
caused_by limit most all (Stopped stop) why c q = subst (HasCut limit most all) (same q) (caused limit most all stop (why stop refl))
  where
    same : Some (cut_of stop) ≡ Some c → cut_of stop ≡ c
    same r = cc

-- what a search gives its caller counts the states
pub counted_by : (s : Script) (xs : List Expectation) (limit most states : ℕ) (x : Searched) (by : Option Cut) → IsShownIn s xs limit most x →
    states ≡ length x.found.states.ways → by ≡ cut_by x.end → AreCounted s limit most states by
counted_by s xs limit most states x by h count is = record {
  all = h.all;
  count = sym h.ways.count ∙ sym count;
  few = let few = h.few in omega (arith, few, count);
  runs = h.runs;
  closed = λ none. closed_for_none s _ h.all (h.closed (whole_by x.end (sym is ∙ none)));
  cause = λ c some. caused_by limit most h.all x.end h.cause c (sym is ∙ some);
}

-- all states were found where it was not cut
pub whole_is : (end : End) → is_whole end ≡ is_none (cut_by end)
whole_is (Whole depths) = refl
whole_is (Stopped stop) = refl

-- so they are of what is left of a search
pub whole_so : {E : Type 0} → (r : Result Finished E) (end : End) → IfOk r (λ f. f.is_whole ≡ is_whole end) → IfOk r (λ f. f.cut ≡ cut_by end) →
    IfOk r (λ f. f.is_whole ≡ is_none f.cut)
whole_so (Err e) end whole cut = tt
whole_so (Ok f) end whole cut = whole ∙ whole_is end ∙ ap is_none (sym cut)

-- and what is left counts the states
pub counted_so : {E : Type 0} → (s : Script) (xs : List Expectation) (limit most : ℕ) (r : Result Finished E) (x : Searched) → IsShownIn s xs limit most x →
    IfOk r (λ f. f.states ≡ length x.found.states.ways) → IfOk r (λ f. f.cut ≡ cut_by x.end) → IfOk r (λ f. AreCounted s limit most f.states f.cut)
counted_so s xs limit most (Err e) x h states cut = tt
counted_so s xs limit most (Ok f) x h states cut = counted_by s xs limit most f.states x f.cut h states cut

-- ---- all of it

-- where the others hold if all states were found, and each part of what is answered is so, all of it is
pub finished_so : {E : Type 0} → (q : Question) (wanted : Option ℕ) (fails : List (Option ℕ)) (whole : Bool) (r : Result Finished E) →
    HoldTheOthers q.script.now whole q.expectations.now fails → IfOk r (λ f. f.is_whole ≡ is_none f.cut) →
    IfOk r (λ f. AreCounted q.script.now q.limit q.most f.states f.cut) → IfOk r (λ f. f.is_whole ≡ whole) →
    IfOk r (λ f. IsSaid q.script.now (not f.is_whole) AlwaysEnds f.ends) → IfOk r (λ f. IsShownFor q wanted f.shown) →
    IfOk r (IsFinished q wanted fails)
finished_so q wanted fails whole (Err e) holds cut counted is ends shown = tt
finished_so q wanted fails whole (Ok f) holds cut counted is ends shown = record {
  whole = cut;
  counted = λ none. counted;
  holds = subst (λ (b : Bool). HoldTheOthers q.script.now b q.expectations.now fails) (sym is) holds;
  ends = ends;
  shown = shown;
}

-- what a question with fewer states leaves is so of this one, where all states were found
pub few_finished : (q few : Question) (n : ℕ) (wanted : Option ℕ) (fails : List (Option ℕ)) (f : Finished) → few ≡ record q { most = n } → n ≤ q.most →
    f.is_whole ≡ true → IsFinished few wanted fails f → IsFinished q wanted fails f
few_finished q few n wanted fails f is less all h = go (subst (λ (x : Question). IsFinished x wanted fails f) is h)
  where
    shown : (w : Option ℕ) (o : Option Shown) → IsShownFor (record q { most = n }) w o → IsShownFor q w o
    shown w None x = tt
    shown None (Some y) x = x
    shown (Some place) (Some y) x = x

    uncut : (o : Option Cut) (c : Cut) → is_none o ≡ true → o ≡ Some c → ⊥
    uncut None c q r = cc
    uncut (Some d) c q r = cc

    go : IsFinished (record q { most = n }) wanted fails f → IsFinished q wanted fails f
    go g = record {
      whole = g.whole;
      counted = λ none. let k = g.counted none in let few = k.few in record {
        all = k.all;
        count = k.count;
        few = omega (arith, few, less);
        runs = k.runs;
        closed = k.closed;
        cause = λ c some. absurd (uncut f.cut c (sym g.whole ∙ all) some);
      };
      holds = g.holds;
      ends = g.ends;
      shown = shown wanted f.shown g.shown;
    }

-- turns were found that show it before all states were searched
pub shown_so : (q : Question) (wanted : Option ℕ) (fails : List (Option ℕ)) (f : Finished) (y : Shown) → f.is_whole ≡ is_none f.cut → f.is_whole ≡ false →
    IsSaid q.script.now (not f.is_whole) AlwaysEnds f.ends → IsShownFor q wanted (Some y) → IsFinished q wanted fails (record f { shown = Some y })
shown_so q wanted fails f y cut part ends shown = record {
  whole = cut;
  counted = λ none. absurd (unwanted wanted none shown);
  holds = λ whole j d low none other fails. unlike f.is_whole whole part;
  ends = ends;
  shown = shown;
}
  where
    unlike : (b : Bool) → b ≡ true → b ≡ false → ⊥
    unlike b x y = cc

    unwanted : (w : Option ℕ) → w ≡ None → IsShownFor q w (Some y) → ⊥
    unwanted None none shown = shown
    unwanted (Some place) none shown = cc

-- other turns that show it may stand in their place
pub shown_by_others : (q : Question) (wanted : Option ℕ) (fails : List (Option ℕ)) (f : Finished) (y : Shown) → IsFinished q wanted fails f →
    IsShownFor q wanted (Some y) → IsFinished q wanted fails (record f { shown = Some y })
shown_by_others q wanted fails f y h shown =
    record { whole = h.whole; counted = h.counted; holds = h.holds; ends = h.ends; shown = shown }

-- what is said where all states were found, or not, is said where the search was cut, or not
pub said_by_cut : (s : Script) (xs : List Expectation) (vs : List Verdict) (whole : Bool) (by : Option Cut) → whole ≡ is_none by →
    AreSaid s (not whole) xs vs → AreSaid s (is_some by) xs vs
said_by_cut s xs vs whole by is h = subst (λ (b : Bool). AreSaid s b xs vs) (sum by) (subst (λ (b : Bool). AreSaid s (not b) xs vs) is h)
  where
    sum : (o : Option Cut) → not (is_none o) ≡ is_some o
    sum None = refl
    sum (Some c) = refl
