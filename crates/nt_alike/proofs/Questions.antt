-- Questions about a state are answered alike: by congruence.
use Rattle.std.proofs.Common.{ap, sym, ◌∙◌}
use Rattle.std.specs.Prelude.{List, is_some, ◌≡◌}
use Rattle.nt_event.specs.declared.events.Event.{Event}
use Rattle.nt_event.specs.declared.numbers.ApcNo.{ApcNo}
use Rattle.nt_event.specs.declared.numbers.DpcNo.{DpcNo}
use Rattle.nt_event.specs.declared.numbers.ThreadNo.{ThreadNo}
use Rattle.nt_event.specs.declared.numbers.TimerNo.{TimerNo}
use Rattle.nt_event.specs.declared.scripts.Script.{Script}
use Rattle.nt_event.specs.Apcs.{is_inserted}
use Rattle.nt_event.specs.Frames.{frames_of}
use Rattle.nt_event.specs.Jobs.{level_at, rests, spins_still}
use Rattle.nt_event.specs.Lanes.{Lanes, facts_at, lanes_at, lock_at, object_at}
use Rattle.nt_event.specs.Lists.{table}
use Rattle.nt_event.specs.Numbers.{cpu}
use Rattle.nt_event.specs.Objects.{is_queued}
use Rattle.nt_event.specs.Own.{Own, own_of}
use Rattle.nt_event.specs.Routines.{owner_of}
use Rattle.nt_event.specs.Threads.{ThreadFacts}
use Rattle.nt_event.specs.Timers.{Timers, is_set_timer, setting_in}
use Rattle.nt_event.proofs.Tables.{table-same}
use Rattle.nt_alike.specs.Alike.{Alike}
use Rattle.nt_alike.specs.Bare.{bare_facts, bare_lanes, bare_own, bare_setting, bare_timers}
use Rattle.nt_alike.specs.Questions.{Question, StandAlike, answer}
use Rattle.nt_alike.proofs.Facts.{is_inserted_bare, is_some_map}
use Rattle.nt_alike.proofs.Frames.{level_bare}
use Rattle.nt_alike.proofs.Jobs.{facts_read, queued_bare}
use Rattle.nt_alike.proofs.Tasks.{rests_bare, spins_bare}
use Rattle.nt_alike.proofs.Timers.{setting_read}

-- each question about a state has the same answer after histories that are alike
pub answers_same : (s : Script) (question : Question) (h k : List Event) → Alike s h k → answer s question h ≡ answer s question k
answers_same s question h k al =
    ap (λ (xs : List Own). question xs (bare_lanes (lanes_at s h)))
    (table-same {A = Own} s.cpus (λ p. bare_own (own_of s (cpu p) h)) (λ p. bare_own (own_of s (cpu p) k)) (λ p l. al.own (cpu p)))
    ∙ ap (question (table s.cpus (λ p. bare_own (own_of s (cpu p) k)))) al.lanes

-- whether a timer is set does not depend on the numbers of the settings
set_bare : (x : Timers) (t : TimerNo) → is_set_timer (bare_timers x) t ≡ is_set_timer x t
set_bare x t = ap is_some (setting_read x.timers t.0) ∙ is_some_map bare_setting (setting_in x.timers t.0)

module _ (s : Script) (h k : List Event) (al : Alike s h k) where
  facts_same : (t : ThreadNo) → bare_facts (facts_at (lanes_at s h) t) ≡ bare_facts (facts_at (lanes_at s k) t)
  facts_same t = sym (facts_read (lanes_at s h) t) ∙ ap (λ (l : Lanes). facts_at l t) al.lanes ∙ facts_read (lanes_at s k) t

  dpcs_same : (d : DpcNo) → is_queued (object_at (lanes_at s h) d) ≡ is_queued (object_at (lanes_at s k) d)
  dpcs_same d = sym (queued_bare (lanes_at s h) d) ∙ ap (λ (l : Lanes). is_queued (object_at l d)) al.lanes ∙ queued_bare (lanes_at s k) d

  apcs_same : (a : ApcNo) →
      is_inserted a (facts_at (lanes_at s h) (owner_of s a)).apcs ≡ is_inserted a (facts_at (lanes_at s k) (owner_of s a)).apcs
  apcs_same a =
      sym (is_inserted_bare a (facts_at (lanes_at s h) (owner_of s a)).apcs)
      ∙ ap (λ (x : ThreadFacts). is_inserted a x.apcs) (facts_same (owner_of s a))
      ∙ is_inserted_bare a (facts_at (lanes_at s k) (owner_of s a)).apcs

  -- histories that are alike leave the same levels, threads, frames, objects, timers and locks, but for numbers
  pub stand_alike : StandAlike s h k
  stand_alike =
      record {
        level = λ p. sym (level_bare (frames_of s p h)) ∙ ap level_at (al.own p) ∙ level_bare (frames_of s p k);
        rests = λ p. rests_bare (own_of s p h) ∙ ap rests (al.own p) ∙ sym (rests_bare (own_of s p k));
        spins = λ p. spins_bare (own_of s p h) ∙ ap spins_still (al.own p) ∙ sym (spins_bare (own_of s p k));
        running = λ p. ap (λ (x : Own). x.frames.running) (al.own p);
        frames = λ p. ap (λ (x : Own). x.frames) (al.own p);
        doing = λ t. ap (λ (x : ThreadFacts). x.doing) (facts_same t);
        facts = facts_same;
        dpcs = dpcs_same;
        apcs = apcs_same;
        timers = λ t. sym (set_bare (lanes_at s h).timers t) ∙ ap (λ (l : Lanes). is_set_timer l.timers t) al.lanes
            ∙ set_bare (lanes_at s k).timers t;
        time = ap (λ (l : Lanes). l.timers.now) al.lanes;
        holder = λ x. ap (λ (l : Lanes). (lock_at l x).holder) al.lanes;
        spinners = λ x. ap (λ (l : Lanes). (lock_at l x).spinners) al.lanes;
      }
