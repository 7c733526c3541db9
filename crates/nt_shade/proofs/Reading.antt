-- What is read from a machine of the asks for a class is what the history says.
use Rattle.std.proofs.Common.{ap, sym, ◌∙◌}
use Rattle.std.specs.Prelude.{List, get_or, length, refl, suc, true, zero, ℕ, ◌+◌, ◌-◌, ◌<◌, ◌≡◌}
use Rattle.nt_event.specs.declared.events.Event.{Event}
use Rattle.nt_event.specs.declared.jobs.Lane.{Lane}
use Rattle.nt_event.specs.declared.jobs.Lane.TheVariants.{Lock as LockLane, Object as ObjectLane, Queue as QueueLane, Threads as ThreadsLane}
use Rattle.nt_event.specs.declared.jobs.Lane.TheVariants.{Timers as TimersLane}
use Rattle.nt_event.specs.declared.numbers.CpuNo.{CpuNo}
use Rattle.nt_event.specs.declared.scripts.Script.{Script}
use Rattle.nt_event.specs.Lanes.{lane_count, lane_number}
use Rattle.nt_event.specs.Own.{own_of}
use Rattle.nt_event.specs.Requests.{seen, served, told_by}
use Rattle.nt_event.proofs.Tables.{get_or-table, length-table_from}
use Rattle.nt_states.specs.LaneLists.{lane_fits}
use Rattle.nt_floor.specs.Views.{HasWord}
use Rattle.nt_plain.specs.Places.{told_at}
use Rattle.nt_plain.specs.States.{PlainState, view_of}
use Rattle.nt_cpu.specs.Runs.{Follows}
use Rattle.nt_alike.specs.Declared.{has_lane}
use Rattle.nt_shade_asks.specs.declared.class_asks.ClassAsks.{ClassAsks}
use Rattle.nt_shade_asks.specs.Follows.{HasLane, HasRoom, IsClassAsked}
use Rattle.nt_shade_asks.specs.Values.{values_above}
use Rattle.nt_shade_asks.proofs.LaneNumbers.{number_below}
use Rattle.nt_shade.specs.Asks.{IsRead, all_told, marked_from}
use Rattle.nt_shade.proofs.Asked.{asked_from, from_asked}

-- a lane of the script fits it
fits_lane : (s : Script) (x : Lane) → lane_fits s x ≡ has_lane s x
fits_lane s (ObjectLane d) = refl
fits_lane s (QueueLane p) = refl
fits_lane s (ThreadsLane p) = refl
fits_lane s TimersLane = refl
fits_lane s (LockLane k) = refl

module _ (s : Script) (past : List Event) (f : PlainState) (follows : Follows s past (view_of f)) (same : f.script ≡ s) (p : CpuNo) (c : ℕ)
    (word : HasWord (view_of f) p c) where
  -- the marks are the history's
  marks_are : (low n : ℕ) → marked_from f p c low n ≡ asked_from s p c low n past
  marks_are low zero = refl
  marks_are low (suc n) =
      let a = marks_are low n in
      let b = follows.marked (low + n) p c word in
      rw (a, b) refl

  -- so are the values ahead
  ahead_are : (v : ℕ) → marked_from f p c v ((view_of f).value p c - v) ≡ values_above s p c v past
  ahead_are v =
      marks_are v ((view_of f).value p c - v)
      ∙ ap (λ (n : ℕ). asked_from s p c v (n - v) past) (follows.value p c word)
      ∙ from_asked s p c v past

  -- and what the lanes tell
  told_are : (x : Lane) → HasLane s x → get_or (all_told f p c) (lane_number s x) 0 ≡ told_by s x p c past
  told_are x has =
      let below = number_below s x has in
      let fits : lane_fits f.script x ≡ true = ap (λ (z : Script). lane_fits z x) same ∙ fits_lane s x ∙ has in
      let inside : lane_number s x < lane_count f.script = rw same below in
      let read = get_or-table (lane_count f.script) (lane_number s x) (λ n. told_at f.script.cpus f.told n p c) 0 inside in
      let number : lane_number s x ≡ lane_number f.script x = ap (λ (z : Script). lane_number z x) (sym same) in
      let here : (view_of f).told x p c ≡ told_at f.script.cpus f.told (lane_number f.script x) p c = rw fits refl in
      read ∙ ap (λ (n : ℕ). told_at f.script.cpus f.told n p c) number ∙ sym here ∙ follows.told x p c word

  -- the row is the history's
  pub row_asked : (row : ClassAsks) → c < 16 → IsRead (own_of s p past) f p c row → IsClassAsked s past row
  row_asked row low read =
      let seen_is : row.seen ≡ seen s p c past = read.seen ∙ get_or-table 16 c (λ k. seen s p k past) 0 low in
      let served_is : row.served ≡ served s p c past = read.served ∙ get_or-table 16 c (λ k. served s p k past) 0 low in
      let ahead_is : row.ahead.items ≡ values_above s p c (seen s p c past) past =
      read.ahead ∙ ahead_are row.seen ∙ ap (λ (v : ℕ). values_above s p c v past) seen_is in
      rw (read.cpu, read.class) (record {
        seen = seen_is;
        served = served_is;
        ahead = ahead_is;
        told = λ some x has. ap (λ (xs : List ℕ). get_or xs (lane_number s x) 0) (read.told some) ∙ told_are x has;
      })

  -- and has its room
  pub row_room : (row : ClassAsks) → c < 16 → IsRead (own_of s p past) f p c row → HasRoom s row
  row_room row low read = record {
    class = rw read.class low;
    told = λ some. ap length (read.told some) ∙ length-table_from 0 (lane_count f.script) (λ n. told_at f.script.cpus f.told n p c)
        ∙ ap lane_count same;
  }
