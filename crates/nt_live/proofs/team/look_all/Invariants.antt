use Rattle.std.proofs.Common.{length, true, ℕ, ◌<◌, ◌≡◌, ◌≤◌}
use Rattle.nt_event.specs.Classes.{is_used_class}
use Rattle.nt_event.specs.Lists.{value_at}
use Rattle.nt_mark.specs.Names.{pass_table, pass_view}
use Rattle.nt_mark.specs.Views.{reach, request_word}
use Rattle.nt_live.specs.Teams.{HasLooked}
use Rattle.nt_live.proofs.team.look_all.Given as goal

abbrev pub invariant-loop-class : goal.invariant-loop-class
invariant-loop-class l = record {
  len : length l.answers ≡ 16;
  table : pass_table l.pass ≡ pass_table l.initial.pass;
  looked : HasLooked (pass_view l.initial.pass) (pass_view l.pass);
  least : (k : ℕ) → k < l.class → is_used_class k ≡ true → reach (request_word l.cpu k) (pass_view l.initial.pass) ≤ value_at l.answers k;
}
