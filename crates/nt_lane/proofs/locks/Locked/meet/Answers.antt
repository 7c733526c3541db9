use Rattle.nt_mark.specs.Names.{pass_view}
use Rattle.nt_lane.proofs.Learned.{all_known}
use Rattle.nt_lane.proofs.Retries.{learns_through}
use Rattle.nt_lane.proofs.locks.Locked.meet.Goals as goal

pub returns-clause-known : goal.returns-clause-known
returns-clause-known g c =
    all_known _ (pass_view c.meet_one.new.pass) (pass_view c.meet_one-2.new.pass) (pass_view c.meet_one-3.new.pass) (pass_view c.meet_one-4.new.pass)
    (pass_view c.meet_one-5.new.pass) c.meet_one-2.ensures.learns c.meet_one-3.ensures.learns c.meet_one-4.ensures.learns c.meet_one-5.ensures.learns
    c.meet_one.ensures.known c.meet_one-2.ensures.known c.meet_one-3.ensures.known c.meet_one-4.ensures.known c.meet_one-5.ensures.known

pub returns-clause-learns : goal.returns-clause-learns
returns-clause-learns g c =
    let u = pass_view c.args.pass.now in
    let v = pass_view c.meet_one-2.new.pass in
    let w = pass_view c.meet_one-4.new.pass in
    let x = pass_view c.meet_one-5.new.pass in
    learns_through u w x
    (learns_through u v w (learns_through u (pass_view c.meet_one.new.pass) v c.meet_one.ensures.learns c.meet_one-2.ensures.learns)
    (learns_through v (pass_view c.meet_one-3.new.pass) w c.meet_one-3.ensures.learns c.meet_one-4.ensures.learns)) c.meet_one-5.ensures.learns
