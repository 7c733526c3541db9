use Rattle.std.proofs.Common.{reverse, subst}
use Rattle.nt_mark.specs.Names.{pass_view}
use Rattle.nt_live.proofs.Gathers.{asked, asked_settled, gathered_with, team_order}
use Rattle.nt_live.proofs.Worked.{pieces, settled, worked}
use Rattle.nt_live.specs.OwnLists.{all_pairs}
use Rattle.nt_live.specs.Teams.{HaveNoMore}
use Rattle.nt_live.proofs.gathering.gather_all.Goals as goal

pub has_no_more-settled-requires-clause-order : goal.has_no_more-settled-requires-clause-order
has_no_more-settled-requires-clause-order g c k x l =
    team_order g.N.Plan.script g.N.Plan.turns c.args.workers.items c.in_ok-team.team.cpus.items (pass_view c.in_ok-team.team.pass)
    (all_pairs c.in_ok-team.team.lists.items) c.in_ok-team.ensures.team k x l

pub ended-requires-clause-run : goal.ended-requires-clause-run
ended-requires-clause-run g c =
    let s = g.N.Plan.script in
    let limit = g.N.Plan.turns in
    let team = c.in_ok-team.team in
    let w = pass_view c.has_no_more-settled.new.self.pass in
    let es = c.in_ok-events.field-0.events in
    let ps = c.in_ok-events.field-0.pieces.items in
    let did =
    worked s limit c.args.workers.items team.cpus.items (pass_view team.pass) w (all_pairs team.lists.items) es ps c.args.board.script_fits c.requires.all
    c.in_ok-team.ensures.team c.has_no_more-settled.ensures.looked c.in_ok-events.ensures in
    asked s c.args.board.script.now limit c.args.board.turns es c.args.board.script_is c.args.board.turns_is did.run

pub ended-requires-clause-settled : goal.ended-requires-clause-settled
ended-requires-clause-settled g c is =
    let s = g.N.Plan.script in
    let limit = g.N.Plan.turns in
    let team = c.in_ok-team.team in
    let v = pass_view team.pass in
    let w = pass_view c.has_no_more-settled.new.self.pass in
    let es = c.in_ok-events.field-0.events in
    let ps = c.in_ok-events.field-0.pieces.items in
    let e = c.has_no_more-settled.ensures in
    let more : HaveNoMore limit v team.cpus.items = subst (λ n. HaveNoMore n v team.cpus.items) c.args.board.turns_is (e.more is) in
    asked_settled s c.args.board.script.now limit c.args.board.turns (reverse es) c.args.board.script_is c.args.board.turns_is
    (settled s limit c.args.workers.items team.cpus.items v w (all_pairs team.lists.items) es ps c.args.board.script_fits c.requires.all
    c.in_ok-team.ensures.team
    e.looked c.in_ok-events.ensures more)

pub returns-clause-gathered : goal.returns-clause-gathered
returns-clause-gathered g c =
    let s = g.N.Plan.script in
    let limit = g.N.Plan.turns in
    let ws = c.args.workers.items in
    let team = c.in_ok-team.team in
    let v = pass_view team.pass in
    let w = pass_view c.has_no_more-settled.new.self.pass in
    let es = c.in_ok-events.field-0.events in
    let ps = c.in_ok-events.field-0.pieces.items in
    let looked = c.has_no_more-settled.ensures.looked in
    let did = worked s limit ws team.cpus.items v w (all_pairs team.lists.items) es ps c.args.board.script_fits c.requires.all c.in_ok-team.ensures.team looked
    c.in_ok-events.ensures in
    let lists =
    pieces s limit ws team.cpus.items v w (all_pairs team.lists.items) es ps c.args.board.script_fits c.requires.all c.in_ok-team.ensures.team looked
    c.in_ok-events.ensures in
    let e = c.in_ok-history.ensures in
    gathered_with s c.args.board.script.now limit c.args.board.turns ws es ps (reverse c.in_ok-history.history.events) c.args.board.script_is
    c.args.board.turns_is did lists e.run e.settled e.added
