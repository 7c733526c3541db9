use Rattle.nt_timer.proofs.Links.{alone_links}
use Rattle.nt_timer.proofs.rings.Rings.new.Goals as goal

pub invariant_of-result : goal.invariant_of-result
invariant_of-result c =
    alone_links c.args.count c.in_ok-next.next.items c.in_ok-previous.previous.items c.in_ok-home.home.items c.in_ok-next.ensures c.in_ok-previous.ensures
    c.in_ok-home.ensures
