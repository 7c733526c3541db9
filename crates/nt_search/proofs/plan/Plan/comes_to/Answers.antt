use Rattle.std.proofs.Common.{subst, sym, true, ◌∷◌, ◌≡◌}
use Rattle.std.specs.Prelude.{List}
use Rattle.nt_expect.specs.declared.expectations.Watched.{Watched}
use Rattle.nt_search.specs.Machines.{IsTaken, Stands}
use Rattle.nt_search.proofs.Leading.{uncut}
use Rattle.nt_search.proofs.GoingRound.{known}
use Rattle.nt_search.proofs.plan.Plan.comes_to.Goals as goal

pub take-requires : goal.take-requires
take-requires c =
    let x = c.args.self.now in
    let after = c.requires.after.1 in
    uncut x.script.now x.limit x.watched.items _ _ c.args.next.now after.stands after.short c.as_slice.ensures.value

pub shade-requires : goal.shade-requires
shade-requires c =
    let x = c.args.self.now in
    let s = x.script.now in
    let past = c.requires.after.0 in
    let after = c.requires.after.1 in
    let e = c.as_slice.ensures.value in
    let test = c.if-not-branch.false in
    let q : c.in_ok-take.field-0 ≡ true = cc in
    let old = subst (λ (w : List Watched). Stands s x.limit w past c.args.next.now) (sym e) after.stands in
    let taken = c.in_ok-take.ensures.taken q s x.limit past old after.short in
    (s, x.limit, c.as_slice.result.now, c.take.new.self.event ∷ past, taken.stands)

pub returns : goal.returns
returns c comes all past are after =
    let x = c.args.self.now in
    let s = x.script.now in
    let n = c.take.new.self in
    let t = c.args.turn.now in
    let e = c.as_slice.ensures.value in
    let test = c.if-not-branch.false in
    let q : c.in_ok-take.field-0 ≡ true = cc in
    let old = subst (λ (w : List Watched). Stands s x.limit w past c.args.next.now) (sym e) after.stands in
    let taken = subst (λ (w : List Watched). IsTaken s x.limit w t past n.event n) e (c.in_ok-take.ensures.taken q s x.limit past old after.short) in
    let shade = c.in_ok-shade.ensures s x.limit x.watched.items (n.event ∷ past) taken.stands in
    record {
      event = n.event;
      gives = taken.gives;
      like = known x c.requires.plan all c.args.states.now are (n.event ∷ past) n c.in_ok-shade.shade c.args.number taken.stands shade
          (c.is_of-comes.ensures comes);
    }
