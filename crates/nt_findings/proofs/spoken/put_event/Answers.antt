use Rattle.std.proofs.Common.{sym, subst}
use Rattle.std.specs.Prelude.{All, IfSome, List, Option, get_or, ◌≡◌}
use Rattle.nt_alike.specs.Lists.{Among}
use Rattle.nt_expect.specs.declared.expectations.Expectation.TheVariants.{AlwaysEnds}
use Rattle.nt_expect.specs.declared.expectations.Watched.{Watched}
use Rattle.nt_verdict.specs.Closed.{watched_by}
use Rattle.nt_findings.specs.declared.spoken.Spoken.{Spoken}
use Rattle.nt_findings.specs.Spoken.{IsSpoken}
use Rattle.nt_findings.proofs.Fitting.{spoken_more}
use Rattle.nt_findings.proofs.spoken.put_event.Goals as goal

pub returns-in_ok-push-in-Some : goal.returns-in_ok-push-in-Some
returns-in_ok-push-in-Some c =
    let xs = c.args.expectations.now in
    let of = c.args.of in
    let among = subst (λ (o : Option Watched). IfSome o (λ x. Among (λ z. x ≡ z) (watched_by (get_or xs of AlwaysEnds)))) c.in-Some.is c.requires.event in
    subst (λ (ys : List Spoken). All (IsSpoken xs) ys) (sym c.in_ok-push-in-Some.ensures.items)
    (spoken_more xs c.args.spoken.now.items (record { of = of; event = c.in-Some.event }) c.requires.old (c.requires.of, among))
