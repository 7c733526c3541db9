use Rattle.std.proofs.Common.{arith, sym}
use Rattle.std.proofs.lemmas.Bool.Decides.{nat_tests}
use Rattle.std.specs.Prelude.{false, true, ◌==◌, ◌≡◌}
use Rattle.nt_cpu.proofs.Noticed.{noticed_else, noticed_own, noticed_unasked}
use Rattle.nt_cpu.proofs.alone.noticed.Goals as goal
use Rattle.nt_cpu.proofs.alone.noticed.Goals.{in-Some+else-asked-cpu, in_default-asked}

pub returns-then-asked-cpu : goal.returns-then-asked-cpu
returns-then-asked-cpu c =
    let a = c.in-Some.asked in
    let b = rw c.in-Some.is at c.requires.class in
    let e : (a.cpu.0 == c.args.cpu.0) ≡ true = let t = c.if-asked-cpu.true in grind (arith, nat_tests) in
    rw c.in-Some.is (record { value = λ k l. sym (noticed_own c.args.cpu c.args.what.now a c.args.n k c.in_default.not-Look e); class = b })

pub returns : goal.returns
returns c =
    elim c.match-asked.branch [
      | in-Some+else-asked-cpu w ↦ let a = w.in-Some.asked in
          let e : (a.cpu.0 == c.args.cpu.0) ≡ false = let t = w.if-asked-cpu.false in grind (arith, nat_tests) in
          rw w.in-Some.is (record { value = λ k l. sym (noticed_else c.args.cpu c.args.what.now a c.args.n k c.in_default.not-Look e); class = tt })
      | in_default-asked w ↦ record {
        value = λ k l. sym (noticed_unasked c.args.cpu c.args.what.now c.args.asked c.args.n k c.in_default.not-Look w.in_default-asked.not-Some);
        class = tt;
      }
    ]
