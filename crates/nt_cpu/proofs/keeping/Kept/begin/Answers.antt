use Rattle.std.proofs.Common.{ap}
use Rattle.nt_event.specs.declared.events.What.TheVariants.{Begin}
use Rattle.nt_event.specs.Requests.{serves}
use Rattle.nt_event.specs.declared.events.Begun.{Begun}
use Rattle.nt_cpu.proofs.Served.{serves_none}
use Rattle.nt_cpu.proofs.keeping.Kept.begin.Goals as goal

pub returns-in-Dpc-clause-served : goal.returns-in-Dpc-clause-served
returns-in-Dpc-clause-served c from =
    serves_none (Begin c.args.begun.now from) c.args.seen.now c.args.self.now.served c.requires
    (λ k. ap (λ (b : Begun). serves k (Begin b from)) c.in-Dpc.is)

pub returns-in-Threaded-clause-served : goal.returns-in-Threaded-clause-served
returns-in-Threaded-clause-served c from =
    serves_none (Begin c.args.begun.now from) c.args.seen.now c.args.self.now.served c.requires
    (λ k. ap (λ (b : Begun). serves k (Begin b from)) c.in-Threaded.is)

pub returns-in-Apc-clause-served : goal.returns-in-Apc-clause-served
returns-in-Apc-clause-served c from =
    serves_none (Begin c.args.begun.now from) c.args.seen.now c.args.self.now.served c.requires
    (λ k. ap (λ (b : Begun). serves k (Begin b from)) c.in-Apc.is)
