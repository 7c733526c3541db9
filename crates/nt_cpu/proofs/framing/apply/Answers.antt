use Rattle.std.proofs.Common.{ap, ◌∙◌}
use Rattle.std.specs.Prelude.{refl}
use Rattle.nt_event.specs.declared.events.What.TheVariants as what
use Rattle.nt_event.specs.declared.frames.Body.{Body}
use Rattle.nt_frame.specs.Changes.{begun}
use Rattle.nt_cpu.proofs.Applied.{left_begin, left_call, left_end, left_flush, left_free, left_gone, left_normal, left_other, left_rewait, left_switch}
use Rattle.nt_cpu.proofs.framing.apply.Goals as goal

pub returns-in-Call : goal.returns-in-Call
returns-in-Call c =
    let k = c.in-Call in
    let a = rw k.is at c.requires.allow in
    left_call c.args.script.now c.args.n c.args.due c.args.event.now c.args.frames.now c.call.new.frames k.frame k.command k.reply
    (record { nested = c.requires.nested; threads = c.requires.threads; thread = c.requires.thread }) k.is a.0 c.call.ensures

pub returns-in-Begin : goal.returns-in-Begin
returns-in-Begin c =
    let k = c.in-Begin in
    left_begin c.args.script.now c.args.n c.args.due c.args.event.now c.args.frames.now c.begin.new.self k.begun k.from
    (record { nested = c.requires.nested; threads = c.requires.threads; thread = c.requires.thread }) k.is
    (c.begin.ensures.begun ∙ ap (λ (b : Body). begun c.args.n b c.args.frames.now) c.body_of.ensures)

pub returns-in-Normal : goal.returns-in-Normal
returns-in-Normal c =
    let k = c.in-Normal in
    let a = rw k.is at c.requires.allow in
    left_normal c.args.script.now c.args.n c.args.due c.args.event.now c.args.frames.now c.normal.new.self k.frame
    (record { nested = c.requires.nested; threads = c.requires.threads; thread = c.requires.thread }) k.is a.0 a.1 c.normal.ensures.phase

pub returns-in-End : goal.returns-in-End
returns-in-End c =
    let k = c.in-End in
    let a = rw k.is at c.requires.allow in
    left_end c.args.script.now c.args.n c.args.due c.args.event.now c.args.frames.now c.end.new.frames k.frame
    (record { nested = c.requires.nested; threads = c.requires.threads; thread = c.requires.thread }) k.is a.0 c.end.ensures

pub returns-in-Switch : goal.returns-in-Switch
returns-in-Switch c =
    let k = c.in-Switch in
    let a = rw k.is at c.requires.allow in
    left_switch c.args.script.now c.args.n c.args.due c.args.event.now c.args.frames.now c.switch.new.frames k.thread k.status
    (record { nested = c.requires.nested; threads = c.requires.threads; thread = c.requires.thread }) k.is a.0 a.2 c.switch.ensures

pub returns-in-Rewait : goal.returns-in-Rewait
returns-in-Rewait c =
    let k = c.in-Rewait in
    let a = rw k.is at c.requires.allow in
    left_rewait c.args.script.now c.args.n c.args.due c.args.event.now c.args.frames.now c.rewait.new.frames k.frame k.reply
    (record { nested = c.requires.nested; threads = c.requires.threads; thread = c.requires.thread }) k.is a.0 a.1 c.rewait.ensures

pub returns-in-Flush : goal.returns-in-Flush
returns-in-Flush c =
    let k = c.in-Flush in
    left_flush c.args.script.now c.args.n c.args.due c.args.event.now c.args.frames.now c.flush.new.frames k.apc k.from
    (record { nested = c.requires.nested; threads = c.requires.threads; thread = c.requires.thread }) k.is c.flush.ensures

pub returns-in-Gone : goal.returns-in-Gone
returns-in-Gone c =
    let k = c.in-Gone in
    left_gone c.args.script.now c.args.n c.args.due c.args.event.now c.args.frames.now c.gone.new.self k.thread
    (record { nested = c.requires.nested; threads = c.requires.threads; thread = c.requires.thread }) k.is c.gone.ensures

pub returns-in-Free : goal.returns-in-Free
returns-in-Free c =
    let k = c.in-Free in
    let a = rw k.is at c.requires.allow in
    left_free c.args.script.now c.args.n c.args.due c.args.event.now c.args.frames.now c.free.new.self k.frame k.lock
    (record { nested = c.requires.nested; threads = c.requires.threads; thread = c.requires.thread }) k.is a c.free.ensures.freed

pub returns-in-Look : goal.returns-in-Look
returns-in-Look c =
    let k = c.in-Look in
    left_other c.args.script.now c.args.n c.args.due c.args.event.now c.args.frames.now (what.Look k.rises)
    (record { nested = c.requires.nested; threads = c.requires.threads; thread = c.requires.thread }) k.is refl

pub returns-in-Expire : goal.returns-in-Expire
returns-in-Expire c =
    let k = c.in-Expire in
    left_other c.args.script.now c.args.n c.args.due c.args.event.now c.args.frames.now (what.Expire k.key k.from)
    (record { nested = c.requires.nested; threads = c.requires.threads; thread = c.requires.thread }) k.is refl

pub returns-in-Fire : goal.returns-in-Fire
returns-in-Fire c =
    let k = c.in-Fire in
    left_other c.args.script.now c.args.n c.args.due c.args.event.now c.args.frames.now (what.Fire k.dpc k.reply)
    (record { nested = c.requires.nested; threads = c.requires.threads; thread = c.requires.thread }) k.is refl

pub returns-in-Clean : goal.returns-in-Clean
returns-in-Clean c =
    let k = c.in-Clean in
    left_other c.args.script.now c.args.n c.args.due c.args.event.now c.args.frames.now (what.Clean k.class)
    (record { nested = c.requires.nested; threads = c.requires.threads; thread = c.requires.thread }) k.is refl

pub returns-in-Rest : goal.returns-in-Rest
returns-in-Rest c =
    let k = c.in-Rest in
    left_other c.args.script.now c.args.n c.args.due c.args.event.now c.args.frames.now what.Rest
    (record { nested = c.requires.nested; threads = c.requires.threads; thread = c.requires.thread }) k.is refl
