use Rattle.std.proofs.Common.{None, arith, false, reverse, sym, true, ◌∙◌, ◌≡◌}
use Rattle.nt_shrink.proofs.Meeting.{delivered_so}
use Rattle.nt_shrink.proofs.Shrunk.{done, further, started}
use Rattle.nt_shrink.proofs.shrinking.shrink.Goals as goal

pub returns-then-not-is_delivered-clause-err : goal.returns-then-not-is_delivered-clause-err
returns-then-not-is_delivered-clause-err c =
    let a = c.if-len-gt-MOST_TURNS.false in
    let b = c.len.ensures in
    let es = c.in_ok-history.history.events in
    let f : c.delivers-is_delivered.result ≡ false = (let y = c.if-not-is_delivered.true in cc) in
    (omega (arith, a, b), (reverse es, (c.in_ok-history.ensures.ok, sym (delivered_so c.args.goal es) ∙ (sym c.delivers-is_delivered.ensures ∙ f))))

pub loop-short-init : goal.loop-short-init
loop-short-init c =
    let a = c.if-len-gt-MOST_TURNS.false in
    let b = c.len.ensures in
    let t : c.delivers-is_delivered.result ≡ true = (let y = c.if-not-is_delivered.false in cc) in
    started c.args.script.now c.args.turns c.args.goal c.args.list.now c.in_ok-short.short c.in_ok-history.history.events c.delivers-is_delivered.result
    (omega (arith, a, b)) c.in_ok-history.ensures.ok c.delivers-is_delivered.ensures t c.in_ok-short.ensures

pub loop-short-smaller : goal.loop-short-smaller
loop-short-smaller c =
    let more = further c.args.script.now c.args.turns c.args.goal c.args.list.now c.loop-short.short c.in-Some.shorter c.loop-short.invariant
    (sym c.in-Some.is ∙ c.in_ok-shorter.ensures) in
    more.less

pub loop-short-preserved : goal.loop-short-preserved
loop-short-preserved c =
    let more = further c.args.script.now c.args.turns c.args.goal c.args.list.now c.loop-short.short c.in-Some.shorter c.loop-short.invariant
    (sym c.in-Some.is ∙ c.in_ok-shorter.ensures) in
    more.short_is

pub returns-clause-ok : goal.returns-clause-ok
returns-clause-ok c =
    let a = c.if-len-gt-MOST_TURNS.false in
    let b = c.len.ensures in
    let t : c.delivers-is_delivered.result ≡ true = (let y = c.if-not-is_delivered.false in cc) in
    let none : c.in_ok-shorter.field-0 ≡ None = (let i = c.in_default.is in cc) in
    let end = done c.args.script.now c.args.turns c.args.goal c.args.list.now c.loop-short.short c.in_ok-shorter.field-0 c.in_ok-history.history.events
    c.delivers-is_delivered.result (omega (arith, a, b)) c.in_ok-history.ensures.ok c.delivers-is_delivered.ensures t
    c.loop-short.invariant c.in_ok-shorter.ensures none in
    end.shrunk_is

pub returns-clause-delivers : goal.returns-clause-delivers
returns-clause-delivers c =
    let a = c.if-len-gt-MOST_TURNS.false in
    let b = c.len.ensures in
    let t : c.delivers-is_delivered.result ≡ true = (let y = c.if-not-is_delivered.false in cc) in
    let none : c.in_ok-shorter.field-0 ≡ None = (let i = c.in_default.is in cc) in
    let end = done c.args.script.now c.args.turns c.args.goal c.args.list.now c.loop-short.short c.in_ok-shorter.field-0 c.in_ok-history.history.events
    c.delivers-is_delivered.result (omega (arith, a, b)) c.in_ok-history.ensures.ok c.delivers-is_delivered.ensures t
    c.loop-short.invariant c.in_ok-shorter.ensures none in
    end.delivery_is

pub returns-clause-none_spare : goal.returns-clause-none_spare
returns-clause-none_spare c =
    let a = c.if-len-gt-MOST_TURNS.false in
    let b = c.len.ensures in
    let t : c.delivers-is_delivered.result ≡ true = (let y = c.if-not-is_delivered.false in cc) in
    let none : c.in_ok-shorter.field-0 ≡ None = (let i = c.in_default.is in cc) in
    let end = done c.args.script.now c.args.turns c.args.goal c.args.list.now c.loop-short.short c.in_ok-shorter.field-0 c.in_ok-history.history.events
    c.delivers-is_delivered.result (omega (arith, a, b)) c.in_ok-history.ensures.ok c.delivers-is_delivered.ensures t
    c.loop-short.invariant c.in_ok-shorter.ensures none in
    end.none_spare
