use Rattle.std.proofs.Common.{ap, arith, get_or, length, refl, subst, sym, ◌*◌, ◌+◌, ◌<◌, ◌≡◌, ◌∙◌}
use Rattle.std.specs.Prelude.{List}
use Rattle.nt_cpu.specs.States.{CpuState}
use Rattle.nt_shade_asks.specs.Follows.{place_of}
use Rattle.nt_shade.proofs.Rows.{AreRows, has_word, is_read_of, no_rows, number_fits, room_fits, row_on, rows_asked, rows_of, seen_count}
use Rattle.nt_shade.proofs.asks.unnoticed_of.Goals as goal

pub overflow_mul-cpus : goal.overflow_mul-cpus
overflow_mul-cpus c =
    let same = ap length c.cpus-cpus.ensures in
    let fits = room_fits c.requires.0 c.args.processors.now c.args.floor.now c.requires.1 in
    omega (arith, same, fits)

pub loop-number-init : goal.loop-number-init
loop-number-init c = no_rows c.args.processors.now.cpus c.args.floor.now c.in_ok-classes.classes.items c.in_ok-classes.ensures.items

pub overflow_cast-cpu : goal.overflow_cast-cpu
overflow_cast-cpu c =
    let same = ap length c.cpus-cpus.ensures in
    let low : c.loop-number.number < length c.args.processors.now.cpus = omega (arith, same, c.loop-number-test.true) in
    let fits = number_fits c.requires.0 c.args.processors.now c.args.floor.now c.loop-number.number c.requires.1 low in
    omega (arith, fits)

pub class_of-requires-clause-word : goal.class_of-requires-clause-word
class_of-requires-clause-word c =
    let same = ap length c.cpus-cpus.ensures in
    let low : c.loop-number.number < length c.args.processors.now.cpus = omega (arith, same, c.loop-number-test.true) in
    has_word c.requires.0 c.args.processors.now c.args.floor.now c.requires.1 (record { 0 = c.loop-number.number }) c.loop-class.class low
    c.loop-class-test.true

pub class_of-requires-clause-seen : goal.class_of-requires-clause-seen
class_of-requires-clause-seen c =
    let same = ap length c.cpus-cpus.ensures in
    let low : c.loop-number.number < length c.args.processors.now.cpus = omega (arith, same, c.loop-number-test.true) in
    let item = c.index-cpus-number.result in
    let is = c.index-cpus-number.is ∙ ap (λ (xs : List CpuState). get_or xs c.loop-number.number item) c.cpus-cpus.ensures in
    subst (λ (x : CpuState). length x.own.seen ≡ 16) (sym is) (seen_count c.requires.0 c.args.processors.now c.args.floor.now c.requires.1 _ item low)

pub loop-class-preserved : goal.loop-class-preserved
loop-class-preserved c =
    let cpus = c.args.processors.now.cpus in
    let f = c.args.floor.now in
    let n = c.loop-number.number in
    let same = ap length c.cpus-cpus.ensures in
    let low : n < length cpus = omega (arith, same, c.loop-number-test.true) in
    let item = c.index-cpus-number.result in
    let is = c.index-cpus-number.is ∙ ap (λ (xs : List CpuState). get_or xs n item) c.cpus-cpus.ensures in
    let x = c.in_ok-class_of.field-0 in
    let read = c.in_ok-class_of.ensures in
    let place : place_of x ≡ n * 16 + c.loop-class.class = rw (read.cpu, read.class) refl in
    let next : n * 16 + c.loop-class.class + 1 ≡ n * 16 + (c.loop-class.class + 1) = omega arith in
    row_on cpus f (n * 16 + c.loop-class.class) (n * 16 + (c.loop-class.class + 1)) c.loop-class.classes.items c.push.new.self.items x
    c.loop-class.invariant c.in_ok-push.ensures.items place next (is_read_of cpus f n c.loop-class.class x item low c.loop-class-test.true is read)

pub returns-clause-of : goal.returns-clause-of
returns-clause-of c =
    let same = ap length c.cpus-cpus.ensures in
    let all : c.loop-number.number ≡ length c.args.processors.now.cpus = omega (arith, same, c.loop-number-test.false, c.loop-number.auto) in
    rows_of c.requires.0 c.args.processors.now c.args.floor.now c.requires.1 _
    (subst (λ n. AreRows c.args.processors.now.cpus c.args.floor.now (n * 16) c.loop-number.classes.items) all c.loop-number.invariant)

pub returns-clause-asked : goal.returns-clause-asked
returns-clause-asked c past after = rows_asked past c.args.processors.now c.args.floor.now after c.loop-number.classes.items c.loop-number.invariant.read
