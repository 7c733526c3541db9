-- What is noticed of a class.
use Rattle.std.specs.Prelude.{if◌then◌else◌, ℕ, ◌==◌, ◌<◌}
use Rattle.nt_event.specs.Lists.{value_at}
use Rattle.nt_cpu.specs.declared.notice.Notice.{Notice}
use Rattle.nt_cpu.specs.declared.notice.Notice.TheVariants.{Nothing, Own, Values}

abbrev pub notice_of : Notice → ℕ → ℕ
notice_of Nothing k = 0
notice_of (Own class value) k = if class == k then value else 0
notice_of (Values r) k = value_at r.now.value k

-- the class of an own request is one
abbrev pub HasClass : Notice → Type 0
HasClass Nothing = Unit {0}
HasClass (Own class value) = class < 16
HasClass (Values r) = Unit {0}
