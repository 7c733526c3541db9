use Rattle.std.proofs.Common.{◌≡◌, ◌++◌, map, take}
use Rattle.nt_verify.specs.Sites.{isr_site}
use Rattle.nt_verify.proofs.site.add_isrs.Given as goal

abbrev pub invariant-loop-isr : goal.invariant-loop-isr
invariant-loop-isr l = l.sites.items ≡ l.fn.sites.items ++ map isr_site (take l.isr-index l.isrs)
