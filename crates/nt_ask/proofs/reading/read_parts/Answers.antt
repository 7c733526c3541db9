use Rattle.std.proofs.Common.{Err, Option, Result, refl, subst, ℕ}
use Rattle.nt_ask.specs.declared.reading.AskRefusal.{AskRefusal}
use Rattle.nt_ask.specs.declared.reading.Asked.{Asked}
use Rattle.nt_ask.specs.Reading.{GivesRead, two_parts}
use Rattle.nt_ask.proofs.Parts.{line_within}
use Rattle.nt_ask.proofs.reading.read_parts.Goals as goal

abbrev failed : AskRefusal → Result Asked AskRefusal
failed r = Err r

pub both_parts-requires-clause-line : goal.both_parts-requires-clause-line
both_parts-requires-clause-line c = line_within _ c.args.bytes.now c.in-Some.split.at c.in-Some.split.line c.requires c.in-Some.ensures.some

pub returns-in-None-clause-exact : goal.returns-in-None-clause-exact
returns-in-None-clause-exact c =
    subst (λ (o : Option (ℕ × ℕ)). GivesRead (failed c.script_alone.result) (two_parts o c.args.bytes.now)) c.in-None.ensures.exact
    (c.script_alone.ensures (failed c.script_alone.result) refl)
