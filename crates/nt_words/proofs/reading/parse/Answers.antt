use Rattle.std.proofs.Common.{◌∙◌, sym, ap, subst, map, string_bytes}
use Rattle.clap.specs.Simple.{App, is_simple, matches_of}
use Rattle.clap.specs.Kinds.{HasKind}
use Rattle.clap.specs.Faults.{fault_of, is_simple_and_free}
use Rattle.nt_words.specs.Parser.{ntrun_app}
use Rattle.nt_words.proofs.Parser.{app_is, is_exact, is_walked}
use Rattle.nt_words.proofs.Refused.{refused_by}
use Rattle.nt_words.proofs.reading.parse.Goals as goal

pub returns-in-Ok-clause-taken : goal.returns-in-Ok-clause-taken
returns-in-Ok-clause-taken c =
    ap (λ (a : App). fault_of a (map string_bytes c.args.words.now)) (sym c.in_ok-parser.ensures)
    ∙ c.in-Ok.ensures.kinds (ap is_simple_and_free (c.in_ok-parser.ensures ∙ app_is) ∙ is_exact)

pub returns-in-Ok-clause-rows : goal.returns-in-Ok-clause-rows
returns-in-Ok-clause-rows c =
    (c.in-Ok.ensures.matches (ap is_simple (c.in_ok-parser.ensures ∙ app_is) ∙ is_walked)).0
    ∙ ap (λ (a : App). matches_of a (map string_bytes c.args.words.now)) c.in_ok-parser.ensures

pub returns-in-Err-clause-refused : goal.returns-in-Err-clause-refused
returns-in-Err-clause-refused c =
    let ws = map string_bytes c.args.words.now in
    let has = c.in-Err.ensures.kinds (ap is_simple_and_free (c.in_ok-parser.ensures ∙ app_is) ∙ is_exact) in
    let here = subst (λ (a : App). HasKind (fault_of a ws) c.in-Err.error) c.in_ok-parser.ensures has in
    refused_by c.refusal.result c.in-Err.error (fault_of ntrun_app ws) (λ k. c.refusal.ensures (c.kind.ensures ∙ k)) here
