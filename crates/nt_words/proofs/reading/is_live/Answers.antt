use Rattle.std.proofs.Common.{rules, tests, ◌∙◌, string_bytes}
use Rattle.std.proofs.lemmas.Iterator.{YieldsList-from_slice}
use Rattle.std.proofs.lemmas.Iterator.Search.{any_from_yields_List}
use Rattle.clap.proofs.WalkLemmas.{list_any-map}
use Rattle.nt_words.specs.Forms.{is_live_word}
use Rattle.nt_words.proofs.reading.is_live.Goals as goal

pub returns : goal.returns
returns c =
    any_from_yields_List (λ s. is_live_word (string_bytes s)) _ _ c.any.result c.any.ensures.ran (YieldsList-from_slice c.args.words.now cc)
    (λ x b q k. search (rules, tests))
    ∙ list_any-map is_live_word string_bytes c.args.words.now
