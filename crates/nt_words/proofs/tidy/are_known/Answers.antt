use Rattle.std.proofs.Common.{rules, tests, ◌∙◌, sym, string_bytes}
use Rattle.std.proofs.lemmas.Iterator.{YieldsList-from_slice}
use Rattle.std.proofs.lemmas.Iterator.Search.{all_from_yields_List}
use Rattle.std.proofs.lemmas.List.Folds.{list_all-map}
use Rattle.nt_words.specs.Tidy.{is_known}
use Rattle.nt_words.proofs.tidy.are_known.Goals as goal

pub returns : goal.returns
returns c =
    all_from_yields_List (λ s. is_known (string_bytes s)) _ _ c.all.result c.all.ensures.ran (YieldsList-from_slice c.args.words.now cc)
    (λ x b q k. search (rules, tests))
    ∙ sym (list_all-map is_known string_bytes c.args.words.now)
