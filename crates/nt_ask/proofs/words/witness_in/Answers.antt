use Rattle.std.proofs.Common.{sym}
use Rattle.std.specs.Prelude.{string_bytes}
use Rattle.nt_ask.proofs.Forms.{four_words, three_words, too_few, too_many}
use Rattle.nt_ask.proofs.words.witness_in.Goals as goal

pub returns-in-len3-clause-value : goal.returns-in-len3-clause-value
returns-in-len3-clause-value c =
    let words = three_words string_bytes c.args.words.now c.first-item.result c.second-item.result c.third-item.result
    c.in-len3.len_at_least c.in-len3.len_below c.first-item.is c.second-item.is c.third-item.is in
    let first = c.as_bytes-in-len3.ensures.value in
    let second = c.as_bytes-in-len3-2.ensures.value in
    let third = c.as_bytes-in-len3-3.ensures.value in
    rw (words, ← first, ← second, ← third) c.witness_of_three.ensures.value

pub returns-in-len4-clause-value : goal.returns-in-len4-clause-value
returns-in-len4-clause-value c =
    let words = four_words string_bytes c.args.words.now c.first-item-then-words-lt5.result c.second-item-then-words-lt5.result
    c.third-item-then-words-lt5.result c.fourth-item.result c.in-len4.len_at_least c.in-len4.len_below c.first-item-then-words-lt5.is
    c.second-item-then-words-lt5.is c.third-item-then-words-lt5.is c.fourth-item.is in
    let first = c.as_bytes-in-len4.ensures.value in
    let second = c.as_bytes-in-len4-2.ensures.value in
    let third = c.as_bytes-in-len4-3.ensures.value in
    let fourth = c.as_bytes-in-len4-4.ensures.value in
    rw (words, ← first, ← second, ← third, ← fourth) c.witness_of_four.ensures.value

pub returns-in_default-clause-value : goal.returns-in_default-clause-value
returns-in_default-clause-value c = sym (too_few string_bytes c.args.words.now c.in_default.len_below)

pub returns-in_default-2-clause-value : goal.returns-in_default-2-clause-value
returns-in_default-2-clause-value c = sym (too_many string_bytes c.args.words.now c.in_default.len_at_least)
