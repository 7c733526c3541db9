use Rattle.nt_text.proofs.SameBytes.{same_head}
use Rattle.nt_text.proofs.lines.behind_head.Goals as goal

-- where the first bytes are not the head, the bytes do not begin with it
pub returns-else-is_word-clause-none : goal.returns-else-is_word-clause-none
returns-else-is_word-clause-none c = λ rest e.
    let same = same_head c.args.head.now c.args.bytes.now _ rest c.split_at.ensures.front e in
    let differ = c.if-is_word.ensures in
    absurd cc
