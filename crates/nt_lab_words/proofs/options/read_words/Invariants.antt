use Rattle.std.proofs.Common.{◌≡◌, drop, map, string_bytes}
use Rattle.nt_lab_words.specs.Options.{IsOptions, read_words, start}
use Rattle.nt_lab_words.proofs.options.read_words.Given as goal

-- what was read and what is left is all of it
abbrev pub invariant-loop-word : goal.invariant-loop-word
invariant-loop-word l =
    (read_words start (map string_bytes l.words) ≡ read_words l.reading (map string_bytes (drop l.word-index l.words))) × IsOptions l.reading.options
