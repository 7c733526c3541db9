-- The numbers and names of what is wrong with a line, as the program writes them.
use Rattle.std.specs.Prelude.{ℕ, List, codes}
use Rattle.nt_text.specs.Kinds.{kind_number, kind_name}
use Rattle.nt_expect.specs.declared.refusals.ExpectKind.{ExpectKind}
use Rattle.nt_expect.specs.declared.refusals.ExpectKind.TheVariants.{Line, TooMany}

abbrev pub expect_number : ExpectKind → ℕ
expect_number (Line kind) = kind_number kind
expect_number TooMany = 10

abbrev pub expect_name : ExpectKind → List ℕ
expect_name (Line kind) = kind_name kind
expect_name TooMany = codes "TooMany expectations"
