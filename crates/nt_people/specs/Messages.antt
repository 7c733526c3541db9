-- What a message says of the place of what is wrong, and which name it may propose.
use Rattle.std.specs.Prelude.{◌≡◌, ℕ, ◌+◌, ◌-◌, ◌≤◌, Bool, ◌&&◌, ◌||◌, not, List, [], ◌∷◌, ◌++◌, length, drop, ◌==◌}
use Rattle.std.specs.Prelude.{Option, Some, None, IfSome, codes, decimal, get_or, map, max, nat_le, replicate}
use Rattle.std.specs.Prelude.{if◌then◌else◌, chars, encode_utf8_all, min, take}
use Rattle.std.specs.List.{count_by}
use Rattle.std.specs.Str.{is_utf8}
use Rattle.nt_text.specs.Lines.{lines}
use Rattle.nt_friendly.specs.Text.{line_numbered}
use Rattle.nt_people.specs.Near.{IsDeclared}
use Rattle.nt_people.specs.Titles.{title}
use Rattle.nt_people.specs.declared.fault.Fault.{Fault}
use Rattle.nt_people.specs.declared.quoting.TheConstants.{MOST_SHOWN}

-- the number lies between these two, or is one of them
abbrev pub is_between : ℕ → ℕ → ℕ → Bool
is_between least most n = nat_le least n && nat_le n most

-- ---- where

-- the number of the line that is told for a line of the strict text: of the friendly line from which that comes, and of
-- the line behind the last where it comes from none
abbrev pub told_line : List ℕ → List ℕ → ℕ → ℕ
told_line friendly numbers line = get_or numbers (line - 1) (length (lines friendly) + 1)

-- how a message begins: the file, the line and the column
abbrev pub heads : List ℕ → ℕ → ℕ → List ℕ
heads source line column = source ++ (58 ∷ decimal line ++ (58 ∷ decimal column ++ (58 ∷ 32 ∷ [])))

-- ---- the line

-- a byte of a character of several bytes that is not its first
abbrev pub is_behind_first : ℕ → Bool
is_behind_first b = nat_le 128 b && nat_le b 191

-- how many columns bytes take: one for each character of a text, and for each byte of what is no text
abbrev pub width : Bool → List ℕ → ℕ
width is_text bytes = if is_text then count_by (λ b. not (is_behind_first b)) bytes else length bytes

-- a character that a terminal does not show as one sign: a control character, one that turns the direction of writing
-- or has no width, or one that marks lines
abbrev pub is_unseen : ℕ → Bool
is_unseen c = nat_le c 31 || (is_between 127 159 c || (c == 1564 || (is_between 8203 8207 c ||
    (is_between 8232 8238 c || (is_between 8288 8303 c || (c == 65279 || is_between 65529 65531 c))))))

-- a character as it is shown: one that a terminal does not show is a blank
abbrev pub shown_char : ℕ → ℕ
shown_char c = if is_unseen c then 32 else c

-- a text as it is shown
abbrev pub shown_text : List ℕ → List ℕ
shown_text text = encode_utf8_all (map shown_char (chars text))

-- a byte of what is no text as it is shown: a control character is a blank, and a byte of no text is ?
abbrev pub shown_byte : ℕ → ℕ
shown_byte b = if nat_le b 31 || b == 127 then 32 else (if nat_le 128 b then 63 else b)

-- how many characters in front are not shown, where this column is marked
abbrev pub left_out : ℕ → ℕ
left_out column = if nat_le column 150 then 0 else column - 101

-- what is shown behind so many that are not
abbrev pub part : {A : Type 0} → ℕ → List A → List A
part from all = take MOST_SHOWN (drop from all)

-- that part of a line as it is shown
abbrev pub shown_part : Bool → ℕ → List ℕ → List ℕ
shown_part is_text from line = if is_text then encode_utf8_all (map shown_char (part from (chars line)))
    else map shown_byte (part from line)

-- how many characters a line has
abbrev pub char_count : Bool → List ℕ → ℕ
char_count is_text line = if is_text then length (chars line) else length line

-- two points where something is not shown
abbrev pub points_if : Bool → List ℕ
points_if is_cut = if is_cut then codes ".." else []

-- what is shown of a line behind so many characters, and two points where something behind it is not
unfoldable pub shown_from : Bool → ℕ → List ℕ → List ℕ
shown_from is_text from line = shown_part is_text from line ++
    points_if (not (nat_le (char_count is_text line - from) MOST_SHOWN))

-- a line as it is shown, where this column is marked
abbrev pub shown : Bool → ℕ → List ℕ → List ℕ
shown is_text column line = points_if (not (left_out column == 0)) ++ shown_from is_text (left_out column) line

-- a line behind the digits of its number, which end in the fifth column or later
abbrev pub quoted_line : List ℕ → List ℕ → ℕ → List ℕ
quoted_line digits line column = replicate (5 - length digits) 32 ++ (digits ++ (codes " | " ++
    (shown (is_utf8 line) column line ++ (10 ∷ []))))

-- how many blanks stand in front of a mark, as many as what is shown before it
abbrev pub blanks_before : ℕ → ℕ
blanks_before column = if left_out column == 0 then column - 1 else column + 1 - left_out column

-- how many columns are marked of so many, up to the end of what is shown
abbrev pub marks_of : ℕ → ℕ → ℕ
marks_of column marked = min marked (MOST_SHOWN + 1 - (column - left_out column))

-- a mark of so many columns below a line whose number has these digits
abbrev pub mark_line : List ℕ → ℕ → ℕ → List ℕ
mark_line digits column marked = replicate (max 5 (length digits)) 32 ++ (codes " | " ++
    (replicate (blanks_before column) 32 ++ (replicate (marks_of column marked) 94 ++ (10 ∷ []))))

-- a line, and below it a mark
unfoldable pub quoted : List ℕ → List ℕ → ℕ → ℕ → List ℕ
quoted digits line column marked = quoted_line digits line column ++ mark_line digits column marked

-- ---- the words

-- a word or a sentence; none of them has the sign ` in which names stand
abbrev pub plain_byte : ℕ → ℕ
plain_byte b = if b == 96 then 39 else b

abbrev pub plain : List ℕ → List ℕ
plain wording = map plain_byte wording

-- what is said of a name that may be meant
abbrev pub proposal : Option (List ℕ) → List ℕ
proposal None = []
proposal (Some name) = codes "; is `" ++ (name ++ codes "` meant?")

-- ---- a message

abbrev pub title_line : List ℕ → ℕ → ℕ → List ℕ → List ℕ
title_line source number column words = heads (shown_text source) number column ++ (plain words ++ (10 ∷ []))

abbrev pub last_line : List ℕ → Option (List ℕ) → List ℕ
last_line advice near = plain advice ++ (proposal near ++ (10 ∷ []))

-- the place, what is wrong, the line with a mark of so many columns, what to do, and a name
abbrev pub message_text : List ℕ → ℕ → List ℕ → List ℕ → ℕ → ℕ → List ℕ → List ℕ → Option (List ℕ) → List ℕ
message_text source number digits line column marked words advice near =
    title_line source number column words ++ (quoted digits line column marked ++ last_line advice near)

-- a message on what is wrong with a line of the strict text, by the friendly text, the numbers of its lines and the
-- strict text
pub record IsMessage (source friendly numbers : List ℕ) (line : ℕ) (said : Fault) (text message : List ℕ) : Type 0 where
  pub column : ℕ
  pub marked : ℕ
  pub advice : List ℕ
  pub near : Option (List ℕ)
  pub least : 1 ≤ column
  pub some : 1 ≤ marked
  -- the mark stands below the line, and at most one column behind it
  pub within : let told = line_numbered friendly (told_line friendly numbers line) in
      column + marked ≤ width (is_utf8 told) told + 2
  -- the message has these parts
  pub bytes : let number = told_line friendly numbers line in
      let told = line_numbered friendly number in
      message ≡ message_text source number (decimal number) told column marked (title said) advice near
  -- the name stands in the text
  pub known : IfSome near (λ name. IsDeclared name text)
