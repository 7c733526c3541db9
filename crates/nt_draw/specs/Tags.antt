-- The text of a picture: elements in elements, whose tags are closed in order, and texts, in which the bytes that mean
-- something in a tag are escaped. It is XML.
use Rattle.std.specs.Prelude.{◌≡◌, ℕ, ◌==◌, ◌||◌, ◌&&◌, nat_le, Bool, true, false, List, [], ◌∷◌, ◌++◌, codes}
use Rattle.std.specs.Prelude.{decimal, if◌then◌else◌}
use Rattle.std.specs.List.{flat_map}
use Rattle.nt_draw.specs.declared.tags.Tag.{Tag}
use Rattle.nt_draw.specs.declared.tags.Tag.TheVariants.{Svg, Title, Defs, Pattern, Group, Rect, Line, Path, Circle}
use Rattle.nt_draw.specs.declared.tags.Tag.TheVariants.{Text}
use Rattle.nt_draw.specs.declared.tags.Key.{Key}
use Rattle.nt_draw.specs.declared.tags.Key.TheVariants as key
use Rattle.nt_draw.specs.declared.tags.Piece.{Piece}
use Rattle.nt_draw.specs.declared.tags.Piece.TheVariants as piece

abbrev pub tag_name : Tag → List ℕ
tag_name Svg = codes "svg"
tag_name Title = codes "title"
tag_name Defs = codes "defs"
tag_name Pattern = codes "pattern"
tag_name Group = codes "g"
tag_name Rect = codes "rect"
tag_name Line = codes "line"
tag_name Path = codes "path"
tag_name Circle = codes "circle"
tag_name Text = codes "text"

abbrev pub key_name : Key → List ℕ
key_name key.CenterX = codes "cx"
key_name key.CenterY = codes "cy"
key_name key.Course = codes "d"
key_name key.Dashes = codes "stroke-dasharray"
key_name key.Fill = codes "fill"
key_name key.FontFamily = codes "font-family"
key_name key.FontSize = codes "font-size"
key_name key.FontWeight = codes "font-weight"
key_name key.Height = codes "height"
key_name key.Id = codes "id"
key_name key.Opacity = codes "opacity"
key_name key.PatternTransform = codes "patternTransform"
key_name key.PatternUnits = codes "patternUnits"
key_name key.Radius = codes "r"
key_name key.RoundedBy = codes "rx"
key_name key.Space = codes "xmlns"
key_name key.Stroke = codes "stroke"
key_name key.StrokeWidth = codes "stroke-width"
key_name key.TextAnchor = codes "text-anchor"
key_name key.Transform = codes "transform"
key_name key.ViewBox = codes "viewBox"
key_name key.Width = codes "width"
key_name key.X = codes "x"
key_name key.X1 = codes "x1"
key_name key.X2 = codes "x2"
key_name key.Y = codes "y"
key_name key.Y1 = codes "y1"
key_name key.Y2 = codes "y2"

-- ---- texts

-- the ampersand, less, greater, quotation mark and apostrophe by their names, a line end and other printable bytes as
-- they are, and a question mark for each other byte
abbrev pub escaped_byte : ℕ → List ℕ
escaped_byte b =
    if b == 38 then codes "&amp;" else if b == 60 then codes "&lt;" else if b == 62 then codes "&gt;"
    else if b == 34 then codes "&quot;" else if b == 39 then codes "&apos;"
    else if (b == 10) || (nat_le 32 b && nat_le b 126) then b ∷ [] else codes "?"

abbrev pub escaped : List ℕ → List ℕ
escaped text = flat_map escaped_byte text

abbrev pub piece_text : Piece → List ℕ
piece_text (piece.Text text) = text.now
piece_text (piece.Number n) = decimal n

abbrev pub pieces_text : List Piece → List ℕ
pieces_text pieces = flat_map piece_text pieces

-- ---- tags

-- a key and its value
pub record Attribute : Type 0 where
  pub key : Key
  pub value : List ℕ

abbrev pub attribute_text : Key → List ℕ → List ℕ
attribute_text k value = codes " " ++ key_name k ++ codes "=\"" ++ escaped value ++ codes "\""

abbrev pub attributes_text : List Attribute → List ℕ
attributes_text attributes = flat_map (λ a. attribute_text a.key a.value) attributes

abbrev pub begin_text : Tag → List ℕ
begin_text tag = codes "<" ++ tag_name tag

abbrev pub end_text : Tag → List ℕ
end_text tag = codes "</" ++ tag_name tag ++ codes ">"

-- a start tag without what finishes it
abbrev pub start_text : Tag → List Attribute → List ℕ
start_text tag attributes = begin_text tag ++ attributes_text attributes

-- ---- the grammar

-- what may stand in an element: nothing, a text, an element, or one of these behind another one
pub data IsContent : List ℕ → Type 0 where
  nothing : IsContent []
  text : (t : List ℕ) → IsContent (escaped t)
  empty : (tag : Tag) (attributes : List Attribute) → IsContent (start_text tag attributes ++ codes "/>")
  element : (tag : Tag) (attributes : List Attribute) (inner : List ℕ) → IsContent inner →
      IsContent (start_text tag attributes ++ codes ">" ++ inner ++ end_text tag)
  both : (a b : List ℕ) → IsContent a → IsContent b → IsContent (a ++ b)

-- a whole picture: the element `svg`, and a line end
pub record IsDocument (bytes : List ℕ) : Type 0 where
  pub attributes : List Attribute
  pub inner : List ℕ
  pub content : IsContent inner
  pub text : bytes ≡ start_text Svg attributes ++ codes ">" ++ inner ++ end_text Svg ++ codes "\n"

-- ---- a picture while it is written

-- its text, the elements that are open in it, the innermost first, and whether the last start tag is begun and not
-- finished
pub record Sheet : Type 0 where
  pub text : List ℕ
  pub opened : List Tag
  pub begun : Bool

abbrev pub tail_of : {A : Type 0} → List A → List A
tail_of [] = []
tail_of (x ∷ xs) = xs

-- the text with its last start tag finished
abbrev pub finish_of : Bool → List ℕ
finish_of b = if b then codes ">" else []

abbrev pub finished : Sheet → List ℕ
finished s = s.text ++ finish_of s.begun

-- what closes an element whose start tag is begun or finished
abbrev pub closed_by : Bool → Tag → List ℕ
closed_by true tag = codes "/>"
closed_by false tag = end_text tag

abbrev pub closing_by : Bool → List Tag → List ℕ
closing_by b [] = []
closing_by b (tag ∷ outer) = closed_by b tag

abbrev pub closing_text : Sheet → List ℕ
closing_text s = closing_by s.begun s.opened

-- in an element of this tag, behind this text, content begins and goes on
pub record IsInside (tag : Tag) (before bytes : List ℕ) : Type 0 where
  pub attributes : List Attribute
  pub inner : List ℕ
  pub content : IsContent inner
  pub text : bytes ≡ before ++ start_text tag attributes ++ codes ">" ++ inner

-- behind this text, a start tag of this tag is begun
pub record IsStarted (tag : Tag) (before bytes : List ℕ) : Type 0 where
  pub attributes : List Attribute
  pub text : bytes ≡ before ++ start_text tag attributes

-- the text of a picture in which these elements are open, all start tags finished
abbrev pub IsPart : List Tag → List ℕ → Type 0
IsPart [] bytes = IsInside Svg [] bytes
IsPart (tag ∷ outer) bytes = (before : List ℕ) × IsPart outer before × IsInside tag before bytes

-- the same with the start tag of the innermost one begun
abbrev pub IsBegun : List Tag → List ℕ → Type 0
IsBegun [] bytes = IsStarted Svg [] bytes
IsBegun (tag ∷ outer) bytes = (before : List ℕ) × IsPart outer before × IsStarted tag before bytes

abbrev pub Stands : Bool → List Tag → List ℕ → Type 0
Stands true opened bytes = IsBegun opened bytes
Stands false opened bytes = IsPart opened bytes

-- ---- what a writer of elements leaves open

-- an element of this tag is begun inside what was open
abbrev pub Begins : Tag → Sheet → Sheet → Type 0
Begins tag old new = (new.opened ≡ tag ∷ old.opened) × (new.begun ≡ true)

-- an attribute was added to the start tag that is begun
abbrev pub GoesOn : Sheet → Sheet → Type 0
GoesOn old new = (new.opened ≡ old.opened) × (new.begun ≡ true)

-- whole elements or texts were added to what is open
abbrev pub Keeps : Sheet → Sheet → Type 0
Keeps old new = new.opened ≡ old.opened

-- the innermost element is closed
abbrev pub Closes : Sheet → Sheet → Type 0
Closes old new = (new.opened ≡ tail_of old.opened) × (new.begun ≡ false)
