-- What a step of writing leaves of a picture while it is written.
use Rattle.std.proofs.Common.{◌≡◌, ◌∙◌, ℕ, Bool, List, [], ◌∷◌, ◌++◌, Option, Some, true, false, sym, ap, subst, append_assoc, append-nil, reverse}
use Rattle.std.proofs.Common.{◌<◌, ◌-◌, get_or, length}
use Rattle.std.proofs.lemmas.List.{length-reverse, reverse-append}
use Rattle.std.specs.Option.{option_to_list}
use Rattle.std.specs.Prelude.{codes}
use Rattle.nt_draw.specs.declared.tags.Key.{Key}
use Rattle.nt_draw.specs.declared.tags.Tag.{Tag}
use Rattle.nt_draw.specs.declared.tags.Tag.TheVariants.{Svg}
use Rattle.nt_draw.specs.Tags.{Attribute, IsBegun, IsContent, IsDocument, IsInside, IsPart, IsStarted, Stands, attribute_text}
use Rattle.nt_draw.specs.Tags.{attributes_text, begin_text, closed_by, closing_by, end_text, escaped, nothing, text, empty, element}
use Rattle.nt_draw.specs.Tags.{both, start_text, tail_of}

-- attributes and one more behind them
attributes_more : (attributes : List Attribute) (a : Attribute) →
    attributes_text (attributes ++ a ∷ []) ≡ attributes_text attributes ++ attribute_text a.key a.value
attributes_more [] a = append-nil (attribute_text a.key a.value)
attributes_more (x ∷ xs) a =
    ap (λ (t : List ℕ). attribute_text x.key x.value ++ t) (attributes_more xs a)
    ∙ sym (append_assoc (attribute_text x.key x.value) (attributes_text xs) (attribute_text a.key a.value))

-- a start tag that is begun is finished
inside_begins : (tag : Tag) (before bytes : List ℕ) → IsStarted tag before bytes → IsInside tag before (bytes ++ codes ">")
inside_begins tag before bytes s =
    record {
      attributes = s.attributes;
      inner = [];
      content = nothing;
      text = ap (λ (t : List ℕ). t ++ codes ">") s.text ∙ sym (append-nil (before ++ start_text tag s.attributes ++ codes ">"));
    }

-- so the start tag of the innermost element that is open is finished
pub part_begins : (opened : List Tag) (bytes : List ℕ) → IsBegun opened bytes → IsPart opened (bytes ++ codes ">")
part_begins [] bytes s = inside_begins Svg [] bytes s
part_begins (tag ∷ outer) bytes s = (s.0, s.1, inside_begins tag s.0 bytes s.2)

-- a start tag is begun
pub element_begins : (tag : Tag) (opened : List Tag) (bytes : List ℕ) → IsPart opened bytes → IsBegun (tag ∷ opened) (bytes ++ begin_text tag)
element_begins tag opened bytes part =
    (bytes, part, record { attributes = []; text = ap (λ (t : List ℕ). bytes ++ t) (sym (append-nil (begin_text tag))) })

-- an attribute is added
started_more : (tag : Tag) (before bytes : List ℕ) (k : Key) (v : List ℕ) → IsStarted tag before bytes →
    IsStarted tag before (bytes ++ attribute_text k v)
started_more tag before bytes k v s =
    record {
      attributes = s.attributes ++ record { key = k; value = v } ∷ [];
      text =
          ap (λ (t : List ℕ). t ++ attribute_text k v) s.text
          ∙ regroup before (begin_text tag) (attributes_text s.attributes) (attribute_text k v)
          ∙ ap (λ (t : List ℕ). before ++ (begin_text tag ++ t)) (sym (attributes_more s.attributes (record { key = k; value = v })));
    }
  where
    regroup : (a b c d : List ℕ) → (a ++ (b ++ c)) ++ d ≡ a ++ (b ++ (c ++ d))
    regroup a b c d = simp append_assoc

-- so an attribute is added to the start tag of the innermost element
pub begun_more : (opened : List Tag) (bytes : List ℕ) (k : Key) (v : List ℕ) → IsBegun opened bytes → IsBegun opened (bytes ++ attribute_text k v)
begun_more [] bytes k v s = started_more Svg [] bytes k v s
begun_more (tag ∷ outer) bytes k v s = (s.0, s.1, started_more tag s.0 bytes k v s.2)

-- content is added
inside_more : (tag : Tag) (before bytes c : List ℕ) → IsContent c → IsInside tag before bytes → IsInside tag before (bytes ++ c)
inside_more tag before bytes c content s =
    record {
      attributes = s.attributes;
      inner = s.inner ++ c;
      content = both s.inner c s.content content;
      text =
          ap (λ (t : List ℕ). t ++ c) s.text ∙ regroup before (start_text tag s.attributes) (codes ">") s.inner c;
    }
  where
    regroup : (a b d i e : List ℕ) → (a ++ b ++ d ++ i) ++ e ≡ a ++ b ++ d ++ (i ++ e)
    regroup a b d i e = simp append_assoc

-- so content is added to the innermost element that is open
pub part_more : (opened : List Tag) (bytes c : List ℕ) → IsContent c → IsPart opened bytes → IsPart opened (bytes ++ c)
part_more [] bytes c content s = inside_more Svg [] bytes c content s
part_more (tag ∷ outer) bytes c content s = (s.0, s.1, inside_more tag s.0 bytes c content s.2)

-- an element whose start tag is finished is closed
part_closes : (tag : Tag) (outer : List Tag) (bytes : List ℕ) → IsPart (tag ∷ outer) bytes → IsPart outer (bytes ++ end_text tag)
part_closes tag outer bytes s =
    let inside : IsInside tag s.0 bytes = s.2 in
    let whole : IsPart outer (s.0 ++ (start_text tag inside.attributes ++ codes ">" ++ inside.inner ++ end_text tag)) =
    part_more outer s.0 _ (element tag inside.attributes inside.inner inside.content) s.1 in
    rw (inside.text, regroup s.0 (start_text tag inside.attributes) (codes ">") inside.inner (end_text tag)) whole
  where
    regroup : (a b d i e : List ℕ) → (a ++ b ++ d ++ i) ++ e ≡ a ++ (b ++ d ++ i ++ e)
    regroup a b d i e = simp append_assoc

-- an element whose start tag is only begun is closed as an empty one
begun_closes : (tag : Tag) (outer : List Tag) (bytes : List ℕ) → IsBegun (tag ∷ outer) bytes → IsPart outer (bytes ++ codes "/>")
begun_closes tag outer bytes s =
    let started : IsStarted tag s.0 bytes = s.2 in
    let whole : IsPart outer (s.0 ++ (start_text tag started.attributes ++ codes "/>")) =
    part_more outer s.0 _ (empty tag started.attributes) s.1 in
    rw (started.text, append_assoc s.0 (start_text tag started.attributes) (codes "/>")) whole

-- the innermost element is closed, whether its start tag is begun or finished
element_closes : (begun : Bool) (tag : Tag) (outer : List Tag) (bytes : List ℕ) → Stands begun (tag ∷ outer) bytes →
    IsPart outer (bytes ++ closed_by begun tag)
element_closes true tag outer bytes s = begun_closes tag outer bytes s
element_closes false tag outer bytes s = part_closes tag outer bytes s

-- the innermost of the elements that are open, kept last, is the first of the list
last_first : (old new : List Tag) (o : Option Tag) (tag : Tag) → old ≡ new ++ option_to_list o → o ≡ Some tag → reverse old ≡ tag ∷ reverse new
last_first old new o tag popped is =
    ap reverse (popped ∙ ap (λ (t : Option Tag). new ++ option_to_list t) is) ∙ reverse-append new (tag ∷ [])

-- so where the elements that are open are kept with the innermost last
pub innermost_closes : (begun : Bool) (old new : List Tag) (o : Option Tag) (tag : Tag) (bytes : List ℕ) → old ≡ new ++ option_to_list o →
    o ≡ Some tag → Stands begun (reverse old) bytes → IsPart (reverse new) (bytes ++ closed_by begun tag)
innermost_closes begun old new o tag bytes popped is s =
    element_closes begun tag (reverse new) bytes (subst (λ (opened : List Tag). Stands begun opened bytes) (last_first old new o tag popped is) s)

-- what is left open
pub outer_left : (old new : List Tag) (o : Option Tag) (tag : Tag) → old ≡ new ++ option_to_list o → o ≡ Some tag → reverse new ≡ tail_of (reverse old)
outer_left old new o tag popped is = ap tail_of (sym (last_first old new o tag popped is))

-- what closed it is what closes the innermost element
pub closed_text : (begun : Bool) (old new : List Tag) (o : Option Tag) (tag : Tag) → old ≡ new ++ option_to_list o → o ≡ Some tag →
    closed_by begun tag ≡ closing_by begun (reverse old)
closed_text begun old new o tag popped is = ap (closing_by begun) (sym (last_first old new o tag popped is))

-- so where the last one was read before it was taken
pub last_taken : (opened : List Tag) (o : Option Tag) (n count : ℕ) (tag : Tag) → n ≡ length opened → count ≡ n →
    tag ≡ get_or opened (count - 1) tag → ((d : Tag) → 0 < n → o ≡ Some (get_or opened (n - 1) d)) → 0 < length (reverse opened) → o ≡ Some tag
last_taken opened o n count tag whole counted read taken some =
    let least : 0 < n = rw (whole, sym (length-reverse opened)) some in
    taken tag least ∙ ap Some (sym (read ∙ ap (λ (k : ℕ). get_or opened (k - 1) tag) counted))

-- the picture is whole
pub picture_closes : (bytes : List ℕ) → IsPart [] bytes → IsDocument (bytes ++ codes "</svg>\n")
picture_closes bytes s =
    record {
      attributes = s.attributes;
      inner = s.inner;
      content = s.content;
      text =
          ap (λ (t : List ℕ). t ++ codes "</svg>\n") s.text
          ∙ sym (append_assoc (start_text Svg s.attributes ++ codes ">" ++ s.inner) (end_text Svg) (codes "\n"));
    }

-- an attribute is added where the start tag is known to be begun
pub stands_more : (begun : Bool) (opened : List Tag) (bytes next : List ℕ) (k : Key) (v : List ℕ) → begun ≡ true →
    next ≡ bytes ++ attribute_text k v → Stands begun opened bytes → Stands begun opened next
stands_more true opened bytes next k v is more s = rw more (begun_more opened bytes k v s)
stands_more false opened bytes next k v is more s = absurd cc

-- a text is added where the start tag is known to be finished
pub stands_text : (begun : Bool) (opened : List Tag) (bytes next t : List ℕ) → begun ≡ false → next ≡ bytes ++ escaped t →
    Stands begun opened bytes → Stands begun opened next
stands_text false opened bytes next t is more s = rw more (part_more opened bytes (escaped t) (text t) s)
stands_text true opened bytes next t is more s = absurd cc
