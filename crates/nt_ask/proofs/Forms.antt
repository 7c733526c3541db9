-- Words that are taken as a form are one of its spellings, and each spelling is taken as the form.
use Rattle.std.proofs.Common.{◌≡◌, ◌∙◌, ◌≤◌, ◌<◌, ◌^◌, ℕ, Bool, true, false, cond, refl, sym, ap, subst, arith, lit<, List, [], ◌∷◌, ◌++◌, length, take, drop}
use Rattle.std.proofs.Common.{Option, Some, None, get_or, map, nat_le}
use Rattle.std.specs.Prelude.{IfSome, decimal, option_and_then}
use Rattle.std.specs.Option.{option_or}
use Rattle.std.specs.Str.{bytes_eq}
use Rattle.std.proofs.lemmas.List.{take-append-drop}
use Rattle.std.proofs.lemmas.Slice.Eq.{bytes_eq-Decides}
use Rattle.nt_text.specs.Fields.{number_up_to}
use Rattle.nt_text.proofs.Decimals.{number_up_to_takes, number_up_to_again}
use Rattle.nt_ask.specs.declared.words.TheConstants.{LEAST_STATES, MOST_NUMBER, MOST_STATES, USUAL_STATES}
use Rattle.nt_ask.specs.declared.words.Form.{Form}
use Rattle.nt_ask.specs.declared.words.Form.TheVariants.{Ask, Witness}
use Rattle.nt_ask.specs.Words.{IsAsk, IsForm, IsNumber, IsStates, IsWitness, alone, apart, apart_before, apart_behind, apart_between, apart_first, apart_last}
use Rattle.nt_ask.specs.Words.{ask_by, ask_in, ask_word, behind_equals, form_of, joined, joined_before, joined_behind, joined_between, joined_first}
use Rattle.nt_ask.specs.Words.{joined_last, number_of, number_within, option_equals, option_with, option_word, states_of, witness_by, witness_in, witness_with}
use Rattle.nt_ask.specs.Words.{witness_word, without}

-- ---- numbers

-- what is found of a number that is not too great
found : (least m n : ℕ) (b : Bool) → nat_le least m ≡ b → cond b (Some m) None ≡ Some n → (m ≡ n) × (least ≤ n)
found least m n true le e =
    let same : m ≡ n = cc in
    let low : least ≤ m = search (arith, le) in
    (same, subst (λ (k : ℕ). least ≤ k) same low)
found least m n false le e = absurd cc

-- a value that gives a number is that number in decimal, within the bounds
within_takes : (least most : ℕ) (value : List ℕ) (n : ℕ) → most < 2 ^ 64 → number_within least most value ≡ Some n →
    (value ≡ decimal n) × ((least ≤ n) × (n ≤ most))
within_takes least most value n lt e = go (number_up_to most value) refl e
  where
    go : (o : Option ℕ) → number_up_to most value ≡ o → option_and_then (λ n. cond (nat_le least n) (Some n) None) o ≡ Some n →
        (value ≡ decimal n) × ((least ≤ n) × (n ≤ most))
    go None is e = absurd cc
    go (Some m) is e =
        let f = found least m n (nat_le least m) refl e in
        let t = number_up_to_takes most value n lt (is ∙ ap (λ (k : ℕ). Some k) f.0) in (t.0, (f.1, t.1))

-- a number within the bounds is given by its decimal digits
within_again : (least most n : ℕ) → most < 2 ^ 64 → least ≤ n → n ≤ most → number_within least most (decimal n) ≡ Some n
within_again least most n lt low high =
    let le : nat_le least n ≡ true = search (arith, low) in
    rw (number_up_to_again most n lt high) (rw le refl)

-- a value that gives a number of states is that number in decimal, in its range
states_takes : (value : List ℕ) (n : ℕ) → states_of value ≡ Some n → (value ≡ decimal n) × IsStates n
states_takes value n e = within_takes LEAST_STATES MOST_STATES value n (lit< tt) e

-- a number of states in its range is given by its decimal digits
states_again : (n : ℕ) → IsStates n → states_of (decimal n) ≡ Some n
states_again n h = within_again LEAST_STATES MOST_STATES n (lit< tt) h.0 h.1

-- a value that gives the number of an expectation is that number in decimal, in its range
number_takes : (value : List ℕ) (i : ℕ) → number_of value ≡ Some i → (value ≡ decimal i) × IsNumber i
number_takes value i e = within_takes 1 MOST_NUMBER value i (lit< tt) e

-- the number of an expectation in its range is given by its decimal digits
number_again : (i : ℕ) → IsNumber i → number_of (decimal i) ≡ Some i
number_again i h = within_again 1 MOST_NUMBER i (lit< tt) h.0 h.1

-- ---- the option

-- what a word is that has the option and its value
equals_takes : (word value : List ℕ) → behind_equals word ≡ Some value → word ≡ option_equals ++ value
equals_takes word value e = go (bytes_eq (take (length option_equals) word) option_equals) refl e
  where
    go : (b : Bool) → bytes_eq (take (length option_equals) word) option_equals ≡ b → cond b (Some (drop (length option_equals) word)) None ≡ Some value →
        word ≡ option_equals ++ value
    go true is e =
        let front : take (length option_equals) word ≡ option_equals = (bytes_eq-Decides (take (length option_equals) word) option_equals).0 is in
        let back : drop (length option_equals) word ≡ value = cc in
        sym (take-append-drop (length option_equals) word)
        ∙ ap (λ (f : List ℕ). f ++ drop (length option_equals) word) front
        ∙ ap (λ (v : List ℕ). option_equals ++ v) back
    go false is e = absurd cc

-- a word that gives a number is the option, `=` and the number
joined_takes : (word : List ℕ) (n : ℕ) → joined word ≡ Some n → (word ≡ option_equals ++ decimal n) × IsStates n
joined_takes word n e = go (behind_equals word) refl e
  where
    go : (o : Option (List ℕ)) → behind_equals word ≡ o → option_and_then states_of o ≡ Some n → (word ≡ option_equals ++ decimal n) × IsStates n
    go None is e = absurd cc
    go (Some value) is e =
        let t = states_takes value n e in (equals_takes word value is ∙ ap (λ (v : List ℕ). option_equals ++ v) t.0, t.1)

-- two words that give a number are the option and the number
apart_takes : (word value : List ℕ) (n : ℕ) → apart word value ≡ Some n → (word ≡ option_word) × (value ≡ decimal n) × IsStates n
apart_takes word value n e = go (bytes_eq word option_word) refl e
  where
    go : (b : Bool) → bytes_eq word option_word ≡ b → cond b (states_of value) None ≡ Some n → (word ≡ option_word) × (value ≡ decimal n) × IsStates n
    go true is e = let t = states_takes value n e in ((bytes_eq-Decides word option_word).0 is, t.0, t.1)
    go false is e = absurd cc

-- ---- words that are taken

-- one of two is it
either : (P : Type 0) (a b : Option Form) (f : Form) → option_or a b ≡ Some f → (a ≡ Some f → P) → (b ≡ Some f → P) → P
either P None b f e left right = right e
either P (Some x) b f e left right = left e

-- a word that gives a form by `ask` is its word, and there is a number of states
ask_takes : (word : List ℕ) (o : Option ℕ) (f : Form) → ask_by word o ≡ Some f → (n : ℕ) × (word ≡ ask_word) × (o ≡ Some n) × (f ≡ Ask n)
ask_takes word o f e = go (bytes_eq word ask_word) refl e
  where
    given : (o : Option ℕ) → option_and_then (λ n. Some (Ask n)) o ≡ Some f → (n : ℕ) × (o ≡ Some n) × (f ≡ Ask n)
    given None e = absurd cc
    given (Some m) e = (m, refl, cc)

    go : (b : Bool) → bytes_eq word ask_word ≡ b → cond b (option_and_then (λ n. Some (Ask n)) o) None ≡ Some f →
        (n : ℕ) × (word ≡ ask_word) × (o ≡ Some n) × (f ≡ Ask n)
    go true is e = let g = given o e in (g.0, (bytes_eq-Decides word ask_word).0 is, g.1, g.2)
    go false is e = absurd cc

-- what a word and a value are that give a form by `witness`
record IsTaken (word value : List ℕ) (o : Option ℕ) (f : Form) : Type 0 where
  number : ℕ
  states : ℕ
  is_word : word ≡ witness_word
  is_value : value ≡ decimal number
  within : IsNumber number
  given : o ≡ Some states
  form : f ≡ Witness number states

-- two numbers that give a form are both given
both_given : (p o : Option ℕ) (f : Form) → witness_with p o ≡ Some f → (i : ℕ) × (n : ℕ) × (p ≡ Some i) × (o ≡ Some n) × (f ≡ Witness i n)
both_given None o f e = absurd cc
both_given (Some i) None f e = absurd cc
both_given (Some i) (Some n) f e = (i, n, refl, refl, cc)

-- a word and a value that give a form by `witness` are its word and a number, and there is a number of states
witness_takes : (word value : List ℕ) (o : Option ℕ) (f : Form) → witness_by word value o ≡ Some f → IsTaken word value o f
witness_takes word value o f e = go (bytes_eq word witness_word) refl e
  where
    go : (b : Bool) → bytes_eq word witness_word ≡ b → cond b (witness_with (number_of value) o) None ≡ Some f → IsTaken word value o f
    go true is e =
        let g = both_given (number_of value) o f e in
        let p = number_takes value g.0 g.2 in
        record {
          number = g.0;
          states = g.1;
          is_word = (bytes_eq-Decides word witness_word).0 is;
          is_value = p.0;
          within = p.1;
          given = g.3;
          form = g.4;
        }
    go false is e = absurd cc

-- words that are spelled as `ask` are this form, if it is `ask`
as_ask : (words : List (List ℕ)) (n : ℕ) (f : Form) → f ≡ Ask n → IsAsk words n → IsForm words f
as_ask words n f is h = subst (λ (g : Form). IsForm words g) (sym is) h

-- words that are spelled as `witness` are this form, if it is `witness`
as_witness : (words : List (List ℕ)) (i n : ℕ) (f : Form) → f ≡ Witness i n → IsWitness words i n → IsForm words f
as_witness words i n f is h = subst (λ (g : Form). IsForm words g) (sym is) h

-- words that are taken as `ask` are spelled so
ask_is : (words : List (List ℕ)) (f : Form) → ask_in words ≡ Some f → IsForm words f
ask_is [] f e = absurd cc
ask_is (a ∷ []) f e = let t = ask_takes a (Some USUAL_STATES) f e in as_ask (a ∷ []) t.0 f t.3 (alone (cc (t.1)) (cc (t.2)))
ask_is (a ∷ b ∷ []) f e =
    either (IsForm (a ∷ b ∷ []) f) (ask_by a (joined b)) (ask_by b (joined a)) f e
    (λ h. let t = ask_takes a (joined b) f h in let j = joined_takes b t.0 t.2 in as_ask (a ∷ b ∷ []) t.0 f t.3 (joined_behind (cc (t.1, j.0)) j.1))
    (λ h. let t = ask_takes b (joined a) f h in let j = joined_takes a t.0 t.2 in as_ask (a ∷ b ∷ []) t.0 f t.3 (joined_before (cc (t.1, j.0)) j.1))
ask_is (a ∷ b ∷ c ∷ []) f e =
    either (IsForm (a ∷ b ∷ c ∷ []) f) (ask_by a (apart b c)) (ask_by c (apart a b)) f e
    (λ h. let t = ask_takes a (apart b c) f h in let p = apart_takes b c t.0 t.2 in
    as_ask (a ∷ b ∷ c ∷ []) t.0 f t.3 (apart_behind (cc (t.1, p.0, p.1)) p.2))
    (λ h. let t = ask_takes c (apart a b) f h in let p = apart_takes a b t.0 t.2 in
    as_ask (a ∷ b ∷ c ∷ []) t.0 f t.3 (apart_before (cc (t.1, p.0, p.1)) p.2))
ask_is (a ∷ b ∷ c ∷ d ∷ more) f e = absurd cc

-- one of three is it
one_of_three : (P : Type 0) (a b c : Option Form) (f : Form) → option_or a (option_or b c) ≡ Some f → (a ≡ Some f → P) → (b ≡ Some f → P) →
    (c ≡ Some f → P) → P
one_of_three P None b c f e first second third = either P b c f e second third
one_of_three P (Some x) b c f e first second third = first e

-- three words that are taken as `witness` are spelled so
three_are : (a b c : List ℕ) (f : Form) → witness_in (a ∷ b ∷ c ∷ []) ≡ Some f → IsForm (a ∷ b ∷ c ∷ []) f
three_are a b c f e =
    let words = a ∷ b ∷ c ∷ [] in
    one_of_three (IsForm words f) (witness_by a b (joined c)) (witness_by a c (joined b)) (witness_by b c (joined a)) f e
    (λ h. let t = witness_takes a b (joined c) f h in let j = joined_takes c t.states t.given in
    as_witness words t.number t.states f t.form (joined_last (cc (t.is_word, t.is_value, j.0)) t.within j.1))
    (λ h. let t = witness_takes a c (joined b) f h in let j = joined_takes b t.states t.given in
    as_witness words t.number t.states f t.form (joined_between (cc (t.is_word, t.is_value, j.0)) t.within j.1))
    (λ h. let t = witness_takes b c (joined a) f h in let j = joined_takes a t.states t.given in
    as_witness words t.number t.states f t.form (joined_first (cc (t.is_word, t.is_value, j.0)) t.within j.1))

-- four words that are taken as `witness` are spelled so
four_are : (a b c d : List ℕ) (f : Form) → witness_in (a ∷ b ∷ c ∷ d ∷ []) ≡ Some f → IsForm (a ∷ b ∷ c ∷ d ∷ []) f
four_are a b c d f e =
    let words = a ∷ b ∷ c ∷ d ∷ [] in
    one_of_three (IsForm words f) (witness_by a b (apart c d)) (witness_by a d (apart b c)) (witness_by c d (apart a b)) f e
    (λ h. let t = witness_takes a b (apart c d) f h in let p = apart_takes c d t.states t.given in
    as_witness words t.number t.states f t.form (apart_last (cc (t.is_word, t.is_value, p.0, p.1)) t.within p.2))
    (λ h. let t = witness_takes a d (apart b c) f h in let p = apart_takes b c t.states t.given in
    as_witness words t.number t.states f t.form (apart_between (cc (t.is_word, t.is_value, p.0, p.1)) t.within p.2))
    (λ h. let t = witness_takes c d (apart a b) f h in let p = apart_takes a b t.states t.given in
    as_witness words t.number t.states f t.form (apart_first (cc (t.is_word, t.is_value, p.0, p.1)) t.within p.2))

-- words that are taken as `witness` are spelled so
witness_is : (words : List (List ℕ)) (f : Form) → witness_in words ≡ Some f → IsForm words f
witness_is [] f e = absurd cc
witness_is (a ∷ []) f e = absurd cc
witness_is (a ∷ b ∷ []) f e =
    let t = witness_takes a b (Some USUAL_STATES) f e in
    as_witness (a ∷ b ∷ []) t.number t.states f t.form (without (cc (t.is_word, t.is_value)) t.within (cc (t.given)))
witness_is (a ∷ b ∷ c ∷ []) f e = three_are a b c f e
witness_is (a ∷ b ∷ c ∷ d ∷ []) f e = four_are a b c d f e
witness_is (a ∷ b ∷ c ∷ d ∷ g ∷ more) f e = absurd cc

-- words that are taken as a form are it
form_takes : (words : List (List ℕ)) (f : Form) → form_of words ≡ Some f → IsForm words f
form_takes words f e = either (IsForm words f) (ask_in words) (witness_in words) f e (ask_is words f) (witness_is words f)

-- what is answered is a form
pub is_form : (words : List (List ℕ)) (o : Option Form) → o ≡ form_of words → IfSome o (IsForm words)
is_form words None e = tt
is_form words (Some f) e = form_takes words f (sym e)

-- ---- spellings are taken

-- `ask` as it is spelled is taken
ask_again : (words : List (List ℕ)) (n : ℕ) → IsAsk words n → ask_in words ≡ Some (Ask n)
ask_again words n (alone is usual) = rw (is, usual) refl
ask_again words n (apart_behind is h) = rw is (rw (states_again n h) refl)
ask_again words n (apart_before is h) = rw is (rw (states_again n h) refl)
ask_again words n (joined_behind is h) = rw is (rw (states_again n h) refl)
ask_again words n (joined_before is h) = rw is (rw (states_again n h) refl)

-- no word is `ask` without a number of states
no_states : (word : List ℕ) → ask_by word None ≡ None
no_states word = go (bytes_eq word ask_word)
  where
    go : (b : Bool) → cond b (option_and_then (λ n. Some (Ask n)) None) None ≡ None
    go true = refl
    go false = refl

-- `witness` as it is spelled is no `ask`
no_ask : (words : List (List ℕ)) (i n : ℕ) → IsWitness words i n → ask_in words ≡ None
no_ask words i n (without is at usual) = rw is (no_states (decimal i))
no_ask words i n (apart_first is at h) = rw is refl
no_ask words i n (apart_between is at h) = rw is refl
no_ask words i n (apart_last is at h) = rw is refl
no_ask words i n (joined_first is at h) = rw is (no_states (decimal i))
no_ask words i n (joined_between is at h) = rw is (no_states (decimal i))
no_ask words i n (joined_last is at h) = rw is (no_states (option_with n))

-- `witness` as it is spelled is taken
witness_again : (words : List (List ℕ)) (i n : ℕ) → IsWitness words i n → witness_in words ≡ Some (Witness i n)
witness_again words i n (without is at usual) = rw (is, usual) (rw (number_again i at) refl)
witness_again words i n (apart_first is at h) = rw is (rw (number_again i at, states_again n h) refl)
witness_again words i n (apart_between is at h) = rw is (rw (number_again i at, states_again n h) refl)
witness_again words i n (apart_last is at h) = rw is (rw (number_again i at, states_again n h) refl)
witness_again words i n (joined_first is at h) = rw is (rw (number_again i at, states_again n h) refl)
witness_again words i n (joined_between is at h) = rw is (rw (number_again i at, states_again n h) refl)
witness_again words i n (joined_last is at h) = rw is (rw (number_again i at, states_again n h) refl)

-- words that are a form are taken as it
pub form_again : (words : List (List ℕ)) (f : Form) → IsForm words f → form_of words ≡ Some f
form_again words (Ask n) h = ap (λ (o : Option Form). option_or o (witness_in words)) (ask_again words n h)
form_again words (Witness i n) h = ap (λ (o : Option Form). option_or o (witness_in words)) (no_ask words i n h) ∙ witness_again words i n h

-- ---- words by their number

-- more than three words are no `ask`
pub no_ask_of : {A : Type 0} (bytes : A → List ℕ) (words : List A) → 4 ≤ length words → ask_in (map bytes words) ≡ None
no_ask_of bytes [] h = absurd (omega (arith, h))
no_ask_of bytes (a ∷ []) h = absurd (omega (arith, h))
no_ask_of bytes (a ∷ b ∷ []) h = absurd (omega (arith, h))
no_ask_of bytes (a ∷ b ∷ c ∷ []) h = absurd (omega (arith, h))
no_ask_of bytes (a ∷ b ∷ c ∷ d ∷ more) h = refl

-- fewer than two words are no `witness`
pub too_few : {A : Type 0} (bytes : A → List ℕ) (words : List A) → length words < 2 → witness_in (map bytes words) ≡ None
too_few bytes [] h = refl
too_few bytes (a ∷ []) h = refl
too_few bytes (a ∷ b ∷ more) h = absurd (omega (arith, h))

-- more than four words are no `witness`
pub too_many : {A : Type 0} (bytes : A → List ℕ) (words : List A) → 5 ≤ length words → witness_in (map bytes words) ≡ None
too_many bytes [] h = absurd (omega (arith, h))
too_many bytes (a ∷ []) h = absurd (omega (arith, h))
too_many bytes (a ∷ b ∷ []) h = absurd (omega (arith, h))
too_many bytes (a ∷ b ∷ c ∷ []) h = absurd (omega (arith, h))
too_many bytes (a ∷ b ∷ c ∷ d ∷ []) h = absurd (omega (arith, h))
too_many bytes (a ∷ b ∷ c ∷ d ∷ e ∷ more) h = refl

-- three words by their places
pub three_words : {A : Type 0} (bytes : A → List ℕ) (words : List A) (a b c : A) → 3 ≤ length words → length words < 4 →
    a ≡ get_or words 0 a → b ≡ get_or words 1 b → c ≡ get_or words 2 c → map bytes words ≡ bytes a ∷ bytes b ∷ bytes c ∷ []
three_words bytes [] a b c low high p q r = absurd (omega (arith, low))
three_words bytes (x ∷ []) a b c low high p q r = absurd (omega (arith, low))
three_words bytes (x ∷ y ∷ []) a b c low high p q r = absurd (omega (arith, low))
three_words bytes (x ∷ y ∷ z ∷ []) a b c low high p q r = rw (p, q, r) refl
three_words bytes (x ∷ y ∷ z ∷ u ∷ more) a b c low high p q r = absurd (omega (arith, high))

-- four words by their places
pub four_words : {A : Type 0} (bytes : A → List ℕ) (words : List A) (a b c d : A) → 4 ≤ length words → length words < 5 →
    a ≡ get_or words 0 a → b ≡ get_or words 1 b → c ≡ get_or words 2 c → d ≡ get_or words 3 d →
    map bytes words ≡ bytes a ∷ bytes b ∷ bytes c ∷ bytes d ∷ []
four_words bytes [] a b c d low high p q r s = absurd (omega (arith, low))
four_words bytes (x ∷ []) a b c d low high p q r s = absurd (omega (arith, low))
four_words bytes (x ∷ y ∷ []) a b c d low high p q r s = absurd (omega (arith, low))
four_words bytes (x ∷ y ∷ z ∷ []) a b c d low high p q r s = absurd (omega (arith, low))
four_words bytes (x ∷ y ∷ z ∷ u ∷ []) a b c d low high p q r s = rw (p, q, r, s) refl
four_words bytes (x ∷ y ∷ z ∷ u ∷ v ∷ more) a b c d low high p q r s = absurd (omega (arith, high))
