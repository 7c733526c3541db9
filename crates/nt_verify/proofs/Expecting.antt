-- In a run each call is refused as expected; so where nothing is found, none is refused.
use Rattle.std.proofs.Common.{ap, inl, inr, subst}
use Rattle.std.proofs.lemmas.Option.{slice_get_within}
use Rattle.std.specs.List.{Contains, cons_option, filter_map, flat_map}
use Rattle.std.specs.Prelude.{List, None, Option, Some, [], false, length, option_map, refl, slice_get, ℕ, ◌++◌, ◌∷◌, ◌≡◌}
use Rattle.nt_event.proofs.Elements.{contains_cases, contains_none}
use Rattle.nt_event.specs.declared.commands.Command.{Command}
use Rattle.nt_event.specs.declared.commands.Refusal.{Refusal}
use Rattle.nt_event.specs.declared.commands.Reply.TheVariants.{Refused}
use Rattle.nt_event.specs.declared.events.Event.{Event}
use Rattle.nt_event.specs.declared.events.What.{What}
use Rattle.nt_event.specs.declared.events.What.TheVariants.{Call}
use Rattle.nt_event.specs.declared.scripts.Script.{Script}
use Rattle.nt_event.specs.Lanes.{lanes_at}
use Rattle.nt_event.specs.Own.{own_of}
use Rattle.nt_event.specs.Step.{IsRun}
use Rattle.nt_runs.proofs.Known.{Known, KnownCall, legal_known}
use Rattle.nt_runs.proofs.Turns.{is_next}
use Rattle.nt_verify.proofs.Agreeing.{expected_same, next_at}
use Rattle.nt_verify.proofs.Lists.{table_contains}
use Rattle.nt_verify.proofs.Open.{inner_agrees}
use Rattle.nt_verify.proofs.Siting.{declared}
use Rattle.nt_verify.specs.declared.expected.Expected.{Expected}
use Rattle.nt_verify.specs.declared.finding.Finding.{Finding}
use Rattle.nt_verify.specs.declared.site.Site.{Site}
use Rattle.nt_verify.specs.Findings.{finding_at, findings, findings_at, places_at}
use Rattle.nt_verify.specs.Laws.{CallsAreExpected, CleanScriptsRefuseNothing, refuses, told}
use Rattle.nt_verify.specs.Sites.{commands_at, site_of, sites}
use Rattle.nt_verify.specs.Walks.{expected_at}

-- in a run each call is refused exactly as expected at its site, by that refusal and at that level
pub calls_expected : CallsAreExpected
calls_expected s limit e past n c y r k =
    let q : KnownCall s e.cpu (own_of s e.cpu past) (lanes_at s past) n c y = subst (λ (w : What). Known s e.cpu (own_of s e.cpu past) (lanes_at s past) w) k
    (legal_known s limit e past r.0 (ap is_next k)) in
    let a = inner_agrees s limit e.cpu past q.frame r.1 q.goes_on.inner in
    record {
      frame = q.frame;
      inner = q.goes_on.inner;
      name = q.name;
      command = q.command;
      declared = declared s e.cpu q.frame c a q.command;
      expected = expected_same s limit e.cpu past r.1 n c y q a;
    }

-- ---- an empty list

-- if two lists appended are empty, both are empty
append_none : {A : Type 0} (xs ys : List A) → xs ++ ys ≡ [] → (xs ≡ []) × (ys ≡ [])
append_none [] ys h = (refl, h)
append_none (x ∷ xs) ys h = absurd cc

-- if the lists made of all elements are empty together, the one made of each element is
flat_none : {A B : Type 0} (f : A → List B) (xs : List A) (x : A) → flat_map f xs ≡ [] → Contains xs x → f x ≡ []
flat_none f [] x h c = contains_none x c
flat_none {A} {B} f (y ∷ xs) x h c =
    let b = append_none (f y) (flat_map f xs) h in
    elim (contains_cases y xs x c) [ inl e ↦ subst (λ (z : A). f z ≡ []) e b.0 | inr d ↦ flat_none f xs x b.1 d ]

-- if an option put in front of a list leaves it empty, there is no option and the list is empty
cons_none : {A : Type 0} (o : Option A) (xs : List A) → cons_option o xs ≡ [] → (o ≡ None) × (xs ≡ [])
cons_none None xs h = (refl, h)
cons_none (Some x) xs h = absurd cc

-- if a filtering map of a list is empty, it gives nothing for each element
filter_none : {A B : Type 0} (f : A → Option B) (xs : List A) (x : A) → filter_map f xs ≡ [] → Contains xs x → f x ≡ None
filter_none f [] x h c = contains_none x c
filter_none {A} {B} f (y ∷ xs) x h c =
    let b = cons_none (f y) (filter_map f xs) h in
    elim (contains_cases y xs x c) [ inl e ↦ subst (λ (z : A). f z ≡ None) e b.0 | inr d ↦ filter_none f xs x b.1 d ]

abbrev as_finding : Site → ℕ → Option Expected → Option Finding
as_finding x k o = option_map (λ e. record { site = x; place = k; refusal = e.refusal; level = e.level }) o

-- a call whose refusal is expected at a place of a site is found
found : (s : Script) (x : Site) (k : ℕ) (c : Command) (q : Refusal) (level : ℕ) → findings s ≡ [] → Contains (sites s) x →
    slice_get (commands_at s x) k ≡ Some c → expected_at s x k ≡ told (Refused q) level → ⊥
found s x k c q level none site place e =
    let here : findings_at s x ≡ [] = flat_none (findings_at s) (sites s) x none site in
    let within = slice_get_within (commands_at s x) k c place in
    let no : finding_at s x k ≡ None = filter_none (finding_at s x) (places_at s x) k here (table_contains (length (commands_at s x)) k (λ i. i) within) in
    let some : finding_at s x k ≡ as_finding x k (told (Refused q) level) = ap (as_finding x k) e in
    cc

-- in a run of a script with no findings, no event refuses a call
not_refused : (s : Script) (limit : ℕ) (e : Event) (past : List Event) → findings s ≡ [] → IsRun s limit (e ∷ past) → (w : What) → e.what ≡ w →
    refuses w ≡ false
not_refused s limit e past none r (Call n c (Refused q)) k =
    let x = calls_expected s limit e past n c (Refused q) r k in
    absurd (found s (site_of e.cpu x.frame) x.frame.place c q x.frame.level none x.declared (next_at s e.cpu x.frame c x.command) x.expected)
not_refused s limit e past none r (Call n c y) k = refl
not_refused s limit e past none r w k = refl

-- a script in which nothing is found has no run with a refused command
pub clean : CleanScriptsRefuseNothing
clean s limit e [] none r c = contains_none e c
clean s limit e (x ∷ past) none r c =
    elim (contains_cases x past e c) [
      | inl q ↦ subst (λ (v : Event). refuses v.what ≡ false) q (not_refused s limit x past none r x.what refl)
      | inr d ↦ clean s limit e past none r.1 d
    ]
