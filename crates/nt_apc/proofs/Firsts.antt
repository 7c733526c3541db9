-- The first of a kind, and the first kernel APC once one more is inserted.
use Rattle.std.proofs.Common.{◌≡◌, ◌∷◌, Bool, List, None, Option, Some, [], option_map, ap, option_and_then, cond, false, is_some, refl, reverse, sym, true}
use Rattle.std.proofs.Common.{◌∙◌, ℕ, ◌==◌, ◌&&◌}
use Rattle.std.proofs.lemmas.Bool.{false≢true}
use Rattle.std.proofs.lemmas.List.Folds.{find-append}
use Rattle.std.proofs.lemmas.List.{reverse-append}
use Rattle.std.specs.List.{find}
use Rattle.std.specs.Option.{option_or}
use Rattle.nt_apc.specs.Firsts.{kind_with, may_begin}
use Rattle.nt_event.specs.Apcs.{ApcQueues, deliverable, first_kernel, first_of_kind, is_of_kind, lets_through, same_kind, with_apc}
use Rattle.nt_event.specs.Lists.{when}
use Rattle.nt_event.specs.declared.commands.ApcKind.{ApcKind}
use Rattle.nt_event.specs.declared.commands.ApcKind.TheVariants.{Normal as NormalApc, Special as SpecialApc, User as UserApc}
use Rattle.nt_event.specs.declared.commands.Regions.{Regions}
use Rattle.nt_event.specs.declared.inserts.Pick.{Pick}

-- kinds of APC that are found equal are the same
pub kind-same : (a b : ApcKind) → same_kind a b ≡ true → b ≡ a
kind-same SpecialApc SpecialApc h = refl
kind-same NormalApc NormalApc h = refl
kind-same UserApc UserApc h = refl
kind-same SpecialApc NormalApc h = absurd (false≢true h)
kind-same SpecialApc UserApc h = absurd (false≢true h)
kind-same NormalApc SpecialApc h = absurd (false≢true h)
kind-same NormalApc UserApc h = absurd (false≢true h)
kind-same UserApc SpecialApc h = absurd (false≢true h)
kind-same UserApc NormalApc h = absurd (false≢true h)

-- what is found passes the test
pub find-passes : {X : Type 0} (t : X → Bool) (xs : List X) (x : X) → find t xs ≡ Some x → t x ≡ true
find-passes t [] x h = cc
find-passes {X} t (y ∷ ys) x h = go (t y) refl (find-passes t ys x) h where
  go : (b : Bool) → t y ≡ b → (find t ys ≡ Some x → t x ≡ true) → cond b (Some y) (find t ys) ≡ Some x → t x ≡ true
  go true e rest f = let same : y ≡ x = cc in sym (ap t same) ∙ e
  go false e rest f = rest f

-- the oldest of a kind is of the kind
pub first-is_of_kind : (kind : ApcKind) (q : ApcQueues) (x : Pick) → first_of_kind kind q ≡ Some x → x.kind ≡ kind
first-is_of_kind kind q x h = kind-same kind x.kind (find-passes (is_of_kind kind) (reverse q.pending) x h)

-- one more insert is the newest
pub first-with : (kind : ApcKind) (x : Pick) (q : ApcQueues) → first_of_kind kind (with_apc x q) ≡ option_or (first_of_kind kind q)
    (cond (is_of_kind kind x) (Some x) None)
first-with kind x q =
    ap (λ (ys : List Pick). find (is_of_kind kind) ys) (reverse-append (x ∷ []) q.pending) ∙ find-append (is_of_kind kind) (reverse q.pending) (x ∷ [])

abbrev pub kind_in : Option Pick → Option ApcKind
kind_in first = option_map (λ x. x.kind) first

-- the kinds of the first special and normal ones before the insert and after it
pub kinds-with : (x : Pick) (s n : Option Pick) → ((y : Pick) → s ≡ Some y → y.kind ≡ SpecialApc) → ((y : Pick) → n ≡ Some y → y.kind ≡ NormalApc) →
    kind_in (option_or (option_or s (cond (is_of_kind SpecialApc x) (Some x) None))
    (option_or n (cond (is_of_kind NormalApc x) (Some x) None))) ≡ kind_with x.kind (kind_in (option_or s n))
kinds-with x s n special normal = go x.kind refl s n special normal where
  go : (kind : ApcKind) → x.kind ≡ kind → (s n : Option Pick) → ((y : Pick) → s ≡ Some y → y.kind ≡ SpecialApc) →
      ((y : Pick) → n ≡ Some y → y.kind ≡ NormalApc) → kind_in (option_or (option_or s (cond (same_kind SpecialApc kind) (Some x) None))
      (option_or n (cond (same_kind NormalApc kind) (Some x) None))) ≡ kind_with kind (kind_in (option_or s n))
  go SpecialApc e (Some y) n special normal = ap Some (special y refl)
  go SpecialApc e None n special normal = ap Some e
  go NormalApc e (Some y) n special normal = refl
  go NormalApc e None (Some z) special normal = refl
  go NormalApc e None None special normal = ap Some e
  go UserApc e (Some y) n special normal = refl
  go UserApc e None (Some z) special normal = refl
  go UserApc e None None special normal = refl

-- the kind of the first kernel APC after an insert follows from the insert's kind and the first one's before
pub kernel-with : (x : Pick) (q : ApcQueues) → kind_in (first_kernel (with_apc x q)) ≡ kind_with x.kind (kind_in (first_kernel q))
kernel-with x q =
    rw (first-with SpecialApc x q, first-with NormalApc x q) (kinds-with x (first_of_kind SpecialApc q) (first_of_kind NormalApc q)
    (first-is_of_kind SpecialApc q) (first-is_of_kind NormalApc q))

-- whether the first one is deliverable rests on its kind alone
pub deliverable-kind : (q : ApcQueues) (r : Regions) (level : ℕ) → is_some (deliverable q r level) ≡ may_begin r level (kind_in (first_kernel q))
deliverable-kind q r level = go (first_kernel q) where
  test : (b : Bool) (x : Pick) → is_some (when b (Some x)) ≡ b
  test true x = refl
  test false x = refl

  go : (first : Option Pick) → is_some (option_and_then (λ x. when ((level == 0) && lets_through r x.kind) (Some x)) first) ≡ may_begin r level (kind_in first)
  go None = refl
  go (Some x) = test ((level == 0) && lets_through r x.kind) x

-- a kernel APC is deliverable after an insert exactly if one of the kind that is then first may begin
pub deliverable-with : (x : Pick) (q : ApcQueues) (r : Regions) (level : ℕ) →
    is_some (deliverable (with_apc x q) r level) ≡ may_begin r level (kind_with x.kind (kind_in (first_kernel q)))
deliverable-with x q r level = deliverable-kind (with_apc x q) r level ∙ ap (λ (k : Option ApcKind). may_begin r level k) (kernel-with x q)
