-- A walk in a loop over the commands of its site.
use Rattle.std.proofs.Common.{ap, arith, subst, sym, ◌∙◌}
use Rattle.std.proofs.lemmas.List.{append_assoc, length-take-le}
use Rattle.std.proofs.lemmas.Option.{slice_get_read}
use Rattle.std.specs.List.{AllPass, cons_option, filter_map}
use Rattle.std.specs.Option.{option_map_or}
use Rattle.std.specs.Prelude.{Bool, List, None, Option, Some, [], get_or, length, option_and_then, option_map, refl, slice_get, take, true, ℕ, ◌+◌}
use Rattle.std.specs.Prelude.{◌++◌, ◌<◌, ◌≡◌}
use Rattle.nt_event.specs.declared.commands.Command.{Command}
use Rattle.nt_event.specs.declared.commands.Refusal.{Refusal}
use Rattle.nt_event.specs.declared.scripts.Script.{Script}
use Rattle.nt_event.specs.Frame.{Frame}
use Rattle.nt_event.specs.Lists.{table}
use Rattle.nt_event.specs.Script.{fits}
use Rattle.nt_verify.proofs.Declared.{commands_few, low_locks}
use Rattle.nt_verify.proofs.Lists.{picked_more}
use Rattle.nt_verify.proofs.Walking.{place_walked, walked_more}
use Rattle.nt_verify.specs.declared.expected.Expected.{Expected}
use Rattle.nt_verify.specs.declared.finding.Finding.{Finding}
use Rattle.nt_verify.specs.declared.site.Site.{Site}
use Rattle.nt_verify.specs.declared.site.Site.TheVariants as at
use Rattle.nt_verify.specs.Findings.{finding_at, rises_at, rises_in}
use Rattle.nt_verify.specs.Sites.{commands_at, first_frame, routine_at}
use Rattle.nt_verify.specs.Steps.{found_in, has_lock_below}
use Rattle.nt_verify.specs.Walks.{called_in, expected_at, expected_in, frame_at, refused_in, walked}

-- the first frame of a site stands at place 0
first_place : (s : Script) (x : Site) → (first_frame s x).place ≡ 0
first_place s (at.Normal a) = refl
first_place s x = refl

-- the walk has called as many commands as were before
pub place_is : (s : Script) (x : Site) (cs : List Command) (i : ℕ) (w : Frame) → i < length cs → w ≡ walked (first_frame s x) (take i cs) → w.place ≡ i
place_is s x cs i w h e =
    let a = ap (λ (f : Frame). f.place) e in
    let b = place_walked (first_frame s x) (take i cs) in
    let c = first_place s x in
    let d : length (take i cs) ≡ i = length-take-le i cs (omega arith) in
    omega (arith, a, b, c, d)

-- the command of an iteration
pub here : (cs : List Command) (i : ℕ) (c : Command) → i < length cs → c ≡ get_or cs i c → slice_get cs i ≡ Some c
here cs i c h e = slice_get_read cs (length cs) i c refl h e

-- a walk that has called the first commands has called one more once it calls the next one
pub walk_more : (f : Frame) (cs : List Command) (i : ℕ) (c : Command) (w v : Frame) → slice_get cs i ≡ Some c → w ≡ walked f (take i cs) → v ≡ called_in w c →
    v ≡ walked f (take (i + 1) cs)
walk_more f cs i c w v h e k = k ∙ (ap (λ (y : Frame). called_in y c) e ∙ sym (walked_more f cs i c h))

-- the command read at a place of a list whose elements all pass a test passes it
pub passes_here : (p : Command → Bool) (cs : List Command) (i : ℕ) (c : Command) → i < length cs → c ≡ get_or cs i c → AllPass p cs → p c ≡ true
passes_here p cs i c h e a = subst (λ (y : Command). p y ≡ true) (sym e) (a i c h)

-- ---- the commands of a site

-- where the walk stands before the command of an iteration
pub record Stands (s : Script) (x : Site) (cs : List Command) (i : ℕ) (c : Command) (w : Frame) : Type 0 where
  pub there : slice_get (commands_at s x) i ≡ Some c
  pub walk : w ≡ frame_at s x i
  pub place : w.place ≡ i

-- before the command of an iteration the walk is the site's frame at that place, with that many commands called
pub stands : (s : Script) (x : Site) (cs : List Command) (i : ℕ) (c : Command) (w : Frame) → cs ≡ commands_at s x → i < length cs → c ≡ get_or cs i c →
    w ≡ walked (first_frame s x) (take i cs) → Stands s x cs i c w
stands s x cs i c w same h e k =
    record {
      there = subst (λ (ds : List Command). slice_get ds i ≡ Some c) same (here cs i c h e);
      walk = k ∙ ap (λ (ds : List Command). walked (first_frame s x) (take i ds)) same;
      place = place_is s x cs i w h k;
    }

-- in a script that fits the place of a walk is below 8192 while a command is left
pub few_places : (s : Script) (x : Site) (cs : List Command) (i : ℕ) (w : Frame) → fits s ≡ true → cs ≡ commands_at s x → i < length cs →
    w ≡ walked (first_frame s x) (take i cs) → w.place < 8192
few_places s x cs i w fit same h k =
    let a = place_is s x cs i w h k in
    let b : length cs ≡ length (commands_at s x) = ap (λ (ds : List Command). length ds) same in
    let c = commands_few s (routine_at s x) fit in
    omega (arith, a, b, c)

-- the command of an iteration names only a lock below 64, in a script that fits
pub low_lock_here : (s : Script) (x : Site) (cs : List Command) (i : ℕ) (c : Command) → fits s ≡ true → cs ≡ commands_at s x → i < length cs →
    c ≡ get_or cs i c → has_lock_below 64 c ≡ true
low_lock_here s x cs i c fit same h e =
    low_locks s (routine_at s x) i c fit (subst (λ (ds : List Command). slice_get ds i ≡ Some c) same (here cs i c h e))

-- ---- what is found at the place

abbrev expected_as : Site → ℕ → Option Expected → Option Finding
expected_as x k o = option_map (λ e. record { site = x; place = k; refusal = e.refusal; level = e.level }) o

abbrev refused_as : Site → ℕ → ℕ → Option Refusal → Option Finding
refused_as x k level o = expected_as x k (option_map (λ r. record { refusal = r; level = level }) o)

-- an optional refusal told with its site, place and IRQL is that of mapping the telling over the option
refused_is : (x : Site) (k level : ℕ) (o : Option Refusal) → refused_as x k level o
    ≡ option_map (λ r. record { site = x; place = k; refusal = r; level = level }) o
refused_is x k level None = refl
refused_is x k level (Some r) = refl

-- what is found at the place is what is found of the command
finding_is : (s : Script) (x : Site) (cs : List Command) (i : ℕ) (c : Command) (w : Frame) → Stands s x cs i c w → finding_at s x i ≡ found_in x w c
finding_is s x cs i c w h =
    let a : finding_at s x i ≡ expected_as x i (expected_in (frame_at s x i) c) = ap (λ (o : Option Command). expected_as x i
    (option_and_then (expected_in (frame_at s x i)) o)) h.there in
    let b : expected_as x i (expected_in (frame_at s x i) c) ≡ expected_as x i (expected_in w c) = ap (λ (f : Frame). expected_as x i (expected_in f c))
    (sym h.walk) in
    a
    ∙ (b
    ∙ (refused_is x i w.level (refused_in w c)
    ∙ ap (λ (n : ℕ). option_map (λ r. record { site = x; place = n; refusal = r; level = w.level }) (refused_in w c)) (sym h.place)))

-- the locks rise at a place of the site exactly if they do at the command in the walk's frame
pub rises_here : (s : Script) (x : Site) (cs : List Command) (i : ℕ) (c : Command) (w : Frame) → Stands s x cs i c w → rises_at s x i ≡ rises_in w c
rises_here s x cs i c w h =
    ap (λ (o : Option Command). option_map_or (rises_in (frame_at s x i)) o true) h.there ∙ ap (λ (f : Frame). rises_in f c) (sym h.walk)

-- what is expected at a place of the site is what is expected of its command in the walk's frame
pub expected_here : (s : Script) (x : Site) (cs : List Command) (i : ℕ) (c : Command) (w : Frame) → cs ≡ commands_at s x → slice_get cs i ≡ Some c →
    w ≡ walked (first_frame s x) (take i cs) → expected_at s x i ≡ expected_in w c
expected_here s x cs i c w same h k =
    let walk : w ≡ frame_at s x i = k ∙ ap (λ (ds : List Command). walked (first_frame s x) (take i ds)) same in
    let there : slice_get (commands_at s x) i ≡ Some c = subst (λ (ds : List Command). slice_get ds i ≡ Some c) same h in
    ap (λ (o : Option Command). option_and_then (expected_in (frame_at s x i)) o) there ∙ ap (λ (f : Frame). expected_in f c) (sym walk)

-- one place more
pub found_more : (s : Script) (x : Site) (cs : List Command) (i : ℕ) (c : Command) (w : Frame) (old xs ys : List Finding) → Stands s x cs i c w →
    xs ≡ old ++ filter_map (finding_at s x) (table i (λ k. k)) → ys ≡ xs ++ cons_option (found_in x w c) [] →
    ys ≡ old ++ filter_map (finding_at s x) (table (i + 1) (λ k. k))
found_more s x cs i c w old xs ys h a b =
    b
    ∙ (ap (λ (zs : List Finding). zs ++ cons_option (found_in x w c) []) a
    ∙ (append_assoc old (filter_map (finding_at s x) (table i (λ k. k))) (cons_option (found_in x w c) [])
    ∙ ap (λ (zs : List Finding). old ++ zs) (ap (λ (o : Option Finding). filter_map (finding_at s x) (table i (λ k. k)) ++ cons_option o [])
    (sym (finding_is s x cs i c w h)) ∙ sym (picked_more (finding_at s x) i (λ k. k)))))
