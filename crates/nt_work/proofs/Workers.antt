-- What workers put, take and tell.
use Rattle.std.proofs.Common.{◌≡◌, ◌∙◌, ℕ, zero, suc, ◌+◌, ◌<◌, ◌≤◌, Bool, true, false, List, [], ◌∷◌, ◌++◌, length, map, get_or, set, take, drop, refl, sym}
use Rattle.std.proofs.Common.{ap, subst}
use Rattle.std.proofs.Common.{inl, inr, ⊎_elim, arith, append-nil, append_assoc, eq-eqb}
use Rattle.std.specs.Prelude.{filter, ◌==◌, ◌%◌, if◌then◌else◌}
use Rattle.std.proofs.lemmas.List.{get_or-set_other, get_or-set_same, get_or_past, length-set, map-append, take_all, take_more, drop_all}
use Rattle.std.proofs.lemmas.List.{length_push}
use Rattle.std.proofs.lemmas.List.Elements.{filter-append}
use Rattle.std.proofs.Math.ListN.{get_or-append}
use Rattle.std.proofs.Math.Seq.{get_or-append_seam}
use Rattle.std.specs.Prelude.{Err, IsOk, Ok, OnOk, Result}
use mathlib.Core.Logic.{dite}
use native.Mathlib.Decide.{ℕ_discrete}
use Rattle.std.proofs.lemmas.Bool.{cases_lt}
use Rattle.std.specs.declared.alloc.AllocError.{AllocError}
use Rattle.nt_work.specs.declared.item.Audited.{Audited}
use Rattle.nt_work.specs.declared.item.Item.{Item}
use Rattle.nt_work.specs.declared.passes.WorkPass.{WorkPass}
use Rattle.nt_work.specs.declared.passes.WorkQueue.{WorkQueue}
use Rattle.nt_work.specs.declared.view.Hand.{Hand}
use Rattle.nt_work.specs.declared.view.Move.{Move}
use Rattle.nt_work.specs.declared.view.View.{View}
use Rattle.nt_work.specs.declared.worker.Worker.{Worker}
use Rattle.nt_work.specs.Audits.{reported}
use Rattle.nt_work.specs.Queue.{IsOf, WasAt, pass_view}
use Rattle.nt_work.specs.Rule.{EachHand, EachMove, HasNumber, IsHand, Told, all_parts, hands, is_by, item_in, met_by, of, with_put, with_taken}
use Rattle.nt_work.specs.Workers.{AreTold, Has, HasMet, HasPut, HasWorked, HaveWorked, IsWorkerOf, SomePut, Works, own_items, told_by}
use Rattle.nt_work.proofs.Ruled.{each_hand, hands_joined}

-- ---- one worker

-- a worker of a queue that does nothing has worked and put nothing more
pub works_not : (q : WorkQueue) (c : List ℕ) (x : Worker) → IsWorkerOf q c x → Works q c [] x x
works_not q c x h = record { worker = h; put = sym (append-nil (pass_view x.pass).hand.put); met = refl; parts = refl }

-- a worker that put one list of items and then another has put both, one behind the other
pub works_through : (q : WorkQueue) (c : List ℕ) (a b : List Item) (x y z : Worker) → Works q c a x y → Works q c b y z → Works q c (a ++ b) x z
works_through q c a b x y z f g = record {
  worker = g.worker;
  put = g.put ∙ ap (λ (xs : List Item). xs ++ b) f.put ∙ append_assoc (pass_view x.pass).hand.put a b;
  met = g.met ∙ f.met;
  parts = g.parts ∙ f.parts;
}

-- it took nothing
pub took_none : (q : WorkQueue) (c : List ℕ) (x y : Worker) → IsWorkerOf q c x → IsOf q y.pass → pass_view y.pass ≡ pass_view x.pass →
    y.done.items ≡ x.done.items →
    Works q c [] x y
took_none q c x y h of' same done = record {
  worker = record { of = of'; did = done ∙ h.did ∙ ap (λ (v : View). map (reported c) v.hand.taken) (sym same) };
  put = ap (λ (v : View). v.hand.put) same ∙ sym (append-nil (pass_view x.pass).hand.put);
  met = ap (λ (v : View). v.met) same;
  parts = ap (λ (v : View). v.parts) same;
}

-- it took an item and did it
pub took_one : (q : WorkQueue) (c : List ℕ) (x y : Worker) (item : Item) (r : Audited) → IsWorkerOf q c x → IsOf q y.pass →
    pass_view y.pass ≡ with_taken (pass_view x.pass) item → r ≡ reported c item → y.done.items ≡ x.done.items ++ r ∷ [] →
    Works q c [] x y
took_one q c x y item r h of' more is done =
    let taken : List Item = (pass_view x.pass).hand.taken in
    record {
      worker = record {
        of = of';
        did =
            done ∙ ap (λ (xs : List Audited). xs ++ r ∷ []) h.did ∙ ap (λ (a : Audited). map (reported c) taken ++ a ∷ []) is
            ∙ sym (map-append (reported c) taken (item ∷ [])) ∙ ap (λ (v : View). map (reported c) v.hand.taken) (sym more);
      };
      put = ap (λ (v : View). v.hand.put) more ∙ sym (append-nil (pass_view x.pass).hand.put);
      met = ap (λ (v : View). v.met) more;
      parts = ap (λ (v : View). v.parts) more;
    }

-- it put an item
pub put_one_more : (q : WorkQueue) (c : List ℕ) (x y : Worker) (item : Item) → IsWorkerOf q c x → IsOf q y.pass →
    pass_view y.pass ≡ with_put (pass_view x.pass) item → y.done.items ≡ x.done.items → Works q c (item ∷ []) x y
put_one_more q c x y item h of' more done = record {
  worker = record { of = of'; did = done ∙ h.did ∙ ap (λ (v : View). map (reported c) v.hand.taken) (sym more) };
  put = ap (λ (v : View). v.hand.put) more;
  met = ap (λ (v : View). v.met) more;
  parts = ap (λ (v : View). v.parts) more;
}

-- a worker that had put nothing has put just the items that its work put
pub has_worked : (q : WorkQueue) (c : List ℕ) (puts : List Item) (x y : Worker) → HasPut q c [] x → Works q c puts x y → HasPut q c puts y
has_worked q c puts x y h w = record {
  worker = w.worker;
  put = w.put ∙ ap (λ (xs : List Item). xs ++ puts) h.put;
  met = w.met ∙ h.met;
  one = w.parts ∙ h.one;
}

-- the own items up to one item more are those so far, and that item if it is the worker's own
pub own_more : (workers k : ℕ) (xs : List Item) (i : ℕ) (d : Item) → i < length xs →
    own_items workers k (take (i + 1) xs)
    ≡ own_items workers k (take i xs) ++ (if ((get_or xs i d).cpu.0 % workers) == k then get_or xs i d ∷ [] else [])
own_more workers k xs i d lt =
    ap (own_items workers k) (take_more xs i d lt)
    ∙ filter-append (λ (x : Item). (x.cpu.0 % workers) == k) (take i xs) (get_or xs i d ∷ [])

-- ---- what is told

-- telling at a place the count of that place leaves it told there
told_here : (c told : List ℕ) (e w : ℕ) → length told ≡ length c → w ≡ get_or c e 0 → get_or (set told e w) e 0 ≡ get_or c e 0
told_here c told e w many is =
    ⊎_elim (λ lt. get_or-set_same told e w 0 lt ∙ is)
    (λ (no : length told ≤ e).
    let long = length-set told e w in get_or_past (set told e w) e 0 (omega (arith, long, no)) ∙ sym (get_or_past c e 0 (omega (arith, many, no))))
    (cases_lt e (length told))

-- telling a count at any place leaves it told at each place where it was told already
told_still : (c told : List ℕ) (e w j : ℕ) → length told ≡ length c → w ≡ get_or c e 0 → get_or told j 0 ≡ get_or c j 0 →
    get_or (set told e w) j 0 ≡ get_or c j 0
told_still c told e w j many is h =
    dite (ℕ_discrete j e) (λ same. subst (λ (n : ℕ). get_or (set told e w) n 0 ≡ get_or c n 0) (sym same) (told_here c told e w many is))
    (λ other. get_or-set_other told e j w 0 other ∙ h)

-- telling the counts of audited items leaves the list as long as it was
pub told_length : (told : List ℕ) (xs : List Audited) → length (told_by told xs) ≡ length told
told_length told [] = refl
told_length told (x ∷ xs) = told_length (set told x.item.event x.waiting) xs ∙ length-set told x.item.event x.waiting

-- telling at a place beyond the end of the list leaves the list as it was
told_beyond : (told : List ℕ) (e w : ℕ) → length told ≤ e → set told e w ≡ told
told_beyond [] e w le = refl
told_beyond (x ∷ told) zero w le = absurd (omega (arith, le))
told_beyond (x ∷ told) (suc e) w le = ap (λ (ts : List ℕ). x ∷ ts) (told_beyond told e w (omega (arith, le)))

-- what a slice of a whole list writes back is the list
pub written_back : {A : Type 0} (n : ℕ) (new old : List A) → length new ≡ length old → n ≡ length old → take n (new ++ drop (length new) old) ≡ new
written_back {A} n new old same long =
    ap (λ (xs : List A). take n (new ++ xs)) (drop_all (length new) old (omega (arith, same)))
    ∙ (ap (λ (xs : List A). take n xs) (append-nil new) ∙ take_all n new (omega (arith, same, long)))

-- telling of audited items and one more is telling of the items and then setting the count of the last
pub told_more : (told : List ℕ) (xs : List Audited) (x : Audited) → told_by told (xs ++ x ∷ []) ≡ set (told_by told xs) x.item.event x.waiting
told_more told [] x = refl
told_more told (y ∷ xs) x = told_more (set told y.item.event y.waiting) xs x

-- telling a list of items leaves a count told that was told already
told_stays : (c told : List ℕ) (xs : List Item) (j : ℕ) → length told ≡ length c → get_or told j 0 ≡ get_or c j 0 →
    get_or (told_by told (map (reported c) xs)) j 0 ≡ get_or c j 0
told_stays c told [] j many h = h
told_stays c told (x ∷ xs) j many h =
    told_stays c (set told x.event (get_or c x.event 0)) xs j (length-set told x.event (get_or c x.event 0) ∙ many)
    (told_still c told x.event (get_or c x.event 0) j many refl h)

-- after a list of items is told, the counts of all of them are told
told_each : (c told : List ℕ) (xs : List Item) → length told ≡ length c → AreTold c (told_by told (map (reported c) xs)) xs
told_each c told [] many x h = absurd h
told_each c told (y ∷ xs) many x h =
    let more : List ℕ = set told y.event (get_or c y.event 0) in
    let long : length more ≡ length c = length-set told y.event (get_or c y.event 0) ∙ many in
    ⊎_elim (λ (e : y ≡ x).
    told_stays c more xs x.event long
    (ap (λ (z : Item). get_or more z.event 0) (sym e) ∙ told_here c told y.event (get_or c y.event 0) many refl ∙ ap (λ (z : Item). get_or c z.event 0) e))
    (λ (r : Has x xs). told_each c more xs long x r) h

-- ---- all workers

-- items put by one of some passes are put by one of these with others appended
some_left : (puts : List Item) (xs ys : List Hand) → SomePut puts xs → SomePut puts (xs ++ ys)
some_left puts [] ys h = absurd h
some_left puts (x ∷ xs) ys h = ⊎_elim (λ e. inl e) (λ r. inr (some_left puts xs ys r)) h

-- items put by one of some passes are put by one of these with others in front
some_right : (puts : List Item) (xs ys : List Hand) → SomePut puts ys → SomePut puts (xs ++ ys)
some_right puts [] ys h = h
some_right puts (x ∷ xs) ys h = inr (some_right puts xs ys h)

-- a pass has met one worker more, the last of the others, who told what it found
pub met_more : (q : WorkQueue) (c : List ℕ) (items : List Item) (workers n : ℕ) (told told' : List ℕ) (p p' : WorkPass) (w : Worker) →
    HasMet q c items workers (suc n) told p → HasPut q c (own_items workers n items) w → told' ≡ told_by told w.done.items → IsOf q p' →
    pass_view p' ≡ met_by (pass_view p) (pass_view w.pass) → HasMet q c items workers n told' p'
met_more q c items workers n told told' p p' w h has is of' met =
    let v : View = pass_view p in
    let u : View = pass_view w.pass in
    let now : told' ≡ told_by told (map (reported c) u.hand.taken) = is ∙ ap (told_by told) has.worker.did in
    let here : AreTold c told' u.hand.taken =
    subst (λ (t : List ℕ). AreTold c t u.hand.taken) (sym now) (told_each c told u.hand.taken h.many) in
    let before : EachHand (λ g. AreTold c told' g.taken) v.met =
    each_hand {P = λ g. AreTold c told g.taken} {Q = λ g. AreTold c told' g.taken} (λ g (s : AreTold c told g.taken) x in'.
    subst (λ (t : List ℕ). get_or t x.event 0 ≡ get_or c x.event 0) (sym now) (told_stays c told u.hand.taken x.event h.many (s x in'))) v.met h.each in
    let rest : EachHand (λ g. AreTold c told' g.taken) (u.hand ∷ u.met) =
    (here, subst (λ (hs : List Hand). EachHand (λ g. AreTold c told' g.taken) hs) (sym has.met) tt) in
    let sum : (pass_view p').parts ≡ v.parts + u.parts = ap (λ (y : View). y.parts) met in
    let old = h.parts in
    let one = has.one in
    record {
      of = of';
      parts = omega (arith, sum, old, one);
      none = ap (λ (y : View). y.hand.taken) met ∙ h.none;
      put = λ k le lt.
          subst (λ (y : View). SomePut (own_items workers k items) y.met) (sym met)
          (dite (ℕ_discrete k n)
          (λ e. some_right (own_items workers k items) v.met (u.hand ∷ u.met) (inl (has.put ∙ ap (λ (m : ℕ). own_items workers m items) (sym e))))
          (λ ne. some_left (own_items workers k items) v.met (u.hand ∷ u.met) (h.put k (omega (arith, le, ne)) lt)));
      each = subst (λ (y : View). EachHand (λ g. AreTold c told' g.taken) y.met) (sym met)
          (hands_joined (λ g. AreTold c told' g.taken) v.met (u.hand ∷ u.met) before rest);
      many = ap (λ (t : List ℕ). length t) is ∙ told_length told w.done.items ∙ h.many;
    }

-- an item of a list that passes a test is in the filtered list
has_own : (p : Item → Bool) (x : Item) (xs : List Item) → p x ≡ true → Has x xs → Has x (filter p xs)
has_own p x [] t h = absurd h
has_own p x (y ∷ xs) t h =
    ⊎_elim (λ (e : y ≡ x).
    subst (λ (b : Bool). Has x (if b then y ∷ filter p xs else filter p xs)) (sym (ap p e ∙ t)) (inl e))
    (λ (r : Has x xs). kept (p y) (has_own p x xs t r)) h
  where
    kept : (b : Bool) → Has x (filter p xs) → Has x (if b then y ∷ filter p xs else filter p xs)
    kept true r = inr r
    kept false r = r

-- an item of some moves, perhaps with one more, is of all moves with that one, if those of some are of all
among_more : (m : Move) (some all : List Move) (x : Item) → (Has x (map item_in some) → Has x (map item_in all)) → (b : Bool) →
    Has x (map item_in (if b then m ∷ some else some)) → Has x (map item_in (m ∷ all))
among_more m some all x f true r = ⊎_elim (λ (e : m.item ≡ x). inl e) (λ (s : Has x (map item_in some)). inr (f s)) r
among_more m some all x f false r = inr (f r)

-- what one pass moved is among all
among_all : (n : ℕ) (ms : List Move) (x : Item) → Has x (of n ms) → Has x (map item_in ms)
among_all n [] x h = absurd h
among_all n (m ∷ ms) x h = among_more m (filter (is_by n) ms) ms x (among_all n ms x) (is_by n m) h

-- an item that some pass put is among all items put
has_put : (puts takes : List Move) (own : List Item) (hs : List Hand) (x : Item) → EachHand (IsHand puts takes) hs → SomePut own hs → Has x own →
    Has x (map item_in puts)
has_put puts takes own [] x d s h = absurd s
has_put puts takes own (g ∷ hs) x d s h =
    ⊎_elim (λ (e : g.put ≡ own). among_all g.number puts x (subst (λ (xs : List Item). Has x xs) (sym (d.0.0 ∙ e)) h))
    (λ (r : SomePut own hs). has_put puts takes own hs x d.1 r h) s

-- who took an item
abbrev TakenBy : List Move → List Hand → Item → Type 0
TakenBy takes hs x = (n : ℕ) × HasNumber n hs × Has x (of n takes)

-- an item that was taken was taken by one of the passes, if each take was by one of them
taken_by_one : (takes : List Move) (hs : List Hand) (x : Item) → EachMove (λ m. HasNumber m.by hs) takes → Has x (map item_in takes) → TakenBy takes hs x
taken_by_one [] hs x by h = absurd h
taken_by_one (m ∷ ms) hs x by h =
    ⊎_elim (λ (e : m.item ≡ x). (
      m.by,
      by.0,
      subst (λ (b : Bool). Has x (map item_in (if b then m ∷ filter (is_by m.by) ms else filter (is_by m.by) ms))) (sym (eq-eqb m.by m.by refl)) (inl e),
    )) (λ (r : Has x (map item_in ms)). let t = taken_by_one ms hs x by.1 r in (t.0, t.1, more t.0 (is_by t.0 m) t.2)) h
  where
    more : (n : ℕ) (b : Bool) → Has x (of n ms) → Has x (map item_in (if b then m ∷ filter (is_by n) ms else filter (is_by n) ms))
    more n true r = inr r
    more n false r = r

-- an item that one of the passes took has its count told, if all that each pass took is told
told_by_some : (puts takes : List Move) (c told : List ℕ) (hs : List Hand) (n : ℕ) (x : Item) → EachHand (IsHand puts takes) hs →
    EachHand (λ g. AreTold c told g.taken) hs → HasNumber n hs → Has x (of n takes) → get_or told x.event 0 ≡ get_or c x.event 0
told_by_some puts takes c told [] n x d t by h = absurd by
told_by_some puts takes c told (g ∷ hs) n x d t by h =
    ⊎_elim (λ (e : g.number ≡ n). t.0 x (subst (λ (xs : List Item). Has x xs) (d.0.1) (subst (λ (m : ℕ). Has x (of m takes)) (sym e) h)))
    (λ (r : HasNumber n hs). told_by_some puts takes c told hs n x d.1 t.1 r h) by

-- items whose counts were told are reported by what was told as by the counts
same_reports : (c told : List ℕ) (xs : List Item) → AreTold c told xs → map (reported told) xs ≡ map (reported c) xs
same_reports c told [] h = refl
same_reports c told (x ∷ xs) h =
    let one : reported told x ≡ reported c x = ap (λ (m : ℕ). record { item = x; waiting = m }) (h x (inl refl)) in
    λ i. one i ∷ same_reports c told xs (λ y r. h y (inr r)) i

-- a pass with all parts has met all workers, and then took until the queue was empty
pub all_found : (q : WorkQueue) (c : List ℕ) (items : List Item) (workers : ℕ) (told told' : List ℕ) (p : WorkPass) (x y : Worker) →
    0 < workers → HasMet q c items workers 0 told p → x.pass ≡ p → Works q c [] x y → WasAt 0 (pass_view y.pass) → told' ≡ told_by told y.done.items →
    map (reported told') items ≡ map (reported c) items
all_found q c items workers told told' p x y some h is w was now' =
    let v : View = pass_view y.pass in
    let t : Told v was.0 = was.2 in
    let met : v.met ≡ (pass_view p).met = w.met ∙ ap (λ (z : WorkPass). (pass_view z).met) is in
    let parts : v.parts ≡ (pass_view p).parts = w.parts ∙ ap (λ (z : WorkPass). (pass_view z).parts) is in
    let all : v.parts ≡ all_parts = (let a = h.parts in let b = parts in omega (arith, a, b)) in
    let now : told' ≡ told_by told (map (reported c) v.hand.taken) = now' ∙ ap (told_by told) w.worker.did in
    let here : AreTold c told' v.hand.taken =
    subst (λ (ts : List ℕ). AreTold c ts v.hand.taken) (sym now) (told_each c told v.hand.taken h.many) in
    let before : EachHand (λ g. AreTold c told' g.taken) (pass_view p).met =
    each_hand {P = λ g. AreTold c told g.taken} {Q = λ g. AreTold c told' g.taken} (λ g (s : AreTold c told g.taken) z in'.
    subst (λ (ts : List ℕ). get_or ts z.event 0 ≡ get_or c z.event 0) (sym now) (told_stays c told v.hand.taken z.event h.many (s z in')))
    (pass_view p).met h.each in
    let each : EachHand (λ g. AreTold c told' g.taken) (hands v) =
    (here, subst (λ (hs : List Hand). EachHand (λ g. AreTold c told' g.taken) hs) (sym met) before) in
    let order : map item_in t.puts ≡ map item_in t.takes =
    t.order ∙ ap (λ (xs : List Item). map item_in t.takes ++ xs) (nothing was.0 was.1) ∙ append-nil (map item_in t.takes) in
    same_reports c told' items (λ z in'.
    let k : ℕ = z.cpu.0 % workers in
    let below : k < workers = omega (arith, some) in
    let own : Has z (own_items workers k items) =
    has_own (λ (u : Item). (u.cpu.0 % workers) == k) z items (eq-eqb k k refl) in' in
    let put : SomePut (own_items workers k items) (hands v) =
    inr (subst (λ (hs : List Hand). SomePut (own_items workers k items) hs) (sym met) (h.put k (omega arith) below)) in
    let taken : Has z (map item_in t.takes) =
    subst (λ (xs : List Item). Has z xs) order (has_put t.puts t.takes (own_items workers k items) (hands v) z t.did put own) in
    let by = taken_by_one t.takes (hands v) z (t.taken_by all) taken in
    told_by_some t.puts t.takes c told' (hands v) by.0 z t.did each by.1 by.2)
  where
    nothing : (xs : List Item) → length xs ≡ 0 → xs ≡ []
    nothing [] e = refl
    nothing (x ∷ xs) e = absurd (omega (arith, e))

-- ---- steps of loops

-- setting the count of the next audited item tells of the items up to it and that one
pub told_step : (first told told' : List ℕ) (done : List Audited) (k : ℕ) (d : Audited) → k < length done → told ≡ told_by first (take k done) →
    told' ≡ set told (get_or done k d).item.event (get_or done k d).waiting → told' ≡ told_by first (take (k + 1) done)
told_step first told told' done k d lt before is =
    is ∙ ap (λ (t : List ℕ). set t (get_or done k d).item.event (get_or done k d).waiting) before ∙ sym (told_more first (take k done) (get_or done k d))
    ∙ ap (told_by first) (sym (take_more done k d lt))

-- an audited item whose event lies behind the end of the counts changes nothing of what is told
pub told_not : (first told told' : List ℕ) (done : List Audited) (k : ℕ) (d : Audited) → k < length done → told ≡ told_by first (take k done) →
    length told ≤ (get_or done k d).item.event → told' ≡ told → told' ≡ told_by first (take (k + 1) done)
told_not first told told' done k d lt before far is =
    told_step first told told' done k d lt before (is ∙ sym (told_beyond told (get_or done k d).item.event (get_or done k d).waiting far))

-- the last of the workers goes
pub met_one : (q : WorkQueue) (c : List ℕ) (items : List Item) (workers : ℕ) (team rest : List Worker) (told told' : List ℕ) (p p' : WorkPass) (w : Worker) →
    HasMet q c items workers (length team) told p → HaveWorked q c items workers team → team ≡ rest ++ w ∷ [] → IsOk w.answer →
    told' ≡ told_by told w.done.items → IsOf q p' → pass_view p' ≡ met_by (pass_view p) (pass_view w.pass) →
    HasMet q c items workers (length rest) told' p'
met_one q c items workers team rest told told' p p' w h each is ok now of' met =
    let long : length team ≡ length rest + 1 = ap (λ (ws : List Worker). length ws) is ∙ length_push rest w in
    let last : get_or team (length rest) w ≡ w = ap (λ (ws : List Worker). get_or ws (length rest) w) is ∙ get_or-append_seam rest w [] w in
    let worked : HasWorked q c (own_items workers (length rest) items) w =
    subst (λ (v : Worker). HasWorked q c (own_items workers (length rest) items) v) last (each (length rest) w (omega (arith, long))) in
    met_more q c items workers (length rest) told told' p p' w
    (subst (λ (m : ℕ). HasMet q c items workers m told p) (long ∙ omega arith) h)
    (on_ok w.answer (HasPut q c (own_items workers (length rest) items) w) worked ok)
    now of' met
  where
    on_ok : (r : Result (Unit {0}) AllocError) (P : Type 0) → OnOk r P → IsOk r → P
    on_ok (Ok x) P h k = h
    on_ok (Err x) P h k = absurd cc

-- if a team has put its items, so have all of it but the last worker
pub rest_worked : (q : WorkQueue) (c : List ℕ) (items : List Item) (workers : ℕ) (team rest : List Worker) (w : Worker) → HaveWorked q c items workers team →
    team ≡ rest ++ w ∷ [] → HaveWorked q c items workers rest
rest_worked q c items workers team rest w each is k d lt =
    let long : length team ≡ length rest + 1 = ap (λ (ws : List Worker). length ws) is ∙ length_push rest w in
    subst (λ (v : Worker). HasWorked q c (own_items workers k items) v)
    (ap (λ (ws : List Worker). get_or ws k d) is ∙ get_or-append rest (w ∷ []) d k lt) (each k d (omega (arith, long, lt)))
