-- The robin rule, by what the processors keep and the floor tells.
use Rattle.std.proofs.Common.{ap, arith, subst, sym, ◌∙◌}
use Rattle.std.proofs.lemmas.Bool.{not-true}
use Rattle.std.proofs.lemmas.Bool.Decides.{nat_tests}
use Rattle.std.specs.List.{list_all, list_any}
use Rattle.std.specs.Option.{option_or}
use Rattle.std.specs.Prelude.{Bool, IfSome, List, None, Option, Some, false, if◌then◌else◌, is_none, is_some, nat_lt, not, option_map, refl, suc, true, ℕ, ◌&&◌}
use Rattle.std.specs.Prelude.{◌<◌, ◌≡◌}
use Rattle.nt_event.specs.declared.events.Event.{Event}
use Rattle.nt_event.specs.declared.events.Rises.{Rises}
use Rattle.nt_event.specs.declared.events.Turn.{Turn}
use Rattle.nt_event.specs.declared.events.Turn.TheVariants.{Look as LookTurn, Next as NextTurn, Switch as SwitchTurn}
use Rattle.nt_event.specs.declared.numbers.CpuNo.{CpuNo}
use Rattle.nt_event.specs.declared.numbers.ThreadNo.{ThreadNo}
use Rattle.nt_event.specs.declared.scripts.Script.{Script}
use Rattle.nt_event.specs.Jobs.{is_still, may_switch, next_ready}
use Rattle.nt_event.specs.Lanes.{Lanes, lanes_at}
use Rattle.nt_event.specs.Own.{Own, own_of}
use Rattle.nt_event.specs.Requests.{asked, seen}
use Rattle.nt_event.specs.Robin.{go_on_turn, is_behind, is_done_with, look_value, look_values, robin_at, robin_from, robin_of, switch_or_next}
use Rattle.nt_event.specs.Script.{has_cpu}
use Rattle.nt_event.specs.Step.{IsRun, is_cut}
use Rattle.nt_event.specs.Numbers.{cpu}
use Rattle.nt_event.specs.Lists.{table_from, value_at, when}
use Rattle.nt_runs.proofs.Settled.{robin_of_done, seen_below}
use Rattle.nt_event.proofs.Options.{when_gives}
use Rattle.nt_event.proofs.Tables.{get_or-table, table-same}
use Rattle.nt_floor.specs.Views.{View}
use Rattle.nt_cpu.specs.Runs.{Follows, state_of}
use Rattle.nt_cpu.specs.States.{CpuState}
use Rattle.nt_cpu.specs.Steps.{SeenWithin}
use Rattle.nt_cpus.specs.Cycles.{next_cpu}
use Rattle.nt_cpus.specs.Steps.{CpuChoice, RobinChoice, chosen_turn, found_values, look_of, step_turn}
use Rattle.nt_cpu.specs.declared.choice.Choice.TheVariants.{Look, Next, Switch}

-- ---- the turn of one processor

-- the turn, by the values of a look
abbrev by_values : Script → CpuNo → Own → Lanes → List ℕ → Option Turn
by_values s p x l vs =
    if list_any (λ v. nat_lt 0 v) vs then Some (LookTurn p (record { value = vs })) else (if is_still x then None else Some (go_on_turn s p x l))

-- two ways to tell what was asked that agree on the sixteen classes give the same values of a look
same_values : (x : Own) (f g : ℕ → ℕ) → ((k : ℕ) → k < 16 → f k ≡ g k) → look_values x f ≡ look_values x g
same_values x f g h =
    table-same 16 (look_value x f) (look_value x g) (λ k b. ap (λ (n : ℕ). if nat_lt (value_at x.seen k) n then n else 0) (h k b))

-- what a look finds, by what the processor and the floor have
pub values_found : (s : Script) (limit : ℕ) (p : CpuNo) (past : List Event) (c : CpuState) (v : View) → p.0 < s.cpus → Follows s past v →
    c ≡ state_of s p limit past → look_values c.own (v.value p) ≡ found_values s p past
values_found s limit p past c v b h k =
    let own : c.own ≡ own_of s p past = ap (λ (x : CpuState). x.own) k in
    let cpus = h.cpus in
    ap (λ (x : Own). look_values x (v.value p)) own
    ∙ same_values (own_of s p past) (v.value p) (λ n. asked s p n past) (λ n m. h.value p n (omega arith, m))

-- the same, by the values that the floor gave
pub values_given : (s : Script) (limit : ℕ) (p : CpuNo) (past : List Event) (c : CpuState) (v : View) (values : List ℕ) → p.0 < s.cpus → Follows s past v →
    c ≡ state_of s p limit past → ((k : ℕ) → k < 16 → value_at values k ≡ v.value p k) → look_values c.own (value_at values) ≡ found_values s p past
values_given s limit p past c v values b h k g =
    same_values c.own (value_at values) (v.value p) g ∙ values_found s limit p past c v b h k

-- a processor has seen no more than was asked for
pub seen_within : (s : Script) (limit : ℕ) (p : CpuNo) (past : List Event) (c : CpuState) (v : View) → p.0 < s.cpus → IsRun s limit past → Follows s past v →
    c ≡ state_of s p limit past → SeenWithin c.own (v.value p)
seen_within s limit p past c v b r h k n m =
    let cpus = h.cpus in
    let value = h.value p n (omega arith, m) in
    let own : value_at c.own.seen n ≡ value_at (own_of s p past).seen n = ap (λ (x : CpuState). value_at x.own.seen n) k in
    let kept : value_at (own_of s p past).seen n ≡ seen s p n past = get_or-table 16 n (λ i. seen s p i past) 0 m in
    let below = seen_below s limit p n past r in
    omega (arith, value, own, kept, below)

-- the rule's turn of an uncut processor is what the processor and the floor give
pub robin_found : (s floor : Script) (limit : ℕ) (p : CpuNo) (past : List Event) (c : CpuState) (v : View) (l : Lanes) → p.0 < s.cpus → Follows s past v →
    v.states ≡ Some l → floor ≡ s → c ≡ state_of s p limit past → is_cut limit (own_of s p past) ≡ false → robin_at floor p c.own l (v.value p)
    ≡ robin_of s limit p past
robin_found s floor limit p past c v l b h i e k u =
    let lanes : l ≡ lanes_at s past = (let i : ◌≡◌ {A = Option Lanes} (Some l) (Some (lanes_at s past)) = sym i ∙ h.states in cc) in
    let own : c.own ≡ own_of s p past = ap (λ (x : CpuState). x.own) k in
    let cpus = h.cpus in
    let values : (n : ℕ) → n < 16 → v.value p n ≡ asked s p n past = λ n m. h.value p n (omega arith, m) in
    ap (λ (z : Script). robin_at z p c.own l (v.value p)) e
    ∙ (ap (λ (x : Own). robin_at s p x l (v.value p)) own
    ∙ (ap (λ (m : Lanes). robin_at s p (own_of s p past) m (v.value p)) lanes
    ∙ (ap (by_values s p (own_of s p past) (lanes_at s past)) (same_values (own_of s p past) (v.value p) (λ n. asked s p n past) values)
    ∙ sym (ap (λ (z : Bool). when (not z) (robin_at s p (own_of s p past) (lanes_at s past) (λ n. asked s p n past))) u))))

-- the turn, by the tests
abbrev by_tests : Script → CpuNo → Own → Lanes → (ℕ → ℕ) → Bool → Bool → Option Turn
by_tests s p x l asked b r =
    if b then Some (LookTurn p (record { value = look_values x asked })) else (if r then None else Some (go_on_turn s p x l))

-- the robin rule looks if the processor is behind, and else goes on unless it is still
tested : (s : Script) (p : CpuNo) (x : Own) (l : Lanes) (asked : ℕ → ℕ) (b r : Bool) → is_behind x asked ≡ b → is_still x ≡ r → robin_at s p x l asked
    ≡ by_tests s p x l asked b r
tested s p x l asked b r i k =
    ap (λ (z : Bool). by_tests s p x l asked z (is_still x)) i ∙ ap (by_tests s p x l asked b) k

-- it looks
pub looks_turn : (s : Script) (p : CpuNo) (x : Own) (l : Lanes) (asked : ℕ → ℕ) → is_behind x asked ≡ true →
    Some (LookTurn p (record { value = look_values x asked })) ≡ robin_at s p x l asked
looks_turn s p x l asked b = sym (tested s p x l asked true (is_still x) b refl)

-- it rests or spins still
pub rests_turn : (s : Script) (p : CpuNo) (x : Own) (l : Lanes) (asked : ℕ → ℕ) → is_behind x asked ≡ false → is_still x ≡ true → None
    ≡ robin_at s p x l asked
rests_turn s p x l asked b r = sym (tested s p x l asked false true b r)

-- it goes on
pub goes_turn : (s : Script) (p : CpuNo) (x : Own) (l : Lanes) (asked : ℕ → ℕ) (t : Turn) → is_behind x asked ≡ false → is_still x ≡ false → t
    ≡ go_on_turn s p x l → Some t ≡ robin_at s p x l asked
goes_turn s p x l asked t b r e = ap (λ (u : Turn). Some u) e ∙ sym (tested s p x l asked false false b r)

-- what goes on doesn't look
goes_no_look : (s : Script) (p q : CpuNo) (x : Own) (l : Lanes) (r : Rises) → Some (go_on_turn s p x l) ≡ Some (LookTurn q r) → ⊥
goes_no_look s p q x l r e = go (may_switch x) (next_ready s p x.took l) e
  where
    go : (b : Bool) (o : Option ThreadNo) → Some (if b then switch_or_next p o else NextTurn p) ≡ Some (LookTurn q r) → ⊥
    go true (Some t) e = cc
    go true None e = cc
    go false o e = cc

-- where the rule has it look, it isn't cut and is behind
pub look_behind : (s : Script) (limit : ℕ) (p q : CpuNo) (past : List Event) (r : Rises) → robin_of s limit p past ≡ Some (LookTurn q r) →
    (is_cut limit (own_of s p past) ≡ false) × (is_behind (own_of s p past) (λ c. asked s p c past) ≡ true)
look_behind s limit p q past r e =
    let x = own_of s p past in
    let l = lanes_at s past in
    let known : ℕ → ℕ = λ c. asked s p c past in
    let found = when_gives (not (is_cut limit x)) (robin_at s p x l known) (LookTurn q r) e in
    (not-true (is_cut limit x) found.0, go (is_behind x known) (is_still x) refl refl found.1)
  where
    go : (b c : Bool) → is_behind (own_of s p past) (λ c. asked s p c past) ≡ b → is_still (own_of s p past) ≡ c →
        robin_at s p (own_of s p past) (lanes_at s past) (λ c. asked s p c past) ≡ Some (LookTurn q r) →
        is_behind (own_of s p past) (λ c. asked s p c past) ≡ true
    go true c h k f = h
    go false true h k f =
        let none : None ≡ Some (LookTurn q r) = rests_turn s p (own_of s p past) (lanes_at s past) (λ c. asked s p c past) h k ∙ f in
        absurd cc
    go false false h k f =
        absurd (goes_no_look s p q (own_of s p past) (lanes_at s past) r
        (goes_turn s p (own_of s p past) (lanes_at s past) (λ c. asked s p c past) (go_on_turn s p (own_of s p past) (lanes_at s past)) h k refl ∙ f))

-- the same, by what the processor keeps and the floor tells; and what it finds is what the rule says
pub look_ready : (s : Script) (limit : ℕ) (p : CpuNo) (past : List Event) (x : CpuState) (v : View) → p.0 < s.cpus → Follows s past v →
    x ≡ state_of s p limit past → robin_of s limit p past ≡ Some (look_of s p past) → (is_cut x.limit x.own ≡ false) × (is_behind x.own (v.value x.cpu) ≡ true)
look_ready s limit p past x v b f h e =
    let ready = look_behind s limit p p past (record { value = found_values s p past }) e in
    let y = state_of s p limit past in
    let found = values_found s limit p past y v b f refl in
    subst (λ (x : CpuState). (is_cut x.limit x.own ≡ false) × (is_behind x.own (v.value x.cpu) ≡ true)) (sym h)
    (ready.0, ap (list_any (λ v. nat_lt 0 v)) found ∙ ready.1)

-- what holds of all lanes holds of the lanes that are found, if any are
pub every_lanes : {P : Lanes → Type 0} (o : Option Lanes) → ((l : Lanes) → P l) → IfSome o P
every_lanes {P} None h = tt
every_lanes {P} (Some l) h = h l

-- if one property of lanes gives another, then lanes that are found and have the one have the other
pub those_lanes : {P Q : Lanes → Type 0} (o : Option Lanes) → ((l : Lanes) → P l → Q l) → IfSome o P → IfSome o Q
those_lanes {P} {Q} None h i = tt
those_lanes {P} {Q} (Some l) h i = h l i

-- ---- the turn of a step

-- where the robin rule chose a look, its turn is the look of that processor with the values found
pub look_chosen : (s : Script) (past : List Event) (c : CpuChoice) (u : Unit {0}) → c.1 ≡ Look u → chosen_turn s past c ≡ look_of s c.0 past
look_chosen s past c u h = ap (step_turn c.0 (found_values s c.0 past)) h

-- where the robin rule chose a switch to a thread, its turn is that processor's switch to that thread
pub switch_chosen : (s : Script) (past : List Event) (c : CpuChoice) (t : ThreadNo) → c.1 ≡ Switch t → chosen_turn s past c ≡ SwitchTurn c.0 t
switch_chosen s past c t h = ap (step_turn c.0 (found_values s c.0 past)) h

-- where the robin rule chose the next event, its turn is the next one of that processor
pub next_chosen : (s : Script) (past : List Event) (c : CpuChoice) → c.1 ≡ Next → chosen_turn s past c ≡ NextTurn c.0
next_chosen s past c h = ap (step_turn c.0 (found_values s c.0 past)) h

-- a step was found, or none
pub some_step : (s : Script) (p : CpuNo) (past : List Event) (o : Option RobinChoice) (x : RobinChoice) (t : Option Turn) → o ≡ Some x →
    option_map (step_turn p (found_values s p past)) o ≡ t → t ≡ Some (step_turn p (found_values s p past) x)
some_step s p past o x t h e = sym e ∙ ap (λ (z : Option RobinChoice). option_map (step_turn p (found_values s p past)) z) h

-- where the robin rule found no choice for a processor, the processor has no turn
pub no_step : (s : Script) (p : CpuNo) (past : List Event) (o : Option RobinChoice) (t : Option Turn) → o ≡ None →
    option_map (step_turn p (found_values s p past)) o ≡ t → t ≡ None
no_step s p past o t h e = sym e ∙ ap (λ (z : Option RobinChoice). option_map (step_turn p (found_values s p past)) z) h

-- ---- the cycle

-- the first of n processors has no turn
pub robin_next : (s : Script) (limit n p : ℕ) (past : List Event) → robin_of s limit (cpu p) past ≡ None → robin_from s limit (suc n) p past
    ≡ robin_from s limit n (next_cpu s p) past
robin_next s limit n p past h = ap (λ (o : Option Turn). option_or o (robin_from s limit n (next_cpu s p) past)) h

-- it has one
pub robin_here : (s : Script) (limit n p : ℕ) (past : List Event) (t : Turn) → robin_of s limit (cpu p) past ≡ Some t → robin_from s limit (suc n) p past
    ≡ Some t
robin_here s limit n p past t h = ap (λ (o : Option Turn). option_or o (robin_from s limit n (next_cpu s p) past)) h

-- a processor below the count has the rule's turn
pub present : (s : Script) (p : CpuNo) (o : Option Turn) → p.0 < s.cpus → when (has_cpu s p) o ≡ o
present s p o h = let b : has_cpu s p ≡ true = grind (arith, nat_tests) in ap (λ (z : Bool). when z o) b

-- ---- settled

-- the processors from this one on are done with
abbrev pub are_done : Script → ℕ → ℕ → ℕ → List Event → Bool
are_done s limit p n past = list_all (λ done. done) (table_from p n (λ q. is_done_with s limit (cpu q) past))

-- of no processors all are done
pub done_none : (s : Script) (limit p : ℕ) (past : List Event) → are_done s limit p 0 past ≡ true
unfolding table_from
done_none s limit p past = refl

-- the processors from one on are done if that one is and those after it are
done_step : (s : Script) (limit p n : ℕ) (past : List Event) (b : Bool) → is_done_with s limit (cpu p) past ≡ b → are_done s limit p (suc n) past
    ≡ (b && are_done s limit (suc p) n past)
unfolding table_from
done_step s limit p n past b h = ap (λ (z : Bool). z && are_done s limit (suc p) n past) h

-- an option is none exactly if it is not some
is_none_some : (o : Option Turn) (b : Bool) → is_some o ≡ b → is_none o ≡ not b
is_none_some None b h = rw (sym h) refl
is_none_some (Some t) b h = rw (sym h) refl

-- this processor has a turn, or it has none
pub done_here : (s : Script) (limit p n : ℕ) (past : List Event) (o : Option Turn) (b : Bool) → IsRun s limit past → o ≡ robin_of s limit (cpu p) past →
    is_some o ≡ b → are_done s limit p (suc n) past ≡ (not b && are_done s limit (suc p) n past)
done_here s limit p n past o b r h i =
    done_step s limit p n past (not b)
    (sym (robin_of_done s limit (cpu p) past r) ∙ (ap (λ (z : Option Turn). is_none z) (sym h) ∙ is_none_some o b i))
