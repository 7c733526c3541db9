-- A pass knows the entry of an event that was made on the list of each lane that the event touches.
use Rattle.std.proofs.Common.{arith, inl, inr, subst, sym}
use Rattle.std.proofs.lemmas.List.{map-append}
use Rattle.std.proofs.lemmas.List.Elements.{Contains-append_right, Contains-push_cases}
use Rattle.std.specs.Prelude.{Contains, List, [], get_or, length, map, suc, zero, ℕ, ◌<◌, ◌∷◌, ◌≡◌, ◌⊎◌}
use Rattle.nt_event.specs.declared.events.Event.{Event}
use Rattle.nt_event.specs.declared.jobs.Lane.{Lane}
use Rattle.nt_event.specs.declared.jobs.Stand.{Stand}
use Rattle.nt_event.specs.declared.scripts.Script.{Script}
use Rattle.nt_event.specs.Lanes.{lane_number}
use Rattle.nt_event.specs.Requests.{Ask}
use Rattle.nt_event.specs.Acts.{Found}
use Rattle.nt_mark.specs.declared.view.Entry.{Entry}
use Rattle.nt_mark.specs.declared.view.Note.{Note}
use Rattle.nt_mark.specs.declared.view.View.{View}
use Rattle.nt_mark.specs.Views.{entry, note_numbers}
use Rattle.nt_lane.specs.Seats.{AreFoundOn, AreListed, IsFoundOn, IsListedOn}
use Rattle.nt_lane.specs.Tries.{HasMade}
use Rattle.nt_lane_record.proofs.Tying.{here}

-- an element of a list is its first or is in the rest
contains_cases : {A : Type 0} (y : A) (ys : List A) (x : A) → Contains (y ∷ ys) x → (y ≡ x) ⊎ Contains ys x
contains_cases {A} y ys x h = go h.0 h.1 h.2
  where
    go : (k : ℕ) → k < length (y ∷ ys) → get_or (y ∷ ys) k x ≡ x → (y ≡ x) ⊎ Contains ys x
    go zero l e = inl e
    go (suc k) l e = inr (k, omega (arith, l), e)

module _ (s : Script) (w : View) (n : ℕ) (e : Event) (st : Stand) (f : Found) where
  listed_one : (x : Lane) → IsFoundOn s w n e st f x → IsListedOn w n (lane_number s x)
  listed_one x h =
      let k = h.2 in (
        k.0,
        k.1,
        k.2,
        subst (λ (ns : List Note). Contains (note_numbers ns) n) (sym k.3)
            (subst (λ (ms : List ℕ). Contains ms n) (sym (map-append (λ (z : Note). z.number) h.0 _))
            (Contains-append_right (note_numbers h.0) (n ∷ []) n (here n))),
      )

  listed_each : (xs : List Lane) → AreFoundOn s w n e st f xs → (lane : ℕ) → Contains (map (lane_number s) xs) lane → IsListedOn w n lane
  listed_each [] h lane k = absurd (let z : k.0 < 0 = k.1 in omega (arith, z))
  listed_each (x ∷ xs) h lane k = go (listed_each xs h.1 lane) (contains_cases (lane_number s x) (map (lane_number s) xs) lane k)
    where
      go : (Contains (map (lane_number s) xs) lane → IsListedOn w n lane) → (lane_number s x ≡ lane) ⊎ Contains (map (lane_number s) xs) lane →
          IsListedOn w n lane
      go rest (inl a) = subst (λ (m : ℕ). IsListedOn w n m) a (listed_one x h.0)
      go rest (inr a) = rest a

  -- if a pass knows the event that it made on each lane touched, all its events are still listed
  pub listed_made : (xs : List Lane) (asks : List Ask) (v : View) → AreListed v → HasMade n e (map (lane_number s) xs) asks v w →
      AreFoundOn s w n e st f xs → AreListed w
  listed_made xs asks v old made found x i lane k =
      go (Contains-push_cases v.entries (entry n e (map (lane_number s) xs)) x (subst (λ (es : List Entry). Contains es x) made.entries i))
    where
      go : Contains v.entries x ⊎ (entry n e (map (lane_number s) xs) ≡ x) → IsListedOn w x.number lane
      go (inl a) = let o = old x a lane k in (o.0, made.grows.prefixes o.0 o.1, o.2, o.3)
      go (inr a) =
          subst (λ (y : Entry). Contains y.lanes lane → IsListedOn w y.number lane) a (λ b. listed_each xs found lane b) k
