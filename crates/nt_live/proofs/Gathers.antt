-- What the workers did, and the turns of the robin rule behind it, are a settled run.
use Rattle.std.proofs.Common.{ap, arith, inl, refl, subst, sym, ◌∙◌}
use Rattle.std.specs.Prelude.{List, [], get_or, length, reverse, true, ℕ, ◌<◌, ◌∷◌, ◌≡◌}
use Rattle.nt_cpu.specs.States.{CpuState}
use Rattle.nt_event.specs.declared.events.Event.{Event}
use Rattle.nt_event.specs.declared.scripts.Script.{Script}
use Rattle.nt_event.specs.Numbers.{cpu}
use Rattle.nt_event.specs.Robin.{is_settled}
use Rattle.nt_event.specs.Step.{IsRun}
use Rattle.nt_mark.specs.declared.view.View.{View}
use Rattle.nt_lane_record.specs.declared.piece.Piece.{Piece}
use Rattle.nt_live.specs.Gathered.{GoesByRobin}
use Rattle.nt_live.specs.LanePieces.{ArePieces, IsGatheredWith}
use Rattle.nt_live.specs.Merging.{IsWorked}
use Rattle.nt_live.specs.Teams.{IsTeam}
use Rattle.nt_live.specs.Workers.{WorkerState}

-- a history goes on from itself by no turns of the robin rule
pub stays : (s : Script) (limit : ℕ) (h : List Event) → GoesByRobin s limit h h
stays s limit [] = refl
stays s limit (e ∷ past) = inl refl

-- what is known of the script and limit, of those that are equal
pub asked : (s t : Script) (limit n : ℕ) (es : List Event) → t ≡ s → n ≡ limit → IsRun s limit (reverse es) → IsRun t n (reverse es)
asked s t limit n es a b r =
    subst (λ (z : Script). IsRun z n (reverse es)) (sym a) (subst (λ (k : ℕ). IsRun s k (reverse es)) (sym b) r)

-- a settled run by robin turns behind a worked run with its lanes' pieces is gathered with those pieces
pub gathered_with : (s t : Script) (limit n : ℕ) (ws : List WorkerState) (es : List Event) (ps : List Piece) (h : List Event) → t ≡ s → n ≡ limit →
    IsWorked s limit ws (reverse es) → ArePieces s (reverse es) ps → IsRun t n h → is_settled t n h ≡ true → GoesByRobin t n (reverse es) h →
    IsGatheredWith s limit ws ps h
gathered_with s t limit n ws es ps h a b w pieces run settled added = (
  record {
    run = subst (λ (z : Script). IsRun z limit h) a (subst (λ (k : ℕ). IsRun t k h) b run);
    settled = subst (λ (z : Script). is_settled z limit h ≡ true) a (subst (λ (k : ℕ). is_settled t k h ≡ true) b settled);
    worked = reverse es;
    parts = w.parts;
    added = subst (λ (z : Script). GoesByRobin z limit (reverse es) h) a (subst (λ (k : ℕ). GoesByRobin t k (reverse es) h) b added);
  },
  pieces,
)

-- a history that is settled for a script and limit is so for equal ones
pub asked_settled : (s t : Script) (limit n : ℕ) (h : List Event) → t ≡ s → n ≡ limit → is_settled s limit h ≡ true → is_settled t n h ≡ true
asked_settled s t limit n h a b e =
    subst (λ (z : Script). is_settled z n h ≡ true) (sym a) (subst (λ (k : ℕ). is_settled s k h ≡ true) (sym b) e)

-- the processors of a team stand in their order
pub team_order : (s : Script) (limit : ℕ) (met : List WorkerState) (cpus : List CpuState) (v : View) (list : List (ℕ × Event)) →
    IsTeam s limit met cpus v list → (k : ℕ) (c : CpuState) → k < length cpus →
    (get_or cpus k c).cpu ≡ cpu k
team_order s limit met cpus v list t k c l =
    let count = t.count in
    let m = t.members k (record { cpu = c; view = v }) (omega (arith, l, count)) in
    ap (λ (x : CpuState). x.cpu) (m.there c) ∙ m.at
