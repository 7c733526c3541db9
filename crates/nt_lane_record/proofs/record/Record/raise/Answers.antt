use Rattle.std.proofs.Common.{ap, get_or, max, sym, ◌*◌, ◌+◌, ◌∙◌}
use Rattle.std.specs.Prelude.{List, ℕ, ◌<◌, ◌≡◌}
use Rattle.nt_event.specs.LaneStates.{told_at}
use Rattle.nt_event.specs.Lists.{value_at}
use Rattle.nt_event.proofs.Tables.{table-same}
use Rattle.nt_lane_record.specs.Records.{LaneRecord}
use Rattle.nt_lane_record.proofs.Rows.{rows_tell}
use Rattle.nt_lane_record.proofs.record.Record.raise.Goals as goal

pub returns : goal.returns
returns g c =
    let old : ℕ → ℕ = λ k. value_at c.args.values.now k in
    let read : (k : ℕ) → get_or c.as_slice.result.now (c.from-first.result * 16 + k) 0 ≡ get_or c.self.inside.told.items (c.args.p.0 * 16 + k) 0 = λ k.
    ap (λ (xs : List ℕ). value_at xs (c.from-first.result * 16 + k)) c.as_slice.ensures.value
    ∙ ap (λ (n : ℕ). value_at c.self.inside.told.items (n * 16 + k)) c.from-first.ensures in
    let rows : (k : ℕ) → k < 16 → get_or c.self.inside.told.items (c.args.p.0 * 16 + k) 0 ≡ told_at c.args.self.now.told c.args.p k = λ k h.
    sym (rows_tell g.N.Plan.script.cpus c.self.inside.told.items c.args.p k c.requires h)
    ∙ ap (λ (t : List (List ℕ)). told_at t c.args.p k) (ap (λ (r : LaneRecord). r.told) c.self.view_is) in
    c.raise_from.ensures
    ∙ table-same 16 (λ k. max (get_or c.as_slice.result.now (c.from-first.result * 16 + k) 0) (old k))
    (λ k. max (told_at c.args.self.now.told c.args.p k) (old k)) (λ k h. ap (λ (v : ℕ). max v (old k)) (read k ∙ rows k h))
