use Rattle.std.proofs.Common.{◌≡◌, ◌<◌, List, ℕ, sym, ap, subst, ◌∙◌, Contains}
use Rattle.nt_mark.specs.declared.view.Note.{Note}
use Rattle.nt_mark.specs.declared.view.LaneList.{LaneList}
use Rattle.nt_mark.specs.Views.{first_notes}
use Rattle.nt_mark.specs.Rule.{IsAbove}
use Rattle.nt_mark.proofs.Noting.{noting, kept_of}
use Rattle.nt_mark.proofs.marks.Marks.note_as.Goals as goal

pub fetch_add-requires : goal.fetch_add-requires
fetch_add-requires g c =
    let s = c.args.keeper.now in
    let k = kept_of s.seat.me.0.kept s.lane s.word s.one_lane s.its_word in
    let p = c.requires.picked in
    let number : g.D.Noting.note.number ≡ c.args.n = ap (λ (x : Note). x.number) p in
    let d = c.requires.knows in (
      c.requires.table,
      subst (λ t. s.word < t.words) c.requires.table s.inside,
      noting _ _ _ _ k.0 g.D.Noting.note _ (sym k.3) k.1
          (subst (λ (n : ℕ). IsAbove n k.0.notes) (sym number) (subst (λ (ks : List LaneList). IsAbove c.args.n (first_notes ks)) k.1 c.requires.above))
          (d.0, d.1, d.2 ∙ sym number, subst (λ (x : ℕ). Contains d.0.lanes x) (sym k.2) d.3),
    )
