-- Briefs that are found equal are the same.
use Rattle.std.proofs.Common.{subst, sym, ◌∙◌}
use Rattle.std.specs.Prelude.{Bool, IsTrue, true, ◌↔◌, ◌≡◌}
use Rattle.nt_event.proofs.Options.{both}
use Rattle.nt_history.specs.contracts.brief.BriefEq.TheImpl.Laws.{laws-law}
use Rattle.nt_history.specs.contracts.brief.BriefPartialEq.TheImpl as brief_eq
use Rattle.nt_history.specs.contracts.brief.Did as did
use Rattle.nt_history.specs.contracts.brief.DidPartialEq.TheImpl as did_eq
use Rattle.nt_history.specs.contracts.brief.Noticed as noticed
use Rattle.nt_history.specs.contracts.brief.NoticedPartialEq.TheImpl as noticed_eq
use Rattle.nt_history.specs.declared.brief.Brief.{Brief}
use Rattle.nt_history.proofs.Same.{Same, enum_same, nat_same, none_same, one_same, option_same, three_same, two_same}
use Rattle.nt_history.proofs.SameParts.{apc_same, begun_same, command_same, cpu_same, dpc_same, key_same, lock_same, reply_same, thread_same}

-- what was noticed is the same if it is found equal
noticed_same : Same noticed_eq.ghosts.eq
noticed_same = enum_same noticed.enum _ (two_same nat_same nat_same, (one_same nat_same, tt))

-- actions that are found equal are the same
did_same : Same did_eq.ghosts.eq
did_same = enum_same did.enum _ (
  three_same command_same reply_same nat_same,
  (
    one_same noticed_same,
    (
      two_same begun_same nat_same,
      (
        one_same nat_same,
        (
          one_same nat_same,
          (
            two_same key_same nat_same,
            (
              two_same dpc_same reply_same,
              (
                one_same nat_same,
                (
                  two_same thread_same (option_same nat_same),
                  (
                    two_same nat_same reply_same,
                    (two_same apc_same nat_same, (one_same thread_same, (two_same nat_same lock_same, (none_same, tt)))),
                  ),
                ),
              ),
            ),
          ),
        ),
      ),
    ),
  ),
)

-- briefs that are found equal are the same
brief_same : Same brief_eq.ghosts.eq
brief_same x y h =
    let a = both _ _ h in
    let b = both _ _ a.1 in
    let c = both _ _ b.1 in
    let cpus = cpu_same x.cpu y.cpu a.0 in
    let threads = option_same thread_same x.thread y.thread b.0 in
    let levels = nat_same x.level y.level c.0 in
    let dids = did_same x.did y.did c.1 in
    λ i. record { cpu = cpus i; thread = threads i; level = levels i; did = dids i }

-- a brief is found equal to itself
brief_self : (b : Brief) → brief_eq.ghosts.eq b b ≡ true
brief_self b = laws-law.refl b

-- the equality test of briefs answers yes exactly if the two briefs are the same
pub brief_test : (x y : Brief) (b : Bool) → b ≡ brief_eq.ghosts.eq x y → IsTrue b ↔ (x ≡ y)
brief_test x y b h = (λ t. brief_same x y (sym h ∙ t), λ k. h ∙ subst (λ (z : Brief). brief_eq.ghosts.eq x z ≡ true) k (brief_self x))
