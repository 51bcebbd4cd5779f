use Rattle.std.proofs.Common.{get_or, subst, sym, ◌∙◌, ◌≡◌, arith}
use Rattle.std.specs.Prelude.{Contains}
use Rattle.std.proofs.lemmas.Bool.{false≢true}
use Rattle.xdg_problem.proofs.FitSteps.{entries_refused}
use Rattle.xdg_problem.proofs.fitting.entries_fit.Goals as goal
use Rattle.xdg_facts.proofs.Truths.{refuses}

pub returns-then-not-is_candidate : goal.returns-then-not-is_candidate
returns-then-not-is_candidate c =
    let item : c.as_slice.result.now ≡ get_or c.args.candidates.now c.loop-k.k c.index-candidates-k.result = c.as_slice.ensures ∙ c.index-candidates-k.is in (
      λ e. absurd (false≢true e),
      λ h. absurd (entries_refused c.args.candidates.now c.args.entries.now c.loop-k.k c.index-candidates-k.result (record { 0 = 0 }) (omega arith) (omega arith)
          (λ d. refuses c.is_candidate.result c.if-not-is_candidate.true c.is_candidate.ensures (subst (λ z. Contains z (get_or c.args.entries.now c.loop-k.k (record { 0 = 0 }))) (sym item) d))
          (c.loop-k.invariant.1 h)),
    )
