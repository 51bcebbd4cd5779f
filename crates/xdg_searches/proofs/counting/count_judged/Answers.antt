use Rattle.std.proofs.Common.{subst}
use Rattle.std.proofs.lemmas.Result.{IfOk-weaker}
use Rattle.xdg_searches.specs.Counted.{AreCounts}
use Rattle.xdg_searches.proofs.OneCount.{one_count}
use Rattle.xdg_searches.proofs.Sound.{none_broken}
use Rattle.xdg_searches.proofs.counting.count_judged.Goals as goal

pub returns-in_err-stream-clause-one : goal.returns-in_err-stream-clause-one
returns-in_err-stream-clause-one g c = one_count c.args.budget c.args.problem.now c.parts-parts.ensures.kept

pub returns-clause-counts : goal.returns-clause-counts
returns-clause-counts g c = IfOk-weaker c.count_found.result _ _ (λ counts are. subst (λ b. AreCounts b c.args.problem.now counts) c.in_ok-stream.ensures.given.2 are) c.count_found.ensures

pub returns-clause-sound : goal.returns-clause-sound
returns-clause-sound g c = IfOk-weaker c.count_found.result _ _ (λ counts are. none_broken _ _ counts are) c.count_found.ensures

pub returns-clause-one : goal.returns-clause-one
returns-clause-one g c = one_count c.args.budget c.args.problem.now c.parts-parts.ensures.kept
