-- Nothing that a search finds is broken.
use Rattle.std.proofs.Common.{◌≡◌, ◌∙◌, ℕ, ◌+◌, Bool, false, List, [], ◌∷◌, take, refl, ap₂}
use Rattle.std.specs.Prelude.{All, cond}
use Rattle.std.specs.List.{AllZip}
use Rattle.std.proofs.lemmas.List.Elements.{All-head, All-tail, All-take}
use Rattle.xdg_searches.specs.Broken.{count_broken, has_broken}
use Rattle.xdg_searches.specs.Counted.{AreCounts, AreJudged}
use Rattle.xdg_searches.specs.declared.counting.Counts.{Counts}
use Rattle.xdg_judge.specs.declared.verdict.Verdict.{Verdict}
use Rattle.xdg_judge.specs.declared.verdict.Verdict.TheVariants as verdicts
use Rattle.xdg_judge.specs.Verdicts.{IsVerdict, tuple_of}
use Rattle.xdg_problem.proofs.Verdicts.{broken_fails}
use Rattle.xdg_problem.specs.declared.analysis.Analysis.{Analysis}
use Rattle.xdg_problem.specs.declared.parts.Group.{Group}
use Rattle.xdg_problem.specs.declared.parts.Parts.{Parts}
use Rattle.xdg_problem.specs.Relations.{Relation}
use Rattle.xdg_problem.specs.Solutions.{IsSolution}

-- no verdict on a solution is broken
unbroken : (parts : Parts) (analysis : Analysis) (groups : List Group) (given : List Verdict) → All (λ group. Relation parts group analysis) groups → AllZip (IsVerdict parts analysis) groups given → has_broken given ≡ false
unbroken parts analysis [] [] each p = refl
unbroken parts analysis [] (v ∷ given) each p = absurd p
unbroken parts analysis (group ∷ groups) [] each p = absurd p
unbroken parts analysis (group ∷ groups) (verdicts.Kept ∷ given) each p = unbroken parts analysis groups given (All-tail (λ g. Relation parts g analysis) group groups each) p.1
unbroken parts analysis (group ∷ groups) (verdicts.Broken c t ∷ given) each p = absurd (broken_fails parts group analysis c (tuple_of t) p.0 (All-head (λ g. Relation parts g analysis) group groups each))

none_of : (parts : Parts) (analyses : List Analysis) (judged : List (List Verdict)) → All (IsSolution parts) analyses → AreJudged parts analyses judged → count_broken judged ≡ 0
none_of parts [] [] each p = refl
none_of parts [] (v ∷ judged) each p = absurd p
none_of parts (a ∷ analyses) [] each p = absurd p
none_of parts (a ∷ analyses) (v ∷ judged) each p =
    ap₂ (λ (x : Bool) (y : ℕ). cond x 1 0 + y) (unbroken parts a parts.groups v (All-head (IsSolution parts) a analyses each).each p.0) (none_of parts analyses judged (All-tail (IsSolution parts) a analyses each) p.1)

pub none_broken : (budget : ℕ) (parts : Parts) (counts : Counts) → AreCounts budget parts counts → counts.broken ≡ 0
none_broken budget parts counts are =
    are.broken_is ∙ none_of parts (take counts.analyses are.solutions) are.judged (All-take (IsSolution parts) counts.analyses are.solutions are.solutions_are.each) are.judged_are
