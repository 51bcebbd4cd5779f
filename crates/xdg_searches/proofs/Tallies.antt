-- Verdicts on analyses, one analysis after another.
use Rattle.std.proofs.Common.{◌≡◌, ℕ, ◌+◌, ◌||◌, Bool, List, [], ◌∷◌, ◌++◌, refl, ap₂, arith}
use Rattle.std.specs.Prelude.{cond}
use Rattle.std.specs.List.{AllZip}
use Rattle.xdg_searches.specs.Broken.{count_broken, has_broken, is_broken}
use Rattle.xdg_searches.specs.Counted.{AreJudged}
use Rattle.xdg_judge.specs.declared.verdict.Verdict.{Verdict}
use Rattle.xdg_judge.specs.declared.verdict.Verdict.TheVariants as verdicts
use Rattle.xdg_judge.specs.Verdicts.{AreVerdicts, IsVerdict, tuple_of}
use Rattle.xdg_problem.proofs.Verdicts.{broken_fails}
use Rattle.xdg_problem.specs.declared.analysis.Analysis.{Analysis}
use Rattle.xdg_problem.specs.declared.parts.Group.{Group}
use Rattle.xdg_problem.specs.declared.parts.Parts.{Parts}

-- one analysis more
pub judged_more : (parts : Parts) (analyses : List Analysis) (judged : List (List Verdict)) (analysis : Analysis) (given : List Verdict) → AreJudged parts analyses judged → AreVerdicts parts analysis parts.groups given → AreJudged parts (analyses ++ analysis ∷ []) (judged ++ given ∷ [])
judged_more parts [] [] analysis given before here = (here, tt)
judged_more parts [] (one ∷ judged) analysis given before here = absurd before
judged_more parts (one ∷ analyses) [] analysis given before here = absurd before
judged_more parts (one ∷ analyses) (two ∷ judged) analysis given before here = (before.0, judged_more parts analyses judged analysis given before.1 here)

pub count_more : (judged : List (List Verdict)) (given : List Verdict) → count_broken (judged ++ given ∷ []) ≡ count_broken judged + cond (has_broken given) 1 0
count_more [] given = omega arith
count_more (one ∷ judged) given = let later = count_more judged given in omega (arith, later)

-- the verdicts on an analysis have a broken one or not
same_broken : (parts : Parts) (analysis : Analysis) (group : Group) (v w : Verdict) → IsVerdict parts analysis group v → IsVerdict parts analysis group w → is_broken v ≡ is_broken w
same_broken parts analysis group verdicts.Kept verdicts.Kept p q = refl
same_broken parts analysis group verdicts.Kept (verdicts.Broken c t) p q = absurd (broken_fails parts group analysis c (tuple_of t) q p)
same_broken parts analysis group (verdicts.Broken c t) verdicts.Kept p q = absurd (broken_fails parts group analysis c (tuple_of t) p q)
same_broken parts analysis group (verdicts.Broken c t) (verdicts.Broken d u) p q = refl

same_verdicts : (parts : Parts) (analysis : Analysis) (groups : List Group) (vs ws : List Verdict) → AllZip (IsVerdict parts analysis) groups vs → AllZip (IsVerdict parts analysis) groups ws → has_broken vs ≡ has_broken ws
same_verdicts parts analysis [] [] [] p q = refl
same_verdicts parts analysis [] [] (w ∷ ws) p q = absurd q
same_verdicts parts analysis [] (v ∷ vs) ws p q = absurd p
same_verdicts parts analysis (group ∷ groups) [] ws p q = absurd p
same_verdicts parts analysis (group ∷ groups) (v ∷ vs) [] p q = absurd q
same_verdicts parts analysis (group ∷ groups) (v ∷ vs) (w ∷ ws) p q =
    ap₂ (λ (x y : Bool). x || y) (same_broken parts analysis group v w p.0 q.0) (same_verdicts parts analysis groups vs ws p.1 q.1)

-- so as many of some analyses are broken
pub same_count : (parts : Parts) (analyses : List Analysis) (one other : List (List Verdict)) → AreJudged parts analyses one → AreJudged parts analyses other → count_broken one ≡ count_broken other
same_count parts [] [] [] p q = refl
same_count parts [] [] (w ∷ other) p q = absurd q
same_count parts [] (v ∷ one) other p q = absurd p
same_count parts (analysis ∷ analyses) [] other p q = absurd p
same_count parts (analysis ∷ analyses) (v ∷ one) [] p q = absurd q
same_count parts (analysis ∷ analyses) (v ∷ one) (w ∷ other) p q =
    ap₂ (λ (x : Bool) (y : ℕ). cond x 1 0 + y) (same_verdicts parts analysis parts.groups v w p.0 q.0) (same_count parts analyses one other p.1 q.1)
