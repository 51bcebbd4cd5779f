-- What a problem keeps with rules, or with a bound.
use Rattle.std.proofs.Common.{◌≡◌, ◌↔◌, ℕ, ◌<◌, ◌+◌, List, [], ◌++◌, refl, sym, ap, ◌∙◌, subst}
use Rattle.std.specs.Prelude.{All}
use Rattle.std.proofs.lemmas.List.{append-nil}
use Rattle.std.proofs.lemmas.List.Elements.{All-nil, All-cons, All-append, All-map, All-weaker}
use Rattle.xdg_problem.specs.declared.analysis.Analysis.{Analysis}
use Rattle.xdg_problem.specs.declared.conditions.Condition.TheVariants as conditions
use Rattle.xdg_problem.specs.declared.formula.Formula.{Formula}
use Rattle.xdg_problem.specs.declared.parts.Group.{Group}
use Rattle.xdg_problem.specs.declared.parts.Parts.{Parts}
use Rattle.xdg_problem.specs.declared.parts.Principle.TheVariants as principles
use Rattle.xdg_problem.specs.Analyses.{IsAnalysis}
use Rattle.xdg_problem.specs.Claims.{Suits}
use Rattle.xdg_problem.specs.Costs.{CostLists, cost_of, total_cost}
use Rattle.xdg_problem.specs.Further.{use_of, rules_of, bound_of, with_uses, FurtherLaws}
use Rattle.xdg_problem.specs.Problems.{IsGroup, IsProblem}
use Rattle.xdg_problem.specs.Relations.{IsKept, Relation}
use Rattle.xdg_problem.specs.Solutions.{IsSolution}
use Rattle.xdg_problem.specs.Truths.{FormulaHolds}
use Rattle.xdg_problem.specs.Vectors.{entry_places, entries_at}
use Rattle.xdg_problem.proofs.EntryPlaces.{entry_places_back}
use Rattle.xdg_problem.proofs.FurtherUses.{rule_is, bound_is, problem_still, fits_still, relation_still}
use Rattle.xdg_facts.proofs.Each.{all_mapped, one_kept}
use Rattle.xdg_facts.proofs.Lists.{all_before, all_behind}

-- what holds of each of two lists, one behind the other

-- the entries whose places among the candidates an analysis gives are its entries
pub entries_same : (parts : Parts) (analysis : Analysis) → IsAnalysis parts analysis → entries_at parts.candidates (entry_places parts.candidates analysis.entries) ≡ analysis.entries
entries_same parts analysis is = ap (entries_at parts.candidates) (sym (append-nil _)) ∙ entry_places_back parts.candidates analysis.entries [] is.entries

-- the relation of a rule is that its formula is true
pub rule_relation : (parts : Parts) (formula : Formula) (analysis : Analysis) → Relation parts (use_of parts (principles.Rule formula)) analysis ↔ FormulaHolds parts analysis formula
rule_relation parts formula analysis =
    let group = use_of parts (principles.Rule formula) in
    let one = one_kept (IsKept parts group (entry_places parts.candidates analysis.entries) analysis.attrs analysis.edges) conditions.Rule in (
      λ relation. one.1 relation [] refl,
      λ holds. one.0 (λ tuple is. holds),
    )

-- the relation of a bound is that the cost is below it
pub bound_relation : (parts : Parts) (costs : CostLists) (bound : ℕ) (analysis : Analysis) → IsAnalysis parts analysis → Relation parts (use_of parts (principles.Bound costs bound)) analysis ↔ (cost_of costs analysis < bound)
bound_relation parts costs bound analysis is =
    let group = use_of parts (principles.Bound costs bound) in
    let one = one_kept (IsKept parts group (entry_places parts.candidates analysis.entries) analysis.attrs analysis.edges) conditions.Bound in
    let same = entries_same parts analysis is in (
      λ relation. subst (λ entries. total_cost costs entries analysis.edges < bound) same (one.1 relation [] refl),
      λ below. one.0 (λ tuple none. subst (λ entries. total_cost costs entries analysis.edges < bound) (sym same) below),
    )

module _ (parts : Parts) (uses : List Group) (More : Analysis → Type 0) (problem : IsProblem parts) (each : All (IsGroup parts) uses) (more : (analysis : Analysis) → IsAnalysis parts analysis → All (λ group. Relation parts group analysis) uses ↔ More analysis) where
  solution_before : (analysis : Analysis) → IsSolution (with_uses parts uses) analysis → IsSolution parts analysis × More analysis
  solution_before analysis solution =
      let fits = (fits_still parts uses analysis).0 solution.fits in
      let all = All-weaker (λ group. Relation (with_uses parts uses) group analysis) (λ group. Relation parts group analysis) (λ group relation. (relation_still parts uses group analysis).0 relation) (parts.groups ++ uses) solution.each in
      (record { fits = fits; each = all_before (λ group. Relation parts group analysis) parts.groups uses all }, (more analysis fits).0 (all_behind (λ group. Relation parts group analysis) parts.groups uses all))

  solution_still : (analysis : Analysis) → IsSolution parts analysis × More analysis → IsSolution (with_uses parts uses) analysis
  solution_still analysis both = record {
    fits = (fits_still parts uses analysis).1 both.0.fits;
    each = All-weaker (λ group. Relation parts group analysis) (λ group. Relation (with_uses parts uses) group analysis) (λ group relation. (relation_still parts uses group analysis).1 relation) (parts.groups ++ uses)
        (All-append (λ group. Relation parts group analysis) parts.groups uses both.0.each ((more analysis both.0.fits).1 both.1));
  }

  lawful : FurtherLaws parts uses More
  lawful = record {
    problem = problem_still parts uses problem each;
    fits = fits_still parts uses;
    vectors = λ analysis. refl;
    solutions = λ analysis. (solution_before analysis, solution_still analysis);
  }

-- rules

rules_are : (parts : Parts) (formulas : List Formula) → IsProblem parts → All (Suits parts) formulas → All (IsGroup parts) (rules_of parts formulas)
rules_are parts formulas problem suit = All-map (IsGroup parts) (λ formula. use_of parts (principles.Rule formula)) formulas (All-weaker (Suits parts) (λ formula. IsGroup parts (use_of parts (principles.Rule formula))) (rule_is parts problem) formulas suit)

rules_relations : (parts : Parts) (formulas : List Formula) (analysis : Analysis) → All (λ group. Relation parts group analysis) (rules_of parts formulas) ↔ All (FormulaHolds parts analysis) formulas
rules_relations parts formulas analysis = all_mapped (λ group. Relation parts group analysis) (FormulaHolds parts analysis) (λ formula. use_of parts (principles.Rule formula)) formulas (λ formula. rule_relation parts formula analysis)

pub rules_lawful : (parts : Parts) (formulas : List Formula) → IsProblem parts → All (Suits parts) formulas → FurtherLaws parts (rules_of parts formulas) (λ analysis. All (FormulaHolds parts analysis) formulas)
rules_lawful parts formulas problem suit = lawful parts (rules_of parts formulas) (λ analysis. All (FormulaHolds parts analysis) formulas) problem (rules_are parts formulas problem suit) (λ analysis fits. rules_relations parts formulas analysis)

pub rules_problem : (self old made : Parts) (formulas : List Formula) → IsProblem self → All (Suits self) formulas → old ≡ self → made ≡ with_uses old (rules_of old formulas) → IsProblem made
rules_problem self old made formulas problem suit same is = subst IsProblem (sym (is ∙ ap (λ (z : Parts). with_uses z (rules_of z formulas)) same)) (problem_still self (rules_of self formulas) problem (rules_are self formulas problem suit))

-- a bound

bound_are : (parts : Parts) (costs : CostLists) (bound : ℕ) → IsProblem parts → All (IsGroup parts) (bound_of parts costs bound)
bound_are parts costs bound problem = All-cons (IsGroup parts) (use_of parts (principles.Bound costs bound)) [] (bound_is parts problem costs bound) (All-nil (IsGroup parts))

bound_relations : (parts : Parts) (costs : CostLists) (bound : ℕ) (analysis : Analysis) → IsAnalysis parts analysis → All (λ group. Relation parts group analysis) (bound_of parts costs bound) ↔ (cost_of costs analysis < bound)
bound_relations parts costs bound analysis fits =
    let one = one_kept (λ group. Relation parts group analysis) (use_of parts (principles.Bound costs bound)) in
    let here = bound_relation parts costs bound analysis fits in
    (λ all. here.0 (one.1 all), λ below. one.0 (here.1 below))

pub bound_lawful : (parts : Parts) (costs : CostLists) (bound : ℕ) → IsProblem parts → FurtherLaws parts (bound_of parts costs bound) (λ analysis. cost_of costs analysis < bound)
bound_lawful parts costs bound problem = lawful parts (bound_of parts costs bound) (λ analysis. cost_of costs analysis < bound) problem (bound_are parts costs bound problem) (bound_relations parts costs bound)

pub bound_problem : (self old made : Parts) (costs : CostLists) (bound : ℕ) → IsProblem self → old ≡ self → made ≡ with_uses old (bound_of old costs bound) → IsProblem made
bound_problem self old made costs bound problem same is = subst IsProblem (sym (is ∙ ap (λ (z : Parts). with_uses z (bound_of z costs bound)) same)) (problem_still self (bound_of self costs bound) problem (bound_are self costs bound problem))
