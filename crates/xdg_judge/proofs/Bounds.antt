-- A bound is kept exactly where the cost of the analysis is below it.
use Rattle.std.proofs.Common.{◌≡◌, ◌↔◌, ℕ, ◌<◌, sym, subst}
use Rattle.std.specs.Prelude.{IsTrue, nat_lt}
use Rattle.std.proofs.lemmas.Bool.{ltb-true, lt-ltb}
use Rattle.xdg_problem.specs.declared.analysis.Analysis.{Analysis}
use Rattle.xdg_problem.specs.declared.parts.Group.{Group}
use Rattle.xdg_problem.specs.declared.parts.Parts.{Parts}
use Rattle.xdg_problem.specs.declared.parts.Principle.{Principle}
use Rattle.xdg_problem.specs.declared.parts.Principle.TheVariants as principles
use Rattle.xdg_problem.specs.Analyses.{IsAnalysis}
use Rattle.xdg_problem.specs.Asking.{AsksWhole}
use Rattle.xdg_problem.specs.Costs.{CostLists, cost_of, total_cost}
use Rattle.xdg_problem.specs.Relations.{IsKeptWhole}
use Rattle.xdg_problem.specs.Vectors.{entry_places}
use Rattle.xdg_problem.proofs.FurtherLawful.{entries_same}

pub bound_told : (parts : Parts) (group : Group) (analysis : Analysis) (costs : CostLists) (bound cost : ℕ) → IsAnalysis parts analysis → group.principle ≡ principles.Bound costs bound → cost ≡ cost_of costs analysis → IsTrue (nat_lt cost bound) ↔ IsKeptWhole parts group analysis
bound_told parts group analysis costs bound cost fits is same =
    let places = entry_places parts.candidates analysis.entries in
    let entries = entries_same parts analysis fits in
    let asks : Principle → Type 0 = λ p. AsksWhole p parts places analysis.attrs analysis.edges in (
      λ t. subst asks (sym is) (subst (λ es. total_cost costs es analysis.edges < bound) (sym entries) (subst (λ n. n < bound) same (ltb-true cost bound t))),
      λ kept. lt-ltb cost bound (subst (λ n. n < bound) (sym same) (subst (λ es. total_cost costs es analysis.edges < bound) entries (subst asks is kept))),
    )
