-- What formulas claim, and what is asked of all decisions together, doesn't change where a problem has further principle uses.
use Rattle.std.proofs.Common.{◌++◌, refl, subst, ◌↔◌, ℕ, List}
use Rattle.xdg_problem.specs.declared.analysis.Edge.{Edge}
use Rattle.xdg_problem.specs.declared.formula.Formula.{Formula}
use Rattle.xdg_problem.specs.declared.parts.Group.{Group}
use Rattle.xdg_problem.specs.declared.parts.Parts.{Parts}
use Rattle.xdg_problem.specs.declared.parts.Principle.{Principle}
use Rattle.xdg_problem.specs.declared.parts.Principle.TheVariants as principles
use Rattle.xdg_problem.specs.Asking.{AsksWhole}
use Rattle.xdg_problem.specs.Claims.{claim, IsOf, Suits}
use Rattle.xdg_problem.specs.Further.{with_uses}
use Rattle.xdg_problem.specs.Problems.{IsSuited}
use Rattle.xdg_problem.proofs.OtherTruths.{same_tables, is_of, true_alike}
use Rattle.xdg_problem.specs.Truths.{bound, unbound, IsTrueOf}

module _ (parts : Parts) (uses : List Group) where
  suits_still : (formula : Formula) → Suits parts formula → Suits (with_uses parts uses) formula
  suits_still formula suits = record {
    is_of = subst (IsOf (with_uses parts uses)) (same_tables (claim formula)) (is_of parts parts.candidates (parts.groups ++ uses) (λ table. table) (λ table is. record { count = is.count; each = is.each }) (claim formula) suits.is_of);
    bound = suits.bound;
  }

  pub suited_still : (principle : Principle) → IsSuited principle parts → IsSuited principle (with_uses parts uses)
  suited_still (principles.Rule formula) suits = suits_still formula suits
  suited_still principle suits = tt

  pub whole_still : (entries attrs : List ℕ) (edges : List Edge) (principle : Principle) → AsksWhole principle (with_uses parts uses) entries attrs edges ↔ AsksWhole principle parts entries attrs edges
  whole_still entries attrs edges (principles.Rule formula) = subst (λ c. IsTrueOf (with_uses parts uses) entries attrs edges c unbound ↔ IsTrueOf parts entries attrs edges (claim formula) unbound) (same_tables (claim formula))
      (true_alike parts parts.candidates (parts.groups ++ uses) (λ table. table) entries entries attrs edges (λ table v. refl) (claim formula) unbound)
  whole_still entries attrs edges principle = (λ t. t, λ t. t)
