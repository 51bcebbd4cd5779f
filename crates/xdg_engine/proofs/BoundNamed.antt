-- A use of a bound, and that it looks at all decisions.
use Rattle.std.proofs.Common.{◌≡◌, ℕ, List, sym, subst}
use Rattle.xdg_problem.specs.declared.parts.Group.{Group}
use Rattle.xdg_problem.specs.declared.parts.Parts.{Parts}
use Rattle.xdg_problem.specs.declared.parts.Principle.{Principle}
use Rattle.xdg_problem.specs.declared.parts.Principle.TheVariants as principles
use Rattle.xdg_propcore.specs.Kinds.{LooksAtAll}
use Rattle.xdg_engine.specs.Bounding.{HoldsBound}

pub looks_at_all : (p : Principle) (parts : Parts) (mine : ℕ) (entries labels : List (List ℕ)) → HoldsBound p parts mine entries labels → LooksAtAll p
looks_at_all (principles.Bound costs bound) parts mine entries labels holds = tt
looks_at_all p parts mine entries labels holds = absurd holds

-- the principle use that the code reads
pub bound_known : (bound : ℕ) (entries labels : List (List ℕ)) (parts now : Parts) (used group : Group) → now ≡ parts → used ≡ group → HoldsBound used.principle parts bound entries labels → HoldsBound group.principle now bound entries labels
bound_known bound entries labels parts now used group same is holds = subst (λ q. HoldsBound group.principle q bound entries labels) (sym same) (subst (λ (it : Group). HoldsBound it.principle parts bound entries labels) is holds)
