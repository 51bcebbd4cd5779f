-- For which principle uses a propagator of any family stands.
use Rattle.std.specs.Prelude.{◌≡◌, ℕ, ◌<◌, List, length, slice_index_or}
use Rattle.xdg_problem.specs.declared.parts.Parts.{Parts}
use Rattle.xdg_propcore.specs.Families.{KeepsNothing}
use Rattle.xdg_propcore.specs.UseStanding as family
use Rattle.xdg_pgraph.specs.Family as graph
use Rattle.xdg_porder.specs.Family as order
use Rattle.xdg_pagree.specs.Family as agree
use Rattle.xdg_pmulti.specs.Family as multi
use Rattle.xdg_plink.specs.Family as link
use Rattle.xdg_formula_value.specs.Standing as rule
use Rattle.xdg_engine.specs.Bounding.{bound_stands}
use Rattle.xdg_engine.specs.declared.any_prop.AnyProp.{AnyProp}
use Rattle.xdg_engine.specs.declared.any_prop.AnyProp.TheVariants as any

-- for those for which it stands in its family
abbrev pub stands_for : AnyProp → Parts → ℕ → Type 0
stands_for (any.Graph p) = family.stands_for graph.IsOfFamily graph.KeepsAllowances p
stands_for (any.Order p) = family.stands_for order.IsOfFamily KeepsNothing p
stands_for (any.Agree p) = family.stands_for agree.IsOfFamily KeepsNothing p
stands_for (any.Multi p) = family.stands_for multi.IsOfFamily KeepsNothing p
stands_for (any.Link p) = family.stands_for link.IsLinking KeepsNothing p
stands_for (any.Rule p) = rule.stands_for p
stands_for (any.Cost p) = bound_stands p

-- the propagators stand for the first principle uses of the sentence, so many, one for each and in the order of the uses
pub record AreInOrder (parts : Parts) (count : ℕ) (props : List AnyProp) : Type 0 where
  pub count_is : length props ≡ count
  pub each : (number : ℕ) (p : AnyProp) → number < count → stands_for (slice_index_or props number p) parts number
