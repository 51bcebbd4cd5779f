-- Problems whose dimensions and candidates are those of a grammar.
use Rattle.std.specs.Prelude.{◌≡◌, ◌<◌, length, All}
use Rattle.std.specs.List.{AllZip}
use Rattle.xdg_base.specs.declared.ids.EntryNo.{EntryNo}
use Rattle.xdg_packed.specs.Entries.{AreEntries}
use Rattle.xdg_packed.specs.Lexicon.{Lexicon}
use Rattle.xdg_problem.specs.declared.parts.DimPlan.{DimPlan}
use Rattle.xdg_problem.specs.declared.parts.Parts.{Parts}
use Rattle.xdg_types.specs.declared.table.DimType.{DimType}
use Rattle.xdg_types.specs.Table.{Table, typed}
use Rattle.xdg_formula.specs.Tables.{used_dims}
use Rattle.xdg_build.specs.Plans.{attr_plans}

-- the dimension of a problem has the name, the labels, and the attributes with their values, of a dimension of a grammar
pub record IsPlanOf (dim : DimType) (plan : DimPlan) : Type 0 where
  pub name : plan.name ≡ dim.name
  pub labels : plan.labels ≡ dim.labels
  pub attrs : plan.attrs ≡ attr_plans (typed dim.attrs)

-- The problem is one of a grammar with these types and this lexicon: its dimensions are those that are used, in their order, each entry has
-- a record of each with a value of the type of each feature, and each candidate is one of the entries.
pub record IsFor (table : Table) (lexicon : Lexicon) (parts : Parts) : Type 0 where
  pub dims : AllZip IsPlanOf (used_dims table) parts.dims
  pub entries : AreEntries table lexicon.entries
  pub candidates : All (All (λ (no : EntryNo). no.0 < length lexicon.entries)) parts.candidates
