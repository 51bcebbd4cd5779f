-- When the other parts of a compiled sentence fit its compiled principle uses.
use Rattle.std.specs.Prelude.{◌≡◌, ℕ, List, length, slice_get, Some}
use Rattle.xdg_base.specs.declared.ids.EntryNo.{EntryNo}
use Rattle.xdg_domain.specs.Shapes.{Shape, count}
use Rattle.xdg_types.specs.declared.table.DimType.{DimType}
use Rattle.xdg_types.specs.Table.{typed}
use Rattle.xdg_packed.specs.Entries.{IsUsed}
use Rattle.xdg_problem.specs.declared.parts.Parts.{Parts}
use Rattle.xdg_problem.specs.Arguments.{label_count, attr_count, value_count}
use Rattle.xdg_problem.specs.Places.{nodes}
use Rattle.xdg_build.specs.Grammars.{Grammar}

-- The nodes have these candidates, and the dimensions are the used ones of the grammar, with as many labels, attributes and
-- values of attributes as their types have.
pub record Suits (g : Grammar) (numbers : List (List EntryNo)) (parts : Parts) : Type 0 where
  pub node_count : nodes parts ≡ length numbers
  pub candidates : parts.candidates ≡ numbers
  pub dim_count : length parts.dims ≡ length g.table.used
  pub labels : (d : ℕ) (dim : DimType) → IsUsed g.table d dim → label_count parts d ≡ length dim.labels
  pub attrs : (d : ℕ) (dim : DimType) → IsUsed g.table d dim → attr_count parts d ≡ length dim.attrs
  pub values : (d : ℕ) (dim : DimType) → IsUsed g.table d dim → (a : ℕ) (name : List ℕ) (type : Shape) → slice_get (typed dim.attrs) a ≡ Some (name, type)
      → value_count parts d a ≡ count type
