-- The dimension of words.
use Rattle.std.specs.Prelude.{◌≡◌, ℕ, slice_get, Some, codes}
use Rattle.xdg_base.specs.Faults.{fault_at}
use Rattle.xdg_base.specs.declared.faults.Cause.TheVariants as causes
use Rattle.xdg_base.specs.declared.faults.Fault.{Fault}
use Rattle.xdg_domain.specs.Shapes.{text}
use Rattle.xdg_types.specs.declared.table.DimType.{DimType}
use Rattle.xdg_types.specs.Table.{Table, typed}
use Rattle.xdg_facts.specs.Membership.{In}

-- a dimension `lex` with a feature `word` of type `string`
pub record IsLex (dim : DimType) : Type 0 where
  pub name : dim.name ≡ codes "lex"
  pub word : In (typed dim.fields) (codes "word", text)

-- it is among the dimensions, and used
pub record HasLex (table : Table) : Type 0 where
  pub place : ℕ
  pub used : In table.used place
  pub dim : DimType
  pub stands : slice_get table.dims place ≡ Some dim
  pub lex : IsLex dim

-- it isn't; the fault stands at the beginning of the text
pub record LexOffends (table : Table) (f : Fault) : Type 0 where
  pub missing : HasLex table → ⊥
  pub fault : f ≡ fault_at causes.NoLex 0
