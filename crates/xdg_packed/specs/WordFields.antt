-- The feature that entries say their words for, in one dimension.
use Rattle.std.specs.Prelude.{◌≡◌, ℕ, List, slice_get, Option, None, Some, codes}
use Rattle.xdg_domain.specs.Shapes.{text}
use Rattle.xdg_types.specs.declared.table.DimType.{DimType}
use Rattle.xdg_types.specs.Table.{Typed, typed}

-- the feature with that place is `word` of type `string`
abbrev pub IsWordField : Typed → ℕ → Type 0
IsWordField features field = slice_get features field ≡ Some (codes "word", text)

-- the place of such a feature, or that there is none
abbrev pub TellsWordField : Typed → Option ℕ → Type 0
TellsWordField features None = (field : ℕ) → IsWordField features field → ⊥
TellsWordField features (Some field) = IsWordField features field

-- the dimension with that place is `lex` and has such a feature
pub record IsWordIn (dims : List DimType) (place field : ℕ) : Type 0 where
  pub lex : DimType
  pub stands : slice_get dims place ≡ Some lex
  pub name : lex.name ≡ codes "lex"
  pub word : IsWordField (typed lex.fields) field

-- the place of the feature, or that there is none
abbrev pub TellsWordIn : List DimType → ℕ → Option ℕ → Type 0
TellsWordIn dims place None = (field : ℕ) → IsWordIn dims place field → ⊥
TellsWordIn dims place (Some field) = IsWordIn dims place field
