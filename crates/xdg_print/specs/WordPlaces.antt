-- Where entries say their words, as a function of the types.
use Rattle.std.specs.Prelude.{ℕ, Bool, true, false, ◌&&◌, List, [], get_or, slice_get, Option, Some, None, codes}
use Rattle.std.specs.List.{position_from}
use Rattle.std.specs.Str.{bytes_eq}
use Rattle.xdg_domain.specs.Shapes.{Shape, text}
use Rattle.xdg_types.specs.declared.table.DimType.{DimType}
use Rattle.xdg_types.specs.Table.{Table, Typed, typed}

-- it is the type `string`
abbrev pub is_text : Shape → Bool
is_text text = true
is_text _ = false

-- it is the feature `word` of type `string`
abbrev pub is_word : List ℕ × Shape → Bool
is_word one = bytes_eq one.0 (codes "word") && is_text one.1

-- the dimension, if it is there, is called `lex`
abbrev pub is_lex : Option DimType → Bool
is_lex None = false
is_lex (Some dim) = bytes_eq dim.name (codes "lex")

-- the features of the dimension, if it is there
abbrev pub features : Option DimType → Typed
features None = []
features (Some dim) = typed dim.fields

-- the place of the feature in the dimension with that place among the used ones
abbrev pub with_field : ℕ → Option ℕ → Option (ℕ × ℕ)
with_field dim None = None
with_field dim (Some field) = Some (dim, field)

abbrev pub in_dim : Table → Option ℕ → Option (ℕ × ℕ)
in_dim table None = None
in_dim table (Some dim) = with_field dim (position_from is_word 0 (features (slice_get table.dims (get_or table.used dim 0))))

-- the place of dimension `lex` among the used ones, and that of its feature `word` of type `string`, if they are there
unfoldable pub place_of_word : Table → Option (ℕ × ℕ)
place_of_word table = in_dim table (position_from (λ k. is_lex (slice_get table.dims k)) 0 table.used)
