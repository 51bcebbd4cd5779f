-- Where what a rule names stands in a table of types.
use Rattle.std.specs.Prelude.{◌≡◌, ℕ, ◌<◌, List, map, get_or}
use Rattle.xdg_ast.specs.Grammar.{Term}
use Rattle.xdg_domain.specs.Shapes.{Shape, count}
use Rattle.xdg_types.specs.declared.table.DimType.{DimType}
use Rattle.xdg_formula.specs.Tables.{no_dim}
use Rattle.xdg_build.specs.Readings.{value_texts}
use Rattle.xdg_build.specs.Truths.{constants_of}

-- the names of the dimensions with these places
abbrev pub names_at : List DimType → List ℕ → List (List ℕ)
names_at dims places = map (λ k. (get_or dims k no_dim).name) places

-- a value of a domain or a tuple type has that number
abbrev pub IsNumberOf : Shape → Term → ℕ → Type 0
IsNumberOf s value number = (number < count s) × (value_texts s number ≡ constants_of value)
