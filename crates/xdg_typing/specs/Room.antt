-- What is to be made has few enough parts.
use Rattle.std.specs.Prelude.{ℕ, ◌≤◌, List, map}
use Rattle.xdg_ast.specs.declared.names.Pair.{Pair}
use Rattle.xdg_types.specs.Parts.{TypeTerm}
use Rattle.xdg_typing.specs.Heads.{Knows}
use Rattle.xdg_typing.specs.Branches.{Naming}

-- There is room for so many parts, where the names mean what is known of them.
pub record HasRoom (known : List (List ℕ)) (heads : List TypeTerm) (count : Naming → ℕ) (room : ℕ) : Type 0 where
  pub names : Naming
  pub knows : Knows names known heads
  pub fits : count names ≤ room

-- the types of fields
abbrev pub field_types : List (Pair TypeTerm) → List TypeTerm
field_types fields = map (λ field. field.value) fields
