-- The places of the dimensions that are used.
use Rattle.std.specs.Prelude.{ℕ, List, [], ◌∷◌, flat_map, Option, None, Some}
use Rattle.xdg_ast.specs.declared.names.Name.{Name}
use Rattle.xdg_names.specs.Texts.{place_of}

-- what was found
abbrev pub found : Option ℕ → List ℕ
found None = []
found (Some k) = k ∷ []

-- the places of these names among texts, of those that stand there
abbrev pub places : List (List ℕ) → List Name → List ℕ
places known names = flat_map (λ name. found (place_of known name.text)) names
