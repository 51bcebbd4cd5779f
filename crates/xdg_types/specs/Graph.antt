-- The definitions of types as a graph of uses.
use Rattle.std.specs.Prelude.{ℕ, List, [], ◌∷◌, map, flat_map, Option, None, Some}
use Rattle.xdg_ast.specs.declared.names.Name.{Name}
use Rattle.xdg_names.specs.declared.graph.Use.{Use}
use Rattle.xdg_names.specs.Texts.{place_of}
use Rattle.xdg_types.specs.Written.{Tree, tree, uses}
use Rattle.xdg_types.specs.Parts.{Statement, Definition, definitions, defined_names}
use Rattle.xdg_ast.specs.Texts.{texts}

abbrev pub use_at : Name → Option ℕ → List Use
use_at name None = []
use_at name (Some k) = record { to = k; at = name.span.start } ∷ []

-- the use of the definition with that name, where there is one
abbrev pub use_of : List (List ℕ) → Name → List Use
use_of known name = use_at name (place_of known name.text)

abbrev pub uses_in : List (List ℕ) → Tree → List Use
uses_in known t = flat_map (use_of known) (uses t)

-- for each definition the definitions that it uses, and where
abbrev pub graph_of : List (List ℕ) → List Definition → List (List Use)
graph_of known ds = map (λ d. uses_in known (tree d.body.kind)) ds

abbrev pub type_graph : List Statement → List (List Use)
type_graph statements = graph_of (texts (defined_names statements)) (definitions statements)
