-- The texts of names.
use Rattle.std.specs.Prelude.{ℕ, List, map}
use Rattle.xdg_ast.specs.declared.names.Name.{Name}

abbrev pub texts : List Name → List (List ℕ)
texts names = map (λ name. name.text) names
