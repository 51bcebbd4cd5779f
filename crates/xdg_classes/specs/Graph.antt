-- The classes as a graph of uses.
use Rattle.std.specs.Prelude.{ℕ, List, map, flat_map}
use Rattle.xdg_base.specs.declared.faults.Fault.{Fault}
use Rattle.xdg_names.specs.Closing.{IsClosing}
use Rattle.xdg_names.specs.declared.graph.Use.{Use}
use Rattle.xdg_types.specs.Graph.{use_of}
use Rattle.xdg_types.specs.Parts.{Statement}
use Rattle.xdg_classes.specs.Bodies.{body, calls}
use Rattle.xdg_classes.specs.Definitions.{ClassDef, classes, class_names}
use Rattle.xdg_ast.specs.Texts.{texts}

-- the classes that a class uses, by their places among all, and where
abbrev pub class_uses : List (List ℕ) → ClassDef → List Use
class_uses known c = flat_map (λ call. use_of known call.name) (calls (body c.body.kind))

abbrev pub class_graph : List Statement → List (List Use)
class_graph statements = map (class_uses (texts (class_names (classes statements)))) (classes statements)

-- a class leads back to itself
abbrev pub CycleOffends : List Statement → Fault → Type 0
CycleOffends statements f = IsClosing (class_graph statements) f
