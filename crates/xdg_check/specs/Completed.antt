-- Bodies in which each use of a class binds all parameters of the class.
use Rattle.std.specs.Prelude.{ℕ, List, [], ◌∷◌, ◌++◌, Option, None, Some, if◌then◌else◌}
use Rattle.xdg_ast.specs.declared.names.Name.{Name}
use Rattle.xdg_ast.specs.declared.grammar.ClassParam.{ClassParam}
use Rattle.xdg_names.specs.Texts.{has_text}
use Rattle.xdg_classes.specs.Bodies.{Term, Pairs, Body, either, both, saying, calling, Bodies, no_body, body_then}
use Rattle.xdg_classes.specs.Definitions.{ClassDef, class_named}
use Rattle.xdg_types.specs.Parts.{keys}
use Rattle.xdg_ast.specs.Texts.{texts}

-- the parameter with its default, where it has one
abbrev pub preset_pair : Name → Option Term → Pairs
preset_pair name None = []
preset_pair name (Some t) = record { key = name; value = t } ∷ []

-- the parameters that are not among those that are given, with their defaults, in the order of the class
abbrev pub left_out : List (List ℕ) → List ClassParam → Pairs
left_out known [] = []
left_out known (param ∷ params) = (if has_text known param.name.text then [] else preset_pair param.name param.preset) ++ left_out known params

-- what a use of this class gives, and behind it the defaults of the parameters that it leaves out
abbrev pub bound_by : Option ClassDef → Pairs → Pairs
bound_by None args = args
bound_by (Some c) args = args ++ left_out (texts (keys args)) c.params

-- the body with the bindings of each use completed, where these are the classes
abbrev mutual
  pub completed : List ClassDef → Body → Body
  completed cs (either bs) = either (all_completed cs bs)
  completed cs (both bs) = both (all_completed cs bs)
  completed cs (saying dim pairs) = saying dim pairs
  completed cs (calling name args) = calling name (bound_by (class_named cs name.text) args)

  pub all_completed : List ClassDef → Bodies → Bodies
  all_completed cs no_body = no_body
  all_completed cs (body_then b bs) = body_then (completed cs b) (all_completed cs bs)
