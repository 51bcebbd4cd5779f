-- The offences of names in bodies as a list, in the order in which the code comes to them.
use Rattle.std.specs.Prelude.{ℕ, Bool, true, false, if◌then◌else◌, List, [], ◌∷◌, ◌++◌, flat_map, Option, None, Some, option_map}
use Rattle.xdg_base.specs.Faults.{fault_at}
use Rattle.xdg_ast.specs.declared.names.Name.{Name}
use Rattle.xdg_ast.specs.declared.grammar.ClassParam.{ClassParam}
use Rattle.xdg_base.specs.declared.faults.Cause.TheVariants as causes
use Rattle.xdg_base.specs.declared.faults.Fault.{Fault}
use Rattle.xdg_names.specs.Texts.{has_text}
use Rattle.xdg_types.specs.NameFaults.{unknown, foreign, repeats, different}
use Rattle.xdg_types.specs.Parts.{Statement, keys}
use Rattle.xdg_types.specs.Table.{Table}
use Rattle.xdg_classes.specs.Bodies.{Term, Said, Called}
use Rattle.xdg_classes.specs.Definitions.{ClassDef, classes, class_names, class_named, param_names}
use Rattle.xdg_classes.specs.Names.{dim_texts, all_records, all_calls}

-- ---- parameters

abbrev pub bare_of : Name → Option Term → List Name
bare_of name None = name ∷ []
bare_of name (Some term) = []

-- the name of a parameter without default
abbrev pub bare : ClassParam → List Name
bare param = bare_of param.name param.preset

abbrev pub bare_names : List ClassParam → List Name
bare_names params = flat_map bare params

-- What a class asks of its uses: the different names of its parameters, and of those without default.
pub record Asked : Type 0 where
  pub has : List (List ℕ)
  pub needs : List (List ℕ)

abbrev pub asked : List ClassParam → Asked
asked params = record { has = different (param_names params); needs = different (bare_names params) }

abbrev pub asked_by : ClassDef → Asked
asked_by c = asked c.params

-- ---- uses of classes

-- whether one of the texts that are needed isn't given
abbrev pub lacks : List (List ℕ) → List (List ℕ) → Bool
lacks given [] = false
lacks given (text ∷ needed) = if has_text given text then lacks given needed else true

abbrev pub left_out : List (List ℕ) → List (List ℕ) → ℕ → List Fault
left_out given needed at = if lacks given needed then fault_at causes.WrongParams at ∷ [] else []

-- a use of a class that asks this, if there is one
abbrev pub class_faults : Option Asked → Called → List Fault
class_faults None call = fault_at causes.UnknownName call.name.span.start ∷ []
class_faults (Some a) call = flat_map (foreign a.has) (keys call.args) ++ left_out (different (keys call.args)) a.needs call.name.span.start

abbrev pub call_faults : List ClassDef → Called → List Fault
call_faults cs call = repeats [] (keys call.args) ++ class_faults (option_map asked_by (class_named cs call.name.text)) call

-- ---- all

abbrev pub said_faults : List (List ℕ) → Said → List Fault
said_faults dims said = unknown dims said.dim

abbrev pub param_faults : ClassDef → List Fault
param_faults c = repeats [] (param_names c.params)

-- all of them
abbrev pub name_faults : List Statement → Table → List Fault
name_faults statements table =
    flat_map (said_faults (dim_texts table)) (all_records statements)
    ++ (repeats [] (class_names (classes statements))
    ++ (flat_map param_faults (classes statements)
    ++ flat_map (call_faults (classes statements)) (all_calls statements)))
