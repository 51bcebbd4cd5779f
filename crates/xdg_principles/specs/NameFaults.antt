-- The offences of names in the uses of principles as a list, in the order in which the code comes to them.
use Rattle.std.specs.Prelude.{ℕ, if◌then◌else◌, List, [], ◌∷◌, ◌++◌, flat_map, Option, None, Some}
use Rattle.xdg_base.specs.Faults.{fault_at}
use Rattle.xdg_ast.specs.declared.names.Name.{Name}
use Rattle.xdg_base.specs.declared.faults.Cause.TheVariants as causes
use Rattle.xdg_base.specs.declared.faults.Fault.{Fault}
use Rattle.xdg_names.specs.Texts.{has_text}
use Rattle.xdg_types.specs.NameFaults.{unknown, foreign, repeats, different}
use Rattle.xdg_types.specs.Parts.{Statement, dim_names, used_names, keys}
use Rattle.xdg_problem.specs.declared.forms.Form.{Form}
use Rattle.xdg_principles.specs.Names.{dim_keys, arg_keys, required_keys}
use Rattle.xdg_problem.specs.declared.parts.Principle.{Principle}
use Rattle.xdg_problem.specs.Forms.{form_of}
use Rattle.xdg_principles.specs.Uses.{Use, principle_uses, values, with_principle}
use Rattle.xdg_ast.specs.Texts.{texts}

-- a key that isn't among these names
abbrev pub lacking : ℕ → List Name → List ℕ → List Fault
lacking at names key = if has_text (texts names) key then [] else fault_at causes.MissingArg at ∷ []

-- the keys that the principle hasn't
abbrev pub key_faults : Form → Use → List Fault
key_faults form one = flat_map (foreign (dim_keys form)) (keys one.dims) ++ flat_map (foreign (arg_keys form)) (keys one.args)

-- the keys that it has to be given
abbrev pub left_out : Form → Use → List Fault
left_out form one =
    flat_map (lacking one.name.span.start (keys one.dims)) (dim_keys form)
    ++ flat_map (lacking one.name.span.start (keys one.args)) (required_keys form)

-- where this is the principle
abbrev pub principle_faults : Use → Option Principle → List Fault
principle_faults one None = fault_at causes.UnknownPrinciple one.name.span.start ∷ []
principle_faults one (Some principle) = key_faults (form_of principle) one ++ left_out (form_of principle) one

-- the keys that stand again
abbrev pub again : Use → List Fault
again one = repeats [] (keys one.dims) ++ repeats [] (keys one.args)

-- the dimensions that aren't used, in a dimension that is used
abbrev pub unused : List (List ℕ) → Use → List Fault
unused used one = if has_text used one.within.text then flat_map (unknown used) (values one.dims) else []

-- in one use, where this is the principle
abbrev pub found_faults : List (List ℕ) → List (List ℕ) → Use × Option Principle → List Fault
found_faults defined used found =
    again found.0 ++ ((flat_map (unknown defined) (values found.0.dims) ++ unused used found.0) ++ principle_faults found.0 found.1)

-- in one use
abbrev pub use_faults : List (List ℕ) → List (List ℕ) → Use → List Fault
use_faults defined used one = found_faults defined used (with_principle one)

-- all of them
abbrev pub name_faults : List Statement → List Fault
name_faults statements = flat_map (use_faults (different (dim_names statements)) (different (used_names statements))) (principle_uses statements)
