-- The offences of arguments as a list, in the order in which the code comes to them.
use Rattle.std.specs.Prelude.{ℕ, if◌then◌else◌, List, [], ◌∷◌, ◌++◌, flat_map, Option, None, Some}
use Rattle.xdg_base.specs.Faults.{fault_at}
use Rattle.xdg_ast.specs.declared.names.Name.{Name}
use Rattle.xdg_base.specs.declared.faults.Cause.TheVariants as causes
use Rattle.xdg_base.specs.declared.faults.Fault.{Fault}
use Rattle.xdg_domain.specs.Shapes.{shape}
use Rattle.xdg_domain.specs.declared.types.Ty.{Ty}
use Rattle.xdg_terms.specs.Forms.{Term}
use Rattle.xdg_types.specs.declared.table.DimType.{DimType}
use Rattle.xdg_types.specs.NameFaults.{unknown_as, repeats}
use Rattle.xdg_types.specs.Parts.{Statement}
use Rattle.xdg_problem.specs.declared.forms.Which.{Which}
use Rattle.xdg_problem.specs.declared.forms.Typing.{Typing}
use Rattle.xdg_problem.specs.declared.forms.Sort.{Sort}
use Rattle.xdg_problem.specs.declared.forms.Wanted.{Wanted}
use Rattle.xdg_problem.specs.declared.forms.Wanted.TheVariants as a
use Rattle.xdg_problem.specs.declared.forms.Parameter.{Parameter}
use Rattle.xdg_problem.specs.declared.parts.Principle.{Principle}
use Rattle.xdg_problem.specs.Forms.{parameters}
use Rattle.xdg_facts.specs.Onward.{optional}
use Rattle.xdg_principles.specs.Uses.{Use, principle_uses, with_principle}
use Rattle.xdg_principles.specs.Settings.{Setting, Called, setting_of, labels, member_type, term_in, constant_in, listed_in, called_in}
use Rattle.xdg_principles.specs.Wanted.{is_wanted}
use Rattle.xdg_principles.specs.Arguments.{has_form}
use Rattle.xdg_terms.specs.Faults.{truth_texts}

abbrev pub form_faults : Wanted → Option Term → List Fault
form_faults wanted None = []
form_faults wanted (Some term) = if has_form wanted term then [] else fault_at causes.WrongKind term.span.start ∷ []

-- of a feature or an attribute with that place in the text and that type
abbrev pub type_faults : Setting → Typing → ℕ → Option Ty → List Fault
type_faults setting typing at None = fault_at causes.UnknownName at ∷ []
type_faults setting typing at (Some type) = if is_wanted setting typing (shape type) then [] else fault_at causes.WrongKind at ∷ []

abbrev pub member_faults : Setting → Sort → Which → Typing → Option Called → List Fault
member_faults setting sort which typing None = []
member_faults setting sort which typing (Some called) = type_faults setting typing called.at (member_type setting sort which called.text)

-- a constant that isn't among these
abbrev pub outside : List (List ℕ) → Name → List Fault
outside = unknown_as causes.NotMember

abbrev pub inner_faults : Setting → Parameter → Wanted → List Fault
inner_faults setting parameter (a.Member sort which typing) = member_faults setting sort which typing (called_in setting parameter)
inner_faults setting parameter (a.Labels which) =
    flat_map (outside (labels setting which)) (listed_in setting parameter) ++ repeats [] (listed_in setting parameter)
inner_faults setting parameter a.Truth = flat_map (outside truth_texts) (optional (constant_in setting parameter))

-- of one argument
abbrev pub one_faults : Setting → Parameter → List Fault
one_faults setting parameter =
    form_faults parameter.wanted (term_in setting parameter) ++ inner_faults setting parameter parameter.wanted

-- of all arguments of a use
abbrev pub setting_faults : Setting → List Fault
setting_faults setting = flat_map (one_faults setting) (parameters setting.form)

-- of the principle, where it is known
abbrev pub known_faults : List DimType → Use → Option Principle → List Fault
known_faults dims one None = []
known_faults dims one (Some principle) = setting_faults (setting_of dims one principle)

abbrev pub found_faults : List DimType → Use × Option Principle → List Fault
found_faults dims found = known_faults dims found.0 found.1

abbrev pub use_faults : List DimType → Use → List Fault
use_faults dims one = found_faults dims (with_principle one)

-- all of them
abbrev pub argument_faults : List Statement → List DimType → List Fault
argument_faults statements dims = flat_map (use_faults dims) (principle_uses statements)
