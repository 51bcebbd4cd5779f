-- What is wrong with the arguments in the uses of principles.
use Rattle.std.specs.Prelude.{◌≡◌, ◌⊎◌, Bool, false, List, Some}
use Rattle.xdg_base.specs.Faults.{fault_at}
use Rattle.xdg_base.specs.declared.faults.Cause.TheVariants as causes
use Rattle.xdg_base.specs.declared.faults.Fault.{Fault}
use Rattle.xdg_domain.specs.Shapes.{shape}
use Rattle.xdg_domain.specs.declared.types.Ty.{Ty}
use Rattle.xdg_terms.specs.Forms.{Term, constant_of}
use Rattle.xdg_terms.specs.Offences.{is_some}
use Rattle.xdg_ast.specs.Misnamed.{IsUnknown, IsAgain}
use Rattle.xdg_types.specs.Parts.{Statement}
use Rattle.xdg_types.specs.Table.{Table, firsts}
use Rattle.xdg_problem.specs.declared.forms.Which.{Which}
use Rattle.xdg_problem.specs.declared.forms.Typing.{Typing}
use Rattle.xdg_problem.specs.declared.forms.Sort.{Sort}
use Rattle.xdg_problem.specs.declared.forms.Wanted.{Wanted}
use Rattle.xdg_problem.specs.declared.forms.Wanted.TheVariants as a
use Rattle.xdg_facts.specs.Onward.{optional}
use Rattle.xdg_principles.specs.Settings.{Argument, Called, arguments, labels, members, member_type, term_in, constant_in, listed_in, list_of, called_in}
use Rattle.xdg_principles.specs.Wanted.{IsWanted}
use Rattle.xdg_facts.specs.Membership.{In}
use Rattle.xdg_terms.specs.Faults.{truth_texts}

-- a feature, an attribute and a truth value are given by a constant, labels by square brackets
abbrev pub has_form : Wanted → Term → Bool
has_form (a.Member sort which typing) term = is_some (constant_of term)
has_form (a.Labels which) term = is_some (list_of term)
has_form a.Truth term = is_some (constant_of term)

-- ---- the rules, one by one

-- the term isn't of the form that is wanted
pub record HasWrongForm (x : Argument) (f : Fault) : Type 0 where
  pub term : Term
  pub given : term_in x.setting x.parameter ≡ Some term
  pub form : has_form x.parameter.wanted term ≡ false
  pub fault : f ≡ fault_at causes.WrongKind term.span.start

-- the dimension has no such feature or attribute
pub record IsUnknownMember (x : Argument) (f : Fault) : Type 0 where
  pub sort : Sort
  pub which : Which
  pub typing : Typing
  pub wanted : x.parameter.wanted ≡ a.Member sort which typing
  pub called : Called
  pub given : called_in x.setting x.parameter ≡ Some called
  pub missing : In (firsts (members x.setting sort which)) called.text → ⊥
  pub fault : f ≡ fault_at causes.UnknownName called.at

-- its type isn't the wanted one
pub record HasWrongType (x : Argument) (f : Fault) : Type 0 where
  pub sort : Sort
  pub which : Which
  pub typing : Typing
  pub wanted : x.parameter.wanted ≡ a.Member sort which typing
  pub called : Called
  pub given : called_in x.setting x.parameter ≡ Some called
  pub type : Ty
  pub has : member_type x.setting sort which called.text ≡ Some type
  pub wrong : IsWanted x.setting typing (shape type) → ⊥
  pub fault : f ≡ fault_at causes.WrongKind called.at

-- a constant is neither `true` nor `false` where a truth value is wanted
pub record IsNoTruth (x : Argument) (f : Fault) : Type 0 where
  pub wanted : x.parameter.wanted ≡ a.Truth
  pub unknown : IsUnknown causes.NotMember truth_texts (optional (constant_in x.setting x.parameter)) f

-- a constant is no label of the dimension
pub record IsNoLabel (x : Argument) (f : Fault) : Type 0 where
  pub which : Which
  pub wanted : x.parameter.wanted ≡ a.Labels which
  pub unknown : IsUnknown causes.NotMember (labels x.setting which) (listed_in x.setting x.parameter) f

-- a label stands twice
pub record IsLabelTwice (x : Argument) (f : Fault) : Type 0 where
  pub which : Which
  pub wanted : x.parameter.wanted ≡ a.Labels which
  pub again : IsAgain (listed_in x.setting x.parameter) f

abbrev pub OneOffends : Argument → Fault → Type 0
OneOffends x f =
    HasWrongForm x f ⊎ (IsUnknownMember x f ⊎ (HasWrongType x f ⊎ (IsNoTruth x f ⊎ (IsNoLabel x f ⊎ IsLabelTwice x f))))

-- what is wrong with the arguments in the uses of principles, in dimensions that are used and in others
abbrev pub ArgumentOffends : List Statement → Table → Fault → Type 0
ArgumentOffends statements table f = (x : Argument) × (In (arguments statements table.dims) x × OneOffends x f)
