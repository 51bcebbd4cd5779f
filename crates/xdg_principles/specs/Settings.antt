-- The uses of principles with the dimensions and the arguments that they are given.
use Rattle.std.specs.Prelude.{ℕ, List, [], ◌∷◌, map, flat_map, Option, None, Some, slice_get, if◌then◌else◌}
use Rattle.xdg_ast.specs.declared.names.Name.{Name}
use Rattle.xdg_ast.specs.declared.terms.TermKind.{TermKind, out-TermKind}
use Rattle.xdg_ast.specs.declared.terms.ElemKind.{ElemKind}
use Rattle.xdg_ast.specs.declared.terms.ElemKind.TheOpen.{TermKind-F}
use Rattle.xdg_domain.specs.Shapes.{Shape, shape}
use Rattle.xdg_domain.specs.declared.types.Ty.{Ty}
use Rattle.xdg_names.specs.Texts.{place_of}
use Rattle.xdg_terms.specs.Forms.{Term, constant_of}
use Rattle.xdg_types.specs.declared.table.DimType.{DimType}
use Rattle.xdg_types.specs.Kinds.{is_small}
use Rattle.xdg_types.specs.Parts.{Statement}
use Rattle.xdg_types.specs.Table.{firsts}
use Rattle.xdg_problem.specs.declared.forms.Which.{Which}
use Rattle.xdg_problem.specs.declared.forms.Element.TheVariants as e
use Rattle.xdg_problem.specs.declared.forms.Typing.TheVariants as t
use Rattle.xdg_problem.specs.declared.forms.Sort.{Sort}
use Rattle.xdg_problem.specs.declared.forms.Sort.TheVariants as s
use Rattle.xdg_problem.specs.declared.forms.Wanted.{Wanted}
use Rattle.xdg_problem.specs.declared.forms.Wanted.TheVariants as a
use Rattle.xdg_problem.specs.declared.forms.Parameter.{Parameter}
use Rattle.xdg_problem.specs.declared.forms.Form.{Form}
use Rattle.xdg_problem.specs.declared.parts.Principle.{Principle}
use Rattle.xdg_problem.specs.Forms.{dim_key, form_of, key_text, preset_feature, parameters}
use Rattle.xdg_problem.specs.Names.{named}
use Rattle.xdg_principles.specs.Uses.{Use, principle_uses, under}

-- a use of a known principle, among the dimensions of a grammar
pub record Setting : Type 0 where
  pub dims : List DimType
  pub one : Use
  pub form : Form

-- a use of that principle
abbrev pub setting_of : List DimType → Use → Principle → Setting
setting_of dims one principle = record { dims = dims; one = one; form = form_of principle }

-- the same where the principle is known
abbrev pub setting_if : List DimType → Use → Option Principle → List Setting
setting_if dims one None = []
setting_if dims one (Some principle) = setting_of dims one principle ∷ []

-- a use of the principle that has the name which it says
abbrev pub setting : List DimType → Use → List Setting
setting dims one = setting_if dims one (named one.name.text)

-- an argument that a principle has, in a use of it
pub record Argument : Type 0 where
  pub setting : Setting
  pub parameter : Parameter

abbrev pub arguments_in : Setting → List Argument
arguments_in setting = map (λ parameter. record { setting = setting; parameter = parameter }) (parameters setting.form)

-- all arguments of all uses of known principles, in the order of the text and of the table, given or left out
abbrev pub arguments : List Statement → List DimType → List Argument
arguments statements dims = flat_map arguments_in (flat_map (setting dims) (principle_uses statements))

-- ---- the dimensions

abbrev pub dim_texts : List DimType → List (List ℕ)
dim_texts dims = map (λ dim. dim.name) dims

abbrev pub place_named : List DimType → Option Name → Option ℕ
place_named dims None = None
place_named dims (Some name) = place_of (dim_texts dims) name.text

-- the place of the dimension that the use gives
abbrev pub dim_place : Setting → Which → Option ℕ
dim_place setting which = place_named setting.dims (under setting.one.dims (dim_key setting.form.dims which))

abbrev pub at_place : {A : Type 0} → List A → Option ℕ → Option A
at_place xs None = None
at_place xs (Some k) = slice_get xs k

-- that dimension
abbrev pub dim : Setting → Which → Option DimType
dim setting which = at_place setting.dims (dim_place setting which)

-- what isn't there has no labels
abbrev pub labels_in : Option DimType → List (List ℕ)
labels_in None = []
labels_in (Some dim) = dim.labels

abbrev pub members_in : Sort → Option DimType → List (List ℕ × Ty)
members_in sort None = []
members_in s.Feature (Some dim) = dim.fields
members_in s.Attribute (Some dim) = dim.attrs

abbrev pub labels : Setting → Which → List (List ℕ)
labels setting which = labels_in (dim setting which)

-- its features, or its attributes
abbrev pub members : Setting → Sort → Which → List (List ℕ × Ty)
members setting sort which = members_in sort (dim setting which)

-- the place of the one with that name
abbrev pub member_place : Setting → Sort → Which → List ℕ → Option ℕ
member_place setting sort which name = place_of (firsts (members setting sort which)) name

abbrev pub type_in : Option (List ℕ × Ty) → Option Ty
type_in None = None
type_in (Some member) = Some member.1

-- its type
abbrev pub member_type : Setting → Sort → Which → List ℕ → Option Ty
member_type setting sort which name = type_in (at_place (members setting sort which) (member_place setting sort which name))

-- ---- what is given

-- the term that is given for an argument
abbrev pub term_in : Setting → Parameter → Option Term
term_in setting parameter = under setting.one.args (key_text parameter.key)

abbrev pub constant_at : Option Term → Option Name
constant_at None = None
constant_at (Some term) = constant_of term

-- the constant, where one is given
abbrev pub constant_in : Setting → Parameter → Option Name
constant_in setting parameter = constant_at (term_in setting parameter)

abbrev pub list_in : TermKind-F ElemKind TermKind → Option (List Name)
list_in (TermKind-F.TermKind::Tuple names) = Some names
list_in _ = None

-- `[a b]`, with any number of constants
unfoldable pub list_of : Term → Option (List Name)
list_of term = list_in (out-TermKind term.kind)

abbrev pub names_at : Option (List Name) → List Name
names_at None = []
names_at (Some names) = names

abbrev pub list_at : Option Term → List Name
list_at None = []
list_at (Some term) = names_at (list_of term)

-- the constants in square brackets, where they are given
abbrev pub listed_in : Setting → Parameter → List Name
listed_in setting parameter = list_at (term_in setting parameter)

-- the name of a feature or an attribute, and its place in the text
pub record Called : Type 0 where
  pub text : List ℕ
  pub at : ℕ

abbrev pub called_by : Option Name → Option Called
called_by None = None
called_by (Some name) = Some (record { text = name.text; at = name.span.start })

abbrev pub called_at : ℕ → Option (List ℕ) → Option Called
called_at place None = None
called_at place (Some text) = Some (record { text = text; at = place })

abbrev pub called_or : Option Called → Option Term → Option Called
called_or otherwise None = otherwise
called_or otherwise (Some term) = called_by (constant_of term)

-- what an argument names: the constant that is given, or, where it is left out, the feature that it is by default, which
-- has the place of the principle's name
abbrev pub called_in : Setting → Parameter → Option Called
called_in setting parameter = called_or (called_at setting.one.name.span.start (preset_feature parameter.preset)) (term_in setting parameter)

-- ---- the type that arguments share

abbrev pub if_small : Option Ty → Option Shape
if_small None = None
if_small (Some type) = if is_small (shape type) then Some (shape type) else None

abbrev pub type_called : Setting → Sort → Which → Option Name → Option Shape
type_called setting sort which None = None
type_called setting sort which (Some name) = if_small (member_type setting sort which name.text)

abbrev pub fixed_by : Setting → Parameter → Wanted → Option Shape
fixed_by setting parameter (a.Member sort which (t.One e.Shared)) = type_called setting sort which (constant_in setting parameter)
fixed_by setting parameter _ = None

abbrev pub fixed_in : Setting → Option Parameter → Option Shape
fixed_in setting None = None
fixed_in setting (Some parameter) = fixed_by setting parameter parameter.wanted

-- The type that all arguments of a use share: that of the first argument of the principle, where there is nothing wrong with it.
abbrev pub shared : Setting → Option Shape
shared setting = fixed_in setting setting.form.first
