-- The uses of principles with what they name, by number.
use Rattle.std.specs.Prelude.{◌≡◌, ℕ, Bool, false, List, [], map, Option, None, Some, unwrap_or, codes, bytes_eq}
use Rattle.std.specs.List.{AllZip}
use Rattle.xdg_ast.specs.declared.names.Name.{Name}
use Rattle.xdg_names.specs.Texts.{place_of}
use Rattle.xdg_terms.specs.Forms.{Term, constant_of}
use Rattle.xdg_terms.specs.Means.{truth_text}
use Rattle.xdg_types.specs.declared.table.DimType.{DimType}
use Rattle.xdg_types.specs.Answers.{HasTable, None_of}
use Rattle.xdg_types.specs.Parts.{Statement, dim_names}
use Rattle.xdg_types.specs.Table.{Table}
use Rattle.xdg_principles.specs.declared.building.Arg.{Arg}
use Rattle.xdg_principles.specs.declared.building.Arg.TheVariants as g
use Rattle.xdg_principles.specs.declared.building.PrincipleUse.{PrincipleUse}
use Rattle.xdg_problem.specs.declared.forms.Parameter.{Parameter}
use Rattle.xdg_problem.specs.declared.forms.Sort.{Sort}
use Rattle.xdg_problem.specs.declared.forms.Sort.TheVariants as s
use Rattle.xdg_problem.specs.declared.forms.Wanted.{Wanted}
use Rattle.xdg_problem.specs.declared.forms.Wanted.TheVariants as a
use Rattle.xdg_problem.specs.declared.forms.Which.{Which}
use Rattle.xdg_problem.specs.declared.parts.Principle.{Principle}
use Rattle.xdg_problem.specs.declared.parts.Principle.TheVariants as principles
use Rattle.xdg_problem.specs.Forms.{dims_in, form_of, parameters}
use Rattle.xdg_problem.specs.Names.{named}
use Rattle.xdg_principles.specs.declared.using.Uses.{Uses}
use Rattle.xdg_principles.specs.Arguments.{ArgumentOffends}
use Rattle.xdg_principles.specs.Names.{PrincipleNameOffends}
use Rattle.xdg_principles.specs.Settings.{Setting, Called, setting_of, dim_texts, dim_place, labels, member_place, term_in, constant_in, listed_in, list_of, called_in}
use Rattle.xdg_principles.specs.Uses.{Use, principle_uses, with_principle, AreUsesOf}
use Rattle.xdg_ast.specs.Texts.{texts}

-- ---- what a table of types has to be

-- its dimensions have the names of those of the text, in order
abbrev pub HasDims : List Statement → Table → Type 0
HasDims statements table = dim_texts table.dims ≡ texts (dim_names statements)

-- ---- arguments

-- the place of the feature or the attribute that the argument names, by default or in the text
abbrev pub IsMember : Setting → Parameter → Sort → Which → ℕ → Type 0
IsMember setting parameter sort which k =
    (called : Called) × ((called_in setting parameter ≡ Some called) × (member_place setting sort which called.text ≡ Some k))

-- the places of these constants among labels
abbrev pub AreLabels : List (List ℕ) → List Name → List ℕ → Type 0
AreLabels known names ns = AllZip (λ (name : Name) n. place_of known name.text ≡ Some n) names ns

abbrev pub IsLabelList : List (List ℕ) → Option Term → List ℕ → Type 0
IsLabelList known None ns = ⊥
IsLabelList known (Some term) ns = (names : List Name) × ((list_of term ≡ Some names) × AreLabels known names ns)

-- the truth value that is said, or `false` where none is
abbrev pub IsTruth : Bool → Option Term → Type 0
IsTruth b None = b ≡ false
IsTruth b (Some term) = (name : Name) × ((constant_of term ≡ Some name) × (name.text ≡ truth_text b))

abbrev pub IsArg : Setting → Parameter → Wanted → Arg → Type 0
IsArg setting parameter (a.Member s.Feature which typing) (g.Feature k) = IsMember setting parameter s.Feature which k
IsArg setting parameter (a.Member s.Attribute which typing) (g.Attr k) = IsMember setting parameter s.Attribute which k
IsArg setting parameter (a.Labels which) (g.Labels ns) = IsLabelList (labels setting which) (term_in setting parameter) ns
IsArg setting parameter a.Truth (g.Truth b) = IsTruth b (term_in setting parameter)
IsArg setting parameter _ _ = ⊥

abbrev pub AreArgs : Setting → List Parameter → List Arg → Type 0
AreArgs setting parameters xs = AllZip (λ (parameter : Parameter) x. IsArg setting parameter parameter.wanted x) parameters xs

-- ---- uses

-- the places of the dimensions that are given
abbrev pub ArePlaces : Setting → List Which → List ℕ → Type 0
ArePlaces setting all ks = AllZip (λ which k. dim_place setting which ≡ Some k) all ks

-- The use is one of the principle that its name says, has the place of that name and stands in its home, and its dimensions and
-- arguments, given or by default, stand in the order of the table of principles.
pub record IsUse (dims : List DimType) (one : Use) (made : PrincipleUse) : Type 0 where
  pub known : named one.name.text ≡ Some made.principle
  pub at : made.at ≡ one.name.span.start
  pub home : place_of (dim_texts dims) one.within.text ≡ Some made.home
  pub dimensions : ArePlaces (setting_of dims one made.principle) (dims_in (form_of made.principle).dims) made.dims
  pub arguments : AreArgs (setting_of dims one made.principle) (parameters (form_of made.principle)) made.args

abbrev pub AreUses : List DimType → List Use → List PrincipleUse → Type 0
AreUses dims uses made = AllZip (IsUse dims) uses made

-- these are the uses of principles in all dimensions, used or not, in the order of the text
abbrev pub ArePrincipleUses : List Statement → Table → List PrincipleUse → Type 0
ArePrincipleUses statements table made = AreUses table.dims (principle_uses statements) made

-- The uses are those of statements whose uses of principles have no fault, and the table is that of their types.
pub record AreRightUses (statements : List Statement) (table : Table) (uses : Uses) : Type 0 where
  pub found : AreUsesOf statements uses
  pub has : HasTable statements table
  pub names : None_of (PrincipleNameOffends statements)
  pub arguments : None_of (ArgumentOffends statements table)

-- ---- the same as a function, which gives 0 for what isn't there, and the principle graph

abbrev pub place_called : Setting → Sort → Which → Option Called → Option ℕ
place_called setting sort which None = None
place_called setting sort which (Some called) = member_place setting sort which called.text

abbrev pub member_number : Setting → Parameter → Sort → Which → ℕ
member_number setting parameter sort which = unwrap_or (place_called setting sort which (called_in setting parameter)) 0

abbrev pub label_number : List (List ℕ) → Name → ℕ
label_number known name = unwrap_or (place_of known name.text) 0

abbrev pub truth_of : Option Name → Bool
truth_of None = false
truth_of (Some name) = bytes_eq name.text (codes "true")

abbrev pub arg : Setting → Parameter → Wanted → Arg
arg setting parameter (a.Member s.Feature which typing) = g.Feature (member_number setting parameter s.Feature which)
arg setting parameter (a.Member s.Attribute which typing) = g.Attr (member_number setting parameter s.Attribute which)
arg setting parameter (a.Labels which) = g.Labels (map (label_number (labels setting which)) (listed_in setting parameter))
arg setting parameter a.Truth = g.Truth (truth_of (constant_in setting parameter))

abbrev pub args : Setting → List Parameter → List Arg
args setting parameters = map (λ parameter. arg setting parameter parameter.wanted) parameters

abbrev pub places : Setting → List ℕ
places setting = map (λ which. unwrap_or (dim_place setting which) 0) (dims_in setting.form.dims)

abbrev pub built_with : List DimType → Use → Option Principle → PrincipleUse
built_with dims one None =
    record { principle = principles.Graph; home = unwrap_or (place_of (dim_texts dims) one.within.text) 0; dims = []; args = []; at = one.name.span.start }
built_with dims one (Some principle) =
    record {
      principle = principle;
      home = unwrap_or (place_of (dim_texts dims) one.within.text) 0;
      dims = places (setting_of dims one principle);
      args = args (setting_of dims one principle) (parameters (form_of principle));
      at = one.name.span.start;
    }

abbrev pub built_found : List DimType → Use × Option Principle → PrincipleUse
built_found dims found = built_with dims found.0 found.1

abbrev pub built : List DimType → Use → PrincipleUse
built dims one = built_found dims (with_principle one)
