-- That a use of a principle, by number, names what is there and has the wanted types: said of a table of types alone, without the text.
use Rattle.std.specs.Prelude.{◌≡◌, ℕ, ◌<◌, true, List, length, Option, Some, slice_get}
use Rattle.std.specs.List.{AllZip}
use Rattle.xdg_domain.specs.Shapes.{Shape, domain, valency}
use Rattle.xdg_types.specs.declared.table.DimType.{DimType}
use Rattle.xdg_types.specs.Kinds.{is_small}
use Rattle.xdg_types.specs.Table.{Table, Typed, typed, ArePlaces}
use Rattle.xdg_principles.specs.declared.building.Arg.{Arg}
use Rattle.xdg_principles.specs.declared.building.Arg.TheVariants as g
use Rattle.xdg_principles.specs.declared.building.PrincipleUse.{PrincipleUse}
use Rattle.xdg_problem.specs.declared.forms.Element.{Element}
use Rattle.xdg_problem.specs.declared.forms.Element.TheVariants as e
use Rattle.xdg_problem.specs.declared.forms.Parameter.{Parameter}
use Rattle.xdg_problem.specs.declared.forms.Sort.{Sort}
use Rattle.xdg_problem.specs.declared.forms.Sort.TheVariants as s
use Rattle.xdg_problem.specs.declared.forms.Typing.{Typing}
use Rattle.xdg_problem.specs.declared.forms.Typing.TheVariants as t
use Rattle.xdg_problem.specs.declared.forms.Wanted.{Wanted}
use Rattle.xdg_problem.specs.declared.forms.Wanted.TheVariants as a
use Rattle.xdg_problem.specs.declared.forms.Which.{Which}
use Rattle.xdg_problem.specs.declared.forms.Which.TheVariants as w
use Rattle.xdg_problem.specs.Forms.{dims_in, form_of, parameters}
use Rattle.xdg_problem.specs.Names.{IsOfTexts}
use Rattle.xdg_principles.specs.Settings.{at_place, labels_in, members_in}
use Rattle.xdg_principles.specs.Wanted.{IsSame, IsSetOf, IsMapTo}
use Rattle.xdg_facts.specs.Membership.{In}

-- ---- the dimensions of a use

-- where a dimension stands among those of a use, from 0
abbrev pub number_of : Which → ℕ
number_of w.First = 0
number_of w.Second = 1
number_of w.Third = 2

-- the place of that dimension of the use among all dimensions, where the use has it
abbrev pub place_at : PrincipleUse → Which → Option ℕ
place_at u which = slice_get u.dims (number_of which)

-- that dimension, where there is one
abbrev pub dim_at : Table → PrincipleUse → Which → Option DimType
dim_at table u which = at_place table.dims (place_at u which)

-- its labels, none where there is no such dimension
abbrev pub labels_at : Table → PrincipleUse → Which → List (List ℕ)
labels_at table u which = labels_in (dim_at table u which)

-- its features, or its attributes, with their types, none where there is no such dimension
abbrev pub members_at : Table → PrincipleUse → Sort → Which → Typed
members_at table u sort which = typed (members_in sort (dim_at table u which))

-- ---- types

-- The type is the wanted type of single values, where the dimensions have these labels and the arguments share that type.
abbrev pub IsElementOf : (Which → List (List ℕ)) → Shape → Element → Shape → Type 0
IsElementOf labels shared (e.Labels which) type = type ≡ domain (labels which)
IsElementOf labels shared e.Shared type = IsSame shared type

-- The type is the wanted one, where the dimensions have these labels and the arguments share that type.
abbrev pub IsTypedAs : (Which → List (List ℕ)) → Shape → Typing → Shape → Type 0
IsTypedAs labels shared (t.One element) type = IsElementOf labels shared element type
IsTypedAs labels shared (t.Set element) type = IsSetOf (IsElementOf labels shared element) type
IsTypedAs labels shared (t.Valency which) type = type ≡ valency (domain (labels which))
IsTypedAs labels shared (t.Map which element) type = IsMapTo (IsElementOf labels shared element) (labels which) type

-- ---- arguments

-- a feature or an attribute stands at that place of its dimension, and its type is the wanted one
pub record IsTypedMember (table : Table) (u : PrincipleUse) (shared : Shape) (sort : Sort) (which : Which) (typing : Typing) (k : ℕ) : Type 0 where
  pub name : List ℕ
  pub type : Shape
  pub stands : slice_get (members_at table u sort which) k ≡ Some (name, type)
  pub wanted : IsTypedAs (labels_at table u) shared typing type

-- The argument is of the wanted kind: the place of a feature or an attribute of the wanted type, places of labels, which
-- all differ, or a truth value.
abbrev pub IsTypedArg : Table → PrincipleUse → Shape → Wanted → Arg → Type 0
IsTypedArg table u shared (a.Member s.Feature which typing) (g.Feature k) = IsTypedMember table u shared s.Feature which typing k
IsTypedArg table u shared (a.Member s.Attribute which typing) (g.Attr k) = IsTypedMember table u shared s.Attribute which typing k
IsTypedArg table u shared (a.Labels which) (g.Labels ks) = ArePlaces (length (labels_at table u which)) ks
IsTypedArg table u shared a.Truth (g.Truth b) = Unit {0}
IsTypedArg table u shared _ _ = ⊥

-- there is an argument for each of these parameters, in order, and each is of the wanted kind
abbrev pub AreTypedArgs : Table → PrincipleUse → Shape → List Parameter → List Arg → Type 0
AreTypedArgs table u shared parameters xs = AllZip (λ (parameter : Parameter) x. IsTypedArg table u shared parameter.wanted x) parameters xs

-- ---- uses

-- Grammar texts can use the principle, its home and its dimensions are dimensions of the table, which are used if its home is, and its
-- arguments are of the wanted kinds, where those that share a type share this one, a domain or a tuple type.
pub record IsTypedUse (table : Table) (u : PrincipleUse) : Type 0 where
  pub of_texts : IsOfTexts u.principle
  pub home : u.home < length table.dims
  pub count : length u.dims ≡ length (dims_in (form_of u.principle).dims)
  pub dims : (k : ℕ) → In u.dims k → k < length table.dims
  pub used : In table.used u.home → (k : ℕ) → In u.dims k → In table.used k
  pub shared : Shape
  pub small : is_small shared ≡ true
  pub args : AreTypedArgs table u shared (parameters (form_of u.principle)) u.args

-- all of these uses are so
abbrev pub AreTypedUses : Table → List PrincipleUse → Type 0
AreTypedUses table made = (u : PrincipleUse) → In made u → IsTypedUse table u
