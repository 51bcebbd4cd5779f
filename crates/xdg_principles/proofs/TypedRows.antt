-- What the table of principles says of dimensions and of the type that arguments share.
use Rattle.xdg_facts.proofs.Each.{each_in}
use Rattle.std.proofs.Common.{◌≡◌, Option, None, Some, refl, rules}
use Rattle.std.specs.List.{AllByRecursion}
use Rattle.std.specs.Prelude.{slice_get}
use Rattle.xdg_problem.specs.declared.forms.Dims.{Dims}
use Rattle.xdg_problem.specs.declared.forms.Dims.TheVariants as d
use Rattle.xdg_problem.specs.declared.forms.Element.{Element}
use Rattle.xdg_problem.specs.declared.forms.Element.TheVariants as el
use Rattle.xdg_problem.specs.declared.forms.Form.{Form}
use Rattle.xdg_problem.specs.declared.forms.Parameter.{Parameter}
use Rattle.xdg_problem.specs.declared.forms.Preset.{Preset}
use Rattle.xdg_problem.specs.declared.forms.Preset.TheVariants as p
use Rattle.xdg_problem.specs.declared.forms.Sort.{Sort}
use Rattle.xdg_problem.specs.declared.forms.Typing.{Typing}
use Rattle.xdg_problem.specs.declared.forms.Typing.TheVariants as ty
use Rattle.xdg_problem.specs.declared.forms.Wanted.{Wanted}
use Rattle.xdg_problem.specs.declared.forms.Wanted.TheVariants as a
use Rattle.xdg_problem.specs.declared.forms.Which.{Which}
use Rattle.xdg_problem.specs.declared.forms.Which.TheVariants as w
use Rattle.xdg_problem.specs.declared.parts.Principle.{Principle}
use Rattle.xdg_problem.specs.declared.parts.Principle.TheVariants as principles
use Rattle.xdg_problem.specs.Forms.{dims_in, form_of, parameters}
use Rattle.xdg_principles.specs.Typed.{number_of}
use Rattle.xdg_facts.specs.Membership.{In}

-- ---- dimensions

-- a principle of so many dimensions has that one
abbrev pub HasWhich : Dims → Which → Type 0
HasWhich d.One w.First = Unit {0}
HasWhich d.Two w.First = Unit {0}
HasWhich d.Two w.Second = Unit {0}
HasWhich d.Three which = Unit {0}
HasWhich _ _ = ⊥

-- and has it at its place
pub which_at : (dims : Dims) (which : Which) → HasWhich dims which → slice_get (dims_in dims) (number_of which) ≡ Some which
which_at d.One w.First h = refl
which_at d.Two w.First h = refl
which_at d.Two w.Second h = refl
which_at d.Three w.First h = refl
which_at d.Three w.Second h = refl
which_at d.Three w.Third h = refl
which_at _ _ h = absurd h

-- ---- the shared type

-- a feature or an attribute of the shared type that has to be given
abbrev FixesBy : Wanted → Preset → Type 0
FixesBy (a.Member sort which (ty.One el.Shared)) p.Required = Unit {0}
FixesBy _ _ = ⊥

abbrev pub FixesShared : Option Parameter → Type 0
FixesShared None = ⊥
FixesShared (Some x) = FixesBy x.wanted x.preset

pub record Fixing (first : Option Parameter) : Type 0 where
  pub parameter : Parameter
  pub sort : Sort
  pub which : Which
  pub stands : first ≡ Some parameter
  pub wanted : parameter.wanted ≡ a.Member sort which (ty.One el.Shared)
  pub required : parameter.preset ≡ p.Required

fixing_by : (x : Parameter) (wanted : Wanted) (preset : Preset) → x.wanted ≡ wanted → x.preset ≡ preset → FixesBy wanted preset → Fixing (Some x)
fixing_by x (a.Member sort which (ty.One el.Shared)) p.Required e q h = record { parameter = x; sort = sort; which = which; stands = refl; wanted = e; required = q }
fixing_by x _ _ e q h = absurd h

pub fixing : (first : Option Parameter) → FixesShared first → Fixing first
fixing None h = absurd h
fixing (Some x) h = fixing_by x x.wanted x.preset refl refl h

-- ---- what is wanted

-- it speaks of dimensions that the principle has, and of the shared type only where the first argument fixes it
abbrev pub IsSoundElement : Form → Element → Type 0
IsSoundElement form (el.Labels which) = HasWhich form.dims which
IsSoundElement form el.Shared = FixesShared form.first

abbrev pub IsSoundTyping : Form → Typing → Type 0
IsSoundTyping form (ty.One element) = IsSoundElement form element
IsSoundTyping form (ty.Set element) = IsSoundElement form element
IsSoundTyping form (ty.Valency which) = HasWhich form.dims which
IsSoundTyping form (ty.Map which element) = HasWhich form.dims which × IsSoundElement form element

abbrev pub IsSoundWanted : Form → Wanted → Type 0
IsSoundWanted form (a.Member sort which typing) = HasWhich form.dims which × IsSoundTyping form typing
IsSoundWanted form (a.Labels which) = HasWhich form.dims which
IsSoundWanted form a.Truth = Unit {0}

-- ---- all principles

abbrev Sound : Form → Parameter → Type 0
Sound form x = IsSoundWanted form x.wanted

all_sound : (principle : Principle) → AllByRecursion (Sound (form_of principle)) (parameters (form_of principle))
all_sound principles.Graph = tt
all_sound principle = search rules

pub sound_wanted : (principle : Principle) (x : Parameter) → In (parameters (form_of principle)) x → IsSoundWanted (form_of principle) x.wanted
sound_wanted principle x = each_in (Sound (form_of principle)) (parameters (form_of principle)) x (all_sound principle)
