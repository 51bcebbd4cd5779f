-- What is wrong with the names in the uses of principles.
use Rattle.std.specs.Prelude.{◌≡◌, ◌⊎◌, ℕ, List, [], ◌∷◌, map, flat_map, None, Some}
use Rattle.xdg_base.specs.Faults.{fault_at}
use Rattle.xdg_ast.specs.declared.names.Name.{Name}
use Rattle.xdg_base.specs.declared.faults.Cause.TheVariants as causes
use Rattle.xdg_base.specs.declared.faults.Fault.{Fault}
use Rattle.xdg_ast.specs.Misnamed.{IsUnknown, IsTwice}
use Rattle.xdg_types.specs.Parts.{Statement, dim_names, used_names, keys}
use Rattle.xdg_problem.specs.declared.forms.Form.{Form}
use Rattle.xdg_problem.specs.declared.forms.Parameter.{Parameter}
use Rattle.xdg_problem.specs.declared.forms.Preset.{Preset}
use Rattle.xdg_problem.specs.declared.forms.Preset.TheVariants as p
use Rattle.xdg_problem.specs.declared.parts.Principle.{Principle}
use Rattle.xdg_problem.specs.Forms.{dim_key, dims_in, form_of, key_text, parameters}
use Rattle.xdg_problem.specs.Names.{named}
use Rattle.xdg_principles.specs.Uses.{Use, principle_uses, values}
use Rattle.xdg_facts.specs.Membership.{In}
use Rattle.xdg_ast.specs.Texts.{texts}

-- ---- the keys of a principle

-- of its dimensions
abbrev pub dim_keys : Form → List (List ℕ)
dim_keys form = map (dim_key form.dims) (dims_in form.dims)

-- of its arguments
abbrev pub arg_keys : Form → List (List ℕ)
arg_keys form = map (λ one. key_text one.key) (parameters form)

abbrev pub key_if_required : List ℕ → Preset → List (List ℕ)
key_if_required key p.Required = key ∷ []
key_if_required key _ = []

abbrev pub required_key : Parameter → List (List ℕ)
required_key one = key_if_required (key_text one.key) one.preset

-- of its arguments without default
abbrev pub required_keys : Form → List (List ℕ)
required_keys form = flat_map required_key (parameters form)

-- ---- the rules, one by one

-- no principle has the name
pub record IsUnknownPrinciple (statements : List Statement) (f : Fault) : Type 0 where
  pub one : Use
  pub stands : In (principle_uses statements) one
  pub missing : named one.name.text ≡ None
  pub fault : f ≡ fault_at causes.UnknownPrinciple one.name.span.start

-- the lists of names in each of which a name may stand once
abbrev pub once : Use → List (List Name)
once one = keys one.dims ∷ keys one.args ∷ []

-- the dimensions that are given to principles
abbrev pub given_dims : List Statement → List Name
given_dims statements = flat_map (λ one. values one.dims) (principle_uses statements)

-- in a dimension that is used, one is given that isn't used
pub record IsUnusedDimension (statements : List Statement) (f : Fault) : Type 0 where
  pub one : Use
  pub stands : In (principle_uses statements) one
  pub used : In (texts (used_names statements)) one.within.text
  pub unknown : IsUnknown causes.UnknownName (texts (used_names statements)) (values one.dims) f

-- a dimension or an argument is given that the principle hasn't
pub record IsUnknownKey (statements : List Statement) (f : Fault) : Type 0 where
  pub one : Use
  pub stands : In (principle_uses statements) one
  pub principle : Principle
  pub known : named one.name.text ≡ Some principle
  pub unknown : IsUnknown causes.WrongParams (dim_keys (form_of principle)) (keys one.dims) f
      ⊎ IsUnknown causes.WrongParams (arg_keys (form_of principle)) (keys one.args) f

-- one of these keys is the text of no name, which is told at a place
pub record IsMissing (wanted : List (List ℕ)) (names : List Name) (at : ℕ) (f : Fault) : Type 0 where
  pub key : List ℕ
  pub asked : In wanted key
  pub missing : In (texts names) key → ⊥
  pub fault : f ≡ fault_at causes.MissingArg at

-- a dimension of the principle is left out, or an argument that has no default
pub record IsLeftOut (statements : List Statement) (f : Fault) : Type 0 where
  pub one : Use
  pub stands : In (principle_uses statements) one
  pub principle : Principle
  pub known : named one.name.text ≡ Some principle
  pub missing : IsMissing (dim_keys (form_of principle)) (keys one.dims) one.name.span.start f
      ⊎ IsMissing (required_keys (form_of principle)) (keys one.args) one.name.span.start f

-- What is wrong with the names in the uses of principles, in dimensions that are used and in others: a dimension or an
-- argument is given twice, or a dimension that isn't defined, whether or not there is such a principle, or one that isn't
-- used, there is no such principle, or it has no such dimension or argument, or lacks one.
abbrev pub PrincipleNameOffends : List Statement → Fault → Type 0
PrincipleNameOffends statements f =
    IsTwice (flat_map once (principle_uses statements)) f
    ⊎ (IsUnknown causes.UnknownName (texts (dim_names statements)) (given_dims statements) f
    ⊎ (IsUnusedDimension statements f ⊎ (IsUnknownPrinciple statements f ⊎ (IsUnknownKey statements f ⊎ IsLeftOut statements f))))
