-- What code finds of an attribute or a feature with which nothing is wrong.
use Rattle.std.proofs.Common.{◌≡◌, ◌≢◌, ℕ, ◌<◌, List, [], length, get_or, None, Some, sym, ap, ◌∙◌, arith}
use Rattle.std.specs.Prelude.{slice_get}
use Rattle.std.proofs.lemmas.Option.{get_or_from_slice_get, slice_get_within}
use Rattle.xdg_base.specs.declared.faults.Fault.{Fault}
use Rattle.xdg_ast.specs.declared.names.Name.{Name}
use Rattle.xdg_domain.specs.Shapes.{Shape}
use Rattle.xdg_domain.specs.declared.types.Ty.{Ty}
use Rattle.xdg_packed.specs.Lexicon.{Lexicon}
use Rattle.xdg_types.specs.declared.table.DimType.{DimType}
use Rattle.xdg_types.specs.Table.{Table, IsTable, KeepsDim, firsts}
use Rattle.xdg_formula.specs.Tables.{member_shape, no_dim, used_dims}
use Rattle.xdg_build.specs.Formulas.{place_or_zero}
use Rattle.xdg_build.specs.Places.{names_at}
use Rattle.xdg_build.proofs.Rightly.{IsMemberAt}
use Rattle.xdg_build.proofs.Used.{type_kept, used_is}
use Rattle.xdg_facts.proofs.Options.{none_some, some_same}

-- it stands at its place, has a type with which nothing is wrong, and belongs to a dimension of a table
pub record IsHere (dim : DimType) (lent : List (List ℕ × Ty)) (name : List ℕ) (own : ℕ) (rule : Ty → List Fault) : Type 0 where
  pub type : Ty
  pub stands : slice_get lent own ≡ Some (name, type)
  pub right : rule type ≡ []
  pub kept : KeepsDim dim

pub member_here : (table : Table) (lexicon : Lexicon) → IsTable table → (all : DimType → List (List ℕ × Ty)) (rule : Ty → List Fault) (dim name : Name) → IsMemberAt table all rule dim name
    → (d : ℕ) (found : DimType) (lent : List (List ℕ × Ty)) (own : ℕ) → d ≡ place_or_zero (names_at table.dims table.used) dim.text → found ≡ get_or (used_dims table) d no_dim → lent ≡ all found → own ≡ place_or_zero (firsts lent) name.text
    → IsHere found lent name.text own rule
member_here table lexicon is all rule dim name m d found lent own d_is there same own_is =
    let within : d < length (used_dims table) = (let l = m.dim_at.within in omega (arith, l, d_is)) in
    let found_is : found ≡ _ = there ∙ ap (λ k. get_or (used_dims table) k no_dim) d_is ∙ used_is table lexicon is _ m.dim_at.within in
    record { type = m.type; stands = rw (own_is, same, found_is) m.stands; right = m.right; kept = rw there (type_kept table lexicon is d within) }

-- what stands there, as it is read
pub here_is : (dim : DimType) (lent : List (List ℕ × Ty)) (name : List ℕ) (own : ℕ) (rule : Ty → List Fault) (h : IsHere dim lent name own rule) (one other : List ℕ × Ty) → one ≡ get_or lent own other → one.1 ≡ h.type
here_is dim lent name own rule h one other is = ap (λ (e : List ℕ × Ty). e.1) (is ∙ get_or_from_slice_get lent own (name, h.type) other h.stands)

pub own_within : (dim : DimType) (lent : List (List ℕ × Ty)) (name : List ℕ) (own : ℕ) (rule : Ty → List Fault) → IsHere dim lent name own rule → own < length lent
own_within dim lent name own rule h = slice_get_within lent own (name, h.type) h.stands

-- the type of members, as it was found
pub members_found : (s of found : Shape) → member_shape s ≡ Some of → (member_shape s ≢ None → member_shape s ≡ Some found) → of ≡ found
members_found s of found members tells = some_same of found (sym members ∙ tells (λ none. absurd (none_some of (sym none ∙ members))))
