-- The dimensions of a principle use, and their places among the used ones.
use Rattle.std.proofs.Common.{◌≡◌, ℕ, suc, ◌<◌, true, cond, List, [], ◌∷◌, length, get_or, ap, ◌∙◌, inl, inr, eq-eqb}
use Rattle.std.specs.Prelude.{Some, slice_get}
use Rattle.std.proofs.lemmas.Bool.{cases_eq, ne_eqb}
use Rattle.std.proofs.lemmas.Option.{slice_get-get_or, slice_get_within}
use Rattle.xdg_types.specs.declared.table.DimType.{DimType}
use Rattle.xdg_types.specs.Table.{Table, typed}
use Rattle.xdg_packed.specs.Entries.{IsUsed}
use Rattle.xdg_principles.specs.declared.building.PrincipleUse.{PrincipleUse}
use Rattle.xdg_problem.specs.declared.forms.Sort.{Sort}
use Rattle.xdg_problem.specs.declared.forms.Which.{Which}
use Rattle.xdg_principles.specs.Settings.{at_place, labels_in, members_in}
use Rattle.xdg_principles.specs.Typed.{IsTypedUse, number_of, labels_at, members_at}
use Rattle.xdg_build.specs.Grammars.{is_used, used_place, place_of_used}
use Rattle.xdg_formula.specs.Tables.{no_dim}
use Rattle.xdg_facts.specs.Membership.{In}
use Rattle.xdg_facts.proofs.In.{in_get, in_of_any}

-- ---- places among the used ones

pub used_at : (used : List ℕ) (k : ℕ) → In used k → slice_get used (place_of_used used k) ≡ Some k
used_at [] k h = absurd h
used_at (j ∷ used) k h = elim (cases_eq j k) [
  | inl e ↦ ap (λ b. slice_get (j ∷ used) (cond b 0 (suc (place_of_used used k)))) (eq-eqb j k e) ∙ ap Some e
  | inr other ↦ ap (λ b. slice_get (j ∷ used) (cond b 0 (suc (place_of_used used k)))) (ne_eqb j k other) ∙ used_at used k (later h other)
]
  where
    later : In (j ∷ used) k → (j ≡ k → ⊥) → In used k
    later h other = elim h [ inl e ↦ absurd (other e) | inr r ↦ r ]

pub used_below : (used : List ℕ) (k : ℕ) → In used k → place_of_used used k < length used
used_below used k h = slice_get_within used (place_of_used used k) k (used_at used k h)

-- ---- a dimension of a use

-- the dimension with that place among all, which is used
pub record Home (table : Table) (k : ℕ) : Type 0 where
  pub dim : DimType
  pub stands : slice_get table.dims k ≡ Some dim
  pub used : slice_get table.used (used_place table k) ≡ Some k

pub home_at : (table : Table) (u : PrincipleUse) → IsTypedUse table u → is_used table u.home ≡ true → (k : ℕ) → In u.dims k → Home table k
home_at table u t used k stands = record {
  dim = get_or table.dims k no_dim;
  stands = slice_get-get_or table.dims k no_dim (t.dims k stands);
  used = used_at table.used k (t.used (in_of_any table.used u.home used) k stands);
}

pub below_at : (table : Table) (u : PrincipleUse) → IsTypedUse table u → is_used table u.home ≡ true → (k : ℕ) → In u.dims k → used_place table k < length table.used
below_at table u t used k stands = used_below table.used k (t.used (in_of_any table.used u.home used) k stands)

pub is_used_home : (table : Table) (k : ℕ) (h : Home table k) → IsUsed table (used_place table k) h.dim
is_used_home table k h = (k, (h.used, h.stands))

-- that of a use with that number
pub home_of : (table : Table) (u : PrincipleUse) → IsTypedUse table u → is_used table u.home ≡ true → (n : ℕ) → n < length u.dims → Home table (get_or u.dims n 0)
home_of table u t used n within = home_at table u t used (get_or u.dims n 0) (in_get u.dims n 0 within)

dim_at_home : (table : Table) (u : PrincipleUse) (which : Which) → number_of which < length u.dims → (h : Home table (get_or u.dims (number_of which) 0)) → at_place table.dims (slice_get u.dims (number_of which)) ≡ Some h.dim
dim_at_home table u which within h = ap (at_place table.dims) (slice_get-get_or u.dims (number_of which) 0 within) ∙ h.stands

pub labels-home : (table : Table) (u : PrincipleUse) (which : Which) → number_of which < length u.dims → (h : Home table (get_or u.dims (number_of which) 0)) → labels_at table u which ≡ h.dim.labels
labels-home table u which within h = ap labels_in (dim_at_home table u which within h)

pub members-home : (table : Table) (u : PrincipleUse) (sort : Sort) (which : Which) → number_of which < length u.dims → (h : Home table (get_or u.dims (number_of which) 0)) → members_at table u sort which ≡ typed (members_in sort (Some h.dim))
members-home table u sort which within h = ap (λ o. typed (members_in sort o)) (dim_at_home table u which within h)
