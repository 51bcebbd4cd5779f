-- The attributes that the arguments of a principle use name have small places.
use Rattle.std.proofs.Common.{◌≡◌, ℕ, zero, suc, ◌<◌, ◌≤◌, List, [], ◌∷◌, length, sym, subst, arith}
use Rattle.std.specs.Prelude.{All, Option, None, Some, slice_get}
use Rattle.std.proofs.lemmas.List.{length-map}
use Rattle.std.proofs.lemmas.Option.{slice_get_within}
use Rattle.xdg_domain.specs.Shapes.{Shape, shape}
use Rattle.xdg_types.specs.declared.table.DimType.{DimType}
use Rattle.xdg_types.specs.Table.{Table, KeepDims}
use Rattle.xdg_principles.specs.declared.building.PrincipleUse.{PrincipleUse}
use Rattle.xdg_problem.specs.declared.forms.Sort.TheVariants as s
use Rattle.xdg_problem.specs.declared.forms.Typing.{Typing}
use Rattle.xdg_problem.specs.declared.forms.Wanted.{Wanted}
use Rattle.xdg_problem.specs.declared.forms.Wanted.TheVariants as a
use Rattle.xdg_problem.specs.declared.forms.Which.{Which}
use Rattle.xdg_problem.specs.Forms.{form_of, parameters}
use Rattle.xdg_principles.specs.Settings.{at_place, members_in}
use Rattle.xdg_principles.specs.Typed.{IsTypedUse, IsTypedMember, members_at, place_at}
use Rattle.xdg_build.specs.Rows.{IsSmallArg}
use Rattle.xdg_build.proofs.TypedArguments.{Named, AllNamed, arg_of, args_of, all_named, wanted_by}
use Rattle.xdg_facts.proofs.Lists.{all_cons, all_none}

few_at : (dims : List DimType) (k : ℕ) → KeepDims dims → length (members_in s.Attribute (slice_get dims k)) ≤ 8
few_at [] k h = omega arith
few_at (dim ∷ dims) zero h = h.0.few_attrs
few_at (dim ∷ dims) (suc k) h = few_at dims k h.1

few : (dims : List DimType) (o : Option ℕ) → KeepDims dims → length (members_in s.Attribute (at_place dims o)) ≤ 8
few dims None h = omega arith
few dims (Some k) h = few_at dims k h

small_member : (table : Table) (u : PrincipleUse) (shared : Shape) (which : Which) (typing : Typing) (k : ℕ) → KeepDims table.dims → IsTypedMember table u shared s.Attribute which typing k → k < 256
small_member table u shared which typing k keeps h =
    let within : k < length (members_at table u s.Attribute which) = slice_get_within (members_at table u s.Attribute which) k (h.name, h.type) h.stands in
    let size : length (members_at table u s.Attribute which) ≡ length (members_in s.Attribute (at_place table.dims (place_at u which))) = length-map (members_in s.Attribute (at_place table.dims (place_at u which))) (λ one. (one.0, shape one.1)) in
    omega (arith, within, size, few table.dims (place_at u which) keeps)

module _ (table : Table) (u : PrincipleUse) (shared : Shape) (keeps : KeepDims table.dims) where
  small_arg : (w : Wanted) (x : Named table u shared w) → IsSmallArg (arg_of table u shared w x)
  small_arg (a.Member s.Feature which typing) x = tt
  small_arg (a.Member s.Attribute which typing) x = small_member table u shared which typing x.0 keeps x.1
  small_arg (a.Labels which) x = tt
  small_arg a.Truth x = tt

  small_all : (ws : List Wanted) (xs : AllNamed table u shared ws) → All IsSmallArg (args_of table u shared ws xs)
  small_all [] xs = all_none IsSmallArg
  small_all (w ∷ ws) xs = all_cons IsSmallArg (arg_of table u shared w xs.0) (args_of table u shared ws xs.1) (small_arg w xs.0) (small_all ws xs.1)

pub small_args : (table : Table) (u : PrincipleUse) → KeepDims table.dims → IsTypedUse table u → All IsSmallArg u.args
small_args table u keeps t =
    let all = all_named table u t.shared (parameters (form_of u.principle)) u.args t.args in
    subst (All IsSmallArg) (sym all.1) (small_all table u t.shared keeps (wanted_by (form_of u.principle)) all.0)
