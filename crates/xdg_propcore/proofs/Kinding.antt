-- The wake set of a principle use has exactly the kinds at which its tests look.
use Rattle.std.proofs.Common.{◌≡◌, ◌⊎◌, ◌↔◌, ℕ, zero, suc, ◌<◌, ◌≤◌, ◌^◌, inl, inr, Bool, true, false, List, [], ◌∷◌, All, length, refl, sym, ap, ◌∙◌, arith, subst}
use Rattle.std.specs.Prelude.{slice_index_or}
use Rattle.std.specs.Int.{bit_at}
use lib.Bits.{bit_or}
use Rattle.std.proofs.lemmas.Bool.{false≢true}
use Rattle.std.proofs.lemmas.Nat.Bits.{bit_at-zero}
use Rattle.xdg_base.specs.declared.ids.DimId.{DimId}
use Rattle.xdg_facts.proofs.Bits.{or_new_bit, or_left_bit, or_bit}
use Rattle.xdg_problem.specs.declared.parts.Group.{Group}
use Rattle.xdg_problem.specs.declared.parts.Parts.{Parts}
use Rattle.xdg_problem.specs.Arguments.{first_dim, second_dim}
use Rattle.xdg_problem.specs.Problems.{IsGroup, IsProblem}
use Rattle.xdg_propcore.specs.Kinds.{entry_kind, attr_kind, edge_kind}
use Rattle.xdg_propcore.specs.UseKinds.{AreSmall, HasKinds, IsKindFor, with_kind}
use Rattle.xdg_problem.specs.Principles.{looks_at_entries, looks_at_attrs, looks_at_first, looks_at_second}

-- ---- one kind more

with_exact : (wanted : Bool) (k wakes more kind : ℕ) (Rest : Type 0) → more ≡ with_kind wanted (2 ^ k) wakes → (bit_at wakes kind ≡ 1) ↔ Rest
    → (bit_at more kind ≡ 1) ↔ (((wanted ≡ true) × (kind ≡ k)) ⊎ Rest)
with_exact true k wakes more kind Rest is rest = (
  λ h. elim (or_bit wakes k kind (subst (λ n. bit_at n kind ≡ 1) is h)) [ inl old ↦ inr (rest.0 old) | inr new ↦ inl (refl, new) ],
  λ h. subst (λ n. bit_at n kind ≡ 1) (sym is) (elim h [
    | inl new ↦ subst (λ i. bit_at (bit_or wakes (2 ^ k)) i ≡ 1) (sym new.1) (or_new_bit wakes k)
    | inr old ↦ or_left_bit wakes (2 ^ k) kind (rest.1 old)
  ]),
)
with_exact false k wakes more kind Rest is rest = (
  λ h. inr (rest.0 (subst (λ n. bit_at n kind ≡ 1) is h)),
  λ h. subst (λ n. bit_at n kind ≡ 1) (sym is) (elim h [ inl new ↦ absurd (false≢true new.0) | inr old ↦ rest.1 old ]),
)

-- as the code says it
pub with_it : (wanted looks : Bool) (set k wakes more : ℕ) → wanted ≡ looks → set ≡ 2 ^ k → more ≡ with_kind wanted set wakes → more ≡ with_kind looks (2 ^ k) wakes
with_it wanted looks set k wakes more same is at = at ∙ ap (λ b. with_kind b set wakes) same ∙ ap (λ n. with_kind looks n wakes) is

-- ---- all of them

module _ (group : Group) (second first attrs all : ℕ) (s : second ≡ with_kind (looks_at_second group.principle) (2 ^ edge_kind (second_dim group)) 0) (f : first ≡ with_kind (looks_at_first group.principle) (2 ^ edge_kind (first_dim group)) second) (a : attrs ≡ with_kind (looks_at_attrs group.principle) (2 ^ attr_kind (first_dim group)) first) (e : all ≡ with_kind (looks_at_entries group.principle) (2 ^ entry_kind) attrs) where
  exact : (kind : ℕ) → (bit_at all kind ≡ 1) ↔ IsKindFor group kind
  exact kind =
      let none : (bit_at 0 kind ≡ 1) ↔ ⊥ = (λ h. (let z = bit_at-zero kind in omega (arith, z, h)), λ h. absurd h) in
      let last = with_exact (looks_at_second group.principle) (edge_kind (second_dim group)) 0 second kind ⊥ s none in
      with_exact (looks_at_entries group.principle) entry_kind attrs all kind _ e
      (with_exact (looks_at_attrs group.principle) (attr_kind (first_dim group)) first attrs kind _ a
      (with_exact (looks_at_first group.principle) (edge_kind (first_dim group)) second first kind _ f
      (λ h. elim (last.0 h) [ inl x ↦ x | inr x ↦ absurd x ], λ x. last.1 (inl x))))

  pub has_kinds : HasKinds group all
  has_kinds = record { each = λ kind. (exact kind).1; only = λ kind. (exact kind).0 }

-- ---- dimensions

small_at : (n : ℕ) (dims : List DimId) → n ≤ 8 → All (λ dim. dim.0 < n) dims → (i : ℕ) → (slice_index_or dims i (record { 0 = 0 })).0 < 8
small_at n [] most each i = omega arith
small_at n (dim ∷ dims) most each zero = let l = each 0 dim (omega arith) in omega (arith, l, most)
small_at n (dim ∷ dims) most each (suc i) = small_at n dims most (λ j d l. each (suc j) d (omega (arith, l))) i

pub small_dims : (parts : Parts) (group : Group) → IsProblem parts → IsGroup parts group → AreSmall group
small_dims parts group problem is = (small_at (length parts.dims) group.dims problem.dims_most is.dims 0, small_at (length parts.dims) group.dims problem.dims_most is.dims 1)

pub few : (dim small : ℕ) → dim ≡ small → small < 8 → dim < 8
few dim small same l = omega (arith, same, l)
