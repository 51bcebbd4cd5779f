-- The comparison of lists number by number decides the order, and a test number by number what fits.
use Rattle.std.proofs.Common.{◌≡◌, ℕ, ◌<◌, ◌≤◌, inl, inr, List, [], ◌∷◌, length, get_or, refl, sym, arith, subst, zero, suc}
use Rattle.std.proofs.lemmas.Bool.{lt-ltb, le-ltb, eq-eqb, ne_eqb}
use Rattle.std.specs.Prelude.{◌↔◌}
use Rattle.std.specs.declared.cmp.Ordering.{Ordering}
use Rattle.std.specs.declared.cmp.Ordering.TheVariants as orderings
use Rattle.std.specs.Ordering.{nat_cmp}
use Rattle.std.specs.Cmp.Lexicographic.{slice_cmp}
use Rattle.xdg_facts.specs.Order.{Less}
use Rattle.xdg_facts.specs.Fits.{Fits}
use Rattle.xdg_facts.proofs.Ordered.{less_irreflexive, less_transitive, three_cases}

number_less : (a b : ℕ) → a < b → nat_cmp a b ≡ orderings.Less
number_less a b h = rw (lt-ltb a b h) refl

number_equal : (a b : ℕ) → a ≡ b → nat_cmp a b ≡ orderings.Equal
number_equal a b e = rw (le-ltb a b (omega arith), eq-eqb a b e) refl

number_greater : (a b : ℕ) → b < a → nat_cmp a b ≡ orderings.Greater
number_greater a b h = rw (le-ltb a b (omega arith), ne_eqb a b (λ e. omega arith)) refl

-- which answer a comparison gives, and what it says of the lists
abbrev pub Tells : Ordering → List ℕ → List ℕ → Type 0
Tells orderings.Less x y = Less x y
Tells orderings.Equal x y = x ≡ y
Tells orderings.Greater x y = Less y x

pub compared : (x y : List ℕ) → Tells (slice_cmp nat_cmp x y) x y
compared [] [] = refl
compared [] (b ∷ y) = tt
compared (a ∷ x) [] = tt
compared (a ∷ x) (b ∷ y) = elim (three_cases a b) [
  | inl l ↦ rw (number_less a b l) (inl l)
  | inr r ↦ elim r [
    | inl e ↦ rw (number_equal a b e) (behind (slice_cmp nat_cmp x y) a b x y e (compared x y))
    | inr g ↦ rw (number_greater a b g) (inl g)
  ]
]
  where
    behind : (o : Ordering) (a b : ℕ) (x y : List ℕ) → a ≡ b → Tells o x y → Tells o (a ∷ x) (b ∷ y)
    behind orderings.Less a b x y e t = inr (e, t)
    behind orderings.Equal a b x y e t = cc
    behind orderings.Greater a b x y e t = inr (sym e, t)

pub tells_less : (o : Ordering) (x y : List ℕ) → Tells o x y → (o ≡ orderings.Less) ↔ Less x y
tells_less orderings.Less x y t = (λ e. t, λ l. refl)
tells_less orderings.Equal x y t = (λ e. cc, λ l. absurd (less_irreflexive y (subst (λ z. Less z y) t l)))
tells_less orderings.Greater x y t = (λ e. cc, λ l. absurd (less_irreflexive x (less_transitive x y x l t)))

pub tells_equal : (o : Ordering) (x y : List ℕ) → Tells o x y → (o ≡ orderings.Equal) ↔ (x ≡ y)
tells_equal orderings.Less x y t = (λ e. cc, λ q. absurd (less_irreflexive y (subst (λ z. Less z y) q t)))
tells_equal orderings.Equal x y t = (λ e. t, λ q. refl)
tells_equal orderings.Greater x y t = (λ e. cc, λ q. absurd (less_irreflexive y (subst (λ z. Less y z) q t)))

pub tells_greater : (o : Ordering) (x y : List ℕ) → Tells o x y → (o ≡ orderings.Greater) ↔ Less y x
tells_greater orderings.Less x y t = (λ e. cc, λ l. absurd (less_irreflexive x (less_transitive x y x t l)))
tells_greater orderings.Equal x y t = (λ e. cc, λ l. absurd (less_irreflexive y (subst (λ z. Less y z) t l)))
tells_greater orderings.Greater x y t = (λ e. t, λ l. refl)

pub fits_of : (shape x : List ℕ) → length x ≤ length shape → ((k : ℕ) → k < length x → get_or x k 0 < get_or shape k 0) → Fits shape x
fits_of shape [] l each = tt
fits_of [] (a ∷ x) l each = absurd (omega arith)
fits_of (s ∷ shape) (a ∷ x) l each = (each 0 (omega arith), fits_of shape x (omega arith) (λ k h. each (suc k) (omega arith)))

pub fits_at : (shape x : List ℕ) (k : ℕ) → Fits shape x → k < length x → get_or x k 0 < get_or shape k 0
fits_at shape [] k f h = absurd (omega arith)
fits_at [] (a ∷ x) k f h = absurd f
fits_at (s ∷ shape) (a ∷ x) zero f h = f.0
fits_at (s ∷ shape) (a ∷ x) (suc k) f h = fits_at shape x k f.1 (omega arith)
