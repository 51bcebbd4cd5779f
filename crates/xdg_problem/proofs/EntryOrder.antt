-- The comparison of entries is that of their numbers.
use Rattle.std.proofs.Common.{◌≡◌, List, [], ◌∷◌, refl, ap₂}
use Rattle.std.specs.declared.cmp.Ordering.{Ordering}
use Rattle.std.specs.Ordering.{nat_cmp, ordering_then}
use Rattle.std.specs.Cmp.Lexicographic.{slice_cmp}
use Rattle.xdg_base.specs.declared.ids.EntryNo.{EntryNo}
use Rattle.xdg_problem.specs.EntryNumbers.{entry_numbers}
use Rattle.xdg_problem.proofs.EntryPlaces.{entry_equal}

pub compare_numbers : (R : EntryNo → EntryNo → Ordering) → ((x y : EntryNo) → R x y ≡ nat_cmp x.0 y.0) → (a b : List EntryNo) → slice_cmp R a b ≡ slice_cmp nat_cmp (entry_numbers a) (entry_numbers b)
compare_numbers R h [] [] = refl
compare_numbers R h [] (y ∷ b) = refl
compare_numbers R h (x ∷ a) [] = refl
compare_numbers R h (x ∷ a) (y ∷ b) = ap₂ (λ r s. ordering_then r s) (h x y) (compare_numbers R h a b)

pub numbers_equal : (a b : List EntryNo) → entry_numbers a ≡ entry_numbers b → a ≡ b
numbers_equal [] [] e = refl
numbers_equal (x ∷ a) (y ∷ b) e =
    let here : x.0 ≡ y.0 = cc in
    let rest : entry_numbers a ≡ entry_numbers b = cc in
    ap₂ (λ z zs. z ∷ zs) (entry_equal x y here) (numbers_equal a b rest)
numbers_equal a b e = absurd cc
