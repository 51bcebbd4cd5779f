-- Lists that are compared.
use Rattle.std.proofs.Common.{◌≡◌, ℕ, ◌<◌, ◌≤◌, false, List, [], ◌∷◌, length, drop, map, refl, sym, ◌∙◌, length-drop, arith}
use Rattle.std.specs.Prelude.{Bool, ◌==◌}
use Rattle.std.proofs.lemmas.Bool.Decides.{nat_tests}
use Rattle.std.proofs.lemmas.List.{at_drop_all}
use Rattle.xdg_domain.specs.Shapes.{shape, shapes_of, constants_of}
use Rattle.xdg_domain.specs.declared.types.Ty.{Ty}
use Rattle.xdg_principles.specs.Wanted.{same_texts, same_domains}

-- the second list has ended
module _ {X Y : Type 0} (same : List X → List Y → Bool) (longer : (x : X) (xs : List X) → same (x ∷ xs) [] ≡ false) where
  ended : (a : List X) (b : List Y) → 0 < length a → length b ≡ 0 → same a b ≡ false
  ended [] b some none = absurd (omega (arith, some))
  ended (x ∷ xs) [] some none = longer x xs
  ended (x ∷ xs) (y ∷ ys) some none = absurd (omega (arith, none))

  short : (a : List X) (b : List Y) (i : ℕ) → i < length a → length b ≡ 0 → same (drop i a) b ≡ false
  short a b i within none = ended (drop i a) b (omega (arith, length-drop i a, within)) none

pub texts_short : (a b : List (List ℕ)) (i : ℕ) → i < length a → length b ≡ 0 → same_texts (drop i a) b ≡ false
texts_short = short same_texts (λ x xs. refl)

-- the domains of these types
abbrev pub domains : List Ty → List (List (List ℕ))
domains types = constants_of (shapes_of (map shape types))

pub domains_short : (a b : List Ty) (i : ℕ) → i < length a → length b ≡ 0 → same_domains (domains (drop i a)) (domains b) ≡ false
domains_short = short (λ a b. same_domains (domains a) (domains b)) (λ x xs. refl)

not_none : (n : ℕ) → 0 < n → (n == 0) ≡ false
not_none n some = grind (arith, nat_tests)

at_end : (b : List Ty) → (length b == 0) ≡ same_domains [] (domains b)
at_end [] = refl
at_end (y ∷ ys) = not_none (length (y ∷ ys)) (omega arith)

-- the first list has ended
pub domains_end : (a b : List Ty) (i : ℕ) (total : Bool) → length a ≤ i → same_domains (domains (drop i a)) (domains b) ≡ total → (length b == 0) ≡ total
domains_end a b i total past so_far = at_end b ∙ sym (at_drop_all (λ types. same_domains (domains types) (domains b)) a i past) ∙ so_far
