-- Turns of loops that keep the first of what is wrong with the items that they have looked at.
use Rattle.std.proofs.Common.{◌≡◌, ℕ, ◌+◌, ◌<◌, List, length, drop, get_or, map, Option, refl}
use Rattle.std.specs.List.{flat_map}
use Rattle.std.proofs.lemmas.Grind.{flat_map-append}
use Rattle.xdg_base.specs.declared.faults.Fault.{Fault}
use Rattle.xdg_names.specs.First.{first, earlier}
use Rattle.xdg_names.proofs.First.{first_turn}

-- What a loop has found, where these are left: with what is wrong with them it is the first of what is wrong with all.
abbrev pub FoundSoFar : {A : Type 0} → Option Fault → (A → List Fault) → List A → List A → Type 0
FoundSoFar found g left all = earlier found (first (flat_map g left)) ≡ first (flat_map g all)

module _ {A : Type 0} (xs : List A) (i : ℕ) (x : A) (found next now total : Option Fault) where
  -- what is wrong is told of each item
  pub each_turn : (g : A → List Fault) → i < length xs → x ≡ get_or xs i x → next ≡ first (g x) → now ≡ earlier found next
      → earlier found (first (flat_map g (drop i xs))) ≡ total → earlier now (first (flat_map g (drop (i + 1) xs))) ≡ total
  each_turn g = first_turn (flat_map g) (g x) x (λ ys. refl) xs i found next now total

  -- of one thing in each item
  pub mapped_turn : {B : Type 0} (g : B → List Fault) (of : A → B) → i < length xs → x ≡ get_or xs i x → next ≡ first (g (of x)) → now ≡ earlier found next
      → earlier found (first (flat_map g (map of (drop i xs)))) ≡ total → earlier now (first (flat_map g (map of (drop (i + 1) xs)))) ≡ total
  mapped_turn g of = first_turn (λ ys. flat_map g (map of ys)) (g (of x)) x (λ ys. refl) xs i found next now total

  -- of a list of things in each item
  pub joined_turn : {B : Type 0} (g : B → List Fault) (of : A → List B) → i < length xs → x ≡ get_or xs i x → next ≡ first (flat_map g (of x)) → now ≡ earlier found next
      → earlier found (first (flat_map g (flat_map of (drop i xs)))) ≡ total → earlier now (first (flat_map g (flat_map of (drop (i + 1) xs)))) ≡ total
  joined_turn g of = first_turn (λ ys. flat_map g (flat_map of ys)) (flat_map g (of x)) x (λ ys. flat_map-append g (of x) (flat_map of ys)) xs i found next now total
