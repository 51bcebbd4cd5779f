-- The weight of all types, one after another.
use Rattle.std.proofs.Common.{◌≡◌, ◌≤◌, ◌<◌, ℕ, ◌+◌, List, [], ◌∷◌, ◌++◌, length, take, get_or, flat_map, add-one, sym, ap, ap₂, ◌∙◌, arith}
use Rattle.std.proofs.Math.Seq.{take-suc}
use Rattle.std.proofs.lemmas.Grind.{flat_map-append}
use Rattle.std.proofs.lemmas.List.{take_all, append-nil}
use Rattle.xdg_types.specs.Written.{tree}
use Rattle.xdg_types.specs.Parts.{TypeTerm}
use Rattle.xdg_types.specs.Meaning.{meaning}
use Rattle.xdg_typing.specs.Weights.{weight_of, beside}
use Rattle.xdg_facts.specs.Capped.{capped}
use Rattle.xdg_typing.proofs.WeightLaws.{beside_capped}
use Rattle.xdg_typing.specs.Branches.{Naming}
use Rattle.xdg_typing.specs.Small.{all_parts, weight_of_all}

module _ (names : Naming) where
  pub one_type : (ty : TypeTerm) (made : ℕ) → made ≡ weight_of (meaning names (tree ty.kind)) → made ≡ weight_of_all names (ty ∷ [])
  one_type ty made h = h ∙ ap capped (omega arith)

  pub parts_append : (xs ys : List TypeTerm) → all_parts names (xs ++ ys) ≡ all_parts names xs + all_parts names ys
  parts_append [] ys = omega arith
  parts_append (x ∷ xs) ys = let e = parts_append xs ys in omega (arith, e)

  weight_append : (xs ys : List TypeTerm) → beside (weight_of_all names xs) (weight_of_all names ys) ≡ weight_of_all names (xs ++ ys)
  weight_append xs ys = beside_capped (all_parts names xs) (all_parts names ys) ∙ ap capped (sym (parts_append xs ys))

  module _ {A : Type 0} (f : A → List TypeTerm) (xs : List A) (i : ℕ) where
    pub weight_next : (x : A) (all one next : ℕ) → i < length xs → x ≡ get_or xs i x → all ≡ weight_of_all names (flat_map f (take i xs)) → one ≡ weight_of_all names (f x) → next ≡ beside all one
        → next ≡ weight_of_all names (flat_map f (take (i + 1) xs))
    weight_next x all one next within at so_far here is =
        let front : take (i + 1) xs ≡ take i xs ++ x ∷ [] = rw add-one (take-suc xs i x within ∙ ap (λ z. take i xs ++ z ∷ []) (sym at)) in
        let parts_are : flat_map f (take (i + 1) xs) ≡ flat_map f (take i xs) ++ f x =
        ap (flat_map f) front ∙ flat_map-append f (take i xs) (x ∷ []) ∙ ap (λ ys. flat_map f (take i xs) ++ ys) (append-nil (f x)) in
        is ∙ ap₂ beside so_far here ∙ weight_append (flat_map f (take i xs)) (f x) ∙ ap (weight_of_all names) (sym parts_are)

    pub weight_end : (all : ℕ) → length xs ≤ i → all ≡ weight_of_all names (flat_map f (take i xs)) → all ≡ weight_of_all names (flat_map f xs)
    weight_end all past so_far = so_far ∙ ap (λ ys. weight_of_all names (flat_map f ys)) (take_all i xs past)
