-- Turns of loops that keep which names they have seen, and the first that they saw again, over items that have names.
use Rattle.std.proofs.Common.{◌≡◌, ℕ, ◌+◌, ◌<◌, List, [], ◌∷◌, length, drop, get_or, map, Option, refl, sym, ap, ◌∙◌}
use Rattle.std.specs.List.{flat_map}
use Rattle.std.proofs.lemmas.List.{append-nil, map-append}
use Rattle.xdg_base.specs.declared.faults.Fault.{Fault}
use Rattle.xdg_ast.specs.declared.names.Name.{Name}
use Rattle.xdg_names.specs.First.{first, earlier}
use Rattle.xdg_types.specs.NameFaults.{repeated, repeats, with_text, with_all}
use Rattle.xdg_types.proofs.Again.{again_turn, seen_turn}

module _ {A : Type 0} (xs : List A) (i : ℕ) (x : A) (seen more all : List (List ℕ)) where
  -- a list of names
  pub seen_joined : (of : A → List Name) → i < length xs → x ≡ get_or xs i x → more ≡ with_all seen (of x) → with_all seen (flat_map of (drop i xs)) ≡ all → with_all more (flat_map of (drop (i + 1) xs)) ≡ all
  seen_joined of = seen_turn (flat_map of) (of x) x (λ ys. refl) seen more all xs i

  -- a list of things with a name each
  pub seen_named : {B : Type 0} (name : B → Name) (of : A → List B) → i < length xs → x ≡ get_or xs i x → more ≡ with_all seen (map name (of x))
      → with_all seen (map name (flat_map of (drop i xs))) ≡ all → with_all more (map name (flat_map of (drop (i + 1) xs))) ≡ all
  seen_named name of = seen_turn (λ ys. map name (flat_map of ys)) (map name (of x)) x (λ ys. map-append name (of x) (flat_map of ys)) seen more all xs i

  module _ (found next now total : Option Fault) where
    -- one name
    pub again_one : (names : List A → List Name) (n : Name) → ((ys : List A) → names (x ∷ ys) ≡ n ∷ names ys) → i < length xs → x ≡ get_or xs i x → next ≡ first (repeated seen n) → more ≡ with_text seen n.text → now ≡ earlier found next
        → (earlier found (first (repeats seen (names (drop i xs)))) ≡ total) × (with_all seen (names (drop i xs)) ≡ all)
        → (earlier now (first (repeats more (names (drop (i + 1) xs)))) ≡ total) × (with_all more (names (drop (i + 1) xs)) ≡ all)
    again_one names n each within is new = again_turn names (n ∷ []) x each seen more all xs i found next now total within is (new ∙ ap first (sym (append-nil (repeated seen n))))

    pub again_mapped : (of : A → Name) → i < length xs → x ≡ get_or xs i x → next ≡ first (repeated seen (of x)) → more ≡ with_text seen (of x).text → now ≡ earlier found next
        → (earlier found (first (repeats seen (map of (drop i xs)))) ≡ total) × (with_all seen (map of (drop i xs)) ≡ all)
        → (earlier now (first (repeats more (map of (drop (i + 1) xs)))) ≡ total) × (with_all more (map of (drop (i + 1) xs)) ≡ all)
    again_mapped of = again_one (map of) (of x) (λ ys. refl)

    -- a list of names
    pub again_joined : (of : A → List Name) → i < length xs → x ≡ get_or xs i x → next ≡ first (repeats seen (of x)) → more ≡ with_all seen (of x) → now ≡ earlier found next
        → (earlier found (first (repeats seen (flat_map of (drop i xs)))) ≡ total) × (with_all seen (flat_map of (drop i xs)) ≡ all)
        → (earlier now (first (repeats more (flat_map of (drop (i + 1) xs)))) ≡ total) × (with_all more (flat_map of (drop (i + 1) xs)) ≡ all)
    again_joined of = again_turn (flat_map of) (of x) x (λ ys. refl) seen more all xs i found next now total

    pub again_named : {B : Type 0} (name : B → Name) (of : A → List B) → i < length xs → x ≡ get_or xs i x → next ≡ first (repeats seen (map name (of x))) → more ≡ with_all seen (map name (of x)) → now ≡ earlier found next
        → (earlier found (first (repeats seen (map name (flat_map of (drop i xs))))) ≡ total) × (with_all seen (map name (flat_map of (drop i xs))) ≡ all)
        → (earlier now (first (repeats more (map name (flat_map of (drop (i + 1) xs))))) ≡ total) × (with_all more (map name (flat_map of (drop (i + 1) xs))) ≡ all)
    again_named name of =
        again_turn (λ ys. map name (flat_map of ys)) (map name (of x)) x (λ ys. map-append name (of x) (flat_map of ys)) seen more all xs i found next now total
