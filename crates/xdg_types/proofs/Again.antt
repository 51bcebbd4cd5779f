-- Names that stand again, read one after the other.
use Rattle.std.proofs.Common.{◌≡◌, ℕ, suc, ◌+◌, ◌<◌, List, [], ◌∷◌, ◌++◌, length, drop, get_or, add-one, drop-cons, Option, refl, sym, ap, ◌∙◌, append_assoc}
use Rattle.xdg_base.specs.declared.faults.Fault.{Fault}
use Rattle.xdg_ast.specs.declared.names.Name.{Name}
use Rattle.xdg_names.specs.First.{first, earlier}
use Rattle.xdg_names.proofs.First.{first_change}
use Rattle.xdg_types.specs.NameFaults.{repeated, repeats, with_text, with_all}

pub repeats-append : (seen : List (List ℕ)) (xs ys : List Name) → repeats seen (xs ++ ys) ≡ repeats seen xs ++ repeats (with_all seen xs) ys
repeats-append seen [] ys = refl
repeats-append seen (x ∷ xs) ys =
    ap (λ fs. repeated seen x ++ fs) (repeats-append (with_text seen x.text) xs ys)
    ∙ sym (append_assoc (repeated seen x) (repeats (with_text seen x.text) xs) (repeats (with_all (with_text seen x.text) xs) ys))

pub with_all-append : (seen : List (List ℕ)) (xs ys : List Name) → with_all seen (xs ++ ys) ≡ with_all (with_all seen xs) ys
with_all-append seen [] ys = refl
with_all-append seen (x ∷ xs) ys = with_all-append (with_text seen x.text) xs ys

-- What a loop has found and seen, where these names are left: with them it is what it finds and sees of all, which it began with
-- what was seen before.
abbrev pub SeenSoFar : Option Fault → List (List ℕ) → List Name → List (List ℕ) → List Name → Type 0
SeenSoFar found seen left before all = (earlier found (first (repeats seen left)) ≡ first (repeats before all)) × (with_all seen left ≡ with_all before all)

-- A turn of a loop over items that have these names: what it has found, and what it has seen.
module _ {A : Type 0} (names : List A → List Name) (here : List Name) (x : A) (each : (xs : List A) → names (x ∷ xs) ≡ here ++ names xs) where
  found_turn : (seen more : List (List ℕ)) (xs : List A) (i : ℕ) (found next now total : Option Fault)
      → i < length xs → x ≡ get_or xs i x → next ≡ first (repeats seen here) → more ≡ with_all seen here → now ≡ earlier found next
      → earlier found (first (repeats seen (names (drop i xs)))) ≡ total → earlier now (first (repeats more (names (drop (i + 1) xs)))) ≡ total
  found_turn seen more xs i found next now total within is new grown sum so_far =
      first_change (λ ys. repeats seen (names ys)) (λ ys. repeats more (names ys)) (repeats seen here) x
      (λ ys. ap (repeats seen) (each ys) ∙ repeats-append seen here (names ys) ∙ ap (λ s. repeats seen here ++ repeats s (names ys)) (sym grown))
      xs i found next now total within is new sum so_far

  pub seen_turn : (seen more all : List (List ℕ)) (xs : List A) (i : ℕ)
      → i < length xs → x ≡ get_or xs i x → more ≡ with_all seen here → with_all seen (names (drop i xs)) ≡ all → with_all more (names (drop (i + 1) xs)) ≡ all
  seen_turn seen more all xs i within is grown so_far =
      let front : drop i xs ≡ x ∷ drop (i + 1) xs = rw (add-one, drop-cons xs i x) (ap (λ y. y ∷ drop (suc i) xs) (sym is)) in
      ap (λ s. with_all s (names (drop (i + 1) xs))) grown
      ∙ sym (with_all-append seen here (names (drop (i + 1) xs)))
      ∙ ap (with_all seen) (sym (each (drop (i + 1) xs)))
      ∙ ap (λ ys. with_all seen (names ys)) (sym front)
      ∙ so_far

  pub again_turn : (seen more all : List (List ℕ)) (xs : List A) (i : ℕ) (found next now total : Option Fault)
      → i < length xs → x ≡ get_or xs i x → next ≡ first (repeats seen here) → more ≡ with_all seen here → now ≡ earlier found next
      → (earlier found (first (repeats seen (names (drop i xs)))) ≡ total) × (with_all seen (names (drop i xs)) ≡ all)
      → (earlier now (first (repeats more (names (drop (i + 1) xs)))) ≡ total) × (with_all more (names (drop (i + 1) xs)) ≡ all)
  again_turn seen more all xs i found next now total within is new grown sum so_far =
      (found_turn seen more xs i found next now total within is new grown sum so_far.0, seen_turn seen more all xs i within is grown so_far.1)
