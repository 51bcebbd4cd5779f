-- The same said of each key below a bound.
use Rattle.std.proofs.Common.{◌≡◌, ℕ, ◌<◌, ◌≤◌, ◌+◌, zero, suc, List, [], ◌∷◌, ◌++◌, map, Option, Some, inl, inr, ap, ap₂, sym, ◌∙◌, arith}
use Rattle.std.specs.List.{range_with_len}
use Rattle.std.proofs.lemmas.List.{map-append}
use Rattle.std.proofs.lemmas.Bool.{cases_eq}
use Rattle.xdg_domain.specs.Valencies.{said_at, KeysRise}
use Rattle.xdg_domain.specs.Values.{AllBelow, EachSaid}
use Rattle.xdg_domain.specs.Defaults.{for_each_key}
use Rattle.xdg_domain.proofs.Keyed.{at_head, after_head}
use Rattle.xdg_facts.proofs.Options.{some_same}
use Rattle.xdg_facts.proofs.Each.{keyed}
use Rattle.xdg_facts.proofs.Sorting.{range_more}

-- one key more
pub each_more : {V : Type 0} (n : ℕ) (x : V) → for_each_key n x ++ (n, x) ∷ [] ≡ for_each_key (n + 1) x
each_more {V} n x = let said : ℕ → ℕ × V = λ key. (key, x) in sym (map-append said (range_with_len 0 n) (n ∷ [])) ∙ ap (map said) (range_more n)

pub keyed_rises : {V : Type 0} (g : ℕ → V) (first count : ℕ) → KeysRise first (keyed g first count)
keyed_rises g first zero = tt
keyed_rises g first (suc count) = (omega arith, keyed_rises g (first + 1) count)

pub each_rises : {V : Type 0} (x : V) (count : ℕ) → KeysRise 0 (for_each_key count x)
each_rises x count = keyed_rises (λ _. x) 0 count

pub keyed_each : {V : Type 0} (P : ℕ → V → Type 0) (g : ℕ → V) (bound first count : ℕ) → first + count ≤ bound → ((key : ℕ) → key < bound → P key (g key)) → EachSaid P (keyed g first count)
keyed_each P g bound first zero within holds = tt
keyed_each P g bound first (suc count) within holds = (holds first (omega (arith, within)), keyed_each P g bound (first + 1) count (omega (arith, within)) holds)

pub each_holds : {V : Type 0} (P : ℕ → V → Type 0) (x : V) (count : ℕ) → ((key : ℕ) → key < count → P key x) → EachSaid P (for_each_key count x)
each_holds P x count holds = keyed_each P (λ _. x) count 0 count (omega arith) holds

pub keyed_said : {V : Type 0} (g : ℕ → V) (first count key : ℕ) → first ≤ key → key < first + count → said_at (keyed g first count) key ≡ Some (g key)
keyed_said g first zero key above below = absurd (omega (arith, above, below))
keyed_said g first (suc count) key above below = elim (cases_eq first key) [
  | inl e ↦ at_head (first, g first) (keyed g (first + 1) count) key e ∙ ap (λ k. Some (g k)) e
  | inr other ↦ after_head (first, g first) (keyed g (first + 1) count) key other ∙ keyed_said g (first + 1) count key (omega (arith, above, other)) (omega (arith, below))
]

pub each_said : {V : Type 0} (x : V) (count key : ℕ) → key < count → said_at (for_each_key count x) key ≡ Some x
each_said x count key below = keyed_said (λ _. x) 0 count key (omega arith) (omega (arith, below))

below_from : (bound first count : ℕ) → first + count ≤ bound → AllBelow bound (range_with_len first count)
below_from bound first zero within = tt
below_from bound first (suc count) within = (omega (arith, within), below_from bound (first + 1) count (omega (arith, within)))

-- the full set stays below its count
pub all_below : (count : ℕ) → AllBelow count (range_with_len 0 count)
all_below count = below_from count 0 count (omega arith)

-- ---- a map made key by key

pub map_more : {V : Type 0} (o : Option V) (all next : List (ℕ × V)) (key : ℕ) (value : V) → ((x : V) → o ≡ Some x → all ≡ for_each_key key x) → Some value ≡ o → next ≡ all ++ (key, value) ∷ [] → (x : V) → o ≡ Some x → next ≡ for_each_key (key + 1) x
map_more o all next key value before has grown x is =
    grown ∙ ap₂ (λ s y. s ++ (key, y) ∷ []) (before x is) (some_same value x (has ∙ is)) ∙ each_more key x
