-- Whether a set of nodes has members, and what that says of other sets.
use Rattle.std.proofs.Common.{◌≡◌, ◌↔◌, ◌⊎◌, ℕ, ◌<◌, IsTrue, inl, inr, zero, suc, Bool, true, false, ◌&&◌, List, length, refl, sym, ◌∙◌, arith}
use Rattle.std.specs.Prelude.{not, ◌==◌}
use Rattle.std.proofs.lemmas.Bool.{cases_Bool, and_parts, and_from, eq-eqb, eqb-true, false≢true, false_from_ne_true, not_from_false, both_ways, not-true}
use Rattle.xdg_graph.specs.Every.{IsEvery}
use Rattle.xdg_formula_value.specs.Rows.{Over}
use Rattle.xdg_facts.proofs.Rising.{contains_of_has}
use Rattle.xdg_facts.specs.Rises.{has}
use Rattle.xdg_store.proofs.Labelled.{some_in}
use Rattle.xdg_facts.proofs.Sets.{none_in}

-- no member is missing
pub over_each : (n : ℕ) (all set rest : List ℕ) → IsEvery n all → ((v : ℕ) → has rest v ≡ (has all v && not (has set v))) → (length rest ≡ 0) ↔ Over true n (λ v. has set v ≡ true)
over_each n all set rest every is = (
  λ none v l. elim (cases_Bool (has set v)) [
    | inl there ↦ there
    | inr gone ↦ absurd (none_in rest v none (is v ∙ and_from (has all v) (not (has set v)) ((every v).1 l) (not_from_false (has set v) gone)))
  ],
  λ each. elim (cases_none (length rest)) [
    | inl none ↦ none
    | inr some ↦ (let found = some_in rest some in let both = and_parts (has all found.0) (not (has set found.0)) (sym (is found.0) ∙ found.1) in
        absurd (both_ways (has set found.0) (not-true (has set found.0) both.1) (each found.0 ((every found.0).0 both.0))))
  ],
)
  where
    cases_none : (k : ℕ) → (k ≡ 0) ⊎ (0 < k)
    cases_none zero = inl refl
    cases_none (suc k) = inr (omega arith)

-- some member is there
pub over_some : (n : ℕ) (all set rest : List ℕ) → IsEvery n all → ((v : ℕ) → has rest v ≡ (has all v && has set v)) → (0 < length rest) ↔ Over false n (λ v. has set v ≡ true)
over_some n all set rest every is = (
  λ some. (let found = some_in rest some in let both = and_parts (has all found.0) (has set found.0) (sym (is found.0) ∙ found.1) in (found.0, (every found.0).0 both.0, both.1)),
  λ some. (let within = (contains_of_has rest some.0 (is some.0 ∙ and_from (has all some.0) (has set some.0) ((every some.0).1 some.1) some.2)).1 in omega (arith, within)),
)

-- ---- what a number of nodes tells

zero_told : (count k : ℕ) (P : Type 0) → count ≡ k → (k ≡ 0) ↔ P → IsTrue (count == 0) ↔ P
zero_told count k P counted is = (λ t. is.0 (sym counted ∙ eqb-true count 0 t), λ p. eq-eqb count 0 (counted ∙ is.1 p))

some_counted : (count k : ℕ) (P : Type 0) → count ≡ k → (0 < k) ↔ P → IsTrue (not (count == 0)) ↔ P
some_counted zero k P counted is = (λ t. absurd (both_ways (zero == 0) (not-true (zero == 0) t) (eq-eqb zero 0 refl)), λ p. (let some = is.1 p in absurd (omega (arith, some, counted))))
some_counted (suc count) k P counted is = (λ t. is.0 (omega (arith, counted)), λ p. not_from_false (suc count == 0) (false_from_ne_true (suc count == 0) (λ t. (let e = eqb-true (suc count) 0 t in absurd (omega (arith, e))))))

pub each_told : (each : Bool) (n : ℕ) (all set rest : List ℕ) (count : ℕ) → each ≡ true → IsEvery n all → ((v : ℕ) → has rest v ≡ (has all v && not (has set v))) → count ≡ length rest → IsTrue (count == 0) ↔ Over each n (λ v. has set v ≡ true)
each_told true n all set rest count is every minus counted = zero_told count (length rest) (Over true n (λ v. has set v ≡ true)) counted (over_each n all set rest every minus)
each_told false n all set rest count is every minus counted = absurd (false≢true is)

pub some_told : (each : Bool) (n : ℕ) (all set rest : List ℕ) (count : ℕ) → each ≡ false → IsEvery n all → ((v : ℕ) → has rest v ≡ (has all v && has set v)) → count ≡ length rest → IsTrue (not (count == 0)) ↔ Over each n (λ v. has set v ≡ true)
some_told true n all set rest count is every meet counted = absurd (false≢true (sym is))
some_told false n all set rest count is every meet counted = some_counted count (length rest) (Over false n (λ v. has set v ≡ true)) counted (over_some n all set rest every meet)
