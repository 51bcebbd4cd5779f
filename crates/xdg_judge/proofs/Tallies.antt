-- Counting in a filtered list, and tables of counts.
use Rattle.std.proofs.Common.{◌≡◌, ℕ, ◌+◌, ◌<◌, ◌≤◌, ◌↔◌, ◌&&◌, ◌++◌, inl, inr, Bool, cond, not, take, get_or, replicate, List, [], ◌∷◌, length, sym, ◌∙◌, ap, ap₂, refl, zero, suc, arith}
use Rattle.std.specs.Prelude.{IsTrue, filter, count_by, nat_le, slice_index, slice_index_or, slice_set, ◌==◌}
use Rattle.std.specs.List.{list_any}
use Rattle.std.proofs.lemmas.Bool.{cases_eq, eq-eqb, ne_eqb, leb-true, le-leb}
use Rattle.std.proofs.lemmas.List.{take_all, get_or-set_same, get_or-set_other, length-take}
use Rattle.std.proofs.lemmas.List.Sums.{length-filter, count_by-le-length, sum_by_push}
use Rattle.xdg_problem.specs.declared.analysis.Edge.{Edge}
use Rattle.xdg_problem.specs.Places.{numbers_from}
use Rattle.xdg_problem.specs.Paths.{edges_on, roots}
use Rattle.xdg_problem.specs.declared.conditions.Condition.{Condition}
use Rattle.xdg_judge.specs.Counting.{first_key, second_key, counted, IsTally}
use Rattle.xdg_judge.proofs.Gathering.{on_here, on_over}
use Rattle.xdg_problem.proofs.Numbered.{numbers_more}
use Rattle.xdg_facts.proofs.Numbers.{zeros}
use Rattle.xdg_facts.proofs.Filters.{any_on}

-- ---- a row and a table that count one more

pub count_row : (table : List (List ℕ)) (row : List ℕ) (a b i k m : ℕ) → i ≡ a → i < length table → ((n : ℕ) → slice_index row n ≡ slice_index (slice_index_or table i []) n + cond (b == n) 1 0) → counted (slice_set table i row) k m ≡ counted table k m + cond ((a == k) && (b == m)) 1 0
count_row table row a b i k m e l h = elim (cases_eq k i) [
  | inl f ↦ ap (λ z. counted (slice_set table i row) z m) f ∙ ap (λ z. slice_index z m) (get_or-set_same table i row [] l) ∙ h m ∙ ap₂ (λ z t. counted table z m + cond (t && (b == m)) 1 0) (sym f) (sym (eq-eqb a k (sym e ∙ sym f)))
  | inr g ↦ (
      let same : counted (slice_set table i row) k m ≡ counted table k m = ap (λ z. slice_index z m) (get_or-set_other table i k row [] g) in
      let none : ◌≡◌ {A = ℕ} (cond ((a == k) && (b == m)) 1 0) 0 = ap (λ q. cond (q && (b == m)) 1 0) (ne_eqb a k (λ q. g (sym q ∙ sym e))) in
      omega (arith, same, none))
]

no_counts : (rows places a b : ℕ) → counted (replicate rows (replicate places 0)) a b ≡ 0
no_counts zero places a b = refl
no_counts (suc rows) places zero b = zeros places b
no_counts (suc rows) places (suc a) b = no_counts rows places a b

-- a table that counts the first edges
pub record Tallied (condition : Condition) (dim : ℕ) (edges : List Edge) (i : ℕ) (table : List (List ℕ)) : Type 0 where
  pub exact : (a b : ℕ) → counted table a b ≡ count_by (λ e. (first_key condition e == a) && (second_key condition e == b)) (edges_on dim (take i edges))

pub tallied_start : (condition : Condition) (dim : ℕ) (edges : List Edge) (rows places : ℕ) (table : List (List ℕ)) → table ≡ replicate rows (replicate places 0) → Tallied condition dim edges 0 table
tallied_start condition dim edges rows places table e = record { exact = λ a b. ap (λ z. counted z a b) e ∙ no_counts rows places a b }

pub tallied_most : (condition : Condition) (dim : ℕ) (edges : List Edge) (i : ℕ) (table : List (List ℕ)) (a b : ℕ) → Tallied condition dim edges i table → counted table a b ≤ i
tallied_most condition dim edges i table a b t =
    let e = t.exact a b in
    let m = count_by-le-length (λ (e : Edge). (first_key condition e == a) && (second_key condition e == b)) (edges_on dim (take i edges)) in
    let f = length-filter (λ (e : Edge). e.dim.0 == dim) (take i edges) in
    let n = count_by-le-length (λ (e : Edge). e.dim.0 == dim) (take i edges) in
    let l = length-take i edges in
    omega (arith, e, m, f, n, l)

pub tallied_here : (condition : Condition) (dim : ℕ) (edges : List Edge) (i : ℕ) (old new : List (List ℕ)) (e : Edge) (a b : ℕ) → i < length edges → e ≡ get_or edges i e → e.dim.0 ≡ dim → a ≡ first_key condition e → b ≡ second_key condition e → ((k m : ℕ) → counted new k m ≡ counted old k m + cond ((a == k) && (b == m)) 1 0) → Tallied condition dim edges i old → Tallied condition dim edges (i + 1) new
tallied_here condition dim edges i old new e a b l at d ea eb step t = record {
  exact = λ k m.
      (rw (ea, eb) at step k m)
      ∙ ap (λ n. n + cond ((first_key condition e == k) && (second_key condition e == m)) 1 0) (t.exact k m)
      ∙ sym (ap (count_by (λ f. (first_key condition f == k) && (second_key condition f == m))) (on_here dim edges i e l at d)
      ∙ sum_by_push (λ (f : Edge). cond ((first_key condition f == k) && (second_key condition f == m)) 1 0) (edges_on dim (take i edges)) e);
}

pub tallied_over : (condition : Condition) (dim : ℕ) (edges : List Edge) (i : ℕ) (table : List (List ℕ)) (e : Edge) → i < length edges → e ≡ get_or edges i e → (e.dim.0 ≡ dim → ⊥) → Tallied condition dim edges i table → Tallied condition dim edges (i + 1) table
tallied_over condition dim edges i table e l at d t = record {
  exact = λ k m.
      t.exact k m ∙ ap (count_by (λ f. (first_key condition f == k) && (second_key condition f == m))) (sym (on_over dim edges i e l at d));
}

pub tallied_end : (condition : Condition) (dim : ℕ) (edges : List Edge) (i : ℕ) (table : List (List ℕ)) → length edges ≤ i → Tallied condition dim edges i table → IsTally condition (edges_on dim edges) table
tallied_end condition dim edges i table l t = λ a b. t.exact a b ∙ ap (λ xs. count_by (λ e. (first_key condition e == a) && (second_key condition e == b)) (edges_on dim xs)) (take_all i edges l)

pub at_most_one : (n m : ℕ) → n ≡ m → IsTrue (nat_le n 1) ↔ (m ≤ 1)
at_most_one n m e = (λ t. (let h = leb-true n 1 t in omega (arith, h, e)), λ l. le-leb n 1 (omega (arith, l, e)))

-- what a condition counts of two numbers
pub tallied : (condition q : Condition) (edges : List Edge) (table : List (List ℕ)) (a b n : ℕ) → condition ≡ q → IsTally condition edges table → n ≡ counted table a b → n ≡ count_by (λ e. (first_key q e == a) && (second_key q e == b)) edges
tallied condition q edges table a b n is t e = e ∙ (t a b ∙ ap (λ c. count_by (λ f. (first_key c f == a) && (second_key c f == b)) edges) is)

-- the roots among one node more
pub roots_more : (n : ℕ) (edges : List Edge) → length (roots (n + 1) edges) ≡ length (roots n edges) + cond (not (list_any (λ e. e.daughter.0 == n) edges)) 1 0
roots_more n edges =
    let test : ℕ → Bool = λ v. not (list_any (λ e. e.daughter.0 == v) edges) in
    let e : n + 1 ≡ suc n = omega arith in
    let z : 0 + n ≡ n = omega arith in
    ap (λ (m : ℕ). length (filter test (numbers_from 0 m))) e
    ∙ ap (λ xs. length (filter test xs)) (numbers_more 0 n)
    ∙ length-filter test (numbers_from 0 n ++ (0 + n) ∷ [])
    ∙ sum_by_push (λ v. cond (test v) 1 0) (numbers_from 0 n) (0 + n)
    ∙ ap₂ (λ c v. c + cond (test v) 1 0) (sym (length-filter test (numbers_from 0 n))) z

-- the count after one node more
pub root_next : (n dim count added : ℕ) (edges : List Edge) (b : Bool) → b ≡ list_any (λ e. (e.dim.0 == dim) && (e.daughter.0 == n)) edges → cond (not b) 1 0 ≡ added → count ≡ length (roots n (edges_on dim edges))
    → count + added ≡ length (roots (n + 1) (edges_on dim edges))
root_next n dim count added edges b same adds e =
    let here : b ≡ list_any (λ f. f.daughter.0 == n) (edges_on dim edges) = same ∙ any_on (λ f. f.dim.0 == dim) (λ f. f.daughter.0 == n) edges in
    ap₂ (λ c a. c + a) e (sym adds ∙ ap (λ x. cond (not x) 1 0) here) ∙ sym (roots_more n (edges_on dim edges))
