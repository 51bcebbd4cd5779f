-- What can be decided: that it holds, or that it does not.
use Rattle.std.proofs.Common.{◌≡◌, ℕ, ◌<◌, ◌≤◌, ◌⊎◌, inl, inr, Bool, true, false, List, [], ◌∷◌, zero, suc, refl, sym, subst, arith}
use Rattle.std.specs.Prelude.{All, Contains, AllPairs}
use Rattle.std.proofs.lemmas.Bool.{cases_lt, cases_eq, false≢true}
use Rattle.std.proofs.lemmas.List.Elements.{All-nil, All-cons, All-head, All-tail}
use Rattle.xdg_facts.proofs.Contained.{contains_head, contains_cases, contains_none, any_of, contained}
use Rattle.xdg_facts.proofs.InOrder.{Ordered, ordered_pairs, ordered_from_pairs}
use Rattle.xdg_facts.proofs.Lists.{contains_more}
use Rattle.std.specs.List.{Any, AllByRecursion}
use Rattle.xdg_facts.proofs.Ordered.{less_irreflexive, less_total}
use Rattle.xdg_facts.specs.Order.{Less}

-- P holds, or it does not
abbrev pub Decided : Type 0 → Type 0
Decided P = P ⊎ (P → ⊥)

pub decided_like : (P Q : Type 0) → (P → Q) → (Q → P) → Decided P → Decided Q
decided_like P Q to from (inl p) = inl (to p)
decided_like P Q to from (inr n) = inr (λ q. n (from q))

pub decided_both : (P Q : Type 0) → Decided P → Decided Q → Decided (P × Q)
decided_both P Q (inl p) (inl q) = inl (p, q)
decided_both P Q (inl p) (inr n) = inr (λ both. n both.1)
decided_both P Q (inr n) other = inr (λ both. n both.0)

pub decided_from : (P Q : Type 0) → Decided P → Decided Q → Decided (P → Q)
decided_from P Q (inl p) (inl q) = inl (λ x. q)
decided_from P Q (inl p) (inr n) = inr (λ f. n (f p))
decided_from P Q (inr n) other = inl (λ p. absurd (n p))

pub decided_equal : (m n : ℕ) → Decided (m ≡ n)
decided_equal m n = cases_eq m n

pub decided_less : (m n : ℕ) → Decided (m < n)
decided_less m n = elim (cases_lt m n) [ inl less ↦ inl less | inr more ↦ inr (λ less. omega arith) ]

pub decided_most : (m n : ℕ) → Decided (m ≤ n)
decided_most m n = elim (cases_lt n m) [ inl more ↦ inr (λ most. omega arith) | inr most ↦ inl most ]

pub decided_false : (b : Bool) → Decided (b ≡ false)
decided_false true = inr (λ e. false≢true (sym e))
decided_false false = inl refl

-- the first number below a bound for which something that can be decided holds
pub first_below : (Q : ℕ → Type 0) → ((u : ℕ) → Decided (Q u)) → (n : ℕ) → ((u : ℕ) → u < n → Q u → ⊥) ⊎ ((u : ℕ) × (u < n) × Q u × ((w : ℕ) → w < u → Q w → ⊥))
first_below Q each zero = inl (λ u l q. absurd (omega (arith, l)))
first_below Q each (suc n) = elim (first_below Q each n) [
  | inr found ↦ inr (found.0, (let l : found.0 < n = found.1 in omega (arith, l)), found.2, found.3)
  | inl none ↦ elim (each n) [
    | inl here ↦ inr (n, omega arith, here, none)
    | inr fails ↦ inl (λ u l q. elim (cases_eq u n) [ inl e ↦ fails (subst Q e q) | inr other ↦ none u (omega (arith, l, other)) q ])
  ]
]

pub decided_below : (P : ℕ → Type 0) (n : ℕ) → ((k : ℕ) → Decided (P k)) → Decided ((k : ℕ) → k < n → P k)
decided_below P n each = elim (first_below (λ k. P k → ⊥) (λ k. elim (each k) [ inl p ↦ inr (λ fails. fails p) | inr fails ↦ inl fails ]) n) [
  | inl none ↦ inl (λ k less. elim (each k) [ inl p ↦ p | inr fails ↦ absurd (none k less fails) ])
  | inr found ↦ inr (λ all. found.2 (all found.0 found.1))
]

pub decided_all : {X : Type 0} (P : X → Type 0) (xs : List X) → ((x : X) → Decided (P x)) → Decided (All P xs)
decided_all P [] each = inl (All-nil P)
decided_all P (x ∷ xs) each = decided_like (P x × All P xs) (All P (x ∷ xs))
    (λ both. All-cons P x xs both.0 both.1)
    (λ all. (All-head P x xs all, All-tail P x xs all))
    (decided_both (P x) (All P xs) (each x) (decided_all P xs each))

pub decided_among : {X : Type 0} → ((x y : X) → Decided (x ≡ y)) → (xs : List X) (x : X) → Decided (Contains xs x)
decided_among equal [] x = inr (contains_none x)
decided_among equal (y ∷ xs) x = elim (equal y x) [
  | inl e ↦ inl (subst (Contains (y ∷ xs)) e (contains_head y xs))
  | inr other ↦ decided_like (Contains xs x) (Contains (y ∷ xs) x) (contains_more y xs x) (λ c. elim (contains_cases y xs x c) [ inl e ↦ absurd (other e) | inr later ↦ later ]) (decided_among equal xs x)
]

pub decided_contains : (numbers : List ℕ) (number : ℕ) → Decided (Contains numbers number)
decided_contains = decided_among decided_equal

pub decided_either : (P Q : Type 0) → Decided P → Decided Q → Decided (P ⊎ Q)
decided_either P Q (inl p) other = inl (inl p)
decided_either P Q (inr n) (inl q) = inl (inr q)
decided_either P Q (inr n) (inr m) = inr (λ either. elim either [ inl p ↦ n p | inr q ↦ m q ])

pub decided_true : (b : Bool) → Decided (b ≡ true)
decided_true true = inl refl
decided_true false = inr false≢true

pub decided_not : (P : Type 0) → Decided P → Decided (P → ⊥)
decided_not P (inl p) = inr (λ n. n p)
decided_not P (inr n) = inl n

module _ {X : Type 0} where
  pub decided_any : (P : X → Type 0) (xs : List X) → ((x : X) → Decided (P x)) → Decided (Any P xs)
  decided_any P [] each = inr (λ a. let c = contained P [] a in contains_none c.0 c.1)
  decided_any P (x ∷ xs) each = decided_like (P x ⊎ Any P xs) (Any P (x ∷ xs))
      (λ either. elim either [
        | inl p ↦ any_of P (x ∷ xs) x (contains_head x xs) p
        | inr more ↦ (let c = contained P xs more in any_of P (x ∷ xs) c.0 (contains_more x xs c.0 c.1) c.2)
      ])
      (λ a. (let c = contained P (x ∷ xs) a in elim (contains_cases x xs c.0 c.1) [
        | inl e ↦ inl (subst P (sym e) c.2)
        | inr later ↦ inr (any_of P xs c.0 later c.2)
      ]))
      (decided_either (P x) (Any P xs) (each x) (decided_any P xs each))

  decided_each : (P : X → Type 0) (xs : List X) → ((x : X) → Decided (P x)) → Decided (AllByRecursion P xs)
  decided_each P [] each = inl tt
  decided_each P (x ∷ xs) each = decided_both (P x) (AllByRecursion P xs) (each x) (decided_each P xs each)

  decided_ordered : (R : X → X → Type 0) (xs : List X) → ((x y : X) → Decided (R x y)) → Decided (Ordered R xs)
  decided_ordered R [] each = inl tt
  decided_ordered R (x ∷ xs) each = decided_both (AllByRecursion (R x) xs) (Ordered R xs) (decided_each (R x) xs (each x)) (decided_ordered R xs each)

  pub decided_pairs : (R : X → X → Type 0) (xs : List X) → ((x y : X) → Decided (R x y)) → Decided (AllPairs R xs)
  decided_pairs R xs each = decided_like (Ordered R xs) (AllPairs R xs) (λ o i j d l m. ordered_pairs R xs o i j d l m) (ordered_from_pairs R xs) (decided_ordered R xs each)

pub triple_decided : (P Q R : Type 0) → Decided P → Decided Q → Decided R → Decided (P × Q × R)
triple_decided P Q R p q r = decided_like (P × (Q × R)) (P × Q × R) (λ x. (x.0, x.1.0, x.1.1)) (λ x. (x.0, (x.1, x.2))) (decided_both P (Q × R) p (decided_both Q R q r))

-- that something holds of a number below a bound
pub decided_some_below : (P : ℕ → Type 0) (n : ℕ) → ((k : ℕ) → Decided (P k)) → Decided ((k : ℕ) × (k < n) × P k)
decided_some_below P n each = elim (first_below P each n) [
  | inl never ↦ inr (λ found. never found.0 found.1 found.2)
  | inr found ↦ inl (found.0, found.1, found.2)
]

-- some element of a list
pub decided_in : {X : Type 0} (xs : List X) (P : X → Type 0) → ((x : X) → Decided (P x)) → Decided ((x : X) × Contains xs x × P x)
decided_in {X} xs P each = decided_like (Any P xs) ((x : X) × Contains xs x × P x) (contained P xs) (λ some. any_of P xs some.0 some.1 some.2) (decided_any P xs each)

pub decided_as : (P Q : Type 0) → Decided P → (P → Q) → (Q → P) → Decided Q
decided_as P Q decided to from = decided_like P Q to from decided

pub decided_lists : (xs ys : List ℕ) → Decided (xs ≡ ys)
decided_lists xs ys = elim (less_total xs ys) [
  | inl less ↦ inr (λ e. less_irreflexive ys (subst (λ zs. Less zs ys) e less))
  | inr (inl same) ↦ inl same
  | inr (inr more) ↦ inr (λ e. less_irreflexive ys (subst (Less ys) e more))
]

-- of each number below n one of two things holds: the first of all of them, or the second of one
pub each_or_some : (P Q : ℕ → Type 0) (n : ℕ) → ((k : ℕ) → k < n → P k ⊎ Q k) → ((k : ℕ) → k < n → P k) ⊎ ((k : ℕ) × (k < n) × Q k)
each_or_some P Q zero either = inl (λ k l. absurd (omega (arith, l)))
each_or_some P Q (suc n) either = elim (each_or_some P Q n (λ k l. either k (omega (arith, l)))) [
  | inl all ↦ elim (either n (omega arith)) [
    | inl last ↦ inl (λ k l. elim (cases_eq k n) [ inl e ↦ subst P (sym e) last | inr other ↦ all k (omega (arith, l, other)) ])
    | inr last ↦ inr (n, (omega arith), last)
  ]
  | inr found ↦ inr (found.0, (let l = found.1 in omega (arith, l)), found.2)
]
