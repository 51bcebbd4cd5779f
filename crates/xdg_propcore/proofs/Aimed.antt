-- Values that are taken number by number: for the first numbers, and for the members of a list.
use Rattle.std.proofs.Common.{◌≡◌, ℕ, ◌+◌, ◌<◌, ◌⊎◌, inl, inr, true, List, [], ◌∷◌, ◌++◌, refl, sym, ◌∙◌, ap, subst, arith, append-nil, append_assoc}
use Rattle.std.proofs.lemmas.Bool.{cases_eq, false≢true}
use Rattle.xdg_problem.specs.declared.parts.Parts.{Parts}
use Rattle.xdg_store.specs.States.{State}
use Rattle.xdg_propcore.specs.Passes.{Progress, Clears}
use Rattle.xdg_propcore.proofs.Passing.{clears_both, clears_none}
use Rattle.xdg_facts.specs.Rises.{has}
use Rattle.xdg_facts.proofs.Rising.{has_cases, has_front, has_next}

-- what is aimed at for one of some numbers
abbrev pub ByOne : (ℕ → Type 0) → (ℕ → ℕ → ℕ → Type 0) → ℕ → ℕ → Type 0
ByOne Q Aim d v = (x : ℕ) × Q x × Aim x d v

-- what is aimed at for a member was taken, for the members of a list up to those that are left
pub record Passed (Aim : Parts → ℕ → ℕ → ℕ → Type 0) (first left : List ℕ) (p : Progress) (old : State) (q : Progress) (new : State) : Type 0 where
  pub front : List ℕ
  pub whole : front ++ left ≡ first
  pub clears : Clears (ByOne (λ x. has front x ≡ true) (Aim old.parts)) p old q new

-- Aim is what is aimed at for a number, of the parts of the problem
module _ (Aim : Parts → ℕ → ℕ → ℕ → Type 0) where
  one_more : (Q R : ℕ → Type 0) (n : ℕ) (p q r : Progress) (old mid new : State) → ((x : ℕ) → Q x → R x) → R n → ((x : ℕ) → R x → Q x ⊎ (x ≡ n))
      → Clears (ByOne Q (Aim old.parts)) p old q mid → Clears (Aim mid.parts n) q mid r new → Clears (ByOne R (Aim old.parts)) p old r new
  one_more Q R n p q r old mid new more here cases a b = clears_both (ByOne Q (Aim old.parts)) (Aim old.parts n) (ByOne R (Aim old.parts)) p q r old mid new
      (λ d v t. (t.0, more t.0 t.1, t.2))
      (λ d v aim. (n, here, aim))
      (λ d v t. elim (cases t.0 t.1) [
        | inl before ↦ inl (t.0, before, t.2)
        | inr same ↦ inr (subst (λ y. Aim old.parts y d v) same t.2)
      ])
      a (subst (λ parts. Clears (Aim parts n) q mid r new) a.same b)

  -- ---- the first numbers

  pub first_none : (p : Progress) (s : State) → Clears (ByOne (λ x. x < 0) (Aim s.parts)) p s p s
  first_none p s = clears_none (ByOne (λ x. x < 0) (Aim s.parts)) p s (λ d v t. (let l = t.1 in omega (arith, l)))

  pub first_more : (k : ℕ) (p q r : Progress) (old mid new : State) → Clears (ByOne (λ x. x < k) (Aim old.parts)) p old q mid
      → Clears (Aim mid.parts k) q mid r new → Clears (ByOne (λ x. x < k + 1) (Aim old.parts)) p old r new
  first_more k p q r old mid new = one_more (λ x. x < k) (λ x. x < k + 1) k p q r old mid new
      (λ x l. omega (arith, l))
      (omega arith)
      (λ x l. elim (cases_eq x k) [ inl same ↦ inr same | inr other ↦ inl (omega (arith, l, other)) ])

  -- ---- the members of a list

  pub passed_start : (first : List ℕ) (p : Progress) (s : State) → Passed Aim first first p s p s
  passed_start first p s = record { front = []; whole = refl; clears = clears_none (ByOne (λ x. has [] x ≡ true) (Aim s.parts)) p s (λ d v t. false≢true t.1) }

  pub passed_more : (first left rest : List ℕ) (n : ℕ) (p q r : Progress) (old mid new : State) → left ≡ n ∷ rest → Passed Aim first left p old q mid
      → Clears (Aim mid.parts n) q mid r new → Passed Aim first rest p old r new
  passed_more first left rest n p q r old mid new is a b = record {
    front = a.front ++ n ∷ [];
    whole = append_assoc a.front (n ∷ []) rest ∙ ap (λ s. a.front ++ s) (sym is) ∙ a.whole;
    clears = one_more (λ x. has a.front x ≡ true) (λ x. has (a.front ++ n ∷ []) x ≡ true) n p q r old mid new (has_front a.front n) (has_next a.front [] n)
        (has_cases a.front n) a.clears b;
  }

  -- the next is one of the set that was copied for the loop
  pub passed_member : (set items first left rest : List ℕ) (n : ℕ) (p q : Progress) (old new : State) → items ≡ set → first ≡ items → left ≡ n ∷ rest
      → Passed Aim first left p old q new → has set n ≡ true
  passed_member set items first left rest n p q old new same at is a =
      subst (λ s. has s n ≡ true) (ap (λ s. a.front ++ s) (sym is) ∙ a.whole ∙ at ∙ same) (has_next a.front rest n)

  -- of all members
  pub passed_all : (set items first left : List ℕ) (p q : Progress) (old new : State) → items ≡ set → first ≡ items → left ≡ []
      → Passed Aim first left p old q new → Clears (ByOne (λ x. has set x ≡ true) (Aim old.parts)) p old q new
  passed_all set items first left p q old new same at none a = subst (λ s. Clears (ByOne (λ x. has s x ≡ true) (Aim old.parts)) p old q new)
      (sym (append-nil a.front) ∙ ap (λ s. a.front ++ s) (sym none) ∙ a.whole ∙ at ∙ same) a.clears
