-- What valency takes, value by value.
use Rattle.std.proofs.Common.{◌≡◌, ℕ, ◌<◌, ◌≤◌, ◌⊎◌, inl, inr, Bool, true, false, List, [], length, get_or, refl, sym, ◌∙◌, subst, arith}
use Rattle.std.specs.Prelude.{Contains, All, not}
use Rattle.std.proofs.lemmas.Bool.{false≢true}
use Rattle.std.proofs.lemmas.List.Elements.{All-contains, All-weaker, All-contains_itself}
use Rattle.xdg_problem.specs.declared.parts.Group.{Group}
use Rattle.xdg_problem.specs.declared.parts.Parts.{Parts}
use Rattle.xdg_problem.specs.Boxes.{Has, entry_decision, edge_decision}
use Rattle.xdg_rules.specs.Rules.{HasNoneWithin}
use Rattle.xdg_store.specs.States.{State}
use Rattle.xdg_propcore.specs.Passes.{Progress, Clears}
use Rattle.xdg_propcore.proofs.Aimed.{ByOne}
use Rattle.xdg_propcore.proofs.Passing.{clears_gone, clears_like, clears_more, clears_none}
use Rattle.xdg_pgraph.specs.declared.bundle.Bundle.{Bundle}
use Rattle.xdg_pgraph.specs.Bounding.{NoneBarred}
use Rattle.xdg_pgraph.specs.Bundles.{edge_to, numbers_of, Barred, OpenTo}
use Rattle.xdg_facts.proofs.Rising.{no_member}
use Rattle.xdg_facts.specs.Rises.{has}

-- ---- entries

abbrev pub Outside : ℕ → ℕ → ℕ → Type 0
Outside least most k = least ≤ k → k ≤ most → ⊥

pub outside_none : (cardinality : List ℕ) (least most : ℕ) → All (Outside least most) cardinality → HasNoneWithin cardinality least most
outside_none cardinality least most all k c = All-contains (Outside least most) cardinality k all c

pub none_outside : (cardinality : List ℕ) (least most : ℕ) → HasNoneWithin cardinality least most → All (Outside least most) cardinality
none_outside cardinality least most none = All-weaker (Contains cardinality) (Outside least most) none cardinality (All-contains_itself cardinality)

-- one entry of them
abbrev pub BarredAt : Parts → Group → Bundle → ℕ → ℕ → ℕ → ℕ → ℕ → Type 0
BarredAt parts group bundle least most c d v = (v ≡ c) × Barred parts group bundle least most d v

module _ (parts : Parts) (group : Group) (bundle : Bundle) (least most k : ℕ) where
  abbrev numbers : ℕ → List ℕ
  numbers = numbers_of bundle.way group bundle.node bundle.label

  abbrev Here : ℕ → ℕ → Type 0
  Here = BarredAt parts group bundle least most k

  -- an entry that doesn't remain
  pub barred_absent : (p : Progress) (s : State) → (Has s.now (entry_decision bundle.node) k → ⊥) → Clears Here p s p s
  barred_absent p s absent = clears_gone Here p s (λ d v a h. absent (subst (λ e. Has s.now e k) a.1.0 (subst (Has s.now d) a.0 h)))

  -- an entry that allows a number between the two
  pub barred_skip : (p : Progress) (s : State) → (All (Outside least most) (numbers k) → ⊥) → Clears Here p s p s
  barred_skip p s some = clears_none Here p s (λ d v a. some (none_outside (numbers k) least most (subst (λ x. HasNoneWithin (numbers x) least most) a.0 a.1.2)))

  pub barred_taken : (p q : Progress) (old new : State) → k < length (get_or parts.candidates bundle.node []) → All (Outside least most) (numbers k)
      → Clears (λ d v. (d ≡ entry_decision bundle.node) × (v ≡ k)) p old q new → Clears Here p old q new
  barred_taken p q old new within all = clears_like (λ d v. (d ≡ entry_decision bundle.node) × (v ≡ k)) Here p q old new
      (λ d v x. (x.1, (x.0, (let e = x.1 in omega (arith, e, within)), subst (λ y. HasNoneWithin (numbers y) least most) (sym x.1) (outside_none (numbers k) least most all))))
      (λ d v x. (x.1.0, x.0))

  -- the first of them, where no other remains
  pub barred_all : (p q : Progress) (old new : State) → ((c : ℕ) → Has old.now (entry_decision bundle.node) c → c < k)
      → Clears (ByOne (λ c. c < k) (BarredAt parts group bundle least most)) p old q new → Clears (Barred parts group bundle least most) p old q new
  barred_all p q old new all = clears_more (ByOne (λ c. c < k) (BarredAt parts group bundle least most)) (Barred parts group bundle least most) p q old new
      (λ d v x. x.2.1)
      (λ d v x h. (v, all v (subst (λ e. Has old.now e v) x.0 h), (refl, x)))

-- where none is one of them nothing is taken
pub none_barred : (parts : Parts) (group : Group) (bundle : Bundle) (least most : ℕ) (p : Progress) (s : State) → NoneBarred group bundle least most s.now → Clears (Barred parts group bundle least most) p s p s
none_barred parts group bundle least most p s none = clears_gone (Barred parts group bundle least most) p s (λ d v a h. none v (subst (λ e. Has s.now e v) a.0 h) a.2)

-- ---- edges

-- a value of the edge to a node
abbrev pub OpenAt : ℕ → Bundle → ℕ → Parts → ℕ → ℕ → ℕ → Type 0
OpenAt dim bundle value parts other d v = (d ≡ edge_decision parts (edge_to bundle.way dim bundle.node bundle.label other)) × (v ≡ value)

pub opened_all : (parts : Parts) (dim : ℕ) (bundle : Bundle) (others : List ℕ) (value : ℕ) (p q : Progress) (old new : State)
    → Clears (ByOne (λ x. has others x ≡ true) (OpenAt dim bundle value parts)) p old q new → Clears (OpenTo parts dim bundle others value) p old q new
opened_all parts dim bundle others value p q old new = clears_like (ByOne (λ x. has others x ≡ true) (OpenAt dim bundle value parts)) (OpenTo parts dim bundle others value) p q old new
    (λ d v x. record { other = x.0; is = x.1; decision = x.2.0; value_is = x.2.1 })
    (λ d v x. (x.other, x.is, (x.decision, x.value_is)))

module _ (parts : Parts) (dim : ℕ) (bundle : Bundle) (others : List ℕ) (value : ℕ) (wanted : Bool) (p : Progress) (old : State) where
  -- nothing is open, or it isn't wanted
  pub wanted_nowhere : (others ≡ []) ⊎ (wanted ≡ false) → Clears (λ d v. (wanted ≡ true) × OpenTo parts dim bundle others value d v) p old p old
  wanted_nowhere why = clears_none (λ d v. (wanted ≡ true) × OpenTo parts dim bundle others value d v) p old (λ d v a. elim why [
    | inl nowhere ↦ no_member others a.1.other nowhere a.1.is
    | inr not ↦ false≢true (sym not ∙ a.0)
  ])

  pub wanted_some : (q : Progress) (mid : State) → wanted ≡ true → Clears (OpenTo parts dim bundle others value) p old q mid → Clears (λ d v. (wanted ≡ true) × OpenTo parts dim bundle others value d v) p old q mid
  wanted_some q mid is = clears_like (OpenTo parts dim bundle others value) (λ d v. (wanted ≡ true) × OpenTo parts dim bundle others value d v) p q old mid (λ d v a. (is, a)) (λ d v a. a.1)
