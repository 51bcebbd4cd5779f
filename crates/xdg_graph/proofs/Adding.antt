-- A table of daughters, from each daughter to its mothers.
use Rattle.std.proofs.Common.{◌≡◌, ℕ, ◌<◌, ◌≤◌, ◌+◌, ◌⊎◌, ◌↔◌, inl, inr, Bool, true, IsTrue, List, [], ◌∷◌, sym, ◌∙◌, arith, subst}
use Rattle.std.proofs.lemmas.Bool.{cases_eq}
use Rattle.xdg_facts.specs.Rises.{has}
use Rattle.xdg_facts.proofs.Rising.{head_in, head_or_tail, no_member, tail_in}
use Rattle.xdg_nodeset.specs.Tables.{InTable}
use Rattle.xdg_problem.specs.declared.parts.Parts.{Parts}
use Rattle.xdg_problem.specs.Boxes.{IsBox}
use Rattle.xdg_problem.specs.Paths.{IsDaughter}
use Rattle.xdg_problem.specs.Places.{nodes}
use Rattle.xdg_problem.specs.Vectors.{shape}
use Rattle.xdg_problem.proofs.PlaceOrder.{is_place}
use Rattle.xdg_graph.specs.declared.which.Which.{Which}
use Rattle.xdg_graph.specs.Edges.{HasNoneFrom, IsBlank, edges_of}
use Rattle.xdg_graph.proofs.Edges.{which_exact}

-- ---- a daughter of some nodes

-- a table, and what the nodes still to come add to it, is another, and what all of them add
abbrev pub Adds : List ℕ → List ℕ → ℕ → List (List ℕ) → List (List ℕ) → Type 0
Adds first left to old new = (a b : ℕ) → (InTable new a b ⊎ ((has left a ≡ true) × (to ≡ b))) ↔ (InTable old a b ⊎ ((has first a ≡ true) × (to ≡ b)))

pub adds_start : (first items left : List ℕ) (to : ℕ) (table : List (List ℕ)) → items ≡ first → left ≡ items → Adds first left to table table
adds_start first items left to table same at = subst (λ s. Adds first s to table table) (sym (at ∙ same)) (λ a b. (λ h. h, λ h. h))

pub adds_next : (first left rest : List ℕ) (v to : ℕ) (old mid new : List (List ℕ)) → left ≡ v ∷ rest → ((a b : ℕ) → InTable new a b ↔ (InTable mid a b ⊎ ((v ≡ a) × (to ≡ b)))) → Adds first left to old mid → Adds first rest to old new
adds_next first left rest v to old mid new is step so_far a b = (
  λ h. elim h [
    | inl there ↦ elim ((step a b).0 there) [
      | inl earlier ↦ (so_far a b).0 (inl earlier)
      | inr (same, at) ↦ (so_far a b).0 (inr (subst (λ x. has left x ≡ true) same (head_in left rest v is), at))
    ]
    | inr (later, at) ↦ (so_far a b).0 (inr (tail_in left rest v a is later, at))
  ],
  λ h. elim ((so_far a b).1 h) [
    | inl earlier ↦ inl ((step a b).1 (inl earlier))
    | inr (there, at) ↦ elim (head_or_tail left rest v a is there) [
      | inl same ↦ inl ((step a b).1 (inr (same, at)))
      | inr later ↦ inr (later, at)
    ]
  ],
)

pub adds_end : (first left : List ℕ) (to : ℕ) (old new : List (List ℕ)) → left ≡ [] → Adds first left to old new → (a b : ℕ) → InTable new a b ↔ (InTable old a b ⊎ ((has first a ≡ true) × (to ≡ b)))
adds_end first left to old new is all a b = (
  λ h. (all a b).0 (inl h),
  λ h. elim ((all a b).1 h) [ inl there ↦ there | inr (more, at) ↦ absurd (no_member left a is more) ],
)

-- ---- daughter by daughter

-- a table leads to the first nodes, from where a relation does
abbrev pub LeadsBelow : (ℕ → ℕ → Type 0) → ℕ → List (List ℕ) → Type 0
LeadsBelow leads k table = (a b : ℕ) → InTable table a b ↔ (leads a b × (b < k))

pub below_none : (leads : ℕ → ℕ → Type 0) (table : List (List ℕ)) → IsBlank table → LeadsBelow leads 0 table
below_none leads table blank a b = (λ h. absurd (blank a b h), λ h. absurd (let l = h.1 in omega (arith, l)))

pub below_more : (leads : ℕ → ℕ → Type 0) (k : ℕ) (mothers : List ℕ) (old new : List (List ℕ)) → ((x : ℕ) → IsTrue (has mothers x) ↔ leads x k) → ((a b : ℕ) → InTable new a b ↔ (InTable old a b ⊎ ((has mothers a ≡ true) × (k ≡ b)))) → LeadsBelow leads k old → LeadsBelow leads (k + 1) new
below_more leads k mothers old new exact step so_far a b = (
  λ h. elim ((step a b).0 h) [
    | inl earlier ↦ (let p = (so_far a b).0 earlier in (p.0, (let l = p.1 in omega (arith, l))))
    | inr (m, same) ↦ (subst (leads a) same ((exact a).0 m), omega (arith, same))
  ],
  λ h. (step a b).1 (elim (cases_eq b k) [
    | inl same ↦ inr ((exact a).1 (subst (leads a) same h.0), sym same)
    | inr other ↦ inl ((so_far a b).1 (h.0, (let l = h.1 in omega (arith, l, other))))
  ]),
)

-- where nothing is added
pub blank_none : (leads : ℕ → ℕ → Type 0) (table : List (List ℕ)) → IsBlank table → ((a b : ℕ) → leads a b → ⊥) → (a b : ℕ) → InTable table a b ↔ leads a b
blank_none leads table blank none a b = (λ h. absurd (blank a b h), λ h. absurd (none a b h))

pub below_skip : (leads : ℕ → ℕ → Type 0) (k : ℕ) (table : List (List ℕ)) → ((a : ℕ) → leads a k → ⊥) → LeadsBelow leads k table → LeadsBelow leads (k + 1) table
below_skip leads k table none so_far a b = (
  λ h. (let p = (so_far a b).0 h in (p.0, (let l = p.1 in omega (arith, l)))),
  λ h. elim (cases_eq b k) [
    | inl same ↦ absurd (none a (subst (leads a) same h.0))
    | inr other ↦ (so_far a b).1 (h.0, (let l = h.1 in omega (arith, l, other)))
  ],
)

module _ (which : Which) (parts : Parts) (box : List (List Bool)) (dim : ℕ) (is : IsBox (shape parts) box) where
  pub mother_below : (a b : ℕ) → IsDaughter (edges_of which parts box dim) a b → a < nodes parts
  mother_below a b (j, e, within, at, (m, d)) =
      let stands = (which_exact which parts box dim e is).0 (j, within, at) in
      let l = (is_place parts e stands.0.0).mother in
      omega (arith, l, m)

  daughter_below : (a b : ℕ) → IsDaughter (edges_of which parts box dim) a b → b < nodes parts
  daughter_below a b (j, e, within, at, (m, d)) =
      let stands = (which_exact which parts box dim e is).0 (j, within, at) in
      let l = (is_place parts e stands.0.0).daughter in
      omega (arith, l, d)

  pub below_end : (k : ℕ) (table : List (List ℕ)) → nodes parts ≤ k → LeadsBelow (IsDaughter (edges_of which parts box dim)) k table → (a b : ℕ) → InTable table a b ↔ IsDaughter (edges_of which parts box dim) a b
  below_end k table all exact a b = (λ h. ((exact a b).0 h).0, λ d. (exact a b).1 (d, (let l = daughter_below a b d in omega (arith, l, all))))

  pub none_from : (table : List (List ℕ)) → ((a b : ℕ) → InTable table a b ↔ IsDaughter (edges_of which parts box dim) a b) → HasNoneFrom (nodes parts) table
  none_from table exact a b past h = (let l = mother_below a b ((exact a b).0 h) in omega (arith, l, past))
