-- Tables of nodes below others.
use Rattle.std.proofs.Common.{◌≡◌, ◌≢◌, ℕ, ◌<◌, ◌≤◌, ◌+◌, ◌↔◌, inl, inr, Bool, true, IsTrue, List, [], ◌∷◌, length, sym, arith, subst, refl}
use Rattle.std.specs.Prelude.{slice_set}
use Rattle.std.proofs.lemmas.Bool.{cases_lt, cases_eq}
use Rattle.std.proofs.lemmas.List.{get_or-set_same, get_or-set_other}
use Rattle.xdg_nodeset.specs.Tables.{InTable, Along, IsClosure}
use Rattle.xdg_problem.proofs.Walks.{above_edge, above_trans, closed_above}
use Rattle.xdg_problem.specs.declared.analysis.Edge.{Edge}
use Rattle.xdg_problem.specs.declared.parts.Parts.{Parts}
use Rattle.xdg_problem.specs.Boxes.{IsBox}
use Rattle.xdg_problem.specs.Paths.{Above, IsDaughter}
use Rattle.xdg_problem.specs.Places.{nodes}
use Rattle.xdg_problem.specs.Vectors.{shape}
use Rattle.xdg_facts.proofs.Contained.{any_of}
use Rattle.xdg_problem.proofs.PlaceOrder.{is_place}
use Rattle.xdg_graph.specs.declared.which.Which.{Which}
use Rattle.xdg_graph.specs.Edges.{IsBlank, edges_of}
use Rattle.xdg_graph.proofs.Edges.{which_exact}
use Rattle.xdg_facts.specs.Rises.{has}

-- ---- a table, node by node

-- the sets of the first nodes are those of a relation, and the others are empty
pub record Noted (leads : ℕ → ℕ → Type 0) (k : ℕ) (table : List (List ℕ)) : Type 0 where
  pub done : (a b : ℕ) → a < k → InTable table a b ↔ leads a b
  pub left : (a b : ℕ) → k ≤ a → InTable table a b → ⊥

pub noted_start : (leads : ℕ → ℕ → Type 0) (table : List (List ℕ)) → IsBlank table → Noted leads 0 table
noted_start leads table blank = record { done = λ a b l. absurd (omega (arith, l)); left = λ a b l i. blank a b i }

pub noted_next : (leads : ℕ → ℕ → Type 0) (k : ℕ) (table : List (List ℕ)) (set : List ℕ) → k < length table → Noted leads k table → ((x : ℕ) → IsTrue (has set x) ↔ leads k x) → Noted leads (k + 1) (slice_set table k set)
noted_next leads k table set small before here = record {
  done = λ a b l. elim (cases_eq a k) [
    | inl same ↦ subst (λ i. InTable (slice_set table k set) i b ↔ leads i b) (sym same) (subst (λ s. (has s b ≡ true) ↔ leads k b) (sym (get_or-set_same table k set [] small)) (here b))
    | inr other ↦ subst (λ s. (has s b ≡ true) ↔ leads a b) (sym (get_or-set_other table k a set [] other)) (before.done a b (omega (arith, l, other)))
  ];
  left = λ a b l i. (let other : a ≢ k = omega (arith, l) in before.left a b (omega (arith, l)) (subst (λ s. has s b ≡ true) (get_or-set_other table k a set [] other) i));
}

noted_all : (leads : ℕ → ℕ → Type 0) (k : ℕ) (table : List (List ℕ)) → Noted leads k table → ((a b : ℕ) → leads a b → a < k) → (a b : ℕ) → InTable table a b ↔ leads a b
noted_all leads k table noted within a b = elim (cases_lt a k) [
  | inl l ↦ noted.done a b l
  | inr past ↦ (λ i. absurd (noted.left a b past i), λ h. absurd (let l = within a b h in omega (arith, l, past)))
]

-- ---- the daughters of each node, and its mothers

abbrev pub IsMother : List Edge → ℕ → ℕ → Type 0
IsMother edges a b = IsDaughter edges b a

pub noted_end : (which : Which) (parts : Parts) (box : List (List Bool)) (dim k : ℕ) (table : List (List ℕ)) → IsBox (shape parts) box → nodes parts ≤ k → Noted (IsDaughter (edges_of which parts box dim)) k table → (a b : ℕ) → InTable table a b ↔ IsDaughter (edges_of which parts box dim) a b
noted_end which parts box dim k table is all noted = noted_all (IsDaughter (edges_of which parts box dim)) k table noted (λ a b (j, e, within, at, (m, d)). (let stands = (which_exact which parts box dim e is).0 (j, within, at) in let l = (is_place parts e stands.0.0).mother in omega (arith, l, m, all)))

pub mothers_end : (which : Which) (parts : Parts) (box : List (List Bool)) (dim k : ℕ) (table : List (List ℕ)) → IsBox (shape parts) box → nodes parts ≤ k → Noted (IsMother (edges_of which parts box dim)) k table → (a b : ℕ) → InTable table a b ↔ IsDaughter (edges_of which parts box dim) b a
mothers_end which parts box dim k table is all noted = noted_all (IsMother (edges_of which parts box dim)) k table noted (λ a b (j, e, within, at, (m, d)). (let stands = (which_exact which parts box dim e is).0 (j, within, at) in let l = (is_place parts e stands.0.0).daughter in omega (arith, l, d, all)))

-- ---- paths, downwards and upwards

-- what each step of a table is, and what two such come to, each entry of its closure is
along_by : (R : ℕ → ℕ → Type 0) (table : List (List ℕ)) → ((a b : ℕ) → InTable table a b → R a b) → ((a n b : ℕ) → R a n → R n b → R a b) → (between : List ℕ) (a b : ℕ) → Along table a between b → R a b
along_by R table one both [] a b h = one a b h
along_by R table one both (n ∷ between) a b h = both a n b (one a n h.0) (along_by R table one both between n b h.1)

module _ (which : Which) (parts : Parts) (box : List (List Bool)) (dim size : ℕ) (next far : List (List ℕ)) (box_is : IsBox (shape parts) box) (all : nodes parts ≤ size) where
  abbrev edges : List Edge
  edges = edges_of which parts box dim

  one_above : (a b : ℕ) → IsDaughter edges a b → Above edges a b
  one_above a b (k, e, l, at, (m, d)) = subst (λ x. Above edges x b) m (subst (λ x. Above edges e.mother.0 x) d (above_edge edges e (k, l, at)))

  -- what has each edge, and goes on through each node, has what is above
  above_by : (R : ℕ → ℕ → Type 0) → ((e : Edge) → IsDaughter edges e.mother.0 e.daughter.0 → R e.mother.0 e.daughter.0) → ((a n b : ℕ) → n < size → R a n → R n b → R a b) → (a b : ℕ) → Above edges a b → R a b
  above_by R one both a b = closed_above edges a b (R a) (λ e stands reach.
      let here = one e (any_of (λ f. (f.mother.0 ≡ e.mother.0) × (f.daughter.0 ≡ e.daughter.0)) edges e stands (refl, refl)) in
      elim reach [
        | inl same ↦ subst (λ x. R x e.daughter.0) same here
        | inr far ↦ both a e.mother.0 e.daughter.0 (let m = (is_place parts e ((which_exact which parts box dim e box_is).0 stands).0.0).mother in omega (arith, m, all)) far here
      ])

  -- the nodes below a node are what the closure of the table of daughters has for it
  pub closure_exact : ((a b : ℕ) → InTable next a b ↔ IsDaughter edges a b) → IsClosure size next far → (a b : ℕ) → InTable far a b ↔ Above edges a b
  closure_exact is c a b = (
    λ h. (let p = c.along a b h in along_by (Above edges) next (λ x y i. one_above x y ((is x y).0 i)) (above_trans edges) p.0 a b p.1),
    above_by (InTable far) (λ e d. c.contains e.mother.0 e.daughter.0 ((is e.mother.0 e.daughter.0).1 d)) c.through a b,
  )

  -- the nodes above a node are what the closure of the table of mothers has for it
  pub ancestors_exact : ((a b : ℕ) → InTable next a b ↔ IsDaughter edges b a) → IsClosure size next far → (a b : ℕ) → InTable far a b ↔ Above edges b a
  ancestors_exact is c a b = (
    λ h. (let p = c.along a b h in along_by (λ x y. Above edges y x) next (λ x y i. one_above y x ((is x y).0 i)) (λ x n y up on. above_trans edges y n x on up) p.0 a b p.1),
    above_by (λ x y. InTable far y x) (λ e d. c.contains e.daughter.0 e.mother.0 ((is e.daughter.0 e.mother.0).1 d)) (λ x n y within up on. c.through y n x within on up) b a,
  )
