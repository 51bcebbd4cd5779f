-- Edges that link one node to another, by tables.
use Rattle.std.proofs.Common.{◌≡◌, ℕ, ◌⊎◌, ◌↔◌, inl, inr, Bool, true, false, IsTrue, List, sym, ◌∙◌, subst, refl}
use Rattle.std.proofs.lemmas.Bool.{false≢true}
use Rattle.xdg_nodeset.specs.Tables.{Meet}
use Rattle.xdg_problem.specs.declared.analysis.Edge.{Edge}
use Rattle.xdg_problem.specs.declared.parts.Linking.{Linking}
use Rattle.xdg_problem.specs.declared.parts.Parts.{Parts}
use Rattle.xdg_rules.specs.Rules.{may_edges}
use Rattle.xdg_plink.specs.Ways.{Stands, IsEnd, IsLed}
use Rattle.xdg_facts.specs.Rises.{has}

-- ---- other ends

pub here_meets : (others far : List ℕ) (node : ℕ) → has others node ≡ true → IsTrue true ↔ ((x : ℕ) × (has others x ≡ true) × ((has far x ≡ true) ⊎ (node ≡ x)))
here_meets others far node h = (λ t. (node, h, inr refl), λ m. refl)

pub far_meets : (others far : List ℕ) (node : ℕ) (b : Bool) → has others node ≡ false → IsTrue b ↔ Meet others far → IsTrue b ↔ ((x : ℕ) × (has others x ≡ true) × ((has far x ≡ true) ⊎ (node ≡ x)))
far_meets others far node b h meets = (
  λ t. (let (x, l, r) = meets.0 t in (x, l, inl r)),
  λ (x, l, r). elim r [
    | inl f ↦ meets.1 (x, l, f)
    | inr s ↦ absurd (false≢true (sym h ∙ subst (λ z. has others z ≡ true) (sym s) l))
  ],
)

-- one of some nodes is an end
abbrev pub HasEnd : Linking → List ℕ → List (List ℕ) → ℕ → ℕ → Type 0
HasEnd way others table u v = (x : ℕ) × (has others x ≡ true) × IsEnd way table u v x

-- ---- labels

-- an edge with the label links v to u
abbrev pub LedBy : Linking → List Edge → List (List ℕ) → ℕ → ℕ → ℕ → Type 0
LedBy way edges table u v label = (x : ℕ) × Stands way edges u v label x × IsEnd way table u v x

pub led_by : (way : Linking) (edges : List Edge) (table : List (List ℕ)) (u v label : ℕ) (others : List ℕ) (r : Bool) → IsTrue r ↔ HasEnd way others table u v → ((x : ℕ) → IsTrue (has others x) ↔ Stands way edges u v label x) → IsTrue r ↔ LedBy way edges table u v label
led_by way edges table u v label others r ends stands = (
  λ t. (let (x, l, e) = ends.0 t in (x, (stands x).0 l, e)),
  λ (x, s, e). ends.1 (x, (stands x).1 s, e),
)

pub led_as : (parts : Parts) (box : List (List Bool)) (way way2 : Linking) (dim dim2 : ℕ) (table : List (List ℕ)) (labels labels2 : List ℕ) (u v : ℕ) (r : Bool) → way ≡ way2 → dim ≡ dim2 → labels ≡ labels2 → IsTrue r ↔ IsLed way (may_edges parts box dim) table labels u v → IsTrue r ↔ IsLed way2 (may_edges parts box dim2) table labels2 u v
led_as parts box way way2 dim dim2 table labels labels2 u v r p q l h =
    subst (λ z. IsTrue r ↔ IsLed way2 (may_edges parts box dim2) table z u v) l
    (subst (λ z. IsTrue r ↔ IsLed way2 (may_edges parts box z) table labels u v) q
    (subst (λ z. IsTrue r ↔ IsLed z (may_edges parts box dim) table labels u v) p h))
