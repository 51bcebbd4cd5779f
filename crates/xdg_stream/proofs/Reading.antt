-- A row that is read says of the edges in it which values remain.
use Rattle.std.proofs.Common.{◌≡◌, ◌≢◌, ℕ, ◌<◌, ◌-◌, ◌↔◌, inl, inr, Bool, List, ap, sym, ◌∙◌, arith, subst, Contains}
use Rattle.std.specs.Prelude.{IsTrue}
use Rattle.std.proofs.lemmas.Bool.{cases_eq}
use Rattle.xdg_problem.specs.declared.analysis.Edge.{Edge}
use Rattle.xdg_problem.specs.declared.parts.Parts.{Parts}
use Rattle.xdg_problem.specs.Analyses.{IsPlace}
use Rattle.xdg_problem.specs.Boxes.{Has, IsBox, May, Must, edge_decision}
use Rattle.xdg_problem.specs.Places.{edge, nodes, places}
use Rattle.xdg_problem.specs.Problems.{IsProblem}
use Rattle.xdg_problem.specs.Vectors.{shape}
use Rattle.xdg_problem.proofs.PlaceOrder.{place_is}
use Rattle.xdg_rules.proofs.Sizes.{edge_some, edge_values}
use Rattle.xdg_store.specs.InRange.{HasEdges}
use Rattle.xdg_store.proofs.Kept.{place_has}
use Rattle.xdg_stream.specs.Rows.{IsOf, Reads, Says}
use Rattle.xdg_stream.specs.Runs.{IsAlone}
use Rattle.xdg_stream.specs.declared.row.Row.{Row}
use Rattle.xdg_facts.specs.Rises.{has}

-- ---- a row is read

-- the label of an edge place is one of its dimension
pub place_edges : (parts : Parts) (e : Edge) → IsPlace parts e → HasEdges parts e.dim.0 e.mother.0 e.label.0
place_edges parts e is = (let has = place_has parts e is in record { dim_in = has.dim_in; graph = has.graph; node_in = is.mother; label_in = has.label_in })

-- an edge in a row is that to its daughter
the_edge : (row : Row) (e : Edge) → IsOf row e → edge row.dim.0 row.mother.0 row.label.0 e.daughter.0 ≡ e
the_edge row e of =
    ap (λ i. edge i row.mother.0 row.label.0 e.daughter.0) of.dim
    ∙ ap (λ i. edge e.dim.0 i row.label.0 e.daughter.0) of.mother
    ∙ ap (λ i. edge e.dim.0 e.mother.0 i e.daughter.0) of.label

-- what is said of the edges to each node is said of those in the row
told : (parts : Parts) (row : Row) (set : List ℕ) (P : Edge → Type 0) → ((n : ℕ) → IsTrue (has set n) ↔ ((n < nodes parts) × (row.mother.0 ≢ n) × P (edge row.dim.0 row.mother.0 row.label.0 n))) → (e : Edge) → IsPlace parts e → IsOf row e → IsTrue (has set e.daughter.0) ↔ P e
told parts row set P exact e is of =
    let same = the_edge row e of in
    let apart : row.mother.0 ≢ e.daughter.0 = λ equal. is.differ (sym of.mother ∙ equal) in (
      λ there. subst P same ((exact e.daughter.0).0 there).2,
      λ holds. (exact e.daughter.0).1 (is.daughter, apart, subst P (sym same) holds),
    )

pub row_reads : (parts : Parts) (box : List (List Bool)) (row : Row) → ((n : ℕ) → IsTrue (has row.may n) ↔ ((n < nodes parts) × (row.mother.0 ≢ n) × May parts box (edge row.dim.0 row.mother.0 row.label.0 n))) → ((n : ℕ) → IsTrue (has row.must n) ↔ ((n < nodes parts) × (row.mother.0 ≢ n) × Must parts box (edge row.dim.0 row.mother.0 row.label.0 n))) → Reads parts box row
row_reads parts box row may must e is of = (told parts row row.may (May parts box) may e is of, told parts row row.must (Must parts box) must e is of)

-- no edge of the sentence is in a row whose mother is none of the nodes
pub none_read : (parts : Parts) (box : List (List Bool)) (row : Row) → IsProblem parts → row.mother.0 ≡ 255 → Reads parts box row
none_read parts box row problem out e is of = absurd (
    let same = of.mother in
    let within = is.mother in
    let most = problem.most in
    omega (arith, out, same, within, most)
    )

-- ---- what it says

-- a value of an edge place remains alone where the other one doesn't remain
other_alone : (parts : Parts) (box : List (List Bool)) (e : Edge) (v : ℕ) → IsBox (shape parts) box → Contains (places parts) e → v < 2 → (Has box (edge_decision parts e) (1 - v) → ⊥) → IsAlone box (edge_decision parts e) v
other_alone parts box e v is place small none = record {
  has = elim (edge_some parts box is e place) [ inl present ↦ one 0 (omega arith) present | inr absent ↦ one 1 (omega arith) absent ];
  only = λ x remains. same x (edge_values parts box is e place x remains) remains;
} where
  same : (x : ℕ) → x < 2 → Has box (edge_decision parts e) x → x ≡ v
  same x l remains = elim (cases_eq x v) [
    | inl q ↦ q
    | inr n ↦ absurd (let other : x ≡ 1 - v = omega (arith, l, n, small) in none (subst (Has box (edge_decision parts e)) other remains))
  ]

  one : (x : ℕ) → x < 2 → Has box (edge_decision parts e) x → Has box (edge_decision parts e) v
  one x l remains = subst (Has box (edge_decision parts e)) (same x l remains) remains

pub says_alone : (parts : Parts) (box : List (List Bool)) (row : Row) (e : Edge) (v : ℕ) → IsBox (shape parts) box → IsPlace parts e → Reads parts box row → IsOf row e → Says row e.daughter.0 v → IsAlone box (edge_decision parts e) v
says_alone parts box row e v is place reads of says =
    let tells = reads e place of in
    let here = place_is parts e place in
    elim says [
      | inl (present, must) ↦ subst (IsAlone box (edge_decision parts e)) (sym present) (other_alone parts box e 0 is here (omega arith) (tells.1.0 must))
      | inr (absent, out) ↦ subst (IsAlone box (edge_decision parts e)) (sym absent) (other_alone parts box e 1 is here (omega arith) (λ may. out (tells.0.1 may)))
    ]
