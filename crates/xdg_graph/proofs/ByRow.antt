-- The mothers of a node by the rows of its labels.
use Rattle.std.proofs.Common.{◌≡◌, ◌≢◌, ℕ, ◌<◌, ◌≤◌, ◌+◌, ◌↔◌, ◌||◌, inl, inr, Bool, true, IsTrue, List, [], length, get_or, ap, sym, ◌∙◌, arith, subst}
use Rattle.std.specs.Int.{bit_at}
use Rattle.std.proofs.lemmas.Nat.Bits.{bit_at-zero}
use Rattle.std.proofs.lemmas.Bool.{cases_lt, false≢true}
use Rattle.std.proofs.lemmas.List.{get_or_default, get_or_past}
use Rattle.xdg_facts.specs.Rises.{has}
use Rattle.xdg_problem.specs.declared.parts.Parts.{Parts}
use Rattle.xdg_problem.specs.Analyses.{IsPlace}
use Rattle.xdg_problem.specs.Boxes.{IsBox}
use Rattle.xdg_problem.specs.Paths.{IsDaughter}
use Rattle.xdg_problem.specs.Places.{edge, nodes}
use Rattle.xdg_problem.specs.Vectors.{shape}
use Rattle.xdg_store.specs.Across.{AreMothers, no_mothers}
use Rattle.xdg_store.specs.InRange.{HasEdges}
use Rattle.xdg_store.specs.Labels.{AreLabelsOf, at_place, no_labels}
use Rattle.xdg_store.specs.declared.across.Mothers.{Mothers}
use Rattle.xdg_store.specs.declared.labels.LabelsInto.{LabelsInto}
use Rattle.xdg_graph.specs.declared.which.Which.{Which}
use Rattle.xdg_graph.specs.declared.which.Which.TheVariants as whichs
use Rattle.xdg_graph.specs.Edges.{InSome, Stands, edge_labels, edges_of, mothers_in}
use Rattle.xdg_graph.proofs.Edges.{any_label, first_next, first_start, stands_by}
use Rattle.xdg_graph.proofs.Labelled.{has_edges, place_between}

-- ---- the nodes that some row has

-- a row has a node
abbrev RowHas : Which → List Mothers → ℕ → ℕ → Type 0
RowHas which rows label x = has (mothers_in which (get_or rows label no_mothers)) x ≡ true

-- one of the first rows has a node
abbrev pub InFirst : Which → List Mothers → ℕ → ℕ → Type 0
InFirst which rows k x = (label : ℕ) × (label < k) × RowHas which rows label x

pub rows_start : (which : Which) (rows : List Mothers) (set : List ℕ) → set ≡ [] → (x : ℕ) → IsTrue (has set x) ↔ InFirst which rows 0 x
rows_start which rows set empty x = first_start (RowHas which rows) set empty x

pub rows_next : (which : Which) (rows : List Mothers) (k : ℕ) (row : Mothers) (old more set : List ℕ) → k < length rows → row ≡ get_or rows k row → more ≡ mothers_in which row → ((x : ℕ) → has set x ≡ (has old x || has more x)) → ((x : ℕ) → IsTrue (has old x) ↔ InFirst which rows k x) → (x : ℕ) → IsTrue (has set x) ↔ InFirst which rows (k + 1) x
rows_next which rows k row old more set l at is joined so_far x =
    let same : more ≡ mothers_in which (get_or rows k no_mothers) = is ∙ ap (mothers_in which) (at ∙ get_or_default rows k row no_mothers l) in
    first_next (RowHas which rows) k old more set so_far (λ y. (λ h. subst (λ s. has s y ≡ true) same h, λ h. subst (λ s. has s y ≡ true) (sym same) h)) joined x

none_past : (which : Which) (rows : List Mothers) (k x : ℕ) → length rows ≤ k → RowHas which rows k x → ⊥
none_past whichs.May rows k x l h = false≢true (subst (λ (r : Mothers). has r.may x ≡ true) (get_or_past rows k no_mothers l) h)
none_past whichs.Must rows k x l h = false≢true (subst (λ (r : Mothers). has r.must x ≡ true) (get_or_past rows k no_mothers l) h)

pub rows_end : (which : Which) (rows : List Mothers) (k : ℕ) (set : List ℕ) → length rows ≤ k → ((x : ℕ) → IsTrue (has set x) ↔ InFirst which rows k x) → (x : ℕ) → IsTrue (has set x) ↔ InSome which rows x
rows_end which rows k set all exact x = (
  λ t. (let p = (exact x).0 t in elim (cases_lt p.0 (length rows)) [ inl m ↦ (p.0, m, p.2) | inr past ↦ absurd (none_past which rows p.0 x past p.2) ]),
  λ (label, l, h). (exact x).1 (label, omega (arith, l, all), h),
)

-- ---- the mothers of a node

-- the rows that are asked for
pub rows_there : (parts : Parts) (dim daughter labels : ℕ) → daughter < nodes parts → labels ≡ edge_labels parts dim → (label : ℕ) → label < labels → HasEdges parts dim daughter label
rows_there parts dim daughter labels within same label l = has_edges parts dim daughter label within (omega (arith, l, same))

-- a row says from which other nodes an edge leads
row_stands : (which : Which) (parts : Parts) (box : List (List Bool)) (dim v labels : ℕ) (rows : List Mothers) → AreMothers parts box dim v labels rows → (u label : ℕ) → label < labels → RowHas which rows label u ↔ ((u < nodes parts) × (u ≢ v) × Stands which parts box (edge dim u label v))
row_stands whichs.May parts box dim v labels rows are u label l = are.may u label l
row_stands whichs.Must parts box dim v labels rows are u label l = are.must u label l

pub mothers_by_rows : (which : Which) (parts : Parts) (box : List (List Bool)) (dim v labels : ℕ) (rows : List Mothers) (set : List ℕ) → IsBox (shape parts) box → v < nodes parts → labels ≡ edge_labels parts dim → AreMothers parts box dim v labels rows → ((x : ℕ) → IsTrue (has set x) ↔ InSome which rows x) → (u : ℕ) → IsTrue (has set u) ↔ IsDaughter (edges_of which parts box dim) u v
mothers_by_rows which parts box dim v labels rows set box_is within same are some u =
    let any = any_label which parts box dim labels u v box_is (omega (arith, same)) in (
      λ h. (let r = (some u).0 h in
          let l : r.0 < labels = (let m = r.1 in let e = are.count in omega (arith, m, e)) in
          let (p, differ, stands) = (row_stands which parts box dim v labels rows are u r.0 l).0 r.2 in
          any.0 (r.0, l, (stands_by which parts box dim u r.0 v box_is).1 (place_between parts dim u r.0 v p within differ (omega (arith, l, same)), stands))),
      λ d. (let (label, l, by) = any.1 d in
          let (place, stands) = (stands_by which parts box dim u label v box_is).0 by in
          (some u).1 (label, (let e = are.count in omega (arith, l, e)), (row_stands which parts box dim v labels rows are u label l).1 (place.mother, place.differ, stands))),
    )

-- ---- a node into which no edge leads

no_mother : (which : Which) (parts : Parts) (box : List (List Bool)) (dim u v : ℕ) → IsBox (shape parts) box → ((label : ℕ) → label < edge_labels parts dim → IsPlace parts (edge dim u label v) → Stands which parts box (edge dim u label v) → ⊥) → IsDaughter (edges_of which parts box dim) u v → ⊥
no_mother which parts box dim u v box_is none d =
    let by = (any_label which parts box dim (edge_labels parts dim) u v box_is (omega arith)).1 d in
    let stands = (stands_by which parts box dim u by.0 v box_is).0 by.2 in
    none by.0 by.1 stands.0 stands.1

-- on a dimension without labels
pub without_labels : (which : Which) (parts : Parts) (box : List (List Bool)) (dim labels : ℕ) → IsBox (shape parts) box → labels ≡ edge_labels parts dim → labels ≡ 0 → (u v : ℕ) → IsDaughter (edges_of which parts box dim) u v → ⊥
without_labels which parts box dim labels box_is count none u v d = no_mother which parts box dim u v box_is (λ label l place stands. omega (arith, l, count, none)) d

-- where no label has an edge that must be
pub no_label_must : (parts : Parts) (box : List (List Bool)) (dim v i : ℕ) (rows : List LabelsInto) (into : LabelsInto) → IsBox (shape parts) box → AreLabelsOf parts box dim rows → v < nodes parts → i ≡ v → (get_or rows i into).must.some ≡ 0 → (u : ℕ) → IsDaughter (edges_of whichs.Must parts box dim) u v → ⊥
no_label_must parts box dim v i rows into box_is are within is none u d =
    let there : get_or rows i into ≡ at_place rows v = ap (λ k. get_or rows k into) is ∙ get_or_default rows v into no_labels (let n = are.count in omega (arith, n, within)) in
    no_mother whichs.Must parts box dim u v box_is (λ label l place stands.
    let bit = (are.must v within label).some.1 (u, (place, stands)) in
    let zero = ap (λ (z : LabelsInto). bit_at z.must.some label) (sym there) ∙ ap (λ w. bit_at w label) none ∙ bit_at-zero label in
    omega (arith, bit, zero)) d
