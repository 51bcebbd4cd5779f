-- Decisions that have one value left.
use Rattle.std.proofs.Common.{◌≡◌, ℕ, ◌<◌, ◌+◌, ◌*◌, ◌/◌, ◌%◌, ◌↔◌, inl, inr, Bool, true, false, not, IsTrue, List, [], length, get_or, refl, ap, ap₂, sym, ◌∙◌, arith, subst, zero, suc}
use Rattle.std.proofs.lemmas.Bool.{cases_eq, false_from_ne_true, not_from_false, not-true}
use Rattle.std.proofs.lemmas.List.{get_or_default}
use Rattle.std.proofs.lemmas.Nat.{div-add-mod', div-mul-add, div_below, mod-mul-add, mod_below, row_fits}
use Rattle.xdg_base.specs.declared.ids.EntryNo.{EntryNo}
use Rattle.xdg_problem.specs.declared.analysis.Edge.{Edge}
use Rattle.xdg_problem.specs.declared.parts.AttrPlan.{AttrPlan}
use Rattle.xdg_problem.specs.declared.parts.DimPlan.{DimPlan}
use Rattle.xdg_problem.specs.declared.parts.Parts.{Parts}
use Rattle.xdg_problem.specs.Analyses.{IsPlace}
use Rattle.xdg_problem.specs.Arguments.{label_count, no_attr, no_plan}
use Rattle.xdg_problem.specs.Boxes.{IsSingle}
use Rattle.xdg_problem.specs.Places.{edge, nodes}
use Rattle.xdg_problem.specs.Problems.{IsProblem}
use Rattle.xdg_problem.proofs.BoxPlaces.{has_decision}
use Rattle.xdg_problem.proofs.PlacePlans.{dim_within, plan_read}
use Rattle.xdg_store.specs.Decisions.{IsDecision}
use Rattle.xdg_store.specs.Layout.{bits_of, block, box_in, edge_bit, is_set}
use Rattle.xdg_store.specs.Rows.{HasOther}
use Rattle.xdg_store.specs.Singles.{AreAttrsAlone, AreEdgesAlone, AreEntriesAlone, AreNodesAlone, IsAlone, IsNodeAlone}
use Rattle.xdg_store.proofs.Daughters.{out_is_place}
use Rattle.xdg_store.specs.declared.decision.Decision.{Decision}
use Rattle.xdg_store.specs.declared.decision.Decision.TheVariants as decisions
use Rattle.xdg_store.proofs.Deciding.{HasBits, bit_of, has_bits, named_bits, pair_bit, size_of}
use Rattle.xdg_store.proofs.Removals.{has_bit, has_size, length_box_in}

-- ---- a row

-- the first bit that is set tells
pub alone_first : (words : List ℕ) (start size value : ℕ) (result : Bool) → value < size → is_set words (start + value) ≡ true → (IsTrue result ↔ HasOther words start size value) → IsTrue (not result) ↔ IsAlone words start size
alone_first words start size value result within is exact = (
  λ t x y l m e f.
      let only : (z : ℕ) → z < size → is_set words (start + z) ≡ true → z ≡ value = λ z k h. elim (cases_eq z value) [
        | inl same ↦ same
        | inr n ↦ absurd (let q : result ≡ true = exact.1 (z, k, n, h) in let r = not-true result t in cc)
      ] in
      only y m f ∙ sym (only x l e),
  λ alone. not_from_false result (false_from_ne_true result (λ t. (let o = exact.0 t in o.2 (alone value o.0 within o.1 is o.3)))),
)

-- ---- loops over decisions

pub stops : (P : ℕ → Type 0) (n k : ℕ) (result : Bool) → k < n → (P k → result ≡ true) → result ≡ false → ((j : ℕ) → j < n → P j) → ⊥
stops P n k result l exact is all = (let t = exact (all k l) in cc)

-- how many values the code finds
pub candidates_at : (candidates : List (List EntryNo)) (item : List EntryNo) (node size : ℕ) → node < length candidates → item ≡ get_or candidates node item → size ≡ length item → size ≡ length (get_or candidates node [])
candidates_at candidates item node size l i s = s ∙ ap length (i ∙ get_or_default candidates node item [] l)

pub values_at : (attrs : List AttrPlan) (item : AttrPlan) (attr size : ℕ) → attr < length attrs → item ≡ get_or attrs attr item → size ≡ length item.values → size ≡ length (get_or attrs attr no_attr).values
values_at attrs item attr size l i s = s ∙ ap (λ (q : AttrPlan). length q.values) (i ∙ get_or_default attrs attr item no_attr l)

pub plan_at : (dims : List DimPlan) (item : DimPlan) (at n : ℕ) → 0 < n → at < length dims * n → item ≡ get_or dims (at / n) item → item ≡ get_or dims (at / n) no_plan
plan_at dims item at n some l i = i ∙ get_or_default dims (at / n) item no_plan (div_below at n (length dims) some l)

-- ---- decisions by their bits

-- of no two bits of a decision both are set
abbrev pub AreAlone : List ℕ → ℕ → (ℕ → ℕ) → Type 0
AreAlone words size bit = (x y : ℕ) → x < size → y < size → is_set words (bit x) ≡ true → is_set words (bit y) ≡ true → y ≡ x

abbrev IsClosed : List ℕ → ℕ → Type 0
IsClosed words bit = is_set words bit ≡ true → is_set words (bit + 128) ≡ true → ⊥

module _ (parts : Parts) (words : List ℕ) where
  pair_alone : (e : Edge) → IsClosed words (edge_bit (nodes parts) e) → AreAlone words 2 (pair_bit parts e)
  pair_alone e closed zero zero l m h k = refl
  pair_alone e closed zero (suc zero) l m h k = absurd (closed h k)
  pair_alone e closed (suc zero) zero l m h k = absurd (closed k h)
  pair_alone e closed (suc zero) (suc zero) l m h k = refl
  pair_alone e closed zero (suc (suc y)) l m h k = absurd (omega (arith, m))
  pair_alone e closed (suc zero) (suc (suc y)) l m h k = absurd (omega (arith, m))
  pair_alone e closed (suc (suc x)) y l m h k = absurd (omega (arith, l))

  alone_pair : (e : Edge) → AreAlone words 2 (pair_bit parts e) → IsClosed words (edge_bit (nodes parts) e)
  alone_pair e alone h k = (let q : 1 ≡ 0 = alone 0 1 (omega arith) (omega arith) h k in omega (arith, q))

  abbrev box : List (List Bool)
  box = box_in (bits_of parts) words

  -- a decision of which no two values remain has no two bits that are set
  at_decision : {d size : ℕ} {bit : ℕ → ℕ} → IsSingle box → HasBits parts d size bit → AreAlone words size bit
  at_decision {d} single at x y l m e f = single d x y (has_bit at words x l ∙ e) (has_bit at words y m ∙ f)

  -- and back, of all of them
  of_decisions : IsProblem parts → ((decision : Decision) → IsDecision parts decision → AreAlone words (size_of parts decision) (bit_of parts decision)) → IsSingle box
  of_decisions p all d v x h k =
      let count = length_box_in (bits_of parts) words in
      let there = has_decision box d v h in
      let name = named_bits parts p d (omega (arith, count, there)) in
      let at = name.3 in
      let l = has_size at words v h in
      let m = has_size at words x k in
      all name.0 name.1 v x l m (sym (has_bit at words v l) ∙ h) (sym (has_bit at words x m) ∙ k)

-- ---- all

regroup : (start label daughter : ℕ) → start + 8192 + label * 256 + daughter ≡ start + (8192 + label * 256) + daughter
regroup start label daughter = omega arith

module _ (parts : Parts) (words : List ℕ) (p : IsProblem parts) where
  abbrev n : ℕ
  n = nodes parts

  abbrev plan_of : ℕ → DimPlan
  plan_of dim = get_or parts.dims dim no_plan

  entries_from : IsSingle (box_in (bits_of parts) words) → AreEntriesAlone words parts.candidates
  entries_from single node l = (let each = p.candidates_each in at_decision parts words single (has_bits parts p (decisions.Entry (record { 0 = node })) (omega (arith, each, l))))

  attrs_from : IsSingle (box_in (bits_of parts) words) → (dim node : ℕ) → dim < length parts.dims → node < n → AreAttrsAlone words (block n dim node) (plan_of dim).attrs
  attrs_from single dim node d l attr a = at_decision parts words single (has_bits parts p (decisions.Attr (record { 0 = dim }) (record { 0 = node }) (record { 0 = attr })) (d, l, a))

  -- the place of a label and a daughter
  edges_from : IsSingle (box_in (bits_of parts) words) → (dim mother : ℕ) → dim < length parts.dims → mother < n → (plan_of dim).graph ≡ true → AreEdgesAlone words (block n dim mother + 8192) (length (plan_of dim).labels) n mother
  edges_from single dim mother d l graph place m other may absent =
      let some : 0 < n = omega (arith, l) in
      let label = place / n in
      let daughter = place % n in
      let e = edge dim mother label daughter in
      let label_in : label < label_count parts dim = div_below place n (length (plan_of dim).labels) some m in
      let daughter_in : daughter < n = mod_below place n some in
      let is : IsPlace parts e = out_is_place parts dim mother label daughter (record { dim_in = d; graph = graph; node_in = l; label_in = label_in }) daughter_in (λ same. other (sym same)) in
      let bit : block n dim mother + 8192 + label * 256 + daughter ≡ edge_bit n e = regroup (block n dim mother) label daughter in
      alone_pair parts words e (at_decision parts words single (has_bits parts p (decisions.Place e) is)) (ap (is_set words) (sym bit) ∙ may) (ap (λ i. is_set words (i + 128)) (sym bit) ∙ absent)

  -- the nodes of all dimensions, one behind another
  nodes_from : IsSingle (box_in (bits_of parts) words) → AreNodesAlone words parts.dims n
  nodes_from single at l =
      let some : 0 < n = (let s = p.some in omega (arith, s)) in
      let dim = at / n in
      let node = at % n in
      let d : dim < length parts.dims = div_below at n (length parts.dims) some l in
      let m : node < n = mod_below at n some in
      let whole : n * 1024 + at * 16384 ≡ block n dim node = ap (λ i. n * 1024 + i * 16384) (sym (div-add-mod' at n)) in
      record {
        attrs = subst (λ i. AreAttrsAlone words i (plan_of dim).attrs) (sym whole) (attrs_from single dim node d m);
        edges = λ graph. subst (λ i. AreEdgesAlone words (i + 8192) (length (plan_of dim).labels) n node) (sym whole) (edges_from single dim node d m graph);
      }

  -- that of a dimension and a node
  node_at : AreNodesAlone words parts.dims n → (dim node : ℕ) → dim < length parts.dims → node < n → IsNodeAlone words (plan_of dim) (block n dim node) n node
  node_at all dim node d l =
      let row = row_fits dim n (length parts.dims) n d (omega arith) in
      let place : dim * n + node < length parts.dims * n = omega (arith, row, l) in
      subst (λ i. IsNodeAlone words (plan_of i) (block n dim node) n node) (div-mul-add dim n node l)
      (subst (λ i. IsNodeAlone words (plan_of ((dim * n + node) / n)) (block n dim node) n i) (mod-mul-add dim n node l) (all (dim * n + node) place))

  edge_at : AreNodesAlone words parts.dims n → (e : Edge) → IsPlace parts e → AreAlone words 2 (pair_bit parts e)
  edge_at all e is =
      let plan : plan_of e.dim.0 ≡ is.plan = plan_read parts e is no_plan in
      let here = node_at all e.dim.0 e.mother.0 (dim_within parts e is) is.mother in
      let edges = here.edges (ap (λ (q : DimPlan). q.graph) plan ∙ is.graph) in
      let label : e.label.0 < length (plan_of e.dim.0).labels = subst (λ (q : DimPlan). e.label.0 < length q.labels) (sym plan) is.label in
      let row = row_fits e.label.0 n (length (plan_of e.dim.0).labels) n label (omega arith) in
      let daughter = is.daughter in
      let place = e.label.0 * n + e.daughter.0 in
      let a : place / n ≡ e.label.0 = div-mul-add e.label.0 n e.daughter.0 daughter in
      let b : place % n ≡ e.daughter.0 = mod-mul-add e.label.0 n e.daughter.0 daughter in
      let start = block n e.dim.0 e.mother.0 in
      let bit : start + 8192 + place / n * 256 + place % n ≡ edge_bit n e = ap₂ (λ i j. start + 8192 + i * 256 + j) a b ∙ regroup start e.label.0 e.daughter.0 in
      pair_alone parts words e (λ may absent. edges place (omega (arith, row, daughter)) (λ same. is.differ (sym (sym b ∙ same))) (ap (is_set words) bit ∙ may) (ap (λ i. is_set words (i + 128)) bit ∙ absent))

  each_alone : AreEntriesAlone words parts.candidates → AreNodesAlone words parts.dims n → (decision : Decision) → IsDecision parts decision → AreAlone words (size_of parts decision) (bit_of parts decision)
  each_alone entries all (decisions.Entry node) is = (let each = p.candidates_each in entries node.0 (omega (arith, each, is)))
  each_alone entries all (decisions.Attr dim node attr) (d, l, a) = (node_at all dim.0 node.0 d l).attrs attr.0 a
  each_alone entries all (decisions.Place e) is = edge_at all e is

  pub single_exact : (AreEntriesAlone words parts.candidates × AreNodesAlone words parts.dims n) ↔ IsSingle (box_in (bits_of parts) words)
  single_exact = (λ (entries, all). of_decisions parts words p (each_alone entries all), λ single. (entries_from single, nodes_from single))

-- as the code goes
pub single_told : (parts : Parts) (words : List ℕ) (candidates : List (List EntryNo)) (dims : List DimPlan) (n : ℕ) (entries rest : Bool) → IsProblem parts → candidates ≡ parts.candidates → dims ≡ parts.dims → n ≡ nodes parts
    → (IsTrue entries ↔ AreEntriesAlone words candidates) → (IsTrue rest ↔ AreNodesAlone words dims n) → entries ≡ true → IsTrue rest ↔ IsSingle (box_in (bits_of parts) words)
single_told parts words candidates dims n entries rest p c d m first then is =
    let same : AreNodesAlone words dims n ↔ AreNodesAlone words parts.dims (nodes parts) = (
      λ h. subst (λ z. AreNodesAlone words z (nodes parts)) d (subst (AreNodesAlone words dims) m h),
      λ h. subst (AreNodesAlone words dims) (sym m) (subst (λ z. AreNodesAlone words z (nodes parts)) (sym d) h),
    ) in (
      λ t. (single_exact parts words p).0 (subst (AreEntriesAlone words) c (first.0 is), same.0 (then.0 t)),
      λ single. then.1 (same.1 ((single_exact parts words p).1 single).1),
    )

pub not_single : (parts : Parts) (words : List ℕ) (candidates : List (List EntryNo)) (entries : Bool) → IsProblem parts → candidates ≡ parts.candidates → (IsTrue entries ↔ AreEntriesAlone words candidates) → entries ≡ false → IsSingle (box_in (bits_of parts) words) → ⊥
not_single parts words candidates entries p c first no_entry single = (let t = first.1 (subst (AreEntriesAlone words) (sym c) ((single_exact parts words p).1 single).0) in cc)
