-- Where the bits of an entry, of an attribute and of an edge stand among those of all decisions.
use Rattle.std.proofs.Common.{◌≡◌, ℕ, ◌<◌, ◌+◌, ◌*◌, List, [], ◌∷◌, ◌++◌, length, get_or, take, map, ap, sym, ◌∙◌, arith, zero, suc, refl, length-append}
use Rattle.std.specs.List.{flat_map}
use Rattle.std.proofs.lemmas.Nat.{row_fits}
use Rattle.std.proofs.lemmas.List.{get_or-map, get_or_append_left, get_or-append-add, length-map}
use Rattle.xdg_base.specs.declared.ids.EntryNo.{EntryNo}
use Rattle.xdg_problem.specs.declared.analysis.Edge.{Edge}
use Rattle.xdg_problem.specs.declared.parts.AttrPlan.{AttrPlan}
use Rattle.xdg_problem.specs.declared.parts.DimPlan.{DimPlan}
use Rattle.xdg_problem.specs.declared.parts.Parts.{Parts}
use Rattle.xdg_problem.specs.Analyses.{IsPlace}
use Rattle.xdg_problem.specs.Arguments.{no_plan, no_attr, attr_count, value_count, attr_place}
use Rattle.xdg_problem.specs.Boxes.{entry_decision, attr_decision, edge_decision, place_in}
use Rattle.xdg_problem.specs.Places.{numbers_from, below, nodes, places}
use Rattle.xdg_problem.specs.Vectors.{attr_sizes, first_place}
use Rattle.xdg_problem.proofs.AttrPlaces.{attr_within}
use Rattle.xdg_problem.proofs.Counted.{length_attrs_of}
use Rattle.xdg_problem.proofs.PlaceFound.{place_found}
use Rattle.xdg_problem.proofs.PlaceOrder.{place_is}
use Rattle.xdg_store.specs.Layout.{entry_row, attr_row, block, entry_bits, row_bits, attr_bits, pair_bits, bits_of}
use Rattle.xdg_store.proofs.Sizes.{attr_lengths}

-- the bits of a decision: it is one of the decisions, and these are its bits
pub record Located (parts : Parts) (d : ℕ) (row : List ℕ) : Type 0 where
  pub within : d < length (bits_of parts)
  pub is : get_or (bits_of parts) d [] ≡ row

-- a number of a row
pub number_at : (start size v d : ℕ) → v < size → get_or (numbers_from start size) v d ≡ start + v
number_at start zero v d l = absurd (omega arith)
number_at start (suc size) zero d l = omega arith
number_at start (suc size) (suc v) d l = number_at (suc start) size v d (omega arith) ∙ omega arith

-- ---- entries

length-entry_bits : (first : ℕ) (cs : List (List EntryNo)) → length (entry_bits first cs) ≡ length cs
length-entry_bits first [] = refl
length-entry_bits first (c ∷ cs) = ap suc (length-entry_bits (suc first) cs)

entry_at : (first : ℕ) (cs : List (List EntryNo)) (node : ℕ) → node < length cs → get_or (entry_bits first cs) node [] ≡ numbers_from (entry_row (first + node)) (length (get_or cs node []))
entry_at first [] node l = absurd (omega arith)
entry_at first (c ∷ cs) zero l = let e : first ≡ first + 0 = omega arith in ap (λ i. numbers_from (entry_row i) (length c)) e
entry_at first (c ∷ cs) (suc node) l =
    let e : suc first + node ≡ first + suc node = omega arith in
    entry_at (suc first) cs node (omega arith) ∙ ap (λ i. numbers_from (entry_row i) (length (get_or cs node []))) e

-- ---- attributes

row_at : (start : ℕ) (attrs : List AttrPlan) (attr : ℕ) → attr < length attrs → get_or (row_bits start attrs) attr [] ≡ numbers_from (start + attr * 1024) (length (get_or attrs attr no_attr).values)
row_at start [] attr l = absurd (omega arith)
row_at start (a ∷ attrs) zero l = let e : start ≡ start + 0 * 1024 = omega arith in ap (λ i. numbers_from i (length a.values)) e
row_at start (a ∷ attrs) (suc attr) l =
    let e : (start + 1024) + attr * 1024 ≡ start + suc attr * 1024 = omega arith in
    row_at (start + 1024) attrs attr (omega arith) ∙ ap (λ i. numbers_from i (length (get_or attrs attr no_attr).values)) e

length-row_bits : (start : ℕ) (attrs : List AttrPlan) → length (row_bits start attrs) ≡ length attrs
length-row_bits start [] = refl
length-row_bits start (a ∷ attrs) = ap suc (length-row_bits (start + 1024) attrs)

flat_at : (f : ℕ → List (List ℕ)) (first count w i j : ℕ) → ((k : ℕ) → length (f k) ≡ w) → i < count → j < w → get_or (flat_map f (numbers_from first count)) (i * w + j) [] ≡ get_or (f (first + i)) j []
flat_at f first zero w i j h l m = absurd (omega arith)
flat_at f first (suc count) w zero j h l m =
    let e : 0 * w + j ≡ j = grind arith in
    let z : first ≡ first + 0 = omega arith in
    let s = h first in
    ap (λ k. get_or (f first ++ flat_map f (numbers_from (suc first) count)) k []) e
    ∙ get_or_append_left (f first) (flat_map f (numbers_from (suc first) count)) [] j (omega (arith, s, m))
    ∙ ap (λ k. get_or (f k) j []) z
flat_at f first (suc count) w (suc i) j h l m =
    let p : suc i * w ≡ w + i * w = grind arith in
    let s = h first in
    let e : suc i * w + j ≡ length (f first) + (i * w + j) = omega (arith, p, s) in
    let z : suc first + i ≡ first + suc i = omega arith in
    ap (λ k. get_or (f first ++ flat_map f (numbers_from (suc first) count)) k []) e
    ∙ get_or-append-add (f first) (flat_map f (numbers_from (suc first) count)) (i * w + j) []
    ∙ flat_at f (suc first) count w i j h (omega arith) m
    ∙ ap (λ k. get_or (f k) j []) z

abbrev plan_bits : ℕ → ℕ → DimPlan → List (List ℕ)
plan_bits n dim plan = flat_map (λ node. row_bits (block n dim node) plan.attrs) (below n)

length-attr_bits : (n dim : ℕ) (plans : List DimPlan) → length (attr_bits n dim plans) ≡ length (attr_sizes n plans)
length-attr_bits n dim plans = sym (length-map (attr_bits n dim plans) length) ∙ ap length (attr_lengths n dim plans)

length-plan_bits : (n dim : ℕ) (plan : DimPlan) → length (plan_bits n dim plan) ≡ length (flat_map (λ (node : ℕ). map (λ (attr : AttrPlan). length attr.values) plan.attrs) (below n))
length-plan_bits n dim plan =
    let one = length-attr_bits n dim (plan ∷ []) in
    let a = length-append (plan_bits n dim plan) [] in
    let b = length-append (flat_map (λ (node : ℕ). map (λ (attr : AttrPlan). length attr.values) plan.attrs) (below n)) (attr_sizes n []) in
    omega (arith, one, a, b)

attr_at : (n dim : ℕ) (plans : List DimPlan) (d node attr : ℕ) → d < length plans → node < n → attr < length (get_or plans d no_plan).attrs → get_or (attr_bits n dim plans) (length (attr_sizes n (take d plans)) + (node * length (get_or plans d no_plan).attrs + attr)) [] ≡ numbers_from (attr_row n (dim + d) node attr) (length (get_or (get_or plans d no_plan).attrs attr no_attr).values)
attr_at n dim [] d node attr l m k = absurd (omega arith)
attr_at n dim (plan ∷ plans) zero node attr l m k =
    let w = length plan.attrs in
    let e : 0 + (node * w + attr) ≡ node * w + attr = omega arith in
    let z : dim ≡ dim + 0 = omega arith in
    let whole : length (plan_bits n dim plan) ≡ n * w = length-plan_bits n dim plan ∙ length_attrs_of n plan in
    let fits = row_fits node w n w m (omega arith) in
    ap (λ i. get_or (plan_bits n dim plan ++ attr_bits n (suc dim) plans) i []) e
    ∙ get_or_append_left (plan_bits n dim plan) (attr_bits n (suc dim) plans) [] (node * w + attr) (omega (arith, whole, fits, k))
    ∙ flat_at (λ node. row_bits (block n dim node) plan.attrs) 0 n w node attr (λ i. length-row_bits (block n dim i) plan.attrs) m k
    ∙ ap (λ i. get_or (row_bits (block n dim i) plan.attrs) attr []) (omega arith)
    ∙ row_at (block n dim node) plan.attrs attr k
    ∙ ap (λ i. numbers_from (attr_row n i node attr) (length (get_or plan.attrs attr no_attr).values)) z
attr_at n dim (plan ∷ plans) (suc d) node attr l m k =
    let w = length (get_or plans d no_plan).attrs in
    let z : suc dim + d ≡ dim + suc d = omega arith in
    let both = length-append (flat_map (λ (node : ℕ). map (λ (attr : AttrPlan). length attr.values) plan.attrs) (below n)) (attr_sizes n (take d plans)) in
    let front = length-plan_bits n dim plan in
    let e : length (attr_sizes n (take (suc d) (plan ∷ plans))) + (node * w + attr) ≡ length (plan_bits n dim plan) + (length (attr_sizes n (take d plans)) + (node * w + attr)) = omega (arith, both, front) in
    ap (λ i. get_or (plan_bits n dim plan ++ attr_bits n (suc dim) plans) i []) e
    ∙ get_or-append-add (plan_bits n dim plan) (attr_bits n (suc dim) plans) (length (attr_sizes n (take d plans)) + (node * w + attr)) []
    ∙ attr_at n (suc dim) plans d node attr (omega arith) m k
    ∙ ap (λ i. numbers_from (attr_row n i node attr) (length (get_or (get_or plans d no_plan).attrs attr no_attr).values)) z

-- ---- all

module _ (parts : Parts) (each : length parts.candidates ≡ nodes parts) where
  abbrev n : ℕ
  n = nodes parts

  abbrev entries : List (List ℕ)
  entries = entry_bits 0 parts.candidates

  abbrev attrs : List (List ℕ)
  attrs = attr_bits n 0 parts.dims

  abbrev edges : List (List ℕ)
  edges = map (pair_bits n) (places parts)

  pub entry_located : (node : ℕ) → node < nodes parts → Located parts (entry_decision node) (numbers_from (entry_row node) (length (get_or parts.candidates node [])))
  entry_located node l =
      let len = length-entry_bits 0 parts.candidates in
      let all = length-append entries (attrs ++ edges) in
      let z : 0 + node ≡ node = omega arith in
      record {
        within = omega (arith, len, all, each, l);
        is = get_or_append_left entries (attrs ++ edges) [] node (omega (arith, len, each, l)) ∙ entry_at 0 parts.candidates node (omega (arith, each, l)) ∙ ap (λ i. numbers_from (entry_row i) (length (get_or parts.candidates node []))) z;
      }

  pub attr_located : (dim node attr : ℕ) → dim < length parts.dims → node < nodes parts → attr < attr_count parts dim → Located parts (attr_decision parts dim node attr) (numbers_from (attr_row n dim node attr) (value_count parts dim attr))
  attr_located dim node attr d l a =
      let len = length-entry_bits 0 parts.candidates in
      let here = length-attr_bits n 0 parts.dims in
      let all = length-append entries (attrs ++ edges) in
      let both = length-append attrs edges in
      let w = attr_within parts dim node attr d l a in
      let place = attr_place parts dim node attr in
      let z : 0 + dim ≡ dim = omega arith in
      record {
        within = omega (arith, len, here, all, both, w);
        is = ap (λ i. get_or (entries ++ (attrs ++ edges)) (i + place) []) (sym len)
            ∙ get_or-append-add entries (attrs ++ edges) place []
            ∙ get_or_append_left attrs edges [] place (omega (arith, here, w))
            ∙ attr_at n 0 parts.dims dim node attr d l a
            ∙ ap (λ i. numbers_from (attr_row n i node attr) (value_count parts dim attr)) z;
      }

  pub edge_located : (e : Edge) → IsPlace parts e → Located parts (edge_decision parts e) (pair_bits n e)
  edge_located e p =
      let len = length-entry_bits 0 parts.candidates in
      let here = length-attr_bits n 0 parts.dims in
      let all = length-append entries (attrs ++ edges) in
      let both = length-append attrs edges in
      let mapped = length-map (places parts) (pair_bits n) in
      let found = place_found (places parts) e (place_is parts e p) in
      let l = found.0 in
      let place = place_in (places parts) e in
      let s : first_place parts + place ≡ length entries + (length attrs + place) = omega (arith, len, here) in
      record {
        within = omega (arith, len, here, all, both, mapped, l);
        is = ap (λ i. get_or (entries ++ (attrs ++ edges)) i []) s
            ∙ get_or-append-add entries (attrs ++ edges) (length attrs + place) []
            ∙ get_or-append-add attrs edges place []
            ∙ get_or-map (pair_bits n) (places parts) place e [] l
            ∙ ap (pair_bits n) found.1;
      }
