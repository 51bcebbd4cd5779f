-- How many values there are, and how much room they take.
use Rattle.std.proofs.Common.{◌≡◌, ℕ, ◌<◌, ◌≤◌, ◌+◌, ◌-◌, ◌*◌, Bool, true, false, cond, List, [], ◌∷◌, ◌++◌, length, get_or, take, drop, map, ap, ap₂, sym, ◌∙◌, arith, zero, suc, refl, length-append}
use Rattle.std.specs.Prelude.{sum, All}
use Rattle.std.specs.List.{AllByRecursion, flat_map}
use Rattle.std.proofs.lemmas.List.{drop_at, drop-drop, length-map}
use Rattle.std.proofs.lemmas.List.Elements.{recursion_from_All}
use Rattle.std.proofs.lemmas.List.Sums.{sum_by-cons, sum_by_more, sum_by-take-drop}
use Rattle.std.proofs.lemmas.Nat.{mul-le}
use Rattle.xdg_problem.specs.declared.analysis.Edge.{Edge}
use Rattle.xdg_problem.specs.declared.parts.AttrPlan.{AttrPlan}
use Rattle.xdg_problem.specs.declared.parts.DimPlan.{DimPlan}
use Rattle.xdg_problem.specs.declared.parts.Parts.{Parts}
use Rattle.xdg_problem.specs.Places.{below, nodes, places, places_from, places_of}
use Rattle.xdg_problem.specs.Problems.{IsDim, IsProblem}
use Rattle.xdg_problem.specs.Vectors.{attr_sizes, first_place, shape}
use Rattle.xdg_problem.proofs.Counted.{length_attrs_of}
use Rattle.xdg_facts.proofs.Each.{each_at}
use Rattle.xdg_problem.proofs.PlaceCount.{length_places_of}
use Rattle.xdg_problem.proofs.VectorFacts.{length_shape}
use Rattle.xdg_store.proofs.Boxed.{IsSize, sizes_fit}

-- ---- attributes

abbrev pub sizes_on : ℕ → DimPlan → List ℕ
sizes_on n plan = flat_map (λ node. map (λ (attr : AttrPlan). length attr.values) plan.attrs) (below n)

pub attrs_more : (n : ℕ) (dims : List DimPlan) (i : ℕ) (plan : DimPlan) → i < length dims → plan ≡ get_or dims i plan → length (attr_sizes n (take (i + 1) dims)) ≡ length (attr_sizes n (take i dims)) + n * length plan.attrs
attrs_more n [] i plan l e = absurd (omega (arith, l))
attrs_more n (first ∷ dims) zero plan l e =
    let a = length-append (sizes_on n first) (attr_sizes n []) in
    let b = length_attrs_of n first in
    let c : n * length plan.attrs ≡ n * length first.attrs = ap (λ (p : DimPlan). n * length p.attrs) e in
    omega (arith, a, b, c)
attrs_more n (first ∷ dims) (suc i) plan l e =
    let r = attrs_more n dims i plan (omega (arith, l)) e in
    let q : suc i + 1 ≡ suc (i + 1) = omega arith in
    let s : take (suc i + 1) (first ∷ dims) ≡ first ∷ take (i + 1) dims = ap (λ k. take k (first ∷ dims)) q in
    let t : length (attr_sizes n (take (suc i + 1) (first ∷ dims))) ≡ length (sizes_on n first ++ attr_sizes n (take (i + 1) dims)) = ap (λ z. length (attr_sizes n z)) s in
    let a = length-append (sizes_on n first) (attr_sizes n (take (i + 1) dims)) in
    let b = length-append (sizes_on n first) (attr_sizes n (take i dims)) in
    omega (arith, r, t, a, b)

pub attrs_step : (n : ℕ) (dims : List DimPlan) (i count : ℕ) (plan : DimPlan) → n ≤ 128 → All IsDim dims → i < length dims → plan ≡ get_or dims i plan → (count ≡ length (attr_sizes n (take i dims))) × (count ≤ i * 1024) → (count + n * length plan.attrs ≡ length (attr_sizes n (take (i + 1) dims))) × (count + n * length plan.attrs ≤ (i + 1) * 1024)
attrs_step n dims i count plan most are l e h =
    let m = attrs_more n dims i plan l e in
    let is = (are i plan l).attrs_most in
    let same : length plan.attrs ≡ length (get_or dims i plan).attrs = ap (λ (p : DimPlan). length p.attrs) e in
    let b = mul-le n (length plan.attrs) 128 8 most (omega (arith, is, same)) in
    let p = h.0 in
    let q = h.1 in
    (omega (arith, m, p), omega (arith, b, q))

-- ---- the first decisions

pub free_step : (parts : Parts) (at free count : ℕ) → IsProblem parts → at < length (shape parts) → count ≡ get_or (shape parts) at 0 → (free + at ≡ sum (take at (shape parts))) × (free ≤ at * 1023) → ((free + (count - 1)) + (at + 1) ≡ sum (take (at + 1) (shape parts))) × (free + (count - 1) ≤ (at + 1) * 1023)
free_step parts at free count p l e h =
    let m = sum_by_more (λ x. x) (shape parts) at 0 l in
    let s = each_at IsSize (shape parts) at 0 l (sizes_fit parts p) in
    let low = s.0 in
    let high = s.1 in
    let q = h.0 in
    let r = h.1 in
    (omega (arith, m, low, high, e, q), omega (arith, low, high, e, r))

pub some_values : (parts : Parts) (at count : ℕ) → IsProblem parts → at < length (shape parts) → count ≡ get_or (shape parts) at 0 → 1 ≤ count
some_values parts at count p l e = let s = (each_at IsSize (shape parts) at 0 l (sizes_fit parts p)).0 in omega (arith, s, e)

-- ---- edge places

twos : (edges : List Edge) → sum (map (λ place. 2) edges) ≡ length edges * 2
twos [] = refl
twos (e ∷ edges) =
    let a = sum_by-cons (λ x. x) 2 (map (λ (place : Edge). 2) edges) in
    let b = twos edges in
    omega (arith, a, b)

pub length_first : (parts : Parts) → length (shape parts) ≡ first_place parts + length (places parts)
length_first parts = let e = length_shape parts in omega (arith, e)

behind_first : (parts : Parts) → drop (first_place parts) (shape parts) ≡ map (λ place. 2) (places parts)
behind_first parts =
    let entries = map length parts.candidates in
    let attrs = attr_sizes (nodes parts) parts.dims in
    let edges = map (λ (place : Edge). 2) (places parts) in
    sym (drop-drop (length attrs) (length parts.candidates) (shape parts))
    ∙ ap (drop (length attrs)) (drop_at entries (attrs ++ edges) (length parts.candidates) (length-map parts.candidates length))
    ∙ drop_at attrs edges (length attrs) refl

-- all values but one of each decision
pub free_whole : (parts : Parts) (free first : ℕ) → first ≡ first_place parts → free + first ≡ sum (take first (shape parts)) → (free + (length (shape parts) - first)) + length (shape parts) ≡ sum (shape parts)
free_whole parts free first is e =
    let s = sum_by-take-drop (λ x. x) (shape parts) first in
    let d : sum (drop first (shape parts)) ≡ length (places parts) * 2 = ap (λ i. sum (drop i (shape parts))) is ∙ ap sum (behind_first parts) ∙ twos (places parts) in
    let l = length_first parts in
    omega (arith, s, d, l, is, e)

plan_places : (graph : Bool) (dim n labels : ℕ) → n ≤ 128 → labels ≤ 32 → length (cond graph (places_of dim n labels) []) ≤ 520192
plan_places true dim n labels a b =
    let e = length_places_of dim n labels in
    let f = mul-le labels (n - 1) 32 127 b (omega (arith, a)) in
    let g = mul-le n (labels * (n - 1)) 128 4064 a (omega (arith, f)) in
    omega (arith, e, g)
plan_places false dim n labels a b = omega arith

dim_places : (dim n : ℕ) (plans : List DimPlan) → n ≤ 128 → AllByRecursion IsDim plans → length (places_from dim n plans) ≤ length plans * 520192
dim_places dim n [] a b = omega arith
dim_places dim n (plan ∷ plans) a b =
    let e = length-append (cond plan.graph (places_of dim n (length plan.labels)) []) (places_from (suc dim) n plans) in
    let f = plan_places plan.graph dim n (length plan.labels) a b.0.labels_most in
    let g = dim_places (suc dim) n plans a b.1 in
    omega (arith, e, f, g)

pub places_few : (parts : Parts) → IsProblem parts → length (places parts) ≤ 4161536
places_few parts p =
    let e = dim_places 0 (nodes parts) parts.dims p.most (recursion_from_All IsDim parts.dims p.dims) in
    let f = p.dims_most in
    omega (arith, e, f)

-- ---- bits

-- the code's count of the decisions before those of edges
pub first_is : (parts shown : Parts) (n count : ℕ) (dims : List DimPlan) → IsProblem parts → shown ≡ parts → n ≡ length shown.words → dims ≡ shown.dims → count ≡ length (attr_sizes n dims) → n + count ≡ first_place parts
first_is parts shown n count dims p s l d e =
    let a : n ≡ nodes parts = l ∙ ap (λ (q : Parts). length q.words) s in
    let b : length (attr_sizes n dims) ≡ length (attr_sizes (nodes parts) parts.dims) = ap₂ (λ i z. length (attr_sizes i z)) a (d ∙ ap (λ (q : Parts). q.dims) s) in
    let c = p.candidates_each in
    omega (arith, a, b, c, e)
