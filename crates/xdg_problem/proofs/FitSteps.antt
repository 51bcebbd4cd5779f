-- Steps of the loops that judge an analysis.
use Rattle.std.proofs.Common.{◌≡◌, ℕ, ◌<◌, ◌≤◌, ◌+◌, ◌-◌, ◌*◌, List, [], ◌∷◌, ◌++◌, length, get_or, take, drop, ap, sym, ◌∙◌, arith, subst, suc, map, length-append, length-drop}
use Rattle.std.specs.Prelude.{◌↔◌, Contains}
use Rattle.std.specs.List.{flat_map}
use Rattle.std.proofs.lemmas.List.{drop_more, drop_all, length-map, get_or_default, get_or-map, get_or-drop}
use Rattle.xdg_base.specs.declared.ids.EntryNo.{EntryNo}
use Rattle.xdg_facts.specs.Fits.{Fits}
use Rattle.xdg_problem.specs.declared.analysis.Edge.{Edge}
use Rattle.xdg_problem.specs.declared.parts.AttrPlan.{AttrPlan}
use Rattle.xdg_problem.specs.declared.parts.DimPlan.{DimPlan}
use Rattle.xdg_problem.specs.Places.{numbers_from, below}
use Rattle.xdg_problem.specs.Vectors.{attr_sizes}
use Rattle.xdg_problem.specs.Analyses.{HasCandidates, Before, EdgesRise}
use Rattle.xdg_problem.specs.EdgeOrder.{RisesAt}
use Rattle.xdg_problem.specs.Values.{AreValues, value_counts}
use Rattle.xdg_problem.proofs.Counted.{length_attrs_of}
use Rattle.xdg_problem.proofs.EntryPlaces.{length_entries}
use Rattle.xdg_facts.proofs.Fitting.{fits_refused, fits_split, fits_step}
use Rattle.xdg_facts.proofs.Lists.{from_place}
use Rattle.xdg_facts.proofs.Numbers.{left_after, wide_enough}

-- candidates

-- entries

entries_at : (candidates : List (List EntryNo)) (entries : List EntryNo) (k : ℕ) (d : List EntryNo) (x : EntryNo) → k < length candidates → k < length entries → HasCandidates (drop k candidates) (drop k entries) ↔ (Contains (get_or candidates k d) (get_or entries k x) × HasCandidates (drop (k + 1) candidates) (drop (k + 1) entries))
entries_at candidates entries k d x l m =
    subst (λ z. HasCandidates z (drop k entries) ↔ (Contains (get_or candidates k d) (get_or entries k x) × HasCandidates (drop (k + 1) candidates) (drop (k + 1) entries))) (sym (drop_more candidates k d l))
    (subst (λ z. HasCandidates (get_or candidates k d ∷ drop (k + 1) candidates) z ↔ (Contains (get_or candidates k d) (get_or entries k x) × HasCandidates (drop (k + 1) candidates) (drop (k + 1) entries))) (sym (drop_more entries k x m)) (λ h. h, λ h. h))

pub entries_step : (candidates : List (List EntryNo)) (entries : List EntryNo) (k : ℕ) (d : List EntryNo) (x : EntryNo) → k < length candidates → k < length entries → Contains (get_or candidates k d) (get_or entries k x) → HasCandidates (drop (k + 1) candidates) (drop (k + 1) entries) ↔ HasCandidates (drop k candidates) (drop k entries)
entries_step candidates entries k d x l m c = let h = entries_at candidates entries k d x l m in (λ r. h.1 (c, r), λ r. (h.0 r).1)

pub entries_refused : (candidates : List (List EntryNo)) (entries : List EntryNo) (k : ℕ) (d : List EntryNo) (x : EntryNo) → k < length candidates → k < length entries → (Contains (get_or candidates k d) (get_or entries k x) → ⊥) → HasCandidates (drop k candidates) (drop k entries) → ⊥
entries_refused candidates entries k d x l m n r = n ((entries_at candidates entries k d x l m).0 r).0

pub entries_end : (candidates : List (List EntryNo)) (entries : List EntryNo) (k : ℕ) → length entries ≡ length candidates → length entries ≤ k → HasCandidates (drop k candidates) (drop k entries)
entries_end candidates entries k e l =
    subst (λ z. HasCandidates z (drop k entries)) (sym (drop_all k candidates (omega arith))) (subst (λ z. HasCandidates [] z) (sym (drop_all k entries l)) tt)

-- values of a node

-- values of dimensions

pub node_step : (attrs : List AttrPlan) (x : List ℕ) (k : ℕ) (d : AttrPlan) → k < length attrs → k < length x → get_or x k 0 < length (get_or attrs k d).values → Fits (drop (k + 1) (map (λ (attr : AttrPlan). length attr.values) attrs)) (drop (k + 1) x) ↔ Fits (drop k (map (λ (attr : AttrPlan). length attr.values) attrs)) (drop k x)
node_step attrs x k d l m n = fits_step (map (λ (attr : AttrPlan). length attr.values) attrs) x k (subst (λ i. k < i) (sym (length-map attrs (λ (attr : AttrPlan). length attr.values))) l) m (subst (λ i. get_or x k 0 < i) (sym (get_or-map (λ (attr : AttrPlan). length attr.values) attrs k d 0 l)) n)

pub node_refused : (attrs : List AttrPlan) (x : List ℕ) (k : ℕ) (d : AttrPlan) → k < length attrs → k < length x → length (get_or attrs k d).values ≤ get_or x k 0 → Fits (drop k (map (λ (attr : AttrPlan). length attr.values) attrs)) (drop k x) → ⊥
node_refused attrs x k d l m n = fits_refused (map (λ (attr : AttrPlan). length attr.values) attrs) x k (subst (λ i. k < i) (sym (length-map attrs (λ (attr : AttrPlan). length attr.values))) l) m (subst (λ i. i ≤ get_or x k 0) (sym (get_or-map (λ (attr : AttrPlan). length attr.values) attrs k d 0 l)) n)

-- values of a dimension, node by node

dim_at : (plan : DimPlan) (n k w : ℕ) (x : List ℕ) → k < n → w ≡ length plan.attrs → w ≤ length x → Fits (flat_map (λ (node : ℕ). value_counts plan) (numbers_from k (n - k))) x ↔ (Fits (value_counts plan) (take w x) × Fits (flat_map (λ (node : ℕ). value_counts plan) (numbers_from (k + 1) (n - (k + 1)))) (drop w x))
dim_at plan n k w x l e m =
    let q : n - k ≡ suc (n - (k + 1)) = omega arith in
    let p : suc k ≡ k + 1 = omega arith in
    subst (λ i. Fits (flat_map (λ (node : ℕ). value_counts plan) (numbers_from k i)) x ↔ (Fits (value_counts plan) (take w x) × Fits (flat_map (λ (node : ℕ). value_counts plan) (numbers_from (k + 1) (n - (k + 1)))) (drop w x))) (sym q)
    (subst (λ i. Fits (value_counts plan ++ flat_map (λ (node : ℕ). value_counts plan) (numbers_from i (n - (k + 1)))) x ↔ (Fits (value_counts plan) (take w x) × Fits (flat_map (λ (node : ℕ). value_counts plan) (numbers_from (k + 1) (n - (k + 1)))) (drop w x))) (sym p)
    (fits_split (value_counts plan) (flat_map (λ (node : ℕ). value_counts plan) (numbers_from (k + 1) (n - (k + 1)))) x w (length-map plan.attrs (λ (attr : AttrPlan). length attr.values) ∙ sym e) m))

pub dim_step : (plan : DimPlan) (n k w : ℕ) (x now later : List ℕ) → k < n → w ≡ length plan.attrs → w ≤ length x → now ≡ take w x → later ≡ drop w x → Fits (value_counts plan) now → Fits (flat_map (λ (node : ℕ). value_counts plan) (numbers_from (k + 1) (n - (k + 1)))) later ↔ Fits (flat_map (λ (node : ℕ). value_counts plan) (numbers_from k (n - k))) x
dim_step plan n k w x now later l e m s t f =
    let h = dim_at plan n k w x l e m in
    subst (λ z. Fits (flat_map (λ (node : ℕ). value_counts plan) (numbers_from (k + 1) (n - (k + 1)))) z ↔ Fits (flat_map (λ (node : ℕ). value_counts plan) (numbers_from k (n - k))) x) (sym t)
    (λ r. h.1 (subst (λ z. Fits (value_counts plan) z) s f, r), λ r. (h.0 r).1)

pub dim_refused : (plan : DimPlan) (n k w : ℕ) (x now : List ℕ) → k < n → w ≡ length plan.attrs → w ≤ length x → now ≡ take w x → (Fits (value_counts plan) now → ⊥) → Fits (flat_map (λ (node : ℕ). value_counts plan) (numbers_from k (n - k))) x → ⊥
dim_refused plan n k w x now l e m s f r = f (subst (λ z. Fits (value_counts plan) z) (sym s) ((dim_at plan n k w x l e m).0 r).0)

-- values of dimensions

values_head : (plan : DimPlan) (plans : List DimPlan) (n w : ℕ) (x : List ℕ) → w ≡ n * length plan.attrs → w ≤ length x → AreValues n (plan ∷ plans) x ↔ (Fits (flat_map (λ (node : ℕ). value_counts plan) (below n)) (take w x) × AreValues n plans (drop w x))
values_head plan plans n w x e m =
    let h = fits_split (flat_map (λ (node : ℕ). value_counts plan) (below n)) (attr_sizes n plans) x w (length_attrs_of n plan ∙ sym e) m in
    let p = length-append (flat_map (λ (node : ℕ). value_counts plan) (below n)) (attr_sizes n plans) in
    let q = length_attrs_of n plan in
    let d = length-drop w x in
    (λ a. ((h.0 a.1).0, ((let s = a.0 in omega (arith, s, p, q, d)), (h.0 a.1).1)), λ a. ((let s = a.1.0 in omega (arith, s, p, q, d)), h.1 (a.0, a.1.1)))

values_narrow : (plan : DimPlan) (plans : List DimPlan) (n w : ℕ) (x : List ℕ) → w ≡ n * length plan.attrs → length x < w → AreValues n (plan ∷ plans) x → ⊥
values_narrow plan plans n w x e m a =
    let s = a.0 in
    let p = length-append (flat_map (λ (node : ℕ). value_counts plan) (below n)) (attr_sizes n plans) in
    let q = length_attrs_of n plan in
    omega (arith, s, p, q)

pub values_short : (dims : List DimPlan) (n w k : ℕ) (d : DimPlan) (x : List ℕ) → k < length dims → w ≡ n * length (get_or dims k d).attrs → length x < w → AreValues n (drop k dims) x → ⊥
values_short dims n w k d x l e m a = values_narrow (get_or dims k d) (drop (k + 1) dims) n w x e m (subst (λ z. AreValues n z x) (drop_more dims k d l) a)

pub values_step : (dims : List DimPlan) (n w k : ℕ) (plan : DimPlan) (x now later : List ℕ) → k < length dims → plan ≡ get_or dims k plan → w ≡ n * length plan.attrs → w ≤ length x → now ≡ take w x → later ≡ drop w x → Fits (flat_map (λ (node : ℕ). value_counts plan) (below n)) now → AreValues n (drop (k + 1) dims) later ↔ AreValues n (drop k dims) x
values_step dims n w k plan x now later l i e m s t f =
    let h = values_head plan (drop (k + 1) dims) n w x e m in
    subst (λ z. AreValues n (drop (k + 1) dims) later ↔ AreValues n z x) (sym (from_place dims k plan l i))
    (subst (λ z. AreValues n (drop (k + 1) dims) z ↔ AreValues n (plan ∷ drop (k + 1) dims) x) (sym t)
    (λ a. h.1 (subst (λ z. Fits (flat_map (λ (node : ℕ). value_counts plan) (below n)) z) s f, a), λ a. (h.0 a).1))

pub values_refused : (dims : List DimPlan) (n w k : ℕ) (plan : DimPlan) (x now : List ℕ) → k < length dims → plan ≡ get_or dims k plan → w ≡ n * length plan.attrs → w ≤ length x → now ≡ take w x → (Fits (flat_map (λ (node : ℕ). value_counts plan) (below n)) now → ⊥) → AreValues n (drop k dims) x → ⊥
values_refused dims n w k plan x now l i e m s f a =
    let h = values_head plan (drop (k + 1) dims) n w x e m in
    f (subst (λ z. Fits (flat_map (λ (node : ℕ). value_counts plan) (below n)) z) (sym s) (h.0 (subst (λ z. AreValues n z x) (from_place dims k plan l i) a)).0)

pub values_end : (dims : List DimPlan) (n k : ℕ) (x : List ℕ) → length dims ≤ k → (length x ≡ 0) ↔ AreValues n (drop k dims) x
values_end dims n k x l = subst (λ z. (length x ≡ 0) ↔ AreValues n z x) (sym (drop_all k dims l)) (λ e. (e, none_fit x e), λ a. a.0) where
  none_fit : (y : List ℕ) → length y ≡ 0 → Fits [] y
  none_fit [] e = tt
  none_fit (a ∷ y) e = absurd (omega arith)

-- edges

pub rise_tail : (e : Edge) (edges : List Edge) → EdgesRise (e ∷ edges) → EdgesRise edges
rise_tail e [] r = tt
rise_tail e (f ∷ edges) r = r.1

rise_head : (e : Edge) (edges : List Edge) → ((d : Edge) → 0 < length edges → Before e (get_or edges 0 d)) → EdgesRise edges → EdgesRise (e ∷ edges)
rise_head e [] b r = tt
rise_head e (f ∷ edges) b r = (b f (omega arith), r)

rise_first : (e : Edge) (edges : List Edge) (d : Edge) → EdgesRise (e ∷ edges) → 0 < length edges → Before e (get_or edges 0 d)
rise_first e [] d r l = absurd (omega arith)
rise_first e (f ∷ edges) d r l = r.0

rise_more : (edges : List Edge) (k : ℕ) (d : Edge) → k < length edges → RisesAt Before edges k → EdgesRise (drop (k + 1) edges) ↔ EdgesRise (drop k edges)
rise_more edges k d l h =
    subst (λ z. EdgesRise (drop (k + 1) edges) ↔ EdgesRise z) (sym (drop_more edges k d l)) (
      λ r. rise_head (get_or edges k d) (drop (k + 1) edges)
          (λ x m. subst (λ z. Before (get_or edges k d) z) (sym (get_or-drop (k + 1) edges 0 x ∙ ap (λ i. get_or edges i x) (omega arith)))
          (subst (λ z. Before z (get_or edges (k + 1) x)) (get_or_default edges k x d l) (h x (let p = length-drop (k + 1) edges in omega (arith, p, m))))) r,
      λ r. rise_tail (get_or edges k d) (drop (k + 1) edges) r,
    )

pub rise_step : (edges : List Edge) (k : ℕ) → k < length edges → RisesAt Before edges k → EdgesRise (drop (k + 1) edges) ↔ EdgesRise (drop k edges)
rise_step edges k l h = rise_more edges k (first_of_all edges l) l h where
  first_of_all : (edges : List Edge) → k < length edges → Edge
  first_of_all [] m = absurd (omega arith)
  first_of_all (e ∷ more) m = e

pub rise_refused : (edges : List Edge) (k : ℕ) → k < length edges → EdgesRise (drop k edges) → RisesAt Before edges k
rise_refused edges k l r d m =
    let q : EdgesRise (get_or edges k d ∷ drop (k + 1) edges) = subst (λ z. EdgesRise z) (drop_more edges k d l) r in
    let n : 0 < length (drop (k + 1) edges) = (let p = length-drop (k + 1) edges in omega (arith, p)) in
    subst (λ z. Before (get_or edges k d) z) (get_or-drop (k + 1) edges 0 d ∙ ap (λ i. get_or edges i d) (omega arith)) (rise_first (get_or edges k d) (drop (k + 1) edges) d q n)

pub rise_end : (edges : List Edge) (k : ℕ) → length edges ≤ k → EdgesRise (drop k edges)
rise_end edges k l = subst (λ z. EdgesRise z) (sym (drop_all k edges l)) tt

-- each turn over entries
pub ruleset entries_steps = (length_entries, entries_step, entries_refused, entries_end)

-- the values of one dimension
pub ruleset dim_steps = (wide_enough, left_after, dim_step, dim_refused)

-- each turn over the values of dimensions
pub ruleset values_steps = (values_short, values_step, values_refused, values_end)
