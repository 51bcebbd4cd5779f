-- Steps of the loops that list the places.
use Rattle.std.proofs.Common.{◌≡◌, ℕ, ◌<◌, ◌≤◌, ◌+◌, List, [], ◌∷◌, ◌++◌, length, get_or, drop, ap, sym, ◌∙◌, arith, subst, suc, true, false, map, cond, not}
use Rattle.std.specs.Prelude.{filter, All, ◌==◌}
use Rattle.std.specs.List.{flat_map}
use Rattle.std.proofs.lemmas.Bool.{ne_eqb, eq-eqb}
use Rattle.std.proofs.lemmas.List.{map-append, append-nil, append_assoc, drop_more, drop_all}
use Rattle.std.proofs.lemmas.List.Concat.{flat_map-append}
use Rattle.std.proofs.lemmas.List.Elements.{filter-append, All-get_or}
use Rattle.xdg_problem.specs.declared.analysis.Edge.{Edge}
use Rattle.xdg_problem.specs.declared.parts.DimPlan.{DimPlan}
use Rattle.xdg_problem.specs.declared.parts.Parts.{Parts}
use Rattle.xdg_problem.specs.Places.{below, edge, others, places_out, places_of, places_from}
use Rattle.xdg_problem.specs.HasPlaces.{HasPlaces}
use Rattle.xdg_problem.specs.Problems.{IsDim}
use Rattle.xdg_problem.proofs.Numbered.{numbers_more}
use Rattle.xdg_problem.proofs.PlaceOrder.{places_before, is_place, place_is}

below_push : (k : ℕ) → below (k + 1) ≡ below k ++ k ∷ []
below_push k =
    let e : k + 1 ≡ suc k = omega arith in
    let z : 0 + k ≡ k = omega arith in
    ap below e ∙ numbers_more 0 k ∙ ap (λ i. below k ++ i ∷ []) z

others_push : (k mother : ℕ) → others (k + 1) mother ≡ others k mother ++ filter (λ other. not (other == mother)) (k ∷ [])
others_push k mother = ap (filter (λ other. not (other == mother))) (below_push k) ∙ filter-append (λ other. not (other == mother)) (below k) (k ∷ [])

pub out_skip : (dim k mother label : ℕ) → k ≡ mother → places_out dim (k + 1) mother label ≡ places_out dim k mother label
out_skip dim k mother label e =
    ap (map (λ daughter. edge dim mother label daughter))
    (others_push k mother ∙ ap (λ b. others k mother ++ cond (not b) (k ∷ []) []) (eq-eqb k mother e) ∙ append-nil (others k mother))

pub out_push : (dim k mother label : ℕ) → (k ≡ mother → ⊥) → places_out dim (k + 1) mother label ≡ places_out dim k mother label ++ edge dim mother label k ∷ []
out_push dim k mother label n =
    ap (map (λ daughter. edge dim mother label daughter))
    (others_push k mother ∙ ap (λ b. others k mother ++ cond (not b) (k ∷ []) []) (ne_eqb k mother n))
    ∙ map-append (λ daughter. edge dim mother label daughter) (others k mother) (k ∷ [])

flat_push : (f : ℕ → List Edge) (k : ℕ) → flat_map f (below (k + 1)) ≡ flat_map f (below k) ++ f k
flat_push f k = ap (flat_map f) (below_push k) ∙ flat_map-append f (below k) (k ∷ []) ∙ ap (λ z. flat_map f (below k) ++ z) (append-nil (f k))

dim_head : (n k : ℕ) (dims : List DimPlan) (plan : DimPlan) → k < length dims → plan ≡ get_or dims k plan → places_from k n (drop k dims) ≡ cond plan.graph (places_of k n (length plan.labels)) [] ++ places_from (k + 1) n (drop (k + 1) dims)
dim_head n k dims plan l i =
    let e : suc k ≡ k + 1 = omega arith in
    ap (places_from k n) (drop_more dims k plan l ∙ ap (λ z. z ∷ drop (k + 1) dims) (sym i))
    ∙ ap (λ j. cond plan.graph (places_of k n (length plan.labels)) [] ++ places_from j n (drop (k + 1) dims)) e

pub dims_push : (n k : ℕ) (dims : List DimPlan) (plan : DimPlan) (now later all : List Edge) → k < length dims → plan ≡ get_or dims k plan → plan.graph ≡ true → later ≡ now ++ places_of k n (length plan.labels) → now ++ places_from k n (drop k dims) ≡ all → later ++ places_from (k + 1) n (drop (k + 1) dims) ≡ all
dims_push n k dims plan now later all l i g e h =
    ap (λ z. z ++ places_from (k + 1) n (drop (k + 1) dims)) e ∙ append_assoc now (places_of k n (length plan.labels)) (places_from (k + 1) n (drop (k + 1) dims))
    ∙ ap (λ z. now ++ z) (sym (dim_head n k dims plan l i ∙ ap (λ b. cond b (places_of k n (length plan.labels)) [] ++ places_from (k + 1) n (drop (k + 1) dims)) g)) ∙ h

pub dims_skip : (n k : ℕ) (dims : List DimPlan) (plan : DimPlan) (now all : List Edge) → k < length dims → plan ≡ get_or dims k plan → plan.graph ≡ false → now ++ places_from k n (drop k dims) ≡ all → now ++ places_from (k + 1) n (drop (k + 1) dims) ≡ all
dims_skip n k dims plan now all l i g h =
    ap (λ z. now ++ z) (sym (dim_head n k dims plan l i ∙ ap (λ b. cond b (places_of k n (length plan.labels)) [] ++ places_from (k + 1) n (drop (k + 1) dims)) g)) ∙ h

pub dims_end : (n k : ℕ) (dims : List DimPlan) (now all : List Edge) → length dims ≤ k → now ++ places_from k n (drop k dims) ≡ all → now ≡ all
dims_end n k dims now all l h = sym (ap (λ z. now ++ places_from k n z) (drop_all k dims l) ∙ append-nil now) ∙ h

pub labels_small : (dims : List DimPlan) (k : ℕ) (plan : DimPlan) → All IsDim dims → k < length dims → plan ≡ get_or dims k plan → length plan.labels ≤ 32
labels_small dims k plan a l i = subst (λ (z : DimPlan). length z.labels ≤ 32) (sym i) (All-get_or IsDim dims k plan l a).labels_most

flat_step : (f : ℕ → List Edge) (k : ℕ) (start now new : List Edge) → now ≡ start ++ flat_map f (below k) → new ≡ now ++ f k → new ≡ start ++ flat_map f (below (k + 1))
flat_step f k start now new e g = g ∙ ap (λ z. z ++ f k) e ∙ append_assoc start (flat_map f (below k)) (f k) ∙ ap (λ z. start ++ z) (sym (flat_push f k))

pub labels_step : (dim n mother k : ℕ) (start now new : List Edge) → now ≡ start ++ flat_map (λ (label : ℕ). places_out dim n mother label) (below k) → new ≡ now ++ places_out dim n mother k → new ≡ start ++ flat_map (λ (label : ℕ). places_out dim n mother label) (below (k + 1))
labels_step dim n mother k = flat_step (λ label. places_out dim n mother label) k

pub mothers_step : (dim n labels k : ℕ) (start now new : List Edge) → now ≡ start ++ flat_map (λ (mother : ℕ). flat_map (λ (label : ℕ). places_out dim n mother label) (below labels)) (below k) → new ≡ now ++ flat_map (λ (label : ℕ). places_out dim n k label) (below labels) → new ≡ start ++ flat_map (λ (mother : ℕ). flat_map (λ (label : ℕ). places_out dim n mother label) (below labels)) (below (k + 1))
mothers_step dim n labels k = flat_step (λ mother. flat_map (λ label. places_out dim n mother label) (below labels)) k

pub out_stays : (dim k mother label : ℕ) (start now : List Edge) → k ≡ mother → now ≡ start ++ places_out dim k mother label → now ≡ start ++ places_out dim (k + 1) mother label
out_stays dim k mother label start now e h = h ∙ ap (λ z. start ++ z) (sym (out_skip dim k mother label e))

pub out_grows : (dim k mother label : ℕ) (start now new : List Edge) → (k ≡ mother → ⊥) → now ≡ start ++ places_out dim k mother label → new ≡ now ++ edge dim mother label k ∷ [] → new ≡ start ++ places_out dim (k + 1) mother label
out_grows dim k mother label start now new n h g =
    g ∙ ap (λ z. z ++ edge dim mother label k ∷ []) h ∙ append_assoc start (places_out dim k mother label) (edge dim mother label k ∷ []) ∙ ap (λ z. start ++ z) (sym (out_push dim k mother label n))

pub has_places : (parts : Parts) → HasPlaces parts
has_places parts = record { order = places_before parts; exact = λ e. (is_place parts e, place_is parts e) }

-- each turn over dimensions
pub ruleset place_steps = (dims_push, dims_skip, dims_end, labels_small)
