-- The analysis of a whole vector is that of whatever continues it.
use Rattle.std.proofs.Common.{◌≡◌, ℕ, ◌≤◌, ◌-◌, cond, List, [], ◌∷◌, ◌++◌, length, take, drop, refl, ap, ◌∙◌, arith, length-drop}
use Rattle.std.specs.Prelude.{◌==◌, slice_index_or}
use Rattle.std.proofs.lemmas.List.{take-append-le}
use Rattle.xdg_base.specs.declared.ids.EntryNo.{EntryNo}
use Rattle.xdg_problem.specs.declared.analysis.Edge.{Edge}
use Rattle.xdg_problem.specs.declared.parts.Parts.{Parts}
use Rattle.xdg_problem.specs.Places.{nodes, places}
use Rattle.xdg_problem.specs.Vectors.{attr_sizes, shape, first_place, entries_at, edges_in, chosen, analysis_of}
use Rattle.xdg_problem.proofs.VectorFacts.{length_shape}
use Rattle.xdg_facts.proofs.Fronts.{drop_joined}

-- entries that stand in a prefix are the same in whatever continues it
pub entries_same : (candidates : List (List EntryNo)) (p t : List ℕ) → length candidates ≤ length p → entries_at candidates (p ++ t) ≡ entries_at candidates p
entries_same [] p t long = refl
entries_same (one ∷ more) [] t long = absurd (omega (arith, long))
entries_same (one ∷ more) (x ∷ p) t long = ap (λ es. slice_index_or one x (record { 0 = 0 }) ∷ es) (entries_same more p t (omega (arith, long)))

pub chosen_whole : (edges : List Edge) (p t : List ℕ) → length edges ≤ length p → chosen edges (p ++ t) ≡ chosen edges p
chosen_whole [] p t long = refl
chosen_whole (e ∷ edges) [] t long = absurd (omega (arith, long))
chosen_whole (e ∷ edges) (x ∷ p) t long = ap (λ es. cond (x == 0) (e ∷ es) es) (chosen_whole edges p t (omega (arith, long)))

-- what stands behind all decisions doesn't count
pub analysis_same : (parts : Parts) (p t : List ℕ) → length (shape parts) ≤ length p → analysis_of parts (p ++ t) ≡ analysis_of parts p
analysis_same parts p t long =
    let c = length parts.candidates in
    let m = length (attr_sizes (nodes parts) parts.dims) in
    let f = first_place parts in
    let all = length_shape parts in
    let entries = entries_same parts.candidates p t (omega (arith, long, all)) in
    let attrs : take m (drop c (p ++ t)) ≡ take m (drop c p) = ap (take m) (drop_joined c p t) ∙ take-append-le m (drop c p) (drop (c - length p) t) (omega (arith, long, all, length-drop c p)) in
    let edges : edges_in parts (p ++ t) ≡ edges_in parts p = ap (chosen (places parts)) (drop_joined f p t) ∙ chosen_whole (places parts) (drop f p) (drop (f - length p) t) (omega (arith, long, all, length-drop f p)) in
    ap (λ es. record { entries = es; attrs = take m (drop c (p ++ t)); edges = edges_in parts (p ++ t) }) entries
    ∙ (ap (λ vs. record { entries = entries_at parts.candidates p; attrs = vs; edges = edges_in parts (p ++ t) }) attrs
    ∙ ap (λ es. record { entries = entries_at parts.candidates p; attrs = take m (drop c p); edges = es }) edges)
