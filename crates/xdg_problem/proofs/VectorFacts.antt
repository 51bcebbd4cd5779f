-- An analysis and its vector: each gives the other back.
use Rattle.std.proofs.Common.{◌≡◌, ℕ, ◌≤◌, ◌+◌, List, ◌++◌, length, take, drop, ap, ap₂, sym, ◌∙◌, arith, subst, map, length-append, length-drop}
use Rattle.std.specs.Prelude.{Contains}
use Rattle.std.specs.List.{AllByRecursion}
use Rattle.std.proofs.lemmas.List.{length-map, take-append-drop, drop-drop, take_at, drop_at, length-take-le}
use Rattle.std.proofs.lemmas.List.Elements.{All-from_recursion, recursion_from_All}
use Rattle.xdg_base.specs.declared.ids.EntryNo.{EntryNo}
use Rattle.xdg_facts.specs.Fits.{Fits}
use Rattle.xdg_problem.specs.declared.analysis.Edge.{Edge}
use Rattle.xdg_problem.specs.declared.analysis.Analysis.{Analysis}
use Rattle.xdg_problem.specs.declared.parts.Parts.{Parts}
use Rattle.xdg_problem.specs.Places.{nodes, places}
use Rattle.xdg_problem.specs.Vectors.{attr_sizes, shape, first_place, entry_places, entries_at, presence, chosen, edges_in, vector, analysis_of}
use Rattle.xdg_problem.specs.Analyses.{IsPlace, IsAnalysis}
use Rattle.xdg_problem.specs.Problems.{IsProblem, AreCandidates}
use Rattle.xdg_facts.proofs.Each.{each_weaker}
use Rattle.xdg_problem.proofs.PlaceOrder.{places_ordered, each_is_place, place_is}
use Rattle.xdg_problem.proofs.EntryPlaces.{entries_at_back, entries_at_are, entry_places_fit, length_entry_places, entry_places_back}
use Rattle.xdg_problem.proofs.Presence.{rise_ordered, ordered_rise, chosen_each, chosen_ordered, presence_fits, presence_back, chosen_back}
use Rattle.xdg_facts.proofs.Fitting.{fits_after, fits_before, fits_both}

-- how a shape falls into parts

abbrev sizes : Parts → List ℕ
sizes parts = attr_sizes (nodes parts) parts.dims

abbrev edge_sizes : Parts → List ℕ
edge_sizes parts = map (λ (place : Edge). 2) (places parts)

pub length_shape : (parts : Parts) → length (shape parts) ≡ length parts.candidates + (length (sizes parts) + length (places parts))
length_shape parts =
    length-append (map length parts.candidates) (sizes parts ++ edge_sizes parts)
    ∙ ap₂ (λ i j. i + j) (length-map parts.candidates length) (length-append (sizes parts) (edge_sizes parts) ∙ ap (λ i. length (sizes parts) + i) (length-map (places parts) (λ (place : Edge). 2)))

each_candidates : (parts : Parts) → IsProblem parts → AllByRecursion AreCandidates parts.candidates
each_candidates parts p = recursion_from_All AreCandidates parts.candidates p.candidates

-- the entries of a prefix that decides all of them
pub entries_back : (parts : Parts) (x : List ℕ) → IsProblem parts → Fits (shape parts) x → length parts.candidates ≤ length x → entry_places parts.candidates (entries_at parts.candidates x) ≡ take (length parts.candidates) x
entries_back parts x p f l = entries_at_back parts.candidates (sizes parts ++ edge_sizes parts) x (each_candidates parts p) f l

after_entries : (parts : Parts) (x : List ℕ) → Fits (shape parts) x → Fits (sizes parts ++ edge_sizes parts) (drop (length parts.candidates) x)
after_entries parts x f = subst (λ i. Fits (sizes parts ++ edge_sizes parts) (drop i x)) (length-map parts.candidates length) (fits_after (map length parts.candidates) (sizes parts ++ edge_sizes parts) x f)

after_attrs : (parts : Parts) (x : List ℕ) → Fits (shape parts) x → Fits (edge_sizes parts) (drop (first_place parts) x)
after_attrs parts x f = subst (λ y. Fits (edge_sizes parts) y) (drop-drop (length (sizes parts)) (length parts.candidates) x) (fits_after (sizes parts) (edge_sizes parts) (drop (length parts.candidates) x) (after_entries parts x f))

-- a whole vector stands for an analysis
pub analysis_fits : (parts : Parts) (x : List ℕ) → IsProblem parts → Fits (shape parts) x → length x ≡ length (shape parts) → IsAnalysis parts (analysis_of parts x)
analysis_fits parts x p f l =
    let s = length_shape parts in
    let k = length-drop (length parts.candidates) x in
    record {
      entries = entries_at_are parts.candidates (sizes parts ++ edge_sizes parts) x f (omega (arith, s));
      attr_count = length-take-le (length (sizes parts)) (drop (length parts.candidates) x) (omega (arith, s, k));
      attrs = fits_before (sizes parts) (edge_sizes parts) (drop (length parts.candidates) x) (after_entries parts x f);
      places = All-from_recursion (IsPlace parts) (edges_in parts x) (chosen_each (IsPlace parts) (places parts) (drop (first_place parts) x) (each_is_place parts));
      rise = ordered_rise (edges_in parts x) (chosen_ordered (places parts) (drop (first_place parts) x) (places_ordered parts));
    }

-- a whole vector is the vector of the analysis that it stands for
pub vector_analysis : (parts : Parts) (x : List ℕ) → IsProblem parts → Fits (shape parts) x → length x ≡ length (shape parts) → vector parts (analysis_of parts x) ≡ x
vector_analysis parts x p f l =
    let s = length_shape parts in
    let n = length parts.candidates in
    let m = length (sizes parts) in
    let k = length-drop (n + m) x in
    let e = entries_back parts x p f (omega (arith, s)) in
    let b = presence_back (places parts) (drop (n + m) x) (places_ordered parts) (after_attrs parts x f) (omega (arith, s, k)) in
    ap₂ (λ u w. u ++ w) e (ap (λ w. take m (drop n x) ++ w) (b ∙ sym (drop-drop m n x)) ∙ take-append-drop m (drop n x)) ∙ take-append-drop n x

pub vector_fits : (parts : Parts) (a : Analysis) → IsProblem parts → IsAnalysis parts a → Fits (shape parts) (vector parts a)
vector_fits parts a p h =
    fits_both (map length parts.candidates) (sizes parts ++ edge_sizes parts) (entry_places parts.candidates a.entries) (a.attrs ++ map (presence a.edges) (places parts))
    (length_entry_places parts.candidates a.entries h.entries ∙ sym (length-map parts.candidates length))
    (entry_places_fit parts.candidates a.entries h.entries)
    (fits_both (sizes parts) (edge_sizes parts) a.attrs (map (presence a.edges) (places parts)) h.attr_count h.attrs (presence_fits a.edges (places parts)))

pub length_vector : (parts : Parts) (a : Analysis) → IsProblem parts → IsAnalysis parts a → length (vector parts a) ≡ length (shape parts)
length_vector parts a p h =
    length-append (entry_places parts.candidates a.entries) (a.attrs ++ map (presence a.edges) (places parts))
    ∙ ap₂ (λ i j. i + j) (length_entry_places parts.candidates a.entries h.entries)
    (length-append a.attrs (map (presence a.edges) (places parts)) ∙ ap₂ (λ i j. i + j) h.attr_count (length-map (places parts) (presence a.edges)))
    ∙ sym (length_shape parts)

-- the edges of an analysis stand at the places
pub edges_placed : (parts : Parts) (a : Analysis) → IsAnalysis parts a → AllByRecursion (Contains (places parts)) a.edges
edges_placed parts a h = each_weaker (IsPlace parts) (λ e. Contains (places parts) e) a.edges (place_is parts) (recursion_from_All (IsPlace parts) a.edges h.places)

-- an analysis is the one that its vector stands for
pub analysis_vector : (parts : Parts) (a : Analysis) → IsProblem parts → IsAnalysis parts a → analysis_of parts (vector parts a) ≡ a
analysis_vector parts a p h =
    let es = entry_places parts.candidates a.entries in
    let ps = map (presence a.edges) (places parts) in
    let n = length parts.candidates in
    let m = length (sizes parts) in
    let d : drop n (es ++ (a.attrs ++ ps)) ≡ a.attrs ++ ps = drop_at es (a.attrs ++ ps) n (length_entry_places parts.candidates a.entries h.entries) in
    let q : drop (n + m) (es ++ (a.attrs ++ ps)) ≡ ps = sym (drop-drop m n (es ++ (a.attrs ++ ps))) ∙ ap (drop m) d ∙ drop_at a.attrs ps m h.attr_count in
    let g : edges_in parts (vector parts a) ≡ a.edges = ap (chosen (places parts)) q ∙ chosen_back (places parts) a.edges (places_ordered parts) (rise_ordered a.edges h.rise) (edges_placed parts a h) in
    let t : take m (drop n (vector parts a)) ≡ a.attrs = ap (take m) d ∙ take_at a.attrs ps m h.attr_count in
    let e : entries_at parts.candidates (vector parts a) ≡ a.entries = entry_places_back parts.candidates a.entries (a.attrs ++ ps) h.entries in
    ap (λ (z : List EntryNo). made z (take m (drop n (vector parts a))) (edges_in parts (vector parts a))) e
    ∙ ap (λ (z : List ℕ). made a.entries z (edges_in parts (vector parts a))) t
    ∙ ap (λ (z : List Edge). made a.entries a.attrs z) g where
      made : List EntryNo → List ℕ → List Edge → Analysis
      made entries attrs edges = record { entries = entries; attrs = attrs; edges = edges }
