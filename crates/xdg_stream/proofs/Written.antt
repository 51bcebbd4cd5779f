-- The vector of an analysis, put down one number after another.
use Rattle.std.proofs.Common.{◌≡◌, ℕ, ◌≤◌, ◌+◌, inl, inr, cond, List, [], ◌∷◌, ◌++◌, length, map, refl, ap, ap₂, sym, ◌∙◌, arith, subst, length-append, append_assoc}
use Rattle.std.specs.Prelude.{Contains}
use Rattle.std.specs.List.{AllByRecursion}
use Rattle.std.proofs.lemmas.List.Elements.{recursion_from_All}
use Rattle.xdg_base.specs.declared.ids.EntryNo.{EntryNo}
use Rattle.xdg_problem.specs.declared.analysis.Analysis.{Analysis}
use Rattle.xdg_problem.specs.declared.analysis.Edge.{Edge}
use Rattle.xdg_problem.specs.declared.parts.Parts.{Parts}
use Rattle.xdg_problem.specs.Analyses.{Before, IsAnalysis, IsPlace}
use Rattle.xdg_problem.specs.Places.{places}
use Rattle.xdg_problem.specs.Vectors.{place_among, entry_places, presence, shape, vector}
use Rattle.xdg_problem.proofs.Edges.{same_edge_itself, before_transitive, before_apart}
use Rattle.xdg_problem.proofs.EntryPlaces.{length_entry_places}
use Rattle.xdg_facts.proofs.InOrder.{Ordered}
use Rattle.xdg_facts.proofs.Each.{each_weaker, each_contained}
use Rattle.xdg_facts.proofs.Contained.{contains_cases}
use Rattle.xdg_problem.proofs.PlaceOrder.{places_ordered, place_is}
use Rattle.xdg_problem.proofs.Presence.{rise_ordered, present_head, absent_before, presence_skip}
use Rattle.xdg_problem.proofs.VectorFacts.{length_shape}
use Rattle.xdg_stream.specs.Vectored.{marks}
use Rattle.xdg_stream.proofs.Zipped.{Zips}
use Rattle.xdg_problem.proofs.Less.{narrow}

-- ---- the numbers of entries

places_none : (candidates : List (List EntryNo)) → entry_places candidates [] ≡ []
places_none [] = refl
places_none (c ∷ candidates) = refl

pub places_zip : Zips (List EntryNo) EntryNo ℕ (λ c e. place_among c e ∷ []) entry_places
places_zip = record { few = λ c e. omega arith; none = places_none; past = λ ys. refl; both = λ c candidates e ys. refl }

-- ---- the numbers of edge places

-- the marks of edges that stand at places are their presence there
pub marks_presence : (edge_places edges : List Edge) → Ordered Before edge_places → Ordered Before edges → AllByRecursion (Contains edge_places) edges → marks edge_places edges ≡ map (presence edges) edge_places
marks_presence [] edges o r a = refl
marks_presence (p ∷ more) [] o r a = ap (λ z. 1 ∷ z) (marks_presence more [] o.1 tt tt)
marks_presence (p ∷ more) (e ∷ edges) o r a = elim (contains_cases p more e a.0) [
  | inl s ↦ subst (λ z. marks (p ∷ more) (z ∷ edges) ≡ map (presence (z ∷ edges)) (p ∷ more)) s
      (let b : AllByRecursion (Before p) edges = subst (λ z. AllByRecursion (Before z) edges) (sym s) r.0 in
      ap (λ c. cond c (0 ∷ marks more edges) (1 ∷ marks more (p ∷ edges))) (same_edge_itself p)
      ∙ ap₂ (λ n ns. n ∷ ns) (sym (present_head p edges)) (marks_presence more edges o.1 r.1 (narrow p more edges b a.1) ∙ sym (presence_skip p edges more o.0)))
  | inr c ↦
      let b : Before p e = each_contained (Before p) more e o.0 c in
      let bs : AllByRecursion (Before p) (e ∷ edges) = (b, each_weaker (Before e) (Before p) edges (λ f k. before_transitive p e f b k) r.0) in
      ap (λ q. cond q (0 ∷ marks more edges) (1 ∷ marks more (e ∷ edges))) (before_apart p e b)
      ∙ ap₂ (λ n ns. n ∷ ns) (sym (ap (λ q. cond q 0 1) (absent_before p (e ∷ edges) bs))) (marks_presence more (e ∷ edges) o.1 r (narrow p more (e ∷ edges) bs a))
]

-- the edges of an analysis stand at the places
pub analysis_marks : (parts : Parts) (a : Analysis) → IsAnalysis parts a → marks (places parts) a.edges ≡ map (presence a.edges) (places parts)
analysis_marks parts a is = marks_presence (places parts) a.edges (places_ordered parts) (rise_ordered a.edges is.rise) (each_weaker (IsPlace parts) (λ e. Contains (places parts) e) a.edges (place_is parts) (recursion_from_All (IsPlace parts) a.edges is.places))

-- the entries, the attributes and the edges, one behind another
pub vector_whole : (parts : Parts) (a : Analysis) (none entries attrs all : List ℕ) → IsAnalysis parts a → none ≡ [] → entries ≡ none ++ entry_places parts.candidates a.entries → attrs ≡ entries ++ a.attrs → all ≡ attrs ++ marks (places parts) a.edges → all ≡ vector parts a
vector_whole parts a none entries attrs all is e p q r =
    let front : entries ≡ entry_places parts.candidates a.entries = p ∙ ap (λ z. z ++ entry_places parts.candidates a.entries) e in
    r ∙ ap (λ z. attrs ++ z) (analysis_marks parts a is) ∙ ap (λ z. z ++ map (presence a.edges) (places parts)) (q ∙ ap (λ z. z ++ a.attrs) front)
    ∙ append_assoc (entry_places parts.candidates a.entries) a.attrs (map (presence a.edges) (places parts))

-- how much room the entries and the attributes leave
pub rooms : (parts : Parts) (a : Analysis) (none entries attrs : List ℕ) → IsAnalysis parts a → none ≡ [] → entries ≡ none ++ entry_places parts.candidates a.entries → attrs ≡ entries ++ a.attrs → (length entries + length a.attrs ≤ length (shape parts)) × (length attrs + length (places parts) ≤ length (shape parts))
rooms parts a none entries attrs is e p q =
    let front = ap length p ∙ length-append none (entry_places parts.candidates a.entries) in
    let nothing = ap length e in
    let count = length_entry_places parts.candidates a.entries is.entries in
    let more = ap length q ∙ length-append entries a.attrs in
    let values = is.attr_count in
    let all = length_shape parts in
    (omega (arith, front, nothing, count, values, all), omega (arith, front, nothing, count, more, values, all))
