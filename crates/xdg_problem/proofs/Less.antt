-- The order of analyses, part by part.
use Rattle.std.proofs.Common.{◌≡◌, ℕ, ◌<◌, ◌⊎◌, inl, inr, List, [], ◌∷◌, ◌++◌, get_or, refl, ap, sym, ◌∙◌, arith, subst, map, cond, rules}
use Rattle.std.specs.Prelude.{Contains, ◌↔◌}
use Rattle.std.specs.List.{AllByRecursion}
use Rattle.std.proofs.lemmas.Bool.{cases_order}
use Rattle.std.proofs.lemmas.List.Elements.{recursion_from_All}
use Rattle.xdg_base.specs.declared.ids.EntryNo.{EntryNo}
use Rattle.xdg_facts.specs.Order.{Less}
use Rattle.xdg_facts.proofs.Ordered.{less_irreflexive, not_less, less_behind, less_front}
use Rattle.xdg_problem.specs.declared.analysis.Edge.{Edge}
use Rattle.xdg_problem.specs.declared.analysis.Analysis.{Analysis}
use Rattle.xdg_problem.specs.declared.parts.Parts.{Parts}
use Rattle.xdg_problem.specs.Places.{places}
use Rattle.xdg_problem.specs.EntryNumbers.{entry_numbers}
use Rattle.xdg_problem.specs.Vectors.{place_among, entry_places, presence, vector}
use Rattle.xdg_problem.specs.Analyses.{HasCandidates, Before, IsAnalysis}
use Rattle.xdg_problem.specs.EdgeOrder.{EdgesLess}
use Rattle.xdg_problem.specs.Problems.{IsProblem, AreCandidates}
use Rattle.xdg_facts.proofs.InOrder.{Ordered, ordered_from_pairs, ordered_pairs}
use Rattle.xdg_facts.proofs.Contained.{contains_none}
use Rattle.xdg_problem.proofs.Edges.{before_irreflexive, before_transitive, before_total}
use Rattle.xdg_problem.proofs.EntryPlaces.{EntryBefore, entry_equal, entry_found, length_entry_places}
pub use Rattle.xdg_problem.proofs.Presence.{narrow}
use Rattle.xdg_problem.proofs.Presence.{rise_ordered, head_cases, present_head, absent_before, presence_skip}
use Rattle.xdg_problem.proofs.PlaceOrder.{places_ordered}
use Rattle.xdg_problem.proofs.VectorFacts.{edges_placed}

-- lists with a common front, and lists of which the fronts decide

-- entries

-- a place that isn't before another has no lesser entry
place_order : (candidates : List EntryNo) (a b : EntryNo) → Ordered EntryBefore candidates → Contains candidates a → Contains candidates b → a.0 < b.0 → place_among candidates a < place_among candidates b
place_order candidates a b o c d l =
    let i = place_among candidates a in
    let j = place_among candidates b in
    let first = entry_found candidates a a c in
    let other = entry_found candidates b a d in
    let number : ℕ → ℕ = λ k. (get_or candidates k a).0 in
    let one : number i ≡ a.0 = ap (λ (z : EntryNo). z.0) first.1 in
    let two : number j ≡ b.0 = ap (λ (z : EntryNo). z.0) other.1 in
    elim (cases_order i j) [
      | inl same ↦ absurd (let k = ap number same in omega (arith, k, one, two, l))
      | inr (inl less) ↦ less
      | inr (inr more) ↦ absurd (let less = ordered_pairs EntryBefore candidates o j i a more first.0 in omega (arith, less, one, two, l))
    ]

entries_order : (candidates : List (List EntryNo)) (a b : List EntryNo) → AllByRecursion AreCandidates candidates → HasCandidates candidates a → HasCandidates candidates b → Less (entry_numbers a) (entry_numbers b) → Less (entry_places candidates a) (entry_places candidates b)
entries_order (x ∷ xs) (e ∷ a) (f ∷ b) c h k (inl l) = inl (place_order x e f (ordered_from_pairs EntryBefore x c.0.rising) h.0 k.0 l)
entries_order (x ∷ xs) (e ∷ a) (f ∷ b) c h k (inr (s, l)) = inr (ap (place_among x) (entry_equal e f s), entries_order xs a b c.1 h.1 k.1 l)
entries_order candidates a b c h k l = absurd (search rules)

-- edges

edges_less_total : (a b : List Edge) → EdgesLess Before a b ⊎ ((a ≡ b) ⊎ EdgesLess Before b a)
edges_less_total [] [] = inr (inl refl)
edges_less_total [] (f ∷ b) = inr (inr tt)
edges_less_total (e ∷ a) [] = inl tt
edges_less_total (e ∷ a) (f ∷ b) = elim (before_total e f) [
  | inl l ↦ inl (inl l)
  | inr (inr l) ↦ inr (inr (inl l))
  | inr (inl s) ↦ elim (edges_less_total a b) [
    | inl l ↦ inl (inr (s, l))
    | inr (inl q) ↦ inr (inl (ap (λ z. z ∷ a) s ∙ ap (λ z. f ∷ z) q))
    | inr (inr l) ↦ inr (inr (inr (sym s, l)))
  ]
]

-- an edge behind p is no first edge of a list that comes before one that begins with p
not_first : (p : Edge) (a b : List Edge) → AllByRecursion (Before p) a → EdgesLess Before a (p ∷ b) → ⊥
not_first p [] b h l = l
not_first p (e ∷ a) b h (inl l) = before_irreflexive p (before_transitive p e p h.0 l)
not_first p (e ∷ a) b h (inr (s, l)) = before_irreflexive p (subst (λ z. Before p z) s h.0)

same_head : (p : Edge) (a b : List Edge) → EdgesLess Before (p ∷ a) (p ∷ b) → EdgesLess Before a b
same_head p a b (inl l) = absurd (before_irreflexive p l)
same_head p a b (inr (s, l)) = l

absent : (p : Edge) (edges : List Edge) → AllByRecursion (Before p) edges → presence edges p ≡ 1
absent p edges a = ap (λ z. cond z 0 1) (absent_before p edges a)

edges_order : (places a b : List Edge) → Ordered Before places → Ordered Before a → Ordered Before b → AllByRecursion (Contains places) a → AllByRecursion (Contains places) b → EdgesLess Before a b → Less (map (presence a) places) (map (presence b) places)
edges_order [] [] b o r s h k l = absurd l
edges_order [] (e ∷ a) b o r s h k l = absurd (contains_none e h.0)
edges_order (p ∷ places) a b o r s h k l = elim (head_cases p places a o r h) [
  | inl u ↦ elim (head_cases p places b o s k) [
    | inl w ↦
        subst (λ z. Less (map (presence z) (p ∷ places)) (map (presence b) (p ∷ places))) (sym u.is)
        (subst (λ z. Less (map (presence (p ∷ u.rest)) (p ∷ places)) (map (presence z) (p ∷ places))) (sym w.is)
        (let m : EdgesLess Before u.rest w.rest = same_head p u.rest w.rest (subst (λ z. EdgesLess Before (p ∷ u.rest) z) w.is (subst (λ z. EdgesLess Before z b) u.is l)) in
        inr (
          present_head p u.rest ∙ sym (present_head p w.rest),
          subst (λ z. Less z (map (presence (p ∷ w.rest)) places)) (sym (presence_skip p u.rest places o.0))
              (subst (λ z. Less (map (presence u.rest) places) z) (sym (presence_skip p w.rest places o.0))
              (edges_order places u.rest w.rest o.1 u.ordered w.ordered u.within w.within m)),
        )))
    | inr w ↦ inl (let i : presence a p ≡ 0 = ap (λ z. presence z p) u.is ∙ present_head p u.rest in let j = absent p b w.behind in omega (arith, i, j))
  ]
  | inr u ↦ elim (head_cases p places b o s k) [
    | inl w ↦ absurd (not_first p a w.rest u.behind (subst (λ z. EdgesLess Before a z) w.is l))
    | inr w ↦ inr (absent p a u.behind ∙ sym (absent p b w.behind), edges_order places a b o.1 r s u.within w.within l)
  ]
]

-- whole analyses

-- the entries decide
pub entries_first : (parts : Parts) (a b : Analysis) → IsProblem parts → IsAnalysis parts a → IsAnalysis parts b → Less (entry_numbers a.entries) (entry_numbers b.entries) → Less (vector parts a) (vector parts b)
entries_first parts a b p h k l =
    less_front (entry_places parts.candidates a.entries) (entry_places parts.candidates b.entries) (a.attrs ++ map (presence a.edges) (places parts)) (b.attrs ++ map (presence b.edges) (places parts))
    (length_entry_places parts.candidates a.entries h.entries ∙ sym (length_entry_places parts.candidates b.entries k.entries))
    (entries_order parts.candidates a.entries b.entries (recursion_from_All AreCandidates parts.candidates p.candidates) h.entries k.entries l)

-- the entries are the same, and the attributes decide
pub attrs_first : (parts : Parts) (a b : Analysis) → IsAnalysis parts a → IsAnalysis parts b → a.entries ≡ b.entries → Less a.attrs b.attrs → Less (vector parts a) (vector parts b)
attrs_first parts a b h k e l =
    subst (λ z. Less (entry_places parts.candidates a.entries ++ (a.attrs ++ map (presence a.edges) (places parts))) (entry_places parts.candidates z ++ (b.attrs ++ map (presence b.edges) (places parts)))) e
    (less_behind (entry_places parts.candidates a.entries) (a.attrs ++ map (presence a.edges) (places parts)) (b.attrs ++ map (presence b.edges) (places parts))
    (less_front a.attrs b.attrs (map (presence a.edges) (places parts)) (map (presence b.edges) (places parts)) (h.attr_count ∙ sym k.attr_count) l))

-- entries and attributes are the same, and the edges decide
pub edges_first : (parts : Parts) (a b : Analysis) → IsAnalysis parts a → IsAnalysis parts b → a.entries ≡ b.entries → a.attrs ≡ b.attrs → EdgesLess Before a.edges b.edges → Less (vector parts a) (vector parts b)
edges_first parts a b h k e t l =
    subst (λ z. Less (entry_places parts.candidates a.entries ++ (a.attrs ++ map (presence a.edges) (places parts))) (entry_places parts.candidates z ++ (b.attrs ++ map (presence b.edges) (places parts)))) e
    (less_behind (entry_places parts.candidates a.entries) (a.attrs ++ map (presence a.edges) (places parts)) (b.attrs ++ map (presence b.edges) (places parts))
    (subst (λ z. Less (a.attrs ++ map (presence a.edges) (places parts)) (z ++ map (presence b.edges) (places parts))) t
    (less_behind a.attrs (map (presence a.edges) (places parts)) (map (presence b.edges) (places parts))
    (edges_order (places parts) a.edges b.edges (places_ordered parts) (rise_ordered a.edges h.rise) (rise_ordered b.edges k.rise) (edges_placed parts a h) (edges_placed parts b k) l))))

same_vector : (parts : Parts) (a b : Analysis) → a.entries ≡ b.entries → a.attrs ≡ b.attrs → a.edges ≡ b.edges → vector parts a ≡ vector parts b
same_vector parts a b e t g =
    ap (λ z. entry_places parts.candidates z ++ (a.attrs ++ map (presence a.edges) (places parts))) e
    ∙ ap (λ z. entry_places parts.candidates b.entries ++ (z ++ map (presence a.edges) (places parts))) t
    ∙ ap (λ z. entry_places parts.candidates b.entries ++ (b.attrs ++ map (presence z) (places parts))) g

pub edges_exact : (parts : Parts) (a b : Analysis) → IsAnalysis parts a → IsAnalysis parts b → a.entries ≡ b.entries → a.attrs ≡ b.attrs → EdgesLess Before a.edges b.edges ↔ Less (vector parts a) (vector parts b)
edges_exact parts a b h k e t = (
  edges_first parts a b h k e t,
  λ l. elim (edges_less_total a.edges b.edges) [
    | inl m ↦ m
    | inr (inl s) ↦ absurd (less_irreflexive (vector parts b) (subst (λ z. Less z (vector parts b)) (same_vector parts a b e t s) l))
    | inr (inr m) ↦ absurd (not_less (vector parts a) (vector parts b) (inr l) (edges_first parts b a k h (sym e) (sym t) m))
  ],
)

pub not_entries : (parts : Parts) (a b : Analysis) → IsProblem parts → IsAnalysis parts a → IsAnalysis parts b → Less (entry_numbers b.entries) (entry_numbers a.entries) → Less (vector parts a) (vector parts b) → ⊥
not_entries parts a b p h k l m = not_less (vector parts a) (vector parts b) (inr m) (entries_first parts b a p k h l)

pub not_attrs : (parts : Parts) (a b : Analysis) → IsAnalysis parts a → IsAnalysis parts b → a.entries ≡ b.entries → Less b.attrs a.attrs → Less (vector parts a) (vector parts b) → ⊥
not_attrs parts a b h k e l m = not_less (vector parts a) (vector parts b) (inr m) (attrs_first parts b a k h (sym e) l)

-- by which part one analysis is less than another
pub ruleset less_steps = (entries_first, attrs_first, edges_exact, not_entries, not_attrs)
