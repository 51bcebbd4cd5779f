-- Runs of edges that are absent: places that follow one another in a row in which no edge may be.
use Rattle.std.proofs.Common.{◌≡◌, ℕ, zero, suc, ◌<◌, ◌≤◌, ◌+◌, ◌-◌, ◌⊎◌, inl, inr, Bool, List, ◌++◌, AllPairs, length, get_or, replicate, refl, ap, sym, ◌∙◌, arith, subst, length-append}
use Rattle.std.proofs.lemmas.Bool.{cases_eq}
use Rattle.std.proofs.lemmas.List.{length-replicate}
use Rattle.xdg_problem.specs.declared.analysis.Edge.{Edge}
use Rattle.xdg_problem.specs.declared.parts.Parts.{Parts}
use Rattle.xdg_problem.specs.Analyses.{Before}
use Rattle.xdg_problem.specs.Boxes.{IsBox, edge_decision}
use Rattle.xdg_problem.specs.Places.{edge, places}
use Rattle.xdg_problem.specs.Vectors.{first_place, shape}
use Rattle.xdg_stream.specs.Rows.{IsAbsent, IsOf, Reads}
use Rattle.xdg_stream.specs.Runs.{Adds, AreAlone, IsAlone}
use Rattle.xdg_stream.specs.declared.row.Row.{Row}
use Rattle.xdg_stream.proofs.Finding.{adds_both}
use Rattle.xdg_stream.proofs.Named.{place_decision, place_there}
use Rattle.xdg_stream.proofs.Reading.{says_alone}
use Rattle.xdg_facts.proofs.Lists.{each_mark}

-- ---- what stands between two edges of a row is in it

-- of what is ordered by a number first, what stands between two with one number has that number, and stands between them by the rest
between_first : {P Q : Type 0} (a x b : ℕ) → a ≡ b → (a < x) ⊎ ((a ≡ x) × P) → (x < b) ⊎ ((x ≡ b) × Q) → (a ≡ x) × P × Q
between_first a x b same (inr (e, p)) (inr (f, q)) = (e, p, q)
between_first a x b same (inr (e, p)) (inl more) = absurd (omega (arith, same, e, more))
between_first a x b same (inl less) (inr (f, q)) = absurd (omega (arith, same, less, f))
between_first a x b same (inl less) (inl more) = absurd (omega (arith, same, less, more))

between : (row : Row) (a x b : Edge) → IsOf row a → IsOf row b → Before a x → Before x b → IsOf row x
between row a x b from to low high =
    let dim = between_first a.dim.0 x.dim.0 b.dim.0 (sym from.dim ∙ to.dim) low high in
    let mother = between_first a.mother.0 x.mother.0 b.mother.0 (sym from.mother ∙ to.mother) dim.1 dim.2 in
    let label = between_first a.label.0 x.label.0 b.label.0 (sym from.label ∙ to.label) mother.1 mother.2 in
    record { dim = from.dim ∙ dim.0; mother = from.mother ∙ mother.0; label = from.label ∙ label.0 }

-- places from one of a row to another of it are in the row
pub run_of : (row : Row) (edges : List Edge) (place last : ℕ) (d : Edge) → AllPairs Before edges → last < length edges → IsOf row (get_or edges place d) → IsOf row (get_or edges last d) → (k : ℕ) → place ≤ k → k ≤ last → IsOf row (get_or edges k d)
run_of row edges place last d ordered within from to k low high = elim (cases_eq place k) [
  | inl e ↦ subst (λ i. IsOf row (get_or edges i d)) e from
  | inr n ↦ elim (cases_eq k last) [
    | inl e ↦ subst (λ i. IsOf row (get_or edges i d)) (sym e) to
    | inr m ↦ between row (get_or edges place d) (get_or edges k d) (get_or edges last d) from to (ordered place k d (omega (arith, n, low)) (omega (arith, high, within))) (ordered k last d (omega (arith, m, high)) within)
  ]
]

-- ---- what is added for them

are_absent : (box : List (List Bool)) (d n : ℕ) → ((k : ℕ) → k < n → IsAlone box (d + k) 1) → AreAlone box d (replicate n 1)
are_absent box d zero each = tt
are_absent box d (suc n) each = (
  (let e : d + 0 ≡ d = omega arith in subst (λ i. IsAlone box i 1) e (each 0 (omega arith))),
  are_absent box (d + 1) n (λ k l. let e : d + suc k ≡ (d + 1) + k = omega arith in subst (λ i. IsAlone box i 1) e (each (suc k) (omega (arith, l)))),
)

pub absent_alone : (parts : Parts) (box : List (List Bool)) (row : Row) (edges : List Edge) (first place count : ℕ) → IsBox (shape parts) box → edges ≡ places parts → first ≡ first_place parts → Reads parts box row → place + count ≤ length edges → ((k : ℕ) (d : Edge) → place ≤ k → k < place + count → IsAbsent row (get_or edges k d)) → AreAlone box (first + place) (replicate count 1)
absent_alone parts box row edges first place count is_box same is_first reads within absent = are_absent box (first + place) count (λ k l.
    let none : Edge = edge 0 0 0 0 in
    let at : ℕ = place + k in
    let e : Edge = get_or edges at none in
    let here : at < length edges = omega (arith, l, within) in
    let gone = absent at none (omega arith) (omega (arith, l)) in
    let is = place_there parts edges none at same here in
    let decision : edge_decision parts e ≡ first + at = place_decision parts edges e none first at same is_first here refl in
    let sum : first + at ≡ (first + place) + k = omega arith in
    subst (λ i. IsAlone box i 1) (decision ∙ sum) (says_alone parts box row e 1 is_box is reads gone.0 (inr (refl, gone.1))))

pub adds_absent : (box : List (List Bool)) (mark : ℕ) (marks numbers marks' numbers' marks'' numbers'' : List ℕ) (most n count at : ℕ) → Adds box mark marks numbers marks' numbers' most n → count ≤ most - n → at ≡ length numbers' → AreAlone box at (replicate count 1) → marks'' ≡ marks' ++ replicate count mark → numbers'' ≡ numbers' ++ replicate count 1 → Adds box mark marks numbers marks'' numbers'' most (n + count)
adds_absent box mark marks numbers marks' numbers' marks'' numbers'' most n count at adds within here alone marks_are numbers_are =
    let more : Adds box mark marks' numbers' marks'' numbers'' (most - n) count = record {
      added = replicate count 1;
      numbers_are = numbers_are;
      marks_are = marks_are ∙ ap (λ z. marks' ++ z) (sym (each_mark mark count));
      count = length-replicate count 1;
      within = within;
      alone = subst (λ i. AreAlone box i (replicate count 1)) here alone;
    } in
    adds_both box mark marks numbers marks' numbers' marks'' numbers'' most n count adds more

pub absent_longer : (numbers more : List ℕ) (count : ℕ) → more ≡ numbers ++ replicate count 1 → length more ≡ length numbers + count
absent_longer numbers more count is = (let a = ap length is in let b = length-append numbers (replicate count 1) in let c = length-replicate {A = ℕ} count 1 in omega (arith, a, b, c))
