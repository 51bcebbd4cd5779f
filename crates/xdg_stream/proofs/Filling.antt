-- The entries and edges of a vector, put down one after another.
use Rattle.std.proofs.Common.{◌≡◌, ℕ, ◌≤◌, ◌+◌, Bool, true, false, cond, List, [], ◌∷◌, ◌++◌, length, refl, ap, sym, ◌∙◌, arith, append-nil}
use Rattle.std.specs.Prelude.{slice_index_or, ◌==◌}
use Rattle.std.proofs.Math.Seq.{drop-nil}
use Rattle.std.proofs.lemmas.Bool.{eq-eqb, ne_eqb}
use Rattle.xdg_base.specs.declared.ids.EntryNo.{EntryNo}
use Rattle.xdg_problem.specs.declared.analysis.Edge.{Edge}
use Rattle.xdg_problem.specs.declared.parts.Parts.{Parts}
use Rattle.xdg_problem.specs.Places.{places}
use Rattle.xdg_problem.specs.Vectors.{entries_at, chosen, edges_in, first_place}
use Rattle.xdg_stream.proofs.Zipped.{Zips}

-- ---- entries of a vector

pub entries_none : (candidates : List (List EntryNo)) → entries_at candidates [] ≡ []
entries_none [] = refl
entries_none (c ∷ candidates) = refl

pub entries_zip : Zips (List EntryNo) ℕ EntryNo (λ c x. slice_index_or c x (record { 0 = 0 }) ∷ []) entries_at
entries_zip = record { few = λ c x. omega arith; none = entries_none; past = λ ys. refl; both = λ c candidates x ys. refl }

-- ---- edges of a vector

pub chosen_none : (edges : List Edge) → chosen edges [] ≡ []
chosen_none [] = refl
chosen_none (e ∷ edges) = refl

pub no_edges : (parts : Parts) → edges_in parts [] ≡ []
no_edges parts = ap (chosen (places parts)) (drop-nil (first_place parts)) ∙ chosen_none (places parts)

abbrev pub one_if : Bool → Edge → List Edge
one_if wanted e = cond wanted (e ∷ []) []

one_few : (wanted : Bool) (e : Edge) → length (one_if wanted e) ≤ 1
one_few true e = omega arith
one_few false e = omega arith

one_more : (wanted : Bool) (e : Edge) (rest : List Edge) → cond wanted (e ∷ rest) rest ≡ one_if wanted e ++ rest
one_more true e rest = refl
one_more false e rest = refl

pub edges_zip : Zips Edge ℕ Edge (λ e x. one_if (x == 0) e) chosen
edges_zip = record { few = λ e x. one_few (x == 0) e; none = chosen_none; past = λ ys. refl; both = λ e edges x numbers. one_more (x == 0) e (chosen edges numbers) }

-- an edge whose number is 0 is one item, and any other none
pub item_there : (items : List Edge) (e : Edge) (x : ℕ) → x ≡ 0 → items ++ e ∷ [] ≡ items ++ one_if (x == 0) e
item_there items e x is = sym (ap (λ wanted. items ++ one_if wanted e) (eq-eqb x 0 is))

pub no_item : (items : List Edge) (e : Edge) (x : ℕ) → (x ≡ 0 → ⊥) → items ≡ items ++ one_if (x == 0) e
no_item items e x other = sym (ap (λ wanted. items ++ one_if wanted e) (ne_eqb x 0 other) ∙ append-nil items)
