-- What belongs to a node's entry, whatever the candidates are among which the entry stands.
use Rattle.std.proofs.Common.{◌≡◌, ℕ, ◌<◌, zero, suc, Bool, true, false, List, [], ◌∷◌, length, map, cond, refl, sym, ap, ◌∙◌, arith}
use Rattle.std.specs.Prelude.{◌==◌, Contains, slice_index, slice_index_or}
use Rattle.std.proofs.lemmas.Bool.{eqb-true, eq-eqb}
use Rattle.xdg_base.specs.declared.ids.EntryNo.{EntryNo}
use Rattle.xdg_problem.specs.Analyses.{HasCandidates}
use Rattle.xdg_problem.specs.Vectors.{place_among, entry_places}
use Rattle.xdg_problem.proofs.EntryPlaces.{entry_equal}

contains_later : (first : EntryNo) (more : List EntryNo) (entry : EntryNo) → (first.0 == entry.0) ≡ false → (k : ℕ) → k < suc (length more) → slice_index_or (first ∷ more) k entry ≡ entry → Contains more entry
contains_later first more entry other zero within is = let same : true ≡ false = sym (eq-eqb first.0 entry.0 (ap (λ (n : EntryNo). n.0) is)) ∙ other in cc
contains_later first more entry other (suc k) within is = (k, omega (arith, within), is)

module _ {A : Type 0} (F : EntryNo → List A) where
  -- at the place of an entry among candidates stands what belongs to the entry
  pub at_its_place : (candidates : List EntryNo) (entry : EntryNo) → Contains candidates entry → slice_index_or (map F candidates) (place_among candidates entry) [] ≡ F entry
  at_its_place [] entry h = let within : h.0 < 0 = h.1 in absurd (omega arith)
  at_its_place (first ∷ more) entry h = by (first.0 == entry.0) refl (λ e. at_its_place more entry (contains_later first more entry e h.0 h.1 h.2))
    where
      by : (b : Bool) → (first.0 == entry.0) ≡ b → ((first.0 == entry.0) ≡ false → slice_index_or (map F more) (place_among more entry) [] ≡ F entry) → slice_index_or (F first ∷ map F more) (cond b 0 (suc (place_among more entry))) [] ≡ F entry
      by true e later = ap F (entry_equal first entry (eqb-true first.0 entry.0 e))
      by false e later = later e

  pub of_entries : (candidates : List (List EntryNo)) (entries : List EntryNo) → HasCandidates candidates entries → (u : ℕ)
      → slice_index_or (slice_index_or (map (map F) candidates) u []) (slice_index (entry_places candidates entries) u) [] ≡ slice_index_or (map F entries) u []
  of_entries [] [] h u = refl
  of_entries (numbers ∷ more) (entry ∷ entries) h zero = at_its_place numbers entry h.0
  of_entries (numbers ∷ more) (entry ∷ entries) h (suc u) = of_entries more entries h.1 u
  of_entries _ _ h u = absurd h
