-- What a compiled sentence reads of an analysis is what the grammar says of it: its edges on a dimension, the entries of its nodes
-- and the values of its attributes.
use Rattle.std.proofs.Common.{◌≡◌, ℕ, zero, suc, ◌<◌, Bool, true, false, cond, List, [], ◌∷◌, length, get_or, refl, sym, ap, ◌∙◌, subst, arith}
use Rattle.std.specs.Prelude.{◌==◌}
use Rattle.std.specs.List.{AllZip}
use Rattle.std.proofs.lemmas.Bool.{eq-eqb, ne_eqb}
use Rattle.std.proofs.lemmas.Option.{get_or_from_slice_get}
use Rattle.xdg_base.specs.declared.ids.EntryNo.{EntryNo}
use Rattle.xdg_packed.specs.Lexicon.{Record, Entry}
use Rattle.xdg_problem.specs.declared.analysis.Analysis.{Analysis}
use Rattle.xdg_problem.specs.declared.parts.SentenceWord.{SentenceWord}
use Rattle.xdg_types.specs.Table.{ArePlaces}
use Rattle.xdg_build.specs.Grammars.{Grammar, place_of_used}
use Rattle.xdg_build.proofs.Dimensions.{used_at}
use Rattle.xdg_build.specs.Readings.{record_for}
use Rattle.xdg_build.specs.Solutions.{IsEntryOf, IsAnalysisOf}
use Rattle.xdg_facts.specs.Membership.{In}
use Rattle.xdg_facts.proofs.In.{in_get}

-- ---- used dimensions

-- a dimension stands at one place among the used ones
pub place_is : (bound : ℕ) (used : List ℕ) (i k : ℕ) → ArePlaces bound used → i < length used → get_or used i 0 ≡ k → place_of_used used k ≡ i
place_is bound [] i k h within is = absurd (omega (arith, within))
place_is bound (j ∷ used) zero k h within is = ap (λ b. cond b 0 (suc (place_of_used used k))) (eq-eqb j k is)
place_is bound (j ∷ used) (suc i) k h within is =
    let inside : i < length used = omega (arith, within) in
    ap (λ b. cond b 0 (suc (place_of_used used k))) (ne_eqb j k (λ e. h.0.1 (subst (In used) (is ∙ sym e) (in_get used i 0 inside)))) ∙ ap suc (place_is bound used i k h.1 inside is)

pub used_is : (used : List ℕ) (k : ℕ) → In used k → get_or used (place_of_used used k) 0 ≡ k
used_is used k has = get_or_from_slice_get used (place_of_used used k) k 0 (used_at used k has)

-- ---- records

record_step : (b : Bool) (used : List ℕ) (r : Record) (entry : Entry) (k : ℕ) → record_for used entry k ≡ get_or entry (place_of_used used k) [] → cond b r (record_for used entry k) ≡ get_or (r ∷ entry) (cond b 0 (suc (place_of_used used k))) []
record_step true used r entry k later = refl
record_step false used r entry k later = later

pub record_same : (used : List ℕ) (entry : Entry) (k : ℕ) → length entry ≡ length used → record_for used entry k ≡ get_or entry (place_of_used used k) []
record_same [] [] k long = refl
record_same [] (r ∷ entry) k long = absurd (omega (arith, long))
record_same (j ∷ used) [] k long = absurd (omega (arith, long))
record_same (j ∷ used) (r ∷ entry) k long = record_step (j == k) used r entry k (record_same used entry k (omega (arith, long)))

-- ---- the entries of an analysis

module _ (g : Grammar) (words : List SentenceWord) (a : Analysis) (is : IsAnalysisOf g words a) where
  entries_within : (ws : List SentenceWord) (es : List EntryNo) (v : ℕ) → AllZip (IsEntryOf g) ws es → v < length ws → (v < length es) × ((get_or es v (record { 0 = 0 })).0 < length g.lexicon.entries)
  entries_within [] es v zip node = absurd (omega (arith, node))
  entries_within (word ∷ ws) [] v zip node = absurd zip
  entries_within (word ∷ ws) (e ∷ es) zero zip node = (omega arith, zip.0.0)
  entries_within (word ∷ ws) (e ∷ es) (suc v) zip node = let more = entries_within ws es v zip.1 (omega (arith, node)) in (omega (arith, more.0), more.1)

  pub entry_within : (v : ℕ) → v < length words → (v < length a.entries) × ((get_or a.entries v (record { 0 = 0 })).0 < length g.lexicon.entries)
  entry_within v node = entries_within words a.entries v is.entries node
