-- Entries, and their places among the candidates.
use Rattle.std.proofs.Common.{◌≡◌, ℕ, ◌<◌, ◌≤◌, inl, inr, List, [], ◌∷◌, ◌++◌, length, get_or, take, refl, ap, ap₂, ◌∙◌, arith, zero, suc, map, cond}
use Rattle.std.specs.Prelude.{Contains}
use Rattle.std.specs.List.{AllByRecursion}
use Rattle.std.proofs.lemmas.Bool.{cases_eq, ne_eqb, eq-eqb}
use Rattle.std.proofs.lemmas.List.Elements.{Contains-get_or}
use Rattle.xdg_base.specs.declared.ids.EntryNo.{EntryNo}
use Rattle.xdg_facts.specs.Fits.{Fits}
use Rattle.xdg_problem.specs.Vectors.{place_among, entry_places, entries_at}
use Rattle.xdg_problem.specs.Analyses.{HasCandidates}
use Rattle.xdg_problem.specs.Problems.{AreCandidates}
use Rattle.xdg_facts.proofs.InOrder.{Ordered, ordered_from_pairs}
use Rattle.xdg_facts.proofs.Each.{each_at}
use Rattle.xdg_facts.proofs.Contained.{contains_cases, contains_none}

abbrev numbered : ℕ → EntryNo
numbered number = record { 0 = number }

pub entry_equal : (a b : EntryNo) → a.0 ≡ b.0 → a ≡ b
entry_equal a b e = ap numbered e

abbrev pub EntryBefore : EntryNo → EntryNo → Type 0
EntryBefore a b = a.0 < b.0

-- the place of a candidate is its number
pub place_back : (candidates : List EntryNo) (number : ℕ) (d : EntryNo) → Ordered EntryBefore candidates → number < length candidates → place_among candidates (get_or candidates number d) ≡ number
place_back [] number d o l = absurd (omega arith)
place_back (c ∷ cs) zero d o l = ap (λ b. cond b 0 (suc (place_among cs c))) (eq-eqb c.0 c.0 refl)
place_back (c ∷ cs) (suc k) d o l =
    let m : k < length cs = omega arith in
    let b : c.0 < (get_or cs k d).0 = each_at (EntryBefore c) cs k d m o.0 in
    ap (λ b. cond b 0 (suc (place_among cs (get_or cs k d)))) (ne_eqb c.0 (get_or cs k d).0 (λ e. omega (arith, b, e))) ∙ ap suc (place_back cs k d o.1 m)

-- a candidate stands at its place
pub entry_found : (candidates : List EntryNo) (e d : EntryNo) → Contains candidates e → (place_among candidates e < length candidates) × (get_or candidates (place_among candidates e) d ≡ e)
entry_found [] e d c = absurd (contains_none e c)
entry_found (x ∷ xs) e d c = elim (cases_eq x.0 e.0) [
  | inl s ↦ rw (eq-eqb x.0 e.0 s) (omega arith, entry_equal x e s)
  | inr n ↦ rw (ne_eqb x.0 e.0 n) (elim (contains_cases x xs e c) [
    | inl s ↦ absurd (n (ap (λ (z : EntryNo). z.0) s))
    | inr h ↦ (let r = entry_found xs e d h in ((let q = r.0 in omega (arith, q)), r.1))
  ])
]

pub place_within : (candidates : List EntryNo) (e : EntryNo) → Contains candidates e → place_among candidates e < length candidates
place_within candidates e c = (entry_found candidates e e c).0

pub entry_back : (candidates : List EntryNo) (e d : EntryNo) → Contains candidates e → get_or candidates (place_among candidates e) d ≡ e
entry_back candidates e d c = (entry_found candidates e d c).1

abbrev none : EntryNo
none = numbered 0

-- numbers that fit become candidates, which stand at these numbers
pub entries_at_back : (candidates : List (List EntryNo)) (rest x : List ℕ) → AllByRecursion AreCandidates candidates → Fits (map length candidates ++ rest) x → length candidates ≤ length x → entry_places candidates (entries_at candidates x) ≡ take (length candidates) x
entries_at_back [] rest x a f l = refl
entries_at_back (c ∷ cs) rest [] a f l = absurd (omega arith)
entries_at_back (c ∷ cs) rest (n ∷ ns) a f l = ap₂ (λ z zs. z ∷ zs) (place_back c n none (ordered_from_pairs EntryBefore c a.0.rising) f.0) (entries_at_back cs rest ns a.1 f.1 (omega arith))

pub entries_at_are : (candidates : List (List EntryNo)) (rest x : List ℕ) → Fits (map length candidates ++ rest) x → length candidates ≤ length x → HasCandidates candidates (entries_at candidates x)
entries_at_are [] rest x f l = tt
entries_at_are (c ∷ cs) rest [] f l = absurd (omega arith)
entries_at_are (c ∷ cs) rest (n ∷ ns) f l = (Contains-get_or c n none f.0, entries_at_are cs rest ns f.1 (omega arith))

pub entry_places_fit : (candidates : List (List EntryNo)) (entries : List EntryNo) → HasCandidates candidates entries → Fits (map length candidates) (entry_places candidates entries)
entry_places_fit [] [] h = tt
entry_places_fit (c ∷ cs) (e ∷ es) h = (place_within c e h.0, entry_places_fit cs es h.1)
entry_places_fit cs es h = absurd h

pub length_entry_places : (candidates : List (List EntryNo)) (entries : List EntryNo) → HasCandidates candidates entries → length (entry_places candidates entries) ≡ length candidates
length_entry_places [] [] h = refl
length_entry_places (c ∷ cs) (e ∷ es) h = ap suc (length_entry_places cs es h.1)
length_entry_places cs es h = absurd h

pub length_entries : (candidates : List (List EntryNo)) (entries : List EntryNo) → HasCandidates candidates entries → length entries ≡ length candidates
length_entries [] [] h = refl
length_entries (c ∷ cs) (e ∷ es) h = ap suc (length_entries cs es h.1)
length_entries cs es h = absurd h

pub entry_places_back : (candidates : List (List EntryNo)) (entries : List EntryNo) (more : List ℕ) → HasCandidates candidates entries → entries_at candidates (entry_places candidates entries ++ more) ≡ entries
entry_places_back [] [] more h = refl
entry_places_back (c ∷ cs) (e ∷ es) more h = ap₂ (λ z zs. z ∷ zs) (entry_back c e none h.0) (entry_places_back cs es more h.1)
entry_places_back cs es more h = absurd h
