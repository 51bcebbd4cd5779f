-- The analyses of a branch are those of the problem that begin with its candidate, and their vectors differ in the first number alone.
use Rattle.std.proofs.Common.{◌≡◌, ◌↔◌, ℕ, ◌<◌, ◌+◌, List, [], ◌∷◌, ◌++◌, length, get_or, map, ap, sym, ◌∙◌, subst, arith}
use Rattle.std.specs.Prelude.{AllPairs, Contains}
use Rattle.std.proofs.lemmas.List.Elements.{Contains-get_or}
use Rattle.xdg_base.specs.declared.ids.EntryNo.{EntryNo}
use Rattle.xdg_facts.specs.Order.{Less}
use Rattle.xdg_problem.specs.declared.analysis.Analysis.{Analysis}
use Rattle.xdg_problem.specs.declared.parts.Parts.{Parts}
use Rattle.xdg_problem.specs.Analyses.{HasCandidates, IsAnalysis}
use Rattle.xdg_problem.specs.Branches.{BeginsAt, branch_group, branch_of, first_alone, first_candidates, no_entry}
use Rattle.xdg_problem.specs.BranchLaws.{DifferInFirst}
use Rattle.xdg_problem.specs.Places.{places}
use Rattle.xdg_problem.specs.Problems.{AreCandidates, IsProblem}
use Rattle.xdg_problem.specs.Vectors.{entry_places, place_among, presence, vector}
use Rattle.xdg_problem.proofs.EntryPlaces.{EntryBefore, place_back, place_within}
use Rattle.xdg_problem.proofs.OtherTruths.{analysis_still}
use Rattle.xdg_facts.proofs.Contained.{contains_head, contains_one}
use Rattle.xdg_facts.proofs.InOrder.{ordered_from_pairs}
use Rattle.xdg_facts.proofs.Ordered.{less_same}

-- ---- entries

abbrev Begins : List (List EntryNo) → ℕ → List EntryNo → Type 0
Begins candidates place entries = get_or entries 0 no_entry ≡ get_or (get_or candidates 0 []) place no_entry

entries_down : (candidates : List (List EntryNo)) (place : ℕ) (entries : List EntryNo) → place < length (get_or candidates 0 []) → HasCandidates (first_alone no_entry place candidates) entries → HasCandidates candidates entries × Begins candidates place entries
entries_down (c ∷ candidates) place (e ∷ entries) within has =
    let is : e ≡ get_or c place no_entry = contains_one (get_or c place no_entry) e has.0 in
    ((subst (Contains c) (sym is) (Contains-get_or c place no_entry within), has.1), is)
entries_down candidates place entries within has = absurd (grind arith)

entries_up : (candidates : List (List EntryNo)) (place : ℕ) (entries : List EntryNo) → HasCandidates candidates entries → Begins candidates place entries → HasCandidates (first_alone no_entry place candidates) entries
entries_up [] place [] has begins = tt
entries_up (c ∷ candidates) place (e ∷ entries) has begins = (subst (Contains (get_or c place no_entry ∷ [])) (sym begins) (contains_head (get_or c place no_entry) []), has.1)
entries_up candidates place entries has begins = absurd has

-- the places of the entries differ in the first alone
pub record EntriesDiffer (candidates : List (List EntryNo)) (place : ℕ) (entries : List EntryNo) : Type 0 where
  pub more : List ℕ
  pub whole : entry_places candidates entries ≡ place ∷ more
  pub branch : entry_places (first_alone no_entry place candidates) entries ≡ 0 ∷ more

alone_first : (x e : EntryNo) → Contains (x ∷ []) e → place_among (x ∷ []) e ≡ 0
alone_first x e c = let l = place_within (x ∷ []) e c in omega (arith, l)

entries_differ : (candidates : List (List EntryNo)) (place : ℕ) (entries : List EntryNo) → AllPairs EntryBefore (get_or candidates 0 []) → place < length (get_or candidates 0 []) → HasCandidates (first_alone no_entry place candidates) entries → EntriesDiffer candidates place entries
entries_differ (c ∷ candidates) place (e ∷ entries) rising within has =
    let is : e ≡ get_or c place no_entry = contains_one (get_or c place no_entry) e has.0 in
    let at : place_among c e ≡ place = ap (place_among c) is ∙ place_back c place no_entry (ordered_from_pairs EntryBefore c rising) within in
    record {
      more = entry_places candidates entries;
      whole = ap (λ n. n ∷ entry_places candidates entries) at;
      branch = ap (λ n. n ∷ entry_places candidates entries) (alone_first (get_or c place no_entry) e has.0);
    }
entries_differ candidates place entries rising within has = absurd (grind arith)

-- ---- analyses

module _ (parts : Parts) (place : ℕ) (is : IsProblem parts) (within : place < length (first_candidates parts)) where
  pub branch_fits : (a : Analysis) → IsAnalysis (branch_of parts place) a ↔ (IsAnalysis parts a × BeginsAt parts place a)
  branch_fits a = (
    λ h. (let down = entries_down parts.candidates place a.entries within h.entries in (analysis_still (branch_of parts place) parts.candidates parts.groups a down.0 h, down.1)),
    λ h. analysis_still parts (first_alone no_entry place parts.candidates) (map (branch_group place) parts.groups) a (entries_up parts.candidates place a.entries h.0.entries h.1) h.0,
  )

  pub branch_entries : (a : Analysis) → IsAnalysis (branch_of parts place) a → EntriesDiffer parts.candidates place a.entries
  branch_entries a h =
      let candidates : AreCandidates (first_candidates parts) = is.candidates 0 [] (subst (λ n. 0 < n) (sym is.candidates_each) is.some) in
      entries_differ parts.candidates place a.entries candidates.rising within h.entries

  pub branch_vectors : (a : Analysis) → IsAnalysis (branch_of parts place) a → DifferInFirst parts place a
  branch_vectors a h =
      let differ = branch_entries a h in
      let behind : List ℕ = a.attrs ++ map (presence a.edges) (places parts) in
      record {
        more = differ.more ++ behind;
        whole = ap (λ xs. xs ++ behind) differ.whole;
        branch = ap (λ xs. xs ++ behind) differ.branch;
      }

  -- ---- order

  pub branch_order : (a b : Analysis) → IsAnalysis (branch_of parts place) a → IsAnalysis (branch_of parts place) b → Less (vector (branch_of parts place) a) (vector (branch_of parts place) b) ↔ Less (vector parts a) (vector parts b)
  branch_order a b ha hb =
      let x = branch_vectors a ha in
      let y = branch_vectors b hb in (
        λ less. subst (λ v. Less v (vector parts b)) (sym x.whole) (subst (Less (place ∷ x.more)) (sym y.whole) (less_same 0 place x.more y.more (subst (Less (0 ∷ x.more)) y.branch (subst (λ v. Less v (vector (branch_of parts place) b)) x.branch less)))),
        λ less. subst (λ v. Less v (vector (branch_of parts place) b)) (sym x.branch) (subst (Less (0 ∷ x.more)) (sym y.branch) (less_same place 0 x.more y.more (subst (Less (place ∷ x.more)) y.whole (subst (λ v. Less v (vector parts b)) x.whole less)))),
      )
