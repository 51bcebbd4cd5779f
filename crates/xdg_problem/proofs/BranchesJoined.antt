-- The lists of the solutions of all branches, one after another, are the list of the solutions of the problem.
use Rattle.std.proofs.Common.{◌≡◌, ℕ, ◌<◌, ◌≤◌, ◌+◌, inl, List, [], ◌∷◌, ◌++◌, length, get_or, zero, suc, sym, subst, arith}
use Rattle.std.specs.Prelude.{All, Contains}
use Rattle.std.proofs.lemmas.List.Elements.{All-nil, All-head, All-tail, All-append, All-weaker, Contains-append_left, Contains-append_right}
use Rattle.xdg_base.specs.declared.ids.EntryNo.{EntryNo}
use Rattle.xdg_facts.specs.Order.{Less}
use Rattle.xdg_problem.specs.declared.analysis.Analysis.{Analysis}
use Rattle.xdg_problem.specs.declared.parts.Parts.{Parts}
use Rattle.xdg_problem.specs.Analyses.{HasCandidates}
use Rattle.xdg_problem.specs.Branches.{BeginsAt, branch_of, first_candidates, no_entry}
use Rattle.xdg_problem.specs.BranchLaws.{AreBranchLists, BranchesJoin, BranchLaws, DifferInFirst, joined}
use Rattle.xdg_problem.specs.Problems.{IsProblem}
use Rattle.xdg_problem.specs.Solutions.{IsSolution, IsSolutionList, SolutionsRise}
use Rattle.xdg_problem.specs.Vectors.{place_among}
use Rattle.xdg_problem.proofs.BranchSolutions.{branch_laws}
use Rattle.xdg_problem.proofs.EntryPlaces.{entry_back, place_within}
use Rattle.xdg_facts.proofs.Ordered.{less_same}

-- the place of an entry among the candidates of the first node
entry_place : (candidates : List (List EntryNo)) (entries : List EntryNo) → 0 < length candidates → HasCandidates candidates entries → (place : ℕ) × (place < length (get_or candidates 0 [])) × (get_or entries 0 no_entry ≡ get_or (get_or candidates 0 []) place no_entry)
entry_place (c ∷ candidates) (e ∷ entries) some has = (place_among c e, place_within c e has.0, sym (entry_back c e no_entry has.0))
entry_place candidates entries some has = absurd (grind arith)

module _ (parts : Parts) (is : IsProblem parts) where
  abbrev count : ℕ
  count = length (first_candidates parts)

  -- everything that begins with a number above the place comes after it
  abbrev Below : ℕ → List ℕ → Type 0
  Below place after = (q : ℕ) (more : List ℕ) → place < q → Less after (q ∷ more)

  -- everything that begins with the place or a number above it comes after it
  abbrev UpTo : ℕ → List ℕ → Type 0
  UpTo place after = (q : ℕ) (more : List ℕ) → place ≤ q → Less after (q ∷ more)

  module _ (place : ℕ) (within : place < count) where
    abbrev branch : Parts
    branch = branch_of parts place

    laws : BranchLaws parts place
    laws = branch_laws parts place is within

    differ : (a : Analysis) → IsSolution branch a → DifferInFirst parts place a
    differ a s = laws.vectors a s.fits

    -- a list that rises in the branch rises in the problem, and what comes after the branch goes on
    rise_on : (list rest : List Analysis) (u : List ℕ) → All (IsSolution branch) list → SolutionsRise branch (0 ∷ u) list → ((after : List ℕ) → Below place after → SolutionsRise parts after rest) → SolutionsRise parts (place ∷ u) (list ++ rest)
    rise_on [] rest u each rises later = later (place ∷ u) (λ q more less. inl less)
    rise_on (a ∷ list) rest u each rises later =
        let x = differ a (All-head (IsSolution branch) a list each) in
        let less : Less (0 ∷ u) (0 ∷ x.more) = subst (Less (0 ∷ u)) x.branch rises.0 in
        let behind : SolutionsRise branch (0 ∷ x.more) list = subst (λ v. SolutionsRise branch v list) x.branch rises.1 in
        (subst (Less (place ∷ u)) (sym x.whole) (less_same 0 place u x.more less), subst (λ v. SolutionsRise parts v (list ++ rest)) (sym x.whole) (rise_on list rest x.more (All-tail (IsSolution branch) a list each) behind later))

    rise_from : (list rest : List Analysis) (after : List ℕ) → All (IsSolution branch) list → SolutionsRise branch [] list → UpTo place after → ((more : List ℕ) → Below place more → SolutionsRise parts more rest) → SolutionsRise parts after (list ++ rest)
    rise_from [] rest after each rises up_to later = later after (λ q more less. up_to q more (omega (arith, less)))
    rise_from (a ∷ list) rest after each rises up_to later =
        let x = differ a (All-head (IsSolution branch) a list each) in
        let behind : SolutionsRise branch (0 ∷ x.more) list = subst (λ v. SolutionsRise branch v list) x.branch rises.1 in
        (subst (Less after) (sym x.whole) (up_to place x.more (omega arith)), subst (λ v. SolutionsRise parts v (list ++ rest)) (sym x.whole) (rise_on list rest x.more (All-tail (IsSolution branch) a list each) behind later))

    solutions_down : (list : List Analysis) → All (IsSolution branch) list → All (IsSolution parts) list
    solutions_down list each = All-weaker (IsSolution branch) (IsSolution parts) (λ a s. ((laws.solutions a).0 s).0) list each

    has_all : (list : List Analysis) → IsSolutionList branch [] list → (a : Analysis) → IsSolution parts a → BeginsAt parts place a → Contains list a
    has_all list are a s begins =
        let there = (laws.solutions a).1 (s, begins) in
        are.all a there (subst (Less []) (sym (differ a there).branch) tt)

  rises : (place : ℕ) (lists : List (List Analysis)) (after : List ℕ) → place + length lists ≡ count → AreBranchLists parts place lists → UpTo place after → SolutionsRise parts after (joined lists)
  rises place [] after long are up_to = tt
  rises place (list ∷ lists) after long are up_to =
      let within : place < count = omega (arith, long) in
      rise_from place within list (joined lists) after are.0.each are.0.rises up_to (λ more below. rises (suc place) lists more (omega (arith, long)) are.1 (λ q behind less. below q behind (omega (arith, less))))

  each_solves : (place : ℕ) (lists : List (List Analysis)) → place + length lists ≡ count → AreBranchLists parts place lists → All (IsSolution parts) (joined lists)
  each_solves place [] long are = All-nil (IsSolution parts)
  each_solves place (list ∷ lists) long are =
      let within : place < count = omega (arith, long) in
      All-append (IsSolution parts) list (joined lists) (solutions_down place within list are.0.each) (each_solves (suc place) lists (omega (arith, long)) are.1)

  has_each : (place : ℕ) (lists : List (List Analysis)) → place + length lists ≡ count → AreBranchLists parts place lists → (k : ℕ) → k < length lists → (a : Analysis) → IsSolution parts a → BeginsAt parts (place + k) a → Contains (joined lists) a
  has_each place [] long are k less a s begins = absurd (omega (arith, less))
  has_each place (list ∷ lists) long are zero less a s begins =
      let within : place < count = omega (arith, long) in
      let same : place + 0 ≡ place = omega arith in
      Contains-append_left list (joined lists) a (has_all place within list are.0 a s (subst (λ p. BeginsAt parts p a) same begins))
  has_each place (list ∷ lists) long are (suc k) less a s begins =
      let same : place + suc k ≡ suc place + k = omega arith in
      Contains-append_right list (joined lists) a (has_each (suc place) lists (omega (arith, long)) are.1 k (omega (arith, less)) a s (subst (λ p. BeginsAt parts p a) same begins))

  pub branches_join : BranchesJoin parts
  branches_join lists long are = record {
    rises = rises 0 lists [] (omega (arith, long)) are (λ q more less. tt);
    each = each_solves 0 lists (omega (arith, long)) are;
    all = λ a s after.
        let at = entry_place parts.candidates a.entries (subst (λ n. 0 < n) (sym is.candidates_each) is.some) s.fits.entries in
        let same : 0 + at.0 ≡ at.0 = omega arith in
        let inside : at.0 < length lists = subst (λ n. at.0 < n) (sym long) at.1 in
        has_each 0 lists (omega (arith, long)) are at.0 inside a s (subst (λ p. BeginsAt parts p a) (sym same) at.2);
  }
