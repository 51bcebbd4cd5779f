-- A search comes to one thing.
use Rattle.std.proofs.Common.{◌≡◌, ◌∙◌, ℕ, [], map, take, None, sym, subst}
use Rattle.xdg_split.proofs.Boxing.{boxed_listing}
use Rattle.xdg_searches.specs.Counted.{AreJudged, IsOneCount}
use Rattle.xdg_searches.specs.declared.counting.Counts.{Counts}
use Rattle.xdg_searches.proofs.Tallies.{same_count}
use Rattle.xdg_facts.specs.Endings.{IsEnding}
use Rattle.xdg_facts.proofs.Unique.{listing_unique}
use Rattle.xdg_facts.proofs.Wholes.{whole_unique}
use Rattle.xdg_facts.proofs.OneEnding.{ending_unique}
use Rattle.xdg_problem.specs.declared.parts.Parts.{Parts}
use Rattle.xdg_problem.specs.Problems.{IsProblem}
use Rattle.xdg_problem.specs.Vectors.{shape, vector}
use Rattle.xdg_problem.proofs.SolutionLists.{solutions_unique}
use Rattle.xdg_rules.specs.Boxed.{Boxed}

pub one_count : (budget : ℕ) (parts : Parts) → IsProblem parts → IsOneCount budget parts
one_count budget parts is one other p q =
    let counted : p.counted ≡ q.counted = listing_unique (shape parts) (Boxed parts) [] p.counted q.counted p.counted_are q.counted_are in
    let solutions : p.solutions ≡ q.solutions = solutions_unique parts is [] p.solutions q.solutions p.solutions_are q.solutions_are in
    let whole = whole_unique (shape parts) (Boxed parts) [] p.counted (map (vector parts) p.solutions) p.counted_are (boxed_listing parts is [] p.solutions p.solutions_are) in
    let moved = subst (λ c. IsEnding other.ending (shape parts) budget None c (map (vector parts) p.solutions) other.analyses) (sym counted)
    (subst (λ s. IsEnding other.ending (shape parts) budget None q.counted (map (vector parts) s) other.analyses) (sym solutions) q.end) in
    let same = ending_unique one.ending other.ending (shape parts) budget None p.counted (map (vector parts) p.solutions) one.analyses other.analyses whole p.end moved in
    let judged : AreJudged parts (take one.analyses p.solutions) q.judged =
    subst (λ n. AreJudged parts (take n p.solutions) q.judged) (sym same.1) (subst (λ s. AreJudged parts (take other.analyses s) q.judged) (sym solutions) q.judged_are) in
    let broken : one.broken ≡ other.broken = p.broken_is ∙ same_count parts (take one.analyses p.solutions) p.judged q.judged p.judged_are judged ∙ sym q.broken_is in
    (λ i. let made : Counts = record { analyses = same.1 i; broken = broken i; ending = same.0 i } in made)
