-- What a rule or a bound asks of all decisions together can be decided.
use Rattle.std.proofs.Common.{ℕ, inl, inr, List}
use Rattle.std.specs.Prelude.{slice_index}
use Rattle.xdg_problem.specs.declared.analysis.Edge.{Edge}
use Rattle.xdg_problem.specs.declared.parts.Parts.{Parts}
use Rattle.xdg_problem.specs.declared.parts.Principle.{Principle}
use Rattle.xdg_problem.specs.declared.parts.Principle.TheVariants as principles
use Rattle.xdg_problem.specs.Arguments.{attr_place}
use Rattle.xdg_problem.specs.Asking.{AsksWhole}
use Rattle.xdg_problem.specs.Claims.{Claim, negation, conjunction, disjunction, every, some, joined, above, left, same, valued, fitting, Claims, none, claim_then, claim}
use Rattle.xdg_problem.specs.Costs.{total_cost}
use Rattle.xdg_problem.specs.Paths.{edges_on}
use Rattle.xdg_problem.specs.Places.{nodes}
use Rattle.xdg_problem.specs.Truths.{bound, unbound, says, IsTrueOf, EachTrueOf, SomeTrueOf}
use Rattle.xdg_problem.specs.Vectors.{entries_at}
use Rattle.xdg_facts.proofs.Decided.{Decided, decided_both, decided_equal, decided_less, decided_below, decided_either, decided_true, decided_not, decided_some_below}
use Rattle.xdg_problem.proofs.DecidingPaths.{decided_daughter_by, decided_above}

module _ (parts : Parts) (entries attrs : List ℕ) (edges : List Edge) where
  mutual
    pub decided_claim : (c : Claim) (b : ℕ → ℕ) → Decided (IsTrueOf parts entries attrs edges c b)
    decided_claim (negation c) b = decided_not (IsTrueOf parts entries attrs edges c b) (decided_claim c b)
    decided_claim (conjunction cs) b = decided_each cs b
    decided_claim (disjunction cs) b = decided_one cs b
    decided_claim (every name c) b = decided_below (λ node. IsTrueOf parts entries attrs edges c (bound b name node)) (nodes parts) (λ node. decided_claim c (bound b name node))
    decided_claim (some name c) b = decided_some_below (λ node. IsTrueOf parts entries attrs edges c (bound b name node)) (nodes parts) (λ node. decided_claim c (bound b name node))
    decided_claim (joined dim mother label daughter) b = decided_daughter_by (edges_on dim edges) (b mother) label (b daughter)
    decided_claim (above dim upper lower) b = decided_above (edges_on dim edges) (b upper) (b lower)
    decided_claim (left first second) b = decided_less (b first) (b second)
    decided_claim (same first second) b = decided_equal (b first) (b second)
    decided_claim (valued name dim attr value) b = decided_equal (slice_index attrs (attr_place parts dim (b name) attr)) value
    decided_claim (fitting name table) b = decided_true (says table (b name) (slice_index entries (b name)))

    decided_each : (cs : Claims) (b : ℕ → ℕ) → Decided (EachTrueOf parts entries attrs edges cs b)
    decided_each none b = inl tt
    decided_each (claim_then c cs) b = decided_both (IsTrueOf parts entries attrs edges c b) (EachTrueOf parts entries attrs edges cs b) (decided_claim c b) (decided_each cs b)

    decided_one : (cs : Claims) (b : ℕ → ℕ) → Decided (SomeTrueOf parts entries attrs edges cs b)
    decided_one none b = inr (λ is. is)
    decided_one (claim_then c cs) b = decided_either (IsTrueOf parts entries attrs edges c b) (SomeTrueOf parts entries attrs edges cs b) (decided_claim c b) (decided_one cs b)

  pub decided_whole : (principle : Principle) → Decided (AsksWhole principle parts entries attrs edges)
  decided_whole (principles.Rule formula) = decided_claim (claim formula) unbound
  decided_whole (principles.Bound costs most) = decided_less (total_cost costs (entries_at parts.candidates entries) edges) most
  decided_whole principle = inl tt
