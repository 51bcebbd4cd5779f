-- In a box of single values each claim is made true or false.
use Rattle.std.proofs.Common.{◌≡◌, ℕ, ◌⊎◌, inl, inr, Bool, true, false, List, arith, subst}
use Rattle.std.proofs.lemmas.Bool.{false_from_ne_true}
use Rattle.xdg_problem.specs.declared.parts.Parts.{Parts}
use Rattle.xdg_problem.specs.Boxes.{Has, IsBox, IsSingle, attr_decision, entry_decision, edge_decision}
use Rattle.xdg_problem.specs.Places.{edge, nodes}
use Rattle.xdg_problem.specs.Problems.{IsProblem}
use Rattle.xdg_problem.specs.Vectors.{shape}
use Rattle.xdg_facts.proofs.Decided.{Decided, decided_equal, decided_less, decided_true, each_or_some, decided_among}
use Rattle.xdg_problem.proofs.DecidingPaths.{decided_above}
use Rattle.xdg_rules.specs.Rules.{has, may_edges, must_edges}
use Rattle.xdg_rules.proofs.Among.{Among, above_among}
use Rattle.xdg_rules.proofs.Shrinking.{may_is, must_of}
use Rattle.xdg_rules.proofs.Sizes.{node_within}
use Rattle.xdg_problem.specs.Claims.{Claim, negation, conjunction, disjunction, every, some, joined, above, left, same, valued, fitting, Claims, none, claim_then, IsOf, EachIsOf}
use Rattle.xdg_problem.specs.Truths.{bound, says, HasTruth, AreNodes}
use Rattle.xdg_rules.specs.Worths.{EachValue, Makes, MakesEach, MakesSome}
use Rattle.xdg_problem.proofs.Bindings.{bound_nodes}
use Rattle.xdg_rules.proofs.NodeValues.{attr_decided}
use Rattle.xdg_rules.proofs.DecidingBoxes.{decided_edges}

-- where one value of a decision remains, it makes true or false what is asked of it
one_value_settles : (box : List (List Bool)) (d : ℕ) (P : ℕ → Type 0) → IsSingle box → ((v : ℕ) × Has box d v) → ((v : ℕ) → Decided (P v)) → EachValue box d (λ v. HasTruth true (P v)) ⊎ EachValue box d (λ v. HasTruth false (P v))
one_value_settles box d P single filled decided = elim (decided filled.0) [
  | inl holds ↦ inl (λ v remains. subst P (single d v filled.0 remains filled.1) holds)
  | inr fails ↦ inr (λ v remains holds. fails (subst P (single d filled.0 v filled.1 remains) holds))
]

module _ (parts : Parts) (box : List (List Bool)) (problem : IsProblem parts) (is : IsBox (shape parts) box) (single : IsSingle box) where
  -- an edge that may be must be
  may_must : (dim : ℕ) → Among (may_edges parts box dim) (must_edges parts box dim)
  may_must dim e may =
      let stands = may_is parts box dim e may in
      must_of parts box dim e (record {
        place = stands.place;
        dim_is = stands.dim_is;
        present = stands.present;
        not_absent = false_from_ne_true (has box (edge_decision parts e) 1) (λ absent. (let both : ◌≡◌ {A = ℕ} 0 1 = single (edge_decision parts e) 1 0 absent stands.present in omega (arith, both)));
      })

  mutual
    pub settled : (c : Claim) (b : ℕ → ℕ) → IsOf parts c → AreNodes parts b → Makes parts box c true b ⊎ Makes parts box c false b
    settled (negation c) b suits nodes_are = elim (settled c b suits nodes_are) [ inl holds ↦ inr holds | inr fails ↦ inl fails ]
    settled (conjunction cs) b suits nodes_are = all_or_one cs b suits nodes_are
    settled (disjunction cs) b suits nodes_are = one_or_all cs b suits nodes_are
    settled (every name c) b suits nodes_are = each_or_some (λ node. Makes parts box c true (bound b name node)) (λ node. Makes parts box c false (bound b name node)) (nodes parts) (λ node within. settled c (bound b name node) suits (bound_nodes parts b name node nodes_are within))
    settled (some name c) b suits nodes_are =
        elim (each_or_some (λ node. Makes parts box c false (bound b name node)) (λ node. Makes parts box c true (bound b name node)) (nodes parts) (λ node within. elim (settled c (bound b name node) suits (bound_nodes parts b name node nodes_are within)) [ inl holds ↦ inr holds | inr fails ↦ inl fails ])) [
          | inl all ↦ inr all
          | inr found ↦ inl found
        ]
    settled (joined dim mother label daughter) b suits nodes_are = elim (decided_among decided_edges (may_edges parts box dim) (edge dim (b mother) label (b daughter))) [
      | inl may ↦ inl (may_must dim (edge dim (b mother) label (b daughter)) may)
      | inr apart ↦ inr apart
    ]
    settled (above dim upper lower) b suits nodes_are = elim (decided_above (may_edges parts box dim) (b upper) (b lower)) [
      | inl path ↦ inl (above_among (may_edges parts box dim) (must_edges parts box dim) (may_must dim) (b upper) (b lower) path)
      | inr apart ↦ inr apart
    ]
    settled (left first second) b suits nodes_are = decided_less (b first) (b second)
    settled (same first second) b suits nodes_are = decided_equal (b first) (b second)
    settled (valued name dim attr value) b suits nodes_are = one_value_settles box (attr_decision parts dim (b name) attr) (λ v. v ≡ value) single (is.filled (attr_decision parts dim (b name) attr) (attr_decided parts dim (b name) attr suits.0 (nodes_are name) suits.1)) (λ v. decided_equal v value)
    settled (fitting name table) b suits nodes_are = one_value_settles box (entry_decision (b name)) (λ c. says table (b name) c ≡ true) single (is.filled (entry_decision (b name)) (node_within parts (b name) problem (nodes_are name))) (λ c. decided_true (says table (b name) c))

    -- all are made true, or one false
    all_or_one : (cs : Claims) (b : ℕ → ℕ) → EachIsOf parts cs → AreNodes parts b → MakesEach parts box cs true b ⊎ MakesSome parts box cs false b
    all_or_one none b suits nodes_are = inl tt
    all_or_one (claim_then c cs) b suits nodes_are = elim (settled c b suits.0 nodes_are) [
      | inl holds ↦ elim (all_or_one cs b suits.1 nodes_are) [ inl all ↦ inl (holds, all) | inr one ↦ inr (inr one) ]
      | inr fails ↦ inr (inl fails)
    ]

    -- one is made true, or all false
    one_or_all : (cs : Claims) (b : ℕ → ℕ) → EachIsOf parts cs → AreNodes parts b → MakesSome parts box cs true b ⊎ MakesEach parts box cs false b
    one_or_all none b suits nodes_are = inr tt
    one_or_all (claim_then c cs) b suits nodes_are = elim (settled c b suits.0 nodes_are) [
      | inl holds ↦ inl (inl holds)
      | inr fails ↦ elim (one_or_all cs b suits.1 nodes_are) [ inl one ↦ inl (inr one) | inr all ↦ inr (fails, all) ]
    ]
