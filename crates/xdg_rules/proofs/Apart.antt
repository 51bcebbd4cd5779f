-- No box makes a claim true and false, and what it makes it can be decided.
use Rattle.std.proofs.Common.{◌≡◌, ℕ, ◌<◌, inl, inr, Bool, true, false, List}
use Rattle.std.specs.Prelude.{Contains, not}
use Rattle.xdg_problem.specs.declared.parts.Parts.{Parts}
use Rattle.xdg_problem.specs.Boxes.{Has, IsBox, attr_decision, entry_decision}
use Rattle.xdg_problem.specs.Paths.{Above}
use Rattle.xdg_problem.specs.Places.{edge, nodes}
use Rattle.xdg_problem.specs.Problems.{IsProblem}
use Rattle.xdg_problem.specs.Vectors.{shape}
use Rattle.xdg_facts.proofs.Decided.{Decided, decided_both, decided_equal, decided_less, decided_below, decided_either, decided_true, decided_not, decided_some_below, decided_among}
use Rattle.xdg_problem.proofs.DecidingPaths.{decided_above}
use Rattle.xdg_rules.specs.Rules.{may_edges, must_edges}
use Rattle.xdg_rules.proofs.Among.{Among, above_among}
use Rattle.xdg_rules.proofs.DecidingBoxes.{decided_remaining, decided_edges}
use Rattle.xdg_rules.proofs.Shrinking.{may_of, must_is}
use Rattle.xdg_rules.proofs.Sizes.{node_within}
use Rattle.xdg_problem.specs.Claims.{Claim, negation, conjunction, disjunction, every, some, joined, above, left, same, valued, fitting, Claims, none, claim_then, IsOf, EachIsOf}
use Rattle.xdg_problem.specs.Truths.{bound, says, HasTruth, AreNodes}
use Rattle.xdg_rules.specs.Worths.{EachValue, Makes, MakesEach, MakesSome}
use Rattle.xdg_problem.proofs.Bindings.{bound_nodes}
use Rattle.xdg_rules.proofs.NodeValues.{attr_decided}

-- an edge that must be may be
pub must_may : (parts : Parts) (box : List (List Bool)) (dim : ℕ) → Among (must_edges parts box dim) (may_edges parts box dim)
must_may parts box dim e must = (let stands = must_is parts box dim e must in may_of parts box dim e (record { place = stands.place; dim_is = stands.dim_is; present = stands.present }))

-- nothing is true and false
truths_apart : (truth : Bool) (P : Type 0) → HasTruth truth P → HasTruth (not truth) P → ⊥
truths_apart true P holds fails = fails holds
truths_apart false P fails holds = fails holds

values_apart : (box : List (List Bool)) (d : ℕ) (P : ℕ → Type 0) (truth : Bool) → ((v : ℕ) × Has box d v) → EachValue box d (λ v. HasTruth truth (P v)) → EachValue box d (λ v. HasTruth (not truth) (P v)) → ⊥
values_apart box d P truth filled these those = truths_apart truth (P filled.0) (these filled.0 filled.1) (those filled.0 filled.1)

module _ (parts : Parts) (box : List (List Bool)) (problem : IsProblem parts) (is : IsBox (shape parts) box) where
  mutual
    pub apart : (c : Claim) (truth : Bool) (b : ℕ → ℕ) → IsOf parts c → AreNodes parts b → Makes parts box c truth b → Makes parts box c (not truth) b → ⊥
    apart (negation c) truth b suits nodes_are this that = apart c (not truth) b suits nodes_are this that
    apart (conjunction cs) true b suits nodes_are this that = each_apart cs true b suits nodes_are this that
    apart (conjunction cs) false b suits nodes_are this that = each_apart cs true b suits nodes_are that this
    apart (disjunction cs) true b suits nodes_are this that = each_apart cs false b suits nodes_are that this
    apart (disjunction cs) false b suits nodes_are this that = each_apart cs false b suits nodes_are this that
    apart (every name c) true b suits nodes_are this that = apart c true (bound b name that.0) suits (bound_nodes parts b name that.0 nodes_are that.1) (this that.0 that.1) that.2
    apart (every name c) false b suits nodes_are this that = apart c false (bound b name this.0) suits (bound_nodes parts b name this.0 nodes_are this.1) this.2 (that this.0 this.1)
    apart (some name c) true b suits nodes_are this that = apart c true (bound b name this.0) suits (bound_nodes parts b name this.0 nodes_are this.1) this.2 (that this.0 this.1)
    apart (some name c) false b suits nodes_are this that = apart c false (bound b name that.0) suits (bound_nodes parts b name that.0 nodes_are that.1) (this that.0 that.1) that.2
    apart (joined dim mother label daughter) true b suits nodes_are must off = off (must_may parts box dim (edge dim (b mother) label (b daughter)) must)
    apart (joined dim mother label daughter) false b suits nodes_are off must = off (must_may parts box dim (edge dim (b mother) label (b daughter)) must)
    apart (above dim upper lower) true b suits nodes_are path off = off (above_among (must_edges parts box dim) (may_edges parts box dim) (must_may parts box dim) (b upper) (b lower) path)
    apart (above dim upper lower) false b suits nodes_are off path = off (above_among (must_edges parts box dim) (may_edges parts box dim) (must_may parts box dim) (b upper) (b lower) path)
    apart (left first second) truth b suits nodes_are this that = truths_apart truth (b first < b second) this that
    apart (same first second) truth b suits nodes_are this that = truths_apart truth (b first ≡ b second) this that
    apart (valued name dim attr value) truth b suits nodes_are this that = values_apart box (attr_decision parts dim (b name) attr) (λ v. v ≡ value) truth (is.filled (attr_decision parts dim (b name) attr) (attr_decided parts dim (b name) attr suits.0 (nodes_are name) suits.1)) this that
    apart (fitting name table) truth b suits nodes_are this that = values_apart box (entry_decision (b name)) (λ c. says table (b name) c ≡ true) truth (is.filled (entry_decision (b name)) (node_within parts (b name) problem (nodes_are name))) this that

    each_apart : (cs : Claims) (truth : Bool) (b : ℕ → ℕ) → EachIsOf parts cs → AreNodes parts b → MakesEach parts box cs truth b → MakesSome parts box cs (not truth) b → ⊥
    each_apart none truth b suits nodes_are this that = that
    each_apart (claim_then c cs) truth b suits nodes_are this (inl here) = apart c truth b suits.0 nodes_are this.0 here
    each_apart (claim_then c cs) truth b suits nodes_are this (inr later) = each_apart cs truth b suits.1 nodes_are this.1 later

decided_truth : (truth : Bool) (P : Type 0) → Decided P → Decided (HasTruth truth P)
decided_truth true P decided = decided
decided_truth false P decided = decided_not P decided

module _ (parts : Parts) (box : List (List Bool)) where
  mutual
    pub decided_makes : (c : Claim) (truth : Bool) (b : ℕ → ℕ) → Decided (Makes parts box c truth b)
    decided_makes (negation c) truth b = decided_makes c (not truth) b
    decided_makes (conjunction cs) true b = decided_each cs true b
    decided_makes (conjunction cs) false b = decided_some cs false b
    decided_makes (disjunction cs) true b = decided_some cs true b
    decided_makes (disjunction cs) false b = decided_each cs false b
    decided_makes (every name c) true b = decided_below (λ node. Makes parts box c true (bound b name node)) (nodes parts) (λ node. decided_makes c true (bound b name node))
    decided_makes (every name c) false b = decided_some_below (λ node. Makes parts box c false (bound b name node)) (nodes parts) (λ node. decided_makes c false (bound b name node))
    decided_makes (some name c) true b = decided_some_below (λ node. Makes parts box c true (bound b name node)) (nodes parts) (λ node. decided_makes c true (bound b name node))
    decided_makes (some name c) false b = decided_below (λ node. Makes parts box c false (bound b name node)) (nodes parts) (λ node. decided_makes c false (bound b name node))
    decided_makes (joined dim mother label daughter) true b = decided_among decided_edges (must_edges parts box dim) (edge dim (b mother) label (b daughter))
    decided_makes (joined dim mother label daughter) false b = decided_not (Contains (may_edges parts box dim) (edge dim (b mother) label (b daughter))) (decided_among decided_edges (may_edges parts box dim) (edge dim (b mother) label (b daughter)))
    decided_makes (above dim upper lower) true b = decided_above (must_edges parts box dim) (b upper) (b lower)
    decided_makes (above dim upper lower) false b = decided_not (Above (may_edges parts box dim) (b upper) (b lower)) (decided_above (may_edges parts box dim) (b upper) (b lower))
    decided_makes (left first second) truth b = decided_truth truth (b first < b second) (decided_less (b first) (b second))
    decided_makes (same first second) truth b = decided_truth truth (b first ≡ b second) (decided_equal (b first) (b second))
    decided_makes (valued name dim attr value) truth b = decided_remaining box (attr_decision parts dim (b name) attr) (λ v. HasTruth truth (v ≡ value)) (λ v. decided_truth truth (v ≡ value) (decided_equal v value))
    decided_makes (fitting name table) truth b = decided_remaining box (entry_decision (b name)) (λ c. HasTruth truth (says table (b name) c ≡ true)) (λ c. decided_truth truth (says table (b name) c ≡ true) (decided_true (says table (b name) c)))

    decided_each : (cs : Claims) (truth : Bool) (b : ℕ → ℕ) → Decided (MakesEach parts box cs truth b)
    decided_each none truth b = inl tt
    decided_each (claim_then c cs) truth b = decided_both (Makes parts box c truth b) (MakesEach parts box cs truth b) (decided_makes c truth b) (decided_each cs truth b)

    decided_some : (cs : Claims) (truth : Bool) (b : ℕ → ℕ) → Decided (MakesSome parts box cs truth b)
    decided_some none truth b = inr (λ found. found)
    decided_some (claim_then c cs) truth b = decided_either (Makes parts box c truth b) (MakesSome parts box cs truth b) (decided_makes c truth b) (decided_some cs truth b)
