-- What a box makes a claim each box that lies in it does, too.
use Rattle.std.proofs.Common.{ℕ, inl, inr, Bool, true, false, List}
use Rattle.std.specs.Prelude.{not}
use Rattle.xdg_problem.specs.declared.parts.Parts.{Parts}
use Rattle.xdg_problem.specs.Boxes.{IsBox, LiesIn, attr_decision, entry_decision}
use Rattle.xdg_problem.specs.Places.{edge}
use Rattle.xdg_problem.specs.Vectors.{shape}
use Rattle.xdg_rules.specs.Rules.{may_edges, must_edges}
use Rattle.xdg_rules.proofs.Among.{above_among}
use Rattle.xdg_rules.proofs.Shrinking.{may_among, must_among}
use Rattle.xdg_problem.specs.Claims.{Claim, negation, conjunction, disjunction, every, some, joined, above, left, same, valued, fitting, Claims, none, claim_then}
use Rattle.xdg_problem.specs.Truths.{bound}
use Rattle.xdg_rules.specs.Worths.{Makes, MakesEach, MakesSome}

module _ (parts : Parts) (small large : List (List Bool)) (is : IsBox (shape parts) small) (lies : LiesIn small large) where
  mutual
    pub narrower : (c : Claim) (truth : Bool) (b : ℕ → ℕ) → Makes parts large c truth b → Makes parts small c truth b
    narrower (negation c) truth b makes = narrower c (not truth) b makes
    narrower (conjunction cs) true b makes = each_narrower cs true b makes
    narrower (conjunction cs) false b makes = some_narrower cs false b makes
    narrower (disjunction cs) true b makes = some_narrower cs true b makes
    narrower (disjunction cs) false b makes = each_narrower cs false b makes
    narrower (every name c) true b makes = λ node within. narrower c true (bound b name node) (makes node within)
    narrower (every name c) false b makes = (makes.0, makes.1, narrower c false (bound b name makes.0) makes.2)
    narrower (some name c) true b makes = (makes.0, makes.1, narrower c true (bound b name makes.0) makes.2)
    narrower (some name c) false b makes = λ node within. narrower c false (bound b name node) (makes node within)
    narrower (joined dim mother label daughter) true b must = must_among parts small large is lies dim (edge dim (b mother) label (b daughter)) must
    narrower (joined dim mother label daughter) false b apart = λ may. apart (may_among parts small large is lies dim (edge dim (b mother) label (b daughter)) may)
    narrower (above dim upper lower) true b path = above_among (must_edges parts large dim) (must_edges parts small dim) (must_among parts small large is lies dim) (b upper) (b lower) path
    narrower (above dim upper lower) false b apart = λ path. apart (above_among (may_edges parts small dim) (may_edges parts large dim) (may_among parts small large is lies dim) (b upper) (b lower) path)
    narrower (left first second) truth b makes = makes
    narrower (same first second) truth b makes = makes
    narrower (valued name dim attr value) truth b makes = λ v remains. makes v (lies (attr_decision parts dim (b name) attr) v remains)
    narrower (fitting name table) truth b makes = λ c remains. makes c (lies (entry_decision (b name)) c remains)

    each_narrower : (cs : Claims) (truth : Bool) (b : ℕ → ℕ) → MakesEach parts large cs truth b → MakesEach parts small cs truth b
    each_narrower none truth b makes = tt
    each_narrower (claim_then c cs) truth b makes = (narrower c truth b makes.0, each_narrower cs truth b makes.1)

    some_narrower : (cs : Claims) (truth : Bool) (b : ℕ → ℕ) → MakesSome parts large cs truth b → MakesSome parts small cs truth b
    some_narrower none truth b makes = makes
    some_narrower (claim_then c cs) truth b makes = elim makes [ inl here ↦ inl (narrower c truth b here) | inr later ↦ inr (some_narrower cs truth b later) ]
