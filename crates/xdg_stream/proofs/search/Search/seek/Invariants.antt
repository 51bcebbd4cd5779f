use Rattle.std.proofs.Common.{◌≡◌, ℕ, ◌≤◌, ◌-◌, List, length, take}
use Rattle.std.specs.Vec.{vec_capacity}
use Rattle.xdg_stream.specs.Problem.{SameProblem}
use Rattle.xdg_stream.specs.Place.{place, Next, Stands}
use Rattle.xdg_stream.proofs.Passing.{Passes}
use Rattle.xdg_stream.proofs.search.Search.seek.Given as goal
use Rattle.xdg_facts.proofs.Measure.{ahead}

abbrev pub invariant-steps : goal.invariant-steps
invariant-steps g l =
    let shape = g.F.Front.shape l.fn.self.front in
    let counted = g.F.Front.counted l.fn.self.front in
    record {
      problem : g.F.Front.problem l.self.front ≡ g.F.Front.problem l.fn.self.front;
      same : SameProblem shape counted (g.F.Front.shape l.self.front) (g.F.Front.counted l.self.front);
      stands : Stands shape counted (g.F.Front.numbers l.self.front);
      charged : (l.fn.self.charged ≤ l.self.charged) × (l.self.charged ≤ l.self.budget);
      kept : (l.self.budget ≡ l.fn.self.budget) × (l.self.done ≡ l.fn.self.done);
      begins : take (length (g.F.Front.numbers l.self.front)) l.self.reached.items ≡ g.F.Front.numbers l.self.front;
      room : vec_capacity l.fn.self.reached ≤ vec_capacity l.self.reached;
      passed : (from : List ℕ) → Next shape counted from (place (g.F.Front.numbers l.fn.self.front) l.fn.self.value) →
          Passes shape counted from (place (g.F.Front.numbers l.self.front) l.self.value) (l.self.charged - l.fn.self.charged) l.fn.self.reached.items l.self.reached.items;
    }

abbrev pub decreases-steps : goal.decreases-steps
decreases-steps g l = ahead (g.F.Front.shape l.fn.self.front) (place (g.F.Front.numbers l.self.front) l.self.value)
