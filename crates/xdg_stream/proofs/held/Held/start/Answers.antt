use Rattle.std.proofs.Common.{◌∙◌, ap, arith, length, sym}
use Rattle.xdg_problem.specs.Vectors.{entries_at, edges_in}
use Rattle.xdg_problem.proofs.VectorFacts.{length_shape}
use Rattle.xdg_stream.proofs.Filling.{entries_none, no_edges}
use Rattle.xdg_stream.proofs.held.Held.start.Goals as goal

pub invariant_of-result : goal.invariant_of-result
invariant_of-result c =
    let parts = c.args.problem.now in
    let long = length_shape parts in
    let decided = c.decisions-decisions.ensures in
    let listed = ap length c.requires in
    let numbers = c.in_ok-numbers.ensures.exact in
    let entries = c.in_ok-entries.ensures.exact in
    let edges = c.in_ok-edges.ensures.exact in
    let nodes = c.len.ensures in
    let same = ap (λ p. length p.candidates) c.parts-parts.ensures.same in
    let none = c.in_ok-numbers.ensures.items in
    record {
      first_is = omega (arith, long, decided, listed);
      entries_are = c.in_ok-entries.ensures.items ∙ sym (ap (entries_at parts.candidates) none ∙ entries_none parts.candidates);
      edges_are = c.in_ok-edges.ensures.items ∙ sym (ap (edges_in parts) none ∙ no_edges parts);
      for_numbers = omega (arith, numbers, decided);
      for_entries = omega (arith, entries, nodes, same);
      for_edges = omega (arith, edges, listed);
    }
