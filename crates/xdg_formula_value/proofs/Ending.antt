-- Loops over the values of an attribute that came to their end.
use Rattle.std.proofs.Common.{◌≡◌, ℕ, ◌<◌, ◌≤◌, ◌∙◌, ap, arith}
use Rattle.xdg_problem.specs.declared.parts.Parts.{Parts}
use Rattle.xdg_problem.specs.Arguments.{value_count}
use Rattle.xdg_problem.specs.Boxes.{Has, attr_decision}
use Rattle.xdg_problem.specs.Places.{nodes}
use Rattle.xdg_store.specs.InRange.{HasValue}
use Rattle.xdg_store.specs.Layout.{attr_row}
use Rattle.xdg_store.specs.States.{State, Known}
use Rattle.xdg_store.proofs.Located.{attr_located}
use Rattle.xdg_graph.proofs.Remaining.{below_size}

-- a value that remains is one of the attribute's
pub value_end : (s : State) (problem shown : Parts) (node dim attr value v count other : ℕ) → Known s → HasValue s.parts node dim attr value → shown ≡ problem → problem ≡ s.parts → count ≡ value_count shown dim attr → count ≤ other → Has s.now (attr_decision s.parts dim node attr) v → v < other
value_end s problem shown node dim attr value v count other known is same problem_is counted past has =
    let within = below_size s.parts s.now (attr_decision s.parts dim node attr) (attr_row (nodes s.parts) dim node attr) (value_count s.parts dim attr) v known.is_box (attr_located s.parts known.problem.candidates_each dim node attr is.dim_in is.node_in is.attr_in) has in
    let e : value_count shown dim attr ≡ value_count s.parts dim attr = ap (λ (p : Parts). value_count p dim attr) (same ∙ problem_is) in
    omega (arith, within, e, counted, past)
