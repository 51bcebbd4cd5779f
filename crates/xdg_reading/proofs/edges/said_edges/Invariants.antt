use Rattle.std.proofs.Common.{◌≡◌, drop, None}
use Rattle.xdg_reading.specs.Fitted.{leads, said_edges}
use Rattle.xdg_reading.proofs.edges.said_edges.Given as goal

abbrev pub invariant-loop-line : goal.invariant-loop-line
invariant-loop-line l = leads l.edges (said_edges l.parts l.before (drop l.line-index l.lines)) ≡ said_edges l.parts None l.lines
