use Rattle.std.proofs.Common.{◌≡◌, ℕ, ◌<◌, ◌≤◌, []}
use Rattle.xdg_names.specs.Leads.{number}
use Rattle.xdg_names.specs.Walks.{Walks}
use Rattle.xdg_names.proofs.numbering.components.Given as goal

abbrev pub invariant-loop-root : goal.invariant-loop-root
invariant-loop-root l = record {
  walks : Walks l.graph l.walk;
  path : l.walk.path.items ≡ [];
  before : (a : ℕ) → a < l.root → 1 ≤ number l.walk.marks.items a;
}
