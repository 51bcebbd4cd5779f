use Rattle.std.proofs.Common.{◌≡◌, ◌≤◌, ◌+◌, ◌-◌, length}
use Rattle.std.specs.Vec.{vec_capacity}
use Rattle.xdg_stream.specs.Rows.{Reads}
use Rattle.xdg_stream.specs.Runs.{Adds}
use Rattle.xdg_stream.proofs.edge_runs.add_edges.Given as goal

abbrev pub invariant-places : goal.invariant-places
invariant-places l = record {
  adds : Adds l.store.now l.mark l.fn.marks.items l.fn.numbers.items l.marks.items l.numbers.items l.most l.added;
  here : l.first + l.place ≡ length l.numbers.items;
  reads : Reads l.store.parts l.store.now l.row;
  rooms : (vec_capacity l.fn.numbers ≤ vec_capacity l.numbers) × (vec_capacity l.fn.marks ≤ vec_capacity l.marks);
}

abbrev pub decreases-places : goal.decreases-places
decreases-places l = length l.edge_places - l.place
