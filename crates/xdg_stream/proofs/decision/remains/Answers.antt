use Rattle.std.proofs.Common.{◌≡◌, ◌↔◌, ◌<◌, IsTrue, arith, not, slice_index, subst, sym}
use Rattle.xdg_problem.specs.Boxes.{Has, edge_decision}
use Rattle.xdg_problem.specs.Vectors.{shape}
use Rattle.xdg_store.specs.Decisions.{IsDecision, number_of}
use Rattle.xdg_stream.proofs.Finding.{not_gone}
use Rattle.xdg_stream.proofs.Named.{has_value, edge_value}
use Rattle.xdg_stream.proofs.decision.remains.Goals as goal

pub attr_in-requires : goal.attr_in-requires
attr_in-requires c =
    let parts = c.args.store.now.parts in
    has_value parts c.in-Attr.node.0 c.in-Attr.dim.0 c.in-Attr.attr.0 c.args.value c.requires.known.problem (subst (IsDecision parts) c.in-Attr.is c.requires.is) (subst (λ d. c.args.value < slice_index (shape parts) (number_of parts d)) c.in-Attr.is c.requires.value)

pub returns-else-value-eq0 : goal.returns-else-value-eq0
returns-else-value-eq0 c =
    let parts = c.args.store.now.parts in
    let box = c.args.store.now.now in
    let small = edge_value parts c.in-Place.edge c.args.value (subst (IsDecision parts) c.in-Place.is c.requires.is) (subst (λ d. c.args.value < slice_index (shape parts) (number_of parts d)) c.in-Place.is c.requires.value) in
    let test = c.if-value-eq0.false in
    let one : 1 ≡ c.args.value = omega (arith, small, test) in
    subst (λ v. IsTrue (not c.must.result) ↔ Has box (number_of parts c.args.decision) v) one (subst (λ d. IsTrue (not c.must.result) ↔ Has box (number_of parts d) 1) (sym c.in-Place.is) (not_gone box (edge_decision parts c.in-Place.edge) 1 c.must.result c.must.ensures.exact))
