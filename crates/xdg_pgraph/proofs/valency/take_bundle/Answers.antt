use Rattle.std.proofs.Common.{◌<◌, ◌∙◌, sym, subst, arith}
use Rattle.xdg_problem.specs.Analyses.{IsPlace}
use Rattle.xdg_problem.specs.Boxes.{entry_decision}
use Rattle.xdg_problem.specs.Places.{nodes}
use Rattle.xdg_problem.specs.declared.parts.Parts.{Parts}
use Rattle.xdg_pgraph.specs.Allowances.{HasClasses}
use Rattle.xdg_pgraph.specs.Bundles.{edge_to}
use Rattle.xdg_pgraph.proofs.Clearing.{none_barred, wanted_nowhere}
use Rattle.xdg_pgraph.proofs.OpenEdges.{bundle_taken, open_place}
use Rattle.xdg_pgraph.proofs.valency.take_bundle.Goals as goal

pub said_of-said-requires-clause-classes : goal.said_of-said-requires-clause-classes
said_of-said-requires-clause-classes c = c.classes-classes.ensures c.args.store.now.parts c.args.group.now c.requires.fits

pub said_of-said-requires-clause-few : goal.said_of-said-requires-clause-few
said_of-said-requires-clause-few c = (
  (let e = c.len-least.ensures.value in let f = c.len-least.ensures.nodes.few in omega (arith, e, f)),
  (let e = c.len-most.ensures.value in let f = c.len-most.ensures.nodes.few in omega (arith, e, f)),
)

pub take_open_if-requires-clause-places : goal.take_open_if-requires-clause-places
take_open_if-requires-clause-places c = open_place c.args.bundle c.args.store.now c.args.group.now c.args.plane.now.dim.0 c.requires.dim c.of-far.result.must c.of-far.result.may c.minus-open.result c.of-far.ensures.must c.of-far.ensures.may c.minus-open.ensures.members

pub take_open_if-requires-2-clause-places : goal.take_open_if-requires-2-clause-places
take_open_if-requires-2-clause-places c other is = subst (λ (parts : Parts). IsPlace parts (edge_to c.args.bundle.way c.args.plane.now.dim.0 c.args.bundle.node c.args.bundle.label other)) (sym c.take_open_if.ensures.clears.same) (open_place c.args.bundle c.args.store.now c.args.group.now c.args.plane.now.dim.0 c.requires.dim c.of-far.result.must c.of-far.result.may c.minus-open.result c.of-far.ensures.must c.of-far.ensures.may c.minus-open.ensures.members other is)

pub take_entries_if-requires-clause-node : goal.take_entries_if-requires-clause-node
take_entries_if-requires-clause-node c = subst (λ (parts : Parts). c.args.bundle.node < nodes parts) (sym (c.take_open_if-2.ensures.clears.same ∙ c.take_open_if.ensures.clears.same)) (let l = c.requires.node in let n = c.requires.plane.nodes_is in omega (arith, l, n))

pub take_entries_if-requires-clause-others : goal.take_entries_if-requires-clause-others
take_entries_if-requires-clause-others c not k has = c.said_of-said.ensures.barred not k (c.take_open_if.ensures.clears.inside (entry_decision c.args.bundle.node) k (c.take_open_if-2.ensures.clears.inside (entry_decision c.args.bundle.node) k has))

pub returns-then-not-takes : goal.returns-then-not-takes
returns-then-not-takes c =
    let none = c.takes.ensures c.if-not-takes.true in
    bundle_taken c.args.bundle c.args.store.now c.args.group.now c.args.plane.now.dim.0 c.requires.dim c.of-far.result.must c.of-far.result.may c.minus-open.result c.of-far.ensures.must c.of-far.ensures.may c.minus-open.ensures.members
    c.said_of-said.result.full c.said_of-said.result.needed c.len-least.result c.len-most.result c.len-least.ensures.nodes c.len-most.ensures.nodes c.len-least.ensures.value c.len-most.ensures.value
    c.said_of-said.ensures.full c.said_of-said.ensures.needed
    c.requires.group c.requires.principle c.requires.known (let l = c.requires.node in let n = c.requires.plane.nodes_is in omega (arith, l, n)) c.requires.label
    c.args.pass.now c.args.pass.now c.args.pass.now c.args.pass.now c.args.store.now c.args.store.now c.args.store.now
    (wanted_nowhere c.args.store.now.parts c.args.plane.now.dim.0 c.args.bundle c.minus-open.result 0 c.said_of-said.result.full c.args.pass.now c.args.store.now none.1)
    (wanted_nowhere c.args.store.now.parts c.args.plane.now.dim.0 c.args.bundle c.minus-open.result 1 c.said_of-said.result.needed c.args.pass.now c.args.store.now none.2)
    c.requires.known (none_barred c.args.store.now.parts c.args.group.now c.args.bundle c.len-least.result c.len-most.result c.args.pass.now c.args.store.now (c.said_of-said.ensures.barred none.0))

pub returns : goal.returns
returns c =
    bundle_taken c.args.bundle c.args.store.now c.args.group.now c.args.plane.now.dim.0 c.requires.dim c.of-far.result.must c.of-far.result.may c.minus-open.result c.of-far.ensures.must c.of-far.ensures.may c.minus-open.ensures.members
    c.said_of-said.result.full c.said_of-said.result.needed c.len-least.result c.len-most.result c.len-least.ensures.nodes c.len-most.ensures.nodes c.len-least.ensures.value c.len-most.ensures.value
    c.said_of-said.ensures.full c.said_of-said.ensures.needed
    c.requires.group c.requires.principle c.requires.known (let l = c.requires.node in let n = c.requires.plane.nodes_is in omega (arith, l, n)) c.requires.label
    c.args.pass.now c.take_open_if.new.pass c.take_open_if-2.new.pass c.take_entries_if.new.pass c.take_open_if.new.store c.take_open_if-2.new.store c.take_entries_if.new.store
    c.take_open_if.ensures.clears c.take_open_if-2.ensures.clears c.take_entries_if.ensures.known c.take_entries_if.ensures.clears

pub take_entries_if-requires-clause-classes : goal.take_entries_if-requires-clause-classes
take_entries_if-requires-clause-classes c = subst (λ (parts : Parts). HasClasses parts c.args.group.now c.args.bundle c.classes-classes.result.now) (sym (c.take_open_if-2.ensures.clears.same ∙ c.take_open_if.ensures.clears.same)) (c.classes-classes.ensures c.args.store.now.parts c.args.group.now c.requires.fits)
