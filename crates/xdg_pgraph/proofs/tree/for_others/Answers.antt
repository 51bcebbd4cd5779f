use Rattle.std.proofs.Common.{◌∙◌, ◌||◌, not, sym}
use Rattle.xdg_facts.specs.Rises.{has}
use Rattle.xdg_rules.specs.Rules.{may_edges}
use Rattle.xdg_graph.specs.declared.which.Which.TheVariants as whichs
use Rattle.xdg_pgraph.proofs.Single.{no_root_left, one_root_left, more_roots_left}
use Rattle.xdg_pgraph.proofs.Sources.{not_single}
use Rattle.xdg_pgraph.proofs.Told.{entered_within}
use Rattle.xdg_pgraph.proofs.tree.for_others.Goals as goal
use Rattle.xdg_facts.proofs.Sets.{both}

pub only_mother-requires-clause-within : goal.only_mother-requires-clause-within
only_mother-requires-clause-within c v h =
    let i = c.args.incoming.now in
    entered_within whichs.May c.args.store.now.parts c.args.store.now.now c.args.plane.now c.requires.plane v i.may c.requires.incoming.may
    ((both (has i.may.some v) (not (has i.may.more v || has i.must.some v))).0 (sym (c.single.ensures v) ∙ h)).0

pub only_mother-requires-clause-single : goal.only_mother-requires-clause-single
only_mother-requires-clause-single c v none = not_single c.args.store.now.parts c.args.store.now.now c.args.plane.now.dim.0 v c.args.incoming.now c.single.result c.requires.incoming c.single.ensures none

pub returns-in-Nothing-clause-runs : goal.returns-in-Nothing-clause-runs
returns-in-Nothing-clause-runs c = (
    let may = may_edges c.args.store.now.parts c.args.store.now.now c.args.plane.now.dim.0 in
    no_root_left c.args.plane.now c.args.pass.now c.args.pass.now c.args.store.now c.args.store.now c.requires.plane c.find_roots.result (c.find_roots.ensures may c.requires.incoming.may.once) c.in-Nothing.is)

pub returns-in-One-clause-runs : goal.returns-in-One-clause-runs
returns-in-One-clause-runs c = (
    let may = may_edges c.args.store.now.parts c.args.store.now.now c.args.plane.now.dim.0 in
    one_root_left c.args.plane.now c.args.pass.now c.only_mother.new.pass c.args.store.now c.only_mother.new.store c.requires.plane c.find_roots.result _ (c.find_roots.ensures may c.requires.incoming.may.once) c.in-One.is c.only_mother.ensures.runs)

pub returns-in-More-clause-runs : goal.returns-in-More-clause-runs
returns-in-More-clause-runs c = (
    let may = may_edges c.args.store.now.parts c.args.store.now.now c.args.plane.now.dim.0 in
    more_roots_left c.args.plane.now c.args.pass.now c.fail.new.self c.args.store.now c.args.store.now c.requires.plane c.find_roots.result (c.find_roots.ensures may c.requires.incoming.may.once) c.in-More.is c.fail.ensures.clears)
