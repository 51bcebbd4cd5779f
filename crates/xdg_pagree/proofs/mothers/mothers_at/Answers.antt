use Rattle.std.proofs.Common.{sym, ◌∙◌}
use Rattle.xdg_pagree.proofs.Bringing.{mothers_found}
use Rattle.xdg_pagree.proofs.mothers.mothers_at.Goals as goal
use Rattle.xdg_facts.specs.Rises.{has}
use Rattle.xdg_facts.proofs.Sets.{both}

pub mothers_of-requires-clause-daughters : goal.mothers_of-requires-clause-daughters
mothers_of-requires-clause-daughters c v there = (c.requires.sentence v).0 ((both (has c.args.touched.now.attrs v) (has c.args.sentence v)).0 (sym (c.meet-daughters.ensures.members v) ∙ there)).1

pub returns : goal.returns
returns c = mothers_found c.args.store.now.parts c.args.store.now.now c.args.touched.now c.args.dim.0 c.args.label.0 c.touched_nodes.result c.nodes_at.result c.union.result c.args.sentence c.meet-own.result c.meet-daughters.result c.mothers_of.result c.union-2.result
    c.touched_nodes.ensures c.nodes_at.ensures c.union.ensures.members c.requires.sentence c.meet-own.ensures.members c.meet-daughters.ensures.members c.mothers_of.ensures c.union-2.ensures.members
