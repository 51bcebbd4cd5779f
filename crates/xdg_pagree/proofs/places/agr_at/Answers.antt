use Rattle.xdg_pagree.proofs.AtPlaces.{entry_later, agr_done}
use Rattle.xdg_pagree.proofs.places.agr_at.Goals as goal

pub keep_useful-requires-clause-takes : goal.keep_useful-requires-clause-takes
keep_useful-requires-clause-takes c = entry_later c.args.group.now c.args.store.now c.requires.known c.requires.principle c.args.node.0 c.requires.node c.slot_of-slot.result c.slot_of-slot.ensures.decision c.args.pass.now c.keep_allowed.new.pass c.keep_allowed.new.store c.keep_allowed.ensures

pub returns : goal.returns
returns c = agr_done c.args.group.now c.args.store.now c.requires.known c.requires.principle c.args.node.0 c.requires.node c.slot_of-slot.result c.slot_of-slot.ensures.decision c.args.pass.now c.keep_allowed.new.pass c.keep_useful.new.pass c.keep_allowed.new.store c.keep_useful.new.store c.keep_allowed.ensures c.keep_useful.ensures
