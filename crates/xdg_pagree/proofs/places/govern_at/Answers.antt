use Rattle.std.proofs.Common.{◌≡◌, false, true, refl}
use Rattle.xdg_pagree.proofs.AtPlaces.{government_apart, government_free, daughter_governed}
use Rattle.xdg_pagree.proofs.places.govern_at.Goals as goal

pub returns-then-none_is_allowed : goal.returns-then-none_is_allowed
returns-then-none_is_allowed c = government_apart c.args.group.now c.args.store.now c.requires.known c.requires.group c.requires.principle c.args.edge c.requires.place c.requires.dim c.requires.asks c.slot_of-slot.result c.slot_of-slot.ensures.decision c.args.pass.now c.forbid.new.self c.forbid.new.store (c.if-none_is_allowed.ensures.exact.0 refl) c.forbid.ensures.goes c.forbid.ensures.known c.forbid.ensures.gone

pub returns-then-not-must : goal.returns-then-not-must
returns-then-not-must c = government_free c.args.group.now c.args.store.now c.requires.known c.requires.group c.requires.principle c.args.edge c.requires.place c.requires.dim c.requires.asks c.slot_of-slot.result c.slot_of-slot.ensures.decision c.args.pass.now (λ refused. (let t : false ≡ true = c.if-none_is_allowed.ensures.exact.1 refused in cc)) (λ must. (let t : false ≡ true = c.if-not-must.ensures.exact.1 must in cc))

pub keep_allowed-requires-clause-takes : goal.keep_allowed-requires-clause-takes
keep_allowed-requires-clause-takes c = daughter_governed c.args.group.now c.args.store.now c.requires.known c.requires.group c.requires.principle c.args.edge c.requires.place c.requires.dim c.requires.asks c.slot_of-slot.result c.slot_of-slot.ensures.decision (c.if-not-must.ensures.exact.0 refl)
