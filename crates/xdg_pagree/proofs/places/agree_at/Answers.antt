use Rattle.std.proofs.Common.{◌≡◌, false, true, refl}
use Rattle.xdg_pagree.proofs.AtPlaces.{agreement_apart, agreement_free, agreement_must, mother_takes, daughter_later}
use Rattle.xdg_pagree.proofs.places.agree_at.Goals as goal

pub returns-then-are_apart : goal.returns-then-are_apart
returns-then-are_apart c = agreement_apart c.args.group.now c.args.store.now c.requires.known c.requires.group c.requires.principle c.args.edge c.requires.place c.requires.dim c.requires.asks c.slot_of-mother.result c.slot_of-daughter.result c.slot_of-mother.ensures.decision c.slot_of-daughter.ensures.decision c.args.pass.now c.forbid.new.self c.forbid.new.store (c.if-are_apart.ensures.exact.0 refl) c.forbid.ensures.goes c.forbid.ensures.known c.forbid.ensures.gone

pub returns-then-not-must : goal.returns-then-not-must
returns-then-not-must c = agreement_free c.args.group.now c.args.store.now c.requires.known c.requires.group c.requires.principle c.args.edge c.requires.place c.requires.dim c.requires.asks c.slot_of-mother.result c.slot_of-daughter.result c.slot_of-mother.ensures.decision c.slot_of-daughter.ensures.decision c.args.pass.now (λ apart. (let t : false ≡ true = c.if-are_apart.ensures.exact.1 apart in cc)) (λ must. (let t : false ≡ true = c.if-not-must.ensures.exact.1 must in cc))

pub keep_common-requires-clause-takes : goal.keep_common-requires-clause-takes
keep_common-requires-clause-takes c = mother_takes c.args.group.now c.args.store.now c.requires.known c.requires.group c.requires.principle c.args.edge c.requires.place c.requires.dim c.requires.asks c.slot_of-mother.result c.slot_of-daughter.result c.slot_of-mother.ensures.decision c.slot_of-daughter.ensures.decision (c.if-not-must.ensures.exact.0 refl)

pub keep_common-requires-2-clause-takes : goal.keep_common-requires-2-clause-takes
keep_common-requires-2-clause-takes c = daughter_later c.args.group.now c.args.store.now c.requires.known c.requires.group c.requires.principle c.args.edge c.requires.place c.requires.dim c.requires.asks c.slot_of-mother.result c.slot_of-daughter.result c.slot_of-mother.ensures.decision c.slot_of-daughter.ensures.decision c.args.pass.now c.keep_common.new.pass c.keep_common.new.store c.keep_common.ensures (c.if-not-must.ensures.exact.0 refl)

pub returns : goal.returns
returns c = agreement_must c.args.group.now c.args.store.now c.requires.known c.requires.group c.requires.principle c.args.edge c.requires.place c.requires.dim c.requires.asks c.slot_of-mother.result c.slot_of-daughter.result c.slot_of-mother.ensures.decision c.slot_of-daughter.ensures.decision c.args.pass.now c.keep_common.new.pass c.keep_common-2.new.pass c.keep_common.new.store c.keep_common-2.new.store (λ apart. (let t : false ≡ true = c.if-are_apart.ensures.exact.1 apart in cc)) c.keep_common.ensures c.keep_common-2.ensures
