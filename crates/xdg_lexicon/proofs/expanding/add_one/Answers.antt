use Rattle.std.proofs.Common.{List, Ok, Err, refl, subst}
use Rattle.xdg_base.specs.Told.{answer_of}
use Rattle.xdg_types.specs.Table.{Table}
use Rattle.xdg_lexicon.specs.Growing.{entries_in}
use Rattle.xdg_lexicon.specs.Partial.{Partial}
use Rattle.xdg_lexicon.specs.Sources.{source_of}
use Rattle.xdg_lexicon.specs.Steps.{AddsMembers, AddsOne}
use Rattle.xdg_check.specs.Only.{placed_body}
use Rattle.xdg_lexicon.proofs.Exits.{exit_gives}
use Rattle.xdg_lexicon.proofs.Stepping.{members_refused, limits_told}
use Rattle.xdg_lexicon.proofs.expanding.add_one.Goals as goal

pub members-requires : goal.members-requires
members-requires c = record { entry = (c.args.def.now, (c.requires.entry, refl)) }

pub returns-in_err-growing-clause-adds : goal.returns-in_err-growing-clause-adds
returns-in_err-growing-clause-adds c before same =
    let Adds = λ (table : Table) (members : List Partial). AddsMembers table members c.args.def.now.at (entries_in c.args.growing) (Err c.in_err-growing.field-0.0) in
    let adds = subst (λ table. Adds table c.in_ok-partials.partials) c.types.ensures.same (subst (Adds c.types.result.now) c.as_slice.ensures c.in_err-growing.ensures.adds) in
    exit_gives (λ r. AddsOne (source_of c.args.checked.now) before (placed_body c.args.def.now) (answer_of entries_in r)) c.from_residual-in_err-growing.result _ c.from_residual-in_err-growing.ensures.1
    (members_refused (source_of c.args.checked.now) before (placed_body c.args.def.now) c.in_ok-partials.partials c.in_ok-partials.ensures.denotes c.in_ok-partials.ensures.once (entries_in c.args.growing) c.in_err-growing.field-0.0 adds)

pub returns-in_err-limited-clause-adds : goal.returns-in_err-limited-clause-adds
returns-in_err-limited-clause-adds c before same =
    let adds = rw (c.types.ensures.same, c.as_slice.ensures) at c.in_ok-growing.ensures.adds in
    let keeps = c.in_err-limited.ensures c.args.checked.now.types c.requires.checked.types (rw c.types.ensures.same at c.in_ok-growing.ensures.right) in
    exit_gives (λ r. AddsOne (source_of c.args.checked.now) before (placed_body c.args.def.now) (answer_of entries_in r)) c.from_residual-in_err-limited.result _ c.from_residual-in_err-limited.ensures.1
    (limits_told (source_of c.args.checked.now) before (placed_body c.args.def.now) c.in_ok-partials.partials c.in_ok-partials.ensures.denotes c.in_ok-partials.ensures.once
    (entries_in c.args.growing) (entries_in c.in_ok-growing.growing) (Err c.in_err-limited.field-0.0) same adds keeps)

pub returns-clause-adds : goal.returns-clause-adds
returns-clause-adds c before same =
    let adds = rw (c.types.ensures.same, c.as_slice.ensures) at c.in_ok-growing.ensures.adds in
    let keeps = c.in_ok-limited.ensures c.args.checked.now.types c.requires.checked.types (rw c.types.ensures.same at c.in_ok-growing.ensures.right) in
    limits_told (source_of c.args.checked.now) before (placed_body c.args.def.now) c.in_ok-partials.partials c.in_ok-partials.ensures.denotes c.in_ok-partials.ensures.once
    (entries_in c.args.growing) (entries_in c.in_ok-growing.growing) (Ok tt) same adds keeps
