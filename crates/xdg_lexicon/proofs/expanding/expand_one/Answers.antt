use Rattle.std.proofs.Common.{refl}
use Rattle.xdg_base.specs.Told.{answer_of}
use Rattle.xdg_lexicon.specs.Expanding.{so_far}
use Rattle.xdg_lexicon.specs.Growing.{entries_in}
use Rattle.xdg_lexicon.specs.Lexicon.{SoFar}
use Rattle.xdg_lexicon.specs.Sources.{source_of}
use Rattle.xdg_lexicon.specs.Steps.{ExpandsOne}
use Rattle.xdg_check.specs.Only.{placed_body}
use Rattle.xdg_lexicon.proofs.Exits.{exit_gives}
use Rattle.xdg_lexicon.proofs.Stepping.{counts_refuse, adding_refuses, one_expanded, few_sums}
use Rattle.xdg_lexicon.proofs.expanding.expand_one.Goals as goal

pub returns-in_err-uses-clause-expands : goal.returns-in_err-uses-clause-expands
returns-in_err-uses-clause-expands c =
    let before = so_far c.args.expanding in
    exit_gives (λ r. ExpandsOne (source_of c.args.checked.now) before (placed_body c.args.def.now) (answer_of so_far r)) c.from_residual.result _ c.from_residual.ensures.1
    (counts_refuse (source_of c.args.checked.now) before (placed_body c.args.def.now) c.in_err-uses.field-0.0 (c.in_err-uses.ensures before refl refl))

pub returns-in_err-growing-clause-expands : goal.returns-in_err-growing-clause-expands
returns-in_err-growing-clause-expands c =
    let before = so_far c.args.expanding in
    exit_gives (λ r. ExpandsOne (source_of c.args.checked.now) before (placed_body c.args.def.now) (answer_of so_far r)) c.from_residual-in_err-growing.result _ c.from_residual-in_err-growing.ensures.1
    (adding_refuses (source_of c.args.checked.now) before (placed_body c.args.def.now) (c.in_ok-uses.uses, c.in_ok-uses.combos) c.in_err-growing.field-0.0 (c.in_ok-uses.ensures before refl refl) (c.in_err-growing.ensures.adds before refl))

pub returns-clause-right : goal.returns-clause-right
returns-clause-right c =
    let before = so_far c.args.expanding in
    let few = few_sums (source_of c.args.checked.now) before (placed_body c.args.def.now) (c.in_ok-uses.uses, c.in_ok-uses.combos) (c.in_ok-uses.ensures before refl refl) in
    record { growing = c.in_ok-growing.ensures.right; few_uses = few.0; few_combos = few.1 }

pub returns-clause-expands : goal.returns-clause-expands
returns-clause-expands c =
    let before = so_far c.args.expanding in
    let after : SoFar = record { uses = c.in_ok-uses.uses; combos = c.in_ok-uses.combos; entries = entries_in c.in_ok-growing.growing } in
    one_expanded (source_of c.args.checked.now) before (placed_body c.args.def.now) after (c.in_ok-uses.ensures before refl refl) (c.in_ok-growing.ensures.adds before refl)
