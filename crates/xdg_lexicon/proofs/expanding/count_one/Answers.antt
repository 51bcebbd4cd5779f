use Rattle.xdg_lexicon.specs.Sources.{source_of}
use Rattle.xdg_lexicon.specs.Steps.{CountsOne}
use Rattle.xdg_check.specs.Only.{placed_body}
use Rattle.xdg_lexicon.proofs.Exits.{exit_gives}
use Rattle.xdg_lexicon.proofs.Stepping.{uses_refused, combos_refused, both_counted}
use Rattle.xdg_lexicon.proofs.expanding.count_one.Goals as goal

pub returns-in_err-uses : goal.returns-in_err-uses
returns-in_err-uses c before same alike =
    exit_gives (CountsOne (source_of c.args.checked.now) before (placed_body c.args.def.now)) c.from_residual.result _ c.from_residual.ensures.1
    (uses_refused c.args.checked.now c.requires.checked before c.args.def.now c.uses_of-here.result c.uses_of-here.ensures c.args.uses c.in_err-uses.field-0.0 same c.in_err-uses.ensures.many)

pub returns-in_err-combos : goal.returns-in_err-combos
returns-in_err-combos c before same alike =
    exit_gives (CountsOne (source_of c.args.checked.now) before (placed_body c.args.def.now)) c.from_residual-in_err-combos.result _ c.from_residual-in_err-combos.ensures.1
    (combos_refused c.args.checked.now c.requires.checked before c.args.def.now c.uses_of-here.result c.uses_of-here.ensures c.combos_of-here.result c.combos_of-here.ensures c.args.uses c.args.combos c.in_ok-uses.uses c.in_err-combos.field-0.0 same alike
    c.in_ok-uses.ensures.within c.in_err-combos.ensures.many)

pub returns : goal.returns
returns c before same alike =
    both_counted c.args.checked.now c.requires.checked before c.args.def.now c.uses_of-here.result c.uses_of-here.ensures c.combos_of-here.result c.combos_of-here.ensures c.args.uses c.args.combos c.in_ok-uses.uses c.in_ok-combos.combos same alike
    c.in_ok-uses.ensures.within c.in_ok-combos.ensures.within
