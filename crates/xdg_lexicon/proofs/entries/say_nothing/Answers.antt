use Rattle.std.proofs.Common.{ap, sym, ◌∙◌, subst}
use Rattle.std.proofs.lemmas.List.{take_all}
use Rattle.xdg_lexicon.specs.Partial.{IsPartial, nothing}
use Rattle.xdg_lexicon.proofs.Dims.{nothing_partial}
use Rattle.xdg_lexicon.proofs.entries.say_nothing.Goals as goal

pub returns-clause-partial : goal.returns-clause-partial
returns-clause-partial c =
    let is = c.loop.invariant ∙ ap nothing (take_all c.loop.index c.args.dims.now c.loop-test.false) in
    subst (IsPartial c.args.dims.now) (sym is) (nothing_partial c.args.dims.now)
