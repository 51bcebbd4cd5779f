use Rattle.std.proofs.Common.{Ok, sym, subst}
use Rattle.xdg_base.specs.Told.{Gives}
use Rattle.xdg_lexicon.specs.Answers.{Tells}
use Rattle.xdg_lexicon.specs.Sources.{source_of}
use Rattle.xdg_lexicon.proofs.Exits.{exit_gives}
use Rattle.xdg_lexicon.proofs.expanding.expand.Goals as goal

pub returns-in_err-packed-clause-tells : goal.returns-in_err-packed-clause-tells
returns-in_err-packed-clause-tells c =
    exit_gives (Tells (source_of c.args.checked.now)) c.from_residual.result _ c.from_residual.ensures.1 c.in_err-packed.ensures.tells

pub returns-in_err-packed-clause-only : goal.returns-in_err-packed-clause-only
returns-in_err-packed-clause-only c answer told =
    exit_gives (Gives answer) c.from_residual.result _ c.from_residual.ensures.1 (c.in_err-packed.ensures.only answer told)

pub returns-clause-tells : goal.returns-clause-tells
returns-clause-tells c = subst (λ l. Tells (source_of c.args.checked.now) (Ok l)) (sym c.in_ok-entries.ensures) c.in_ok-packed.ensures.tells

pub returns-clause-only : goal.returns-clause-only
returns-clause-only c answer told = subst (λ l. Gives answer (Ok l)) (sym c.in_ok-entries.ensures) (c.in_ok-packed.ensures.only answer told)
