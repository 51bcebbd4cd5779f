use Rattle.std.proofs.Common.{subst, sym, inl}
use Rattle.xdg_names.specs.First.{Tells}
use Rattle.xdg_names.proofs.First.{tells_both}
use Rattle.xdg_classes.specs.Offences.{ValueOffends}
use Rattle.xdg_principles.specs.Arguments.{ArgumentOffends}
use Rattle.xdg_check.specs.Answers as a
use Rattle.xdg_check.proofs.passes.values_wrong.Goals as goal

pub check_values-requires-clause-named : goal.check_values-requires-clause-named
check_values-requires-clause-named c = λ f h. c.requires.named f (inl h)

pub returns : goal.returns
returns c =
    subst (Tells (a.ValueOffends c.args.statements.now c.args.table.now)) (sym c.earlier.ensures)
    (tells_both (ValueOffends c.args.statements.now c.args.table.now) (ArgumentOffends c.args.statements.now c.args.table.now) c.in_ok-in_bodies.in_bodies c.in_ok-in_uses.in_uses c.in_ok-in_bodies.ensures
    (c.in_ok-in_uses.ensures c.args.statements.now c.requires.uses))
