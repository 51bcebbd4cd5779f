use Rattle.xdg_classes.specs.Lent.{called}
use Rattle.xdg_classes.proofs.Told.{call_told}
use Rattle.xdg_classes.proofs.uses.check_call.Goals as goal

pub returns : goal.returns
returns c = λ cs knows.
    call_told cs (called c.args.call.now) c.new-given.result _ _ _ _ _ _ c.new-given.ensures c.in_ok-again.ensures.found c.in_ok-again.ensures.seen
    c.class_wrong.ensures (c.find-found.ensures cs knows) c.as_str.ensures c.earlier.ensures
