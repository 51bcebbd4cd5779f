use Rattle.std.proofs.Common.{sym, subst}
use Rattle.xdg_propcore.proofs.Passing.{goes_failed, clears_failed}
use Rattle.xdg_propcore.specs.Passes.{Goes}
use Rattle.xdg_propcore.proofs.pass.Pass.fail.Goals as goal

pub returns-clause-goes : goal.returns-clause-goes
returns-clause-goes c group is all = subst (λ q. Goes group c.args.self.now c.args.store.now q c.args.store.now) (sym c.note.ensures) (goes_failed group c.args.self.now c.args.store.now c.turns.ensures.known is all)

pub returns-clause-clears : goal.returns-clause-clears
returns-clause-clears c = clears_failed c.args.self.now c.note.new.self c.args.store.now c.turns.ensures.known c.note.ensures
