use Rattle.std.proofs.Common.{sym, subst}
use Rattle.xdg_domain.specs.Valencies.{KeysRise}
use Rattle.xdg_domain.specs.Keys.{KeysBelow}
use Rattle.xdg_domain.proofs.KeyAfterKey.{rises_more}
use Rattle.xdg_domain.proofs.valencies.CardMap.add.Goals as goal

pub invariant_of-self-2 : goal.invariant_of-self-2
invariant_of-self-2 c = subst (KeysRise 0) (sym c.in_ok-push.ensures.items) (rises_more c.self.inside.entries.items c.args.key c.args.cards c.self.invariant (subst (KeysBelow c.args.key) (sym c.self.view_is) c.requires.above))
