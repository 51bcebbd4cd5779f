use Rattle.std.proofs.Common.{arith}
use Rattle.xdg_propcore.proofs.Flags.{place_within, within_seen, woken_holds, woken_flags}
use Rattle.xdg_propcore.proofs.awake.Awake.wake.Goals as goal

pub index_mut-requires : goal.index_mut-requires
index_mut-requires c = (let p = place_within c.self.inside.words.items c.self.inside.count c.args.at c.self.invariant (within_seen c.self.inside.words.items c.self.inside.count c.args.at _ c.self.view_is c.requires) in omega (arith, p))

pub invariant_of-self : goal.invariant_of-self
invariant_of-self c = woken_holds c.self.inside.words.items c.self.inside.count c.args.at c.index_mut.result.now _ c.self.invariant c.self.view_is c.requires c.index_mut.ensures.value

pub returns : goal.returns
returns c = woken_flags c.self.inside.words.items c.self.inside.count c.args.at c.index_mut.result.now _ c.self.invariant c.self.view_is c.requires c.index_mut.ensures.value
