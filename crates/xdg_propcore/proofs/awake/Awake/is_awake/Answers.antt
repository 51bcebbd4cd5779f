use Rattle.std.proofs.Common.{◌/◌, ◌∙◌, arith, subst}
use Rattle.std.proofs.lemmas.Grind.{get_or_default_zero}
use Rattle.xdg_propcore.specs.Flags.{IsOn}
use Rattle.xdg_propcore.proofs.Flags.{place_within, read_on}
use Rattle.xdg_propcore.proofs.awake.Awake.is_awake.Goals as goal

pub index-requires : goal.index-requires
index-requires c =
    let p = place_within c.self.inside.words.items c.self.inside.count c.args.at c.self.invariant (let t = c.if-at-self.false in omega (arith, t)) in
    omega (arith, p)

pub returns : goal.returns
returns c t =
    let p = place_within c.self.inside.words.items c.self.inside.count c.args.at c.self.invariant (let t = c.if-at-self.false in omega (arith, t)) in
    subst (λ flags. IsOn flags c.args.at) c.self.view_is (read_on c.self.inside.words.items c.self.inside.count c.args.at c.index.result.now c.self.invariant (c.index.ensures ∙ get_or_default_zero c.self.inside.words.items (c.args.at / 64) c.index.result.now p) t)
