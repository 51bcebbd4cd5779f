use Rattle.std.proofs.Common.{◌≡◌, ◌<◌, ap, ◌∙◌, length, get_or, arith}
use Rattle.std.proofs.lemmas.Grind.{get_or_default_zero}
use Rattle.xdg_trail.proofs.States.{past_set, stood_set}
use Rattle.xdg_trail.proofs.Trail.set.Goals as goal

pub returns-then-old-value-clause-past : goal.returns-then-old-value-clause-past
returns-then-old-value-clause-past c differs =
    let within : c.args.place < length c.self.inside.words.items = (let q = ap (λ t. length t.words) c.self.view_is in let r = c.requires.place in omega (arith, q, r)) in
    let old : c.index-old.result.now ≡ get_or c.self.inside.words.items c.args.place 0 = c.index-old.ensures ∙ get_or_default_zero c.self.inside.words.items c.args.place c.index-old.result.now within in
    rw (c.push_reserved.ensures.items, ← c.self.view_is, old) (past_set c.self.inside.words.items c.self.inside.records.items c.args.place c.args.value)

pub returns-then-old-value-clause-stood : goal.returns-then-old-value-clause-stood
returns-then-old-value-clause-stood c =
    let within : c.args.place < length c.self.inside.words.items = (let q = ap (λ t. length t.words) c.self.view_is in let r = c.requires.place in omega (arith, q, r)) in
    let old : c.index-old.result.now ≡ get_or c.self.inside.words.items c.args.place 0 = c.index-old.ensures ∙ get_or_default_zero c.self.inside.words.items c.args.place c.index-old.result.now within in
    rw (c.push_reserved.ensures.items, ← c.self.view_is, old) (stood_set c.self.inside.words.items c.self.inside.records.items c.args.place c.args.value)
