use Rattle.std.proofs.Common.{◌++◌, ◌∷◌, [], ap₂, sym, ◌∙◌, arith}
use Rattle.std.proofs.lemmas.List.{take_all, take_more}
use Rattle.xdg_packed.proofs.Unpacked.{count_is}
use Rattle.xdg_packed.proofs.packed.Packed.entries.Goals as goal

pub copy_of_entry-requires : goal.copy_of_entry-requires
copy_of_entry-requires c =
    let size = count_is c.args.self.now c.self.inside.tables.items c.self.inside.count c.self.inside.dim c.self.inside.field c.self.view_is in
    let within = c.loop-number-test.true in
    omega (arith, size, within)

pub loop-number-preserved : goal.loop-number-preserved
loop-number-preserved c =
    let size = count_is c.args.self.now c.self.inside.tables.items c.self.inside.count c.self.inside.dim c.self.inside.field c.self.view_is in
    let within = c.loop-number-test.true in
    c.in_ok-push.ensures.ok ∙ ap₂ (λ made entry. made ++ entry ∷ []) c.loop-number.invariant c.in_ok-copy_of_entry.ensures
    ∙ sym (take_more c.args.self.now.entries c.loop-number.number [] (omega (arith, size, within)))

pub returns : goal.returns
returns c =
    let size = count_is c.args.self.now c.self.inside.tables.items c.self.inside.count c.self.inside.dim c.self.inside.field c.self.view_is in
    let past = c.loop-number-test.false in
    c.loop-number.invariant ∙ take_all c.loop-number.number c.args.self.now.entries (omega (arith, size, past))
