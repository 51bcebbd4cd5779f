use Rattle.std.proofs.Common.{◌≡◌, subst}
use Rattle.std.specs.Prelude.{IfOk}
use Rattle.xdg_typing.proofs.GraphUses.{walked_map, walked_tuple, walked_record}
use Rattle.xdg_typing.proofs.graph.+add_uses.Goals as goal

pub returns-in_ok-add_uses-in-Map : goal.returns-in_ok-add_uses-in-Map
returns-in_ok-add_uses-in-Map t c =
    subst (λ us. IfOk c.add_uses-in-Map.result (λ _. c.add_uses-in-Map.new.made ≡ us))
    (walked_map c.args.known.now c.args.ty.now c.in-Map.key c.in-Map.value c.get.result.now c.get-in-Map.result.now c.args.made.now c.add_uses.new.made c.in-Map.is c.get.ensures c.get-in-Map.ensures c.in_ok-add_uses-in-Map.ensures)
    c.add_uses-in-Map.ensures

pub returns-after-loop-field : goal.returns-after-loop-field
returns-after-loop-field t c =
    walked_tuple c.args.known.now c.args.ty.now c.in-Tuple.fields c.as_slice-field-items.result.now c.loop-field.field-index c.args.made.now c.loop-field.made c.in-Tuple.is c.as_slice-field-items.ensures c.loop-field-test.false c.loop-field.invariant

pub returns-after-loop-pair : goal.returns-after-loop-pair
returns-after-loop-pair t c =
    walked_record c.args.known.now c.args.ty.now c.in-Rec.pairs c.as_slice-pair-items.result.now c.loop-pair.pair-index c.args.made.now c.loop-pair.made c.in-Rec.is c.as_slice-pair-items.ensures c.loop-pair-test.false c.loop-pair.invariant
