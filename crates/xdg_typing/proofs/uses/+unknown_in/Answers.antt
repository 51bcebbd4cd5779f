use Rattle.std.proofs.Common.{refl}
use Rattle.std.specs.List.{flat_map}
use Rattle.xdg_names.proofs.First.{found_all}
use Rattle.xdg_types.specs.NameFaults as spec
use Rattle.xdg_types.specs.Written.{tree, uses, uses_in_trees, uses_in_members}
use Rattle.xdg_typing.specs.KindFaults.{trees, members}
use Rattle.xdg_typing.proofs.Layers.{tree_rec, tree_tuple, tree_map}
use Rattle.xdg_typing.proofs.Walked.{both_found, of_form, walk_turn}
use Rattle.xdg_typing.proofs.uses.+unknown_in.Goals as goal

pub loop-field-preserved : goal.loop-field-preserved
loop-field-preserved t c =
    walk_turn _ _ _ _ _ _ _ _ (λ xs. uses_in_members (members xs)) (uses (tree c.field-item.result.value.kind)) (λ xs. refl)
    c.loop-field-test.true c.field-item.is c.unknown_in.ensures c.earlier-found.ensures c.loop-field.invariant

pub loop-part-preserved : goal.loop-part-preserved
loop-part-preserved t c =
    walk_turn _ _ _ _ _ _ _ _ (λ xs. uses_in_trees (trees xs)) (uses (tree c.part-item.result.kind)) (λ xs. refl)
    c.loop-part-test.true c.part-item.is c.unknown_in-in-loop-part.ensures c.earlier-found-in-loop-part.ensures c.loop-part.invariant

pub returns-after-loop-field : goal.returns-after-loop-field
returns-after-loop-field t c =
    let u = spec.unknown c.args.known.now in
    of_form (λ form. flat_map u (uses form)) _ _ _ (tree_rec _ _ _ c.in-Rec.is c.as_slice-field-items.ensures)
    (found_all (λ xs. flat_map u (uses_in_members (members xs))) refl c.as_slice-field-items.result.now c.loop-field.field-index _ _ c.loop-field-test.false c.loop-field.invariant)

pub returns-after-loop-part : goal.returns-after-loop-part
returns-after-loop-part t c =
    let u = spec.unknown c.args.known.now in
    of_form (λ form. flat_map u (uses form)) _ _ _ (tree_tuple _ _ _ c.in-Tuple.is c.as_slice-part-items.ensures)
    (found_all (λ xs. flat_map u (uses_in_trees (trees xs))) refl c.as_slice-part-items.result.now c.loop-part.part-index _ _ c.loop-part-test.false c.loop-part.invariant)

pub returns-in-Map : goal.returns-in-Map
returns-in-Map t c =
    let u = spec.unknown c.args.known.now in
    of_form (λ form. flat_map u (uses form)) _ _ _ (tree_map _ _ _ _ _ c.in-Map.is c.get-in-Map.ensures c.get-in-Map-2.ensures)
    (both_found u _ _ _ _ _ c.unknown_in-in-Map.ensures c.unknown_in-in-Map-2.ensures c.earlier.ensures)
