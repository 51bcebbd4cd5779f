use Rattle.xdg_ast.specs.declared.names.Pair.{Pair}
use Rattle.std.proofs.Common.{[], refl, sym, ap, ◌∙◌, List}
use Rattle.std.specs.List.{flat_map}
use Rattle.xdg_names.proofs.First.{found_all}
use Rattle.xdg_names.specs.First.{first}
use Rattle.xdg_types.specs.NameFaults as spec
use Rattle.xdg_types.specs.Parts.{keys, TypeTerm}
use Rattle.xdg_types.specs.Written.{tree, lists, lists_in_trees, lists_in_members, member_names}
use Rattle.xdg_typing.specs.KindFaults.{trees, members}
use Rattle.xdg_typing.proofs.Layers.{tree_rec, tree_tuple, tree_map}
use Rattle.xdg_typing.proofs.Members.{members_named}
use Rattle.xdg_typing.proofs.Walked.{joined, both_found, of_form, walk_turn}
use Rattle.xdg_typing.proofs.contents.+lists_again.Goals as goal

pub loop-field-preserved : goal.loop-field-preserved
loop-field-preserved t c =
    walk_turn _ _ _ _ _ _ _ _ (λ xs. lists_in_members (members xs)) (lists (tree c.field-item.result.value.kind)) (λ xs. refl)
    c.loop-field-test.true c.field-item.is c.in_ok-lists_again-in-Rec.ensures c.earlier-found.ensures c.loop-field.invariant

pub loop-part-preserved : goal.loop-part-preserved
loop-part-preserved t c =
    walk_turn _ _ _ _ _ _ _ _ (λ xs. lists_in_trees (trees xs)) (lists (tree c.part-item.result.kind)) (λ xs. refl)
    c.loop-part-test.true c.part-item.is c.in_ok-lists_again-in-Tuple.ensures c.earlier-found-in-loop-part.ensures c.loop-part.invariant

pub returns-after-loop-field : goal.returns-after-loop-field
returns-after-loop-field t c =
    let u = spec.repeats [] in
    let fields = c.as_slice-field-items.result.now in
    let all = λ (xs : List (Pair TypeTerm)). flat_map u (lists_in_members (members xs)) in
    let same = c.as_slice-in-Rec.ensures ∙ sym c.as_slice-field-items.ensures in
    of_form (λ form. flat_map u (lists form)) _ _ _ (tree_rec _ _ fields c.in-Rec.is c.as_slice-field-items.ensures)
    (joined (u (member_names (members fields))) (all fields) _ _ _ (c.in_ok-found-in-Rec.ensures ∙ ap (λ fs. first (u (keys fs))) same ∙ ap (λ ns. first (u ns)) (sym (members_named fields))) refl
    (found_all all refl fields c.loop-field.field-index _ _ c.loop-field-test.false c.loop-field.invariant))

pub returns-after-loop-part : goal.returns-after-loop-part
returns-after-loop-part t c =
    let u = spec.repeats [] in
    of_form (λ form. flat_map u (lists form)) _ _ _ (tree_tuple _ _ _ c.in-Tuple.is c.as_slice-part-items.ensures)
    (found_all (λ xs. flat_map u (lists_in_trees (trees xs))) refl c.as_slice-part-items.result.now c.loop-part.part-index _ _ c.loop-part-test.false c.loop-part.invariant)

pub returns-in_ok-right-in-Map : goal.returns-in_ok-right-in-Map
returns-in_ok-right-in-Map t c =
    let u = spec.repeats [] in
    of_form (λ form. flat_map u (lists form)) _ _ _ (tree_map _ _ _ _ _ c.in-Map.is c.get-in-Map.ensures c.get-in-Map-2.ensures)
    (both_found u (lists (tree c.get-in-Map.result.now.kind)) (lists (tree c.get-in-Map-2.result.now.kind)) _ _ _ c.in_ok-left-in-Map.ensures c.in_ok-right-in-Map.ensures c.earlier.ensures)
