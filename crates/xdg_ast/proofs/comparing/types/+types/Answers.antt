use Rattle.xdg_ast.proofs.Bared.{same_map_else, same_map_then, same_type_iset, same_type_rec, same_type_set, same_type_tuple, same_type_valency}
use Rattle.xdg_ast.proofs.Mapped.{differ_key_at, differ_part_at, differ_value_at}
use Rattle.xdg_ast.proofs.comparing.types.+types.Goals as goal

pub same_fields-returns-then-not-same_name : goal.same_fields-returns-then-not-same_name
same_fields-returns-then-not-same_name t c = differ_key_at _ _ _ _ _ _ _ c.loop-at-test.true c.same_name.ensures c.if-not-same_name.true

pub same_fields-returns-then-not-same_type : goal.same_fields-returns-then-not-same_type
same_fields-returns-then-not-same_type t c = differ_value_at _ _ _ _ _ _ _ c.loop-at-test.true c.same_type.ensures c.if-not-same_type.true

pub same_type-returns-in-Rec-Rec : goal.same_type-returns-in-Rec-Rec
same_type-returns-in-Rec-Rec t c = same_type_rec _ _ _ _ _ _ _ c.in-Rec-Rec.is-0 c.in-Rec-Rec.is-1 c.as_slice-in-Rec-Rec.ensures c.as_slice-in-Rec-Rec-2.ensures c.same_fields.ensures

pub same_type-returns-in-Tuple-Tuple : goal.same_type-returns-in-Tuple-Tuple
same_type-returns-in-Tuple-Tuple t c = same_type_tuple _ _ _ _ _ _ _ c.in-Tuple-Tuple.is-0 c.in-Tuple-Tuple.is-1 c.as_slice-in-Tuple-Tuple.ensures c.as_slice-in-Tuple-Tuple-2.ensures c.same_types.ensures

pub same_type-returns-in-Set-Set : goal.same_type-returns-in-Set-Set
same_type-returns-in-Set-Set t c = same_type_set _ _ _ _ _ _ _ c.in-Set-Set.is-0 c.in-Set-Set.is-1 c.get.ensures c.get-in-Set-Set.ensures c.same_type.ensures

pub same_type-returns-in-ISet-ISet : goal.same_type-returns-in-ISet-ISet
same_type-returns-in-ISet-ISet t c = same_type_iset _ _ _ _ _ _ _ c.in-ISet-ISet.is-0 c.in-ISet-ISet.is-1 c.get-in-ISet-ISet.ensures c.get-in-ISet-ISet-2.ensures c.same_type-in-ISet-ISet.ensures

pub same_type-returns-in-Valency-Valency : goal.same_type-returns-in-Valency-Valency
same_type-returns-in-Valency-Valency t c = same_type_valency _ _ _ _ _ _ _ c.in-Valency-Valency.is-0 c.in-Valency-Valency.is-1 c.get-in-Valency-Valency.ensures c.get-in-Valency-Valency-2.ensures c.same_type-in-Valency-Valency.ensures

pub same_type-returns-then-same_type : goal.same_type-returns-then-same_type
same_type-returns-then-same_type t c = same_map_then _ _ _ _ _ _ _ _ _ _ _ _ c.in-Map-Map.is-0 c.in-Map-Map.is-1 c.get-in-Map-Map.ensures c.get-in-Map-Map-2.ensures c.get-then-same_type.ensures c.get-then-same_type-2.ensures c.if-same_type.true c.same_type-in-Map-Map.ensures c.same_type-then-same_type.ensures

pub same_type-returns-else-same_type : goal.same_type-returns-else-same_type
same_type-returns-else-same_type t c = same_map_else _ _ _ _ _ _ _ _ _ c.in-Map-Map.is-0 c.in-Map-Map.is-1 c.get-in-Map-Map.ensures c.get-in-Map-Map-2.ensures c.if-same_type.false c.same_type-in-Map-Map.ensures

pub same_types-returns-then-not-same_type : goal.same_types-returns-then-not-same_type
same_types-returns-then-not-same_type t c = differ_part_at _ _ _ _ _ _ _ c.loop-at-test.true c.same_type.ensures c.if-not-same_type.true
