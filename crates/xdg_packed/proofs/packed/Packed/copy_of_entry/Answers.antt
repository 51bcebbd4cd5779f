use Rattle.std.proofs.Common.{◌<◌, ◌++◌, ◌∷◌, [], get_or, map, length, sym, ap, ap₂, subst, ◌∙◌, arith}
use Rattle.std.proofs.lemmas.List.{take_all}
use Rattle.xdg_packed.specs.Tables.{records}
use Rattle.xdg_packed.proofs.Unpacked.{HoldsDim, holds_packed, read_dim, row_back}
use Rattle.xdg_packed.proofs.packed.Packed.copy_of_entry.Goals.{After-table-item}
use Rattle.xdg_packed.proofs.packed.Packed.copy_of_entry.Goals as goal
use Rattle.xdg_facts.proofs.Fronts.{map_next}

table : (c : After-table-item) → HoldsDim c.args.self.now.entries c.loop-table.table-index c.table-item.result
table c =
    read_dim _ _ (holds_packed c.self.view_is c.self.invariant) _ c.loop-table.table-index _ c.as_slice-table-items.ensures.value
    (subst (λ list. c.loop-table.table-index < length list) c.as_slice-table-items.ensures.value c.loop-table-test.true) c.table-item.is

pub record-requires-clause-right : goal.record-requires-clause-right
record-requires-clause-right c = (table (goal.at.record-requires-clause-right c).After-table-item).right

pub record-requires-clause-within : goal.record-requires-clause-within
record-requires-clause-within c = let h = table (goal.at.record-requires-clause-within c).After-table-item in omega (arith, h.long, c.requires)

pub loop-table-preserved : goal.loop-table-preserved
loop-table-preserved c =
    c.in_ok-push.ensures.ok ∙ ap₂ (λ made fields. made ++ fields ∷ []) c.loop-table.invariant (c.in_ok-copy_of.ensures ∙ c.record.ensures)
    ∙ sym (map_next (λ table. get_or (records table) c.args.number []) c.as_slice-table-items.result.now c.loop-table.table-index c.table-item.result c.loop-table-test.true c.table-item.is)

pub returns : goal.returns
returns c =
    let holds = holds_packed c.self.view_is c.self.invariant in
    c.loop-table.invariant
    ∙ ap (map (λ table. get_or (records table) c.args.number [])) (take_all c.loop-table.table-index c.as_slice-table-items.result.now (omega (arith, c.loop-table-test.false)) ∙ c.as_slice-table-items.ensures.value)
    ∙ row_back _ _ holds.equal holds.are c.args.number c.requires
