-- Attributes of nodes: the values that remain are of their types.
use Rattle.std.proofs.Common.{◌≡◌, ℕ, ◌<◌, sym, arith, subst}
use Rattle.xdg_problem.specs.declared.parts.Parts.{Parts}
use Rattle.xdg_problem.specs.Arguments.{value_count}
use Rattle.xdg_problem.specs.Boxes.{Has}
use Rattle.xdg_problem.specs.Places.{nodes}
use Rattle.xdg_store.specs.Layout.{attr_row}
use Rattle.xdg_store.specs.States.{State, Known}
use Rattle.xdg_store.proofs.Located.{attr_located}
use Rattle.xdg_graph.proofs.Remaining.{below_size}
use Rattle.xdg_graph.specs.Slots.{IsSlot, decision_of}
use Rattle.xdg_graph.specs.declared.slot.Slot.{Slot}

-- a value that remains is one of its type
pub slot_below : (s : State) (slot : Slot) (v : ℕ) → Known s → IsSlot s.parts slot → Has s.now (decision_of s.parts slot) v → v < slot.count
slot_below s slot v known is has =
    let l = below_size s.parts s.now (decision_of s.parts slot) (attr_row (nodes s.parts) slot.dim.0 slot.node.0 slot.attr.0) (value_count s.parts slot.dim.0 slot.attr.0) v known.is_box (attr_located s.parts known.problem.candidates_each slot.dim.0 slot.node.0 slot.attr.0 is.dim_in is.node_in is.attr_in) has in
    let e = is.count_is in
    omega (arith, l, e)

-- an attribute of a node stays one where the parts stay
pub slot_stays : (new old : Parts) (slot : Slot) → new ≡ old → IsSlot old slot → IsSlot new slot
slot_stays new old slot same is = subst (λ parts. IsSlot parts slot) (sym same) is
