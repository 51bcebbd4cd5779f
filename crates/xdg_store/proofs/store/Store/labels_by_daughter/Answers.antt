use Rattle.std.proofs.Common.{◌≤◌, ◌+◌, ◌∙◌, List, length, drop, take, ap, subst, sym}
use Rattle.xdg_store.specs.declared.labels.LabelsInto.{LabelsInto}
use Rattle.xdg_store.proofs.Histories.{known_seen}
use Rattle.xdg_store.proofs.Telling.{part_told, part_within}
use Rattle.xdg_store.proofs.store.Store.labels_by_daughter.Goals as goal

pub part_of-requires : goal.part_of-requires
part_of-requires c = subst (λ (xs : List LabelsInto). c.labels_at-first.result + c.self.inside.node_count ≤ length xs) (sym c.as_slice.ensures.value)
    (part_within c.self.invariant.0 c.self.view_is c.self.invariant.4 c.self.invariant.5 c.self.invariant.1 c.labels_at-first.ensures c.requires)

pub returns-clause-labels : goal.returns-clause-labels
returns-clause-labels c = part_told c.self.invariant.0 c.self.view_is c.self.invariant.4 c.self.invariant.5 c.self.invariant.1 c.labels_at-first.ensures c.requires
    (c.part_of.ensures ∙ ap (λ (xs : List LabelsInto). take c.self.inside.node_count (drop c.labels_at-first.result xs)) c.as_slice.ensures.value)

pub returns-clause-known : goal.returns-clause-known
returns-clause-known c = known_seen c.self.invariant.0 c.self.view_is
