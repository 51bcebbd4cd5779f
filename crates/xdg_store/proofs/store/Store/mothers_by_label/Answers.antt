use Rattle.std.proofs.Common.{◌≤◌, ◌+◌, ◌∙◌, List, length, drop, take, ap, subst, sym}
use Rattle.xdg_store.specs.declared.across.Mothers.{Mothers}
use Rattle.xdg_store.proofs.Histories.{known_seen}
use Rattle.xdg_store.proofs.Kept.{mothers_are, rows_within}
use Rattle.xdg_store.proofs.store.Store.mothers_by_label.Goals as goal

pub returns-then-labels-eq0-clause-known : goal.returns-then-labels-eq0-clause-known
returns-then-labels-eq0-clause-known c = known_seen c.self.invariant.0 c.self.view_is

pub part_of-requires : goal.part_of-requires
part_of-requires c = subst (λ (xs : List Mothers). c.mothers_at-first.result + c.args.labels ≤ length xs) (sym c.as_slice-rows.ensures.value)
    (rows_within c.self.invariant.0 c.self.view_is c.self.invariant.4 c.self.invariant.5 c.self.invariant.1 c.if-labels-eq0.false c.requires c.mothers_at-first.ensures)

pub returns-clause-mothers : goal.returns-clause-mothers
returns-clause-mothers c = mothers_are c.self.invariant.0 c.self.view_is c.self.invariant.4 c.self.invariant.5 c.self.invariant.1 c.if-labels-eq0.false c.requires c.mothers_at-first.ensures
    (c.part_of.ensures ∙ ap (λ (xs : List Mothers). take c.args.labels (drop c.mothers_at-first.result xs)) c.as_slice-rows.ensures.value)

pub returns-clause-known : goal.returns-clause-known
returns-clause-known c = known_seen c.self.invariant.0 c.self.view_is
