use Rattle.xdg_domain.specs.declared.values.Value.TheVariants as v
use Rattle.xdg_domain.specs.declared.values.Value.TheOpen.{Value-F}
use Rattle.xdg_domain.proofs.Compared.{made}
use Rattle.xdg_domain.proofs.+same.Goals as goal
use Rattle.xdg_facts.proofs.Mapped.{differ_key, differ_value}

pub values::Value::equals-returns-in-Valency-Valency : goal.values::Value::equals-returns-in-Valency-Valency
values::Value::equals-returns-in-Valency-Valency t c =
    made v.Valency Value-F.Valency v.outs-Valency (λ x y e. cc) _ _ _ _ _ _ _ c.in-Valency-Valency.is-0 c.in-Valency-Valency.is-1 c.as_slice.ensures.same c.as_slice-in-Valency-Valency.ensures.same c.same_cards.ensures

pub values::Value::equals-returns-in-Map-Map : goal.values::Value::equals-returns-in-Map-Map
values::Value::equals-returns-in-Map-Map t c = made v.Map Value-F.Map v.outs-Map (λ x y e. cc) _ _ _ _ _ _ _ c.in-Map-Map.is-0 c.in-Map-Map.is-1 c.as_slice-in-Map-Map.ensures c.as_slice-in-Map-Map-2.ensures c.same_entries.ensures

pub values::Value::equals-returns-in-Rec-Rec : goal.values::Value::equals-returns-in-Rec-Rec
values::Value::equals-returns-in-Rec-Rec t c = made v.Rec Value-F.Rec v.outs-Rec (λ x y e. cc) _ _ _ _ _ _ _ c.in-Rec-Rec.is-0 c.in-Rec-Rec.is-1 c.as_slice-in-Rec-Rec.ensures c.as_slice-in-Rec-Rec-2.ensures c.same_fields.ensures

pub comparing::same_entries-returns-then-one-at : goal.comparing::same_entries-returns-then-one-at
comparing::same_entries-returns-then-one-at t c = differ_key _ _ _ _ _ c.loop-at-test.true c.if-one-at.true

pub comparing::same_entries-returns-then-not-equals : goal.comparing::same_entries-returns-then-not-equals
comparing::same_entries-returns-then-not-equals t c = differ_value _ _ _ _ _ _ c.loop-at-test.true c.equals.ensures c.if-not-equals.true

pub comparing::same_fields-returns-then-one-at : goal.comparing::same_fields-returns-then-one-at
comparing::same_fields-returns-then-one-at t c = differ_key _ _ _ _ _ c.loop-at-test.true c.if-one-at.true

pub comparing::same_fields-returns-then-not-equals : goal.comparing::same_fields-returns-then-not-equals
comparing::same_fields-returns-then-not-equals t c = differ_value _ _ _ _ _ _ c.loop-at-test.true c.equals.ensures c.if-not-equals.true
