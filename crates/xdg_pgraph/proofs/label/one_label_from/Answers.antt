use Rattle.std.proofs.Common.{◌≡◌, ◌∙◌, refl, sym, subst, arith}
use Rattle.std.proofs.lemmas.Bool.{and_parts}
use Rattle.xdg_rules.specs.Rules.{must_edges}
use Rattle.xdg_propcore.specs.Passes.{Clears}
use Rattle.xdg_graph.specs.declared.which.Which.TheVariants as whichs
use Rattle.xdg_pgraph.specs.Ruling.{OneLabelOf}
use Rattle.xdg_pgraph.specs.Seeking.{Doubled, FromTo}
use Rattle.xdg_pgraph.proofs.Beside.{LabelsInto, label_skip, label_turn, labels_from}
use Rattle.xdg_pgraph.proofs.Ruled.{part_none}
use Rattle.xdg_pgraph.proofs.Told.{leaves_other}
use Rattle.xdg_pgraph.proofs.label.one_label_from.Goals as goal
use Rattle.xdg_facts.specs.Rises.{has}

pub loop-daughter-init : goal.loop-daughter-init
loop-daughter-init c = (
  part_none (OneLabelOf (λ e. e.mother.0 ≡ c.args.mother)) (LabelsInto c.args.mother 0) c.args.plane.now.dim.0 c.args.pass.now c.args.store.now (λ group on quiet d v x h. (let l = x.1 in omega (arith, l))),
  refl,
  c.requires.known,
)

pub one_label_between-requires-clause-differ : goal.one_label_between-requires-clause-differ
one_label_between-requires-clause-differ c = leaves_other whichs.Must c.args.store.now.parts c.args.store.now.now c.args.plane.now c.requires.plane c.args.mother c.loop-daughter.daughter c.entered_from-must.result c.entered_from-must.ensures
    (and_parts (has c.entered_from-must.result.some c.loop-daughter.daughter) (has c.entered_from.result.more c.loop-daughter.daughter) (sym (c.meet-doubled.ensures.members c.loop-daughter.daughter) ∙ sym c.if-not-contains.ensures.value)).0

pub loop-daughter-preserved-then-not-contains : goal.loop-daughter-preserved-then-not-contains
loop-daughter-preserved-then-not-contains c =
    (label_skip c.args.plane.now.dim.0 c.args.pass.now c.loop-daughter.pass c.args.store.now c.loop-daughter.store c.args.mother c.loop-daughter.daughter c.entered_from-must.result c.entered_from.result c.meet-doubled.result c.entered_from-must.ensures c.entered_from.ensures c.meet-doubled.ensures.members (sym c.if-not-contains.ensures.value) c.loop-daughter.invariant.0, c.loop-daughter.invariant.1, c.loop-daughter.invariant.2)

pub loop-daughter-preserved : goal.loop-daughter-preserved
loop-daughter-preserved c =
    let same = c.loop-daughter.invariant.1 in (
      label_turn c.args.plane.now.dim.0 c.args.pass.now c.loop-daughter.pass c.one_label_between.new.pass c.args.store.now c.loop-daughter.store c.one_label_between.new.store c.args.mother c.loop-daughter.daughter c.loop-daughter.invariant.0
          (subst (λ z. Clears (Doubled z c.args.plane.now.dim.0 (must_edges z c.loop-daughter.store.now c.args.plane.now.dim.0) (FromTo c.args.mother c.loop-daughter.daughter)) c.loop-daughter.pass c.loop-daughter.store c.one_label_between.new.pass c.one_label_between.new.store) same c.one_label_between.ensures.clears),
      c.one_label_between.ensures.clears.same ∙ same,
      c.one_label_between.ensures.known,
    )

pub returns-clause-runs : goal.returns-clause-runs
returns-clause-runs c = labels_from c.args.plane.now c.args.pass.now c.loop-daughter.pass c.args.store.now c.loop-daughter.store c.requires.plane c.args.mother c.loop-daughter.daughter
    (let t = c.loop-daughter-test.false in omega (arith, t)) c.loop-daughter.invariant.0
