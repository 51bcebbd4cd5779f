use Rattle.std.proofs.Common.{arith, refl, sym, ◌∙◌}
use Rattle.std.proofs.lemmas.Bool.{false≢true}
use Rattle.xdg_nodeset.proofs.TableSets.{no_in}
use Rattle.xdg_problem.specs.Arguments.{first_dim}
use Rattle.xdg_rules.specs.Rules.{IsDecided, attr_of_node}
use Rattle.xdg_porder.specs.Yields.{IsBrokenAt}
use Rattle.xdg_porder.proofs.Ending.{table_at}
use Rattle.xdg_porder.proofs.Testing.{broken_fails, none_fails, failing_settled}
use Rattle.xdg_porder.proofs.failing.fails_test.Goals as goal
use Rattle.xdg_facts.proofs.Numbers.{all_next}

pub returns-then-not-are_settled : goal.returns-then-not-are_settled
returns-then-not-are_settled c = (
  λ t. absurd (false≢true t),
  λ failing. absurd (false≢true (sym c.if-not-are_settled.true ∙ c.are_settled.ensures.1 (failing_settled c.args.store.now.parts c.args.group.now c.args.store.now.now c.requires.at.0.known.is_box c.requires.at.1 c.requires.yields failing))),
)

pub note_above-requires : goal.note_above-requires
note_above-requires c = record { blank = no_in _ 128 c.empty-table.result refl c.empty-table.ensures.value }

pub returns-then-fails_at : goal.returns-then-fails_at
returns-then-fails_at c = (
  λ t. broken_fails c.args.store.now.parts c.args.group.now c.args.store.now.now c.requires.at.0.known.is_box c.note_above.new.table (table_at c.args.store.now.parts c.args.store.now.now c.note_above.new.table c.dim_of.result.0 (first_dim c.args.group.now) c.dim_of.ensures c.note_above.ensures.exact) c.requires.at.1 c.requires.yields c.loop-u.u (let l = c.loop-u-test.true in let e = c.node_count-u-end.ensures.size in omega (arith, l, e)) (c.are_settled.ensures.0 c.if-not-are_settled.false) (c.fails_at.ensures.0 c.if-fails_at.true),
  λ failing. refl,
)

pub loop-u-preserved : goal.loop-u-preserved
loop-u-preserved c = all_next (λ u. IsDecided c.args.store.now.now (attr_of_node c.args.store.now.parts c.args.group.now 0 u) × IsBrokenAt c.args.store.now.parts c.args.group.now c.note_above.new.table c.args.store.now.now u → ⊥) c.loop-u.u c.loop-u.invariant (λ both. false≢true (sym c.if-fails_at.false ∙ c.fails_at.ensures.1 both))

pub returns : goal.returns
returns c = (
  λ t. absurd (false≢true t),
  λ failing. absurd (none_fails c.args.store.now.parts c.args.group.now c.args.store.now.now c.requires.at.0.known.is_box c.note_above.new.table (table_at c.args.store.now.parts c.args.store.now.now c.note_above.new.table c.dim_of.result.0 (first_dim c.args.group.now) c.dim_of.ensures c.note_above.ensures.exact) c.requires.at.1 c.requires.yields (λ u within both. c.loop-u.invariant u (let n = c.loop-u-test.false in let e = c.node_count-u-end.ensures.size in omega (arith, n, e, within)) both) failing),
)
