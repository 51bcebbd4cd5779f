use Rattle.std.proofs.Common.{◌∙◌, sym}
use Rattle.xdg_store.proofs.Alone.{alone_first}
use Rattle.xdg_store.proofs.rows.is_alone.Goals as goal

pub returns-then-is_set : goal.returns-then-is_set
returns-then-is_set c = alone_first c.args.trail.now.words c.args.start c.args.size c.loop-value.value c.has_other.result c.loop-value-test.true (sym c.is_set.ensures ∙ c.if-is_set.true) c.has_other.ensures
