use Rattle.std.proofs.Common.{get_or, refl, arith}
use Rattle.xdg_build.specs.Grammars.{grammar_of}
use Rattle.xdg_build.proofs.Turns.{attributes_at, plans_more}
use Rattle.xdg_build.proofs.plans.plans_of.Goals as goal

pub dim_plan-requires : goal.dim_plan-requires
dim_plan-requires c =
    attributes_at c.args.dims.now (get_or c.args.used.now c.loop-place.place-index 0) c.index-dims-place.result c.requires.dims (c.requires.used c.loop-place.place-index 0 (omega arith)) c.index-dims-place.is

pub loop-place-preserved : goal.loop-place-preserved
loop-place-preserved c lexicon =
    plans_more (grammar_of c.args.checked.now lexicon) c.args.dims.now c.args.used.now c.loop-place.place-index (get_or c.args.used.now c.loop-place.place-index 0) c.index-dims-place.result c.loop-place.made c.push.new.self c.in_ok-dim_plan.field-0
    (omega arith) refl (c.requires.used c.loop-place.place-index 0 (omega arith)) c.index-dims-place.is (c.in_ok-dim_plan.ensures lexicon) (c.loop-place.invariant lexicon) c.in_ok-push.ensures.ok
