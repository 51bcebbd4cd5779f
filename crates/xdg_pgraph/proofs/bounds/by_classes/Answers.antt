use Rattle.std.proofs.Common.{◌+◌, [], length, get_or, refl, arith}
use Rattle.xdg_problem.specs.Boxes.{Has, entry_decision}
use Rattle.xdg_graph.proofs.Remaining.{entry_below}
use Rattle.xdg_pgraph.specs.declared.bounds.Allowed.{Allowed}
use Rattle.xdg_pgraph.specs.Bundles.{numbers_of}
use Rattle.xdg_pgraph.proofs.Allowed.{tells_next, tells_skip, tells_start}
use Rattle.xdg_pgraph.proofs.Classed.{IsIn, class_gone, class_is, class_left, class_next, each_in, none_in}
use Rattle.xdg_pgraph.proofs.Keeping.{widens_merged}
use Rattle.xdg_pgraph.proofs.bounds.by_classes.Goals as goal

pub loop-class-init : goal.loop-class-init
loop-class-init c = (omega arith, tells_start c.args.store.now.now c.args.bundle.node (numbers_of c.args.bundle.way c.args.group.now c.args.bundle.node c.args.bundle.label) 128 c.args.least c.args.most (IsIn c.args.classes.now 0) _ (none_in c.args.classes.now) refl (omega arith))

pub loop-class-preserved-then-class-remain-eq0 : goal.loop-class-preserved-then-class-remain-eq0
loop-class-preserved-then-class-remain-eq0 c = (
  c.loop-class.invariant.0,
  tells_skip c.args.store.now.now c.args.bundle.node (numbers_of c.args.bundle.way c.args.group.now c.args.bundle.node c.args.bundle.label) 128 c.args.least c.args.most (IsIn c.args.classes.now c.loop-class.class-index) (IsIn c.args.classes.now (c.loop-class.class-index + 1)) _
      (class_gone (length (get_or c.args.store.now.parts.candidates c.args.bundle.node [])) c.args.group.now c.args.bundle c.args.classes.now c.requires.classes c.args.store.now.now c.first_entries-remain.result
      (λ e few below. c.first_entries-remain.ensures.exact e few (record { node_in = c.requires.node; place_in = below }))
      c.loop-class.class-index _ c.loop-class-test.true c.if-class-remain-eq0.true)
      c.loop-class.invariant.1,
)

pub with_class_barred-barred-requires-clause-class : goal.with_class_barred-barred-requires-clause-class
with_class_barred-barred-requires-clause-class c = (class_is (length (get_or c.args.store.now.parts.candidates c.args.bundle.node [])) c.args.group.now c.args.bundle c.args.classes.now c.requires.classes c.loop-class.class-index _ c.loop-class-test.true).kept

pub loop-class-preserved : goal.loop-class-preserved
loop-class-preserved c =
    let is = class_is (length (get_or c.args.store.now.parts.candidates c.args.bundle.node [])) c.args.group.now c.args.bundle c.args.classes.now c.requires.classes c.loop-class.class-index _ c.loop-class-test.true in
    let left = class_left (length (get_or c.args.store.now.parts.candidates c.args.bundle.node [])) c.args.group.now c.args.bundle c.args.classes.now c.requires.classes c.args.store.now.now c.first_entries-remain.result
    (λ e few below. c.first_entries-remain.ensures.exact e few (record { node_in = c.requires.node; place_in = below }))
    c.loop-class.class-index _ c.loop-class-test.true c.first_entries-remain.type_inv c.if-class-remain-eq0.false in
    let old : Allowed = record { least = c.loop-class.first; behind = c.loop-class.behind } in
    let new : Allowed = record { least = c.min-first.result; behind = c.max-behind.result } in (
      c.min-first.type_inv,
      tells_next c.args.store.now.now c.args.bundle.node (numbers_of c.args.bundle.way c.args.group.now c.args.bundle.node c.args.bundle.label) 128 c.args.least c.args.most (IsIn c.args.classes.now c.loop-class.class-index) (IsIn c.args.classes.now (c.loop-class.class-index + 1)) _ (record { allowed = old; barred = c.loop-class.barred }) (record { allowed = new; barred = c.with_class_barred-barred.result }) left.0 left.1 left.2
          (class_next (length (get_or c.args.store.now.parts.candidates c.args.bundle.node [])) c.args.group.now c.args.bundle c.args.classes.now c.requires.classes c.args.store.now.now c.first_entries-remain.result
          (λ e few below. c.first_entries-remain.ensures.exact e few (record { node_in = c.requires.node; place_in = below }))
          c.loop-class.class-index _ c.loop-class-test.true)
          (widens_merged _ old _ new c.loop-class.invariant.0 c.min-first.ensures c.max-behind.ensures is.kept.spans) c.with_class_barred-barred.ensures c.loop-class.invariant.1,
    )

pub returns : goal.returns
returns c = tells_skip c.args.store.now.now c.args.bundle.node (numbers_of c.args.bundle.way c.args.group.now c.args.bundle.node c.args.bundle.label) 128 c.args.least c.args.most (IsIn c.args.classes.now c.loop-class.class-index) (Has c.args.store.now.now (entry_decision c.args.bundle.node)) _
    (λ e has again. each_in (length (get_or c.args.store.now.parts.candidates c.args.bundle.node [])) c.args.group.now c.args.bundle c.args.classes.now c.requires.classes e c.loop-class.class-index (entry_below c.args.store.now c.args.bundle.node e c.requires.known c.requires.node has) (let t = c.loop-class-test.false in omega (arith, t)))
    c.loop-class.invariant.1
