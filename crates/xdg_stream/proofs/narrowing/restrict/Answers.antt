use Rattle.std.proofs.Common.{arith, sym, subst, ◌+◌, ◌*◌, ◌<◌, slice_index}
use Rattle.xdg_problem.specs.Vectors.{shape}
use Rattle.xdg_store.specs.Change.{RemovesAll}
use Rattle.xdg_store.specs.declared.change.Change.TheVariants as changes
use Rattle.xdg_store.specs.Decisions.{number_of}
use Rattle.xdg_stream.specs.Others.{IsOther}
use Rattle.xdg_stream.proofs.Restricting.{Restricting, restrict_same, restrict_changed, restrict_done, emptied_extends, emptied_lacks, emptied_others}
use Rattle.xdg_stream.proofs.narrowing.restrict.Goals as goal
use Rattle.xdg_stream.proofs.narrowing.restrict.Goals.{in-Same, in-Changed}

pub remove_others-requires-clause-block : goal.remove_others-requires-clause-block
remove_others-requires-clause-block c =
    let test = c.loop-block-test.true in
    let is = c.requires.size in
    let count = c.div_ceil-block-end.ensures in
    subst (λ q. c.loop-block.block * 64 < slice_index (shape q) (number_of q c.args.decision)) (sym c.loop-block.invariant.extends.same) (omega (arith, test, is, count))

pub returns-clause-restricts : goal.returns-clause-restricts
returns-clause-restricts c = restrict_done c.args.store.now c.loop-block.store c.loop-block.change (number_of c.args.store.now.parts c.args.decision) c.args.value c.loop-block.block c.args.size c.requires.size (let t = c.loop-block-test.false in let e = c.loop-block.auto.block-end in let count = c.div_ceil-block-end.ensures in omega (arith, t, e, count)) c.loop-block.invariant

pub loop-block-preserved : goal.loop-block-preserved
loop-block-preserved c =
    let old = c.args.store.now in
    let now = c.loop-block.store in
    let new = c.remove_others.new.store in
    let d = number_of c.args.store.now.parts c.args.decision in
    let v = c.args.value in
    let i = c.loop-block.block in
    let same = c.loop-block.invariant.extends.same in
    elim c.match-remove_others.branch [
      | in-Same w ↦ subst (λ z. Restricting old new z d v (i + 1)) (sym w.change-is) (restrict_same old now new c.loop-block.change d v i c.remove_others.ensures.known (subst (λ q. RemovesAll changes.Same now new (number_of q c.args.decision) (IsOther i v)) same w.in-Same.ensures.removes) c.loop-block.invariant)
      | in-Changed w ↦ subst (λ z. Restricting old new z d v (i + 1)) (sym w.change-is) (restrict_changed old now new c.loop-block.change d v i c.remove_others.ensures.known (subst (λ q. RemovesAll changes.Changed now new (number_of q c.args.decision) (IsOther i v)) same w.in-Changed.ensures.removes) c.loop-block.invariant)
    ]

pub returns-in-Emptied : goal.returns-in-Emptied
returns-in-Emptied c =
    let m = subst (λ q. RemovesAll changes.Emptied c.loop-block.store c.remove_others.new.store (number_of q c.args.decision) (IsOther c.loop-block.block c.args.value)) c.loop-block.invariant.extends.same c.in-Emptied.ensures.removes in
    let r = c.loop-block.invariant in
    record { extends = emptied_extends m r; restricts = emptied_lacks m r; only = emptied_others m r; known = c.remove_others.ensures.known }
