use Rattle.std.proofs.Common.{◌<◌, length, subst, arith}
use Rattle.xdg_names.proofs.Merging.{IsMerging, merging_starts, merging_goes, merging_ends}
use Rattle.xdg_names.proofs.walk.merge.Goals as goal
use Rattle.xdg_facts.proofs.In.{is_last}

pub merge-init : goal.merge-init
merge-init c = merging_starts _ _ _ c.requires.climb

pub bounds-marks-start : goal.bounds-marks-start
bounds-marks-start c =
    let v = subst (IsMerging c.args.marks.now c.args.top c.args.starts.now.items) c.in-Some.ensures.items c.merge.invariant in
    c.requires.within c.in-Some.start (v.old c.in-Some.start (is_last c.pop.new.self.items c.in-Some.start))

pub offset_bounds-marks-start : goal.offset_bounds-marks-start
offset_bounds-marks-start c =
    let v = subst (IsMerging c.args.marks.now c.args.top c.args.starts.now.items) c.in-Some.ensures.items c.merge.invariant in
    let w : c.in-Some.start < length c.args.marks.now = c.requires.within c.in-Some.start (v.old c.in-Some.start (is_last c.pop.new.self.items c.in-Some.start)) in
    omega arith

pub returns-then-marks-start : goal.returns-then-marks-start
returns-then-marks-start c =
    let v = subst (IsMerging c.args.marks.now c.args.top c.args.starts.now.items) c.in-Some.ensures.items c.merge.invariant in
    rw c.in_ok-push.ensures.items (merging_ends _ _ _ _ _ v c.if-marks-start.true)

pub merge-preserved : goal.merge-preserved
merge-preserved c =
    let v = subst (IsMerging c.args.marks.now c.args.top c.args.starts.now.items) c.in-Some.ensures.items c.merge.invariant in
    merging_goes _ _ _ _ _ v c.if-marks-start.false
