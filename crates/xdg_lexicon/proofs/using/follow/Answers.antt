use Rattle.std.proofs.Common.{◌-◌, arith}
use Rattle.xdg_classes.specs.Bodies.{Body, calling}
use Rattle.xdg_lexicon.specs.Denotes.{IsRanked}
use Rattle.xdg_lexicon.specs.Right.{IsRightUnder}
use Rattle.xdg_lexicon.specs.Weights.{weigh, sized}
use Rattle.xdg_lexicon.proofs.Denoted.{as_use, of_use}
use Rattle.xdg_lexicon.proofs.Followed.{Following, some_depth, has_place, entered, joined}
use Rattle.xdg_lexicon.proofs.using.follow.Goals as goal

pub class_of-class-requires : goal.class_of-class-requires
class_of-class-requires c = has_place c.args.checked.now c.args.depth c.args.name.now c.args.args.now c.requires.ranked c.as_str.result.now c.as_str.ensures

pub overflow_sub-left : goal.overflow_sub-left
overflow_sub-left c = some_depth c.args.checked.now c.args.depth c.args.name.now c.args.args.now c.requires.ranked

pub loop-class-init : goal.loop-class-init
loop-class-init c =
    entered c.args.checked.now c.args.depth c.args.name.now c.args.args.now c.requires.ranked c.class_of-class.ensures.keeps c.requires.within c.as_str.result.now c.as_str.ensures c.class_of-class.result.now c.class_of-class.ensures.found
    c.args.bindings.now c.in_ok-inside.inside c.in_ok-inside.ensures c.requires.right

pub class_of-class-requires-in-Use : goal.class_of-class-requires-in-Use
class_of-class-requires-in-Use c =
    has_place c.args.checked.now c.loop-class.left c.in-Use.next c.args_of.result.now
    (as_use (IsRanked c.args.checked.now c.loop-class.left) c.loop-class.class.now.body.kind c.in-Use.next c.in-Use.given c.args_of.result.now c.in-Use.is c.args_of.ensures c.loop-class.invariant.ranked) c.as_str-in-Use.result.now c.as_str-in-Use.ensures

pub overflow_sub-left-in-Use : goal.overflow_sub-left-in-Use
overflow_sub-left-in-Use c =
    some_depth c.args.checked.now c.loop-class.left c.in-Use.next c.args_of.result.now
    (as_use (IsRanked c.args.checked.now c.loop-class.left) c.loop-class.class.now.body.kind c.in-Use.next c.in-Use.given c.args_of.result.now c.in-Use.is c.args_of.ensures c.loop-class.invariant.ranked)

pub loop-class-smaller : goal.loop-class-smaller
loop-class-smaller c =
    let some = some_depth c.args.checked.now c.loop-class.left c.in-Use.next c.args_of.result.now
    (as_use (IsRanked c.args.checked.now c.loop-class.left) c.loop-class.class.now.body.kind c.in-Use.next c.in-Use.given c.args_of.result.now c.in-Use.is c.args_of.ensures c.loop-class.invariant.ranked) in
    omega (arith, some)

pub loop-class-preserved : goal.loop-class-preserved
loop-class-preserved c =
    let kind = c.loop-class.class.now.body.kind in
    let next = c.class_of-class-in-Use.result.now in
    let ranked = as_use (IsRanked c.args.checked.now c.loop-class.left) kind c.in-Use.next c.in-Use.given c.args_of.result.now c.in-Use.is c.args_of.ensures c.loop-class.invariant.ranked in
    let right = as_use (IsRightUnder c.args.checked.now.types c.args.checked.now.classes c.loop-class.inside) kind c.in-Use.next c.in-Use.given c.args_of.result.now c.in-Use.is c.args_of.ensures c.loop-class.invariant.right in
    let further = entered c.args.checked.now c.loop-class.left c.in-Use.next c.args_of.result.now ranked c.class_of-class-in-Use.ensures.keeps c.loop-class.invariant.within c.as_str-in-Use.result.now c.as_str-in-Use.ensures next c.class_of-class-in-Use.ensures.found
    c.loop-class.inside c.in_ok-inside-2.inside c.in_ok-inside-2.ensures right in
    joined c.args.checked.now c.args.bindings.now c.loop-class.inside c.in_ok-inside-2.inside (calling c.args.name.now c.args.args.now) (weigh (sized c.args.checked.now c.args.depth) (calling c.args.name.now c.args.args.now)) c.loop-class.class.now next c.loop-class.left
    (c.loop-class.left - 1) c.loop-class.invariant
    (of_use (λ (b : Body). Following c.args.checked.now c.loop-class.inside b (weigh (sized c.args.checked.now c.loop-class.left) b) next c.in_ok-inside-2.inside (c.loop-class.left - 1)) kind c.in-Use.next c.in-Use.given c.args_of.result.now c.in-Use.is c.args_of.ensures further)
