use Rattle.std.proofs.Common.{◌≡◌, ◌==◌, true, false, arith}
use Rattle.xdg_lex.proofs.Undone.{turn_escaped, turn_plain, turn_backslash, turn_quote, all_undone}
use Rattle.xdg_lex.proofs.contents.unquoted.Goals as goal

pub loop-c-preserved-then-escaped : goal.loop-c-preserved-then-escaped
loop-c-preserved-then-escaped c = turn_escaped _ _ _ _ _ _ c.in-Some.c c.if-escaped.true c.in_ok-push.ensures.bytes c.loop-c.invariant c.in-Some.ensures.steps.0

pub loop-c-preserved-then-c-eq92 : goal.loop-c-preserved-then-c-eq92
loop-c-preserved-then-c-eq92 c =
    let b : (c.in-Some.c == 92) ≡ true = grind (arith, c.if-c-eq92.true) in
    turn_backslash _ _ _ _ _ c.in-Some.c c.if-escaped.false b c.loop-c.invariant c.in-Some.ensures.steps.0

pub loop-c-preserved-in-Continue-branch-2 : goal.loop-c-preserved-in-Continue-branch-2
loop-c-preserved-in-Continue-branch-2 c =
    let b : (c.in-Some.c == 92) ≡ false = grind (arith, c.if-c-eq92.false) in
    let q : (c.in-Some.c == 34) ≡ false = grind (arith, c.if-c-ne34.true) in
    turn_plain _ _ _ _ _ _ c.in-Some.c c.if-escaped.false b q c.in_ok-push-2.ensures.bytes c.loop-c.invariant c.in-Some.ensures.steps.0

pub loop-c-preserved : goal.loop-c-preserved
loop-c-preserved c =
    let q : (c.in-Some.c == 34) ≡ true = grind (arith, c.if-c-ne34.false) in
    turn_quote _ _ _ _ _ c.in-Some.c c.if-escaped.false q c.loop-c.invariant c.in-Some.ensures.steps.0

pub returns : goal.returns
returns c = all_undone _ _ _ _ c.loop-c.invariant c.in-None.ensures.steps.0.0
