use Rattle.std.proofs.Common.{arith}
use Rattle.xdg_trials.proofs.storing.removals_are_undone.Goals as goal

pub undo-requires : goal.undo-requires
undo-requires g c =
    let m = c.mark-mark.ensures.mark in
    let a = c.remove_entry-2.ensures.history in
    let b = c.remove_entry-3.ensures.history in
    let d = c.remove_entry-4.ensures.history in
    let e = c.remove_value.ensures.history in
    let f = c.remove_value-2.ensures.history in
    let h = c.forbid.ensures.history in
    let i = c.force.ensures.history in
    let j = c.force-2.ensures.history in
    omega (arith, m, a, b, d, e, f, h, i, j)
