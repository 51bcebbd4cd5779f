use Rattle.std.proofs.Common.{◌≡◌, ◌<◌, ◌*◌, true, false, [], arith, length, get_or, subst, sym}
use Rattle.xdg_store.specs.Singles.{IsAlone}
use Rattle.xdg_store.proofs.Alone.{candidates_at, stops}
use Rattle.xdg_store.proofs.single.are_entries_alone.Goals as goal

pub returns-then-not-is_alone : goal.returns-then-not-is_alone
returns-then-not-is_alone c =
    let l : c.loop-node.node < length c.args.candidates.now = (let t = c.loop-node-test.true in omega (arith, t)) in
    let size = candidates_at c.args.candidates.now c.index-candidates-node.result c.loop-node.node c.len.result l c.index-candidates-node.is c.len.ensures in (
      λ t. absurd (let q : false ≡ true = t in cc),
      λ all. absurd (stops (λ k. IsAlone c.args.trail.now.words (k * 1024) (length (get_or c.args.candidates.now k []))) (length c.args.candidates.now) c.loop-node.node c.is_alone.result l
          (λ alone. c.is_alone.ensures.1 (subst (IsAlone c.args.trail.now.words (c.loop-node.node * 1024)) (sym size) alone)) c.if-not-is_alone.true all),
    )
