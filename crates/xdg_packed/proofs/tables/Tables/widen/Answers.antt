use Rattle.std.proofs.Common.{◌+◌, ◌∷◌, [], length, ap, ◌∙◌}
use Rattle.std.proofs.lemmas.List.{length-append}
use Rattle.xdg_packed.proofs.Growing.{wider}
use Rattle.xdg_packed.proofs.tables.Tables.widen.Goals as goal

pub loop-preserved : goal.loop-preserved
loop-preserved c =
    let now = wider c.loop.self.tables.items c.push.new.self.items c.loop.self.spellings.items c.push-in-loop.new.self.items c.new.result c.new-in-loop.result c.loop.invariant.0 c.new.ensures c.new-in-loop.ensures
    c.in_ok-push.ensures.items c.in_ok-push-2.ensures.items in (
      now.0,
      ap length c.in_ok-push.ensures.items ∙ length-append c.loop.self.tables.items (c.new.result ∷ []) ∙ ap (λ n. n + 1) c.loop.invariant.1,
      λ dim. now.1 dim ∙ c.loop.invariant.2 dim,
    )
