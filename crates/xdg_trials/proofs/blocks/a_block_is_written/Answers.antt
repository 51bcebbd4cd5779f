use Rattle.xdg_text.proofs.Small.{small_analysis}
use Rattle.xdg_trials.proofs.blocks.a_block_is_written.Goals as goal

pub write-requires : goal.write-requires
write-requires g c = small_analysis _ _ c.in_ok-problem.ensures c.in_ok-analysis.ensures
