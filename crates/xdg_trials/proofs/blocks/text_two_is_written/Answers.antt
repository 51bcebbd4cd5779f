use Rattle.xdg_text.proofs.Small.{small_analysis}
use Rattle.xdg_trials.proofs.blocks.text_two_is_written.Goals as goal

pub write2-requires : goal.write2-requires
write2-requires g c = small_analysis _ _ c.in_ok-problem.ensures c.in_ok-analysis.ensures
