use Rattle.std.proofs.Common.{◌≡◌, ◌++◌}
use Rattle.unicode_segmentation.specs.Iter.{word_bound_indices_left}
use Rattle.xdg_linear.specs.Segments.{all_dark, segments}
use Rattle.xdg_linear.proofs.segments.segments_of.Given as goal

abbrev pub invariant-loop-at : goal.invariant-loop-at
invariant-loop-at l = l.words ++ all_dark (word_bound_indices_left l.at-iterator) ≡ segments l.text
