use Rattle.std.proofs.Common.{◌++◌, ◌∙◌, ap, sym, append-nil, append_assoc}
use Rattle.unicode_segmentation.specs.Iter.{word_bound_indices_left}
use Rattle.xdg_linear.specs.Segments.{all_dark, dark}
use Rattle.xdg_linear.proofs.segments.segments_of.Goals as goal

pub loop-at-init : goal.loop-at-init
loop-at-init c = ap (λ z. z ++ all_dark (word_bound_indices_left c.into_iter-at-iterator.result)) c.new-words.ensures
    ∙ ap (λ z. all_dark (word_bound_indices_left z)) c.into_iter-at-iterator.ensures.into_iter_gives
    ∙ ap all_dark c.split_word_bound_indices-at-items.ensures.left

pub loop-at-preserved : goal.loop-at-preserved
loop-at-preserved c =
    ap (λ z. z ++ all_dark (word_bound_indices_left c.next.new.self)) c.in_ok-add_piece.ensures
    ∙ append_assoc c.loop-at.words (dark c.in-Some.at c.in-Some.piece.now) (all_dark (word_bound_indices_left c.next.new.self))
    ∙ ap (λ z. c.loop-at.words ++ all_dark z) (sym c.in-Some.ensures.steps)
    ∙ c.loop-at.invariant

pub returns : goal.returns
returns c = sym (append-nil c.loop-at.words) ∙ ap (λ z. c.loop-at.words ++ all_dark z) (sym c.in-None.ensures.steps.0) ∙ c.loop-at.invariant
