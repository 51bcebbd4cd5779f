use Rattle.std.proofs.Common.{sym, ap, ◌+◌}
use Rattle.std.proofs.lemmas.Result.{err_from_is_err_and}
use Rattle.xdg_ast.specs.Lexemes.{lexemes_of}
use Rattle.xdg_lex.proofs.Steps.{more_read, refused_on, cut}
use Rattle.xdg_lex.proofs.Turns.{moved, next_turn, begin_refused, end_refused, last_refused, whole_read}
use Rattle.xdg_lex.proofs.reading.read.Goals.{in-GoesOn, in-Ends+in_ok-add_piece-in-Ends+in-Ok}
use Rattle.xdg_lex.proofs.reading.read.Goals as goal

pub split_at-requires-text-self : goal.split_at-requires-text-self
split_at-requires-text-self c _ = c.loop-c.invariant.left_utf8

pub add_piece-requires-2-text-text : goal.add_piece-requires-2-text-text
add_piece-requires-2-text-text c _ = c.loop-c.invariant.left_utf8

pub returns-in-Refused : goal.returns-in-Refused
returns-in-Refused c = refused_on _ _ _ _ _ _ _ _ c.in-Some.c _ c.loop-c.invariant c.in-Some.ensures.steps.0 (sym c.in-Refused.ensures)

pub returns-in_err-add_piece-in-Ends : goal.returns-in_err-add_piece-in-Ends
returns-in_err-add_piece-in-Ends c =
    let p = err_from_is_err_and c.from_residual.result c.from_residual.ensures.1 in
    rw (p.1, p.2) (end_refused _ _ _ _ _ _ _ _ _ _ c.in-Some.c _ c.loop-c.invariant c.in-Some.ensures.steps.0 c.in-Ends.ensures c.split_at.ensures.front c.in_err-add_piece-in-Ends.ensures)

pub returns-in-Err : goal.returns-in-Err
returns-in-Err c = begin_refused _ _ _ _ _ _ _ _ _ _ c.in-Some.c _ c.loop-c.invariant c.in-Some.ensures.steps.0 c.in-Ends.ensures c.split_at.ensures.front c.in_ok-add_piece-in-Ends.ensures c.in-Err.ensures

pub loop-c-preserved : goal.loop-c-preserved
loop-c-preserved c = elim c.match-goes_on.branch [
  | in-GoesOn w ↦ moved _ _ _ _ _ _ _ _ _ _ _ _ (ap lexemes_of w.tokens-is) w.start-is (ap (λ n. c.loop-c.at + n) c.len_utf8.ensures.value) (ap (λ l. l.now) w.left-is) w.mode-is
      (more_read _ _ _ _ _ _ _ _ _ c.in-Some.c c.loop-c.invariant c.in-Some.ensures.steps.0 (sym w.in-GoesOn.ensures))
  | in-Ends+in_ok-add_piece-in-Ends+in-Ok w ↦ moved _ _ _ _ _ _ _ _ _ _ _ _ (ap lexemes_of w.tokens-is) w.start-is (ap (λ n. c.loop-c.at + n) c.len_utf8.ensures.value) (ap (λ l. l.now) w.left-is) w.mode-is
      (next_turn _ _ _ _ _ _ _ _ _ _ _ _ c.in-Some.c c.loop-c.invariant c.in-Some.ensures.steps.0 w.in-Ends.ensures w.split_at.ensures.front w.split_at.ensures.back w.in_ok-add_piece-in-Ends.ensures w.in-Ok.ensures)
]

pub returns-in_err-add_piece : goal.returns-in_err-add_piece
returns-in_err-add_piece c =
    let p = err_from_is_err_and c.from_residual-in_err-add_piece.result c.from_residual-in_err-add_piece.ensures.1 in
    rw (p.1, p.2) (last_refused _ _ _ _ _ _ _ _ _ c.loop-c.invariant c.in-None.ensures.steps.0.0 c.in_err-add_piece.ensures)

pub returns : goal.returns
returns c = whole_read _ _ _ _ _ _ _ _ c.loop-c.invariant c.in-None.ensures.steps.0.0 c.in_ok-add_piece.ensures

pub split_at-requires : goal.split_at-requires
split_at-requires c = cut _ _ _ _ _ _ _ c.loop-c.invariant
