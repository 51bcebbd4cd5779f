use Rattle.std.proofs.Common.{refl, true≢false, sym, ◌∙◌}
use Rattle.std.proofs.lemmas.Option.{slice_get_read, slice_get_past}
use Rattle.xdg_packed.proofs.Places.{none_in, other_name, told_in}
use Rattle.xdg_packed.proofs.word.word_in.Goals as goal

pub returns-in-None : goal.returns-in-None
returns-in-None c = none_in c.args.dims.now c.args.at (slice_get_past c.args.dims.now c.args.at c.in-None.ensures.lookup.3)

pub returns-then-is_lex : goal.returns-then-is_lex
returns-then-is_lex c =
    told_in c.args.dims.now c.args.at c.in-Some.dim.now c.word_field.result (slice_get_read c.args.dims.now _ c.args.at c.in-Some.dim.now refl c.in-Some.ensures.lookup.3.0 c.in-Some.ensures.lookup.1)
    (c.is_lex.ensures.0 c.if-is_lex.true) (rw c.as_slice.ensures at c.word_field.ensures)

pub returns-else-is_lex : goal.returns-else-is_lex
returns-else-is_lex c =
    other_name c.args.dims.now c.args.at c.in-Some.dim.now (slice_get_read c.args.dims.now _ c.args.at c.in-Some.dim.now refl c.in-Some.ensures.lookup.3.0 c.in-Some.ensures.lookup.1)
    (λ name. true≢false (sym (c.is_lex.ensures.1 name) ∙ c.if-is_lex.false))
