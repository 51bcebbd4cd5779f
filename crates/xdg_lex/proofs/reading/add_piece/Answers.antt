use Rattle.std.proofs.Common.{◌≡◌, ◌-◌, refl, sym, ap, ◌∙◌, Ok, length, arith}
use Rattle.xdg_lex.specs.Pieces.{ends}
use Rattle.xdg_lex.proofs.Turns.{token_added}
use Rattle.xdg_lex.proofs.reading.add_piece.Goals as goal

pub returns-in_ok-push-in-Ok-Some : goal.returns-in_ok-push-in-Ok-Some
returns-in_ok-push-in-Ok-Some c =
    let size : c.args.span.end - c.args.span.start ≡ length c.args.text.now = omega (arith, c.requires) in
    token_added _ _ _ c.in-Ok-Some.kind _ _ c.in_ok-push-in-Ok-Some.ensures.ok c.refined-kind.ensures refl c.requires (ap Ok (sym c.in-Ok-Some.field-0-is) ∙ c.in-Ok-Some.ensures ∙ ap (ends c.args.mode c.args.span.start) size)
