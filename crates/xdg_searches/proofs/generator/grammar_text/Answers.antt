use Rattle.std.proofs.Common.{◌≤◌, length, refl, subst, sym}
use Rattle.xdg_searches.proofs.Lengths.{grammar_short}
use Rattle.xdg_searches.proofs.Texts.{grammar_made}
use Rattle.xdg_searches.proofs.generator.grammar_text.Goals as goal

pub returns-clause-text : goal.returns-clause-text
returns-clause-text c = grammar_made c.args.number _ _ _ _ _ _ _ c.nouns.ensures c.new-text.ensures refl c.in_ok-push_str.ensures.ok c.in_ok-push_numbered.ensures c.in_ok-push_numbered-2.ensures c.in_ok-push_str-2.ensures.ok

pub returns-clause-short : goal.returns-clause-short
returns-clause-short c =
    let made = grammar_made c.args.number _ _ _ _ _ _ _ c.nouns.ensures c.new-text.ensures refl c.in_ok-push_str.ensures.ok c.in_ok-push_numbered.ensures c.in_ok-push_numbered-2.ensures c.in_ok-push_str-2.ensures.ok in
    subst (λ z. length z ≤ 4194304) (sym made) (grammar_short c.args.number)
