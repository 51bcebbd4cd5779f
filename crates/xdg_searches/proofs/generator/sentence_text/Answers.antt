use Rattle.std.proofs.Common.{◌≤◌, length, subst, sym}
use Rattle.xdg_searches.proofs.Lengths.{sentence_short}
use Rattle.xdg_searches.proofs.Texts.{sentence_made}
use Rattle.xdg_searches.proofs.generator.sentence_text.Goals as goal

pub returns-clause-text : goal.returns-clause-text
returns-clause-text c = sentence_made c.args.number _ _ _ _ _ _ c.adjectives.ensures c.noun.ensures c.new-text.ensures c.in_ok-push_str.ensures.ok c.in_ok-push_numbered.ensures c.in_ok-push_number.ensures

pub returns-clause-short : goal.returns-clause-short
returns-clause-short c =
    let made = sentence_made c.args.number _ _ _ _ _ _ c.adjectives.ensures c.noun.ensures c.new-text.ensures c.in_ok-push_str.ensures.ok c.in_ok-push_numbered.ensures c.in_ok-push_number.ensures in
    subst (λ z. length z ≤ 65536) (sym made) (sentence_short c.args.number)
