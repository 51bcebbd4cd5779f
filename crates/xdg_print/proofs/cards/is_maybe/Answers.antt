use Rattle.std.proofs.Common.{◌≡◌, ◌∷◌, [], ◌∙◌, ap, sym}
use Rattle.xdg_domain.specs.Cards.{with_card}
use Rattle.xdg_print.proofs.Signs.{zero_and_one}
use Rattle.xdg_print.proofs.cards.is_maybe.Goals as goal
use Rattle.xdg_facts.proofs.Texts.{test_of_same}

pub returns : goal.returns
returns c =
    let is : c.with.result ≡ 0 ∷ 1 ∷ [] = c.with.ensures.value ∙ ap (λ s. with_card s 1) c.one.ensures.value ∙ zero_and_one in
    test_of_same c.equals.result c.args.cards.now (0 ∷ 1 ∷ []) ((λ e. c.equals.ensures.0 e ∙ is), (λ e. c.equals.ensures.1 (e ∙ sym is)))
