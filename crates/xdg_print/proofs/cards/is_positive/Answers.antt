use Rattle.std.proofs.Common.{ap, sym, ◌∙◌, nat_lt}
use Rattle.std.specs.Prelude.{not}
use Rattle.xdg_domain.specs.Cards.{cards}
use Rattle.xdg_print.proofs.Signs.{zero_allowed, zero_refused}
use Rattle.xdg_print.proofs.cards.is_positive.Goals as goal
use Rattle.xdg_facts.proofs.Texts.{test_of_same}

pub returns-then-not-contains : goal.returns-then-not-contains
returns-then-not-contains c =
    test_of_same c.equals.result c.args.cards.now (cards (λ n. nat_lt 0 n))
    (zero_refused c.args.cards.now c.with.result c.equals.result c.contains.ensures.cards (sym c.if-not-contains.ensures.value) c.with.ensures.value ((λ e. c.equals.ensures.0 e ∙ c.all.ensures.value), (λ e. c.equals.ensures.1 (e ∙ sym c.all.ensures.value))))

pub returns-else-not-contains : goal.returns-else-not-contains
returns-else-not-contains c =
    ap not c.if-not-contains.false ∙ test_of_same _ c.args.cards.now (cards (λ n. nat_lt 0 n)) (zero_allowed c.args.cards.now (sym c.if-not-contains.ensures.value))
