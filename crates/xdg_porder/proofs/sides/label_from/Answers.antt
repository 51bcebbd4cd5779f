use Rattle.std.proofs.Common.{◌≡◌, ◌-◌, ◌∙◌, ap, subst, sym}
use Rattle.xdg_porder.specs.Items.{label_at}
use Rattle.xdg_porder.specs.Sides.{label_from}
use Rattle.xdg_porder.proofs.sides.label_from.Goals as goal

pub returns-in-Left : goal.returns-in-Left
returns-in-Left c = subst (λ s. c.label_at.result.0 ≡ label_from c.args.group.now s c.args.place) (sym c.in-Left.is) c.label_at.ensures

pub returns-in-Right : goal.returns-in-Right
returns-in-Right c = subst (λ s. c.label_at-in-Right.result.0 ≡ label_from c.args.group.now s c.args.place) (sym c.in-Right.is) (c.label_at-in-Right.ensures ∙ ap (λ n. label_at c.args.group.now (n - 1 - c.args.place)) c.len.ensures)
