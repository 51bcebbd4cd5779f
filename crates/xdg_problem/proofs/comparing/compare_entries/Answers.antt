use Rattle.std.proofs.Common.{refl, sym, subst, ap, ◌∙◌}
use Rattle.xdg_base.specs.contracts.ids.EntryNoOrd.TheImpl as entry_order
use Rattle.xdg_problem.specs.EntryNumbers.{entry_numbers}
use Rattle.xdg_facts.proofs.Compared.{Tells, compared, tells_less, tells_equal, tells_greater}
use Rattle.xdg_problem.proofs.EntryOrder.{compare_numbers, numbers_equal}
use Rattle.xdg_problem.proofs.comparing.compare_entries.Goals as goal

pub returns : goal.returns
returns c =
    let told = subst (λ o. Tells o (entry_numbers c.args.a.now) (entry_numbers c.args.b.now)) (sym (c.cmp.ensures ∙ compare_numbers entry_order.cmp-value.it (λ x y. refl) c.args.a.now c.args.b.now)) (compared (entry_numbers c.args.a.now) (entry_numbers c.args.b.now)) in
    let same = tells_equal _ _ _ told in
    record { less = tells_less _ _ _ told; equal = (λ e. numbers_equal _ _ (same.0 e), λ e. same.1 (ap entry_numbers e)); greater = tells_greater _ _ _ told }
