use Rattle.std.proofs.Common.{sym, ◌∙◌, subst}
use Rattle.xdg_check.specs.Checked.{IsOrder}
use Rattle.xdg_check.specs.Counts.{class_texts}
use Rattle.xdg_check.proofs.Assembled.{classes_are, apart, made_order, is_checked, is_checked_of, right_uses, names_slice, names_final, written_back}
use Rattle.xdg_check.proofs.LeftOut.{all_small}
use Rattle.xdg_check.proofs.Words.{word_lex}
use Rattle.xdg_check.proofs.passes.assemble.Goals as goal
use Rattle.xdg_facts.specs.Membership.{Differ}

pub fill_counts-requires-clause-names : goal.fill_counts-requires-clause-names
fill_counts-requires-clause-names c =
    names_slice c.args.statements.now c.args.table c.requires.named c.args.classes.now c.requires.ordered c.in_ok-made.made.items c.as_slice.result.now c.as_mut_slice.result.now c.in_ok-names.names
    c.in_ok-made.ensures c.as_slice.ensures.value c.as_mut_slice.ensures.value c.in_ok-names.ensures

pub fill_counts-requires-clause-apart : goal.fill_counts-requires-clause-apart
fill_counts-requires-clause-apart c =
    subst (λ cs. Differ (class_texts cs)) (sym c.as_mut_slice.ensures.value)
    (apart c.args.statements.now c.args.table c.requires.named c.args.classes.now c.requires.ordered c.in_ok-made.made.items
    (classes_are c.args.statements.now c.args.table c.requires.named c.args.classes.now c.requires.ordered c.in_ok-made.made.items c.in_ok-made.ensures))

pub fill_counts-requires-clause-ordered : goal.fill_counts-requires-clause-ordered
fill_counts-requires-clause-ordered c =
    subst (λ cs. IsOrder cs c.order.result.now) (sym c.as_mut_slice.ensures.value)
    (subst (IsOrder c.in_ok-made.made.items) (sym c.order.ensures)
    (made_order c.args.statements.now c.args.table c.requires.named c.args.classes.now c.requires.ordered c.in_ok-made.made.items
    (classes_are c.args.statements.now c.args.table c.requires.named c.args.classes.now c.requires.ordered c.in_ok-made.made.items c.in_ok-made.ensures)))

pub invariant_of-result : goal.invariant_of-result
invariant_of-result c = (
  is_checked c.args.statements.now c.args.table c.requires.named c.args.classes.now c.requires.ordered c.requires.valued c.requires.types (word_lex c.args.table c.args.words.0 c.args.words.1 c.requires.words) c.in_ok-principles.principles c.in_ok-entries.entries c.in_ok-entries.ensures
      c.in_ok-made.made.items c.as_mut_slice.result.now c.fill_counts.new.classes c.from_vec.result c.in_ok-made.ensures c.as_mut_slice.ensures.value c.fill_counts.ensures.same (c.from_vec.ensures ∙ written_back c.fill_counts.new.classes c.as_mut_slice.result.now c.in_ok-made.made.items c.in_ok-made.made.len c.in_ok-made.made.ok.0 c.as_mut_slice.ensures.value c.fill_counts.ensures.same)
      c.in_ok-order.order (c.in_ok-order.ensures ∙ c.order-2.ensures) c.fill_counts.ensures.uses c.fill_counts.ensures.combos (c.in_ok-principles.ensures.typed c.args.statements.now
      (right_uses c.args.statements.now c.args.table c.args.uses.now c.requires.uses c.requires.table c.requires.named c.requires.valued)),
  names_final c.args.statements.now c.args.table c.requires.named c.args.classes.now c.requires.ordered c.as_mut_slice.result.now c.fill_counts.new.classes c.from_vec.result c.in_ok-names.names
      (names_slice c.args.statements.now c.args.table c.requires.named c.args.classes.now c.requires.ordered c.in_ok-made.made.items c.as_slice.result.now c.as_mut_slice.result.now c.in_ok-names.names
      c.in_ok-made.ensures c.as_slice.ensures.value c.as_mut_slice.ensures.value c.in_ok-names.ensures)
      c.fill_counts.ensures.same (c.from_vec.ensures ∙ written_back c.fill_counts.new.classes c.as_mut_slice.result.now c.in_ok-made.made.items c.in_ok-made.made.len c.in_ok-made.made.ok.0 c.as_mut_slice.ensures.value c.fill_counts.ensures.same),
  c.requires.words,
)

pub returns-clause-made : goal.returns-clause-made
returns-clause-made c =
    is_checked_of c.args.statements.now c.args.table c.requires.named c.args.classes.now c.requires.ordered c.requires.valued c.requires.types (word_lex c.args.table c.args.words.0 c.args.words.1 c.requires.words) c.in_ok-principles.principles c.in_ok-entries.entries c.in_ok-entries.ensures
    c.in_ok-made.made.items c.as_mut_slice.result.now c.fill_counts.new.classes c.from_vec.result c.in_ok-made.ensures c.as_mut_slice.ensures.value c.fill_counts.ensures.same (c.from_vec.ensures ∙ written_back c.fill_counts.new.classes c.as_mut_slice.result.now c.in_ok-made.made.items c.in_ok-made.made.len c.in_ok-made.made.ok.0 c.as_mut_slice.ensures.value c.fill_counts.ensures.same)
    c.in_ok-order.order (c.in_ok-order.ensures ∙ c.order-2.ensures) c.fill_counts.ensures.uses c.fill_counts.ensures.combos (c.in_ok-principles.ensures.meant c.args.statements.now
    (right_uses c.args.statements.now c.args.table c.args.uses.now c.requires.uses c.requires.table c.requires.named c.requires.valued))

pub returns-clause-within : goal.returns-clause-within
returns-clause-within c =
    all_small c.args.statements.now c.args.classes.now c.in_ok-small.small c.requires.ordered c.in_ok-small.ensures c.if-not-small.false
