use Rattle.std.proofs.Common.{◌≤◌, inl, inr, length, sym, ◌∙◌, rules}
use Rattle.std.proofs.lemmas.Bool.{eqb-true}
use Rattle.xdg_inputs.specs.Answers.{meaning_of}
use Rattle.xdg_corpus.proofs.Grouping.{takes_line, takes_none, takes_some}
use Rattle.xdg_corpus.proofs.group.take_group.Goals as goal
use Rattle.xdg_corpus.proofs.group.take_group.Goals.{then-loop-alloc-test+else-not-is_empty, else-loop-alloc-test}

pub loop-alloc-init : goal.loop-alloc-init
loop-alloc-init c = (c.utf8.text, takes_none (meaning_of c.args.expanded.now) c.args.options.now c.args.text.now c.new-group.result c.new-group.ensures.sentences, c.requires.stock)

pub loop-alloc-preserved : goal.loop-alloc-preserved
loop-alloc-preserved c = (
  search rules,
  takes_line (meaning_of c.args.expanded.now) c.args.options.now c.args.text.now c.loop-alloc.group c.add_line.new.group c.loop-alloc.rest.now c.first_line.result.0.now c.first_line.result.1.now c.loop-alloc.invariant.1 c.first_line.ensures.lines c.first_line.ensures.rest c.in_ok-add_line.ensures.lines,
  c.in_ok-add_line.ensures.stock,
)

pub returns-clause-some : goal.returns-clause-some
returns-clause-some c =
    takes_some (meaning_of c.args.expanded.now) c.args.options.now c.args.size c.args.text.now c.loop-alloc.group c.loop-alloc.rest.now c.requires.size c.loop-alloc.invariant.1
    (elim c.loop-alloc-test.branch [ then-loop-alloc-test+else-not-is_empty w ↦ inr (eqb-true (length c.loop-alloc.rest.now) 0 (sym w.is_empty.ensures ∙ w.if-not-is_empty.false)) | else-loop-alloc-test w ↦ inl (let full : c.args.size ≤ length c.loop-alloc.group.sentences.items = search rules in full) ])
