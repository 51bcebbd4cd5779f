use Rattle.std.proofs.Common.{ap, ◌∙◌}
use Rattle.xdg_build.specs.Grammars.{grammar_of}
use Rattle.xdg_build.specs.Nodes.{node_plan}
use Rattle.xdg_build.proofs.Stocked.{grown, word_entries}
use Rattle.xdg_build.proofs.stock.Stock.learn.Goals as goal

pub plan_node-requires-clause-numbers : goal.plan_node-requires-clause-numbers
plan_node-requires-clause-numbers c = word_entries (grammar_of c.args.checked.now c.args.packed.now) c.args.word.now c.of_word-numbers.result.now c.of_word-numbers.ensures

pub returns-clause-stock : goal.returns-clause-stock
returns-clause-stock c = record {
  dims = c.requires.stock.dims;
  uses = c.requires.stock.uses;
  records = c.in_ok-node.ensures.records;
  nodes = grown (grammar_of c.args.checked.now c.args.packed.now) c.args.self.now.words c.add.new.self c.args.self.now.nodes c.push.new.self c.args.word.now c.in_ok-share.field-0 c.in_ok-add.field-0 c.requires.stock.nodes c.requires.first
      (c.in_ok-share.ensures ∙ c.in_ok-node.ensures.node ∙ ap (node_plan (grammar_of c.args.checked.now c.args.packed.now)) c.of_word-numbers.ensures) c.in_ok-push.ensures.ok c.in_ok-add.ensures.new c.in_ok-add.ensures.ok;
}
