-- What the problems of a grammar share.
use Rattle.std.specs.Prelude.{◌≡◌, ℕ, List, [], map}
use Rattle.xdg_packed.specs.Lexicon.{words_of, numbers_of}
use Rattle.xdg_build.specs.declared.nodes.NodePlan.{NodePlan}
use Rattle.xdg_build.specs.Grammars.{Grammar}
use Rattle.xdg_build.specs.Groups.{groups_of}
use Rattle.xdg_build.specs.Known.{AreRecords}
use Rattle.xdg_build.specs.Nodes.{node_plan}
use Rattle.xdg_build.specs.declared.stock.Stock.{Stock}
use Rattle.xdg_build.specs.Plans.{plans}

-- what a node has by its word
abbrev pub word_plan : Grammar → List ℕ → NodePlan
word_plan g word = node_plan g (numbers_of (words_of g.lexicon) word)

-- it has the dimensions of the grammar, its principle uses over no node, compiled records of it, and what nodes have by some words
pub record IsStock (g : Grammar) (stock : Stock) : Type 0 where
  pub dims : stock.dims ≡ plans g
  pub uses : stock.uses ≡ groups_of g []
  pub records : AreRecords g stock.records
  pub nodes : stock.nodes ≡ map (word_plan g) stock.words
