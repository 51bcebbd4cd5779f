-- What all nodes with the same entries have.
use Rattle.std.specs.Prelude.{◌≡◌, ℕ, List, [], map, slice_index_or}
use Rattle.xdg_base.specs.declared.ids.EntryNo.{EntryNo}
use Rattle.xdg_problem.specs.declared.parts.Feat.{Feat}
use Rattle.xdg_problem.specs.declared.parts.Group.{Group}
use Rattle.xdg_build.specs.declared.nodes.NodePlan.{NodePlan}
use Rattle.xdg_build.specs.Grammars.{Grammar}
use Rattle.xdg_build.specs.Groups.{features_at, used_uses}

-- for each principle use in a used dimension the features that it takes of each of these entries
abbrev pub node_feats : Grammar → List EntryNo → List (List (List Feat))
node_feats g numbers = map (λ u. map (features_at g u) numbers) (used_uses g)

-- a node that may have these entries
abbrev pub node_plan : Grammar → List EntryNo → NodePlan
node_plan g numbers = record { candidates = numbers; feats = node_feats g numbers }

-- the node has the features of its entries
abbrev pub IsNodePlan : Grammar → NodePlan → Type 0
IsNodePlan g node = node.feats ≡ node_feats g node.candidates

-- the features of the only node of each of these groups
abbrev pub only_feats : List Group → List (List (List Feat))
only_feats groups = map (λ group. slice_index_or group.feats 0 []) groups

-- the features of nodes for the principle use with that place
abbrev pub feats_at : ℕ → List NodePlan → List (List (List Feat))
feats_at place nodes = map (λ node. slice_index_or node.feats place []) nodes

-- a group over these nodes, for the principle use with that place
abbrev pub over : ℕ → List NodePlan → Group → Group
over place nodes group = record {
  principle = group.principle;
  dims = group.dims;
  attrs = group.attrs;
  order = group.order;
  truths = group.truths;
  feats = feats_at place nodes;
}

-- the candidates of nodes
abbrev pub candidates_in : List NodePlan → List (List EntryNo)
candidates_in nodes = map (λ node. node.candidates) nodes
