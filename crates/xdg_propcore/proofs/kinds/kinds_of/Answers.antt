use Rattle.std.proofs.Common.{◌^◌, ◌∙◌, ap}
use Rattle.xdg_problem.specs.Arguments.{first_dim, second_dim}
use Rattle.xdg_propcore.specs.Kinds.{entry_kind, attr_kind, edge_kind}
use Rattle.xdg_propcore.proofs.Kinding.{few, has_kinds, with_it}
use Rattle.xdg_propcore.proofs.kinds.kinds_of.Goals as goal
use Rattle.xdg_problem.specs.Principles.{looks_at_entries, looks_at_attrs, looks_at_first, looks_at_second}

pub edges-requires : goal.edges-requires
edges-requires c = few c.dim_of-two.result.0 (second_dim c.args.group.now) c.dim_of-two.ensures c.requires.1

pub edges-requires-2 : goal.edges-requires-2
edges-requires-2 c = few c.dim_of-one.result.0 (first_dim c.args.group.now) c.dim_of-one.ensures c.requires.0

pub attrs-requires : goal.attrs-requires
attrs-requires c = few c.dim_of-one.result.0 (first_dim c.args.group.now) c.dim_of-one.ensures c.requires.0

pub returns : goal.returns
returns c = has_kinds c.args.group.now c.with_kind-second.result.0 c.with_kind-first.result.0 c.with_kind-attrs.result.0 c.with_kind.result.0
    (with_it c.looks_at_second.result (looks_at_second c.args.group.now.principle) c.edges.result.0 (edge_kind (second_dim c.args.group.now)) 0 c.with_kind-second.result.0 c.looks_at_second.ensures (c.edges.ensures ∙ ap (λ d. 2 ^ edge_kind d) c.dim_of-two.ensures) c.with_kind-second.ensures)
    (with_it c.looks_at_first.result (looks_at_first c.args.group.now.principle) c.edges-2.result.0 (edge_kind (first_dim c.args.group.now)) c.with_kind-second.result.0 c.with_kind-first.result.0 c.looks_at_first.ensures (c.edges-2.ensures ∙ ap (λ d. 2 ^ edge_kind d) c.dim_of-one.ensures) c.with_kind-first.ensures)
    (with_it c.looks_at_attrs.result (looks_at_attrs c.args.group.now.principle) c.attrs.result.0 (attr_kind (first_dim c.args.group.now)) c.with_kind-first.result.0 c.with_kind-attrs.result.0 c.looks_at_attrs.ensures (c.attrs.ensures ∙ ap (λ d. 2 ^ attr_kind d) c.dim_of-one.ensures) c.with_kind-attrs.ensures)
    (with_it c.looks_at_entries.result (looks_at_entries c.args.group.now.principle) c.entries.result.0 entry_kind c.with_kind-attrs.result.0 c.with_kind.result.0 c.looks_at_entries.ensures c.entries.ensures c.with_kind.ensures)
