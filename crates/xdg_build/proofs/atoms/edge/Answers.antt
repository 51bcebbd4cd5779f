use Rattle.std.proofs.Common.{map, arith}
use Rattle.xdg_build.proofs.Rightly.{edge_dim}
use Rattle.xdg_build.proofs.Used.{type_kept}
use Rattle.xdg_build.proofs.atoms.edge.Goals as goal

pub dim_type-requires : goal.dim_type-requires
dim_type-requires c =
    let within = (edge_dim c.args.types.now (map (λ text. text.now) c.args.bound.now) c.args.dim.now c.args.mother.now c.args.label.now c.args.daughter.now c.requires.right).0.within in
    omega (arith, within, c.dim_number-place.ensures.at)

pub label_number-requires : goal.label_number-requires
label_number-requires c =
    let within = (edge_dim c.args.types.now (map (λ text. text.now) c.args.bound.now) c.args.dim.now c.args.mother.now c.args.label.now c.args.daughter.now c.requires.right).0.within in
    let kept = type_kept c.args.types.now c.args.packed.now c.dim_number-place.ensures.keeps c.dim_number-place.result (omega (arith, within, c.dim_number-place.ensures.at)) in
    record { few = rw (c.as_slice-labels.ensures, c.dim_type.ensures) kept.few_labels }

pub returns : goal.returns
returns c = cc
