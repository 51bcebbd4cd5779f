use Rattle.xdg_principles.proofs.Lookups.{few_labels}
use Rattle.xdg_principles.proofs.building.make_arg.Goals as goal

pub label_numbers-requires : goal.label_numbers-requires
label_numbers-requires c = few_labels c.args.setting.now.dims.now c.args.setting.now.lookup.now _ _ c.requires c.labels.ensures
