use Rattle.std.proofs.Common.{◌∙◌, ap, ap₂, map}
use Rattle.xdg_problem.specs.Places.{nodes}
use Rattle.xdg_reading.specs.Slots.{asked_by, slots}
use Rattle.xdg_reading.proofs.Attributes.{few_values, are_attrs}
use Rattle.xdg_reading.proofs.fitting.fitted.Goals as goal

pub said_values-requires : goal.said_values-requires
said_values-requires c =
    few_values asked_by _ _ (slots (nodes c.args.parts.now) c.args.parts.now.dims) (ap (map asked_by) c.as_slice-5.ensures ∙ c.in_ok-slots.ensures ∙ ap₂ slots c.len.ensures c.as_slice-4.ensures) (are_attrs c.args.parts.now c.requires.problem)
