use Rattle.std.proofs.Common.{◌≡◌, ◌≤◌, ◌+◌, ◌-◌, ◌^◌, min, drop}
use Rattle.xdg_domain.specs.Defaults.{weights}
use Rattle.xdg_domain.proofs.Made.{seen}
use Rattle.xdg_domain.proofs.defaults.+parts.Given as goal

abbrev pub invariant-field_parts-loop-field : goal.invariant-field_parts-loop-field
invariant-field_parts-loop-field l = (l.sum ≤ 2 ^ 64 - 1) × (min (l.sum + weights (seen (drop l.field-index l.fields))) (2 ^ 64 - 1) ≡ min (weights (seen l.fields)) (2 ^ 64 - 1))
