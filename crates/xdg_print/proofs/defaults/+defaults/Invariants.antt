use Rattle.std.proofs.Common.{◌≡◌, drop}
use Rattle.xdg_domain.specs.Shapes.{shape}
use Rattle.xdg_domain.specs.declared.values.Value.{out-Value}
use Rattle.xdg_print.specs.Defaulted.{counts_up, is_default}
use Rattle.xdg_print.proofs.defaults.+defaults.Given as goal

abbrev pub invariant-loop-place : goal.invariant-loop-place
invariant-loop-place l = counts_up (λ w. is_default (shape l.of) (out-Value w)) 0 l.entries ≡ counts_up (λ w. is_default (shape l.of) (out-Value w)) l.place (drop l.place l.entries)
