use Rattle.std.proofs.Common.{◌≡◌, ◌-◌}
use Rattle.std.specs.List.{range_with_len}
use Rattle.std.specs.Option.{option_copied}
use Rattle.xdg_domain.specs.Shapes.{shape}
use Rattle.xdg_domain.specs.Valencies.{said_at}
use Rattle.xdg_domain.specs.Joined.{behind}
use Rattle.xdg_packed.specs.Filled.{filled, each_key, keys_said, fields_said}
use Rattle.xdg_packed.proofs.Steps.{SoFar}
use Rattle.xdg_packed.proofs.filling.+filled.Given as goal

abbrev pub invariant-filled_map-loop-key : goal.invariant-filled_map-loop-key
invariant-filled_map-loop-key l = behind l.all (each_key (λ key. filled (shape l.of) (said_at (keys_said (option_copied l.said)) key)) (range_with_len l.key (l.keys - l.key))) ≡ each_key (λ key. filled (shape l.of) (said_at (keys_said (option_copied l.said)) key)) (range_with_len 0 l.keys)

abbrev pub invariant-filled-loop-i : goal.invariant-filled-loop-i
invariant-filled-loop-i l = SoFar l.types (fields_said (option_copied l.said)) l.i l.rest l.all
