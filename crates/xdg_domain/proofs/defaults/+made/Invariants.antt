use Rattle.std.proofs.Common.{◌≡◌, Some, drop}
use Rattle.xdg_domain.specs.declared.values.Value.{Value}
use Rattle.xdg_domain.specs.Shapes.{shape, AreTypes}
use Rattle.xdg_domain.specs.Joined.{behind}
use Rattle.xdg_domain.specs.Defaults.{default, defaults, for_each_key}
use Rattle.xdg_domain.proofs.Made.{seen}
use Rattle.xdg_domain.proofs.defaults.+made.Given as goal

abbrev pub invariant-made_map-loop-key : goal.invariant-made_map-loop-key
invariant-made_map-loop-key l = (x : Value) → default (shape l.of) ≡ Some x → l.all ≡ for_each_key l.key x

abbrev pub invariant-made_record-loop-i : goal.invariant-made_record-loop-i
invariant-made_record-loop-i l = AreTypes (seen (drop l.i l.fields)) × (behind l.all (defaults l.i (seen (drop l.i l.fields))) ≡ defaults 0 (seen l.fields))
