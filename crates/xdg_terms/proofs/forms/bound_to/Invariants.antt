use Rattle.std.proofs.Common.{◌≡◌, drop}
use Rattle.xdg_terms.specs.Forms as spec
use Rattle.xdg_terms.proofs.forms.bound_to.Given as goal

abbrev pub invariant-loop-binding : goal.invariant-loop-binding
invariant-loop-binding l = spec.bound_to (drop l.binding-index l.bindings) l.name ≡ spec.bound_to l.bindings l.name
