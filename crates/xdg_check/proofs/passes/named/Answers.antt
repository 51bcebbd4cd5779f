use Rattle.std.proofs.Common.{inl, inr}
use Rattle.xdg_check.proofs.passes.named.Goals as goal

pub classes-requires : goal.classes-requires
classes-requires c = λ f h. c.requires.named f (inl (inr (inr (inl h))))
