use Rattle.std.proofs.Common.{ap}
use Rattle.xdg_base.specs.declared.faults.Stop.TheVariants as stops
use Rattle.xdg_reading.proofs.Answered.{call_tells, call_only, told_at, given_at}
use Rattle.xdg_reading.proofs.fitting.fit.Goals as goal

pub returns-in-Ok-clause-tells : goal.returns-in-Ok-clause-tells
returns-in-Ok-clause-tells c = call_tells _ _ _ _ c.parts.ensures.kept c.requires.words c.requires.entries c.parts.ensures.same c.in-Ok.ensures

pub returns-in-Ok-clause-only : goal.returns-in-Ok-clause-only
returns-in-Ok-clause-only c = call_only _ _ _ _ c.parts.ensures.kept c.parts.ensures.same c.in-Ok.ensures

pub returns-in-Err-At-clause-tells : goal.returns-in-Err-At-clause-tells
returns-in-Err-At-clause-tells c = told_at _ _ c.in-Err-At.at _ (ap stops.Fault c.at.ensures) (call_tells _ _ _ _ c.parts.ensures.kept c.requires.words c.requires.entries c.parts.ensures.same (rw c.in-Err-At.field-0-is at c.in-Err-At.ensures))

pub returns-in-Err-At-clause-only : goal.returns-in-Err-At-clause-only
returns-in-Err-At-clause-only c = λ answer right. given_at c.in-Err-At.at _ answer (ap stops.Fault c.at.ensures) (call_only _ _ _ _ c.parts.ensures.kept c.parts.ensures.same (rw c.in-Err-At.field-0-is at c.in-Err-At.ensures) answer right)
