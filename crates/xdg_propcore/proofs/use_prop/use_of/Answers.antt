use Rattle.std.proofs.Common.{◌∙◌, length, sym, ap, arith}
use Rattle.xdg_problem.specs.declared.parts.Parts.{Parts}
use Rattle.xdg_propcore.proofs.Stepping.{use_found}
use Rattle.xdg_propcore.proofs.use_prop.use_of.Goals as goal

pub bounds-as_slice-number : goal.bounds-as_slice-number
bounds-as_slice-number c = (let l = c.requires in let e = ap length (c.as_slice.ensures ∙ ap (λ (p : Parts). p.groups) c.parts.ensures.same) in omega (arith, l, e))

pub returns-clause-is : goal.returns-clause-is
returns-clause-is c = sym (use_found c.args.problem.now c.args.number c.as_slice.result.now c.index-as_slice-number.result c.requires (c.as_slice.ensures ∙ ap (λ (p : Parts). p.groups) c.parts.ensures.same) c.index-as_slice-number.is)
