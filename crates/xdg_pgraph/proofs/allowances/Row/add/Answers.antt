use Rattle.std.proofs.Common.{◌≡◌, ◌+◌, ◌∙◌, false, get_or, set, ap, subst, sym}
use Rattle.std.proofs.lemmas.List.{get_or_default}
use Rattle.xdg_pgraph.specs.declared.allowances.Class.{Class}
use Rattle.xdg_pgraph.specs.Allowances.{AreClasses, Keeps}
use Rattle.xdg_pgraph.proofs.Classing.{classes_join, classes_open}
use Rattle.xdg_pgraph.proofs.allowances.Row.add.Goals as goal

pub returns-in-Some : goal.returns-in-Some
returns-in-Some c group same are done =
    let none : Class = record { entries = 0; allowed = record { least = 0; behind = 0 }; first = 0; whole = false } in
    let class = get_or c.as_slice.result.now c.in-Some.at none in
    let within = c.in-Some.ensures.within in
    let is : class ≡ get_or c.args.self.now c.in-Some.at class =
    ap (λ classes. get_or classes c.in-Some.at none) c.as_slice.ensures ∙ get_or_default c.args.self.now c.in-Some.at none class within in
    subst (AreClasses (c.args.entry + 1) group c.args.bundle) (sym (c.put.ensures ∙ ap (λ one. set c.args.self.now c.in-Some.at one) c.with.ensures))
    (classes_join group c.args.bundle c.args.entry c.in-Some.at c.args.self.now class c.requires within is
    (sym (c.numbers_at-numbers.ensures.same group same) ∙ sym (c.in-Some.ensures.same group class same (sym is))) are)

pub returns : goal.returns
returns c group same are done =
    subst (AreClasses (c.args.entry + 1) group c.args.bundle) (sym c.push.ensures) (classes_open group c.args.bundle c.args.entry c.args.self.now c.of.result c.requires c.of.ensures.entries c.of.ensures.first (subst (λ numbers. Keeps numbers c.of.result) (c.numbers_at-numbers.ensures.same group same) c.of.ensures.keeps) are)
