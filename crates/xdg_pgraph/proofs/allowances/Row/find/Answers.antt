use Rattle.std.proofs.Common.{◌≡◌, ◌<◌, ◌∙◌, false, length, get_or, ap, arith, refl, sym}
use Rattle.std.proofs.lemmas.Bool.Decides.{Decides-eqb}
use Rattle.std.proofs.lemmas.List.{get_or_default}
use Rattle.std.proofs.lemmas.Slice.Eq.{slice_eq-Decides}
use Rattle.xdg_pgraph.specs.declared.allowances.Class.{Class}
use Rattle.xdg_pgraph.specs.Bundles.{numbers_of}
use Rattle.xdg_pgraph.proofs.allowances.Row.find.Goals as goal

pub returns-then-eq : goal.returns-then-eq
returns-then-eq c =
    let none : Class = record { entries = 0; allowed = record { least = 0; behind = 0 }; first = 0; whole = false } in
    let within : c.loop-at.at < length c.args.self.now = (let l = c.loop-at-test.true in let e = ap length c.as_slice-class-items.ensures in omega (arith, l, e)) in
    record {
      within = within;
      same = λ group class is at_is.
          let got : class ≡ get_or c.as_slice-class-items.result.now c.loop-at.at none =
          sym at_is ∙ get_or_default c.args.self.now c.loop-at.at class none within ∙ ap (λ classes. get_or classes c.loop-at.at none) (sym c.as_slice-class-items.ensures) in
          ap (λ (it : Class). numbers_of c.args.bundle.way group c.args.bundle.node c.args.bundle.label it.first) got
          ∙ sym (c.numbers_at.ensures.same group is)
          ∙ (slice_eq-Decides Decides-eqb _ _ _ c.if-eq.ensures).0 refl;
    }
