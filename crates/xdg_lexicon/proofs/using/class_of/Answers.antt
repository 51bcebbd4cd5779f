use Rattle.std.proofs.Common.{◌≡◌, refl, sym, subst, arith, slice_get}
use Rattle.std.specs.Prelude.{Some}
use Rattle.std.proofs.lemmas.Option.{slice_get_read}
use Rattle.xdg_lexicon.proofs.Followed.{place_within}
use Rattle.xdg_lexicon.proofs.using.class_of.Goals as goal

pub bounds-classes-place : goal.bounds-classes-place
bounds-classes-place c = place_within c.args.checked.now.classes c.classes.result.now c.args.name.now c.in-Some.place c.classes.ensures.same c.in-Some.ensures

pub offset_bounds-classes-place : goal.offset_bounds-classes-place
offset_bounds-classes-place c =
    let w = place_within c.args.checked.now.classes c.classes.result.now c.args.name.now c.in-Some.place c.classes.ensures.same c.in-Some.ensures in
    let b = c.classes.type_inv.1 in
    omega (arith, w, b)

pub returns-clause-found : goal.returns-clause-found
returns-clause-found c =
    let w = place_within c.args.checked.now.classes c.classes.result.now c.args.name.now c.in-Some.place c.classes.ensures.same c.in-Some.ensures in
    let stands = slice_get_read c.classes.result.now _ c.in-Some.place c.index-classes-place.result refl w c.index-classes-place.is in
    (c.in-Some.place, (sym c.in-Some.ensures, subst (λ cs. slice_get cs c.in-Some.place ≡ Some c.index-classes-place.result) c.classes.ensures.same stands))
