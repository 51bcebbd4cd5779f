use Rattle.std.proofs.Common.{◌≡◌, sym, ap, ◌∙◌, inl, inr, arith, None}
use Rattle.xdg_names.specs.Texts.{place_of}
use Rattle.xdg_packed.proofs.Packs.{known_row, new_row, added_last}
use Rattle.xdg_packed.proofs.table.place_of.Goals as goal

pub overflow_cast-result : goal.overflow_cast-result
overflow_cast-result c =
    let known = known_row c.args.rows.now c.args.spellings.now c.args.fields c.as_str.result.now c.in-Some.place c.requires.spelled (c.as_str.ensures ∙ c.in_ok-spelling.ensures) (sym c.in-Some.ensures) in
    omega (arith, known.within, c.requires.few)

pub returns-in-Some : goal.returns-in-Some
returns-in-Some c =
    inl (known_row c.args.rows.now c.args.spellings.now c.args.fields c.as_str.result.now c.in-Some.place c.requires.spelled (c.as_str.ensures ∙ c.in_ok-spelling.ensures) (sym c.in-Some.ensures))

pub returns-in_ok-add-in-None : goal.returns-in_ok-add-in-None
returns-in_ok-add-in-None c =
    let t = c.as_str-in-None.result.now in
    let none : place_of c.args.spellings.now t ≡ None = ap (place_of c.args.spellings.now) (c.as_str-in-None.ensures ∙ sym c.as_str.ensures) ∙ sym c.in-None.ensures in
    inr (new_row c.args.rows.now c.push.new.self c.args.spellings.now c.add.new.self c.args.fields t c.len-place.result
    (c.as_str-in-None.ensures ∙ c.in_ok-spelling.ensures)
    none
    c.in_ok-push-in-None.ensures.ok
    (added_last c.args.spellings.now c.add.new.self t c.in_ok-add-in-None.field-0 none c.in_ok-add-in-None.ensures.new c.in_ok-add-in-None.ensures.ok)
    c.len-place.ensures)
