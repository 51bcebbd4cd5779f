use Rattle.std.proofs.Common.{◌≡◌, ◌∙◌, ◌≤◌, [], true, length, get_or, bytes_eq, sym, ap, arith}
use Rattle.std.specs.List.{list_any}
use Rattle.std.proofs.lemmas.List.{take_all}
use Rattle.std.proofs.lemmas.Slice.Eq.{bytes_eq-Decides}
use Rattle.xdg_base.specs.Spelling.{keywords}
use Rattle.xdg_base.proofs.Keywords.{stands_at, none_so_far, in_table, no_keyword}
use Rattle.xdg_base.proofs.spelling.keyword_place.Goals as goal

pub keyword_at-requires : goal.keyword_at-requires
keyword_at-requires c = in_table c.places_of-place-items.result.now c.loop-place.place-index c.loop-place-test.true c.places_of-place-items.ensures.within

pub returns-then-eq : goal.returns-then-eq
returns-then-eq c =
    let word = get_or keywords (get_or c.places_of-place-items.result.now c.loop-place.place-index 0) [] in
    let same : bytes_eq c.args.text.now word ≡ true = ap (bytes_eq c.args.text.now) (sym c.keyword_at.ensures) ∙ sym c.eq.ensures ∙ c.if-eq.true in
    (in_table c.places_of-place-items.result.now c.loop-place.place-index c.loop-place-test.true c.places_of-place-items.ensures.within, sym ((bytes_eq-Decides c.args.text.now word).0 same))

pub loop-place-preserved : goal.loop-place-preserved
loop-place-preserved c =
    none_so_far c.args.text.now c.places_of-place-items.result.now c.loop-place.place-index c.loop-place-test.true c.loop-place.invariant (ap (bytes_eq c.args.text.now) (sym c.keyword_at.ensures) ∙ sym c.eq.ensures ∙ c.if-eq.false)

pub returns : goal.returns
returns c =
    let places = c.places_of-place-items.result.now in
    let end : length places ≤ c.loop-place.place-index = omega arith in
    no_keyword c.args.text.now (ap (list_any (stands_at c.args.text.now)) (sym c.places_of-place-items.ensures.places ∙ sym (take_all c.loop-place.place-index places end)) ∙ c.loop-place.invariant)
