use Rattle.std.proofs.Common.{◌≡◌, ◌∙◌, ◌++◌, ap, ap₂, arith, length, refl}
use Rattle.xdg_base.specs.declared.ids.EntryNo.{EntryNo}
use Rattle.std.specs.Prelude.{List}
use Rattle.xdg_problem.specs.Vectors.{entry_places}
use Rattle.xdg_stream.specs.Vectored.{marks}
use Rattle.xdg_stream.proofs.Written.{rooms, vector_whole}
use Rattle.xdg_stream.proofs.starting.vector_of.Goals as goal

pub push_attrs-requires : goal.push_attrs-requires
push_attrs-requires c =
    let none = c.in_ok-numbers.numbers.items in
    let candidates = c.as_slice.ensures ∙ ap (λ p. p.candidates) c.parts-parts.ensures.same in
    let entries : c.push_entries.new.numbers.items ≡ none ++ entry_places c.args.problem.now.candidates c.args.analysis.now.entries = c.push_entries.ensures.items ∙ ap₂ (λ (x : List (List EntryNo)) (y : List EntryNo). none ++ entry_places x y) candidates c.as_slice-2.ensures in
    let held = (rooms c.args.problem.now c.args.analysis.now none c.push_entries.new.numbers.items (c.push_entries.new.numbers.items ++ c.args.analysis.now.attrs) c.requires.fits c.in_ok-numbers.ensures.items entries refl).0 in
    let more = ap length c.as_slice-3.ensures in
    let exact = c.in_ok-numbers.ensures.exact in
    let decided = c.decisions.ensures in
    let same = c.push_entries.ensures.room in
    omega (arith, held, more, exact, decided, same)

pub push_marks-requires : goal.push_marks-requires
push_marks-requires c =
    let none = c.in_ok-numbers.numbers.items in
    let candidates = c.as_slice.ensures ∙ ap (λ p. p.candidates) c.parts-parts.ensures.same in
    let entries : c.push_entries.new.numbers.items ≡ none ++ entry_places c.args.problem.now.candidates c.args.analysis.now.entries = c.push_entries.ensures.items ∙ ap₂ (λ (x : List (List EntryNo)) (y : List EntryNo). none ++ entry_places x y) candidates c.as_slice-2.ensures in
    let attrs = c.push_attrs.ensures.items ∙ ap (λ z. c.push_entries.new.numbers.items ++ z) c.as_slice-3.ensures in
    let held = (rooms c.args.problem.now c.args.analysis.now none c.push_entries.new.numbers.items c.push_attrs.new.numbers.items c.requires.fits c.in_ok-numbers.ensures.items entries attrs).1 in
    let listed = ap length c.requires.listed in
    let exact = c.in_ok-numbers.ensures.exact in
    let decided = c.decisions.ensures in
    let same = c.push_entries.ensures.room in
    let again = c.push_attrs.ensures.room in
    omega (arith, held, listed, exact, decided, same, again)

pub returns : goal.returns
returns c =
    let none = c.in_ok-numbers.numbers.items in
    let candidates = c.as_slice.ensures ∙ ap (λ p. p.candidates) c.parts-parts.ensures.same in
    vector_whole c.args.problem.now c.args.analysis.now none c.push_entries.new.numbers.items c.push_attrs.new.numbers.items c.push_marks.new.numbers.items c.requires.fits c.in_ok-numbers.ensures.items
    (c.push_entries.ensures.items ∙ ap₂ (λ (x : List (List EntryNo)) (y : List EntryNo). none ++ entry_places x y) candidates c.as_slice-2.ensures)
    (c.push_attrs.ensures.items ∙ ap (λ z. c.push_entries.new.numbers.items ++ z) c.as_slice-3.ensures)
    (c.push_marks.ensures.items ∙ ap₂ (λ x y. c.push_attrs.new.numbers.items ++ marks x y) c.requires.listed c.as_slice-4.ensures)
