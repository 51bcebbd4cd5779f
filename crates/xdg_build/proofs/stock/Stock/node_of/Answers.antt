use Rattle.std.proofs.Common.{◌≡◌, ◌<◌, length, get_or, IfOk, sym, ap, ◌∙◌, arith, subst}
use Rattle.xdg_build.specs.Grammars.{grammar_of}
use Rattle.xdg_build.proofs.Stocked.{found_plan, found_within}
use Rattle.xdg_build.proofs.stock.Stock.node_of.Goals as goal

pub bounds-as_slice-place : goal.bounds-as_slice-place
bounds-as_slice-place c =
    subst (λ nodes. c.in-Some.place < length nodes) (sym c.as_slice.ensures) (found_within (grammar_of c.args.checked.now c.args.packed.now) c.args.self.now.words c.args.self.now.nodes c.args.word.now c.in-Some.place c.requires.stock.nodes c.in-Some.ensures)

pub offset_bounds-as_slice-place : goal.offset_bounds-as_slice-place
offset_bounds-as_slice-place c =
    let within : c.in-Some.place < length c.as_slice.result.now =
    subst (λ nodes. c.in-Some.place < length nodes) (sym c.as_slice.ensures) (found_within (grammar_of c.args.checked.now c.args.packed.now) c.args.self.now.words c.args.self.now.nodes c.args.word.now c.in-Some.place c.requires.stock.nodes c.in-Some.ensures) in
    omega arith

pub returns-in-Some-clause-node : goal.returns-in-Some-clause-node
returns-in-Some-clause-node c =
    subst (λ plan. IfOk c.share.result (λ node. node ≡ plan))
    (found_plan (grammar_of c.args.checked.now c.args.packed.now) c.args.self.now.words c.args.self.now.nodes c.args.word.now c.in-Some.place c.index-as_slice-place.result c.requires.stock.nodes c.in-Some.ensures
    (c.index-as_slice-place.is ∙ ap (λ nodes. get_or nodes c.in-Some.place c.index-as_slice-place.result) c.as_slice.ensures)) c.share.ensures
