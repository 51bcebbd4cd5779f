use Rattle.std.proofs.Common.{◌≡◌, ◌<◌, ◌+◌, ◌-◌, arith, length, refl, subst}
use Rattle.std.proofs.lemmas.List.{get_or_default}
use Rattle.xdg_problem.specs.Places.{edge}
use Rattle.xdg_stream.specs.Rows.{IsOf}
use Rattle.xdg_stream.proofs.Absent.{run_of}
use Rattle.xdg_stream.proofs.row.absent_from.Goals as goal
use Rattle.xdg_facts.proofs.Sets.{none_in}

pub returns-clause-absent : goal.returns-clause-absent
returns-clause-absent c k d low high =
    let row = c.args.row.now in
    let edges = c.args.edge_places.now in
    let last = c.args.place + c.args.width - 1 in
    let some = c.if-width-eq0.false in
    let within : last < length edges = (let a = c.if-width-edge_places.false in let b = c.requires.there in omega (arith, a, b, some)) in
    let to = subst (IsOf row) (get_or_default edges last (edge 0 0 0 0) d within) (c.if-not-is_in.ensures refl) in
    let none : length row.may ≡ 0 = (let a = c.len.ensures.value in let b = c.if-len-ne0.false in omega (arith, a, b)) in
    (run_of row edges c.args.place last d c.requires.ordered within (c.requires.of d) to k low (omega (arith, high, some)), none_in row.may _ none)
