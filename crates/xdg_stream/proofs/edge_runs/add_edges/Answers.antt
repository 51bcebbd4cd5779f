use Rattle.std.proofs.Common.{◌<◌, ◌+◌, AllPairs, arith, get_or, length, refl, subst, sym}
use Rattle.std.proofs.lemmas.List.{get_or_default}
use Rattle.xdg_problem.specs.declared.analysis.Edge.{Edge}
use Rattle.xdg_problem.specs.Analyses.{Before}
use Rattle.xdg_problem.specs.Places.{edge}
use Rattle.xdg_problem.proofs.PlaceOrder.{places_before}
use Rattle.xdg_stream.specs.Rows.{IsOf}
use Rattle.xdg_stream.specs.Runs.{IsAlone}
use Rattle.xdg_stream.proofs.Absent.{absent_alone, absent_longer, adds_absent}
use Rattle.xdg_stream.proofs.Finding.{adds_lengths, adds_one, one_longer}
use Rattle.xdg_stream.proofs.Named.{place_decision, place_there}
use Rattle.xdg_stream.proofs.Reading.{says_alone}
use Rattle.xdg_stream.proofs.edge_runs.add_edges.Goals as goal

pub read_row-requires-clause-place : goal.read_row-requires-clause-place
read_row-requires-clause-place c = place_there c.args.store.now.parts c.args.edge_places.now (edge 0 0 0 0) c.places.place c.requires.listed (omega arith)

pub absent_from-absent-requires-clause-ordered : goal.absent_from-absent-requires-clause-ordered
absent_from-absent-requires-clause-ordered c = subst (AllPairs Before) (sym c.requires.listed) (places_before c.args.store.now.parts)

pub absent_from-absent-requires-clause-of : goal.absent_from-absent-requires-clause-of
absent_from-absent-requires-clause-of c d = subst (IsOf c.read_row.new.row) (get_or_default c.args.edge_places.now c.places.place (edge 0 0 0 0) d (omega arith)) c.read_row.ensures.of

pub add_absent-requires : goal.add_absent-requires
add_absent-requires c =
    let here = c.places.invariant.here in
    let within = c.absent_from-absent.ensures.within in
    let all = c.first_edge-first.ensures.all in
    let numbers = c.requires.for_numbers in
    let marks = c.requires.for_marks in
    let more = c.places.invariant.rooms in
    let count = c.requires.count in
    let long = adds_lengths c.args.store.now.now c.args.mark c.args.marks.now.items c.args.numbers.now.items c.places.marks.items c.places.numbers.items c.args.most c.places.added c.places.invariant.adds in
    record { for_numbers = omega (arith, here, within, all, numbers, more.0); for_marks = omega (arith, here, within, all, marks, more.1, count, long.0, long.1) }

pub places-preserved-then-absent-gt0 : goal.places-preserved-then-absent-gt0
places-preserved-then-absent-gt0 c =
    let parts = c.args.store.now.parts in
    let box = c.args.store.now.now in
    let edges = c.args.edge_places.now in
    let loop = c.places in
    let now = loop.invariant in
    let first = c.first_edge-first.result in
    let count = c.absent_from-absent.result in
    let marks = c.add_absent.new.marks.items in
    let numbers = c.add_absent.new.numbers.items in
    let from = c.absent_from-absent.ensures in
    let added = c.add_absent.ensures in
    let alone = absent_alone parts box c.read_row.new.row edges first loop.place count c.requires.known.is_box c.requires.listed c.first_edge-first.ensures.first c.read_row.ensures.reads from.within from.absent in
    record {
      adds = adds_absent box c.args.mark c.args.marks.now.items c.args.numbers.now.items loop.marks.items loop.numbers.items marks numbers c.args.most loop.added count (first + loop.place) now.adds from.most now.here alone added.marks added.numbers;
      here = (let more = absent_longer loop.numbers.items numbers count added.numbers in let here = now.here in omega (arith, more, here));
      reads = c.read_row.ensures.reads;
      rooms = (let a = added.number_room in let b = now.rooms.0 in omega (arith, a, b), let a = added.mark_room in let b = now.rooms.1 in omega (arith, a, b));
    }

pub number_in-requires : goal.number_in-requires
number_in-requires c =
    let is = place_there c.args.store.now.parts c.args.edge_places.now (edge 0 0 0 0) c.places.place c.requires.listed (omega arith) in
    let within = is.daughter in
    let most = c.requires.known.problem.most in
    omega (arith, within, most)

pub places-preserved : goal.places-preserved
places-preserved c =
    let parts = c.args.store.now.parts in
    let box = c.args.store.now.now in
    let edges = c.args.edge_places.now in
    let loop = c.places in
    let now = loop.invariant in
    let at = c.first_edge-first.result + loop.place in
    let e : Edge = get_or edges loop.place (edge 0 0 0 0) in
    let value = c.in-Some.value in
    let marks = c.push_reserved.new.self.items in
    let numbers = c.push_reserved-in-places.new.self.items in
    let within : loop.place < length edges = omega arith in
    let is = place_there parts edges (edge 0 0 0 0) loop.place c.requires.listed within in
    let place = place_decision parts edges e (edge 0 0 0 0) c.first_edge-first.result loop.place c.requires.listed c.first_edge-first.ensures.first within refl in
    let alone : IsAlone box at value = subst (λ d. IsAlone box d value) place (says_alone parts box c.read_row.new.row e value c.requires.known.is_box is c.read_row.ensures.reads c.read_row.ensures.of c.in-Some.ensures) in
    record {
      adds = adds_one box c.args.mark c.args.marks.now.items c.args.numbers.now.items loop.marks.items loop.numbers.items marks numbers c.args.most loop.added at value now.adds c.if-added-most.false now.here alone c.push_reserved.ensures.items c.push_reserved-in-places.ensures.items;
      here = (let more = one_longer loop.numbers.items numbers value at now.here c.push_reserved-in-places.ensures.items in omega (arith, more));
      reads = c.read_row.ensures.reads;
      rooms = (let a = c.push_reserved-in-places.ensures.capacity in let b = now.rooms.0 in omega (arith, a, b), let a = c.push_reserved.ensures.capacity in let b = now.rooms.1 in omega (arith, a, b));
    }
