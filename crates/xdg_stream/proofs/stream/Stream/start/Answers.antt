use Rattle.std.proofs.Common.{◌∙◌, [], arith, ap, length, subst, sym}
use Rattle.std.specs.Option.{is_some, option_copied}
use Rattle.std.specs.Vec.{vec_capacity}
use Rattle.xdg_facts.specs.Fits.{Fits}
use Rattle.xdg_problem.specs.declared.parts.Parts.{Parts}
use Rattle.xdg_problem.specs.Problems.{IsProblem}
use Rattle.xdg_problem.specs.Vectors.{shape}
use Rattle.xdg_rules.specs.Boxed.{Boxed}
use Rattle.xdg_stream.specs.Place.{place, Next}
use Rattle.xdg_stream.specs.Streamed.{IsCharged, IsStream, seen, start_vector}
use Rattle.xdg_stream.proofs.Streaming.{start_fits, stream_start}
use Rattle.xdg_stream.proofs.stream.Stream.start.Goals as goal
use Rattle.xdg_stream.proofs.stream.Stream.start.Goals.{After-start-3}
use Rattle.xdg_facts.proofs.Fitting.{fits_length}

-- the stream as it begins
begun : (g : _) (c : After-start-3 g) → (let r = c.start-3.result in let new = seen r.front.parts c.in_ok-start.start.items r.budget r.charged r.reached.items c.refill.new.self.numbers r.done in
    IsStream new r.front.numbers r.value (vec_capacity r.reached) × IsCharged new [])
begun g c =
    let r = c.start-3.result in
    let q = c.start-3.ensures.problem in
    let fresh = c.start-3.ensures.fresh in
    let start = c.in_ok-start.start.items in
    let held = c.refill_numbers.ensures.items ∙ c.as_slice-2.ensures.value in
    let next = subst (λ z. Next (shape r.front.parts) (Boxed r.front.parts) z (place r.front.numbers r.value)) held (subst (λ z. Next (shape z) (Boxed z) c.refill_numbers.new.held.items (place r.front.numbers r.value)) (sym q) c.start-3.ensures.next) in
    let begun = stream_start r.front.parts start r.reached.items c.refill.new.self.numbers r.front.numbers r.value (vec_capacity r.reached) r.done r.charged r.budget (subst IsProblem (sym (q ∙ c.in_ok-front.ensures.0)) c.in_ok-last.ensures.problem) c.start-3.ensures.lawful next (c.start-3.ensures.reached ∙ held) (c.refill.ensures.numbers ∙ c.as_slice.ensures.value) fresh.0 fresh.2 in
    (begun.0, subst (IsCharged (seen r.front.parts start r.budget r.charged r.reached.items c.refill.new.self.numbers r.done)) begun.1 begun.0.so_far)

pub refill-requires-clause-short : goal.refill-requires-clause-short
refill-requires-clause-short g c =
    let parts = c.args.problem.now in
    let fits = start_fits parts (option_copied c.args.after) c.in_ok-last.ensures.problem c.requires.fits in
    let short = fits_length (shape parts) (start_vector parts (option_copied c.args.after)) fits in
    let given = ap length (c.as_slice.ensures.value ∙ c.in_ok-start.ensures) in
    let same = ap (λ (p : Parts). length (shape p)) c.in_ok-last.ensures.empty.0 in
    omega (arith, short, given, same)

pub refill_numbers-requires : goal.refill_numbers-requires
refill_numbers-requires g c =
    let parts = c.args.problem.now in
    let fits = start_fits parts (option_copied c.args.after) c.in_ok-last.ensures.problem c.requires.fits in
    let short = fits_length (shape parts) (start_vector parts (option_copied c.args.after)) fits in
    let given = ap length (c.as_slice-2.ensures.value ∙ c.in_ok-start.ensures) in
    let room = c.in_ok-reached.ensures.capacity in
    let n = c.decisions.ensures in
    omega (arith, short, given, room, n)

pub start-requires-3-clause-fits : goal.start-requires-3-clause-fits
start-requires-3-clause-fits g c =
    let parts = c.args.problem.now in
    let fits = start_fits parts (option_copied c.args.after) c.in_ok-last.ensures.problem c.requires.fits in
    subst (λ z. Fits (shape z) c.refill_numbers.new.held.items) (sym c.in_ok-front.ensures.0) (subst (Fits (shape parts)) (sym (c.refill_numbers.ensures.items ∙ c.as_slice-2.ensures.value ∙ c.in_ok-start.ensures)) fits)

pub start-requires-3-clause-room : goal.start-requires-3-clause-room
start-requires-3-clause-room g c =
    let room = c.in_ok-reached.ensures.capacity in
    let same = c.refill_numbers.ensures.room in
    let n = c.decisions.ensures in
    let e = ap (λ (p : Parts). length (shape p)) c.in_ok-front.ensures.0 in
    omega (arith, room, same, n, e)

pub invariant_of-result : goal.invariant_of-result
invariant_of-result g c = (
  (begun g (goal.at.invariant_of-result g c).After-start-3).0,
  c.refill.ensures.parts ∙ c.in_ok-last.ensures.empty.0 ∙ sym (c.start-3.ensures.problem ∙ c.in_ok-front.ensures.0),
  sym (ap is_some c.start-3.ensures.fresh.2),
)

pub returns-clause-charged : goal.returns-clause-charged
returns-clause-charged g c = (begun g (goal.at.returns-clause-charged g c).After-start-3).1
