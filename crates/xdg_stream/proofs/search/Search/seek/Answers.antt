use Rattle.std.proofs.Common.{◌≡◌, ◌-◌, arith, length, take, refl, ap, sym, subst, ◌∙◌}
use Rattle.xdg_facts.specs.Fits.{Fits}
use Rattle.xdg_facts.proofs.Fitting.{fits_length}
use Rattle.xdg_stream.specs.Place.{Stands}
use Rattle.xdg_stream.proofs.Passing.{next_first}
use Rattle.xdg_stream.proofs.Same.{same_then}
use Rattle.xdg_stream.proofs.Steps.{back_passes, back_smaller, back_stands, finished, grew, push_counts, push_fits, ran_counts, ran_finds, ran_kept, ran_passes, ran_smaller, ran_stands, refused_passes, refused_smaller, stands_room, taken_spent, whole_test}
use Rattle.xdg_stream.proofs.search.Search.seek.Goals as goal
use Rattle.xdg_facts.proofs.Fronts.{begins_back, begins_taken}

pub candidate-requires : goal.candidate-requires
candidate-requires g c = stands_room _ _ _ _ _ c.steps.invariant.same c.steps.invariant.stands

pub push-requires-clause-fits : goal.push-requires-clause-fits
push-requires-clause-fits g c = push_fits _ _ _ _ _ _ c.steps.invariant.same c.steps.invariant.stands (c.in-Some.ensures.some c.in-Some.value refl).1

pub back-requires-clause-fits : goal.back-requires-clause-fits
back-requires-clause-fits g c = subst (λ z. Fits z (g.F.Front.numbers c.steps.self.front)) (sym c.steps.invariant.same.sizes) c.steps.invariant.stands.fits

pub back-requires-clause-counts : goal.back-requires-clause-counts
back-requires-clause-counts g c = push_counts _ _ _ _ _ c.steps.invariant.same c.steps.invariant.stands

pub returns-in-None-back-clause-end : goal.returns-in-None-back-clause-end
returns-in-None-back-clause-end g c r from next = finished _ _ _ _ _ _ _ _ _ _ (g.met.F.Front.closed c.args.self.now.front) c.steps.invariant.same (c.in-None.ensures.none refl) c.in-None-back.ensures.backs.1 (c.steps.invariant.passed from next)

pub steps-smaller-in-Some-back : goal.steps-smaller-in-Some-back
steps-smaller-in-Some-back g c = back_smaller _ _ _ _ _ _ _ _ c.steps.invariant.stands c.from.ensures c.in-Some-back.ensures.backs.1

pub steps-preserved-in-Some-back : goal.steps-preserved-in-Some-back
steps-preserved-in-Some-back g c =
    let b = c.in-Some-back.ensures.backs in
    record {
      problem = c.back.ensures.kept ∙ c.steps.invariant.problem;
      same = same_then _ _ _ _ _ _ c.steps.invariant.same c.back.ensures.same;
      stands = back_stands _ _ _ _ _ (g.met.F.Front.closed c.args.self.now.front) c.steps.invariant.stands b.1;
      charged = c.steps.invariant.charged;
      kept = c.steps.invariant.kept;
      begins = begins_back _ _ _ _ c.steps.invariant.begins b.1;
      room = c.steps.invariant.room;
      passed = λ from next. back_passes _ _ _ _ _ _ _ _ _ _ _ _ _ _ (g.met.F.Front.closed c.args.self.now.front) c.steps.invariant.same (c.in-None.ensures.none refl) c.from.ensures b.1 b.2 (c.steps.invariant.passed from next);
    }

pub returns-then-self-clause-spent : goal.returns-then-self-clause-spent
returns-then-self-clause-spent g c r =
    let v = c.in-Some.ensures.some c.in-Some.value refl in (
      (let k = c.steps.invariant.kept in omega arith),
      λ from next. taken_spent _ _ _ _ _ _ _ _ _ _ _ c.steps.invariant.same c.steps.invariant.stands v.0 v.1 (c.if-push.ensures.taken refl).1 (c.steps.invariant.passed from next),
    )

pub follow-requires-clause-fits : goal.follow-requires-clause-fits
follow-requires-clause-fits g c =
    let r = grew c.steps.invariant.same c.steps.invariant.stands (c.in-Some.ensures.some c.in-Some.value refl) (c.if-push.ensures.taken refl) c.push.ensures.same in
    subst (λ z. Fits z (g.F.Front.numbers c.push.new.self)) (sym r.same.sizes) r.stands.fits

pub follow-requires-clause-counts : goal.follow-requires-clause-counts
follow-requires-clause-counts g c =
    let t = c.if-push.ensures.taken refl in
    subst (g.F.Front.counted c.push.new.self) (sym t.0) ((c.push.ensures.same.counts _).1 t.1)

pub keep-requires-clause-room : goal.keep-requires-clause-room
keep-requires-clause-room g c =
    let r = grew c.steps.invariant.same c.steps.invariant.stands (c.in-Some.ensures.some c.in-Some.value refl) (c.if-push.ensures.taken refl) c.push.ensures.same in
    let a = fits_length _ _ (ran_stands r c.follow.ensures.follows).fits in
    let b = ap length c.prefix-then-push.ensures in
    let room = c.requires.room in
    let same = c.steps.invariant.room in
    omega (arith, a, b, room, same)

pub returns-then-prefix-decisions-clause-found : goal.returns-then-prefix-decisions-clause-found
returns-then-prefix-decisions-clause-found g c w =
    let r = grew c.steps.invariant.same c.steps.invariant.stands (c.in-Some.ensures.some c.in-Some.value refl) (c.if-push.ensures.taken refl) c.push.ensures.same in
    (ran_stands r c.follow.ensures.follows, next_first _ _ _)

pub returns-then-prefix-decisions-clause-finds : goal.returns-then-prefix-decisions-clause-finds
returns-then-prefix-decisions-clause-finds g c w from next =
    let r = grew c.steps.invariant.same c.steps.invariant.stands (c.in-Some.ensures.some c.in-Some.value refl) (c.if-push.ensures.taken refl) c.push.ensures.same in
    let d = c.steps.invariant.charged in
    ran_finds r c.follow.ensures.follows (g.met.F.Front.closed c.args.self.now.front) (omega (arith, d)) (c.steps.invariant.passed from next)
    ((whole_test r.same c.follow.ensures.same c.prefix-then-push-2.ensures c.decisions.ensures).0 c.if-prefix-decisions.true)

pub returns-then-prefix-decisions-clause-whole : goal.returns-then-prefix-decisions-clause-whole
returns-then-prefix-decisions-clause-whole g c w =
    let r = grew c.steps.invariant.same c.steps.invariant.stands (c.in-Some.ensures.some c.in-Some.value refl) (c.if-push.ensures.taken refl) c.push.ensures.same in
    (ran_counts r c.follow.ensures.follows, (whole_test r.same c.follow.ensures.same c.prefix-then-push-2.ensures c.decisions.ensures).0 c.if-prefix-decisions.true)

pub returns-then-prefix-decisions-clause-reached : goal.returns-then-prefix-decisions-clause-reached
returns-then-prefix-decisions-clause-reached g c w =
    let r = grew c.steps.invariant.same c.steps.invariant.stands (c.in-Some.ensures.some c.in-Some.value refl) (c.if-push.ensures.taken refl) c.push.ensures.same in
    ran_kept r c.follow.ensures.follows _ c.steps.invariant.begins c.prefix.ensures c.prefix-then-push.ensures c.keep.ensures.items

pub steps-smaller-else-prefix-decisions : goal.steps-smaller-else-prefix-decisions
steps-smaller-else-prefix-decisions g c =
    let r = grew c.steps.invariant.same c.steps.invariant.stands (c.in-Some.ensures.some c.in-Some.value refl) (c.if-push.ensures.taken refl) c.push.ensures.same in
    ran_smaller r c.follow.ensures.follows

pub steps-preserved-else-prefix-decisions : goal.steps-preserved-else-prefix-decisions
steps-preserved-else-prefix-decisions g c =
    let r = grew c.steps.invariant.same c.steps.invariant.stands (c.in-Some.ensures.some c.in-Some.value refl) (c.if-push.ensures.taken refl) c.push.ensures.same in
    let f = c.follow.ensures.follows in
    let d = c.steps.invariant.charged in
    let n = c.if-self.false in
    let within = f.within in
    let is = ran_kept r c.follow.ensures.follows _ c.steps.invariant.begins c.prefix.ensures c.prefix-then-push.ensures c.keep.ensures.items in
    record {
      problem = c.follow.ensures.kept ∙ c.push.ensures.kept ∙ c.steps.invariant.problem;
      same = same_then _ _ _ _ _ _ r.same c.follow.ensures.same;
      stands = ran_stands r f;
      charged = (omega (arith, d), omega (arith, d, n, within));
      kept = c.steps.invariant.kept;
      begins = begins_taken _ _ is;
      room = (let r = c.keep.ensures.room in let kept = c.steps.invariant.room in omega (arith, r, kept));
      passed = λ from next. ran_passes r f (g.met.F.Front.closed c.args.self.now.front) (omega (arith, d)) (c.steps.invariant.passed from next)
          (λ w. c.if-prefix-decisions.false ((whole_test r.same c.follow.ensures.same c.prefix-then-push-2.ensures c.decisions.ensures).1 w)) is;
    }

pub steps-smaller : goal.steps-smaller
steps-smaller g c =
    let v = c.in-Some.ensures.some c.in-Some.value refl in
    refused_smaller _ _ _ _ _ _ _ _ c.steps.invariant.same v.0 v.1 (c.if-push.ensures.refused refl).0

pub steps-preserved : goal.steps-preserved
steps-preserved g c =
    let v = c.in-Some.ensures.some c.in-Some.value refl in
    let t = c.if-push.ensures.refused refl in
    record {
      problem = c.push.ensures.kept ∙ c.steps.invariant.problem;
      same = same_then _ _ _ _ _ _ c.steps.invariant.same c.push.ensures.same;
      stands = subst (Stands _ _) (sym t.0) c.steps.invariant.stands;
      charged = c.steps.invariant.charged;
      kept = c.steps.invariant.kept;
      begins = subst (λ z. take (length z) c.steps.self.reached.items ≡ z) (sym t.0) c.steps.invariant.begins;
      room = c.steps.invariant.room;
      passed = λ from next. refused_passes _ _ _ _ _ _ _ _ _ _ _ _ (g.met.F.Front.closed c.args.self.now.front) c.steps.invariant.same v.0 t.1 t.0 (c.steps.invariant.passed from next);
    }
