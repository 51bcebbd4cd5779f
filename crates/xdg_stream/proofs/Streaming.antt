-- What a call does to a stream.
use Rattle.std.proofs.Common.{◌≡◌, ◌≢◌, ℕ, ◌<◌, ◌≤◌, ◌-◌, inl, inr, ◌⊎◌, true, List, [], ◌∷◌, ◌++◌, length, take, refl, ap, sym, ◌∙◌, arith, subst, eq-eqb, None, Some}
use Rattle.std.specs.Prelude.{Option, filter}
use Rattle.std.proofs.Math.Seq.{take-append_seam}
use Rattle.xdg_facts.specs.Answered.{Drawn}
use Rattle.xdg_facts.specs.Fits.{Fits}
use Rattle.xdg_facts.specs.Order.{AtMost, Less}
use Rattle.xdg_facts.specs.Passed.{Charges, Finds}
use Rattle.xdg_facts.specs.Whole.{Whole, is_whole}
use Rattle.xdg_facts.proofs.Drawing.{drawn_none, drawn_found, drawn_charged}
use Rattle.xdg_facts.proofs.Joined.{so_far_split}
use Rattle.xdg_facts.proofs.Ordered.{less_irreflexive, less_transitive, at_most_less, at_most_transitive, at_most_of, less_or, not_less}
use Rattle.xdg_problem.specs.declared.analysis.Analysis.{Analysis}
use Rattle.xdg_problem.specs.declared.parts.Parts.{Parts}
use Rattle.xdg_problem.specs.Analyses.{IsAnalysis}
use Rattle.xdg_problem.specs.Problems.{IsProblem}
use Rattle.xdg_problem.specs.Solutions.{IsSolution}
use Rattle.xdg_problem.specs.Vectors.{analysis_of, shape, vector}
use Rattle.xdg_problem.proofs.VectorFacts.{vector_analysis, vector_fits, length_vector}
use Rattle.xdg_rules.specs.Boxed.{Boxed}
use Rattle.xdg_rules.proofs.RuleLaws.{boxed_laws}
use Rattle.xdg_stream.specs.Halts.{HaltsAt}
use Rattle.xdg_stream.specs.Lawful.{IsLawful}
use Rattle.xdg_stream.specs.Place.{place, Next}
use Rattle.xdg_stream.specs.declared.search.Step.{Step}
use Rattle.xdg_stream.specs.declared.search.Step.TheVariants as steps
use Rattle.xdg_stream.specs.Streamed.{Streamed, seen, IsStart, start_vector, Leaves, IsCharged, IsNext, with_found, Advances, IsStream}
use Rattle.xdg_facts.specs.Membership.{In}
use Rattle.xdg_facts.proofs.In.{in_append, filter_in}

-- ---- steps that differ

pub end_found : steps.End ≢ steps.Found
end_found e = cc

pub spent_found : steps.Spent ≢ steps.Found
spent_found e = cc

pub some_none : (step : Step) → Some step ≡ None → ⊥
some_none step e = cc

pub cases_done : (done : Option Step) → (done ≡ None) ⊎ ((step : Step) × (done ≡ Some step))
cases_done None = inl refl
cases_done (Some step) = inr (step, refl)

with_same : (step : Step) → step ≢ steps.Found → (answers : List (List ℕ)) (last : List ℕ) → with_found step answers last ≡ answers
with_same steps.Found other answers last = absurd (other refl)
with_same steps.End other answers last = refl
with_same steps.Spent other answers last = refl

-- ---- whole prefixes

whole_test : (shape x : List ℕ) → length x ≡ length shape → is_whole shape x ≡ true
whole_test shape x e = eq-eqb (length x) (length shape) e

-- among prefixes none of which is whole no whole one stands
none_whole : (shape x : List ℕ) (xs : List (List ℕ)) → filter (is_whole shape) xs ≡ [] → length x ≡ length shape → In xs x → ⊥
none_whole shape x xs none whole m = subst (λ z. In z x) none (filter_in (is_whole shape) xs x (whole_test shape x whole) m)

-- ---- solutions

module _ (parts : Parts) (problem : IsProblem parts) where
  -- the vector of a solution is whole and boxed
  solution_fits : (a : Analysis) → IsSolution parts a → Fits (shape parts) (vector parts a) × Whole (shape parts) (Boxed parts) (vector parts a)
  solution_fits a solves =
      let laws = boxed_laws parts problem in
      (vector_fits parts a problem solves.fits, (laws.solutions a solves, length_vector parts a problem solves.fits))

  -- of as many boxed prefixes from one start on the whole ones are the same
  drawn_once : (start to other : List ℕ) (n : ℕ) (answers more : List (List ℕ)) → Drawn (shape parts) (Boxed parts) start to n answers → Drawn (shape parts) (Boxed parts) start other n more → answers ≡ more
  drawn_once start to other n answers more d e =
      let laws = boxed_laws parts problem in
      let all = laws.listed start in
      let s = so_far_split (shape parts) (Boxed parts) start to d.passed all.members d.forward d.listing all.listing in
      let t = so_far_split (shape parts) (Boxed parts) start other e.passed all.members e.forward e.listing all.listing in
      let first : take n all.members ≡ d.passed = ap (take n) s.1 ∙ subst (λ k. take k (d.passed ++ s.0) ≡ d.passed) d.count (take-append_seam d.passed s.0) in
      let second : take n all.members ≡ e.passed = ap (take n) t.1 ∙ subst (λ k. take k (e.passed ++ t.0) ≡ e.passed) e.count (take-append_seam e.passed t.0) in
      d.drawn ∙ ap (filter (is_whole (shape parts))) (sym first ∙ second) ∙ sym e.drawn

-- ---- the start

-- the vector of the analysis behind which a stream begins fits

pub start_fits : (parts : Parts) (after : Option Analysis) → IsProblem parts → IsStart parts after → Fits (shape parts) (start_vector parts after)
start_fits parts None problem is = tt
start_fits parts (Some a) problem is = vector_fits parts a problem is

pub stream_start : (parts : Parts) (start front last numbers : List ℕ) (value room : ℕ) (done : Option Step) (charged budget : ℕ) → IsProblem parts → IsLawful (shape parts) (Boxed parts) numbers front room done charged budget → Next (shape parts) (Boxed parts) start (place numbers value) → front ≡ start → last ≡ start → charged ≡ 0 → done ≡ None → (is : IsStream (seen parts start budget charged front last done) numbers value room) × (is.answers ≡ [])
stream_start parts start front last numbers value room done charged budget problem lawful next here same zero_is none = (
  record {
    problem = problem;
    lawful = lawful;
    answers = [];
    so_far = record {
      drawn = subst (λ z. Drawn (shape parts) (Boxed parts) start z charged []) (sym here) (drawn_none (shape parts) (Boxed parts) start charged zero_is);
      within = lawful.within;
      reached = inl (same ∙ sym here);
      between = λ a solves l. subst (λ z. Less z (vector parts a)) (same ∙ sym here) l;
      leaves = subst (λ d. Leaves d parts front charged budget) (sym none) tt;
    };
    next = λ e. subst (λ z. Next (shape parts) (Boxed parts) z (place numbers value)) (sym here) next;
  },
  refl,
)

-- ---- a call

-- a stream that has the problem, start and budget of another
moved : (s t : Streamed) (front last : List ℕ) → t.parts ≡ s.parts → t.start ≡ s.start → t.budget ≡ s.budget → t.front ≡ front → t.last ≡ last → t ≡ seen s.parts s.start s.budget t.charged front last t.ended
moved s t front last p q b f l =
    ap (λ z. seen z t.start t.budget t.charged t.front t.last t.ended) p
    ∙ ap (λ z. seen s.parts z t.budget t.charged t.front t.last t.ended) q
    ∙ ap (λ z. seen s.parts s.start z t.charged t.front t.last t.ended) b
    ∙ ap (λ z. seen s.parts s.start s.budget t.charged z t.last t.ended) f
    ∙ ap (λ z. seen s.parts s.start s.budget t.charged front z t.ended) l

module _ {s : Streamed} {numbers : List ℕ} {value room : ℕ} (is : IsStream s numbers value room) where
  -- there are no other answers so far
  answered : (answers : List (List ℕ)) → IsCharged s answers → answers ≡ is.answers
  answered answers so_far = drawn_once s.parts is.problem s.start s.front s.front s.charged answers is.answers so_far.drawn is.so_far.drawn

  -- the same again
  pub again : (step other : Step) (t : Streamed) → step ≢ steps.Found → s.ended ≡ Some other → step ≡ other → t ≡ s → Advances s step t
  again step other t different ended same stays = subst (Advances s step) (sym stays) (record {
    given = (refl, refl, refl);
    charged = λ answers so_far. subst (IsCharged s) (sym (with_same step different answers s.last)) so_far;
    rises = omega arith;
    found = λ e. absurd (different e);
    costs = λ e. absurd (different e);
    stops = λ e. (ended ∙ ap Some (sym same), refl);
    none = λ e a solves l. (
        let fits = solution_fits s.parts is.problem a solves in
        subst (λ d. Leaves d s.parts s.front s.charged s.budget) (ended ∙ ap Some (sym same ∙ e)) is.so_far.leaves (vector s.parts a) fits.0 fits.1.0 (is.so_far.between a solves l)
        );
    repeats = λ more e. (same ∙ (let one : Some other ≡ Some more = sym ended ∙ e in cc), refl);
  })

  module _ (t : Streamed) {numbers' : List ℕ} (value' : ℕ) {room' : ℕ} (same : t.parts ≡ s.parts) (begun : t.start ≡ s.start) (spends : t.budget ≡ s.budget)
      (lawful : IsLawful (shape t.parts) (Boxed t.parts) numbers' t.front room' t.ended t.charged t.budget) (rises : s.charged ≤ t.charged) where
    -- it is kept, by what it has come to
    stream_of : (front last : List ℕ) → t ≡ seen s.parts s.start s.budget t.charged front last t.ended → (answers : List (List ℕ)) → IsCharged (seen s.parts s.start s.budget t.charged front last t.ended) answers
        → (t.ended ≡ None → Next (shape s.parts) (Boxed s.parts) front (place numbers' value')) → IsStream t numbers' value' room'
    stream_of front last path answers so_far next = subst (λ z. IsStream z numbers' value' room') (sym path) (record {
      problem = is.problem;
      lawful = subst (λ z. IsLawful (shape z.parts) (Boxed z.parts) numbers' z.front room' z.ended z.charged z.budget) path lawful;
      answers = answers;
      so_far = so_far;
      next = next;
    })

    -- something was found
    module _ (open_still : s.ended ≡ None) (front_is : t.front ≡ numbers') (last_is : t.last ≡ numbers') (goes_on : t.ended ≡ None) (finds : (from : List ℕ) → Next (shape s.parts) (Boxed s.parts) from (place numbers value) → Less from numbers' × Finds (shape s.parts) (Boxed s.parts) from numbers' (t.charged - s.charged)) where
      later : Streamed
      later = seen s.parts s.start s.budget t.charged numbers' numbers' t.ended

      path : t ≡ later
      unfolding later
      path = moved s t numbers' numbers' same begun spends front_is last_is

      so_far_found : IsCharged later (is.answers ++ numbers' ∷ [])
      unfolding later
      so_far_found =
          let f = finds s.front (is.next open_still) in
          record {
            drawn = drawn_found (shape s.parts) (Boxed s.parts) s.start s.front numbers' s.charged (t.charged - s.charged) t.charged is.answers is.so_far.drawn (inr f.0) f.1 (omega (arith, rises));
            within = (let w = lawful.within in omega (arith, w, spends));
            reached = inl refl;
            between = λ a solves l. l;
            leaves = subst (λ d. Leaves d s.parts numbers' t.charged s.budget) (sym goes_on) tt;
          }

      pub stream_found : Next (shape s.parts) (Boxed s.parts) numbers' (place numbers' value') → IsStream t numbers' value' room'
      unfolding later
      stream_found next = stream_of numbers' numbers' path (is.answers ++ numbers' ∷ []) so_far_found (λ e. next)

      next_found : Fits (shape s.parts) numbers' → Whole (shape s.parts) (Boxed s.parts) numbers' → IsNext s.parts s.last numbers'
      next_found fits whole =
          let f = finds s.front (is.next open_still) in
          let laws = boxed_laws s.parts is.problem in
          record {
            after = at_most_less s.last s.front numbers' is.so_far.reached f.0;
            solution = (laws.whole numbers' fits whole.1).0 whole.0;
            is_vector = vector_analysis s.parts numbers' is.problem fits whole.1;
            least = λ a solves l. at_most_of numbers' (vector s.parts a) (λ before.
                let x : List ℕ = vector s.parts a in
                let own = solution_fits s.parts is.problem a solves in
                let member = f.1.listing.all x own.0 (own.1.0, λ beyond. less_irreflexive x (less_transitive x numbers' x before beyond)) (is.so_far.between a solves l) in
                elim (in_append f.1.passed (numbers' ∷ []) x member) [
                  | inl m ↦ none_whole (shape s.parts) x f.1.passed f.1.none own.1.1 m
                  | inr m ↦ elim m [ inl e ↦ less_irreflexive numbers' (subst (λ z. Less z numbers') (sym e) before) | inr none ↦ none ]
                ]);
          }

      pub found_advances : s.charged < t.charged → Fits (shape s.parts) numbers' → Whole (shape s.parts) (Boxed s.parts) numbers' → Advances s steps.Found t
      unfolding later
      found_advances costs fits whole = subst (Advances s steps.Found) (sym path) (record {
        given = (refl, refl, refl);
        charged = λ answers so_far. subst (λ z. IsCharged later (z ++ numbers' ∷ [])) (sym (answered answers so_far)) so_far_found;
        rises = rises;
        found = λ e. (open_still, goes_on, refl, next_found fits whole);
        costs = λ e. costs;
        stops = λ e. absurd (e refl);
        none = λ e. absurd (end_found (sym e));
        repeats = λ other e. absurd (some_none other (sym e ∙ open_still));
      })

    -- nothing was found
    module _ (open_still : s.ended ≡ None) (step : Step) (different : step ≢ steps.Found) (last_is : t.last ≡ s.last) (stopped : t.ended ≡ Some step) (Rest : List ℕ → Type 0) (halts : (from : List ℕ) → Next (shape s.parts) (Boxed s.parts) from (place numbers value) → HaltsAt (shape s.parts) (Boxed s.parts) from (t.charged - s.charged) Rest s.front t.front) (leaves : (p : List ℕ) → Rest p → Leaves (Some step) s.parts p t.charged s.budget) where
      ended : Streamed
      ended = seen s.parts s.start s.budget t.charged t.front s.last t.ended

      route : t ≡ ended
      unfolding ended
      route = moved s t t.front s.last same begun spends refl last_is

      so_far_stopped : IsCharged ended is.answers
      unfolding ended
      so_far_stopped =
          let both = halts s.front (is.next open_still) in
          let here = both.1 refl in
          let forward : AtMost s.front t.front = subst (AtMost s.front) here both.0.forward in
          let charges : Charges (shape s.parts) (Boxed s.parts) s.front t.front (t.charged - s.charged) = subst (λ z. Charges (shape s.parts) (Boxed s.parts) s.front z (t.charged - s.charged)) here both.0.charges in
          record {
            drawn = drawn_charged (shape s.parts) (Boxed s.parts) s.start s.front t.front s.charged (t.charged - s.charged) t.charged is.answers is.so_far.drawn forward charges (omega (arith, rises));
            within = (let w = lawful.within in omega (arith, w, spends));
            reached = at_most_transitive s.last s.front t.front is.so_far.reached forward;
            between = λ a solves l. (
                let x : List ℕ = vector s.parts a in
                let own = solution_fits s.parts is.problem a solves in
                elim (less_or t.front x) [
                  | inl beyond ↦ beyond
                  | inr before ↦ absurd (none_whole (shape s.parts) x charges.passed charges.none own.1.1 (charges.listing.all x own.0 (own.1.0, not_less x t.front before) (is.so_far.between a solves l)))
                ]
                );
            leaves = subst (λ d. Leaves d s.parts t.front t.charged s.budget) (sym stopped) (leaves t.front (subst Rest here both.0.rest));
          }

      pub stream_stopped : IsStream t numbers' value' room'
      unfolding ended
      stream_stopped = stream_of t.front s.last route is.answers so_far_stopped (λ e. absurd (some_none step (sym stopped ∙ e)))

      pub stopped_advances : Advances s step t
      unfolding ended
      stopped_advances = subst (Advances s step) (sym route) (record {
        given = (refl, refl, refl);
        charged = λ answers so_far. subst (IsCharged ended) (sym (with_same step different answers s.last ∙ answered answers so_far)) so_far_stopped;
        rises = rises;
        found = λ e. absurd (different e);
        costs = λ e. absurd (different e);
        stops = λ e. (stopped, refl);
        none = λ e a solves l. (
            let own = solution_fits s.parts is.problem a solves in
            subst (λ d. Leaves d s.parts t.front t.charged s.budget) (stopped ∙ ap Some e) so_far_stopped.leaves (vector s.parts a) own.0 own.1.0 (so_far_stopped.between a solves l)
            );
        repeats = λ other e. absurd (some_none other (sym e ∙ open_still));
      })

    -- a call that found nothing, be it the first or the same again
    pub ended_call : {step : Step} → step ≢ steps.Found → t.last ≡ s.last → t.ended ≡ Some step → (Rest : List ℕ → Type 0)
        → (s.ended ≡ None → (from : List ℕ) → Next (shape s.parts) (Boxed s.parts) from (place numbers value) → HaltsAt (shape s.parts) (Boxed s.parts) from (t.charged - s.charged) Rest s.front t.front) →
        (s.ended ≡ None → (p : List ℕ) → Rest p → Leaves (Some step) s.parts p t.charged s.budget) →
        ((other : Step) → s.ended ≡ Some other → (step ≡ other) × (t ≡ s) × IsStream t numbers' value' room') → IsStream t numbers' value' room' × Advances s step t
    ended_call {step} different last_is stopped Rest halts leaves repeats = elim (cases_done s.ended) [
      | inl none ↦ (stream_stopped none step different last_is stopped Rest (halts none) (leaves none), stopped_advances none step different last_is stopped Rest (halts none) (leaves none))
      | inr some ↦ (let r = repeats some.0 some.1 in (r.2, again step some.0 t different some.1 r.0 r.1))
    ]

-- what was found stands for an analysis of the sentence
pub found_fits : {s t : Streamed} {parts : Parts} → s.parts ≡ parts → Advances s steps.Found t → IsAnalysis parts (analysis_of parts t.last)
found_fits {t = t} same step = subst (λ p. IsAnalysis p (analysis_of p t.last)) same (step.found refl).3.solution.fits
