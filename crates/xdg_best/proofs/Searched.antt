-- What a stream that has just started comes to by one call.
use Rattle.std.proofs.Common.{◌≡◌, ◌∙◌, ℕ, ◌+◌, ◌<◌, ◌≤◌, true, false, List, [], ◌∷◌, ◌++◌, length, take, arith, refl, sym, ap, subst, append_assoc, append-nil, length-append, eq-eqb, nat_lt, Some}
use Rattle.std.specs.Prelude.{filter}
use Rattle.std.proofs.lemmas.Bool.{lt-ltb, le-ltb}
use Rattle.std.proofs.lemmas.List.{take_all, take-append-le}
use Rattle.xdg_best.specs.Rounds.{Finds, FindsNone}
use Rattle.xdg_facts.specs.Answered.{Drawn}
use Rattle.xdg_facts.specs.Closed.{NoneAfter, SomeAfter}
use Rattle.xdg_facts.specs.Fits.{Fits}
use Rattle.xdg_facts.specs.Listing.{IsListing, SoFar}
use Rattle.xdg_facts.specs.Order.{Less}
use Rattle.xdg_facts.specs.Whole.{is_whole}
use Rattle.xdg_facts.proofs.Joined.{so_far_split}
use Rattle.xdg_facts.proofs.Ordered.{less_irreflexive}
use Rattle.xdg_problem.specs.declared.analysis.Analysis.{Analysis}
use Rattle.xdg_problem.specs.Analyses.{IsAnalysis}
use Rattle.xdg_problem.specs.Problems.{IsProblem}
use Rattle.xdg_problem.specs.Vectors.{analysis_of, shape, vector}
use Rattle.xdg_problem.proofs.OneToOne.{one_to_one}
use Rattle.xdg_rules.specs.Boxed.{Boxed}
use Rattle.xdg_rules.proofs.RuleLaws.{boxed_laws}
use Rattle.xdg_stream.specs.declared.search.Step.{Step}
use Rattle.xdg_stream.specs.declared.search.Step.TheVariants as steps
use Rattle.xdg_stream.specs.Streamed.{Advances, IsCharged, Leaves, Streamed}
use Rattle.xdg_stream.proofs.Streaming.{end_found, spent_found}
use Rattle.xdg_facts.specs.Membership.{In}
use Rattle.xdg_facts.proofs.Each.{each_in}
use Rattle.xdg_facts.proofs.In.{in_length}
use Rattle.xdg_facts.proofs.Filters.{none_before}
use Rattle.xdg_facts.proofs.Unique.{ends_with}

-- ---- lists alone

module _ (shape : List ℕ) (P : List ℕ → Type 0) (start : List ℕ) (counted : List (List ℕ)) (listing : IsListing shape P start counted) where
  -- the list of all up to the only whole one
  pub record Until (to : List ℕ) (n : ℕ) : Type 0 where
    pub before : List (List ℕ)
    pub behind : List (List ℕ)
    pub split : counted ≡ before ++ to ∷ behind
    pub first : filter (is_whole shape) before ≡ []
    pub place : n ≡ length before + 1

  pub until : (to : List ℕ) (n : ℕ) → Drawn shape P start to n (to ∷ []) → Fits shape to → P to → Less start to → length to ≡ length shape → Until to n
  until to n d fits holds after whole =
      let in_passed : In d.passed to = d.listing.all to fits (holds, less_irreflexive to) after in
      let last = ends_with start to d.passed d.listing.rises in_passed (λ y m less. (each_in (λ x. Fits shape x × SoFar P to x) d.passed y d.listing.each m).1.1 less) in
      let rest = so_far_split shape P start to d.passed counted d.forward d.listing listing in
      let passes : is_whole shape to ≡ true = eq-eqb (length to) (length shape) whole in
      let count = length-append last.before (to ∷ []) in
      let same : length d.passed ≡ length (last.before ++ to ∷ []) = ap length last.split in
      let n_is = d.count in
      record {
        before = last.before;
        behind = rest.0;
        split = rest.1 ∙ ap (λ z. z ++ rest.0) last.split ∙ append_assoc last.before (to ∷ []) rest.0;
        first = none_before (is_whole shape) last.before to to passes (ap (filter (is_whole shape)) (sym last.split) ∙ sym d.drawn);
        place = omega (arith, count, same, n_is);
      }

  -- no whole one, and nothing is left
  pub none_ended : (to : List ℕ) (n budget : ℕ) → Drawn shape P start to n [] → NoneAfter shape P to → n ≤ budget → (filter (is_whole shape) (take budget counted) ≡ []) × (false ≡ nat_lt budget (length counted))
  none_ended to n budget d none within =
      let rest = so_far_split shape P start to d.passed counted d.forward d.listing listing in
      let empty : rest.0 ≡ [] = nothing rest.0 rest.2 none in
      let same : counted ≡ d.passed = rest.1 ∙ ap (λ z. d.passed ++ z) empty ∙ append-nil d.passed in
      let few : length counted ≤ budget = let n_is = d.count in let l : length counted ≡ length d.passed = ap length same in omega (arith, n_is, l, within) in (
        ap (filter (is_whole shape)) (take_all budget counted few ∙ same) ∙ sym d.drawn,
        sym (le-ltb budget (length counted) few),
      )
    where
      nothing : (xs : List (List ℕ)) → IsListing shape P to xs → NoneAfter shape P to → xs ≡ []
      nothing [] l none = refl
      nothing (x ∷ xs) l none = absurd (none x l.each.0.0 l.each.0.1 l.rises.0)

  -- no whole one, and something is left
  pub none_spent : (to : List ℕ) (budget : ℕ) → Drawn shape P start to budget [] → SomeAfter shape P to → (filter (is_whole shape) (take budget counted) ≡ []) × (true ≡ nat_lt budget (length counted))
  none_spent to budget d some =
      let rest = so_far_split shape P start to d.passed counted d.forward d.listing listing in
      let one : 0 < length rest.0 = in_length rest.0 some.0 (rest.2.all some.0 some.1 some.2 some.3) in
      let l = length-append d.passed rest.0 in
      let c : length counted ≡ length (d.passed ++ rest.0) = ap length rest.1 in
      let n = d.count in
      let front : take budget counted ≡ d.passed = ap (λ k. take k counted) (sym d.count) ∙ ap (take (length d.passed)) rest.1 ∙ take-append-le (length d.passed) d.passed rest.0 (omega arith) ∙ take_all (length d.passed) d.passed (omega arith) in (
        ap (filter (is_whole shape)) front ∙ sym d.drawn,
        sym (lt-ltb budget (length counted) (omega (arith, one, l, c, n))),
      )

-- ---- a call

module _ (s t : Streamed) (is : IsProblem s.parts) (begun : s.last ≡ s.start) (fresh : IsCharged s []) where
  counted_of : (xs : List (List ℕ)) × IsListing (shape s.parts) (Boxed s.parts) s.start xs
  counted_of = let all = (boxed_laws s.parts is).listed s.start in (all.members, all.listing)

  drawn_of : (to : List ℕ) (answers : List (List ℕ)) → t.parts ≡ s.parts → t.start ≡ s.start → t.front ≡ to → IsCharged t answers → Drawn (shape s.parts) (Boxed s.parts) s.start to t.charged answers
  drawn_of to answers parts start front charged =
      subst (λ z. Drawn (shape s.parts) (Boxed s.parts) s.start z t.charged answers) front
      (subst (λ z. Drawn (shape s.parts) (Boxed s.parts) z t.front t.charged answers) start
      (subst (λ p. Drawn (shape p) (Boxed p) t.start t.front t.charged answers) parts charged.drawn))

  pub found_round : Advances s steps.Found t → (a : Analysis) → a ≡ analysis_of t.parts t.last → Finds s.parts s.start s.budget a t.charged
  found_round step a a_is =
      let found = step.found refl in
      let next = found.3 in
      let charged = step.charged [] fresh in
      let counted = counted_of in
      let one = one_to_one s.parts is in
      let here : a ≡ analysis_of s.parts t.last = a_is ∙ ap (λ p. analysis_of p t.last) step.given.0 in
      let v : vector s.parts a ≡ t.last = ap (vector s.parts) here ∙ next.is_vector in
      let fits = one.fits (analysis_of s.parts t.last) next.solution.fits in
      let to : t.last ≡ vector s.parts (analysis_of s.parts t.last) = sym next.is_vector in
      let u = until (shape s.parts) (Boxed s.parts) s.start counted.0 counted.1 t.last t.charged (drawn_of t.last (t.last ∷ []) step.given.0 step.given.1 found.2 charged)
      (subst (Fits (shape s.parts)) next.is_vector fits)
      (subst (Boxed s.parts) next.is_vector ((boxed_laws s.parts is).solutions (analysis_of s.parts t.last) next.solution))
      (subst (λ z. Less z t.last) begun next.after)
      (ap length to ∙ one.whole (analysis_of s.parts t.last) next.solution.fits) in
      record {
        fits = subst (IsAnalysis s.parts) (sym here) next.solution.fits;
        before = u.before;
        behind = u.behind;
        counted = subst (λ z. IsListing (shape s.parts) (Boxed s.parts) s.start z) (u.split ∙ ap (λ z. u.before ++ z ∷ u.behind) (sym v)) counted.1;
        first = u.first;
        place_is = u.place;
        within = subst (λ b. t.charged ≤ b) step.given.2 charged.within;
      }

  left_of : (step : Step) → t.parts ≡ s.parts → t.ended ≡ Some step → IsCharged t [] → Leaves (Some step) s.parts t.front t.charged t.budget
  left_of step parts ended charged = subst (λ e. Leaves e s.parts t.front t.charged t.budget) ended (subst (λ p. Leaves t.ended p t.front t.charged t.budget) parts charged.leaves)

  pub end_round : Advances s steps.End t → FindsNone s.parts s.start s.budget false
  end_round step =
      let charged = step.charged [] fresh in
      let counted = counted_of in
      let none = left_of steps.End step.given.0 (step.stops end_found).0 charged in
      let done = none_ended (shape s.parts) (Boxed s.parts) s.start counted.0 counted.1 t.front t.charged s.budget (drawn_of t.front [] step.given.0 step.given.1 refl charged) none (subst (λ b. t.charged ≤ b) step.given.2 charged.within) in
      record { counted = counted.0; counted_are = counted.1; none = done.0; spent_is = done.1 }

  pub spent_round : Advances s steps.Spent t → FindsNone s.parts s.start s.budget true
  spent_round step =
      let charged = step.charged [] fresh in
      let counted = counted_of in
      let some = left_of steps.Spent step.given.0 (step.stops spent_found).0 charged in
      let all : t.charged ≡ s.budget = some.0 ∙ step.given.2 in
      let done = none_spent (shape s.parts) (Boxed s.parts) s.start counted.0 counted.1 t.front s.budget (subst (λ n. Drawn (shape s.parts) (Boxed s.parts) s.start t.front n []) all (drawn_of t.front [] step.given.0 step.given.1 refl charged)) some.1 in
      record { counted = counted.0; counted_are = counted.1; none = done.0; spent_is = done.1 }
