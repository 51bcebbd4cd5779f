-- What the searches of jobs come to.
use Rattle.std.proofs.Common.{◌≡◌, ℕ, ◌<◌, ◌≤◌, inl, inr, Bool, true, false, List, [], ◌∷◌, ◌++◌, length, map, take, zero, suc, refl, ap, sym, ◌∙◌, subst, arith, append-nil, length-append, Some, None}
use Rattle.std.specs.Prelude.{Option}
use Rattle.std.proofs.Math.Seq.{take-length}
use Rattle.std.proofs.lemmas.List.{length-map, length-take, length-take-le, take-append-le, take-map, take-take}
use Rattle.xdg_split.proofs.Boxing.{boxed_listing}
use Rattle.xdg_facts.specs.Endings.{IsAt, IsBelow, IsEnding}
use Rattle.xdg_facts.specs.Whole.{reach}
use Rattle.xdg_facts.specs.declared.Ending.{Ending}
use Rattle.xdg_facts.specs.declared.Ending.TheVariants as endings
use Rattle.xdg_facts.proofs.Drawing.{ending_of}
use Rattle.xdg_facts.proofs.Ordered.{three_cases}
use Rattle.xdg_problem.specs.declared.analysis.Analysis.{Analysis}
use Rattle.xdg_problem.specs.Problems.{IsProblem}
use Rattle.xdg_problem.specs.Vectors.{analysis_of, shape, vector}
use Rattle.xdg_problem.proofs.SolutionLists.{analyses_back}
use Rattle.xdg_rules.specs.Boxed.{Boxed}
use Rattle.xdg_split.specs.Asked.{Asked}
use Rattle.xdg_split.specs.Finds.{AreFound, IsCut, Joins}
use Rattle.xdg_split.specs.Splits.{AreFirst, AreLists, AreProblems, Ends, HaveOneSplit, IsSplit, Reach}
use Rattle.xdg_split.specs.Splits.Reaches.{all, some}
use Rattle.xdg_split.proofs.Reaching.{all_reach, one_reach, reach_both, reach_stopped, some_lists, some_reach}
use Rattle.xdg_facts.proofs.Truths.{not_both}

-- ---- lists

take_behind : (n : ℕ) (f g : List Analysis) → take n (f ++ take n g) ≡ take n (f ++ g)
take_behind n f g = within n n f g (omega arith) where
  within : (n m : ℕ) (f g : List Analysis) → n ≤ m → take n (f ++ take m g) ≡ take n (f ++ g)
  within n m [] g l = take-take n m g l
  within zero m (a ∷ f) g l = refl
  within (suc n) m (a ∷ f) g l = ap (λ z. a ∷ z) (within n m f g (omega (arith, l)))

-- ---- a single search

module _ (job : Asked) (counted : List (List ℕ)) (solutions : List Analysis) (lists : AreLists job counted solutions) (m : ℕ) (no_more : m ≤ length solutions) where
  whole_single : length counted ≤ job.budget → Reach (job ∷ []) true solutions
  whole_single within = all counted solutions [] lists within (refl, refl) (sym (append-nil solutions))

  part_single : job.budget < length counted → Reach (job ∷ []) false (take (reach (shape job.parts) job.budget counted) solutions)
  part_single beyond = some counted solutions lists beyond refl refl

  first_at : (wanted : Option ℕ) (reached : List Analysis) → IsAt m wanted → m ≤ length reached → take m solutions ≡ take m reached → AreFirst wanted reached (take m solutions)
  first_at None reached at within same = absurd at
  first_at (Some n) reached at within same = (subst (λ k. k ≤ length reached) at within, subst (λ k. take m solutions ≡ take k reached) at same)

  -- as many as wanted, whether the job is whole or not
  first_single : (wanted : Option ℕ) → IsAt m wanted → m ≤ reach (shape job.parts) job.budget counted → IsSplit wanted (job ∷ []) endings.First (take m solutions)
  first_single wanted at within = elim (three_cases job.budget (length counted)) [
    | inl beyond ↦ (let front : List Analysis = take (reach (shape job.parts) job.budget counted) solutions in
        let same : take m solutions ≡ take m front = sym (take-take m (reach (shape job.parts) job.budget counted) solutions within) in
        let long : m ≤ length front = long_front same in
        record { whole = false; reached = front; reach = part_single beyond; end = first_at wanted front at long same })
    | inr (inl same) ↦ record { whole = true; reached = solutions; reach = whole_single (omega (arith, same)); end = first_at wanted solutions at no_more refl }
    | inr (inr less) ↦ record { whole = true; reached = solutions; reach = whole_single (omega (arith, less)); end = first_at wanted solutions at no_more refl }
  ] where
    long_front : take m solutions ≡ take m (take (reach (shape job.parts) job.budget counted) solutions) → m ≤ length (take (reach (shape job.parts) job.budget counted) solutions)
    long_front same =
        let e = ap length same in
        let l = length-take-le m solutions no_more in
        let t = length-take m (take (reach (shape job.parts) job.budget counted) solutions) in
        omega (arith, e, l, t)

  single : (ending : Ending) (wanted : Option ℕ) → IsEnding ending (shape job.parts) job.budget wanted counted (map (vector job.parts) solutions) m → IsSplit wanted (job ∷ []) ending (take m solutions)
  single endings.Complete wanted e =
      let same : m ≡ length solutions = e.0 ∙ length-map solutions (vector job.parts) in
      record {
        whole = true;
        reached = solutions;
        reach = whole_single e.1;
        end = (refl, ap (λ k. take k solutions) same ∙ take-length solutions, subst (λ k. IsBelow k wanted) same e.2);
      }
  single endings.Spent wanted e =
      let long : m ≡ length (take (reach (shape job.parts) job.budget counted) solutions) = sym (length-take-le m solutions no_more) ∙ ap (λ k. length (take k solutions)) e.0 in
      record {
        whole = false;
        reached = take (reach (shape job.parts) job.budget counted) solutions;
        reach = part_single e.1;
        end = (refl, ap (λ k. take k solutions) e.0, subst (λ k. IsBelow k wanted) long e.2);
      }
  single endings.First wanted e = first_single wanted e.0 e.1

-- what the analyses of a search that ended so are
pub split_single : (job : Asked) → IsProblem job.parts → (ending : Ending) (found : List Analysis) → AreFound job.parts job.budget job.first ending found → IsSplit job.first (job ∷ []) ending found
split_single job is ending found f =
    let two = some_lists job is in
    let counted : List (List ℕ) = two.0 in
    let solutions : List Analysis = two.1 in
    let m : ℕ = length f.vectors in
    let ends = ending_of ending (shape job.parts) (Boxed job.parts) [] job.budget job.first f.vectors f.answered counted (map (vector job.parts) solutions) two.2.counted_are (boxed_listing job.parts is [] solutions two.2.solutions_are) in
    let taken : found ≡ take m solutions = f.found_are ∙ ap (map (analysis_of job.parts)) ends.0 ∙ sym (take-map (analysis_of job.parts) m (map (vector job.parts) solutions)) ∙ ap (take m) (analyses_back job.parts is solutions two.2.solutions_are.each) in
    let no_more : m ≤ length solutions = few (map (vector job.parts) solutions) f.vectors (length solutions) ends.0 (length-map solutions (vector job.parts)) in
    subst (IsSplit job.first (job ∷ []) ending) (sym taken) (single job counted solutions two.2 m no_more ending job.first ends.1)
  where
    few : (every vectors : List (List ℕ)) (n : ℕ) → vectors ≡ take (length vectors) every → length every ≡ n → length vectors ≤ n
    few every vectors n e l = let k = ap length e in let t = length-take (length vectors) every in omega (arith, k, t, l)

-- ---- one list of jobs behind the other

-- what of the later ones is seen of all: as many as wanted are there, and they are the same
seen_of : (later : Ending) (n : ℕ) (w : Bool) (r s g : List Analysis) → Ends later (Some n) w s g → n ≤ length (r ++ g) → (n ≤ length (r ++ s)) × (take n (r ++ g) ≡ take n (r ++ s))
seen_of endings.First n w r s g e long =
    let l = length-append r s in
    (omega (arith, l, e.0), ap (λ z. take n (r ++ z)) e.1 ∙ take_behind n r s)
seen_of later n w r s g e long = (subst (λ z. n ≤ length (r ++ z)) e.1 long, ap (λ z. take n (r ++ z)) e.1)

-- fewer than wanted are found together, so the later ones ended otherwise, and so do all
below_of : (later : Ending) (n : ℕ) (w : Bool) (r s g : List Analysis) → Ends later (Some n) w s g → length (r ++ g) < n → Ends later (Some n) w (r ++ s) (r ++ g)
below_of endings.First n w r s g e less =
    absurd (let k = ap length e.1 in let t = length-take-le n s e.0 in let l = length-append r g in omega (arith, k, t, l, less))
below_of later n w r s g e less = (e.0, ap (λ z. r ++ z) e.1, subst (λ z. length (r ++ z) < n) e.1 less)

none_of : (later : Ending) (w : Bool) (r s g : List Analysis) → Ends later None w s g → Ends later None w (r ++ s) (r ++ g)
none_of endings.First w r s g e = absurd e
none_of later w r s g e = (e.0, ap (λ z. r ++ z) e.1, tt)

cut_ends : (wanted : Option ℕ) (r s g found : List Analysis) (w : Bool) (later ending : Ending) → Ends later wanted w s g → IsCut wanted later (r ++ g) ending found → Ends ending wanted w (r ++ s) found
cut_ends None r s g found w later ending e cut =
    let c = cut.all tt in
    subst (λ z. Ends z None w (r ++ s) found) (sym c.0) (subst (Ends later None w (r ++ s)) (sym c.1) (none_of later w r s g e))
cut_ends (Some n) r s g found w later ending e cut = elim (three_cases (length (r ++ g)) n) [
  | inl less ↦ (let c = cut.all less in subst (λ z. Ends z (Some n) w (r ++ s) found) (sym c.0) (subst (Ends later (Some n) w (r ++ s)) (sym c.1) (below_of later n w r s g e less)))
  | inr (inl same) ↦ as_many (omega (arith, same))
  | inr (inr more) ↦ as_many (omega (arith, more))
] where
  as_many : n ≤ length (r ++ g) → Ends ending (Some n) w (r ++ s) found
  as_many long =
      let c = cut.first n refl long in
      let seen = seen_of later n w r s g e long in
      subst (λ z. Ends z (Some n) w (r ++ s) found) (sym c.0) (seen.0, c.1 ∙ seen.1)

pub joins_complete : (wanted : Option ℕ) (f g found : List Analysis) (later ending : Ending) → IsCut wanted later (f ++ g) ending found → Joins wanted endings.Complete f later g ending found
joins_complete wanted f g found later ending cut jobs others x y = record {
  whole = y.whole;
  reached = x.reached ++ y.reached;
  reach = reach_both jobs others y.whole x.reached y.reached (subst (λ w. Reach jobs w x.reached) x.end.0 x.reach) y.reach;
  end = cut_ends wanted x.reached y.reached g found y.whole later ending y.end (subst (λ z. IsCut wanted later (z ++ g) ending found) x.end.1 cut);
}

-- two lists of answers are one, of which as many as wanted are kept
pub joins_cut : (wanted : Option ℕ) (ending later middle new : Ending) (f g joined found : List Analysis) → ending ≡ endings.Complete → middle ≡ later → joined ≡ f ++ g → IsCut wanted middle joined new found → Joins wanted ending f later g new found
joins_cut wanted ending later middle new f g joined found is same grown cut jobs others x y =
    joins_complete wanted f g found later new (subst (λ z. IsCut wanted later z new found) grown (subst (λ z. IsCut wanted z joined new found) same cut)) jobs others (subst (λ z. IsSplit wanted jobs z f) is x) y

-- as many as wanted are the first of what is reached, and of what is reached with others
first_stopped : (wanted : Option ℕ) (jobs others : List Asked) (found : List Analysis) (w v : Bool) (r s : List Analysis) → Reach jobs w r → Reach others v s → AreFirst wanted r found → IsSplit wanted (jobs ++ others) endings.First found
first_stopped None jobs others found w v r s x y e = absurd e
first_stopped (Some n) jobs others found true v r s x y e =
    let l = length-append r s in
    record { whole = v; reached = r ++ s; reach = reach_both jobs others v r s x y; end = (omega (arith, l, e.0), e.1 ∙ sym (take-append-le n r s e.0)) }
first_stopped (Some n) jobs others found false v r s x y e = record { whole = false; reached = r; reach = reach_stopped jobs others r x; end = e }

pub split_stopped : (wanted : Option ℕ) (jobs others : List Asked) (ending : Ending) (found : List Analysis) (v : Bool) (s : List Analysis) → (ending ≡ endings.Complete → ⊥) → IsSplit wanted jobs ending found → Reach others v s → IsSplit wanted (jobs ++ others) ending found
split_stopped wanted jobs others endings.Complete found v s ended x y = absurd (ended refl)
split_stopped wanted jobs others endings.First found v s ended x y = first_stopped wanted jobs others found x.whole v x.reached s x.reach y x.end
split_stopped wanted jobs others endings.Spent found v s ended x y = record {
  whole = false;
  reached = x.reached;
  reach = reach_stopped jobs others x.reached (subst (λ w. Reach jobs w x.reached) x.end.0 x.reach);
  end = (refl, x.end.1, x.end.2);
}

pub joins_stopped : (wanted : Option ℕ) (f g : List Analysis) (ending later : Ending) → (ending ≡ endings.Complete → ⊥) → Joins wanted ending f later g ending f
joins_stopped wanted f g ending later ended jobs others x y = split_stopped wanted jobs others ending f y.whole y.reached ended x y.reach

pub not_complete : (e ending : Ending) → ending ≡ e → (e ≡ endings.Complete → ⊥) → ending ≡ endings.Complete → ⊥
not_complete e ending is other c = other (sym is ∙ c)

-- ---- one answer

one_end : (wanted : Option ℕ) (w : Bool) (r : List Analysis) (e h : Ending) (f g : List Analysis) → Ends e wanted w r f → Ends h wanted w r g → (e ≡ h) × (f ≡ g)
one_end None w r endings.First h f g x y = absurd x
one_end None w r e endings.First f g x y = absurd y
one_end (Some n) w r endings.First endings.First f g x y = (refl, x.1 ∙ sym y.1)
one_end (Some n) w r endings.First h f g x y = absurd (omega (arith, x.0, y.2))
one_end (Some n) w r e endings.First f g x y = absurd (omega (arith, y.0, x.2))
one_end wanted w r endings.Complete endings.Complete f g x y = (refl, x.1 ∙ sym y.1)
one_end wanted w r endings.Complete endings.Spent f g x y = not_both (sym x.0 ∙ y.0)
one_end wanted w r endings.Spent endings.Complete f g x y = not_both (sym y.0 ∙ x.0)
one_end wanted w r endings.Spent endings.Spent f g x y = (refl, x.1 ∙ sym y.1)

one_split : (jobs : List Asked) → AreProblems jobs → (wanted : Option ℕ) (e h : Ending) (f g : List Analysis) → IsSplit wanted jobs e f → IsSplit wanted jobs h g → (e ≡ h) × (f ≡ g)
one_split jobs are wanted e h f g x y =
    let same = one_reach jobs are x.whole y.whole x.reached y.reached x.reach y.reach in
    one_end wanted x.whole x.reached e h f g x.end (subst (λ w. Ends h wanted w x.reached g) (sym same.0) (subst (λ r. Ends h wanted y.whole r g) (sym same.1) y.end))

pub have_one_split : (jobs : List Asked) → AreProblems jobs → HaveOneSplit jobs
have_one_split jobs are =
    let here = some_reach jobs are in
    record {
      whole = here.0;
      reached = here.1;
      reach = here.2;
      only = λ other found x. one_reach jobs are other here.0 found here.1 x here.2;
      one = one_split jobs are;
      enough = λ each. all_reach jobs here.0 here.1 each here.2;
    }
