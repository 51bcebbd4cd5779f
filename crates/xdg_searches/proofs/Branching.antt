-- What the branches of a sentence find is a front of the list of its solutions.
use Rattle.std.proofs.Common.{◌≡◌, ◌≢◌, ℕ, ◌<◌, ◌≤◌, ◌+◌, ◌-◌, Bool, true, List, [], ◌∷◌, ◌++◌, length, map, take, drop, get_or, zero, suc, refl, ap, ap₂, sym, ◌∙◌, subst, arith, Some, None}
use Rattle.std.specs.Prelude.{All, Option}
use Rattle.std.proofs.Math.Seq.{drop-cons, take-length}
use Rattle.std.proofs.lemmas.List.Elements.{All-nil, All-cons, All-take, All-weaker}
use Rattle.xdg_text.specs.Blocks.{shown}
use Rattle.xdg_split.specs.Printed.{blocks, last_line}
use Rattle.xdg_split.specs.Written.{IsSome}
use Rattle.xdg_text.specs.declared.form.Form.{Form}
use Rattle.xdg_searches.specs.Branched.{CanBranch, IsBranched, PrintsBranches, branch_job, branch_jobs, jobs_from}
use Rattle.xdg_searches.specs.Written.{WritesAll}
use Rattle.xdg_io.specs.Held.{Appends, AppendsFront}
use Rattle.xdg_propcore.specs.Uses.{AllStandIn}
use Rattle.xdg_searches.specs.Laws.{BranchedLaws, IsFrontOf, IsOneBranched}
use Rattle.xdg_facts.specs.declared.Ending.{Ending}
use Rattle.xdg_facts.specs.declared.Ending.TheVariants as endings
use Rattle.xdg_problem.specs.declared.analysis.Analysis.{Analysis}
use Rattle.xdg_problem.specs.declared.parts.Parts.{Parts}
use Rattle.xdg_problem.specs.Analyses.{IsAnalysis}
use Rattle.xdg_problem.specs.Branches.{branch_of, first_candidates}
use Rattle.xdg_problem.specs.BranchLaws.{AreBranchLists, joined}
use Rattle.xdg_problem.specs.Places.{numbers_from}
use Rattle.xdg_problem.specs.Problems.{IsProblem}
use Rattle.xdg_problem.specs.Solutions.{IsSolution}
use Rattle.xdg_problem.proofs.BranchSolutions.{branch_laws}
use Rattle.xdg_problem.proofs.BranchesJoined.{branches_join}
use Rattle.xdg_problem.proofs.OneList.{some_solution_list}
use Rattle.xdg_split.specs.Asked.{Asked, IsJob, asked}
use Rattle.xdg_split.specs.Splits.{AllWant, AreProblems, Continues, Ends, IsSplit, IsWhole, Reach}
use Rattle.xdg_split.specs.Splits.Reaches.{all, some}
use Rattle.xdg_split.proofs.Reaching.{some_reach}
use Rattle.xdg_split.proofs.Together.{have_one_split, split_stopped}
use Rattle.xdg_split.proofs.Turning.{split_empty}
use Rattle.xdg_facts.proofs.Truths.{not_both}

-- ---- fronts of lists

-- the first list begins the second
abbrev Begins : List Analysis → List Analysis → Type 0
Begins xs ys = xs ≡ take (length xs) ys

begins_same : (xs : List Analysis) → Begins xs xs
begins_same xs = sym (take-length xs)

begins_more : (xs ys : List Analysis) → Begins xs (xs ++ ys)
begins_more [] ys = refl
begins_more (x ∷ xs) ys = ap (λ z. x ∷ z) (begins_more xs ys)

begins_behind : (xs ys zs : List Analysis) → Begins ys zs → Begins (xs ++ ys) (xs ++ zs)
begins_behind [] ys zs b = b
begins_behind (x ∷ xs) ys zs b = ap (λ z. x ∷ z) (begins_behind xs ys zs b)

begins_take : (n : ℕ) (xs : List Analysis) → Begins (take n xs) xs
begins_take zero xs = refl
begins_take (suc n) [] = refl
begins_take (suc n) (x ∷ xs) = ap (λ z. x ∷ z) (begins_take n xs)

begins_on : (xs ys zs : List Analysis) → Begins xs ys → Begins ys zs → Begins xs zs
begins_on [] ys zs b c = refl
begins_on (x ∷ xs) [] zs b c = absurd (let n = ap length b in omega (arith, n))
begins_on (x ∷ xs) (y ∷ ys) [] b c = absurd (let n = ap length c in omega (arith, n))
begins_on (x ∷ xs) (y ∷ ys) (z ∷ zs) b c =
    ap₂ (λ u us. u ∷ us) (ap (head x) b ∙ ap (head y) c) (begins_on xs ys zs (ap tail b) (ap tail c))
  where
    head : Analysis → List Analysis → Analysis
    head d [] = d
    head d (u ∷ us) = u

    tail : List Analysis → List Analysis
    tail [] = []
    tail (u ∷ us) = us

begins_taken : (n : ℕ) (found solutions more : List Analysis) → found ≡ take n solutions → Begins found (solutions ++ more)
begins_taken n found solutions more is = subst (λ z. Begins z (solutions ++ more)) (sym is) (begins_on (take n solutions) solutions (solutions ++ more) (begins_take n solutions) (begins_more solutions more))

-- ---- the searches of the branches

numbers_both : {A : Type 0} (f : ℕ → A) (first n m : ℕ) → map f (numbers_from first n) ++ map f (numbers_from (first + n) m) ≡ map f (numbers_from first (n + m))
numbers_both f first zero m =
    let start : first + 0 ≡ first = omega arith in
    let many : m ≡ 0 + m = omega arith in
    ap₂ (λ k n. map f (numbers_from k n)) start many
numbers_both f first (suc n) m =
    let start : first + suc n ≡ suc first + n = omega arith in
    let many : suc (n + m) ≡ suc n + m = omega arith in
    ap (λ z. f first ∷ z) (ap (λ k. map f (numbers_from (suc first) n) ++ map f (numbers_from k m)) start ∙ numbers_both f (suc first) n m) ∙ ap (λ k. map f (numbers_from first k)) many

pub jobs_none : (f : ℕ → Asked) (from : ℕ) (jobs : List Asked) → jobs ≡ [] → jobs ≡ map f (numbers_from from (from - from))
jobs_none f from jobs none =
    let same : 0 ≡ from - from = omega arith in
    none ∙ ap (λ k. map f (numbers_from from k)) same

-- a search more of those from a place on
pub jobs_more : (f : ℕ → Asked) (from place : ℕ) (job : Asked) (jobs new : List Asked) → from ≤ place → jobs ≡ map f (numbers_from from (place - from)) → job ≡ f place → new ≡ jobs ++ job ∷ [] → new ≡ map f (numbers_from from (place + 1 - from))
jobs_more f from place job jobs new below are is grown =
    let last : place ≡ from + (place - from) = omega (arith, below) in
    let next : place - from + 1 ≡ place + 1 - from = omega (arith, below) in
    grown ∙ ap₂ (λ xs x. xs ++ x ∷ []) are is ∙ ap (λ k. map f (numbers_from from (place - from)) ++ f k ∷ []) last ∙ numbers_both f from (place - from) 1 ∙ ap (λ k. map f (numbers_from from k)) next

-- so many analyses are wanted of each of them
pub wants_from : (parts : Parts) (budget : ℕ) (wanted : Option ℕ) (place n : ℕ) → AllWant wanted (jobs_from parts budget wanted place n)
wants_from parts budget wanted place zero = All-nil (λ (job : Asked). job.first ≡ wanted)
wants_from parts budget wanted place (suc n) = All-cons (λ (job : Asked). job.first ≡ wanted) (branch_job parts budget wanted place) (jobs_from parts budget wanted (suc place) n) refl (wants_from parts budget wanted (suc place) n)

-- The branches up to a place are searched, and come to this.
pub record Upto (parts : Parts) (budget : ℕ) (wanted : Option ℕ) (place : ℕ) (ending : Ending) (found : List Analysis) : Type 0 where
  pub within : place ≤ length (first_candidates parts)
  pub split : IsSplit wanted (jobs_from parts budget wanted 0 place) ending found

-- ---- what the branches reach

module _ (parts : Parts) (is : IsProblem parts) (budget : ℕ) (wanted : Option ℕ) where
  abbrev count : ℕ
  count = length (first_candidates parts)

  abbrev jobs : ℕ → ℕ → List Asked
  jobs place n = jobs_from parts budget wanted place n

  branch_is : (place : ℕ) → place < count → IsProblem (branch_of parts place)
  branch_is place within = (branch_laws parts place is within).problem

  problems_from : (place n : ℕ) → place + n ≤ count → AreProblems (jobs place n)
  problems_from place zero within = All-nil (λ (job : Asked). IsProblem job.parts)
  problems_from place (suc n) within = All-cons (λ (job : Asked). IsProblem job.parts) (branch_job parts budget wanted place) (jobs (suc place) n) (branch_is place (omega (arith, within))) (problems_from (suc place) n (omega (arith, within)))

  are_problems : AreProblems (branch_jobs parts budget wanted)
  are_problems = problems_from 0 count (omega arith)

  -- the searches up to a place, and behind them some more
  jobs_both : (place n : ℕ) → jobs 0 place ++ jobs place n ≡ jobs 0 (place + n)
  jobs_both place n =
      let start : place ≡ 0 + place = omega arith in
      ap (λ k. jobs 0 place ++ jobs k n) start ∙ numbers_both (branch_job parts budget wanted) 0 place n

  -- ---- some branches at a time

  pub upto_none : (ending : Ending) (found : List Analysis) → ending ≡ endings.Complete → found ≡ [] → IsSome wanted → Upto parts budget wanted 0 ending found
  upto_none ending found complete none wants = record { within = omega arith; split = split_empty wanted [] ending found refl complete none wants }

  -- some more of them
  pub upto_more : (place to : ℕ) (ending new : Ending) (found more : List Analysis) → place ≤ to → to ≤ count → Upto parts budget wanted place ending found → Continues wanted ending found (jobs place (to - place)) new more
      → Upto parts budget wanted to new more
  upto_more place to ending new found more rises within upto goes =
      let there : place + (to - place) ≡ to = omega (arith, rises) in
      record { within = within; split = subst (λ js. IsSplit wanted js new more) (jobs_both place (to - place) ∙ ap (jobs 0) there) (goes (jobs 0 place) upto.split) }

  -- all are searched
  pub upto_all : (place : ℕ) (ending : Ending) (found : List Analysis) → count ≤ place → Upto parts budget wanted place ending found → IsBranched budget wanted parts ending found
  upto_all place ending found past upto =
      let here : place ≡ count = let w = upto.within in omega (arith, past, w) in
      subst (λ n. IsSplit wanted (jobs 0 n) ending found) here upto.split

  -- the others add nothing
  pub upto_stopped : (place : ℕ) (ending : Ending) (found : List Analysis) → (ending ≡ endings.Complete → ⊥) → Upto parts budget wanted place ending found → IsBranched budget wanted parts ending found
  upto_stopped place ending found ended upto =
      let there : place + (count - place) ≡ count = let w = upto.within in omega (arith, w) in
      let within : place + (count - place) ≤ count = let w = upto.within in omega (arith, w) in
      let rest = some_reach (jobs place (count - place)) (problems_from place (count - place) within) in
      subst (λ js. IsSplit wanted js ending found) (jobs_both place (count - place) ∙ ap (jobs 0) there) (split_stopped wanted (jobs 0 place) (jobs place (count - place)) ending found rest.0 rest.1 ended upto.split rest.2)

  -- ---- what all of them reach

  -- lists of the branches, of which those that are reached begin the joined ones
  record Listed (place n : ℕ) (whole : Bool) (found : List Analysis) : Type 0 where
    lists : List (List Analysis)
    many : length lists ≡ n
    are : AreBranchLists parts place lists
    begins : Begins found (joined lists)
    all_of : whole ≡ true → found ≡ joined lists

  some_lists_from : (place n : ℕ) → place + n ≤ count → (lists : List (List Analysis)) × (length lists ≡ n) × AreBranchLists parts place lists
  some_lists_from place zero within = ([], refl, tt)
  some_lists_from place (suc n) within =
      let here = some_solution_list (branch_of parts place) [] (branch_is place (omega (arith, within))) in
      let later = some_lists_from (suc place) n (omega (arith, within)) in
      (here.0 ∷ later.0, ap suc later.1, (here.1, later.2))

  listed : (place n : ℕ) (whole : Bool) (found : List Analysis) → place + n ≤ count → Reach (jobs place n) whole found → Listed place n whole found
  listed place zero whole found within here = record { lists = []; many = refl; are = tt; begins = subst (λ z. Begins z []) (sym here.1) refl; all_of = λ e. here.1 }
  listed place (suc n) whole found within (all counted solutions more lists covered later found_is) =
      let rest = listed (suc place) n whole more (omega (arith, within)) later in
      record {
        lists = solutions ∷ rest.lists;
        many = ap suc rest.many;
        are = (lists.solutions_are, rest.are);
        begins = subst (λ z. Begins z (solutions ++ joined rest.lists)) (sym found_is) (begins_behind solutions more (joined rest.lists) rest.begins);
        all_of = λ e. found_is ∙ ap (λ z. solutions ++ z) (rest.all_of e);
      }
  listed place (suc n) whole found within (some counted solutions lists beyond spent found_is) =
      let rest = some_lists_from (suc place) n (omega (arith, within)) in
      record {
        lists = solutions ∷ rest.0;
        many = ap suc rest.1;
        are = (lists.solutions_are, rest.2);
        begins = begins_taken _ found solutions (joined rest.0) found_is;
        all_of = λ e. not_both (sym e ∙ spent);
      }

  ends_begin : (ending : Ending) (w : Option ℕ) (whole : Bool) (reached found : List Analysis) → Ends ending w whole reached found → Begins found reached
  ends_begin endings.First None whole reached found e = absurd e
  ends_begin endings.First (Some n) whole reached found e = subst (λ z. Begins z reached) (sym e.1) (begins_take n reached)
  ends_begin endings.Complete w whole reached found e = subst (λ z. Begins found z) e.1 (begins_same found)
  ends_begin endings.Spent w whole reached found e = subst (λ z. Begins found z) e.1 (begins_same found)

  ends_whole : (ending : Ending) (w : Option ℕ) (whole : Bool) (reached found : List Analysis) → Ends ending w whole reached found → ending ≡ endings.Complete → (whole ≡ true) × (found ≡ reached)
  ends_whole ending w whole reached found e is =
      let ends : Ends endings.Complete w whole reached found = subst (λ z. Ends z w whole reached found) is e in
      (ends.0, ends.1)

  pub front_of : (ending : Ending) (found : List Analysis) → IsBranched budget wanted parts ending found → IsFrontOf parts ending found
  front_of ending found b =
      let l = listed 0 count b.whole b.reached (omega arith) b.reach in
      record {
        solutions = joined l.lists;
        are = branches_join parts is l.lists l.many l.are;
        front = begins_on found b.reached (joined l.lists) (ends_begin ending wanted b.whole b.reached found b.end) l.begins;
        whole = λ complete. (let e = ends_whole ending wanted b.whole b.reached found b.end complete in e.1 ∙ l.all_of e.0);
      }

  pub found_fit : (ending : Ending) (found : List Analysis) → IsBranched budget wanted parts ending found → All (IsAnalysis parts) found
  found_fit ending found b =
      let f = front_of ending found b in
      subst (All (IsAnalysis parts)) (sym f.front) (All-weaker (IsSolution parts) (IsAnalysis parts) (λ a s. s.fits) (take (length found) f.solutions) (All-take (IsSolution parts) (length found) f.solutions f.are.each))

  one_branched : (form : Form) → IsOneBranched form budget wanted parts
  one_branched form e h text more p q =
      let same = (have_one_split (branch_jobs parts budget wanted) are_problems).one wanted e h p.found q.found p.is q.is in
      (same.0, p.text_is ∙ ap₂ (λ xs (z : Ending). blocks form parts 1 xs ++ last_line z (length xs)) same.1 same.0 ∙ sym q.text_is)

  spent_not : (w : Option ℕ) (whole : Bool) (reached found : List Analysis) (ending : Ending) → whole ≡ true → Ends ending w whole reached found → ending ≢ endings.Spent
  spent_not w whole reached found ending all_whole e is =
      let ends : Ends endings.Spent w whole reached found = subst (λ z. Ends z w whole reached found) is e in
      not_both (sym all_whole ∙ ends.0)

  enough : (ending : Ending) (found : List Analysis) → All IsWhole (branch_jobs parts budget wanted) → IsBranched budget wanted parts ending found → ending ≢ endings.Spent
  enough ending found each b =
      let law = have_one_split (branch_jobs parts budget wanted) are_problems in
      spent_not wanted b.whole b.reached found ending ((law.only b.whole b.reached b.reach).0 ∙ law.enough each) b.end

  pub branched_laws : (form : Form) → BranchedLaws form budget wanted parts
  branched_laws form = record { one = one_branched form; fronts = front_of; enough = enough }

  -- ---- what is written

  pub written_all : (form : Form) (ending : Ending) (found : List Analysis) (old new : Option (List ℕ)) → IsBranched budget wanted parts ending found → Appends old new (blocks form parts 1 found ++ last_line ending (length found)) → WritesAll ending form budget wanted parts old new
  written_all form ending found old new b added = record {
    text = blocks form parts 1 found ++ last_line ending (length found);
    prints = record { found = found; is = b; text_is = refl };
    appends = added;
  }

  pub written_front : (form : Form) (ending : Ending) (found : List Analysis) (old new : Option (List ℕ)) → IsBranched budget wanted parts ending found → AppendsFront old new (blocks form parts 1 found ++ last_line ending (length found))
      → (other : Ending) (text : List ℕ) → PrintsBranches other form budget wanted parts text → AppendsFront old new text
  written_front form ending found old new b front other text p =
      subst (AppendsFront old new) (one_branched form ending other (blocks form parts 1 found ++ last_line ending (length found)) text (record { found = found; is = b; text_is = refl }) p).1 front

-- the blocks from a place on begin with that of the analysis there
pub blocks_from : (form : Form) (parts : Parts) (found : List Analysis) (i : ℕ) (a : Analysis) → i < length found → a ≡ get_or found i a → blocks form parts (i + 1) (drop i found) ≡ shown form parts (i + 1) a ++ blocks form parts (i + 1 + 1) (drop (i + 1) found)
blocks_from form parts found i a within is =
    let next : suc i ≡ i + 1 = omega arith in
    ap (blocks form parts (i + 1)) (drop-cons found i a within)
    ∙ ap (λ b. shown form parts (i + 1) b ++ blocks form parts (i + 1 + 1) (drop (suc i) found)) (sym is)
    ∙ ap (λ n. shown form parts (i + 1) a ++ blocks form parts (i + 1 + 1) (drop n found)) next

-- a search of jobs by these propagators
pub is_job : {P : Type 0} (stands : P → Parts → ℕ → Type 0) (props : List P) (parts : Parts) (budget : ℕ) (wanted : Option ℕ) → CanBranch budget wanted → AllStandIn stands props parts → IsJob stands props (asked parts budget wanted)
is_job stands props parts budget wanted can stand = record { stand = stand; some = can.some; most = can.most; first = can.first }
