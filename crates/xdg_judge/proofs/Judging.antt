-- From what a search finds to verdicts.
use Rattle.std.proofs.Common.{◌≡◌, ◌≢◌, ℕ, ◌+◌, ◌<◌, ◌≤◌, ◌↔◌, inl, false, List, [], ◌∷◌, ◌++◌, length, take, get_or, ap, sym, ◌∙◌, subst, arith}
use Rattle.std.specs.Prelude.{IsTrue, All, slice_index}
use Rattle.std.specs.List.{AllZip}
use Rattle.std.proofs.lemmas.Bool.{false≢true}
use Rattle.std.proofs.lemmas.List.{take_all, take_more, get_or-take, get_or_default, length-take}
use Rattle.xdg_problem.specs.declared.analysis.Analysis.{Analysis}
use Rattle.xdg_problem.specs.declared.analysis.Edge.{Edge}
use Rattle.xdg_problem.specs.declared.conditions.Condition.{Condition}
use Rattle.xdg_problem.specs.declared.conditions.Condition.TheVariants as conditions
use Rattle.xdg_problem.specs.declared.parts.Group.{Group}
use Rattle.xdg_problem.specs.declared.parts.Parts.{Parts}
use Rattle.xdg_problem.specs.declared.parts.Principle.{Principle}
use Rattle.xdg_problem.specs.Conditions.{conditions_of, root_count}
use Rattle.xdg_problem.specs.Arguments.{first_dim}
use Rattle.xdg_problem.specs.Paths.{edges_on, roots}
use Rattle.xdg_problem.specs.Places.{nodes}
use Rattle.xdg_problem.specs.Relations.{Relation, IsKeptWhole, IsFirstBroken}
use Rattle.xdg_problem.proofs.Verdicts.{broken_fails}
use Rattle.xdg_judge.specs.Searching.{IsSearched, tuple_for, second_size, third_size, FirstThree}
use Rattle.xdg_judge.specs.Verdicts.{AsksHere, IsOfWhole, IsKeptHere, IsLeastBroken, IsVerdict}
use Rattle.xdg_judge.specs.declared.verdict.Verdict.{Verdict}
use Rattle.xdg_judge.proofs.Least.{kept_of, least_of}
use Rattle.xdg_facts.proofs.Lists.{zip_more as zip_push}
use Rattle.xdg_problem.specs.Principles.{conditions_for}

-- what holds of each number below one holds of each below a lesser one

-- the number of nodes without mother

pub roots_kept : (parts : Parts) (group : Group) (analysis : Analysis) (count : ℕ) → count ≡ root_count parts group analysis.edges → count ≡ 1 → IsKeptHere parts group analysis conditions.Roots
roots_kept parts group analysis count e one tuple is = ap (λ t. slice_index t 0) is ∙ (sym e ∙ one)

pub roots_counted : (parts : Parts) (group : Group) (analysis : Analysis) (count n dim : ℕ) (edges : List Edge) → count ≡ length (roots n (edges_on dim edges)) → n ≡ nodes parts → dim ≡ first_dim group → edges ≡ analysis.edges → count ≡ root_count parts group analysis.edges
roots_counted parts group analysis count n dim edges is size on same = rw (size, on, same) at is

pub roots_broken : (parts : Parts) (group : Group) (analysis : Analysis) (count : ℕ) → count ≡ root_count parts group analysis.edges → count ≢ 1 → IsLeastBroken parts group analysis conditions.Roots (count ∷ [])
roots_broken parts group analysis count e other = record {
  breaks = record { within = ap (λ n. n ∷ []) e; fails = λ one. other one };
  least = λ t b. inl (ap (λ n. n ∷ []) e ∙ sym b.within);
}

-- a condition whose triples all pass, and one with a first triple that fails

pub condition_kept : (parts : Parts) (group : Group) (analysis : Analysis) (condition : Condition) (size middle last : ℕ) → IsSearched condition → size ≡ nodes parts → middle ≡ second_size condition parts group → last ≡ third_size condition parts group → ((a : ℕ) → a < size → (b : ℕ) → b < middle → (c : ℕ) → c < last → AsksHere parts group analysis condition (tuple_for condition a b c)) → IsKeptHere parts group analysis condition
condition_kept parts group analysis condition size middle last searched e f g h =
    kept_of condition parts group analysis.edges (AsksHere parts group analysis condition) searched (rw (e, f, g) at h)

pub condition_broken : (parts : Parts) (group : Group) (analysis : Analysis) (condition : Condition) (size middle last u x y : ℕ) → IsSearched condition → size ≡ nodes parts → middle ≡ second_size condition parts group → last ≡ third_size condition parts group → FirstThree size middle last (λ a b c. AsksHere parts group analysis condition (tuple_for condition a b c)) u x y → IsLeastBroken parts group analysis condition (tuple_for condition u x y)
condition_broken parts group analysis condition size middle last u x y searched e f g found =
    let at = least_of condition parts group analysis.edges (AsksHere parts group analysis condition) u x y searched (rw (e, f, g) at found) in
    record {
      breaks = record { within = at.0; fails = found.here.here.fails };
      least = λ other b. at.1 other b.within b.fails;
    }

-- what is asked of all decisions together

pub whole_kept : (parts : Parts) (group : Group) (analysis : Analysis) (condition : Condition) → IsOfWhole condition → IsKeptWhole parts group analysis → IsKeptHere parts group analysis condition
whole_kept parts group analysis conditions.Rule of kept tuple is = kept
whole_kept parts group analysis conditions.Bound of kept tuple is = kept
whole_kept parts group analysis condition of kept tuple is = absurd of

pub whole_broken : (parts : Parts) (group : Group) (analysis : Analysis) (condition : Condition) (tuple : List ℕ) → IsOfWhole condition → (IsKeptWhole parts group analysis → ⊥) → tuple ≡ [] → IsLeastBroken parts group analysis condition tuple
whole_broken parts group analysis conditions.Rule tuple of fails is = record {
  breaks = record { within = is; fails = fails };
  least = λ other breaks. inl (is ∙ sym breaks.within);
}
whole_broken parts group analysis conditions.Bound tuple of fails is = record {
  breaks = record { within = is; fails = fails };
  least = λ other breaks. inl (is ∙ sym breaks.within);
}
whole_broken parts group analysis condition tuple of fails is = absurd of

-- the conditions of a principle

pub named : (group : Group) (q : Principle) (xs : List Condition) → group.principle ≡ q → xs ≡ conditions_for q group.truths → xs ≡ conditions_of group
named group q xs e h = h ∙ sym (ap (λ p. conditions_for p group.truths) e)

-- a broken condition behind kept ones is the first broken

pub first_broken : (parts : Parts) (group : Group) (analysis : Analysis) (list : List Condition) (i : ℕ) (condition : Condition) (tuple : List ℕ) → list ≡ conditions_of group → i < length list → condition ≡ get_or list i condition → All (IsKeptHere parts group analysis) (take i list) → IsLeastBroken parts group analysis condition tuple → IsFirstBroken parts group analysis condition tuple
first_broken parts group analysis list i condition tuple e l at kept least = record {
  place = i;
  within = subst (λ z. i < length z) e l;
  is = subst (λ z. get_or z i condition ≡ condition) e (sym at);
  before = λ k m. subst (λ z. IsKeptHere parts group analysis (get_or z k condition)) e (subst (IsKeptHere parts group analysis) (get_or-take i list k condition m) (kept k condition (taken list i k l m)));
  breaks = least.breaks;
  least = least.least;
} where
  taken : (xs : List Condition) (i k : ℕ) → i < length xs → k < i → k < length (take i xs)
  taken xs i k l m = let n = length-take i xs in omega (arith, l, m, n)

pub all_kept : (parts : Parts) (group : Group) (analysis : Analysis) (list : List Condition) (i : ℕ) → list ≡ conditions_of group → All (IsKeptHere parts group analysis) (take i list) → length list ≤ i → Relation parts group analysis
all_kept parts group analysis list i e kept l = subst (All (IsKeptHere parts group analysis)) (take_all i list l ∙ e) kept

pub zip_more : (parts : Parts) (analysis : Analysis) (groups : List Group) (i : ℕ) (g : Group) (vs : List Verdict) (v : Verdict) → i < length groups → g ≡ get_or groups i g → AllZip (IsVerdict parts analysis) (take i groups) vs → IsVerdict parts analysis g v → AllZip (IsVerdict parts analysis) (take (i + 1) groups) (vs ++ v ∷ [])
zip_more parts analysis groups i g vs v l at z r =
    subst (λ q. AllZip (IsVerdict parts analysis) q (vs ++ v ∷ [])) (sym (take_more groups i g l))
    (zip_push (IsVerdict parts analysis) (take i groups) vs (get_or groups i g) v z (subst (λ q. IsVerdict parts analysis q v) at r))

pub zip_end : (parts : Parts) (analysis : Analysis) (groups : List Group) (i : ℕ) (vs : List Verdict) → length groups ≤ i → AllZip (IsVerdict parts analysis) (take i groups) vs → AllZip (IsVerdict parts analysis) groups vs
zip_end parts analysis groups i vs l z = subst (λ q. AllZip (IsVerdict parts analysis) q vs) (take_all i groups l) z

pub not_holds : (told parts : Parts) (groups : List Group) (i : ℕ) (g given : Group) (analysis : Analysis) (condition : Condition) (tuple : List ℕ) → told ≡ parts → groups ≡ told.groups → i < length parts.groups → g ≡ get_or groups i g → IsFirstBroken told g analysis condition tuple → IsTrue false ↔ Relation parts (get_or parts.groups i given) analysis
not_holds told parts groups i g given analysis condition tuple same e l at b =
    let is : g ≡ get_or parts.groups i given = at ∙ (ap (λ z. get_or z i g) e ∙ (ap (λ (z : Parts). get_or z.groups i g) same ∙ get_or_default parts.groups i g given l)) in
    (λ t. absurd (false≢true t), λ r. absurd (broken_fails told g analysis condition tuple b (subst (λ z. Relation z g analysis) (sym same) (subst (λ z. Relation parts z analysis) (sym is) r))))
