-- Arrangements, one after another: which are printed, and which are left.
use Rattle.std.proofs.Common.{◌≡◌, ◌∙◌, ℕ, ◌≤◌, ◌+◌, ◌==◌, Bool, true, false, List, [], ◌∷◌, ◌++◌, length, refl, sym, subst, arith, append_assoc, append-nil, Some}
use Rattle.std.specs.Prelude.{Option, cond}
use Rattle.std.proofs.lemmas.Bool.{eqb-true}
use Rattle.std.proofs.lemmas.List.{append_cancel_left}
use Rattle.xdg_arrange.specs.Found.{Adds, IsOneFind, arrangement_line}
use Rattle.xdg_arrange.specs.Lists.{Listed}
use Rattle.xdg_arrange.specs.Texts.{AreArranged, Arranges, with_printed}
use Rattle.xdg_arrange.proofs.Passing.{Passed, passed_found}
use Rattle.xdg_build.specs.Compiled.{compiled}
use Rattle.xdg_build.specs.Solutions.{KeepsSolutions}
use Rattle.xdg_io.proofs.Written.{appends_nothing}
use Rattle.xdg_linear.specs.Arranged.{Advances, Arranged, with_reached}
use Rattle.xdg_linear.specs.Arrangements.{IsLast}
use Rattle.xdg_linear.specs.Listed.{AreArrangements, ArePassed}
use Rattle.xdg_linear.specs.Ranks.{ranks_of, words_at}
use Rattle.xdg_linear.proofs.Existing.{one_list}
use Rattle.xdg_linear.proofs.Fronts.{passed_all, passed_first}
use Rattle.xdg_facts.specs.declared.Ending.TheVariants as endings
use Rattle.xdg_problem.specs.declared.analysis.Analysis.{Analysis}

-- The arrangements up to the present one are passed, and the rest are left, in front of which so many are printed.
pub record Going (budget : ℕ) (listed : Listed) (s : Arranged) (printed turn : ℕ) (rest : List (List ℕ)) (old now : Option (List ℕ)) : Type 0 where
  pub words_are : s.words ≡ listed.words
  pub all : List (List ℕ)
  pub all_are : AreArrangements (ranks_of listed.words) all
  pub only : (xs : List (List ℕ)) → AreArrangements (ranks_of listed.words) xs → all ≡ xs
  pub passed : List (List ℕ)
  pub passed_are : ArePassed (ranks_of listed.words) s.present passed
  pub cut : all ≡ passed ++ rest
  pub few : printed ≤ turn
  pub written : Passed (AreArranged budget listed) (Arranges budget listed printed rest) old now

-- some are left
pub record Goes (budget : ℕ) (listed : Listed) (s : Arranged) (printed turn : ℕ) (old now : Option (List ℕ)) : Type 0 where
  pub rest : List (List ℕ)
  pub going : Going budget listed s printed turn rest old now

pub goes_first : (budget : ℕ) (listed : Listed) (s : Arranged) (old : Option (List ℕ)) → s.words ≡ listed.words → ArePassed (ranks_of s.words) s.present [] → Goes budget listed s 0 0 old old
goes_first budget listed s old words none =
    let one = one_list listed.words in
    record {
      rest = one.members;
      going = record {
        words_are = words;
        all = one.members;
        all_are = one.are;
        only = one.only;
        passed = [];
        passed_are = subst (λ ws. ArePassed (ranks_of ws) s.present []) words none;
        cut = refl;
        few = omega arith;
        written = record {
          done = [];
          appends = appends_nothing old;
          whole = λ status later is. record { all = one.members; all_are = one.are; arranges = is };
          left = λ status text w. (text, subst (λ xs. Arranges budget listed 0 xs status text) (sym (one.only w.all w.all_are)) w.arranges, refl);
        };
      };
    }

-- the present one is the first of those that are left
pub record Reaches (budget : ℕ) (listed : Listed) (s : Arranged) (printed turn : ℕ) (ranks : List ℕ) (old now : Option (List ℕ)) : Type 0 where
  pub words_are : s.words ≡ listed.words
  pub all : List (List ℕ)
  pub all_are : AreArrangements (ranks_of listed.words) all
  pub only : (xs : List (List ℕ)) → AreArrangements (ranks_of listed.words) xs → all ≡ xs
  pub passed : List (List ℕ)
  pub passed_are : ArePassed (ranks_of listed.words) s.present passed
  pub rest : List (List ℕ)
  pub cut : all ≡ passed ++ rest
  pub few : printed ≤ turn
  pub written : Passed (AreArranged budget listed) (Arranges budget listed printed (ranks ∷ rest)) old now

module _ (budget : ℕ) (listed : Listed) (s t : Arranged) (printed turn : ℕ) (old now : Option (List ℕ)) (g : Goes budget listed s printed turn old now) where
  -- a call reached one
  pub goes_on : Advances s true t → (ranks : List ℕ) → t.present ≡ Some ranks → Reaches budget listed t printed turn ranks old now
  goes_on step ranks present =
      let h = g.going in
      let words : t.words ≡ listed.words = step.words ∙ h.words_are in
      let before = step.passed h.passed (subst (λ ws. ArePassed (ranks_of ws) s.present h.passed) (sym h.words_are) h.passed_are) in
      let grown = h.passed ++ ranks ∷ [] in
      let passed : ArePassed (ranks_of listed.words) t.present grown =
      subst (λ ws. ArePassed (ranks_of ws) t.present grown) words (subst (λ o. ArePassed (ranks_of t.words) t.present (with_reached true h.passed o)) present before) in
      let front = passed_first (ranks_of listed.words) t.present grown h.all passed h.all_are in
      let joined : h.passed ++ g.rest ≡ h.passed ++ (ranks ∷ front.0) = sym h.cut ∙ front.1 ∙ append_assoc h.passed (ranks ∷ []) front.0 in
      let rest : g.rest ≡ ranks ∷ front.0 = append_cancel_left h.passed g.rest (ranks ∷ front.0) joined in
      record {
        words_are = words;
        all = h.all;
        all_are = h.all_are;
        only = h.only;
        passed = grown;
        passed_are = passed;
        rest = front.0;
        cut = front.1;
        few = h.few;
        written = subst (λ xs. Passed (AreArranged budget listed) (Arranges budget listed printed xs) old now) rest h.written;
      }

  -- none was left
  pub goes_no_more : Advances s false t → Passed (AreArranged budget listed) (Arranges budget listed printed []) old now
  goes_no_more step =
      let h = g.going in
      let last = subst (λ ws. IsLast (ranks_of ws) s.present) h.words_are (step.last.0 refl) in
      let all_passed = passed_all (ranks_of listed.words) s.present h.passed h.passed_are last in
      let joined : h.passed ++ g.rest ≡ h.passed ++ [] = sym h.cut ∙ h.only h.passed all_passed ∙ sym (append-nil h.passed) in
      let rest : g.rest ≡ [] = append_cancel_left h.passed g.rest [] joined in
      subst (λ xs. Passed (AreArranged budget listed) (Arranges budget listed printed xs) old now) rest h.written

-- the code's number is that by the analyses
pub printed_is : (printed : ℕ) (analyses : List Analysis) (count : ℕ) → count ≡ length analyses → printed + cond (count == 0) 0 1 ≡ with_printed printed analyses
printed_is printed [] count e = subst (λ n. printed + cond (n == 0) 0 1 ≡ printed) (sym e) (omega arith)
printed_is printed (a ∷ more) count e = go (count == 0) refl
  where
    go : (b : Bool) → (count == 0) ≡ b → printed + cond b 0 1 ≡ printed + 1
    go true is = absurd (let none = eqb-true count 0 is in omega (arith, e, none))
    go false is = refl

-- the arrangement that is present is printed
module _ (budget : ℕ) (listed : Listed) (s : Arranged) (printed turn : ℕ) (ranks : List ℕ) (old now : Option (List ℕ)) (r : Reaches budget listed s printed turn ranks old now) where
  at_most : (analyses : List Analysis) → with_printed printed analyses ≤ turn + 1
  at_most [] = let few = r.few in omega (arith, few)
  at_most (a ∷ more) = let few = r.few in omega (arith, few)

  module _ (count next : ℕ) (new : Option (List ℕ)) (keeps : KeepsSolutions listed.grammar (words_at listed.words ranks) (compiled listed.grammar (words_at listed.words ranks))) (one : IsOneFind budget (compiled listed.grammar (words_at listed.words ranks)))
      (is : next ≡ printed + cond (count == 0) 0 1) where
    -- and the next one comes
    pub goes_whole : Adds endings.Complete budget (compiled listed.grammar (words_at listed.words ranks)) (arrangement_line (printed + 1) (words_at listed.words ranks)) count now new → Goes budget listed s next (turn + 1) old new
    goes_whole added =
        let number : with_printed printed added.analyses ≡ next = sym (printed_is printed added.analyses count added.count_is) ∙ sym is in
        record {
          rest = r.rest;
          going = record {
            words_are = r.words_are;
            all = r.all;
            all_are = r.all_are;
            only = r.only;
            passed = r.passed;
            passed_are = r.passed_are;
            cut = r.cut;
            few = subst (λ n. n ≤ turn + 1) number (at_most added.analyses);
            written = subst (λ n. Passed (AreArranged budget listed) (Arranges budget listed n r.rest) old new) number
                (passed_found (AreArranged budget listed) budget listed.grammar (words_at listed.words ranks) printed (λ n. Arranges budget listed n r.rest) old now r.written endings.Complete count new keeps one added);
          };
        }
