-- The boxes of the fronts of a prefix that grows and shrinks.
use Rattle.std.proofs.Common.{◌≡◌, ◌≢◌, ℕ, ◌<◌, ◌≤◌, ◌+◌, inl, inr, Bool, List, [], ◌∷◌, ◌++◌, length, take, refl, ap, sym, arith, subst, length-append}
use Rattle.std.specs.Prelude.{slice_index, slice_index_or}
use Rattle.std.proofs.lemmas.List.{get_or_append_left, get_or-take, length-take-le, take-append-le, take-take, take_all}
use Rattle.xdg_problem.specs.declared.parts.Parts.{Parts}
use Rattle.xdg_rules.specs.Boxed.{Boxed}
use Rattle.xdg_stream.specs.Levels.{IsLevel, HasLevels, AreLevels}
use Rattle.xdg_stream.proofs.Marked.{marks_cut, marks_with}

module _ (parts : Parts) (history : List (List (List Bool))) (marks numbers : List ℕ) where
  -- there is a box
  pub levels_there : AreLevels parts history marks numbers → length marks ≢ 0 → HasLevels parts history marks numbers
  levels_there (inl has) some = has
  levels_there (inr none) some = absurd (some (ap length none.0))

  pub none_there : AreLevels parts history marks numbers → length marks ≡ 0 → (p : List ℕ) → Boxed parts p → ⊥
  none_there (inl has) z = absurd (let c = has.count in omega (arith, c, z))
  none_there (inr none) z = none.2

  module _ (has : HasLevels parts history marks numbers) (at : ℕ) (is : at + 1 ≡ length marks) where
    here : at < length marks
    here = omega (arith, is)

    whole : take at numbers ≡ numbers
    whole = take_all at numbers (let c = has.count in omega (arith, c, is))

    pub top_within : slice_index marks at < length history
    top_within = has.within at here

    pub top_level : IsLevel parts numbers (slice_index_or history (slice_index marks at) [])
    top_level = subst (λ p. IsLevel parts p (slice_index_or history (slice_index marks at) [])) whole (has.each at here)

    -- back to the box of the whole prefix
    pub levels_undone : HasLevels parts (take (slice_index marks at + 1) history) marks numbers
    levels_undone =
        let top = top_within in
        let long = length-take-le (slice_index marks at + 1) history (omega (arith, top)) in
        record {
          count = has.count;
          within = λ k l. (let r = has.rising k at (omega (arith, l, is)) here in omega (arith, r, long));
          rising = has.rising;
          each = λ k l. (
              let r = has.rising k at (omega (arith, l, is)) here in
              subst (IsLevel parts (take k numbers)) (sym (get_or-take (slice_index marks at + 1) history (slice_index marks k) [] (omega (arith, r)))) (has.each k l)
              );
        }

  -- later boxes change nothing
  pub levels_grown : (more : List (List (List Bool))) → HasLevels parts history marks numbers → HasLevels parts (history ++ more) marks numbers
  levels_grown more has = record {
    count = has.count;
    within = λ k l. (let w = has.within k l in let e = length-append history more in omega (arith, w, e));
    rising = has.rising;
    each = λ k l. subst (IsLevel parts (take k numbers)) (sym (get_or_append_left history more [] (slice_index marks k) (has.within k l))) (has.each k l);
  }

  -- a front more, whose box stood no earlier than those of the others
  pub levels_with : (mark v : ℕ) → HasLevels parts history marks numbers → mark < length history → ((k : ℕ) → k < length marks → slice_index marks k ≤ mark) → IsLevel parts (numbers ++ v ∷ []) (slice_index_or history mark []) → HasLevels parts history (marks ++ mark ∷ []) (numbers ++ v ∷ [])
  levels_with mark v has there above level =
      let long = length-append marks (mark ∷ []) in
      let longer = length-append numbers (v ∷ []) in
      let c = has.count in
      let under = marks_with (λ j m. m ≤ mark) marks above mark (omega arith) in
      record {
        count = omega (arith, long, longer, c);
        within = marks_with (λ k m. m < length history) marks has.within mark there;
        rising = λ j k o l. marks_with (λ k m. j ≤ k → slice_index (marks ++ mark ∷ []) j ≤ m) marks
            (λ k l o. subst (λ m. m ≤ slice_index marks k) (sym (get_or_append_left marks (mark ∷ []) 0 j (omega (arith, l, o)))) (has.rising j k o l))
            mark (λ o. under j (omega (arith, long, o))) k l o;
        each = marks_with (λ k m. IsLevel parts (take k (numbers ++ v ∷ [])) (slice_index_or history m [])) marks
            (λ k l. subst (λ p. IsLevel parts p (slice_index_or history (slice_index marks k) [])) (sym (take-append-le k numbers (v ∷ []) (omega (arith, l, c)))) (has.each k l))
            mark (subst (λ p. IsLevel parts p (slice_index_or history mark [])) (sym (take_all (length marks) (numbers ++ v ∷ []) (omega (arith, longer, c)))) level);
      }

  -- the newest box is that of the prefix and a number more
  pub levels_pushed : (mark v : ℕ) → HasLevels parts history marks numbers → mark + 1 ≡ length history → IsLevel parts (numbers ++ v ∷ []) (slice_index_or history mark []) → HasLevels parts history (marks ++ mark ∷ []) (numbers ++ v ∷ [])
  levels_pushed mark v has newest level = levels_with mark v has (omega (arith, newest)) (λ k l. (let w = has.within k l in omega (arith, w, newest))) level

  -- the last numbers go
  pub levels_cut : (d : ℕ) → d ≤ length numbers → HasLevels parts history marks numbers → HasLevels parts history (take (d + 1) marks) (take d numbers)
  levels_cut d short has =
      let c = has.count in
      let long = length-take-le (d + 1) marks (omega (arith, c, short)) in
      let shorter = length-take-le d numbers short in
      record {
        count = omega (arith, long, shorter);
        within = marks_cut (λ k m. m < length history) marks has.within (d + 1);
        rising = λ j k o l. subst (λ m. m ≤ slice_index (take (d + 1) marks) k) (sym (get_or-take (d + 1) marks j 0 (omega (arith, long, l, o))))
            (marks_cut (λ k m. j ≤ k → slice_index marks j ≤ m) marks (λ k m o. has.rising j k o m) (d + 1) k l o);
        each = λ k l. subst (λ p. IsLevel parts p (slice_index_or history (slice_index (take (d + 1) marks) k) [])) (sym (take-take k d numbers (omega (arith, long, l))))
            (marks_cut (λ k m. IsLevel parts (take k numbers) (slice_index_or history m [])) marks has.each (d + 1) k l);
      }

-- the first box

pub levels_first : (parts : Parts) (history : List (List (List Bool))) (mark : ℕ) → mark < length history → IsLevel parts [] (slice_index_or history mark []) → HasLevels parts history (mark ∷ []) []
levels_first parts history mark l level = record {
  count = refl;
  within = marks_with (λ k m. m < length history) [] (λ k m. absurd (omega (arith, m))) mark l;
  rising = λ j k o m. (let same : j ≡ k = omega (arith, o, m) in subst (λ i. slice_index (mark ∷ []) j ≤ slice_index (mark ∷ []) i) same (omega arith));
  each = marks_with (λ k m. IsLevel parts (take k []) (slice_index_or history m [])) [] (λ k m. absurd (omega (arith, m))) mark level;
}
