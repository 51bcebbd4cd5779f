-- Runs of numbers that are forced: one box for all their fronts.
use Rattle.std.proofs.Common.{◌≡◌, ℕ, ◌<◌, ◌≤◌, ◌+◌, suc, Bool, List, [], ◌∷◌, ◌++◌, length, map, take, drop, sym, arith, subst, length-append}
use Rattle.std.specs.Prelude.{slice_index, slice_index_or}
use Rattle.std.proofs.lemmas.List.{append-nil, append_assoc, length-drop}
use Rattle.xdg_facts.specs.Fits.{Fits}
use Rattle.xdg_problem.specs.declared.parts.Parts.{Parts}
use Rattle.xdg_problem.specs.Boxes.{Has}
use Rattle.xdg_problem.specs.Vectors.{shape}
use Rattle.xdg_rules.specs.Boxed.{Boxed}
use Rattle.xdg_rules.proofs.Agreeing.{agrees_at, agrees_fits, agrees_front}
use Rattle.xdg_rules.proofs.Sizes.{within_sizes}
use Rattle.xdg_stream.specs.Forced.{AreForced, AreLast, IsForced}
use Rattle.xdg_stream.specs.Levels.{HasLevels, IsLevel}
use Rattle.xdg_stream.specs.Runs.{AreAlone, IsAlone}
use Rattle.xdg_stream.proofs.Fronts.{levels_with}
use Rattle.xdg_stream.proofs.Longer.{last_only, narrow_same}
use Rattle.xdg_facts.proofs.Lists.{last_at, last_at as last_of, within_of}
use Rattle.xdg_facts.proofs.Fronts.{take_further}

-- a level makes its prefix boxed
pub level_boxed : (parts : Parts) (p : List ℕ) (box : List (List Bool)) → IsLevel parts p box → Boxed parts p
level_boxed parts p box level = record { box = box; is = level.is; closed = level.closed; agrees = level.agrees }

module _ (parts : Parts) (box : List (List Bool)) where
  -- what remains is a value of a decision
  has_decision : (p : List ℕ) (v : ℕ) → IsLevel parts p box → Has box (length p) v → length p < length (shape parts)
  has_decision p v level h = within_of (shape parts) (length p) v (subst (λ z. v < slice_index_or z (length p) 0) level.is.sizes (within_sizes box (length p) v h))

  -- with a number that remains alone the box stays
  alone_level : (p : List ℕ) (v : ℕ) → IsLevel parts p box → IsAlone box (length p) v → IsLevel parts (p ++ v ∷ []) box
  alone_level p v level alone = narrow_same parts p v box level (has_decision p v level alone.has) (record { inside = λ d x h. h; only = alone.only; most = λ small lies only. lies })

  -- a number with which the prefix is boxed remains in its box
  boxed_has : (p : List ℕ) (u : ℕ) → IsLevel parts p box → Boxed parts (p ++ u ∷ []) → Has box (length p) u
  boxed_has p u level boxed =
      let e = length-append p (u ∷ []) in
      level.most boxed.box boxed.is boxed.closed (agrees_front boxed.box p (u ∷ []) boxed.agrees) (length p) u
      ((agrees_at boxed.box (p ++ u ∷ []) boxed.agrees (length p) (omega (arith, e)) u).1 (sym (last_of p u)))

  level_fits : (p : List ℕ) → IsLevel parts p box → Fits (shape parts) p
  level_fits p level = subst (λ z. Fits z p) level.is.sizes (agrees_fits box p level.agrees)

  alone_forced : (p : List ℕ) (v : ℕ) → IsLevel parts p box → IsAlone box (length p) v → IsForced (shape parts) (Boxed parts) p v
  alone_forced p v level alone =
      let longer = alone_level p v level alone in
      record {
        fits = level_fits (p ++ v ∷ []) longer;
        counts = level_boxed parts (p ++ v ∷ []) box longer;
        alone = λ u f c. alone.only u (boxed_has p u level c);
      }

  next_alone : (p t : List ℕ) (v : ℕ) → AreAlone box (length p + 1) t → AreAlone box (length (p ++ v ∷ [])) t
  next_alone p t v alone = subst (λ d. AreAlone box d t) (sym (length-append p (v ∷ []))) alone

  -- numbers that remain alone are forced
  pub all_forced : (p t : List ℕ) → IsLevel parts p box → AreAlone box (length p) t → AreForced (shape parts) (Boxed parts) p t
  all_forced p [] level alone = tt
  all_forced p (v ∷ t) level alone = (alone_forced p v level alone.0, all_forced (p ++ v ∷ []) t (alone_level p v level alone.0) (next_alone p t v alone.1))

  -- where fronts have one box, no greater number is boxed in the place of one of their last ones
  same_last : (p t : List ℕ) → ((k : ℕ) → k ≤ length t → IsLevel parts (p ++ take k t) box) → AreLast (shape parts) (Boxed parts) p t
  same_last p [] levels = tt
  same_last p (v ∷ t) levels = (
    λ u l f c. (
        let here : IsLevel parts p box = subst (λ z. IsLevel parts z box) (append-nil p) (levels 0 (omega arith)) in
        let next : IsLevel parts (p ++ v ∷ []) box = levels 1 (omega arith) in
        let same = last_only parts p v box next.agrees u (boxed_has p u here c) in
        omega (arith, l, same)
        ),
    same_last (p ++ v ∷ []) t (λ k l. subst (λ z. IsLevel parts z box) (sym (append_assoc p (v ∷ []) (take k t))) (levels (suc k) (omega (arith, l)))),
  )

-- the fronts behind a place have the mark of the one there
pub levels_last : (parts : Parts) (history : List (List (List Bool))) (marks numbers : List ℕ) (d : ℕ) → d ≤ length numbers → HasLevels parts history marks numbers → ((k : ℕ) → d ≤ k → k < length marks → slice_index marks k ≡ slice_index marks d) → AreLast (shape parts) (Boxed parts) (take d numbers) (drop d numbers)
levels_last parts history marks numbers d short has same =
    same_last parts (slice_index_or history (slice_index marks d) []) (take d numbers) (drop d numbers) (λ k l. (
    let long = length-drop d numbers in
    let c = has.count in
    let there : d + k < length marks = omega (arith, long, c, short, l) in
    subst (λ z. IsLevel parts z (slice_index_or history (slice_index marks d) [])) (sym (take_further d k numbers))
    (subst (λ i. IsLevel parts (take (d + k) numbers) (slice_index_or history i [])) (same (d + k) (omega arith) there) (has.each (d + k) there))
    ))

-- a run from a front whose box stood last
pub levels_run : (parts : Parts) (history : List (List (List Bool))) (mark : ℕ) (marks numbers t : List ℕ) → HasLevels parts history marks numbers → mark < length history → ((k : ℕ) → k < length marks → slice_index marks k ≤ mark) → IsLevel parts numbers (slice_index_or history mark []) → AreAlone (slice_index_or history mark []) (length numbers) t → HasLevels parts history (marks ++ map (λ _. mark) t) (numbers ++ t)
levels_run parts history mark marks numbers [] has there above level alone =
    subst (λ m. HasLevels parts history m (numbers ++ [])) (sym (append-nil marks)) (subst (HasLevels parts history marks) (sym (append-nil numbers)) has)
levels_run parts history mark marks numbers (v ∷ t) has there above level alone =
    let box = slice_index_or history mark [] in
    let longer = alone_level parts box numbers v level alone.0 in
    let more = levels_with parts history marks numbers mark v has there above longer in
    let under : (k : ℕ) → k < length (marks ++ mark ∷ []) → slice_index (marks ++ mark ∷ []) k ≤ mark = (λ k l. (
    let long = length-append marks (mark ∷ []) in
    let r = more.rising k (length marks) (omega (arith, l, long)) (omega (arith, long)) in
    let e = last_at marks mark in
    omega (arith, r, e)
    )) in
    let all = levels_run parts history mark (marks ++ mark ∷ []) (numbers ++ v ∷ []) t more there under longer (next_alone parts box numbers t v alone.1) in
    subst (λ m. HasLevels parts history m (numbers ++ v ∷ t)) (append_assoc marks (mark ∷ []) (map (λ _. mark) t))
    (subst (HasLevels parts history ((marks ++ mark ∷ []) ++ map (λ _. mark) t)) (append_assoc numbers (v ∷ []) t) all)
