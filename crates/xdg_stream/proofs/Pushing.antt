-- Numbers more, or numbers less, on a front.
use Rattle.std.proofs.Common.{◌≡◌, ◌≢◌, ℕ, ◌<◌, ◌≤◌, ◌+◌, ◌-◌, inl, inr, Bool, List, [], ◌∷◌, ◌++◌, Some, None, length, map, take, drop, refl, ap, ap₂, sym, ◌∙◌, arith, subst}
use Rattle.std.specs.Prelude.{slice_index, slice_index_or}
use Rattle.std.proofs.Math.Seq.{take-nil}
use Rattle.std.proofs.lemmas.List.{append_assoc, get_or_default, get_or-take, length-take-le, take-append-drop}
use Rattle.xdg_facts.specs.Fits.{Fits}
use Rattle.xdg_problem.specs.declared.analysis.Edge.{Edge}
use Rattle.xdg_problem.specs.declared.parts.Parts.{Parts}
use Rattle.xdg_problem.specs.Places.{places}
use Rattle.xdg_problem.specs.Vectors.{shape}
use Rattle.xdg_propcore.specs.Steps.{Extends}
use Rattle.xdg_rules.specs.Boxed.{Boxed}
use Rattle.xdg_store.specs.States.{State}
use Rattle.xdg_stream.specs.Forced.{AreLast, Backs, Follows}
use Rattle.xdg_stream.specs.Problem.{SameProblem}
use Rattle.xdg_stream.specs.Fronted.{Fronted, HasFront}
use Rattle.xdg_stream.specs.Levels.{IsLevel, HasLevels, AreLevels}
use Rattle.xdg_stream.specs.Runs.{Adds, AreAlone}
use Rattle.xdg_stream.proofs.Forcing.{all_forced, level_boxed, levels_last, levels_run}
use Rattle.xdg_stream.proofs.Fronts.{levels_there, none_there, top_within, top_level, levels_undone, levels_grown, levels_pushed, levels_cut}
use Rattle.xdg_stream.proofs.Sized.{fits_last}
use Rattle.xdg_facts.proofs.Fronts.{around}

-- the same sentence, with other boxes
moved : (parts other : Parts) (history : List (List (List Bool))) (edge_places : List Edge) (marks numbers : List ℕ) (mark_room number_room : ℕ) → other ≡ parts → edge_places ≡ places parts → AreLevels parts history marks numbers → length (shape parts) ≤ number_room → length (shape parts) < mark_room → HasFront other history edge_places marks numbers mark_room number_room
moved parts other history edge_places marks numbers mark_room number_room same listed levels for_numbers for_marks = subst (λ z. HasFront z history edge_places marks numbers mark_room number_room) (sym same) (record { listed = listed; levels = levels; for_numbers = for_numbers; for_marks = for_marks })

-- the store is back at the box of the last front, whose mark stands at a place
pub record Top (old mid : State) (edge_places : List Edge) (marks numbers : List ℕ) (mark_room number_room at mark : ℕ) : Type 0 where
  pub has : HasFront old.parts old.history edge_places marks numbers mark_room number_room
  pub is : at + 1 ≡ length marks
  pub mark_is : mark ≡ slice_index marks at
  pub same : mid.parts ≡ old.parts
  pub now_is : mid.now ≡ slice_index_or old.history (slice_index marks at) []
  pub undone : mid.history ≡ take (slice_index marks at + 1) old.history

module _ (old mid : State) {edge_places : List Edge} {marks numbers read : List ℕ} {mark_room number_room depth mark : ℕ} (has : HasFront old.parts old.history edge_places marks numbers mark_room number_room) (some : depth ≢ 0) (read_is : read ≡ marks) (found : mark ≡ slice_index_or read (depth - 1) mark) (count : depth ≡ length marks) where
  last_is : (depth - 1) + 1 ≡ length marks
  last_is = omega (arith, count, some)

  top_mark : mark ≡ slice_index marks (depth - 1)
  top_mark = found ∙ ap (λ z. slice_index_or z (depth - 1) mark) read_is ∙ get_or_default marks (depth - 1) mark 0 (let e = last_is in omega (arith, e))

  -- the mark is one of the history
  pub top_there : mark < length old.history
  top_there = subst (λ m. m < length old.history) (sym top_mark) (top_within old.parts old.history marks numbers (levels_there old.parts old.history marks numbers has.levels (λ z. omega (arith, count, some, z))) (depth - 1) last_is)

  -- and the store went back to it
  pub top_of : mid.parts ≡ old.parts → mid.now ≡ slice_index_or old.history mark [] → mid.history ≡ take (mark + 1) old.history → Top old mid edge_places marks numbers mark_room number_room (depth - 1) mark
  top_of same now_is undone = record {
    has = has;
    is = last_is;
    mark_is = top_mark;
    same = same;
    now_is = now_is ∙ ap (λ m. slice_index_or old.history m []) top_mark;
    undone = undone ∙ ap (λ m. take (m + 1) old.history) top_mark;
  }

module _ {old mid : State} {edge_places : List Edge} {marks numbers : List ℕ} {mark_room number_room at mark : ℕ} (top : Top old mid edge_places marks numbers mark_room number_room at mark) where
  pub has_levels : HasLevels old.parts old.history marks numbers
  has_levels = levels_there old.parts old.history marks numbers top.has.levels (λ z. (let is = top.is in omega (arith, is, z)))

  pub mark_in : slice_index marks at < length old.history
  mark_in = top_within old.parts old.history marks numbers has_levels at top.is

  pub depth_is : length numbers ≡ at
  depth_is = (let h = has_levels in let c = h.count in let is = top.is in omega (arith, c, is))

  pub mid_level : IsLevel mid.parts numbers mid.now
  mid_level = subst (λ z. IsLevel z numbers mid.now) (sym top.same) (subst (IsLevel old.parts numbers) (sym top.now_is) (top_level old.parts old.history marks numbers has_levels at top.is))

  undone_levels : HasLevels old.parts mid.history marks numbers
  undone_levels = subst (λ h. HasLevels old.parts h marks numbers) (sym top.undone) (levels_undone old.parts old.history marks numbers has_levels at top.is)

  -- the number that is to be pushed is one of the next decision
  pub next_fits : (f : Fronted) (v : ℕ) → record { parts = old.parts; numbers = numbers } ≡ f → Fits (shape f.parts) (f.numbers ++ v ∷ []) → (at < length (shape mid.parts)) × (v < slice_index (shape mid.parts) at)
  next_fits f v view fits =
      let here : Fits (shape old.parts) (numbers ++ v ∷ []) = subst (λ z. Fits (shape z.parts) (z.numbers ++ v ∷ [])) (sym view) fits in
      let both = fits_last (shape old.parts) numbers v here in
      subst (λ z. (at < length (shape z)) × (v < slice_index (shape z) at)) (sym top.same) (subst (λ k. (k < length (shape old.parts)) × (v < slice_index (shape old.parts) k)) depth_is both)

  module _ (marks' numbers' : List ℕ) (most n : ℕ) (adds : Adds mid.now mark marks numbers marks' numbers' most n) where
    -- the numbers that remain alone are forced
    pub run_follows : Follows (shape old.parts) (Boxed old.parts) numbers numbers' most n
    run_follows = record {
      added = adds.added;
      joined = adds.numbers_are;
      count = adds.count;
      within = adds.within;
      forced = all_forced old.parts mid.now numbers adds.added (subst (λ z. IsLevel z numbers mid.now) top.same mid_level) adds.alone;
    }

    -- and have the box of the prefix
    pub run_front : (mark_room' number_room' : ℕ) → mark_room ≤ mark_room' → number_room ≤ number_room' → HasFront mid.parts mid.history edge_places marks' numbers' mark_room' number_room'
    run_front mark_room' number_room' same_marks same_numbers =
        let is = top.is in
        let mark_is = top.mark_is in
        let within = mark_in in
        let long = length-take-le (slice_index marks at + 1) old.history (omega (arith, within)) in
        let there : mark < length mid.history = (let e = ap length top.undone in omega (arith, e, long, mark_is)) in
        let box_is : slice_index_or mid.history mark [] ≡ mid.now = ap₂ (λ h i. slice_index_or h i []) top.undone mark_is ∙ get_or-take (slice_index marks at + 1) old.history (slice_index marks at) [] (omega arith) ∙ sym top.now_is in
        let level : IsLevel old.parts numbers (slice_index_or mid.history mark []) = subst (IsLevel old.parts numbers) (sym box_is) (subst (λ z. IsLevel z numbers mid.now) top.same mid_level) in
        let before : (k : ℕ) → k < length marks → slice_index marks k ≤ mark = (λ k l. (let r = undone_levels.rising k at (omega (arith, is, l)) (omega (arith, is)) in omega (arith, r, mark_is))) in
        let run = levels_run old.parts mid.history mark marks numbers adds.added undone_levels there before level (subst (λ b. AreAlone b (length numbers) adds.added) (sym box_is) adds.alone) in
        let both : HasLevels old.parts mid.history marks' numbers' = subst (λ m. HasLevels old.parts mid.history m numbers') (sym adds.marks_are) (subst (HasLevels old.parts mid.history (marks ++ map (λ _. mark) adds.added)) (sym adds.numbers_are) run) in
        let a = top.has.for_numbers in
        let b = top.has.for_marks in
        moved old.parts mid.parts mid.history edge_places marks' numbers' mark_room' number_room' top.same top.has.listed (inl both) (omega (arith, a, same_numbers)) (omega (arith, b, same_marks))

  module _ (new : State) (extends : Extends mid new) where
    grown : HasLevels old.parts new.history marks numbers
    grown = subst (λ h. HasLevels old.parts h marks numbers) (sym extends.grown) (levels_grown old.parts mid.history marks numbers extends.more undone_levels)

    -- the number isn't taken
    pub kept_front : HasFront new.parts new.history edge_places marks numbers mark_room number_room
    kept_front = moved old.parts new.parts new.history edge_places marks numbers mark_room number_room (extends.same ∙ top.same) top.has.listed (inl grown) top.has.for_numbers top.has.for_marks

    -- the number is taken
    pub pushed_front : (marks' numbers' : List ℕ) (mark_room' number_room' mark' v : ℕ) → IsLevel mid.parts (numbers ++ v ∷ []) new.now → mark' + 1 ≡ length new.history → slice_index_or new.history mark' [] ≡ new.now → marks' ≡ marks ++ mark' ∷ [] → numbers' ≡ numbers ++ v ∷ [] → mark_room ≡ mark_room' → number_room ≡ number_room' → HasFront new.parts new.history edge_places marks' numbers' mark_room' number_room'
    pushed_front marks' numbers' mark_room' number_room' mark' v level newest last marks_are numbers_are same_marks same_numbers =
        let here : IsLevel old.parts (numbers ++ v ∷ []) (slice_index_or new.history mark' []) = subst (λ z. IsLevel z (numbers ++ v ∷ []) (slice_index_or new.history mark' [])) top.same (subst (IsLevel mid.parts (numbers ++ v ∷ [])) (sym last) level) in
        let all = levels_pushed old.parts new.history marks numbers mark' v grown newest here in
        let both : HasLevels old.parts new.history marks' numbers' = subst (λ m. HasLevels old.parts new.history m numbers') (sym marks_are) (subst (HasLevels old.parts new.history (marks ++ mark' ∷ [])) (sym numbers_are) all) in
        let a = top.has.for_numbers in
        let b = top.has.for_marks in
        moved old.parts new.parts new.history edge_places marks' numbers' mark_room' number_room' (extends.same ∙ top.same) top.has.listed (inl both) (omega (arith, a, same_numbers)) (omega (arith, b, same_marks))

-- where there is no box there is no boxed prefix
pub none_boxed : (parts : Parts) (history : List (List (List Bool))) (edge_places : List Edge) (marks numbers : List ℕ) (mark_room number_room : ℕ) → HasFront parts history edge_places marks numbers mark_room number_room → length marks ≡ 0 → (p : List ℕ) → Boxed parts p → ⊥
none_boxed parts history edge_places marks numbers mark_room number_room has z = none_there parts history marks numbers has.levels z

cut_levels : (parts : Parts) (history : List (List (List Bool))) (marks numbers : List ℕ) (d : ℕ) → d ≤ length numbers → AreLevels parts history marks numbers → AreLevels parts history (take (d + 1) marks) (take d numbers)
cut_levels parts history marks numbers d short (inl has) = inl (levels_cut parts history marks numbers d short has)
cut_levels parts history marks numbers d short (inr none) = inr (ap (take (d + 1)) none.0 ∙ take-nil (d + 1), ap (take d) none.1 ∙ take-nil d, none.2)

-- the last numbers go
cut_front : (parts : Parts) (history : List (List (List Bool))) (edge_places : List Edge) (marks numbers marks' numbers' : List ℕ) (mark_room number_room mark_room' number_room' d : ℕ)
    → HasFront parts history edge_places marks numbers mark_room number_room → d ≤ length numbers → marks' ≡ take
    (d + 1) marks → numbers' ≡ take d numbers → mark_room ≡ mark_room' → number_room ≡ number_room' → HasFront parts history edge_places marks' numbers' mark_room' number_room'
cut_front parts history edge_places marks numbers marks' numbers' mark_room number_room mark_room' number_room' d has short marks_are numbers_are same_marks same_numbers =
    let a = has.for_numbers in
    let b = has.for_marks in
    record {
      listed = has.listed;
      levels = subst (λ m. AreLevels parts history m numbers') (sym marks_are) (subst (AreLevels parts history (take (d + 1) marks)) (sym numbers_are) (cut_levels parts history marks numbers d short has.levels));
      for_numbers = omega (arith, a, same_numbers);
      for_marks = omega (arith, b, same_marks);
    }

-- a place among the marks is one among the numbers or right behind them
mark_place : (parts : Parts) (history : List (List (List Bool))) (marks numbers : List ℕ) (d : ℕ) → AreLevels parts history marks numbers → d ≤ length marks - 1 → d ≤ length numbers
mark_place parts history marks numbers d (inl has) l = (let c = has.count in omega (arith, c, l))
mark_place parts history marks numbers d (inr none) l = (let c = ap length none.0 in omega (arith, c, l))

pub same_problem : (parts other : Parts) → other ≡ parts → SameProblem (shape parts) (Boxed parts) (shape other) (Boxed other)
same_problem parts other same = subst (λ z. SameProblem (shape parts) (Boxed parts) (shape z) (Boxed z)) (sym same) (record { sizes = refl; counts = λ p. (λ x. x, λ x. x) })

pub refused_here : (f : Fronted) (parts other : Parts) (numbers : List ℕ) (v : ℕ) → record { parts = parts; numbers = numbers } ≡ f → other ≡ parts → (Boxed other (numbers ++ v ∷ []) → ⊥) → (numbers ≡ f.numbers) × (Boxed f.parts (f.numbers ++ v ∷ []) → ⊥)
refused_here f parts other numbers v view same none = (ap (λ z. z.numbers) view, subst (λ z. Boxed z.parts (z.numbers ++ v ∷ []) → ⊥) view (subst (λ q. Boxed q (numbers ++ v ∷ []) → ⊥) same none))

pub taken_here : (f : Fronted) (parts other : Parts) (numbers numbers' : List ℕ) (v : ℕ) (box : List (List Bool)) → record { parts = parts; numbers = numbers } ≡ f → other ≡ parts → numbers' ≡ numbers ++ v ∷ [] → IsLevel other (numbers ++ v ∷ []) box → (numbers' ≡ f.numbers ++ v ∷ []) × Boxed f.parts (f.numbers ++ v ∷ [])
taken_here f parts other numbers numbers' v box view same is level = (is ∙ ap (λ z. z.numbers ++ v ∷ []) view, subst (λ z. Boxed z.parts (z.numbers ++ v ∷ [])) view (subst (λ q. Boxed q (numbers ++ v ∷ [])) same (level_boxed other (numbers ++ v ∷ []) box level)))

-- numbers that have no choice are taken
pub follows_here : (f : Fronted) (parts : Parts) (numbers numbers' : List ℕ) (most n : ℕ) → record { parts = parts; numbers = numbers } ≡ f → Follows (shape parts) (Boxed parts) numbers numbers' most n → Follows (shape f.parts) (Boxed f.parts) f.numbers numbers' most n
follows_here f parts numbers numbers' most n view follows = subst (λ z. Follows (shape z.parts) (Boxed z.parts) z.numbers numbers' most n) view follows

all_last : (parts : Parts) (history : List (List (List Bool))) (marks numbers : List ℕ) → AreLevels parts history marks numbers → ((k : ℕ) → 0 ≤ k → k < length marks → slice_index marks k ≡ slice_index marks 0) → AreLast (shape parts) (Boxed parts) [] numbers
all_last parts history marks numbers (inl has) same = levels_last parts history marks numbers 0 (omega arith) has same
all_last parts history marks numbers (inr none) same = subst (AreLast (shape parts) (Boxed parts) []) (sym none.1) tt

-- ---- back to a turn of the marks, as it is read

module _ {f : Fronted} {parts : Parts} {history : List (List (List Bool))} {edge_places : List Edge} {marks numbers read : List ℕ} {mark_room number_room : ℕ}
    (has : HasFront parts history edge_places marks numbers mark_room number_room) (view : record { parts = parts; numbers = numbers } ≡ f) (read_is : read ≡ marks)
    (d : ℕ) (same_read : (k : ℕ) → d ≤ k → k < length read → slice_index read k ≡ slice_index read d) where
  same : (k : ℕ) → d ≤ k → k < length marks → slice_index marks k ≡ slice_index marks d
  same = subst (λ z. (k : ℕ) → d ≤ k → k < length z → slice_index z k ≡ slice_index z d) read_is same_read

  module _ (some : d ≢ 0) (within_read : d ≤ length read - 1) where
    within : d ≤ length marks - 1
    within = subst (λ z. d ≤ length z - 1) read_is within_read

    -- to a number in whose place a greater one may be boxed
    pub backs_some : {numbers' : List ℕ} {v : ℕ} → v ≡ slice_index numbers (d - 1) → numbers' ≡ take (d - 1) numbers → Backs (shape f.parts) (Boxed f.parts) f.numbers (Some v) numbers'
    backs_some {numbers'} {v} v_is cut =
        let less = within in
        let there = levels_there parts history marks numbers has.levels (λ z. (let c = z in omega (arith, c, less, some))) in
        let short = mark_place parts history marks numbers d has.levels within in
        let last = levels_last parts history marks numbers d short there same in
        let front : numbers' ++ v ∷ [] ≡ take d numbers = ap₂ (λ a b. a ++ b ∷ []) cut v_is ∙ sym (around numbers d (omega (arith, some)) short) in
        let joined : numbers ≡ numbers' ++ v ∷ drop d numbers = sym (take-append-drop d numbers) ∙ ap (λ z. z ++ drop d numbers) (sym front) ∙ append_assoc numbers' (v ∷ []) (drop d numbers) in
        subst (λ z. Backs (shape z.parts) (Boxed z.parts) z.numbers (Some v) numbers') view (drop d numbers, joined, subst (λ z. AreLast (shape parts) (Boxed parts) z (drop d numbers)) (sym front) last)

    -- the front without the last numbers
    pub turned_front : {marks' numbers' : List ℕ} {mark_room' number_room' : ℕ} → marks' ≡ take d marks → numbers' ≡ take (d - 1) numbers → mark_room' ≡ mark_room → number_room' ≡ number_room
        → HasFront parts history edge_places marks' numbers' mark_room' number_room'
    turned_front {marks'} {numbers'} {mark_room'} {number_room'} marks_are numbers_are same_marks same_numbers =
        let short = mark_place parts history marks numbers d has.levels within in
        let next : d ≡ (d - 1) + 1 = omega (arith, some) in
        cut_front parts history edge_places marks numbers marks' numbers' mark_room number_room mark_room' number_room' (d - 1) has (omega (arith, short)) (marks_are
        ∙ ap (λ k. take k marks) next) numbers_are (sym same_marks) (sym same_numbers)

  -- to nothing
  pub backs_none : {numbers' : List ℕ} → d ≡ 0 → numbers' ≡ [] → Backs (shape f.parts) (Boxed f.parts) f.numbers None numbers'
  backs_none {numbers'} none cut =
      let first : (k : ℕ) → 0 ≤ k → k < length marks → slice_index marks k ≡ slice_index marks 0 = subst (λ i. (k : ℕ) → i ≤ k → k < length marks → slice_index marks k ≡ slice_index marks i) none same in
      subst (λ z. Backs (shape z.parts) (Boxed z.parts) z.numbers None numbers') view (cut, all_last parts history marks numbers has.levels first)
