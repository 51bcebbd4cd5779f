-- Of which decisions values were removed.
use Rattle.std.proofs.Common.{◌≡◌, ◌⊎◌, ℕ, ◌<◌, ◌≤◌, ◌+◌, ◌-◌, inl, inr, Bool, false, List, [], ◌∷◌, ◌++◌, length, get_or, set, take, drop, ap, sym, ◌∙◌, arith, subst, zero, suc, length-append}
use Rattle.std.specs.Prelude.{sum}
use Rattle.std.proofs.lemmas.Bool.{cases_eq, cases_lt}
use Rattle.std.proofs.lemmas.List.{get_or_append_left, get_or_at, get_or_default, get_or-drop, get_or-set_other, get_or-take, length-drop, length-take-le}
use Rattle.xdg_problem.specs.declared.parts.Parts.{Parts}
use Rattle.xdg_problem.specs.Boxes.{Has}
use Rattle.xdg_problem.specs.Vectors.{shape}
use Rattle.xdg_trail.specs.Trailed.{Trailed, past}
use Rattle.xdg_store.specs.Change.{Removes, RemovesAll}
use Rattle.xdg_store.specs.Decisions.{IsDecision, number_of}
use Rattle.xdg_store.specs.Layout.{bits_of, box_in}
use Rattle.xdg_store.specs.Naming.{AreSteps, IsStep, Names, SameBut, noted}
use Rattle.xdg_store.specs.States.{State, Keeps, Known, oldest}
use Rattle.xdg_store.specs.declared.change.Change.{Change}
use Rattle.xdg_store.specs.declared.change.Change.TheVariants as changes
use Rattle.xdg_store.specs.declared.decision.Decision.{Decision}
use Rattle.xdg_store.specs.declared.decision.Decision.TheVariants as decisions
use Rattle.xdg_store.proofs.Boxed.{box_filled, length_box}
use Rattle.xdg_store.proofs.Counting.{enough_left}
use Rattle.xdg_store.proofs.Histories.{history_cut, history_length, known_of, present, seen}

-- what the names need of a removal: nothing changed, or there is one more box, in which every other decision is as it was
abbrev pub IsOneStep : Change → State → State → ℕ → Type 0
IsOneStep changes.Same old new d = new ≡ old
IsOneStep changes.Changed old new d = (new.history ≡ old.history ++ (new.now ∷ [])) × SameBut old.now new.now d
IsOneStep changes.Emptied old new d = new ≡ old

pub one_step : (change : Change) (old new : State) (d v : ℕ) → Removes change old new d v → IsOneStep change old new d
one_step changes.Same old new d v r = r.1
one_step changes.Changed old new d v (has, other, more) =
    (ap (λ s. s.history) more ∙ ap (λ b. old.history ++ (b ∷ [])) (sym (ap (λ s. s.now) more)), λ e n. ap (λ s. get_or s.now e []) more ∙ get_or-set_other old.now d e (set (get_or old.now d []) v false) [] n)
one_step changes.Emptied old new d v (has, only, same) = same

pub block_step : (change : Change) (old new : State) (d : ℕ) (Goes : ℕ → Type 0) → RemovesAll change old new d Goes → IsOneStep change old new d
block_step changes.Changed old new d Goes r = (r.1.grown, r.1.others)
block_step change old new d Goes r = r.1

-- what a removal of values of a decision leaves of a store
pub record Leaves (parts : Parts) (change : Change) (t u : Trailed) (turns : ℕ) (decision : Decision) (Removal : State → State → ℕ → Type 0) : Type 0 where
  pub is : IsDecision parts decision
  pub kept : Keeps parts t
  pub keeps : Keeps parts u
  pub removes : Removal (seen parts t turns) (seen parts u turns) (number_of parts decision)
  pub step : IsOneStep change (seen parts t turns) (seen parts u turns) (number_of parts decision)

-- of one value, and of several
abbrev pub LeavesOne : Parts → Change → Trailed → Trailed → ℕ → Decision → ℕ → Type 0
LeavesOne parts change t u turns decision v = Leaves parts change t u turns decision (λ old new d. Removes change old new d v)

abbrev pub LeavesAll : Parts → Change → Trailed → Trailed → ℕ → Decision → (ℕ → Type 0) → Type 0
LeavesAll parts change t u turns decision Goes = Leaves parts change t u turns decision (λ old new d. RemovesAll change old new d Goes)

module _ (parts : Parts) where
  -- what is said of a step, by the decision and the two boxes
  abbrev Says : Decision → List (List Bool) → List (List Bool) → Type 0
  Says decision old new = IsDecision parts decision × SameBut old new (number_of parts decision)

  says_alike : (a b : Decision) (old old' new new' : List (List Bool)) → a ≡ b → old ≡ old' → new ≡ new' → Says b old' new' → Says a old new
  says_alike a b old old' new new' p q r s = subst (λ z. Says z old new) (sym p) (subst (λ z. Says b z new) (sym q) (subst (λ z. Says b old' z) (sym r) s))

  -- ---- one more

  grown : (history more : List (List (List Bool))) (removed others : List Decision) (k : ℕ) → length history ≡ length removed + 1 → k < length removed → IsStep parts history removed k → IsStep parts (history ++ more) (removed ++ others) k
  grown history more removed others k count l step d = says_alike _ _ _ _ _ _
      (get_or_append_left removed others d k l)
      (get_or_append_left history more [] k (omega (arith, count, l)))
      (get_or_append_left history more [] (k + 1) (omega (arith, count, l)))
      (step d)

  newest : (s : State) (taken : List (List Bool)) (removed : List Decision) (decision : Decision) (k : ℕ) → Known s → length s.history ≡ length removed + 1 → k ≡ length removed → IsDecision parts decision → SameBut s.now taken (number_of parts decision) → IsStep parts (s.history ++ (taken ∷ [])) (removed ++ (decision ∷ [])) k
  newest s taken removed decision k known count at is same d =
      let last : k ≡ length s.history - 1 = omega (arith, count, at) in
      says_alike _ _ _ _ _ _
      (get_or_at removed decision [] d k (sym at))
      (get_or_append_left s.history (taken ∷ []) [] k (omega (arith, count, at)) ∙ ap (λ i. get_or s.history i []) last ∙ known.last)
      (get_or_at s.history taken [] [] (k + 1) (omega (arith, count, at)))
      (is, same)

  pub noted_steps : (change : Change) (old new : State) (removed : List Decision) (decision : Decision) (room : ℕ) → Known old → IsDecision parts decision → AreSteps parts old.history removed room → IsOneStep change old new (number_of parts decision) → AreSteps parts new.history (noted change removed decision) room
  noted_steps changes.Changed old new removed decision room known is steps (more, same) =
      let c = steps.count in
      let a = length-append old.history (new.now ∷ []) in
      let b = length-append removed (decision ∷ []) in
      subst (λ h. AreSteps parts h (removed ++ (decision ∷ [])) room) (sym more) (record {
        count = omega (arith, c, a, b);
        each = λ k l. elim (cases_lt k (length removed)) [
          | inl m ↦ grown old.history (new.now ∷ []) removed (decision ∷ []) k c m (steps.each k m)
          | inr m ↦ newest old new.now removed decision k known c (omega (arith, l, m, b)) is same
        ];
        most = steps.most;
      })
  noted_steps change old new removed decision room known is steps same = subst (λ s. AreSteps parts s.history removed room) (sym same) steps

  -- ---- room

  step_room : (change : Change) (t u : Trailed) (turns : ℕ) (removed : List Decision) (d room : ℕ) → Keeps parts u → AreSteps parts (oldest (bits_of parts) (past t)) removed room
      → IsOneStep change (seen parts t turns) (seen parts u turns) d → change ≡ changes.Changed → length removed < room
  step_room changes.Changed t u turns removed d room keeps steps (more, others) is =
      let box = box_in (bits_of parts) u.words in
      let now = present (shape parts) (sum (shape parts)) (bits_of parts) u keeps.sound in
      let count = now.0 in
      let left = enough_left box (box_filled (shape parts) box now.1) in
      let size = length_box (shape parts) box now.1 in
      let before = steps.count in
      let after = history_length (bits_of parts) u in
      let one = length-append (oldest (bits_of parts) (past t)) (box ∷ []) in
      let same : length (oldest (bits_of parts) (past u)) ≡ length (oldest (bits_of parts) (past t) ++ (box ∷ [])) = ap length more in
      let most = steps.most in
      omega (arith, count, left, size, before, after, one, same, most)
  step_room change t u turns removed d room keeps steps step is = cc

  -- ---- the start, and going back

  pub first_steps : (history : List (List (List Bool))) (room : ℕ) → length history ≡ 1 → sum (shape parts) ≤ room + length (shape parts) → AreSteps parts history [] room
  first_steps history room one most = record { count = omega (arith, one); each = λ k l. absurd (omega (arith, l)); most = most }

  pub cut_steps : (history : List (List (List Bool))) (removed : List Decision) (room mark : ℕ) → mark < length history → AreSteps parts history removed room → AreSteps parts (take (mark + 1) history) (take mark removed) room
  cut_steps history removed room mark l steps =
      let c = steps.count in
      let a = length-take-le (mark + 1) history (omega (arith, l)) in
      let b = length-take-le mark removed (omega (arith, l, c)) in
      record {
        count = omega (arith, a, b);
        each = λ k m d. says_alike _ _ _ _ _ _
            (get_or-take mark removed k d (omega (arith, m, b)))
            (get_or-take (mark + 1) history k [] (omega (arith, m, b)))
            (get_or-take (mark + 1) history (k + 1) [] (omega (arith, m, b)))
            (steps.each k (omega (arith, m, b, l, c)) d);
        most = steps.most;
      }

  -- ---- what is lost since a mark

  module _ (history : List (List (List Bool))) (removed : List Decision) (each : (k : ℕ) → k < length removed → IsStep parts history removed k) (mark d : ℕ) (default : Decision) where
    -- a decision is as it was, or one of those named
    pub same_or_named : (n : ℕ) → mark + n ≤ length removed → (get_or (get_or history (mark + n) []) d [] ≡ get_or (get_or history mark []) d []) ⊎ ((k : ℕ) × (k < n) × (number_of parts (get_or removed (mark + k) default) ≡ d))
    same_or_named zero l = inl (let q : mark + 0 ≡ mark = omega arith in ap (λ i. get_or (get_or history i []) d []) q)
    same_or_named (suc n) l = elim (cases_eq d (number_of parts (get_or removed (mark + n) default))) [
      | inl q ↦ inr (n, omega arith, sym q)
      | inr f ↦ elim (same_or_named n (omega (arith, l))) [
        | inl same ↦ inl (let q : mark + suc n ≡ (mark + n) + 1 = omega arith in ap (λ i. get_or (get_or history i []) d []) q ∙ (each (mark + n) (omega (arith, l)) default).1 d f ∙ same)
        | inr (k, w, is) ↦ inr (k, omega (arith, w), is)
      ]
    ]

  pub names_since : (s : State) (removed : List Decision) (room mark : ℕ) → Known s → AreSteps parts s.history removed room → mark < length s.history → Names parts (get_or s.history mark []) s.now (drop mark removed)
  names_since s removed room mark known steps l =
      let c = steps.count in
      let len = length-drop mark removed in
      let default = decisions.Entry (record { 0 = 0 }) in
      let end : length s.history - 1 ≡ mark + (length removed - mark) = omega (arith, c, l) in
      let now : get_or s.history (mark + (length removed - mark)) [] ≡ s.now = ap (λ i. get_or s.history i []) (sym end) ∙ known.last in
      record {
        each = λ k d m. subst (IsDecision parts) (sym (get_or-drop mark removed k d)) (steps.each (mark + k) (omega (arith, m, len)) d).0;
        all = λ d v h gone. elim (same_or_named s.history removed steps.each mark d default (length removed - mark) (omega (arith, c, l))) [
          | inl same ↦ absurd (gone (subst (λ b. Has b d v) now (ap (λ row. get_or row v false) same ∙ h)))
          | inr (k, w, is) ↦ (let x = get_or removed (mark + k) default in (x, (k, omega (arith, w, len), get_or-drop mark removed k x ∙ get_or_default removed (mark + k) x default (omega (arith, w))), is))
        ];
      }

-- ---- as the code goes

module _ {parts : Parts} {change : Change} {t u : Trailed} {turns : ℕ} {decision : Decision} {Removal : State → State → ℕ → Type 0} (left : Leaves parts change t u turns decision Removal) where
  -- of the state that a caller sees
  pub removes_seen : {s : State} → seen parts t turns ≡ s → Removal s (seen parts u turns) (number_of s.parts decision)
  removes_seen is = subst (λ s. Removal s (seen parts u turns) (number_of s.parts decision)) is left.removes

  -- and of the names
  module _ {removed : List Decision} {room : ℕ} (steps : AreSteps parts (oldest (bits_of parts) (past t)) removed room) where
    pub room_left : change ≡ changes.Changed → length removed < room
    room_left = step_room parts change t u turns removed (number_of parts decision) room left.keeps steps left.step

    pub steps_after : {removed' : List Decision} {room' : ℕ} → removed' ≡ noted change removed decision → room' ≡ room → AreSteps parts (oldest (bits_of parts) (past u)) removed' room'
    steps_after removed_is room_is =
        subst (AreSteps parts (oldest (bits_of parts) (past u)) _) (sym room_is)
        (subst (λ xs. AreSteps parts (oldest (bits_of parts) (past u)) xs room) (sym removed_is)
        (noted_steps parts change (seen parts t turns) (seen parts u turns) removed decision room (known_of parts turns t left.kept) left.is steps left.step))

module _ (parts : Parts) where
  pub steps_cut : (t u : Trailed) (removed removed' : List Decision) (room room' mark n : ℕ) → mark ≤ length t.records → past u ≡ drop (length t.records - mark) (past t) → AreSteps parts (oldest (bits_of parts) (past t)) removed room → removed' ≡ take n removed → n ≡ mark → room' ≡ room → AreSteps parts (oldest (bits_of parts) (past u)) removed' room'
  steps_cut t u removed removed' room room' mark n l past_is steps removed_is n_is room_is =
      let long = history_length (bits_of parts) t in
      subst (λ h. AreSteps parts h removed' room') (sym (history_cut (bits_of parts) t u mark l past_is))
      (subst (λ r. AreSteps parts (take (mark + 1) (oldest (bits_of parts) (past t))) removed' r) (sym room_is)
      (subst (λ xs. AreSteps parts (take (mark + 1) (oldest (bits_of parts) (past t))) xs room) (sym (removed_is ∙ ap (λ i. take i removed) n_is))
      (cut_steps parts (oldest (bits_of parts) (past t)) removed room mark (omega (arith, long, l)) steps)))

  pub steps_start : (t : Trailed) (removed : List Decision) (room free : ℕ) → t.records ≡ [] → removed ≡ [] → free ≤ room → free + length (shape parts) ≡ sum (shape parts) → AreSteps parts (oldest (bits_of parts) (past t)) removed room
  steps_start t removed room free none empty enough all =
      let long = history_length (bits_of parts) t in
      let records = ap length none in
      subst (λ xs. AreSteps parts (oldest (bits_of parts) (past t)) xs room) (sym empty) (first_steps parts (oldest (bits_of parts) (past t)) room (omega (arith, long, records)) (omega (arith, enough, all)))
