-- The steps of the search, in the words of what a front ensures: shape and P are the problem as the call began, later and Q
-- the same problem as the front has it now.
use Rattle.std.proofs.Common.{◌≡◌, ◌≢◌, ℕ, ◌<◌, ◌≤◌, ◌+◌, ◌-◌, ◌⊎◌, ◌↔◌, inl, inr, List, [], ◌∷◌, ◌++◌, length, take, drop, get_or, refl, ap, ap₂, sym, ◌∙◌, arith, subst, length-append, append_assoc}
use Rattle.std.proofs.lemmas.List.{take-append-drop}
use Rattle.std.proofs.Math.Seq.{take-append_seam}
use Rattle.xdg_facts.specs.Order.{Less}
use Rattle.xdg_facts.specs.Fits.{Fits}
use Rattle.xdg_facts.specs.Closed.{Closed, NoneAfter, SomeAfter}
use Rattle.xdg_facts.specs.Passed.{Finds}
use Rattle.xdg_facts.proofs.Fitting.{fits_push, fits_front, fits_length, number_fits}
use Rattle.xdg_stream.specs.Problem.{SameProblem}
use Rattle.xdg_stream.specs.Place.{place, Stands}
use Rattle.xdg_stream.specs.Halts.{HaltsAt}
use Rattle.xdg_stream.specs.Forced.{AreForced, AreLast, Follows}
use Rattle.xdg_stream.proofs.Following.{forced_same, forced_fits, forced_counts, passes_follow, finds_follow, ahead_follow}
use Rattle.xdg_stream.proofs.Backing.{last_same, passes_back, none_back}
use Rattle.xdg_stream.proofs.Same.{same_then}
use Rattle.xdg_stream.proofs.Passing.{Passes, passes_refused, spent_at, ended_at}
use Rattle.xdg_facts.proofs.Fronts.{pushed_front}
use Rattle.xdg_facts.proofs.Measure.{ahead, ahead_refused, ahead_taken, ahead_back}

pub stands_room : (shape : List ℕ) (P : List ℕ → Type 0) (later : List ℕ) (Q : List ℕ → Type 0) (numbers : List ℕ) → SameProblem shape P later Q → Stands shape P numbers → length numbers ≤ length later
stands_room shape P later Q numbers s t = let h = fits_length shape numbers t.fits in let k = ap length s.sizes in omega (arith, h, k)

in_range : (shape : List ℕ) (P : List ℕ → Type 0) (later : List ℕ) (Q : List ℕ → Type 0) (n v : ℕ) → SameProblem shape P later Q → v < get_or later n 0 → v < get_or shape n 0
in_range shape P later Q n v s h = subst (λ z. v < get_or z n 0) s.sizes h

out_of_range : (shape : List ℕ) (P : List ℕ → Type 0) (later : List ℕ) (Q : List ℕ → Type 0) (n v : ℕ) → SameProblem shape P later Q → get_or later n 0 ≤ v → get_or shape n 0 ≤ v
out_of_range shape P later Q n v s h = subst (λ z. get_or z n 0 ≤ v) s.sizes h

pub push_fits : (shape : List ℕ) (P : List ℕ → Type 0) (later : List ℕ) (Q : List ℕ → Type 0) (numbers : List ℕ) (v : ℕ) → SameProblem shape P later Q → Stands shape P numbers → v < get_or later (length numbers) 0 → Fits later (numbers ++ v ∷ [])
push_fits shape P later Q numbers v s t h = subst (λ z. Fits z (numbers ++ v ∷ [])) (sym s.sizes) (fits_push shape numbers v t.fits (in_range shape P later Q (length numbers) v s h))

pub push_counts : (shape : List ℕ) (P : List ℕ → Type 0) (later : List ℕ) (Q : List ℕ → Type 0) (numbers : List ℕ) → SameProblem shape P later Q → Stands shape P numbers → (length numbers ≡ 0) ⊎ Q numbers
push_counts shape P later Q numbers s t = elim t.counts [ inl e ↦ inl e | inr p ↦ inr ((s.counts numbers).1 p) ]

-- a candidate that was taken
pub taken_stands : (shape : List ℕ) (P : List ℕ → Type 0) (later : List ℕ) (Q : List ℕ → Type 0) (numbers grown : List ℕ) (v : ℕ) → SameProblem shape P later Q → Stands shape P numbers → v < get_or later (length numbers) 0 → Q (numbers ++ v ∷ []) → grown ≡ numbers ++ v ∷ [] → Stands shape P grown
taken_stands shape P later Q numbers grown v s t h q e = subst (Stands shape P) (sym e) (record { fits = fits_push shape numbers v t.fits (in_range shape P later Q (length numbers) v s h); counts = inr ((s.counts (numbers ++ v ∷ [])).0 q) })

pub taken_spent : (shape : List ℕ) (P : List ℕ → Type 0) (later : List ℕ) (Q : List ℕ → Type 0) (from numbers : List ℕ) (value v n : ℕ) (kept now : List ℕ) → SameProblem shape P later Q → Stands shape P numbers → v ≡ value → v < get_or later (length numbers) 0 → Q (numbers ++ v ∷ []) → Passes shape P from (place numbers value) n kept now → HaltsAt shape P from n (SomeAfter shape P) kept now
taken_spent shape P later Q from numbers value v n kept now s t w h q p =
    let k = taken_stands shape P later Q numbers (numbers ++ v ∷ []) v s t h q refl in
    spent_at shape P from (numbers ++ v ∷ []) n kept now k.fits ((s.counts (numbers ++ v ∷ [])).0 q) (subst (λ i. Passes shape P from (place numbers i) n kept now) (sym w) p)

-- ---- a candidate that was taken, and forced numbers behind it: ran is the prefix with all of them

-- the problem as it is then, and what is known of the prefix with the candidate
pub record Grew (shape : List ℕ) (P : List ℕ → Type 0) (later : List ℕ) (Q : List ℕ → Type 0) (numbers grown : List ℕ) (value : ℕ) : Type 0 where
  pub same : SameProblem shape P later Q
  pub stands : Stands shape P grown
  pub counts : P grown
  pub range : value < get_or shape (length numbers) 0
  pub is : grown ≡ place numbers value

pub grew : {shape : List ℕ} {P : List ℕ → Type 0} {later : List ℕ} {Q : List ℕ → Type 0} {latest : List ℕ} {R : List ℕ → Type 0} {numbers grown : List ℕ} {v value : ℕ}
    → SameProblem shape P later Q → Stands shape P numbers → (v ≡ value) × (v < get_or later (length numbers) 0) → (grown ≡ numbers ++ v ∷ []) × Q
    (numbers ++ v ∷ []) → SameProblem later Q latest R → Grew shape P latest R numbers grown value
grew {shape} {P} {later} {Q} {latest} {R} {numbers} {grown} {v} s stands (e, below) (is, counted) next = record {
  same = same_then _ _ _ _ _ _ s next;
  stands = taken_stands shape P later Q numbers grown v s stands below counted is;
  counts = subst P (sym is) ((s.counts (numbers ++ v ∷ [])).0 counted);
  range = subst (λ i. i < get_or shape (length numbers) 0) e (in_range shape P later Q (length numbers) v s below);
  is = is ∙ ap (place numbers) e;
}

module _ {shape : List ℕ} {P : List ℕ → Type 0} {later : List ℕ} {Q : List ℕ → Type 0} {numbers grown : List ℕ} {value : ℕ} (g : Grew shape P later Q numbers grown value) {ran : List ℕ} {most count : ℕ}
    (f : Follows later Q grown ran most count) where
  forced : AreForced shape P grown f.added
  forced = forced_same shape P later Q grown f.added g.same f.forced

  pub ran_counts : P ran
  ran_counts = subst P (sym f.joined) (forced_counts shape P grown f.added g.counts forced)

  ran_joined : ran ≡ numbers ++ value ∷ f.added
  ran_joined = f.joined ∙ ap (λ z. z ++ f.added) g.is ∙ pushed_front numbers f.added value

  pub ran_stands : Stands shape P ran
  ran_stands = record { fits = subst (Fits shape) (sym f.joined) (forced_fits shape P grown f.added g.stands.fits forced); counts = inr ran_counts }

  module _ {from kept now : List ℕ} {n m : ℕ} (closed : Closed P) (more : (n + 1) + count ≡ m) (p : Passes shape P from (place numbers value) n kept now) where
    here : Passes shape P from grown n kept now
    here = subst (λ z. Passes shape P from z n kept now) (sym g.is) p

    all_are : (n + 1) + length f.added ≡ m
    all_are = let c = f.count in omega (arith, c, more)

    pub ran_passes : {reached : List ℕ} → length ran ≢ length shape → reached ≡ ran → Passes shape P from (place ran 0) m kept reached
    ran_passes n_whole is =
        let undone : length (grown ++ f.added) ≢ length shape = λ w. n_whole (ap length f.joined ∙ w) in
        let all = passes_follow shape P from kept closed grown f.added n now g.stands.fits g.counts forced undone here in
        subst (λ z. Passes shape P from (place ran 0) m kept z) (sym is)
        (subst (λ i. Passes shape P from (place ran 0) i kept ran) all_are (subst (λ z. Passes shape P from (place z 0) ((n + 1) + length f.added) kept z) (sym f.joined) all))

    pub ran_finds : length ran ≡ length shape → Less from ran × Finds shape P from ran m
    ran_finds whole = subst (λ z. Less from z × Finds shape P from z m) (sym f.joined)
        (subst (λ i. Less from (grown ++ f.added) × Finds shape P from (grown ++ f.added) i) all_are (finds_follow shape P from kept closed grown f.added n now g.stands.fits g.counts forced (ap length (sym f.joined) ∙ whole) here))

  -- what is kept is the prefix
  pub ran_kept : {reached prefix now : List ℕ} (kept : List ℕ) → take (length numbers) kept ≡ numbers → prefix ≡ grown → now ≡ ran → reached ≡ take (length prefix - 1) kept ++ drop (length prefix - 1) now → reached ≡ ran
  ran_kept {reached} {prefix} {now} kept begins prefix_is now_is is =
      let long = length-append numbers (value ∷ []) in
      let grew = ap length (prefix_is ∙ g.is) in
      let first : length prefix - 1 ≡ length numbers = omega (arith, long, grew) in
      let front : take (length prefix - 1) kept ≡ take (length prefix - 1) ran =
      ap (λ i. take i kept) first ∙ begins ∙ sym (ap (take (length prefix - 1)) ran_joined ∙ ap (λ i. take i (numbers ++ value ∷ f.added)) first ∙ take-append_seam numbers (value ∷ f.added)) in
      is ∙ ap₂ (λ a b. a ++ drop (length prefix - 1) b) front now_is ∙ take-append-drop (length prefix - 1) ran

  pub ran_smaller : ahead shape (place ran 0) < ahead shape (place numbers value)
  ran_smaller =
      let a = ahead_follow shape P grown f.added forced in
      let b = ahead_taken shape numbers value g.range in
      let d : ahead shape (place grown 0) < ahead shape (place numbers value) = subst (λ z. ahead shape (place z 0) < ahead shape (place numbers value)) (sym g.is) b in
      subst (λ z. ahead shape (place z 0) < ahead shape (place numbers value)) (sym f.joined) (omega (arith, a, d))

-- the prefix is whole where it has as many numbers as there are decisions
pub whole_test : {shape : List ℕ} {P : List ℕ → Type 0} {later : List ℕ} {Q : List ℕ → Type 0} {last : List ℕ} {R : List ℕ → Type 0} {ran prefix : List ℕ} {decisions : ℕ}
    → SameProblem shape P later Q → SameProblem later Q last R → prefix ≡ ran → decisions ≡ length last → (length prefix ≡ decisions) ↔ (length ran ≡ length shape)
whole_test s next p d =
    let same = ap length next.sizes ∙ ap length s.sizes in
    let long = ap length p in
    (λ w. omega (arith, same, long, d, w), λ w. omega (arith, same, long, d, w))

-- a candidate that was refused
pub refused_passes : (shape : List ℕ) (P : List ℕ → Type 0) (later : List ℕ) (Q : List ℕ → Type 0) (from numbers same : List ℕ) (value v n : ℕ) (kept now : List ℕ) → Closed P → SameProblem shape P later Q → v ≡ value → (Q (numbers ++ v ∷ []) → ⊥) → same ≡ numbers → Passes shape P from (place numbers value) n kept now → Passes shape P from (place same (value + 1)) n kept now
refused_passes shape P later Q from numbers same value v n kept now closed s w denied e p =
    subst (λ z. Passes shape P from (place z (value + 1)) n kept now) (sym e) (passes_refused shape P from numbers value n kept now closed (λ h. denied ((s.counts (numbers ++ v ∷ [])).1 (subst (λ i. P (place numbers i)) (sym w) h))) p)

pub refused_smaller : (shape : List ℕ) (P : List ℕ → Type 0) (later : List ℕ) (Q : List ℕ → Type 0) (numbers kept : List ℕ) (value v : ℕ) → SameProblem shape P later Q → v ≡ value → v < get_or later (length numbers) 0 → kept ≡ numbers → ahead shape (place kept (value + 1)) < ahead shape (place numbers value)
refused_smaller shape P later Q numbers kept value v s w h e =
    subst (λ z. ahead shape (place z (value + 1)) < ahead shape (place numbers value)) (sym e) (ahead_refused shape numbers value (subst (λ i. i < get_or shape (length numbers) 0) w (in_range shape P later Q (length numbers) v s h)))

-- ---- numbers that were taken off: r is what is left of them, and w the number behind it, in whose place a greater one is tried

closed_front : (P : List ℕ → Type 0) (numbers r t : List ℕ) → Closed P → (length numbers ≡ 0) ⊎ P numbers → numbers ≡ r ++ t → (length r ≡ 0) ⊎ P r
closed_front P numbers [] t closed h e = inl refl
closed_front P numbers (a ∷ r) t closed (inl z) e = (let l = ap length e in absurd (omega (arith, l)))
closed_front P numbers (a ∷ r) t closed (inr p) e = inr (closed (a ∷ r) t (omega arith) (subst P e p))

pub back_stands : (shape : List ℕ) (P : List ℕ → Type 0) (numbers r t : List ℕ) → Closed P → Stands shape P numbers → numbers ≡ r ++ t → Stands shape P r
back_stands shape P numbers r t closed k e = record { fits = fits_front shape r t (subst (Fits shape) e k.fits); counts = closed_front P numbers r t closed k.counts e }

pub back_passes : (shape : List ℕ) (P : List ℕ → Type 0) (later : List ℕ) (Q : List ℕ → Type 0) (from numbers r t : List ℕ) (value w k n : ℕ) (kept now : List ℕ) → Closed P → SameProblem shape P later Q → get_or later (length numbers) 0 ≤ value → k ≡ w → numbers ≡ r ++ w ∷ t → AreLast later Q (r ++ w ∷ []) t → Passes shape P from (place numbers value) n kept now → Passes shape P from (place r (k + 1)) n kept now
back_passes shape P later Q from numbers r t value w k n kept now closed s out j e h p =
    let o : get_or shape (length (r ++ w ∷ t)) 0 ≤ value = subst (λ z. get_or shape (length z) 0 ≤ value) e (out_of_range shape P later Q (length numbers) value s out) in
    subst (λ m. Passes shape P from (place r (m + 1)) n kept now) (sym j) (passes_back shape P from r t w value n kept now closed (last_same shape P later Q (r ++ w ∷ []) t s h) o (subst (λ z. Passes shape P from (place z value) n kept now) e p))

pub back_smaller : (shape : List ℕ) (P : List ℕ → Type 0) (numbers r t : List ℕ) (value w n : ℕ) → Stands shape P numbers → n ≡ w → numbers ≡ r ++ w ∷ t → ahead shape (place r (n + 1)) < ahead shape (place numbers value)
back_smaller shape P numbers r t value w n k j e =
    let h = number_fits shape r t w (subst (Fits shape) e k.fits) in
    let i : r ++ w ∷ (t ++ value ∷ []) ≡ place numbers value = sym (append_assoc r (w ∷ t) (value ∷ [])) ∙ ap (λ z. place z value) (sym e) in
    subst (λ m. ahead shape (place r (m + 1)) < ahead shape (place numbers value)) (sym j) (subst (λ z. ahead shape (place r (w + 1)) < ahead shape z) i (ahead_back shape r (t ++ value ∷ []) w h))

-- nothing is left to try
pub finished : (shape : List ℕ) (P : List ℕ → Type 0) (later : List ℕ) (Q : List ℕ → Type 0) (from numbers : List ℕ) (value n : ℕ) (kept now : List ℕ) → Closed P → SameProblem shape P later Q → get_or later (length numbers) 0 ≤ value → AreLast later Q [] numbers → Passes shape P from (place numbers value) n kept now → HaltsAt shape P from n (NoneAfter shape P) kept now
finished shape P later Q from numbers value n kept now closed s out h p =
    ended_at shape P from (place numbers value) n kept now (λ x f c k. none_back shape P numbers x value closed (last_same shape P later Q [] numbers s h) (out_of_range shape P later Q (length numbers) value s out) f c k) p

-- ---- the numbers that are kept
