-- What holds while propagators run: those that sleep are still, no closed box is lost, and each turn is paid for.
use Rattle.std.proofs.Common.{◌≡◌, ◌≢◌, ℕ, ◌<◌, ◌≤◌, ◌+◌, ◌^◌, inl, inr, Bool, true, false, List, [], ◌∷◌, ◌++◌, All, length, get_or, set, map, refl, ap, sym, ◌∙◌, arith, subst, zero, suc, append-nil, append_assoc, length-set}
use lib.Bits.{bit_and}
use Rattle.std.proofs.lemmas.Bool.{cases_eq}
use Rattle.std.proofs.lemmas.List.{get_or_default, length-map, get_or-map, get_or-set_other}
use Rattle.std.specs.Int.{bit_at}
use Rattle.xdg_problem.specs.declared.parts.Parts.{Parts}
use Rattle.xdg_problem.specs.Boxes.{IsBox, LiesIn}
use Rattle.xdg_problem.specs.Problems.{IsProblem}
use Rattle.xdg_problem.specs.Vectors.{shape}
use Rattle.xdg_store.specs.States.{State, Known}
use Rattle.xdg_propcore.specs.Fixed.{IsClosedByAll, IsGreatest}
use Rattle.xdg_propcore.specs.Flags.{IsOn}
use Rattle.xdg_facts.specs.Flags.{count_set}
use Rattle.xdg_propcore.specs.Standing.{Held, SleepersStill, WereStill, box_at}
use Rattle.xdg_propcore.specs.Kinds.{kind_of}
use Rattle.xdg_propcore.specs.Losses.{Loses, LosesOutside, lost_count, woken_count, wakers}
use Rattle.xdg_propcore.specs.Steps.{Extends, Keeps, KeepsBoxes}
use Rattle.xdg_propcore.specs.Uses.{IsClosedBy, StandsFor, StandsIn}
use Rattle.xdg_propcore.specs.declared.wake.Wake.{Wake}
use Rattle.xdg_propcore.specs.declared.moved.Moved.{Moved}
use Rattle.xdg_propcore.specs.declared.moved.Moved.TheVariants as moves
use Rattle.xdg_propcore.proofs.Losses.{weight_from, balance, lost_one, hits, hits_within, woken_within}
use Rattle.xdg_facts.proofs.Bits.{none_shared}

-- ---- flags

pub one_less : (flags : List Bool) (at : ℕ) → IsOn flags at → count_set (set flags at false) + 1 ≡ count_set flags
one_less [] at h = cc
one_less (true ∷ flags) zero h = omega arith
one_less (false ∷ flags) zero h = cc
one_less (true ∷ flags) (suc at) h = let e = one_less flags at h in omega (arith, e)
one_less (false ∷ flags) (suc at) h = one_less flags at h

pub on_within : (flags : List Bool) → count_set flags ≤ length flags
on_within [] = omega arith
on_within (true ∷ flags) = let e = on_within flags in omega (arith, e)
on_within (false ∷ flags) = let e = on_within flags in omega (arith, e)

-- ---- the cost of what remains: one for each value, and one for each propagator that its loss would wake

abbrev pub cost : List ℕ → Parts → List (List Bool) → ℕ
cost sets parts box = weight_from (λ d. 1) 0 box + weight_from (λ d. wakers sets (kind_of parts d)) 0 box

cost_falls : (sets : List ℕ) (parts : Parts) (old new : List (List Bool)) → LiesIn new old → lost_count old new + (woken_count parts sets old new + cost sets parts new) ≡ cost sets parts old
cost_falls sets parts old new l =
    let a = balance (λ d. 1) 0 old new l in
    let b = balance (λ d. wakers sets (kind_of parts d)) 0 old new l in
    omega (arith, a, b)

some_lost : (parts : Parts) (wakes : ℕ) (old new : List (List Bool)) → Loses parts wakes old new → 1 ≤ lost_count old new
some_lost parts wakes old new loses = lost_one (λ d. 1) 0 old new loses.some.1.decision loses.some.1.value loses.some.1.lost

-- a step that changed something pays for itself and for those that it wakes
pub change_pays : (sets : List ℕ) (lost : ℕ) (parts : Parts) (old new : List (List Bool)) → lost < 2 ^ 64 → LiesIn new old → Loses parts lost old new → 1 + (hits sets lost + cost sets parts new) ≤ cost sets parts old
change_pays sets lost parts old new fits l loses =
    let c = cost_falls sets parts old new l in
    let s = some_lost parts lost old new loses in
    let h = hits_within sets lost parts old new fits loses in
    omega (arith, c, s, h)

-- ---- states

pub extends_none : (s : State) → Extends s s
extends_none s = record { same = refl; more = []; grown = sym (append-nil s.history); inside = λ d v h. h }

pub extends_both : (a b c : State) → Extends a b → Extends b c → Extends a c
extends_both a b c e f = record {
  same = f.same ∙ e.same;
  more = e.more ++ f.more;
  grown = f.grown ∙ ap (λ h. h ++ f.more) e.grown ∙ append_assoc a.history e.more f.more;
  inside = λ d v h. e.inside d v (f.inside d v h);
}

-- what is said of the wake sets is said of the kinds of the propagators
pub kinds_in : (wakes : List Wake) (sets : List ℕ) (lost count : ℕ) (next : List Bool) → map (λ w. w.0) wakes ≡ sets → length sets ≡ count → ((i : ℕ) → i < length wakes → bit_and (get_or (map (λ w. w.0) wakes) i 0) lost ≢ 0 → IsOn next i) → (i : ℕ) → i < count → bit_and (get_or sets i 0) lost ≢ 0 → IsOn next i
kinds_in wakes sets lost count next is l woken i m hit =
    let n = ap length is in
    let k = length-map wakes (λ w. w.0) in
    woken i (omega (arith, n, k, l, m)) (subst (λ z. bit_and (get_or z i 0) lost ≢ 0) (sym is) hit)

module _ {P : Type 0} (stands : P → Parts → ℕ → Type 0) (still : P → Parts → List (List Bool) → Type 0) (kinds : P → ℕ) (props : List P) (old : State) (first : ℕ) where
  pub record Running (now : State) (awake : List Bool) : Type 0 where
    pub extends : Extends old now
    pub known : Known now
    pub lengths : length awake ≡ length props
    pub keeps : (box : List (List Bool)) → IsClosedByAll stands props old.parts box → LiesIn box old.now → LiesIn box now.now
    pub asleep : (at : ℕ) (d : P) → at < length props → (IsOn awake at → ⊥) → still (get_or props at d) old.parts now.now
    pub paid : now.turns + (count_set awake + cost (map kinds props) old.parts now.now) ≤ old.turns + (first + cost (map kinds props) old.parts old.now)

  pub running_start : (awake : List Bool) → Known old → length awake ≡ length props → SleepersStill still props awake old.parts old.now → count_set awake ≤ first → Running old awake
  running_start awake known e asleep few = record {
    extends = extends_none old;
    known = known;
    lengths = e;
    keeps = λ box k l. l;
    asleep = asleep;
    paid = omega (arith, few);
  }

  -- the propagator stands for a principle use of the sentence still
  pub my_use : (s : State) (at : ℕ) (p : P) → Extends old s → at < length props → p ≡ get_or props at p → All (λ q. StandsIn (stands q) old.parts) props → StandsIn (stands p) s.parts
  my_use s at p e l is stand = subst (λ q. StandsIn (stands p) q) (sym e.same) (subst (λ q. StandsIn (stands q) old.parts) (sym is) (stand at p l))

  -- the propagator that took a step is one of them, and what it keeps is kept
  keeps_on : (s new : State) (awake : List Bool) (at : ℕ) (p : P) (moved : Moved) → Running s awake → at < length props → p ≡ get_or props at p → StandsIn (stands p) s.parts → Keeps (stands p) moved s new → (box : List (List Bool)) → IsClosedByAll stands props old.parts box → LiesIn box old.now → (moved ≢ moves.Dead) × LiesIn box new.now
  keeps_on s new awake at p moved r l is stand step box k inside =
      let n = subst (λ q. StandsIn (stands p) q) r.extends.same stand in
      let closed : IsClosedBy (stands p) old.parts box = subst (λ q. IsClosedBy (stands q) old.parts box) (sym is) (k.closed at p l) in
      subst (λ q. KeepsBoxes (stands p) q moved s.now new.now) r.extends.same step.boxes n.0 n.1 box k.is (closed n.0 n.1) (r.keeps box k inside)

  pub running_same : (s new : State) (awake next : List Bool) (at : ℕ) (p : P) → Running s awake → at < length props → IsOn awake at → p ≡ get_or props at p → Extends s new → Known new → still p s.parts s.now → new.now ≡ s.now → new.turns ≤ s.turns + 1 → next ≡ set awake at false → Running new next
  running_same s new awake next at p r l h is e known calm same turns next_is = subst (λ z. Running new z) (sym next_is) (record {
    extends = extends_both old s new r.extends e;
    known = known;
    lengths = length-set awake at false ∙ r.lengths;
    keeps = λ box k inside. subst (LiesIn box) (sym same) (r.keeps box k inside);
    asleep = λ i d m n. subst (still (get_or props i d) old.parts) (sym same) (elim (cases_eq at i) [
      | inl q ↦ subst (λ z. still z old.parts s.now) (is ∙ ap (λ z. get_or props z p) q ∙ get_or_default props i p d m) (subst (λ z. still p z s.now) r.extends.same calm)
      | inr f ↦ r.asleep i d m (λ a. n (get_or-set_other awake at i false false (λ s. f (sym s)) ∙ a))
    ]);
    paid = (let w = one_less awake at h in let b = r.paid in let c = ap (cost (map kinds props) old.parts) same in omega (arith, w, b, c, turns));
  })

  wakes_at : (i : ℕ) (d : P) → i < length props → get_or (map kinds props) i 0 ≡ kinds (get_or props i d)
  wakes_at i d l = get_or-map kinds props i d 0 l

  -- those that sleep and aren't woken have none of the lost kinds
  outside : (s new : State) (awake next : List Bool) (lost i : ℕ) (d : P) → Loses s.parts lost s.now new.now → s.parts ≡ old.parts → i < length props → bit_and (get_or (map kinds props) i 0) lost ≡ 0 → LosesOutside old.parts (kinds (get_or props i d)) s.now new.now
  outside s new awake next lost i d loses same l none k v gone =
      let each = subst (λ q. bit_at lost (kind_of q k) ≡ 1) same (loses.each k v gone) in
      none_shared (kinds (get_or props i d)) lost (kind_of old.parts k) (subst (λ z. bit_and z lost ≡ 0) (wakes_at i d l) none) each

  pub running_changed : (s new : State) (awake next : List Bool) (at : ℕ) (p : P) (lost : ℕ) (moved : Moved) → Running s awake → at < length props → p ≡ get_or props at p → All (λ q. StandsIn (stands q) old.parts) props → Extends s new → Known new → Keeps (stands p) moved s new → new.turns ≤ s.turns + 1 → lost < 2 ^ 64 → Loses s.parts lost s.now new.now
      → ((q : P) (parts : Parts) (number : ℕ) (b c : List (List Bool)) → IsProblem parts → StandsFor (stands q) parts number → IsBox (shape parts) b → IsBox (shape parts) c → LiesIn c b → LosesOutside parts (kinds q) b c → still q parts b → still q parts c)
      → length next ≡ length awake → ((i : ℕ) → IsOn awake i → IsOn next i) → ((i : ℕ) → i < length props → bit_and (get_or (map kinds props) i 0) lost ≢ 0 → IsOn next i) → ((i : ℕ) → IsOn next i → (IsOn awake i → ⊥) → bit_and (get_or (map kinds props) i 0) lost ≢ 0)
      → Running new next
  running_changed s new awake next at p lost moved r l is stand e known step turns fits loses law same_length kept woken only =
      let mine = my_use s at p r.extends l is stand in
      let problem = subst IsProblem r.extends.same r.known.problem in
      let before = subst (λ q. IsBox (shape q) s.now) r.extends.same r.known.is_box in
      let after = subst (λ q. IsBox (shape q) new.now) (e.same ∙ r.extends.same) known.is_box in
      record {
        extends = extends_both old s new r.extends e;
        known = known;
        lengths = same_length ∙ r.lengths;
        keeps = λ box k inside. (keeps_on s new awake at p moved r l is mine step box k inside).1;
        asleep = λ i d m n.
            let none : bit_and (get_or (map kinds props) i 0) lost ≡ 0 = (elim (cases_eq (bit_and (get_or (map kinds props) i 0) lost) 0) [ inl q ↦ q | inr f ↦ absurd (n (woken i m f)) ]) in
            law (get_or props i d) old.parts (stand i d m).0 s.now new.now problem (stand i d m).1 before after e.inside (outside s new awake next lost i d loses r.extends.same m none) (r.asleep i d m (λ a. n (kept i a)));
        paid = (let c = change_pays (map kinds props) lost old.parts s.now new.now fits e.inside (subst (λ q. Loses q lost s.now new.now) r.extends.same loses) in
            let w = woken_within (map kinds props) lost awake next (length-map props kinds ∙ sym r.lengths) same_length only in
            let b = r.paid in
            omega (arith, c, w, b, turns));
      }

  -- no propagator is awake: the box is the greatest closed one
  pub running_done : (s : State) (awake : List Bool) → Running s awake → ((at : ℕ) → IsOn awake at → ⊥) → ((q : P) (parts : Parts) (box : List (List Bool)) → IsProblem parts → IsBox (shape parts) box → still q parts box → IsClosedBy (stands q) parts box) → IsGreatest stands props old.parts old.now s.now
  running_done s awake r none law =
      let problem = subst IsProblem r.extends.same r.known.problem in
      let is = subst (λ q. IsBox (shape q) s.now) r.extends.same r.known.is_box in
      record {
        closed = record {
          is = is;
          closed = λ at d l. law (get_or props at d) old.parts s.now problem is (r.asleep at d l (none at));
        };
        inside = r.extends.inside;
        greatest = r.keeps;
      }

  -- the propagator found no closed box: there is none
  pub running_dead : (s new : State) (awake : List Bool) (at : ℕ) (p : P) → Running s awake → at < length props → p ≡ get_or props at p → StandsIn (stands p) s.parts → Keeps (stands p) moves.Dead s new → (box : List (List Bool)) → IsClosedByAll stands props old.parts box → LiesIn box old.now → ⊥
  running_dead s new awake at p r l is stand step box k inside = (keeps_on s new awake at p moves.Dead r l is stand step box k inside).0 refl

  -- ---- the turns

  turns_of : (new : List (List Bool)) (turns : ℕ) → LiesIn new old.now → turns + cost (map kinds props) old.parts new ≤ old.turns + (first + cost (map kinds props) old.parts old.now) → turns ≤ old.turns + (first + (lost_count old.now new + woken_count old.parts (map kinds props) old.now new))
  turns_of new turns inside paid = let c = cost_falls (map kinds props) old.parts old.now new inside in omega (arith, c, paid)

  pub done_turns : (s : State) (awake : List Bool) → Running s awake → s.turns ≤ old.turns + (first + (lost_count old.now s.now + woken_count old.parts (map kinds props) old.now s.now))
  done_turns s awake r = let b = r.paid in turns_of s.now s.turns r.extends.inside (omega (arith, b))

  pub dead_turns : (s new : State) (awake : List Bool) (at : ℕ) → Running s awake → IsOn awake at → Extends s new → new.turns ≤ s.turns + 1 → new.turns ≤ old.turns + (first + (lost_count old.now new.now + woken_count old.parts (map kinds props) old.now new.now))
  dead_turns s new awake at r h e turns =
      let w = one_less awake at h in
      let c = cost_falls (map kinds props) old.parts s.now new.now e.inside in
      let b = r.paid in
      turns_of new.now new.turns (λ d v k. r.extends.inside d v (e.inside d v k)) (omega (arith, w, c, b, turns))

  -- ---- the measure

  pub smaller_same : (s new : State) (awake next : List Bool) (at : ℕ) → IsOn awake at → next ≡ set awake at false → new.now ≡ s.now → count_set next + cost (map kinds props) old.parts new.now < count_set awake + cost (map kinds props) old.parts s.now
  smaller_same s new awake next at h is same =
      let w = one_less awake at h in
      let n = ap count_set is in
      let c = ap (cost (map kinds props) old.parts) same in
      omega (arith, w, n, c)

  pub smaller_changed : (s new : State) (awake next : List Bool) (lost : ℕ) → Running s awake → Extends s new → lost < 2 ^ 64 → Loses s.parts lost s.now new.now → length next ≡ length awake → ((i : ℕ) → IsOn next i → (IsOn awake i → ⊥) → bit_and (get_or (map kinds props) i 0) lost ≢ 0) → count_set next + cost (map kinds props) old.parts new.now < count_set awake + cost (map kinds props) old.parts s.now
  smaller_changed s new awake next lost r e fits loses same_length only =
      let c = change_pays (map kinds props) lost old.parts s.now new.now fits e.inside (subst (λ q. Loses q lost s.now new.now) r.extends.same loses) in
      let w = woken_within (map kinds props) lost awake next (length-map props kinds ∙ sym r.lengths) same_length only in
      omega (arith, c, w)

-- ---- those that sleep at the start

module _ {P : Type 0} (stands : P → Parts → ℕ → Type 0) (still : P → Parts → List (List Bool) → Type 0) (kinds : P → ℕ) (props : List P) where
  -- none does
  pub none_sleeps : (awake : List Bool) (parts : Parts) (box : List (List Bool)) → length awake ≡ length props → ((at : ℕ) → at < length awake → IsOn awake at) → SleepersStill still props awake parts box
  none_sleeps awake parts box e all at d l n = absurd (n (all at (omega (arith, l, e))))

  -- those that the lost kinds don't wake
  pub others_sleep : (s : State) (mark lost : ℕ) (awake : List Bool) → Known s → All (λ q. StandsIn (stands q) s.parts) props → WereStill still props s mark lost
      → ((q : P) (parts : Parts) (number : ℕ) (b c : List (List Bool)) → IsProblem parts → StandsFor (stands q) parts number → IsBox (shape parts) b → IsBox (shape parts) c → LiesIn c b → LosesOutside parts (kinds q) b c → still q parts b → still q parts c)
      → ((i : ℕ) → i < length (map kinds props) → bit_and (get_or (map kinds props) i 0) lost ≢ 0 → IsOn awake i)
      → SleepersStill still props awake s.parts s.now
  others_sleep s mark lost awake known stand was law woken at d l n =
      let long = length-map props kinds in
      let none : bit_and (get_or (map kinds props) at 0) lost ≡ 0 = (elim (cases_eq (bit_and (get_or (map kinds props) at 0) lost) 0) [ inl q ↦ q | inr f ↦ absurd (n (woken at (omega (arith, l, long)) f)) ]) in
      let mine : bit_and (kinds (get_or props at d)) lost ≡ 0 = subst (λ z. bit_and z lost ≡ 0) (get_or-map kinds props at d 0 l) none in
      let held : Held (still (get_or props at d)) s mark = was.held at d l in
      law (get_or props at d) s.parts (stand at d l).0 (box_at s mark) s.now known.problem (stand at d l).1 held.is known.is_box held.inside
      (λ k v gone. none_shared (kinds (get_or props at d)) lost (kind_of s.parts k) mine (was.kinds k v gone)) held.calm
