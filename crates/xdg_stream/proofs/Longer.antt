-- From the greatest closed box of a prefix to that of the prefix and a number more.
use Rattle.std.proofs.Common.{◌≡◌, ◌↔◌, ℕ, ◌<◌, ◌≤◌, ◌+◌, zero, suc, inl, inr, Bool, List, [], ◌∷◌, ◌++◌, length, ap, sym, ◌∙◌, arith, subst, length-append}
use Rattle.std.specs.Prelude.{slice_index, slice_index_or}
use Rattle.std.proofs.lemmas.Bool.{cases_lt}
use Rattle.std.proofs.lemmas.List.{get_or_default}
use Rattle.xdg_problem.specs.declared.parts.Parts.{Parts}
use Rattle.xdg_problem.specs.Boxes.{Has, IsBox, IsOnly, LiesIn, Agrees, full}
use Rattle.xdg_problem.specs.Vectors.{shape}
use Rattle.xdg_propcore.specs.Fixed.{IsClosedByAll, IsGreatest}
use Rattle.xdg_propcore.specs.Uses.{IsClosedBy, no_use, AllStandIn}
use Rattle.xdg_rules.specs.Boxed.{Boxed}
use Rattle.xdg_rules.specs.Rules.{IsClosed, IsClosedFor}
use Rattle.xdg_rules.proofs.Agreeing.{agrees_at, agrees_front}
use Rattle.xdg_rules.proofs.Sizes.{within_sizes}
use Rattle.xdg_store.proofs.Boxed.{length_box}
use Rattle.xdg_stream.specs.Levels.{IsLevel, IsRestricted}
use Rattle.xdg_facts.proofs.Lists.{last_at, all_true, front_of, within_of}

-- ---- closed for all propagators is closed

module _ {P : Type 0} (stands : P → Parts → ℕ → Type 0) (props : List P) (parts : Parts) (all : AllStandIn stands props parts) where
  pub closed_of_all : (box : List (List Bool)) → IsClosedByAll stands props parts box → IsClosed parts box
  closed_of_all box closed number d l =
      let found = all.all number l in
      let by : IsClosedBy (stands found.0) parts box = subst (λ p. IsClosedBy (stands p) parts box) found.1.2 (closed.closed found.1.0 found.0 found.1.1) in
      subst (λ group. IsClosedFor parts group box) (get_or_default parts.groups number no_use d l) (by number (l, found.2))

  pub all_of_closed : (box : List (List Bool)) → IsBox (shape parts) box → IsClosed parts box → IsClosedByAll stands props parts box
  all_of_closed box is closed = record { is = is; closed = λ k p l number stands_for. closed number no_use stands_for.0 }

-- ---- boxes that agree with a prefix

agrees_of : (box : List (List Bool)) (p : List ℕ) → length p ≤ length box → ((d : ℕ) → d < length p → (v : ℕ) → Has box d v ↔ (v ≡ slice_index p d)) → Agrees box p
agrees_of box [] l at = tt
agrees_of [] (x ∷ p) l at = absurd (omega (arith, l))
agrees_of (row ∷ box) (x ∷ p) l at = (at 0 (omega arith), agrees_of box p (omega (arith, l)) (λ d m. at (suc d) (omega (arith, m))))

module _ (parts : Parts) (p : List ℕ) (v : ℕ) where
  abbrev longer : List ℕ
  longer = p ++ v ∷ []

  long : length longer ≡ length p + 1
  long = length-append p (v ∷ [])

  -- a box that agrees with the longer prefix has its last number alone
  pub last_only : (box : List (List Bool)) → Agrees box longer → IsOnly box (length p) v
  last_only box agrees x h = (let e = long in (agrees_at box longer agrees (length p) (omega (arith, e)) x).0 h ∙ last_at p v)

  -- a box inside one that agrees with the prefix, with the number alone, agrees with the longer prefix
  grown_agrees : (old box : List (List Bool)) → IsBox (shape parts) old → IsBox (shape parts) box → length p < length (shape parts) → Agrees old p → LiesIn box old → IsOnly box (length p) v → Agrees box longer
  grown_agrees old box old_is is within agrees lies only = agrees_of box longer (let e = long in let m = length_box (shape parts) box is in omega (arith, e, m, within)) at
    where
      filled : (d : ℕ) → d < length longer → (x : ℕ) × Has box d x
      filled d l = is.filled d (let e = long in omega (arith, e, l, within))

      number : (d : ℕ) → d < length longer → (x : ℕ) → Has box d x → x ≡ slice_index longer d
      number d l x h = elim (cases_lt d (length p)) [
        | inl before ↦ (agrees_at old p agrees d before x).0 (lies d x h) ∙ sym (front_of p v d before)
        | inr past ↦ (
            let e = long in
            let same : d ≡ length p = omega (arith, e, l, past) in
            only x (subst (λ k. Has box k x) same h) ∙ sym (last_at p v) ∙ ap (slice_index longer) (sym same)
            )
      ]

      at : (d : ℕ) → d < length longer → (x : ℕ) → Has box d x ↔ (x ≡ slice_index longer d)
      at d l x = (number d l x, λ e. subst (Has box d) (number d l (filled d l).0 (filled d l).1 ∙ sym e) (filled d l).1)

  module _ (old : List (List Bool)) (level : IsLevel parts p old) (within : length p < length (shape parts)) where
    -- a closed box of the longer prefix lies in the box of the prefix
    inside_old : (small : List (List Bool)) → IsBox (shape parts) small → IsClosed parts small → Agrees small longer → LiesIn small old
    inside_old small is closed agrees = level.most small is closed (agrees_front small p (v ∷ []) agrees)

    -- the number was the only one
    pub narrow_same : IsRestricted old old (length p) v → IsLevel parts longer old
    narrow_same r = record {
      is = level.is;
      closed = level.closed;
      agrees = grown_agrees old old level.is level.is within level.agrees (λ d x h. h) r.only;
      most = inside_old;
    }

    -- the number doesn't remain
    pub narrow_emptied : (Has old (length p) v → ⊥) → Boxed parts longer → ⊥
    narrow_emptied none boxed =
        let e = long in
        let has : Has boxed.box (length p) v = (agrees_at boxed.box longer boxed.agrees (length p) (omega (arith, e)) v).1 (sym (last_at p v)) in
        none (inside_old boxed.box boxed.is boxed.closed boxed.agrees (length p) v has)

    module _ {P : Type 0} (stands : P → Parts → ℕ → Type 0) (props : List P) (all : AllStandIn stands props parts) (now : List (List Bool)) (r : IsRestricted old now (length p) v) where
      pub narrow_settled : (new : List (List Bool)) → IsGreatest stands props parts now new → IsLevel parts longer new
      narrow_settled new g = record {
        is = g.closed.is;
        closed = closed_of_all stands props parts all new g.closed;
        agrees = grown_agrees old new level.is g.closed.is within level.agrees (λ d x h. r.inside d x (g.inside d x h)) (λ x h. r.only x (g.inside (length p) x h));
        most = λ small is closed agrees. g.greatest small (all_of_closed stands props parts all small is closed) (r.most small (inside_old small is closed agrees) (last_only small agrees));
      }

      pub narrow_dead : ((box : List (List Bool)) → IsClosedByAll stands props parts box → LiesIn box now → ⊥) → Boxed parts longer → ⊥
      narrow_dead none boxed = none boxed.box (all_of_closed stands props parts all boxed.box boxed.is boxed.closed) (r.most boxed.box (inside_old boxed.box boxed.is boxed.closed boxed.agrees) (last_only boxed.box boxed.agrees))

-- ---- the same, as the code tells it

module _ (parts : Parts) (p : List ℕ) (v d size : ℕ) (old now : List (List Bool)) (is : length p ≡ d) (size_is : size ≡ slice_index (shape parts) d) (less : v < size) (level : IsLevel parts p old) where
  within : length p < length (shape parts)
  within = (let k = within_of (shape parts) d v (omega (arith, size_is, less)) in omega (arith, k, is))

  pub same_at : (now ≡ old) × IsRestricted old now d v → IsLevel parts (p ++ v ∷ []) now
  same_at r = subst (IsLevel parts (p ++ v ∷ [])) (sym r.0) (narrow_same parts p v old level within (subst (λ z. IsRestricted old z (length p) v) r.0 (subst (λ k. IsRestricted old now k v) (sym is) r.1)))

  pub emptied_at : (Has old d v → ⊥) → Boxed parts (p ++ v ∷ []) → ⊥
  emptied_at none = narrow_emptied parts p v old level within (subst (λ k. Has old k v → ⊥) (sym is) none)

  module _ {P : Type 0} (stands : P → Parts → ℕ → Type 0) (props : List P) (mid : Parts) (all : AllStandIn stands props parts) (same : mid ≡ parts) (r : IsRestricted old now d v) where
    pub settled_at : (new : List (List Bool)) → IsGreatest stands props mid now new → IsLevel parts (p ++ v ∷ []) new
    settled_at new g = narrow_settled parts p v old level within stands props all now (subst (λ k. IsRestricted old now k v) (sym is) r) new (subst (λ q. IsGreatest stands props q now new) same g)

    pub dead_at : ((box : List (List Bool)) → IsClosedByAll stands props mid box → LiesIn box now → ⊥) → Boxed parts (p ++ v ∷ []) → ⊥
    dead_at none = narrow_dead parts p v old level within stands props all now (subst (λ k. IsRestricted old now k v) (sym is) r) (subst (λ q. (box : List (List Bool)) → IsClosedByAll stands props q box → LiesIn box now → ⊥) same none)

-- ---- the empty prefix

full_has : (sizes : List ℕ) (d v : ℕ) → v < slice_index_or sizes d 0 → Has (full sizes) d v
full_has [] d v l = absurd (omega (arith, l))
full_has (size ∷ sizes) zero v l = all_true size v l
full_has (size ∷ sizes) (suc d) v l = full_has sizes d v l

in_full : (sizes : List ℕ) (box : List (List Bool)) → IsBox sizes box → LiesIn box (full sizes)
in_full sizes box is d v h = full_has sizes d v (subst (λ z. v < slice_index_or z d 0) is.sizes (within_sizes box d v h))

module _ {P : Type 0} (stands : P → Parts → ℕ → Type 0) (props : List P) (parts : Parts) (all : AllStandIn stands props parts) where
  pub root_settled : (new : List (List Bool)) → IsGreatest stands props parts (full (shape parts)) new → IsLevel parts [] new
  root_settled new g = record {
    is = g.closed.is;
    closed = closed_of_all stands props parts all new g.closed;
    agrees = tt;
    most = λ small is closed agrees. g.greatest small (all_of_closed stands props parts all small is closed) (in_full (shape parts) small is);
  }

  pub root_dead : ((box : List (List Bool)) → IsClosedByAll stands props parts box → LiesIn box (full (shape parts)) → ⊥) → (p : List ℕ) → Boxed parts p → ⊥
  root_dead none p boxed = none boxed.box (all_of_closed stands props parts all boxed.box boxed.is boxed.closed) (in_full (shape parts) boxed.box boxed.is)
