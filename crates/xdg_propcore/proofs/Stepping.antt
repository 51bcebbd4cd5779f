-- A whole step of a propagator that stands for one principle use, by its number.
use Rattle.std.proofs.Common.{◌≡◌, ◌≢◌, ◌↔◌, ℕ, ◌<◌, ◌^◌, inl, inr, Bool, true, false, List, Option, length, get_or, sym, ap, ◌∙◌, refl, arith, subst}
use Rattle.std.specs.Int.{bit_at}
use Rattle.std.proofs.lemmas.Nat.Bits.{bit_at-zero}
use Rattle.std.proofs.lemmas.List.{get_or_default}
use Rattle.xdg_problem.specs.declared.parts.Group.{Group}
use Rattle.xdg_problem.specs.declared.parts.Parts.{Parts}
use Rattle.xdg_problem.specs.Boxes.{IsBox}
use Rattle.xdg_problem.specs.Problems.{IsGroup}
use Rattle.xdg_problem.specs.Vectors.{shape}
use Rattle.xdg_rules.specs.Rules.{IsClosedFor}
use Rattle.xdg_store.specs.States.{State, Known}
use Rattle.xdg_propcore.specs.Kinds.{kind_of}
use Rattle.xdg_propcore.specs.Losses.{Loses, LosesKind}
use Rattle.xdg_propcore.specs.Passes.{Progress, Goes, HasNoneClosed, IsQuiet, Answers, untouched}
use Rattle.xdg_propcore.specs.Standing.{Held, HeldIf, box_at}
use Rattle.xdg_propcore.specs.Steps.{Extends, Keeps, KeepsBoxes, Moves}
use Rattle.xdg_propcore.specs.Sweeps.{Sweeps}
use Rattle.xdg_propcore.specs.Uses.{IsClosedBy, StandsFor, StandsIn, use_at, no_use}
use Rattle.xdg_propcore.specs.declared.moved.Moved.{Moved}
use Rattle.xdg_propcore.specs.declared.moved.Moved.TheVariants as moves
use Rattle.xdg_propcore.proofs.Analyses.{keeps_boxes}
use Rattle.xdg_facts.proofs.Bits.{no_bits, some_bit}

-- what is known of the principle use of a propagator, in the store whose turns are counted
pub record Begun (stands : Parts → ℕ → Type 0) (number : ℕ) (old t : State) (group : Group) : Type 0 where
  pub mine : StandsFor stands old.parts number
  pub parts_stay : t.parts ≡ old.parts
  pub is : use_at old.parts number ≡ group
  pub group_is : IsGroup t.parts group
  pub held : (since : Option ℕ) → HeldIf (λ parts box. IsClosedBy stands parts box) old since → HeldIf (λ parts box. IsClosedFor parts group box) t since

-- what a whole step leaves
pub record Stepped (stands : Parts → ℕ → Type 0) (turns : ℕ) (moved : Moved) (old new : State) : Type 0 where
  pub extends : Extends old new
  pub keeps : Keeps stands moved old new
  pub same : (moved ≡ moves.Same) ↔ IsClosedBy stands old.parts old.now
  pub moves : Moves moved old new
  pub turns_are : new.turns ≡ turns

-- a store with its turns counted
abbrev pub turned : State → ℕ → State
turned s turns = record { parts = s.parts; now = s.now; history = s.history; turns = turns }

-- the principle use at a number
pub use_found : (parts : Parts) (number : ℕ) (groups : List Group) (group : Group) → number < length parts.groups → groups ≡ parts.groups → group ≡ get_or groups number group → use_at parts number ≡ group
use_found parts number groups group l groups_is at = get_or_default parts.groups number no_use group l ∙ sym (at ∙ ap (λ gs. get_or gs number group) groups_is)

-- t is the store with its turns counted
module _ (stands : Parts → ℕ → Type 0) (number turns : ℕ) (old t : State) (one : (k : ℕ) → stands old.parts k → k ≡ number) (stood : StandsIn stands old.parts) (turn_is : t ≡ turned old turns) (known : Known t) (problem : Parts) (parts_is : problem ≡ t.parts) where
  mine : StandsFor stands old.parts number
  mine = subst (StandsFor stands old.parts) (one stood.0 stood.1.1) stood.1

  parts_stay : t.parts ≡ old.parts
  parts_stay = ap (λ (s : State). s.parts) turn_is

  pub number_within : number < length problem.groups
  number_within = (let l = mine.0 in let e = ap (λ (p : Parts). length p.groups) (parts_is ∙ parts_stay) in omega (arith, l, e))

  module _ (group : Group) (group_is : group ≡ use_at problem number) where
    use_is : use_at old.parts number ≡ group
    use_is = sym (group_is ∙ ap (λ parts. use_at parts number) (parts_is ∙ parts_stay))

    held_so : (since : Option ℕ) → HeldIf (λ parts box. IsClosedBy stands parts box) old since → HeldIf (λ parts box. IsClosedFor parts group box) t since
    held_so since held mark some =
        let h = held mark some in
        subst (λ s. Held (λ parts box. IsClosedFor parts group box) s mark) (sym turn_is) (record {
          within = h.within;
          is = h.is;
          inside = h.inside;
          calm = subst (λ g. IsClosedFor old.parts g (box_at old mark)) use_is (h.calm number mine);
        })

    pub begun : Begun stands number old t group
    begun = record {
      mine = mine;
      parts_stay = parts_stay;
      is = use_is;
      group_is = subst (IsGroup t.parts) use_is (subst (λ parts. IsGroup t.parts (use_at parts number)) parts_stay (known.problem.groups number no_use (subst (λ (parts : Parts). number < length parts.groups) (sym parts_stay) mine.0)));
      held = held_so;
    }

    module _ (start p : Progress) (new : State) (start_is : start ≡ untouched) (sweep : Sweeps group (IsClosedFor t.parts group) start t p new) where
      goes : Goes group untouched (turned old turns) p new
      goes = subst (λ z. Goes group z (turned old turns) p new) start_is (subst (λ s. Goes group start s p new) turn_is sweep.goes)

      closes : IsQuiet p → IsClosedFor old.parts group new.now
      closes quiet = subst (λ parts. IsClosedFor parts group new.now) parts_stay (sweep.done quiet)

      is_box : IsBox (shape old.parts) old.now
      is_box = (subst Known turn_is known).is_box

      my_closed : (k : ℕ) → StandsFor stands old.parts k → (box : List (List Bool)) → IsClosedFor old.parts (use_at old.parts k) box → IsClosedFor old.parts group box
      my_closed k mine box closed = subst (λ g. IsClosedFor old.parts g box) use_is (subst (λ i. IsClosedFor old.parts (use_at old.parts i) box) (one k mine.1) closed)

      not_dead : p.dead ≡ true → HasNoneClosed old.parts group old.now
      not_dead h = elim (goes.dead h) [ inl e ↦ absurd (let z : false ≡ true = e in cc) | inr none ↦ none ]

      boxes_kept : (moved : Moved) → Answers moved p → KeepsBoxes stands old.parts moved old.now new.now
      boxes_kept moves.Same a k mine box is closed lies = (λ e. cc, goes.keeps box is (my_closed k mine box closed) lies)
      boxes_kept (moves.Changed wakes) a k mine box is closed lies = (λ e. cc, goes.keeps box is (my_closed k mine box closed) lies)
      boxes_kept moves.Dead a k mine box is closed lies = absurd (not_dead a box is (my_closed k mine box closed) lies)

      kind_lost : (kind : ℕ) → bit_at p.lost kind ≡ 1 → LosesKind old.parts old.now new.now kind
      kind_lost kind h = elim (goes.only kind h) [ inl e ↦ absurd (let z : bit_at 0 kind ≡ 1 = e in let y = bit_at-zero kind in omega (arith, z, y)) | inr l ↦ l ]

      kinds_lost : (wakes : ℕ) → wakes ≡ p.lost → p.lost ≢ 0 → p.lost < 2 ^ 64 → Loses old.parts wakes old.now new.now
      kinds_lost wakes e some small = record {
        some = (let k = some_bit p.lost some small in (k.0, kind_lost k.0 k.1));
        each = λ d v l. subst (λ n. bit_at n (kind_of old.parts d) ≡ 1) (sym e) (goes.each d v l);
        only = λ kind h. kind_lost kind (subst (λ n. bit_at n kind ≡ 1) e h);
      }

      step_moves : (moved : Moved) → Answers moved p → Moves moved old new
      step_moves moves.Same a = (goes.quiet a).1
      step_moves (moves.Changed wakes) a = kinds_lost wakes.0 a.0 a.1 a.2
      step_moves moves.Dead a = tt

      -- where the box is closed at the start nothing is taken
      none_taken : IsClosedFor old.parts group old.now → (moved : Moved) → Answers moved p → moved ≡ moves.Same
      none_taken closed moves.Same a = refl
      none_taken closed (moves.Changed wakes) a = absurd (a.1 (no_bits p.lost (λ kind h. (let l = kind_lost kind h in l.lost.1 (goes.keeps old.now is_box closed (λ d v k. k) l.decision l.value l.lost.0)))))
      none_taken closed moves.Dead a = absurd (not_dead a old.now is_box closed (λ d v k. k))

      closed_then : (moved : Moved) → Answers moved p → moved ≡ moves.Same → IsClosedFor old.parts group old.now
      closed_then moves.Same a e = subst (λ box. IsClosedFor old.parts group box) (goes.quiet a).1 (closes a)
      closed_then (moves.Changed wakes) a e = cc
      closed_then moves.Dead a e = cc

      step_same : (moved : Moved) → Answers moved p → (moved ≡ moves.Same) ↔ IsClosedBy stands old.parts old.now
      step_same moved a = (
        λ e k here. subst (λ i. IsClosedFor old.parts (use_at old.parts i) old.now) (sym (one k here.1)) (subst (λ g. IsClosedFor old.parts g old.now) (sym use_is) (closed_then moved a e)),
        λ closed. none_taken (my_closed number mine old.now (closed number mine)) moved a,
      )

      pub stepped : (moved : Moved) → Answers moved p → Stepped stands turns moved old new
      stepped moved a = record {
        extends = record { same = goes.extends.same; more = goes.extends.more; grown = goes.extends.grown; inside = goes.extends.inside };
        keeps = keeps_boxes stands moved old new sweep.known goes.extends.same (boxes_kept moved a);
        same = step_same moved a;
        moves = step_moves moved a;
        turns_are = sweep.goes.turns ∙ ap (λ (s : State). s.turns) turn_is;
      }
