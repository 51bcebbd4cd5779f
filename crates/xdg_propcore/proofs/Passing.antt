-- Steps that take values, part by part.
use Rattle.std.proofs.Common.{◌≡◌, ◌⊎◌, ℕ, ◌<◌, ◌^◌, inl, inr, Bool, true, false, List, [], ◌∷◌, length, get_or, ap, sym, ◌∙◌, arith, subst, refl}
use Rattle.std.specs.Int.{bit_at}
use lib.Bits.{bit_or}
use Rattle.std.proofs.lemmas.Bool.{cases_eq}
use Rattle.std.proofs.lemmas.Nat.Bits.{bit_at-zero}
use Rattle.xdg_problem.specs.declared.parts.Group.{Group}
use Rattle.xdg_problem.specs.declared.analysis.Edge.{Edge}
use Rattle.xdg_problem.specs.Analyses.{IsPlace}
use Rattle.xdg_problem.specs.Boxes.{Has, IsBox, LiesIn, entry_decision, attr_decision, edge_decision}
use Rattle.xdg_problem.specs.Places.{nodes}
use Rattle.xdg_problem.specs.Problems.{IsGroup, IsProblem}
use Rattle.xdg_problem.specs.Vectors.{shape}
use Rattle.xdg_problem.proofs.PlaceOrder.{place_is}
use Rattle.xdg_rules.specs.Rules.{IsClosedFor, Takes}
use Rattle.xdg_rules.proofs.NodeValues.{attr_decided}
use Rattle.xdg_rules.proofs.RuleLaws.{rule_laws}
use Rattle.xdg_rules.proofs.Sizes.{edge_within, node_within}
use Rattle.xdg_store.specs.Change.{Removes, RemovesAll, Shrinks}
use Rattle.xdg_store.specs.InRange.{HasValue}
use Rattle.xdg_store.specs.States.{State, Known}
use Rattle.xdg_store.specs.declared.change.Change.{Change}
use Rattle.xdg_store.specs.declared.change.Change.TheVariants as changes
use Rattle.xdg_propcore.specs.Kinds.{kind_of, entry_kind, attr_kind, edge_kind}
use Rattle.xdg_propcore.specs.Losses.{IsLost, LosesKind}
use Rattle.xdg_propcore.specs.Passes.{Progress, Goes, Clears, EachValue, HasNoneClosed, IsQuiet, noted}
use Rattle.xdg_propcore.proofs.DecisionKinds.{kind_of_entry, kind_of_attr, kind_of_edge}
use Rattle.xdg_propcore.proofs.Settling.{extends_both, extends_none}
use Rattle.xdg_propcore.proofs.Shrinking.{lies_shrunk, one_removed, removal_extends, shrinks_keeps}
use Rattle.xdg_facts.proofs.Truths.{either}
use Rattle.xdg_facts.proofs.Bits.{or_new_bit, or_left_bit, bit_old}

-- ---- nothing is done

-- nothing is taken, whatever the progress says of boxes that are left
goes_still : (group : Group) (p q : Progress) (s : State) → q.lost ≡ p.lost → (q.dead ≡ true → (p.dead ≡ true) ⊎ HasNoneClosed s.parts group s.now) → (IsQuiet q → IsQuiet p) → Goes group p s q s
goes_still group p q s same dead quiet = record {
  extends = extends_none s;
  turns = refl;
  keeps = λ box is closed lies. lies;
  before = λ kind. subst (λ n. bit_at n kind ≡ 1) (sym same);
  each = λ d v l. absurd (l.1 l.0);
  only = λ kind h. inl (subst (λ n. bit_at n kind ≡ 1) same h);
  dead = dead;
  quiet = λ still. (quiet still, refl);
}

pub goes_none : (group : Group) (p : Progress) (s : State) → Goes group p s p s
goes_none group p s = goes_still group p p s refl (λ h. inl h) (λ still. still)

dead_goes : (group : Group) (p : Progress) (s : State) → HasNoneClosed s.parts group s.now → Goes group p s (noted changes.Emptied p 0) s
dead_goes group p s none = goes_still group p (noted changes.Emptied p 0) s refl (λ h. inr none) (λ still. (let e = still.1 in cc))

-- ---- one part of a step after another

module _ (group : Group) (p q r : Progress) (old mid new : State) (a : Goes group p old q mid) (b : Goes group q mid r new) where
  each_both : (d v : ℕ) → IsLost old.now new.now d v → bit_at r.lost (kind_of old.parts d) ≡ 1
  each_both d v l = elim (either (get_or (get_or mid.now d []) v false)) [
    | inl there ↦ subst (λ parts. bit_at r.lost (kind_of parts d) ≡ 1) a.extends.same (b.each d v (there, l.1))
    | inr gone ↦ b.before (kind_of old.parts d) (a.each d v (l.0, gone))
  ]

  only_both : (kind : ℕ) → bit_at r.lost kind ≡ 1 → (bit_at p.lost kind ≡ 1) ⊎ LosesKind old.parts old.now new.now kind
  only_both kind h = elim (b.only kind h) [
    | inl e ↦ elim (a.only kind e) [
      | inl z ↦ inl z
      | inr l ↦ inr (record { decision = l.decision; value = l.value; lost = (l.lost.0, λ n. l.lost.1 (b.extends.inside l.decision l.value n)); is = l.is })
    ]
    | inr l ↦ inr (record { decision = l.decision; value = l.value; lost = (a.extends.inside l.decision l.value l.lost.0, l.lost.1); is = subst (λ parts. kind_of parts l.decision ≡ kind) a.extends.same l.is })
  ]

  keeps_both : (box : List (List Bool)) → IsBox (shape old.parts) box → IsClosedFor old.parts group box → LiesIn box old.now → LiesIn box new.now
  keeps_both box is closed lies = b.keeps box (subst (λ parts. IsBox (shape parts) box) (sym a.extends.same) is) (subst (λ parts. IsClosedFor parts group box) (sym a.extends.same) closed) (a.keeps box is closed lies)

  dead_both : r.dead ≡ true → (p.dead ≡ true) ⊎ HasNoneClosed old.parts group old.now
  dead_both h = elim (b.dead h) [
    | inl e ↦ a.dead e
    | inr none ↦ inr (λ box is closed lies. none box (subst (λ parts. IsBox (shape parts) box) (sym a.extends.same) is) (subst (λ parts. IsClosedFor parts group box) (sym a.extends.same) closed) (a.keeps box is closed lies))
  ]

  pub goes_both : Goes group p old r new
  goes_both = record {
    extends = extends_both old mid new a.extends b.extends;
    turns = b.turns ∙ a.turns;
    keeps = keeps_both;
    before = λ kind h. b.before kind (a.before kind h);
    each = each_both;
    only = only_both;
    dead = dead_both;
    quiet = λ z. (let y = b.quiet z in let x = a.quiet y.0 in (x.0, y.1 ∙ x.1));
  }

-- ---- values of a decision are taken

never_quiet : (p : Progress) (kind : ℕ) → bit_or p.lost (2 ^ kind) ≡ 0 → ⊥
never_quiet p kind e = (let n = or_new_bit p.lost kind in let z = ap (λ m. bit_at m kind) e in let y = bit_at-zero kind in omega (arith, n, z, y))

module _ (group : Group) (p : Progress) (old new : State) (around : List (List Bool)) (d kind : ℕ) (Taken : ℕ → Type 0) (known : IsProblem old.parts) (is : IsGroup old.parts group) (lies : LiesIn old.now around) (takes : (v : ℕ) → Taken v → Takes old.parts group around d v) where
  -- no closed box inside has one of the values
  in_none : (box : List (List Bool)) → IsBox (shape old.parts) box → IsClosedFor old.parts group box → LiesIn box old.now → (v : ℕ) → Taken v → Has box d v → ⊥
  in_none box box_is closed inside v taken = (rule_laws old.parts known group is).monotone box around box_is (λ e x h. lies e x (inside e x h)) closed d v (takes v taken)

  only_one : Shrinks old new d Taken → (e x : ℕ) → IsLost old.now new.now e x → e ≡ d
  only_one s e x l = elim (cases_eq e d) [
    | inl same ↦ same
    | inr other ↦ absurd (l.1 (shrinks_keeps old new d Taken s e x l.0 (λ same taken. other same)))
  ]

  lost_some : kind_of old.parts d ≡ kind → ((v : ℕ) × Taken v × Has old.now d v) → Shrinks old new d Taken → Goes group p old (noted changes.Changed p (2 ^ kind)) new
  lost_some kind_is some s = record {
    extends = record { same = s.parts; more = new.now ∷ []; grown = s.grown; inside = s.inside };
    turns = s.turns;
    keeps = λ box box_is closed inside. lies_shrunk old new d Taken s box inside (in_none box box_is closed inside);
    before = λ k h. or_left_bit p.lost (2 ^ kind) k h;
    each = λ e x l. subst (λ i. bit_at (bit_or p.lost (2 ^ kind)) (kind_of old.parts i) ≡ 1) (sym (only_one s e x l)) (subst (λ k. bit_at (bit_or p.lost (2 ^ kind)) k ≡ 1) (sym kind_is) (or_new_bit p.lost kind));
    only = λ k h. elim (cases_eq k kind) [
      | inl same ↦ inr (record { decision = d; value = some.0; lost = (some.2, s.gone some.0 some.1); is = kind_is ∙ sym same })
      | inr other ↦ inl (bit_old p.lost kind k other h)
    ];
    dead = λ h. inl h;
    quiet = λ q. absurd (never_quiet p kind q.0);
  }

  -- they are all values of their decision
  lost_last : ((v : ℕ) → Has old.now d v → Taken v) → d < length (shape old.parts) → HasNoneClosed old.parts group old.now
  lost_last all within box box_is closed inside =
      let some = box_is.filled d within in
      in_none box box_is closed inside some.0 (all some.0 (inside d some.0 some.1)) some.1

-- values that are taken, from the box or from one around it
goes_taken : (change : Change) (group : Group) (p : Progress) (old new : State) (around : List (List Bool)) (d kind : ℕ) (Taken : ℕ → Type 0) → IsProblem old.parts → d < length (shape old.parts) → IsGroup old.parts group → kind_of old.parts d ≡ kind → RemovesAll change old new d Taken → LiesIn old.now around → ((v : ℕ) → Taken v → Takes old.parts group around d v) → Goes group p old (noted change p (2 ^ kind)) new
goes_taken changes.Same group p old new around d kind Taken known within is kind_is r lies takes = subst (λ s. Goes group p old p s) (sym r.1) (goes_none group p old)
goes_taken changes.Changed group p old new around d kind Taken known within is kind_is r lies takes = lost_some group p old new around d kind Taken known is lies takes kind_is r.0 r.1
goes_taken changes.Emptied group p old new around d kind Taken known within is kind_is r lies takes = subst (λ s. Goes group p old (noted changes.Emptied p 0) s) (sym r.1) (dead_goes group p old (lost_last group p old new around d kind Taken known is lies takes r.0 within))

-- they remain no more, unless no other value did
taken_out : (change : Change) (p : Progress) (old new : State) (d v kinds : ℕ) (Taken : ℕ → Type 0) → RemovesAll change old new d Taken → Taken v → Has new.now d v → (noted change p kinds).dead ≡ true
taken_out changes.Same p old new d v kinds Taken r taken h = absurd (r.0 v taken (subst (λ s. Has s.now d v) r.1 h))
taken_out changes.Changed p old new d v kinds Taken r taken h = absurd (r.1.gone v taken h)
taken_out changes.Emptied p old new d v kinds Taken r taken h = refl

quiet_taken : (change : Change) (p : Progress) (old new : State) (d kind : ℕ) (Taken : ℕ → Type 0) → RemovesAll change old new d Taken → IsQuiet (noted change p (2 ^ kind)) → IsQuiet p × (new.now ≡ old.now)
quiet_taken changes.Same p old new d kind Taken r q = (q, ap (λ (s : State). s.now) r.1)
quiet_taken changes.Changed p old new d kind Taken r q = absurd (never_quiet p kind q.0)
quiet_taken changes.Emptied p old new d kind Taken r q = (let e = q.1 in cc)

gone_taken : (change : Change) (p : Progress) (old new : State) (d v kinds : ℕ) (Taken : ℕ → Type 0) → RemovesAll change old new d Taken → IsQuiet (noted change p kinds) → Taken v → Has new.now d v → ⊥
gone_taken change p old new d v kinds Taken r q taken h = (let e = q.1 in let t = taken_out change p old new d v kinds Taken r taken h in cc)

-- values of one decision are cleared
clears_taken : (change : Change) (p q : Progress) (old new : State) (d kind kinds : ℕ) (Taken : ℕ → Type 0) → IsProblem old.parts → d < length (shape old.parts) → kind_of old.parts d ≡ kind → RemovesAll change old new d Taken → kinds ≡ 2 ^ kind → q ≡ noted change p kinds → Clears (λ e x. (e ≡ d) × Taken x) p old q new
clears_taken change p q old new d kind kinds Taken known within kind_is r kinds_is q_is =
    let progress : q ≡ noted change p (2 ^ kind) = q_is ∙ ap (noted change p) kinds_is in
    let extends = removal_extends change old new d Taken r in
    record {
      same = extends.same;
      inside = extends.inside;
      quiet = λ z. quiet_taken change p old new d kind Taken r (subst IsQuiet progress z);
      gone = λ z e x aim h. gone_taken change p old new d x (2 ^ kind) Taken r (subst IsQuiet progress z) aim.1 (subst (λ i. Has new.now i x) aim.0 h);
      goes = λ group around is lies takes. subst (λ z. Goes group p old z new) (sym progress) (goes_taken change group p old new around d kind Taken known within is kind_is r lies (λ v taken. takes d v (refl, taken)));
    }

-- the sentence was that of a problem before
known_before : (change : Change) (old new : State) (d : ℕ) (Taken : ℕ → Type 0) → RemovesAll change old new d Taken → Known new → IsProblem old.parts
known_before change old new d Taken r known = subst IsProblem (removal_extends change old new d Taken r).same known.problem

-- none of what is aimed at remains
pub clears_gone : (Aim : ℕ → ℕ → Type 0) (p : Progress) (s : State) → ((d v : ℕ) → Aim d v → Has s.now d v → ⊥) → Clears Aim p s p s
clears_gone Aim p s none = record {
  same = refl;
  inside = λ d v h. h;
  quiet = λ q. (q, refl);
  gone = λ q d v aim h. none d v aim h;
  goes = λ group around is lies takes. goes_none group p s;
}

-- nothing is aimed at
pub clears_none : (Aim : ℕ → ℕ → Type 0) (p : Progress) (s : State) → ((d v : ℕ) → Aim d v → ⊥) → Clears Aim p s p s
clears_none Aim p s none = clears_gone Aim p s (λ d v aim h. none d v aim)

-- more values, of which no other remains
pub clears_more : (A B : ℕ → ℕ → Type 0) (p q : Progress) (old new : State) → ((d v : ℕ) → A d v → B d v) → ((d v : ℕ) → B d v → Has old.now d v → A d v) → Clears A p old q new → Clears B p old q new
clears_more A B p q old new to from c = record {
  same = c.same;
  inside = c.inside;
  quiet = c.quiet;
  gone = λ z d v aim h. c.gone z d v (from d v aim (c.inside d v h)) h;
  goes = λ group around is lies takes. c.goes group around is lies (λ d v aim. takes d v (to d v aim));
}

-- the same values, told in another way
pub clears_like : (A B : ℕ → ℕ → Type 0) (p q : Progress) (old new : State) → ((d v : ℕ) → A d v → B d v) → ((d v : ℕ) → B d v → A d v) → Clears A p old q new → Clears B p old q new
clears_like A B p q old new to from = clears_more A B p q old new to (λ d v aim h. from d v aim)

-- some values, and then others
pub clears_both : (A B C : ℕ → ℕ → Type 0) (p q r : Progress) (old mid new : State) → ((d v : ℕ) → A d v → C d v) → ((d v : ℕ) → B d v → C d v) → ((d v : ℕ) → C d v → A d v ⊎ B d v) → Clears A p old q mid → Clears B q mid r new → Clears C p old r new
clears_both A B C p q r old mid new first second each a b = record {
  same = b.same ∙ a.same;
  inside = λ d v h. a.inside d v (b.inside d v h);
  quiet = λ z. (let y = b.quiet z in let x = a.quiet y.0 in (x.0, y.1 ∙ x.1));
  gone = λ z d v aim h. elim (each d v aim) [
    | inl x ↦ (let y = b.quiet z in a.gone y.0 d v x (subst (λ box. Has box d v) y.1 h))
    | inr x ↦ b.gone z d v x h
  ];
  goes = λ group around is lies takes. goes_both group p q r old mid new
      (a.goes group around is lies (λ d v x. takes d v (first d v x)))
      (b.goes group around (subst (λ parts. IsGroup parts group) (sym a.same) is) (λ d v h. lies d v (a.inside d v h)) (λ d v x. subst (λ parts. Takes parts group around d v) (sym a.same) (takes d v (second d v x))));
}

-- a value of an edge place
pub edge_clears : (change : Change) (p q : Progress) (old new : State) (e : Edge) (v kinds : ℕ) → Known new → IsPlace old.parts e → Removes change old new (edge_decision old.parts e) v → kinds ≡ 2 ^ edge_kind e.dim.0 → q ≡ noted change p kinds → Clears (λ d x. (d ≡ edge_decision old.parts e) × (x ≡ v)) p old q new
edge_clears change p q old new e v kinds known is r kinds_is q_is =
    let d = edge_decision old.parts e in
    let all = one_removed change old new d v r in
    let place = place_is old.parts e is in
    clears_taken change p q old new d (edge_kind e.dim.0) kinds (λ x. x ≡ v) (known_before change old new d (λ x. x ≡ v) all known) (edge_within old.parts e place) (kind_of_edge old.parts e place) all kinds_is q_is

-- candidates of a node
pub entry_clears : (change : Change) (p q : Progress) (old new : State) (node kinds : ℕ) (Taken : ℕ → Type 0) → Known new → node < nodes old.parts → RemovesAll change old new (entry_decision node) Taken → kinds ≡ 2 ^ entry_kind → q ≡ noted change p kinds → Clears (λ d x. (d ≡ entry_decision node) × Taken x) p old q new
entry_clears change p q old new node kinds Taken known within r kinds_is q_is =
    let problem = known_before change old new (entry_decision node) Taken r known in
    let each = problem.candidates_each in
    clears_taken change p q old new (entry_decision node) entry_kind kinds Taken problem (node_within old.parts node problem within) (kind_of_entry old.parts node (omega (arith, each, within))) r kinds_is q_is

-- a value of a node's attribute
pub attr_clears : (change : Change) (p q : Progress) (old new : State) (node dim attr v kinds : ℕ) → Known new → HasValue old.parts node dim attr v → Removes change old new (attr_decision old.parts dim node attr) v → kinds ≡ 2 ^ attr_kind dim → q ≡ noted change p kinds → Clears (λ d x. (d ≡ attr_decision old.parts dim node attr) × (x ≡ v)) p old q new
attr_clears change p q old new node dim attr v kinds known is r kinds_is q_is =
    let d = attr_decision old.parts dim node attr in
    let all = one_removed change old new d v r in
    clears_taken change p q old new d (attr_kind dim) kinds (λ x. x ≡ v) (known_before change old new d (λ x. x ≡ v) all known) (attr_decided old.parts dim node attr is.dim_in is.node_in is.attr_in) (kind_of_attr old.parts dim node attr is.dim_in is.node_in is.attr_in) all kinds_is q_is

-- what is cleared from a box is taken from it
pub goes_cleared : (group : Group) (p q : Progress) (old new : State) (d v : ℕ) → Clears (λ e x. (e ≡ d) × (x ≡ v)) p old q new → IsGroup old.parts group → Takes old.parts group old.now d v → Goes group p old q new
goes_cleared group p q old new d v c is takes = c.goes group old.now is (λ e x h. h) (λ e x aim. subst (λ i. Takes old.parts group old.now i x) (sym aim.0) (subst (λ y. Takes old.parts group old.now d y) (sym aim.1) takes))

-- each value is taken
pub goes_failed : (group : Group) (p : Progress) (s : State) → Known s → IsGroup s.parts group → ((d v : ℕ) → Has s.now d v → Takes s.parts group s.now d v) → Goes group p s (noted changes.Emptied p 0) s
goes_failed group p s known is all = dead_goes group p s (λ box box_is closed lies. (rule_laws s.parts known.problem group is).none_left box s.now box_is lies closed all)

pub clears_failed : (p q : Progress) (s : State) → Known s → q ≡ noted changes.Emptied p 0 → Clears EachValue p s q s
clears_failed p q s known q_is = record {
  same = refl;
  inside = λ d v h. h;
  quiet = λ z. absurd (let e : true ≡ false = ap (λ (y : Progress). y.dead) (sym q_is) ∙ z.1 in cc);
  gone = λ z d v aim h. (let e : true ≡ false = ap (λ (y : Progress). y.dead) (sym q_is) ∙ z.1 in cc);
  goes = λ group around is lies takes. subst (λ z. Goes group p s z s) (sym q_is) (dead_goes group p s (λ box box_is closed inside. (rule_laws s.parts known.problem group is).none_left box around box_is (λ d v h. lies d v (inside d v h)) closed (λ d v h. takes d v tt)));
}
