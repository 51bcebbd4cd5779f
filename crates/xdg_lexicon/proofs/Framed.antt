-- What is open while a body is denoted, step by step.
use Rattle.std.proofs.Common.{◌≡◌, ℕ, ◌<◌, ◌≤◌, ◌+◌, List, [], ◌∷◌, ◌++◌, length, get_or, reverse, refl, ap, sym, ◌∙◌, arith, subst}
use Rattle.std.proofs.lemmas.List.{reverse-append}
use Rattle.xdg_ast.specs.declared.names.Name.{Name}
use Rattle.xdg_ast.specs.declared.expressions.ExprKind.{ExprKind}
use Rattle.xdg_ast.specs.declared.expressions.ExprKind.TheVariants as v
use Rattle.xdg_classes.specs.Bodies.{Pairs, Expr, Body, either, both, calling, given, body}
use Rattle.xdg_classes.proofs.Bodied.{trees, body_or, body_and}
use Rattle.xdg_check.specs.Checked.{Parts, named_bodies}
use Rattle.std.specs.Prelude.{Option}
use Rattle.xdg_lexicon.specs.declared.frames.Scope.{Scope}
use Rattle.xdg_lexicon.specs.declared.frames.Frame.{Frame}
use Rattle.xdg_lexicon.specs.declared.frames.Frame.TheVariants as frame
use Rattle.xdg_lexicon.specs.declared.frames.Walk.{Walk}
use Rattle.xdg_lexicon.specs.Denotes.{JoinsAll, Denotes, IsRanked}
use Rattle.xdg_lexicon.specs.Frames.{Stands, EitherSoFar, BothSoFar, IsListing, IsJoining, IsOpen, open_in, Enters, Leaves}
use Rattle.xdg_lexicon.specs.Partial.{Partial, IsPartial, ArePartial, nothing}
use Rattle.xdg_lexicon.specs.Right.{IsRightUnder}
use Rattle.xdg_lexicon.specs.Weights.{heavy, sized, weigh}
use Rattle.xdg_lexicon.proofs.Denoted.{of_use, either_begun, either_further, either_denotes, both_begun, both_further, both_denotes}
use Rattle.xdg_lexicon.proofs.Joining.{are_all}
use Rattle.xdg_lexicon.proofs.Settled.{calls_at, part_right}
use Rattle.xdg_lexicon.proofs.Weighed.{IsLighter}

-- ---- the stack

pub pushed : (new old : List Frame) (f : Frame) → new ≡ old ++ f ∷ [] → reverse new ≡ f ∷ reverse old
pushed new old f is = ap reverse is ∙ reverse-append old (f ∷ [])

pub popped : (old new : List Frame) (f g : Frame) → old ≡ new ++ f ∷ [] → f ≡ g → reverse old ≡ g ∷ reverse new
popped old new f g is same = pushed old new g (is ∙ ap (λ h. new ++ h ∷ []) same)

-- a body that is entered with one more open around it
pub opened : {checked : Parts} {whole : Body} {scope : Scope} {b : Body} {new : List Frame} (old : List Frame) (f : Frame) → new ≡ old ++ f ∷ [] → Stands checked scope b → IsOpen checked whole (f ∷ reverse old) scope b
    → Enters checked whole (reverse new) scope b
opened {checked} {whole} {scope} {b} {new} old f is stands around = record { stands = stands; around = subst (λ fs. IsOpen checked whole fs scope b) (sym (pushed new old f is)) around }

-- ---- parts

module _ (checked : Parts) (scope : Scope) (items : List Expr) where
  pub part_stands : (i : ℕ) (e : Expr) → i < length items → e ≡ get_or items i e → Stands checked scope (either (trees items)) → Stands checked scope (body e.kind)
  part_stands i e within at h = record {
    within = h.within;
    ranked = λ call used. h.ranked call (calls_at items i e within at call used);
    right = part_right checked.types checked.classes scope.bindings items i e within at h.right;
  }

  -- nothing is wrong in the members of a conjunction, as if they were those of a disjunction
  pub parts_stand : Stands checked scope (both (trees items)) → Stands checked scope (either (trees items))
  parts_stand h = record {
    within = h.within;
    ranked = h.ranked;
    right = record { said = h.right.said; bound = h.right.bound; given = h.right.given };
  }

-- ---- going in

module _ {checked : Parts} {whole : Body} {frames : List Frame} {scope : Scope} (kind : ExprKind) {es items : List Expr} (same : items ≡ es) (h : Enters checked whole frames scope (body kind)) where
  pub or_parts : kind ≡ v.Or es → Stands checked scope (either (trees items)) × IsOpen checked whole frames scope (either (trees items))
  or_parts is =
      let tree = ap body is ∙ body_or es ∙ ap (λ l. either (trees l)) (sym same) in
      (subst (Stands checked scope) tree h.stands, subst (IsOpen checked whole frames scope) tree h.around)

  pub and_parts : kind ≡ v.And es → Stands checked scope (either (trees items)) × IsOpen checked whole frames scope (both (trees items))
  and_parts is =
      let tree = ap body is ∙ body_and es ∙ ap (λ l. both (trees l)) (sym same) in
      (parts_stand checked scope items (subst (Stands checked scope) tree h.stands), subst (IsOpen checked whole frames scope) tree h.around)

  pub first_listed : (e : Expr) (listed : List Partial) → kind ≡ v.Or es → 0 < length items → e ≡ get_or items 0 e → listed ≡ [] → IsListing checked scope items 0 listed (body e.kind)
  first_listed e listed is some at none = record {
    open_at = record { member = e; within = some; stands = at; is = refl };
    so_far = either_begun checked scope.bindings items 0 listed none;
    partial = subst (ArePartial checked.types.dims) (sym none) tt;
    parts = (or_parts is).0;
  }

  pub last_joined : (e : Expr) (last : ℕ) (p : Partial) (joined : List Partial) → kind ≡ v.And es → last + 1 ≡ length items → e ≡ get_or items last e → p ≡ nothing checked.types.dims → IsPartial checked.types.dims p → joined ≡ p ∷ []
      → IsJoining checked scope items last joined (body e.kind)
  last_joined e last p joined is long at none right one = record {
    open_at = record { member = e; within = omega (arith, long); stands = at; is = refl };
    so_far = subst (λ n. BothSoFar checked scope.bindings items n joined) (sym long) (both_begun checked scope.bindings items p joined none one (right, tt));
    parts = (and_parts is).0;
  }

  pub nothing_listed : (made : List Partial) → kind ≡ v.Or es → length items ≡ 0 → made ≡ [] → Leaves checked whole frames scope made
  nothing_listed made is empty none = record {
    part = either (trees items);
    denotes = either_denotes checked scope.bindings items 0 made (omega (arith, empty)) (either_begun checked scope.bindings items 0 made none);
    partial = subst (ArePartial checked.types.dims) (sym none) tt;
    around = (or_parts is).1;
  }

  pub nothing_joined : (p : Partial) (made : List Partial) → kind ≡ v.And es → length items ≡ 0 → p ≡ nothing checked.types.dims → IsPartial checked.types.dims p → made ≡ p ∷ [] → Leaves checked whole frames scope made
  nothing_joined p made is empty none right one = record {
    part = both (trees items);
    denotes = both_denotes checked scope.bindings items (length items) made empty (both_begun checked scope.bindings items p made none one (right, tt));
    partial = subst (ArePartial checked.types.dims) (sym one) (right, tt);
    around = (and_parts is).1;
  }

-- a use, whose class has the body further in
pub use_entered : (checked : Parts) (whole : Body) (frames : List Frame) (scope inside : Scope) (kind : ExprKind) (name : Name) (args : Option Pairs) (lent : Pairs) (b : Body) → kind ≡ v.Use name args → lent ≡ given args → Enters checked whole frames scope (body kind) → Stands checked inside b
    → ((ms : List Partial) → Denotes checked.types.dims (named_bodies checked.classes) inside.bindings b ms → Denotes checked.types.dims (named_bodies checked.classes) scope.bindings (calling name lent) ms) → Enters checked whole (frame.Using scope ∷ frames) inside b
use_entered checked whole frames scope inside kind name args lent b is same h stands means = record {
  stands = stands;
  around = (body kind, ((λ ms d. of_use (λ u. Denotes checked.types.dims (named_bodies checked.classes) scope.bindings u ms) kind name args lent is same (means ms d)), h.around));
}

-- ---- going out of a disjunction

module _ {checked : Parts} (whole : Body) (frames : List Frame) {scope : Scope} {items : List Expr} {place : ℕ} {listed made new : List Partial}
    {b : Body} (d : Denotes checked.types.dims (named_bodies checked.classes) scope.bindings b made) (right : ArePartial checked.types.dims made)
    (l : IsListing checked scope items place listed b) (around : IsOpen checked whole frames scope (either (trees items))) (grown : new ≡ listed ++ made) where
  listed_more : EitherSoFar checked scope.bindings items (place + 1) new
  listed_more =
      let m = l.open_at in
      either_further checked scope.bindings items place listed m.member made new m.within m.stands grown (subst (λ part. Denotes checked.types.dims (named_bodies checked.classes) scope.bindings part made) m.is d) l.so_far

  listed_right : ArePartial checked.types.dims new
  listed_right = subst (ArePartial checked.types.dims) (sym grown) (are_all checked.types.dims listed made l.partial right)

  pub all_listed : place + 1 ≡ length items → Leaves checked whole frames scope new
  all_listed past = record {
    part = either (trees items);
    denotes = either_denotes checked scope.bindings items (place + 1) new (omega (arith, past)) listed_more;
    partial = listed_right;
    around = around;
  }

  pub next_listed : (e : Expr) → place + 1 < length items → e ≡ get_or items (place + 1) e → Stands checked scope (body e.kind) × IsListing checked scope items (place + 1) new (body e.kind)
  next_listed e within at = (
    part_stands checked scope items (place + 1) e within at l.parts,
    record { open_at = record { member = e; within = within; stands = at; is = refl }; so_far = listed_more; partial = listed_right; parts = l.parts },
  )

-- ---- going out of a conjunction

module _ {checked : Parts} (whole : Body) (frames : List Frame) {scope : Scope} {items : List Expr} {place : ℕ} {joined made new : List Partial}
    {b : Body} (d : Denotes checked.types.dims (named_bodies checked.classes) scope.bindings b made)
    (l : IsJoining checked scope items place joined b) (around : IsOpen checked whole frames scope (both (trees items))) (joins : JoinsAll checked.types.dims made joined new) (right : ArePartial checked.types.dims new) where
  joined_more : BothSoFar checked scope.bindings items place new
  joined_more =
      let m = l.open_at in
      both_further checked scope.bindings items place m.member made joined new m.within m.stands (subst (λ part. Denotes checked.types.dims (named_bodies checked.classes) scope.bindings part made) m.is d) l.so_far joins right

  pub all_joined : place ≡ 0 → Leaves checked whole frames scope new
  all_joined past = record {
    part = both (trees items);
    denotes = both_denotes checked scope.bindings items place new past joined_more;
    partial = right;
    around = around;
  }

  pub next_joined : (e : Expr) (next : ℕ) → next + 1 ≡ place → e ≡ get_or items next e → Stands checked scope (body e.kind) × IsJoining checked scope items next new (body e.kind)
  next_joined e next before at =
      let inside : next < length items = (let w = l.open_at.within in omega (arith, before, w)) in (
        part_stands checked scope items next e inside at l.parts,
        record { open_at = record { member = e; within = inside; stands = at; is = refl }; so_far = subst (λ n. BothSoFar checked scope.bindings items n new) (sym before) joined_more; parts = l.parts },
      )

-- ---- the walk

-- a body is still to be denoted, and with it no more is to be visited than there was
pub record Going (checked : Parts) (whole : Body) (most : ℕ) (walk : Walk) (b : Body) : Type 0 where
  pub enters : Enters checked whole (open_in walk) walk.scope b
  pub same : body walk.whole.now ≡ whole
  pub lighter : heavy checked (open_in walk) walk.scope.depth + weigh (sized checked walk.scope.depth) b ≤ most

pub further : {checked : Parts} {whole : Body} {most : ℕ} {old : Walk} {b : Body} (new : Walk) (f : Frame) (part : Body) → Going checked whole most old b → open_in new ≡ f ∷ open_in old → body new.whole.now ≡ whole
    → Enters checked whole (f ∷ open_in old) new.scope part
    → IsLighter (weigh (sized checked new.scope.depth) part) (weigh (sized checked old.scope.depth) b) (heavy checked (f ∷ open_in old) new.scope.depth) (heavy checked (open_in old) old.scope.depth) → Going checked whole most new part
further {checked} {whole} {most} {old} {b} new f part g opened same enters light = record {
  enters = subst (λ fs. Enters checked whole fs new.scope part) (sym opened) enters;
  same = same;
  lighter =
      let h : heavy checked (open_in new) new.scope.depth ≡ heavy checked (f ∷ open_in old) new.scope.depth = ap (λ fs. heavy checked fs new.scope.depth) opened in
      let most_was = g.lighter in
      let falls = light.1 in
      omega (arith, h, most_was, falls);
}

-- ---- the first and the last

pub begun : (checked : Parts) (whole : Body) (frames : List Frame) (scope : Scope) → frames ≡ [] → scope.bindings ≡ [] → scope.depth ≤ length checked.order → IsRanked checked scope.depth whole → IsRightUnder checked.types checked.classes [] whole
    → Enters checked whole (reverse frames) scope whole
begun checked whole frames scope none unbound within ranked right = record {
  stands = record { within = within; ranked = ranked; right = subst (λ bs. IsRightUnder checked.types checked.classes bs whole) (sym unbound) right };
  around = subst (λ fs. IsOpen checked whole (reverse fs) scope whole) (sym none) (λ ms d. subst (λ bs. Denotes checked.types.dims (named_bodies checked.classes) bs whole ms) unbound d);
}

pub ended : (checked : Parts) (whole : Body) (frames : List Frame) (scope : Scope) (ms : List Partial) → length frames ≡ 0 → Leaves checked whole (reverse frames) scope ms → Denotes checked.types.dims (named_bodies checked.classes) [] whole ms × ArePartial checked.types.dims ms
ended checked whole [] scope ms none l = (l.around ms l.denotes, l.partial)
ended checked whole (f ∷ fs) scope ms none l = absurd (omega (arith, none))
