use Rattle.std.proofs.Common.{◌≡◌, ◌<◌, ◌+◌, ◌-◌, ◌∙◌, ◌∷◌, length, get_or, reverse, arith, ap, sym, subst}
use Rattle.std.proofs.lemmas.List.{get_or_default}
use Rattle.xdg_classes.specs.Bodies.{Expr, body}
use Rattle.xdg_lexicon.specs.declared.frames.Scope.{Scope}
use Rattle.xdg_lexicon.specs.declared.frames.Frame.TheVariants as frame
use Rattle.xdg_lexicon.specs.Denotes.{IsRanked}
use Rattle.xdg_lexicon.specs.Frames.{open_in, Enters}
use Rattle.xdg_lexicon.specs.Partial.{ArePartial, IsPartial, SaysRecord, nothing}
use Rattle.xdg_lexicon.specs.Right.{AreRight, IsRightUnder}
use Rattle.xdg_lexicon.specs.Weights.{heavy, sized, weigh}
use Rattle.xdg_lexicon.proofs.Denoted.{record_denotes, as_use}
use Rattle.xdg_lexicon.proofs.Framed.{pushed, part_stands, or_parts, and_parts, first_listed, last_joined, nothing_listed, nothing_joined, use_entered, further}
use Rattle.xdg_lexicon.proofs.Settled.{record_right}
use Rattle.xdg_lexicon.proofs.Weighed.{IsLighter, or_lighter, and_lighter, use_lighter}
use Rattle.xdg_lexicon.proofs.frames.Walk.enter.Goals.{After-dims-dims, Else-is_empty-2}
use Rattle.xdg_lexicon.proofs.frames.Walk.enter.Goals as goal
use Rattle.xdg_facts.specs.Membership.{In}
use Rattle.xdg_facts.proofs.Numbers.{is_none, is_some}

-- the dimensions are those of the table
dims_are : (c : After-dims-dims) → c.dims-dims.result.now ≡ c.args.checked.now.types.dims
dims_are c = c.dims-dims.ensures.same ∙ ap (λ ty. ty.dims) c.types.ensures.same

-- ---- disjunctions

pub returns-then-is_empty-clause-leaves : goal.returns-then-is_empty-clause-leaves
returns-then-is_empty-clause-leaves c =
    nothing_listed _ c.as_slice-members.ensures c.down.invariant.enters c.new.result.items c.in-Or.is (is_none _ c.is_empty.result c.is_empty.ensures c.if-is_empty.true) c.new.ensures.items

pub bounds-members-0 : goal.bounds-members-0
bounds-members-0 c = is_some _ c.is_empty.result c.is_empty.ensures c.if-is_empty.false

pub down-smaller-in-Or : goal.down-smaller-in-Or
down-smaller-in-Or c =
    let items = c.as_slice-members.result.now in
    let some = is_some _ c.is_empty.result c.is_empty.ensures c.if-is_empty.false in
    let e : Expr = get_or items 0 c.index-members-0.result in
    let at : e ≡ get_or items 0 e = get_or_default items 0 c.index-members-0.result e some in
    (or_lighter (sized c.args.checked.now c.down.self.scope.depth) c.down.kind.now c.in-Or.members items e c.as_slice-members.ensures 0 c.in-Or.is some at).0

pub down-preserved-in-Or : goal.down-preserved-in-Or
down-preserved-in-Or c =
    let walk = c.down.self in
    let items = c.as_slice-members.result.now in
    let same = c.as_slice-members.ensures in
    let some = is_some _ c.is_empty.result c.is_empty.ensures c.if-is_empty.false in
    let e : Expr = get_or items 0 c.index-members-0.result in
    let at : e ≡ get_or items 0 e = get_or_default items 0 c.index-members-0.result e some in
    let parts = or_parts c.down.kind.now same c.down.invariant.enters c.in-Or.is in
    further _ (frame.Listing c.as_slice-members.result 0 c.new-none.result) (body e.kind) c.down.invariant (pushed c.add.new.frames.items walk.frames.items _ c.in_ok-add-in-Or.ensures) c.down.invariant.same
    (record {
      stands = part_stands c.args.checked.now walk.scope items 0 e some at parts.0;
      around = (first_listed c.down.kind.now same c.down.invariant.enters e c.new-none.result.items c.in-Or.is some at c.new-none.ensures.items, parts.1);
    })
    (or_lighter (sized c.args.checked.now walk.scope.depth) c.down.kind.now c.in-Or.members items e same (heavy c.args.checked.now (open_in walk) walk.scope.depth) c.in-Or.is some at)

-- ---- conjunctions

pub returns-then-is_empty-2-clause-leaves : goal.returns-then-is_empty-2-clause-leaves
returns-then-is_empty-2-clause-leaves c =
    let dims = dims_are (goal.at.returns-then-is_empty-2-clause-leaves c).After-dims-dims in
    nothing_joined _ c.as_slice-members-in-And.ensures c.down.invariant.enters c.in_ok-say_nothing-in-And.field-0 c.in_ok-nothing-in-And.nothing.items c.in-And.is
    (is_none _ c.is_empty-in-And.result c.is_empty-in-And.ensures c.if-is_empty-2.true) (c.in_ok-say_nothing-in-And.ensures.same ∙ ap nothing dims) (rw dims at c.in_ok-say_nothing-in-And.ensures.partial) c.in_ok-nothing-in-And.ensures

-- it has members
some : (c : Else-is_empty-2) → 0 < length c.as_slice-members-in-And.result.now
some c = is_some _ c.is_empty-in-And.result c.is_empty-in-And.ensures c.if-is_empty-2.false

pub overflow_sub-last : goal.overflow_sub-last
overflow_sub-last c = omega (arith, some (goal.at.overflow_sub-last c).Else-is_empty-2)

pub bounds-members-last : goal.bounds-members-last
bounds-members-last c = omega (arith, some (goal.at.bounds-members-last c).Else-is_empty-2)

pub offset_bounds-members-last : goal.offset_bounds-members-last
offset_bounds-members-last c = omega (arith, some (goal.at.offset_bounds-members-last c).Else-is_empty-2, c.as_slice-members-in-And.type_inv.1)

pub down-smaller-in-And : goal.down-smaller-in-And
down-smaller-in-And c =
    let items = c.as_slice-members-in-And.result.now in
    let last = length items - 1 in
    let long : last + 1 ≡ length items = omega (arith, some (goal.at.down-smaller-in-And c).Else-is_empty-2) in
    let e : Expr = get_or items last c.index-members-last.result in
    let at : e ≡ get_or items last e = get_or_default items last c.index-members-last.result e (omega (arith, long)) in
    (and_lighter (sized c.args.checked.now c.down.self.scope.depth) c.down.kind.now c.in-And.members items e c.as_slice-members-in-And.ensures 0 last c.in-And.is long at).0

pub down-preserved-in-And : goal.down-preserved-in-And
down-preserved-in-And c =
    let dims = dims_are (goal.at.down-preserved-in-And c).After-dims-dims in
    let walk = c.down.self in
    let items = c.as_slice-members-in-And.result.now in
    let same = c.as_slice-members-in-And.ensures in
    let last = length items - 1 in
    let long : last + 1 ≡ length items = omega (arith, some (goal.at.down-preserved-in-And c).Else-is_empty-2) in
    let inside : last < length items = omega (arith, long) in
    let e : Expr = get_or items last c.index-members-last.result in
    let at : e ≡ get_or items last e = get_or_default items last c.index-members-last.result e inside in
    let parts = and_parts c.down.kind.now same c.down.invariant.enters c.in-And.is in
    further _ (frame.Joining c.as_slice-members-in-And.result last c.in_ok-nothing-in-And.nothing) (body e.kind) c.down.invariant (pushed c.add-in-And.new.frames.items walk.frames.items _ c.in_ok-add-in-And.ensures) c.down.invariant.same
    (record {
      stands = part_stands c.args.checked.now walk.scope items last e inside at parts.0;
      around = (
        last_joined c.down.kind.now same c.down.invariant.enters e last c.in_ok-say_nothing-in-And.field-0 c.in_ok-nothing-in-And.nothing.items c.in-And.is long at (c.in_ok-say_nothing-in-And.ensures.same ∙ ap nothing dims)
            (rw dims at c.in_ok-say_nothing-in-And.ensures.partial) c.in_ok-nothing-in-And.ensures,
        parts.1,
      );
    })
    (and_lighter (sized c.args.checked.now walk.scope.depth) c.down.kind.now c.in-And.members items e same (heavy c.args.checked.now (open_in walk) walk.scope.depth) last c.in-And.is long at)

-- ---- records

pub read_partial-requires-clause-right : goal.read_partial-requires-clause-right
read_partial-requires-clause-right c dim stands named =
    let dims = dims_are (goal.at.read_partial-requires-clause-right c).After-dims-dims in
    subst (AreRight c.down.self.scope.bindings dim.fields) (sym c.as_slice.ensures)
    (record_right c.args.checked.now.types c.args.checked.now.classes c.down.self.scope.bindings c.down.kind.now c.in-Dim.dim c.in-Dim.pairs dim c.types.ensures.keeps.types c.down.invariant.enters.stands.right c.in-Dim.is (subst (λ ds. In ds dim) dims stands) (named ∙ c.as_str-name.ensures))

pub returns-in-Dim-clause-leaves : goal.returns-in-Dim-clause-leaves
returns-in-Dim-clause-leaves c =
    let dims = dims_are (goal.at.returns-in-Dim-clause-leaves c).After-dims-dims in
    record {
      part = body c.down.kind.now;
      denotes =
          record_denotes c.args.checked.now c.down.self.scope.bindings c.down.kind.now c.in-Dim.dim c.in-Dim.pairs c.as_slice.result.now c.as_str-name.result.now _ c.in_ok-one_partial-in-Dim.field-0.items c.in-Dim.is c.as_str-name.ensures c.as_slice.ensures
          c.in_ok-one_partial-in-Dim.ensures (subst (λ ds. SaysRecord ds c.down.self.scope.bindings c.as_str-name.result.now c.as_slice.result.now c.in_ok-said-in-Dim.said) dims c.in_ok-said-in-Dim.ensures.says);
      partial =
          subst (ArePartial c.args.checked.now.types.dims) (sym c.in_ok-one_partial-in-Dim.ensures) (subst (λ ds. IsPartial ds c.in_ok-said-in-Dim.said) dims c.in_ok-said-in-Dim.ensures.partial, tt);
      around = c.down.invariant.enters.around;
    }

-- ---- uses

pub follow-requires-clause-ranked : goal.follow-requires-clause-ranked
follow-requires-clause-ranked c = as_use (IsRanked c.args.checked.now c.down.self.scope.depth) c.down.kind.now c.in-Use.name c.in-Use.args c.args_of-args.result.now c.in-Use.is c.args_of-args.ensures c.down.invariant.enters.stands.ranked

pub follow-requires-clause-right : goal.follow-requires-clause-right
follow-requires-clause-right c =
    as_use (IsRightUnder c.args.checked.now.types c.args.checked.now.classes c.down.self.scope.bindings) c.down.kind.now c.in-Use.name c.in-Use.args c.args_of-args.result.now c.in-Use.is c.args_of-args.ensures c.down.invariant.enters.stands.right

pub down-smaller : goal.down-smaller
down-smaller c =
    let checked = c.args.checked.now in
    let used = c.in_ok-used-in-Use.used in
    let light = use_lighter (sized checked c.down.self.scope.depth) c.down.kind.now c.in-Use.name c.in-Use.args c.args_of-args.result.now (weigh (sized checked used.scope.depth) (body used.body.now)) 0 c.in-Use.is c.args_of-args.ensures c.in_ok-used-in-Use.ensures.lighter in
    subst (λ (s : Scope). weigh (sized checked s.depth) (body used.body.now) < weigh (sized checked c.down.self.scope.depth) (body c.down.kind.now)) (sym c.replace-outside.ensures.after) light.0

pub down-preserved : goal.down-preserved
down-preserved c =
    let checked = c.args.checked.now in
    let whole = body c.args.self.now.whole.now in
    let walk = c.down.self in
    let used = c.in_ok-used-in-Use.used in
    let part = body used.body.now in
    let opened : reverse c.add-in-Use.new.frames.items ≡ frame.Using walk.scope ∷ open_in walk =
    pushed c.add-in-Use.new.frames.items walk.frames.items (frame.Using c.replace-outside.result) c.in_ok-add-in-Use.ensures ∙ ap (λ (s : Scope). frame.Using s ∷ open_in walk) c.replace-outside.ensures.value in
    let enters = use_entered checked whole (open_in walk) walk.scope used.scope c.down.kind.now c.in-Use.name c.in-Use.args c.args_of-args.result.now part c.in-Use.is c.args_of-args.ensures c.down.invariant.enters c.in_ok-used-in-Use.ensures.stands c.in_ok-used-in-Use.ensures.means in
    let light = use_lighter (sized checked walk.scope.depth) c.down.kind.now c.in-Use.name c.in-Use.args c.args_of-args.result.now (weigh (sized checked used.scope.depth) part) (heavy checked (open_in walk) walk.scope.depth) c.in-Use.is c.args_of-args.ensures c.in_ok-used-in-Use.ensures.lighter in
    further (record { whole = walk.whole; scope = c.replace-outside.new.dest; frames = c.add-in-Use.new.frames }) (frame.Using walk.scope) part c.down.invariant opened c.down.invariant.same
    (subst (λ (s : Scope). Enters checked whole (frame.Using walk.scope ∷ open_in walk) s part) (sym c.replace-outside.ensures.after) enters)
    (subst (λ (s : Scope). IsLighter (weigh (sized checked s.depth) part) (weigh (sized checked walk.scope.depth) (body c.down.kind.now)) (1 + heavy checked (open_in walk) walk.scope.depth) (heavy checked (open_in walk) walk.scope.depth)) (sym c.replace-outside.ensures.after) light)
