-- A bound takes nothing back: what is boxed with further principle uses is boxed without them.
use Rattle.std.proofs.Common.{ℕ, inl, inr, Bool, true, false, List, ◌++◌}
use Rattle.std.specs.Prelude.{not}
use Rattle.std.proofs.lemmas.List.Elements.{All-weaker}
use Rattle.xdg_problem.specs.declared.parts.Group.{Group}
use Rattle.xdg_problem.specs.declared.parts.Linking.{Linking}
use Rattle.xdg_problem.specs.declared.parts.Parts.{Parts}
use Rattle.xdg_problem.specs.declared.parts.Principle.{Principle}
use Rattle.xdg_problem.specs.declared.parts.Principle.TheVariants as principles
use Rattle.xdg_problem.specs.Claims.{Claim, negation, conjunction, disjunction, every, some, Claims, none, claim_then, claim}
use Rattle.xdg_problem.specs.Further.{with_uses}
use Rattle.xdg_problem.specs.Tests.{Test}
use Rattle.xdg_rules.specs.Boxed.{Boxed}
use Rattle.xdg_rules.specs.Worths.{Makes, MakesEach, MakesSome}
use Rattle.xdg_problem.specs.Truths.{unbound}
use Rattle.xdg_problem.specs.Principles.{linking_of, way_in}
use Rattle.xdg_rules.specs.Rules.{TestDecided, FailsTest, NoCycle, LinkingReach, TakesForRoot, TakesBy, Takes, IsClosedFor, IsClosed}
use Rattle.xdg_facts.proofs.Lists.{all_before}

module _ (parts : Parts) (uses : List Group) where
  -- ---- the rules take as much

  test_decided : (group : Group) (box : List (List Bool)) (test : Test) → TestDecided parts group box test → TestDecided (with_uses parts uses) group box test
  test_decided group box test r = record { entry = r.entry; attrs = r.attrs; edges = r.edges }

  fails_test : (group : Group) (box : List (List Bool)) → FailsTest parts group box → FailsTest (with_uses parts uses) group box
  fails_test group box r = record { test = r.test; is = r.is; decided = test_decided group box r.test r.decided; fails = r.fails }

  no_cycle : (group : Group) (box : List (List Bool)) (d v : ℕ) → NoCycle parts group box d v → NoCycle (with_uses parts uses) group box d v
  no_cycle group box d v r = record { place = r.place; is = r.is; says = r.says; back = r.back }

  linking_reach : (way : Linking) (group : Group) (box : List (List Bool)) (d v : ℕ) → LinkingReach parts group box way d v → LinkingReach (with_uses parts uses) group box way d v
  linking_reach way group box d v r = record { place = r.place; is = r.is; says = r.says; links = r.links; apart = r.apart }

  for_root : (group : Group) (box : List (List Bool)) (d v : ℕ) → TakesForRoot parts group box d v → TakesForRoot (with_uses parts uses) group box d v
  for_root group box d v (inl r) = inl (record { place = r.place; is = r.is; says = r.says; root = r.root })
  for_root group box d v (inr (inl r)) = inr (inl r)
  for_root group box d v (inr (inr (inl r))) = inr (inr (inl (record { place = r.place; may = r.may; says = r.says; only = r.only; other = r.other; root = r.root })))
  for_root group box d v (inr (inr (inr r))) = inr (inr (inr r))

  -- a box makes a claim true or false all the same
  mutual
    makes : (box : List (List Bool)) (c : Claim) (truth : Bool) (b : ℕ → ℕ) → Makes parts box c truth b → Makes (with_uses parts uses) box c truth b
    makes box (negation c) truth b m = makes box c (not truth) b m
    makes box (conjunction cs) true b m = makes_each box cs true b m
    makes box (conjunction cs) false b m = makes_some box cs false b m
    makes box (disjunction cs) true b m = makes_some box cs true b m
    makes box (disjunction cs) false b m = makes_each box cs false b m
    makes box (every name c) true b m = λ node within. makes box c true _ (m node within)
    makes box (every name c) false b m = (m.0, m.1, makes box c false _ m.2)
    makes box (some name c) true b m = (m.0, m.1, makes box c true _ m.2)
    makes box (some name c) false b m = λ node within. makes box c false _ (m node within)
    makes box c true b m = m
    makes box c false b m = m

    makes_each : (box : List (List Bool)) (cs : Claims) (truth : Bool) (b : ℕ → ℕ) → MakesEach parts box cs truth b → MakesEach (with_uses parts uses) box cs truth b
    makes_each box none truth b m = m
    makes_each box (claim_then c cs) truth b m = (makes box c truth b m.0, makes_each box cs truth b m.1)

    makes_some : (box : List (List Bool)) (cs : Claims) (truth : Bool) (b : ℕ → ℕ) → MakesSome parts box cs truth b → MakesSome (with_uses parts uses) box cs truth b
    makes_some box none truth b m = m
    makes_some box (claim_then c cs) truth b (inl m) = inl (makes box c truth b m)
    makes_some box (claim_then c cs) truth b (inr m) = inr (makes_some box cs truth b m)

  takes_by : (principle : Principle) (group : Group) (box : List (List Bool)) (d v : ℕ) → TakesBy principle parts group box d v → TakesBy principle (with_uses parts uses) group box d v
  takes_by principles.Tree group box d v (inl r) = inl (record { place = r.place; is = r.is; says = r.says; other = r.other; must = r.must; differs = r.differs; both = r.both })
  takes_by principles.Tree group box d v (inr (inl r)) = inr (inl (for_root group box d v r))
  takes_by principles.Tree group box d v (inr (inr r)) = inr (inr (no_cycle group box d v r))
  takes_by principles.Dag group box d v (inl r) = inl (no_cycle group box d v r)
  takes_by principles.Dag group box d v (inr (inl r)) = inr (inl (r.0, for_root group box d v r.1))
  takes_by principles.Dag group box d v (inr (inr r)) = inr (inr (r.0, record { place = r.1.place; is = r.1.is; says = r.1.says; other = r.1.other; must = r.1.must; differs = r.1.differs; mother = r.1.mother; daughter = r.1.daughter }))
  takes_by principles.Valency group box d v (inl r) = inl (record { node = r.node; within = r.within; label = r.label; known = r.known; is = r.is; none = r.none })
  takes_by principles.Valency group box d v (inr (inl r)) = inr (inl (record { place = r.place; is = r.is; says = r.says; free = r.free; full = r.full }))
  takes_by principles.Valency group box d v (inr (inr r)) = inr (inr (record { place = r.place; may = r.may; says = r.says; needed = r.needed }))
  takes_by principles.Order group box d v (inl r) = inl (record { place = r.place; is = r.is; says = r.says; other = r.other; must = r.must; mother = r.mother; wrong = r.wrong })
  takes_by principles.Order group box d v (inr (inl r)) = inr (inl (record { place = r.place; is = r.is; says = r.says; own = r.own; remains = r.remains; only = r.only; offends = r.offends }))
  takes_by principles.Order group box d v (inr (inr r)) = inr (inr (record { place = r.place; must = r.must; is = r.is; offends = r.offends }))
  takes_by principles.Projectivity group box d v r = record { place = r.place; is = r.is; says = r.says; node = r.node; within = r.within; between = r.between; apart = r.apart }
  takes_by principles.Agr group box d v r = record { node = r.node; within = r.within; lacks = r.lacks }
  takes_by principles.Agreement group box d v r = record { place = r.place; is = r.is; asks = r.asks; lacks = r.lacks }
  takes_by principles.Government group box d v r = record { place = r.place; is = r.is; governs = r.governs; lacks = r.lacks }
  takes_by principles.Climbing group box d v r = record { place = r.place; is = r.is; says = r.says; apart = r.apart }
  takes_by principles.Barriers group box d v r = record { place = r.place; is = r.is; says = r.says; barrier = r.barrier; above = r.above; blocks = r.blocks; apart = r.apart }
  takes_by principles.LinkingNotDaughter group box d v r = record { place = r.place; is = r.is; other = r.other; other_is = r.other_is; mother = r.mother; daughter = r.daughter; keeps = r.keeps; one = r.one }
  takes_by principles.Graph group box d v r = r
  takes_by principles.Entries group box d v r = r
  takes_by (principles.Rule formula) group box d v r = makes box (claim formula) false unbound r
  takes_by (principles.Bound costs bound) group box d v (inl r) = inl r
  takes_by (principles.Bound costs bound) group box d v (inr r) = inr (record { place = r.place; is = r.is; says = r.says; free = r.free; reaches = r.reaches })
  takes_by principle group box d v r = linking_reach (way_in (linking_of principle)) group box d v r

  takes : (group : Group) (box : List (List Bool)) (d v : ℕ) → Takes parts group box d v → Takes (with_uses parts uses) group box d v
  takes group box d v (inl r) = inl (fails_test group box r)
  takes group box d v (inr r) = inr (takes_by group.principle group box d v r)

  -- ---- so a closed box is closed without them

  closed_before : (box : List (List Bool)) → IsClosed (with_uses parts uses) box → IsClosed parts box
  closed_before box closed =
      all_before (λ group. IsClosedFor parts group box) parts.groups uses
      (All-weaker (λ group. IsClosedFor (with_uses parts uses) group box) (λ group. IsClosedFor parts group box) (λ group is d v has took. is d v has (takes group box d v took)) (parts.groups ++ uses) closed)

  pub unbounded : (prefix : List ℕ) → Boxed (with_uses parts uses) prefix → Boxed parts prefix
  unbounded prefix b = record { box = b.box; is = b.is; closed = closed_before b.box b.closed; agrees = b.agrees }
