use Rattle.std.proofs.Common.{◌≡◌, ◌<◌, ℕ, refl, arith, sym, subst, get_or}
use Rattle.xdg_domain.specs.Shapes.{product}
use Rattle.xdg_domain.specs.Sized.{sizes_of}
use Rattle.xdg_domain.specs.Tuples.{index}
use Rattle.xdg_domain.proofs.TupleNumbers.{index_below}
use Rattle.xdg_domain.proofs.Sizing.{Turned, turn, turned_all}
use Rattle.xdg_domain.proofs.tuples.index_of.Goals.{After-size, After-loop-i}
use Rattle.xdg_domain.proofs.tuples.index_of.Goals as goal

small : (c : After-size) → index (sizes_of c.args.fields.now) c.args.numbers.now < 1025
small c = let below = index_below (sizes_of c.args.fields.now) c.args.numbers.now c.requires.range in omega (arith, below, c.requires.few)

-- one field more, whose constant has that number
turned : (c : After-size) (n : ℕ) → n ≡ get_or c.args.numbers.now c.loop-i.i 0 → Turned c.args.fields.now c.args.numbers.now c.loop-i.i c.loop-i.number c.size.result n (index (sizes_of c.args.fields.now) c.args.numbers.now)
turned c n said = turn _ _ _ c.index-fields-i.result _ _ _ _ c.loop-i-test.true c.index-fields-i.is c.size.ensures.size said (small c) c.loop-i.invariant.0 c.loop-i.invariant.1

-- all fields
all : (c : After-loop-i) → c.loop-i.number ≡ index (sizes_of c.args.fields.now) c.args.numbers.now
all c = turned_all c.args.fields.now c.args.numbers.now c.loop-i.i c.loop-i.number _ (omega (arith, c.loop-i-test.false)) c.loop-i.invariant.0 c.loop-i.invariant.1

pub overflow_mul-number : goal.overflow_mul-number
overflow_mul-number c = let at = (goal.at.overflow_mul-number c).After-size in omega (arith, (turned at _ refl).scaled, small at)

pub overflow_add-number : goal.overflow_add-number
overflow_add-number c = let at = (goal.at.overflow_add-number c).After-size in omega (arith, (turned at _ c.from.ensures).added, small at)

pub loop-i-preserved : goal.loop-i-preserved
loop-i-preserved c = let t = turned (goal.at.loop-i-preserved c).After-size _ c.from.ensures in (t.range, t.number)

pub returns-clause-number : goal.returns-clause-number
returns-clause-number c = all (goal.at.returns-clause-number c).After-loop-i

pub returns-clause-below : goal.returns-clause-below
returns-clause-below c = subst (λ m. m < product (sizes_of c.args.fields.now)) (sym (all (goal.at.returns-clause-below c).After-loop-i)) (index_below (sizes_of c.args.fields.now) c.args.numbers.now c.requires.range)

pub overflow_cast-result : goal.overflow_cast-result
overflow_cast-result c =
    let below = index_below (sizes_of c.args.fields.now) c.args.numbers.now c.requires.range in
    omega (arith, all (goal.at.overflow_cast-result c).After-loop-i, below, c.requires.few)
