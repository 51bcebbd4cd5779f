use Rattle.std.proofs.Common.{None, sym, subst, arith, get_or}
use Rattle.std.specs.List.{AllZip}
use Rattle.xdg_split.specs.Answers.{IsAnswer}
use Rattle.xdg_split.specs.Slots.{Fits}
use Rattle.xdg_split.proofs.slots.answers_of.Goals as goal
use Rattle.xdg_facts.proofs.Zips.{zip_set, zip_turn, zip_at}

pub answer_of-requires : goal.answer_of-requires
answer_of-requires g c =
    subst (Fits c.index-jobs-place.result) (sym c.exchange-slot.ensures.given)
    (subst (λ job. Fits job (get_or c.loop-place.slots.items c.loop-place.place None)) (sym c.index-jobs-place.is)
    (zip_at Fits c.args.jobs.now c.loop-place.slots.items c.loop-place.place c.index-jobs-place.result None c.loop-place.invariant.0 (omega arith)))

pub loop-place-preserved : goal.loop-place-preserved
loop-place-preserved g c = (
  subst (AllZip Fits c.args.jobs.now) (sym c.exchange-slot.ensures.slots) (zip_set Fits c.args.jobs.now c.loop-place.slots.items c.loop-place.place None (λ job e. tt) c.loop-place.invariant.0),
  zip_turn IsAnswer c.args.jobs.now c.loop-place.answers c.push.new.self c.loop-place.place c.index-jobs-place.result c.in_ok-answer_of.field-0 (omega arith) c.index-jobs-place.is c.loop-place.invariant.1 c.in_ok-answer_of.ensures c.in_ok-push.ensures.ok,
)
