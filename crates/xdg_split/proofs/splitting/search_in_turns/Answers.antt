use Rattle.std.proofs.Common.{◌∙◌, length, sym}
use Rattle.std.proofs.lemmas.Bool.{eqb-true}
use Rattle.std.proofs.lemmas.List.{nil_from_length}
use Rattle.xdg_split.proofs.Turning.{turned_all, turned_more, turned_stopped}
use Rattle.xdg_split.proofs.splitting.search_in_turns.Goals as goal

pub loop-rest-preserved : goal.loop-rest-preserved
loop-rest-preserved g c =
    turned_more c.args.first c.args.jobs.now c.loop-rest.rest.now c.split_at.result.0.now c.split_at.result.1.now c.min.result c.loop-rest.answer.ending c.in_ok-answer.answer.ending c.loop-rest.answer.found.items c.in_ok-answer.answer.found.items
    c.split_at.ensures.front c.split_at.ensures.back c.loop-rest.invariant c.in_ok-answer.ensures

pub returns-then-has_ended : goal.returns-then-has_ended
returns-then-has_ended g c = turned_stopped c.args.first c.args.jobs.now c.loop-rest.rest.now c.loop-rest.answer.ending c.loop-rest.answer.found.items c.loop-rest.invariant (c.has_ended.ensures c.if-has_ended.true)

pub returns : goal.returns
returns g c =
    turned_all c.args.first c.args.jobs.now c.loop-rest.rest.now c.loop-rest.answer.ending c.loop-rest.answer.found.items c.loop-rest.invariant
    (nil_from_length c.loop-rest.rest.now (eqb-true (length c.loop-rest.rest.now) 0 (sym c.is_empty.ensures ∙ c.loop-rest-test.false)))
