use Rattle.xdg_packed.proofs.Writing.{digit_written, stop_written}
use Rattle.std.proofs.Common.{◌++◌}
use Rattle.std.proofs.lemmas.Result.{on_ok_weaker}
use Rattle.xdg_packed.specs.Spelling as spec
use Rattle.xdg_packed.proofs.spelling.push_number.Goals as goal

pub loop-rest-preserved : goal.loop-rest-preserved
loop-rest-preserved c =
    digit_written c.loop-rest.out c.push_digit.new.out (c.args.out.now ++ spec.number c.args.number) c.loop-rest.rest c.loop-rest-test.true c.in_ok-push_digit.ensures c.loop-rest.invariant

pub returns : goal.returns
returns c =
    on_ok_weaker c.push_str.result
    (λ e. stop_written c.loop-rest.out c.push_str.new.self (c.args.out.now ++ spec.number c.args.number) c.loop-rest.rest c.loop-rest-test.false e c.loop-rest.invariant)
    c.push_str.ensures.ok
