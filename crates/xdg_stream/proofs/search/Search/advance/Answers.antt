use Rattle.std.proofs.Common.{rules, arith, length, ap}
use Rattle.xdg_stream.proofs.search.Search.advance.Goals as goal

pub returns-in-End : goal.returns-in-End
returns-in-End g c =
    let l = c.requires.lawful.wide in
    let e = ap length c.seek-step.ensures.same.sizes in
    let r = c.seek-step.ensures.room in
    record {
      lawful = record {
        within = search rules;
        stands = search rules;
        begins = search rules;
        wide = omega (arith, l, e, r);
        halted = search rules;
      };
      problem = search rules;
      same = search rules;
      found = search rules;
      whole = search rules;
      reached = search rules;
      finds = search rules;
      end = λ r open_still. c.seek-step.ensures.end r;
      spent = λ r open_still. c.seek-step.ensures.spent r;
      charged = search rules;
      forward = search rules;
      budget = search rules;
      stops = search rules;
      repeats = search rules;
    }
