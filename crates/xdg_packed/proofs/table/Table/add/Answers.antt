use Rattle.std.proofs.Common.{arith}
use Rattle.std.proofs.lemmas.Result.{on_ok_weaker}
use Rattle.xdg_packed.proofs.Packs.{pushed, rows_few}
use Rattle.xdg_packed.proofs.table.Table.add.Goals as goal

pub next_place-requires-clause-few : goal.next_place-requires-clause-few
next_place-requires-clause-few c =
    let few = rows_few c.args.self.now.rows c.args.self.now.firsts c.args.self.now.places c.requires.right in
    let below = c.requires.few in
    omega (arith, few, below)

pub returns-clause-right : goal.returns-clause-right
returns-clause-right c =
    on_ok_weaker c.push.result
    (λ e. (pushed c.args.self.now.rows c.next_place.new.rows c.args.spellings.now c.next_place.new.spellings c.args.self.now.firsts c.add_first.new.firsts c.args.self.now.places c.push.new.self c.args.fields
    c.in_ok-place.place c.len.result c.requires.right c.requires.spelled c.in_ok-place.ensures c.in_ok-add_first.ensures c.len.ensures e).right)
    c.push.ensures.ok

pub returns-clause-spelled : goal.returns-clause-spelled
returns-clause-spelled c =
    on_ok_weaker c.push.result
    (λ e. (pushed c.args.self.now.rows c.next_place.new.rows c.args.spellings.now c.next_place.new.spellings c.args.self.now.firsts c.add_first.new.firsts c.args.self.now.places c.push.new.self c.args.fields
    c.in_ok-place.place c.len.result c.requires.right c.requires.spelled c.in_ok-place.ensures c.in_ok-add_first.ensures c.len.ensures e).spelled)
    c.push.ensures.ok

pub returns-clause-adds : goal.returns-clause-adds
returns-clause-adds c =
    on_ok_weaker c.push.result
    (λ e. record {
      records_grow = (pushed c.args.self.now.rows c.next_place.new.rows c.args.spellings.now c.next_place.new.spellings c.args.self.now.firsts c.add_first.new.firsts c.args.self.now.places c.push.new.self c.args.fields
          c.in_ok-place.place c.len.result c.requires.right c.requires.spelled c.in_ok-place.ensures c.in_ok-add_first.ensures c.len.ensures e).shows;
      place = c.in_ok-place.place;
      places_grow = e;
    })
    c.push.ensures.ok
