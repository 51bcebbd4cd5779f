use Rattle.std.proofs.Common.{◌≡◌, ◌-◌, ap, length, arith}
use Rattle.std.proofs.lemmas.List.{length-reverse}
use Rattle.xdg_trail.proofs.States.{stood_now}
use Rattle.xdg_trail.proofs.Trail.mark.Goals as goal

pub returns-clause-words : goal.returns-clause-words
returns-clause-words c =
    let shown = ap (λ t. length t.records) c.self.view_is in
    let none : length c.args.self.now.records - c.len.result ≡ 0 = omega (arith, shown, c.len.ensures, length-reverse c.self.inside.records.items) in
    stood_now c.args.self.now.words c.args.self.now.records (length c.args.self.now.records - c.len.result) none
