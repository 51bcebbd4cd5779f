use Rattle.std.proofs.Common.{◌≤◌, ◌-◌, Bool, cond, slice_get, sym, ap, arith}
use Rattle.std.specs.List.{flat_map}
use Rattle.std.proofs.lemmas.Bool.{le-ltb, lt-ltb}
use Rattle.xdg_io.proofs.Parts.{writes_whole}
use Rattle.xdg_text.specs.Constants.{constant}
use Rattle.xdg_reports.specs.VerdictsText.{behind, dim_text, name_in}
use Rattle.xdg_reports.proofs.verdicts.write_title.Goals as goal

pub returns-then-place-own : goal.returns-then-place-own
returns-then-place-own g c =
    writes_whole (ap (λ (own : Bool). cond own (flat_map (dim_text c.args.parts.now) c.args.group.now.dims) (behind (constant (name_in (slice_get c.args.rules.now (c.args.place - c.args.own)))))) (sym (lt-ltb c.args.place c.args.own c.if-place-own.true)))
    (rw c.as_slice.ensures at c.write_dims.ensures)

pub returns : goal.returns
returns g c =
    let over : c.args.own ≤ c.args.place = omega (arith, c.if-place-own.false) in
    writes_whole (ap (λ (own : Bool). cond own (flat_map (dim_text c.args.parts.now) c.args.group.now.dims) (behind (constant (name_in (slice_get c.args.rules.now (c.args.place - c.args.own)))))) (sym (le-ltb c.args.place c.args.own over)))
    (rw c.rule_name.ensures at c.write_constant_behind.ensures)
