use Rattle.std.proofs.Common.{◌≡◌, ◌∙◌, ap, sym}
use Rattle.std.specs.List.{flat_map}
use Rattle.xdg_text.specs.Constants.{escaped}
use Rattle.xdg_base.proofs.Names.{nothing_escaped}
use Rattle.xdg_text.proofs.constants.write_escaped.Goals as goal

pub returns-else-has_escaped : goal.returns-else-has_escaped
returns-else-has_escaped g c =
    let same : flat_map escaped c.args.text.now ≡ c.as_bytes-bytes.result.now = ap (flat_map escaped) (sym c.as_bytes-bytes.ensures.value) ∙ nothing_escaped c.as_bytes-bytes.result.now (sym c.has_escaped.ensures ∙ c.if-has_escaped.false) in
    rw same c.write_all.ensures
