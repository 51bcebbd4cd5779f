use Rattle.xdg_io.proofs.Parts.{writes_both, writes_first}
use Rattle.xdg_arrange.proofs.searching.write_found.Goals as goal

pub returns-in_err-write_lead : goal.returns-in_err-write_lead
returns-in_err-write_lead g c = writes_first _ c.from_residual.ensures.0 c.in_err-write_lead.ensures

pub returns : goal.returns
returns g c = writes_both c.in_ok-write_lead.ensures c.write_parts.ensures
