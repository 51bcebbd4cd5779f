-- How parameters are taken where they stand for terms.
use Rattle.xdg_terms.specs.declared.forms.Reading.{Reading}
use Rattle.xdg_terms.specs.declared.forms.Reading.TheVariants as r
use Rattle.xdg_terms.specs.Forms.{Look, with_bound, with_open}

abbrev pub look_of : Reading → Look
look_of (r.Bound bindings) = with_bound bindings.now
look_of (r.Open params) = with_open params.now
