-- The constants of domains.
use Rattle.xdg_domain.specs.Shapes.{Shape, domain, constants, IsDomain}
use Rattle.xdg_facts.specs.Membership.{Differ}

pub domain_differs : (s : Shape) → IsDomain s → Differ (constants s)
domain_differs (domain cs) h = h.1
domain_differs s h = absurd h
