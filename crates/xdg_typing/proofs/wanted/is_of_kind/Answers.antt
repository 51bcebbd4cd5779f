use Rattle.xdg_typing.proofs.Layers.{domain_told, small_told}
use Rattle.xdg_typing.proofs.wanted.is_of_kind.Goals as goal

pub returns-in-Domain : goal.returns-in-Domain
returns-in-Domain c = rw c.in-Domain.is (λ names known. domain_told names _ _ _ (c.head.ensures names known) c.is_domain.ensures)

pub returns-in-Small : goal.returns-in-Small
returns-in-Small c = rw c.in-Small.is (λ names known. small_told names _ _ _ (c.head-in-Small.ensures names known) c.is_small.ensures)

pub returns-in-Labels : goal.returns-in-Labels
returns-in-Labels c = rw c.in-Labels.is (λ names known. domain_told names _ _ _ (c.head-in-Labels.ensures names known) c.is_domain-in-Labels.ensures)
