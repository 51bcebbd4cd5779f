-- A body denotes one list, where no two classes have one name.
use Rattle.std.proofs.Common.{◌≡◌, List, [], ◌∷◌, ◌++◌, map, refl, sym, ap, ap₂, ◌∙◌, subst}
use Rattle.xdg_types.specs.Table.{KeepDims}
use Rattle.xdg_types.specs.declared.table.DimType.{DimType}
use Rattle.xdg_terms.specs.Forms.{Bindings}
use Rattle.xdg_classes.specs.Bodies.{Body, Bodies}
use Rattle.xdg_classes.specs.Wants.{NamedBody}
use Rattle.xdg_check.specs.declared.checked.Class.{Class}
use Rattle.xdg_check.specs.Checked.{named_body, named_bodies}
use Rattle.xdg_check.specs.Counts.{class_texts}
use Rattle.xdg_lexicon.specs.Denotes.{JoinsAll, closed_args, Denotes, record_said, class_used, conjunction, disjunction, DenotesBoth, all_joined, join_first, DenotesEither, all_listed, list_first}
use Rattle.xdg_lexicon.specs.Partial.{Partial}
use Rattle.xdg_lexicon.proofs.OneJoin.{all_once}
use Rattle.xdg_lexicon.proofs.OneMeaning.{one_record}
use Rattle.xdg_facts.specs.Membership.{Differ}
use Rattle.xdg_facts.proofs.Lists.{fused}
use Rattle.xdg_facts.proofs.Named.{one_named}

-- ---- names

-- the bodies of classes have the names of the classes
pub bodies_differ : (cs : List Class) → Differ (class_texts cs) → Differ (map (λ n. n.name) (named_bodies cs))
bodies_differ cs h = subst Differ (sym (fused (λ (n : NamedBody). n.name) named_body cs)) h

module _ (dims : List DimType) (classes : List NamedBody) (keeps : KeepDims dims) (differ : Differ (map (λ c. c.name) classes)) where
  mutual
    pub once : (bs : Bindings) (b : Body) (ms ns : List Partial) → Denotes dims classes bs b ms → Denotes dims classes bs b ns → ns ≡ ms
    once bs _ _ _ (record_said _ dim pairs p says) (record_said _ _ _ q told) = ap (λ r. r ∷ []) (one_record dims bs dim.text pairs q p keeps told says)
    once bs _ ms ns (class_used _ name args c _ stands is d) (class_used _ _ _ e _ there same f) =
        let one : e ≡ c = one_named (λ (n : NamedBody). n.name) classes e c differ there stands (same ∙ sym is) in
        once (closed_args bs args) c.body ms ns d (subst (λ (n : NamedBody). Denotes dims classes (closed_args bs args) n.body ns) one f)
    once bs _ ms ns (conjunction _ bodies _ d) (conjunction _ _ _ e) = once_both bs bodies ms ns d e
    once bs _ ms ns (disjunction _ bodies _ d) (disjunction _ _ _ e) = once_either bs bodies ms ns d e

    once_both : (bs : Bindings) (bodies : Bodies) (ms ns : List Partial) → DenotesBoth dims classes bs bodies ms → DenotesBoth dims classes bs bodies ns → ns ≡ ms
    once_both bs _ _ _ (all_joined _) (all_joined _) = refl
    once_both bs _ js ks (join_first _ b rest ms ns _ d more all) (join_first _ _ _ ls os _ e further joins) =
        all_once dims ms ns ks js (subst (λ (l : List Partial). JoinsAll dims ms l ks) (once_both bs rest ns os more further) (subst (λ (l : List Partial). JoinsAll dims l os ks) (once bs b ms ls d e) joins)) all

    once_either : (bs : Bindings) (bodies : Bodies) (ms ns : List Partial) → DenotesEither dims classes bs bodies ms → DenotesEither dims classes bs bodies ns → ns ≡ ms
    once_either bs _ _ _ (all_listed _) (all_listed _) = refl
    once_either bs _ _ _ (list_first _ b rest ms ns d more) (list_first _ _ _ ls os e further) = ap₂ (λ (l r : List Partial). l ++ r) (once bs b ms ls d e) (once_either bs rest ns os more further)
