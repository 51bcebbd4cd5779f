-- Two partial entries have one join at most, and none where they clash.
use Rattle.std.proofs.Common.{◌≡◌, List, [], ◌∷◌, ◌++◌, refl, ap₂, sym, ◌∙◌, arith}
use Rattle.std.proofs.lemmas.List.{ext_get_or}
use Rattle.xdg_domain.specs.Joins.{JoinsField, ClashesField}
use Rattle.xdg_domain.proofs.Keyed.{says_unique, says_exclusive}
use Rattle.xdg_types.specs.declared.table.DimType.{DimType}
use Rattle.xdg_lexicon.specs.Denotes.{JoinsEach, no_other, clashes, joins, JoinsAll, no_first, first_then}
use Rattle.xdg_lexicon.specs.Partial.{Partial, features, said_of, PartialsJoin, PartialsClash}
use Rattle.xdg_domain.proofs.JoinLaws.{unique_field, apart_field}
use Rattle.xdg_facts.proofs.Lists.{some_at}

-- ---- partial entries

pub one_join : (dims : List DimType) (a b c d : Partial) → PartialsJoin dims a b c → PartialsJoin dims a b d → c ≡ d
one_join dims a b c d h k = ext_get_or [] c d (h.count ∙ sym k.count) (λ i within.
    let at = some_at dims i (let long = h.count in omega (arith, within, long)) in
    says_unique (JoinsField (features at.0)) (unique_field (features at.0)) (said_of a i) (said_of b i) (said_of c i) (said_of d i) (h.each i at.0 at.1) (k.each i at.0 at.1))

pub join_apart : (dims : List DimType) (a b c : Partial) → PartialsJoin dims a b c → PartialsClash dims a b → ⊥
join_apart dims a b c h k =
    let fs = features k.dim in
    says_exclusive (JoinsField fs) (ClashesField fs) (apart_field fs) (said_of a k.at) (said_of b k.at) (said_of c k.at) (h.each k.at k.dim k.is) k.clash

-- ---- lists of them

each_once : (dims : List DimType) (m : Partial) (ns js ks : List Partial) → JoinsEach dims m ns js → JoinsEach dims m ns ks → js ≡ ks
each_once dims m _ _ _ no_other no_other = refl
each_once dims m _ js ks (clashes n ns _ c d) (clashes _ _ _ _ e) = each_once dims m ns js ks d e
each_once dims m _ _ _ (clashes n ns _ c d) (joins _ k _ ks b e) = absurd (join_apart dims m n k b c)
each_once dims m _ _ _ (joins n j ns js c d) (clashes _ _ _ b e) = absurd (join_apart dims m n j c b)
each_once dims m _ _ _ (joins n j ns js c d) (joins _ k _ ks b e) = ap₂ (λ x l. x ∷ l) (one_join dims m n j k c b) (each_once dims m ns js ks d e)

-- the joins of each with each are one list
pub all_once : (dims : List DimType) (ms ns js ks : List Partial) → JoinsAll dims ms ns js → JoinsAll dims ms ns ks → js ≡ ks
all_once dims _ _ _ _ (no_first ns) (no_first _) = refl
all_once dims _ _ _ _ (first_then m ms ns first rest e d) (first_then _ _ _ other more f c) = ap₂ (λ (x l : List Partial). x ++ l) (each_once dims m ns first other e f) (all_once dims ms ns rest more d c)
