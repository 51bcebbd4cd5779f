use Rattle.std.proofs.Common.{◌≡◌, ◌||◌, ◌++◌, ◌∷◌, [], ℕ, ◌+◌, ◌<◌, List, take, length, get_or, Bool, true, false, cond, refl, sym, ap, ◌∙◌}
use Rattle.std.specs.String.{string_bytes}
use Rattle.std.specs.Str.{bytes_eq}
use Rattle.std.proofs.lemmas.List.{map_more}
use Rattle.std.proofs.lemmas.List.Folds.{list_any-append}
use Rattle.std.proofs.lemmas.Map.Text.{btree_set_updates_text}
use Rattle.xdg_ast.specs.declared.grammar.ClassParam.{ClassParam}
use Rattle.xdg_ast.specs.Grammar.{params_of}
use Rattle.xdg_base.specs.Texts.{has_text}
use Rattle.xdg_ast.proofs.params.Params.of.Goals as goal

last_first : (a b : Bool) → (a || (b || false)) ≡ cond b true a
last_first true true = refl
last_first true false = refl
last_first false true = refl
last_first false false = refl

-- a text is among names and one more if it is that one, or among them
one_more : (names : List (List ℕ)) (name text : List ℕ) → has_text (names ++ name ∷ []) text ≡ cond (bytes_eq name text) true (has_text names text)
one_more names name text = list_any-append (λ param. bytes_eq param text) names (name ∷ []) ∙ last_first (has_text names text) (bytes_eq name text)

-- the names of one parameter more
next_name : (params : List ClassParam) (i : ℕ) (param : ClassParam) (name : List ℕ) → i < length params → param ≡ get_or params i param → name ≡ param.name.text
    → params_of (take (i + 1) params) ≡ params_of (take i params) ++ name ∷ []
next_name params i param name within is same =
    map_more (λ (p : ClassParam). p.name.text) params i param within ∙ ap (λ (text : List ℕ). params_of (take i params) ++ text ∷ []) (sym (same ∙ ap (λ (p : ClassParam). p.name.text) is))

-- what is found among them
found_next : (names more : List (List ℕ)) (name key : List ℕ) (old new : List ℕ → Bool) → key ≡ name → more ≡ names ++ name ∷ []
    → ((text : List ℕ) → new text ≡ cond (bytes_eq key text) true (old text)) → ((text : List ℕ) → old text ≡ has_text names text)
    → (text : List ℕ) → new text ≡ has_text more text
found_next names more name key old new same all step found text =
    step text ∙ rw (same, found text, all) (sym (one_more names name text))

pub loop-param-preserved : goal.loop-param-preserved
loop-param-preserved c =
    let next = next_name c.args.params.now c.loop-param.param-index c.param-item.result c.param-item.result.name.text c.loop-param-test.true c.param-item.is refl in
    let pushed : c.push.new.self ≡ c.loop-param.names ++ c.param-item.result.name.text ∷ [] = c.in_ok-push.ensures.ok ∙ ap (λ (text : List ℕ). c.loop-param.names ++ text ∷ []) c.in_ok-copy.ensures in
    let now : c.push.new.self ≡ params_of (take (c.loop-param.param-index + 1) c.args.params.now) = pushed ∙ ap (λ (names : List (List ℕ)). names ++ c.param-item.result.name.text ∷ []) c.loop-param.invariant.0 ∙ sym next in (
      now,
      found_next _ _ _ _ _ _ (c.in_ok-from_str.ensures.ok ∙ c.as_str.ensures) next
          (btree_set_updates_text (string_bytes c.in_ok-from_str.field-0) c.loop-param.sorted c.insert.new.self true c.in_ok-insert.ensures.updates) c.loop-param.invariant.1,
    )
