-- Lemmas: a plan that lists what was left has what is kept of the file's module.
use Rattle.std.specs.Prelude.{◌≡◌, true, Contains, List, [], refl}
use Rattle.std.proofs.Common.{ap, arith, ◌∙◌, subst}
use Rattle.walrus_forms.specs.Records.{TypeGroup}
use Rattle.wasm_grammar.specs.Modules as grammar
use Rattle.wasm_merged_modules.specs.Merged.{merged_module}
use Rattle.wasm_part.specs.Handlers.{handler_groups}
use Rattle.wasm_part.specs.Kept.{HasKept}
use Rattle.wasm_part.specs.Seen.{seen_as}
use Rattle.walrus_meaning.specs.Meaning.{type_ids}
use Rattle.walrus_module.specs.Parts.{parts}
use Rattle.walrus_roots.specs.declared.item.Item.{Item}
use Rattle.walrus_named_bodies.specs.Parsed.{read_features}
use Rattle.walrus_parse_laws.specs.Meant.{place_of}
use Rattle.walrus_pass_laws.specs.Meant.{PassesKeepWhatIsMeant, meant}
use Rattle.walrus_parse_gc_laws.specs.Numbered.{numbered}
use Rattle.walrus_parse_gc_laws.specs.Ruled.{MeaningsAreMerged}
use Rattle.walrus_kept_types_laws.specs.Read.{HandlersAreLacking}
use Rattle.walrus_kept_laws.specs.Kept.{PlansHaveKept}
use Rattle.walrus_kept_laws.proofs.Kept.{has_kept}

none_in : (x : Item) → Contains [] x → ⊥
none_in x c = omega (arith, c.1)

pub plans_have : {B : Type 0} → PassesKeepWhatIsMeant → MeaningsAreMerged B → HandlersAreLacking → PlansHaveKept B
plans_have passes merged lacking config file m found means grouped sound alike n part p lists =
    let features = read_features config in
    let kept = passes (parts m) [] sound grouped (λ x c. absurd (none_in x c)) in
    let is : numbered (parts m) ≡ merged_module place_of features true (handler_groups file) file =
    merged config file m found means ∙ ap (λ (more : List TypeGroup). merged_module place_of features true more file) (lacking file) in
    subst (λ (x : grammar.Module). HasKept (seen_as features x) m.config.keep_segments [] p) is
    (has_kept (parts m) sound (meant (parts m)) (seen_as features (numbered (parts m))) m.config.keep_segments (type_ids m.types) alike kept.kept refl n part p lists)
