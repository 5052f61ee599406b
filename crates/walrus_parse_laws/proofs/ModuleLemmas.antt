-- Lemmas: a module that was filled with what was read means it.
use Rattle.std.proofs.Common.{◌≡◌, ◌∙◌, ℕ, List, [], Option, refl, ap}
use Rattle.walrus_named_bodies.specs.walrus_file_bodies.walrus_items_into.walrus_module_bodies.walrus_body_trees.walrus_meaning.walrus_local_function.walrus_body_locals.wasm_grammar.Modules as grammar
use Rattle.walrus_named_bodies.specs.walrus_file_bodies.walrus_items_into.walrus_module_bodies.walrus_body_trees.walrus_meaning.walrus_local_function.walrus_body_locals.wasm_grammar.walrus_forms.Records.{TypeGroup}
use Rattle.walrus_named_bodies.specs.wasm_spelled_modules.Spelled.{ReadSectionsAreSpelled}
use Rattle.walrus_named_bodies.specs.walrus_file_bodies.walrus_items_into.walrus_module_bodies.walrus_body_trees.walrus_meaning.Meaning.{own_groups}
use Rattle.walrus_named_bodies.specs.walrus_file_bodies.walrus_items_into.walrus_functions_into.walrus_types_into.Into.{TypesNameBelow}
use Rattle.walrus_parse_laws.specs.FilledGroups.{GroupsMean, ReadTypesAreDeclared}
use Rattle.walrus_named_bodies.specs.walrus_file_bodies.walrus_items_into.walrus_tables_into.walrus_sections_into.walrus_known_sections.State.{state_of}
use Rattle.walrus_parse_laws.specs.Meaning.{ModuleMeans}
use Rattle.walrus_parse_laws.proofs.FilledFunctionLemmas.{functions_mean}
use Rattle.walrus_parse_laws.proofs.FilledItemLemmas.{imports_mean, exports_mean, memories_mean, tags_mean, start_means}
use Rattle.walrus_parse_laws.proofs.ExpressionLemmas.{tables_mean, globals_mean, elements_mean, segments_mean}

-- modules whose parts are the same
all_same : (g g' : List TypeGroup) (i i' : List (Option grammar.Import)) (f f' : List (Option grammar.Function)) (t t' : List (Option grammar.Table)) (m m' : List (Option grammar.Memory))
    (a a' : List (Option grammar.Tag)) (b b' : List (Option grammar.Global)) (x x' : List (Option grammar.Export)) (s s' : Option ℕ) (e e' : List (Option grammar.Element)) (d d' : List (Option grammar.Segment))
    → g ≡ g' → i ≡ i' → f ≡ f' → t ≡ t' → m ≡ m' → a ≡ a' → b ≡ b' → x ≡ x' → s ≡ s' → e ≡ e' → d ≡ d'
    → ◌≡◌ {A = grammar.Module} (record { groups = g; imports = i; functions = f; tables = t; memories = m; tags = a; globals = b; exports = x; start = s; elements = e; segments = d; customs = [] })
    (record { groups = g'; imports = i'; functions = f'; tables = t'; memories = m'; tags = a'; globals = b'; exports = x'; start = s'; elements = e'; segments = d'; customs = [] })
all_same g g' i i' f f' t t' m m' a a' b b' x x' s s' e e' d d' p0 p1 p2 p3 p4 p5 p6 p7 p8 p9 p10 = rw (p0, p1, p2, p3, p4, p5, p6, p7, p8, p9, p10) refl

pub module_means : ReadSectionsAreSpelled → TypesNameBelow → ReadTypesAreDeclared → GroupsMean → ModuleMeans
module_means all_spelled below declared groups_mean features bytes s look m small reads stay h =
    let spelled = all_spelled features bytes (state_of s) small reads in
    all_same _ _ _ _ _ _ _ _ _ _ _ _ _ _ _ _ _ _ _ _ _ _
    (ap own_groups h.types ∙ groups_mean s.types (below features bytes (state_of s) reads) (declared features bytes (state_of s) reads))
    (imports_mean s look m.imports stay h.imports)
    (functions_mean s look m.locals m.funcs h.functions)
    (tables_mean features s look m.tables spelled stay h.tables)
    (memories_mean s m.memories h.memories)
    (tags_mean s look m.tags h.tags)
    (globals_mean features s look m.globals spelled stay h.globals)
    (exports_mean s look m.exports stay h.exports)
    (start_means s look m.start stay h.start)
    (elements_mean features s look m.elements spelled stay h.elements)
    (segments_mean features s look m.data_segments spelled stay h.segments)
