-- Lemmas: entries leave no slot empty.
use Rattle.std.specs.Prelude.{ℕ, ◌≡◌, List, [], ◌∷◌, ◌++◌, length, Option, Some, None}
use Rattle.std.proofs.Common.{subst, inl, inr}
use Rattle.wasm_features.specs.declared.WasmFeatures.{WasmFeatures}
use Rattle.wasm_grammar.specs.Modules.{Body, Function, Imported, Module, Origin, Own, empty}
use Rattle.wasm_grammar.specs.States.{State}
use Rattle.wasm_body_grammar.specs.Codes.{with_bodies}
use Rattle.wasm_modules.specs.Modules.{module_of}
use Rattle.wasm_sections.specs.Entities.{Entity, FunctionOf, TableOf, MemoryOf, GlobalOf, TagOf, TableEntry, add_entity, add_table, import_of, ImportEntry, with_import}
use Rattle.wasm_ruled_modules.specs.Keeping.{EntriesKeep, file_kept}
use Rattle.wasm_import_links.specs.Full.{AreFull, IsFull, ReadModulesAreFull}

pushed : {A : Type 0} (xs : List (Option A)) (x : A) → IsFull xs → IsFull (xs ++ Some x ∷ [])
pushed [] x h = tt
pushed (None ∷ xs) x h = absurd h
pushed (Some y ∷ xs) x h = pushed xs x h

entity_full : (s : State) (n : ℕ) (e : Entity) → AreFull s.filled → AreFull (add_entity s n e).filled
entity_full s n (FunctionOf ty) h = record { imports = h.imports; functions = pushed s.filled.functions _ h.functions; tables = h.tables; memories = h.memories; tags = h.tags; globals = h.globals; exports = h.exports; elements = h.elements; segments = h.segments }
entity_full s n (TableOf ty) h = record { imports = h.imports; functions = h.functions; tables = pushed s.filled.tables _ h.tables; memories = h.memories; tags = h.tags; globals = h.globals; exports = h.exports; elements = h.elements; segments = h.segments }
entity_full s n (MemoryOf ty) h = record { imports = h.imports; functions = h.functions; tables = h.tables; memories = pushed s.filled.memories _ h.memories; tags = h.tags; globals = h.globals; exports = h.exports; elements = h.elements; segments = h.segments }
entity_full s n (GlobalOf ty) h = record { imports = h.imports; functions = h.functions; tables = h.tables; memories = h.memories; tags = h.tags; globals = pushed s.filled.globals _ h.globals; exports = h.exports; elements = h.elements; segments = h.segments }
entity_full s n (TagOf ty) h = record { imports = h.imports; functions = h.functions; tables = h.tables; memories = h.memories; tags = pushed s.filled.tags _ h.tags; globals = h.globals; exports = h.exports; elements = h.elements; segments = h.segments }

import_full : (s : State) (x : ImportEntry) → AreFull s.filled → AreFull (with_import s (import_of s x)).filled
import_full s x h = record { imports = pushed s.filled.imports (import_of s x) h.imports; functions = h.functions; tables = h.tables; memories = h.memories; tags = h.tags; globals = h.globals; exports = h.exports; elements = h.elements; segments = h.segments }

table_full : (s : State) (x : TableEntry) → AreFull s.filled → AreFull (add_table s x).filled
table_full s (inl x) h = record { imports = h.imports; functions = h.functions; tables = pushed s.filled.tables _ h.tables; memories = h.memories; tags = h.tags; globals = h.globals; exports = h.exports; elements = h.elements; segments = h.segments }
table_full s (inr ty) h = record { imports = h.imports; functions = h.functions; tables = pushed s.filled.tables _ h.tables; memories = h.memories; tags = h.tags; globals = h.globals; exports = h.exports; elements = h.elements; segments = h.segments }

full_kept : (features : WasmFeatures) → EntriesKeep features AreFull
full_kept features = record {
  customs = λ _ s x h. record { imports = h.imports; functions = h.functions; tables = h.tables; memories = h.memories; tags = h.tags; globals = h.globals; exports = h.exports; elements = h.elements; segments = h.segments };
  groups = λ s bytes x _ r h. record { imports = h.imports; functions = h.functions; tables = h.tables; memories = h.memories; tags = h.tags; globals = h.globals; exports = h.exports; elements = h.elements; segments = h.segments };
  imports = λ s bytes x _ r h. entity_full (with_import s (import_of s x)) (length s.filled.imports) x.1.1.1 (import_full s x h);
  functions = λ s bytes x _ r h. record { imports = h.imports; functions = pushed s.filled.functions _ h.functions; tables = h.tables; memories = h.memories; tags = h.tags; globals = h.globals; exports = h.exports; elements = h.elements; segments = h.segments };
  tables = λ s bytes x _ r h. table_full s x h;
  memories = λ s bytes x _ r h. record { imports = h.imports; functions = h.functions; tables = h.tables; memories = pushed s.filled.memories _ h.memories; tags = h.tags; globals = h.globals; exports = h.exports; elements = h.elements; segments = h.segments };
  tags = λ s bytes x _ r h. record { imports = h.imports; functions = h.functions; tables = h.tables; memories = h.memories; tags = pushed s.filled.tags _ h.tags; globals = h.globals; exports = h.exports; elements = h.elements; segments = h.segments };
  globals = λ s bytes x _ r h. record { imports = h.imports; functions = h.functions; tables = h.tables; memories = h.memories; tags = h.tags; globals = pushed s.filled.globals _ h.globals; exports = h.exports; elements = h.elements; segments = h.segments };
  exports = λ s bytes x _ r h. record { imports = h.imports; functions = h.functions; tables = h.tables; memories = h.memories; tags = h.tags; globals = h.globals; exports = pushed s.filled.exports _ h.exports; elements = h.elements; segments = h.segments };
  start = λ s n r h. record { imports = h.imports; functions = h.functions; tables = h.tables; memories = h.memories; tags = h.tags; globals = h.globals; exports = h.exports; elements = h.elements; segments = h.segments };
  elements = λ s bytes x _ r h. record { imports = h.imports; functions = h.functions; tables = h.tables; memories = h.memories; tags = h.tags; globals = h.globals; exports = h.exports; elements = pushed s.filled.elements _ h.elements; segments = h.segments };
  segments = λ s bytes x _ r h. record { imports = h.imports; functions = h.functions; tables = h.tables; memories = h.memories; tags = h.tags; globals = h.globals; exports = h.exports; elements = h.elements; segments = pushed s.filled.segments _ h.segments };
}

none_full : AreFull empty
none_full = record { imports = tt; functions = tt; tables = tt; memories = tt; tags = tt; globals = tt; exports = tt; elements = tt; segments = tt }

body_full : (ty : ℕ) (origin : Origin Body) (fs : List (Option Function)) (bodies : List Body) → ((later : List Body) → IsFull (with_bodies fs later))
    → IsFull (with_bodies (Some (record { ty = ty; origin = origin }) ∷ fs) bodies)
body_full ty (Imported n) fs bodies h = h bodies
body_full ty (Own b) fs [] h = h []
body_full ty (Own b) fs (body ∷ bodies) h = h bodies

bodies_full : (fs : List (Option Function)) (bodies : List Body) → IsFull fs → IsFull (with_bodies fs bodies)
bodies_full [] bodies h = tt
bodies_full (None ∷ fs) bodies h = absurd h
bodies_full (Some f ∷ fs) bodies h = body_full f.ty f.origin fs bodies (λ later. bodies_full fs later h)

with_bodies_full : (s : State) (bodies : List Body) → AreFull s.filled → AreFull (module_of s bodies)
with_bodies_full s bodies h = record { imports = h.imports; functions = bodies_full s.filled.functions bodies h.functions; tables = h.tables; memories = h.memories; tags = h.tags; globals = h.globals; exports = h.exports; elements = h.elements; segments = h.segments }

pub modules_full : ReadModulesAreFull
modules_full features bytes m h =
    let s = h.1.0 in
    let reads = h.1.2 in
    let kept = file_kept features AreFull (full_kept features) none_full bytes reads.0 reads.1.0 reads.1.1 in
    subst AreFull h.1.4 (with_bodies_full s h.1.1 (subst (λ (t : State). AreFull t.filled) reads.2 kept))
