-- A module is written section by section.
use Rattle.std.specs.Prelude.{ℕ, ◌+◌, ◌≡◌, ◌<◌, ◌^◌, ◌⊎◌, Bool, true, false, List, ◌++◌, length, map, Option, Result, Ok, Err, OnOk, refl}
use Rattle.std.proofs.Common.{ap, sym, ◌∙◌, subst, inl, inr}
use Rattle.wasm_grammar.specs.Modules.{Function}
use Rattle.wasm_operators.proofs.Keeps.{keeps_all}
use Rattle.walrus_errors.specs.declared.error.ModuleError.{ModuleError}
use Rattle.walrus_errors.specs.declared.error.ModuleError.TheVariants.{Memory}
use Rattle.walrus_index_maps.specs.Maps.{Indices}
use Rattle.walrus_module.specs.walrus_body_writer.walrus_pairing.Looks.{Look}
use Rattle.walrus_payload_writers.specs.Writes as payloads
use Rattle.walrus_types.specs.Emission.{IsEmission}
use Rattle.walrus_types.specs.Inverse.{AreInverse}
use Rattle.walrus_types.specs.Table.{Table}
use Rattle.walrus_types.specs.declared.emit.EmittedTypes.{EmittedTypes}
use Rattle.walrus_types.specs.walrus_forms.Records.{type_group}
use Rattle.walrus_emit_parts.specs.Due.{Due, IsTooMany, Lacks, Refused, Writes, written}
use Rattle.walrus_emit_parts.proofs.Lemmas.{nothing, puts, refused_memory, size_is, writes_on, written_size}
use Rattle.walrus_emit_due.specs.FunctionTypes.{function_types}
use Rattle.walrus_emit.specs.Settled.{AreEmitted}
use Rattle.walrus_emit.specs.Whole.{if_asked, types}
use Rattle.walrus_emit.specs.Written.{WroteTypes}

pub are_emitted : (t : Table) (types : EmittedTypes) → IsEmission t (map type_group types.groups.items) types.indices → AreInverse types.ids.items types.indices → AreEmitted t types
are_emitted t types groups ids = record { groups = groups; ids = ids }

-- ---- one section

-- nothing was written, as memory was wanted
pub wanted : (due : Due) (old : List ℕ) → Refused due old old Memory
wanted due old = refused_memory due old old (keeps_all old old refl)

-- a payload that is written by itself
pub payload_written : (bytes old new : List ℕ) (r : Result (Unit {0}) ModuleError) → payloads.Writes bytes old new r → Writes (written bytes) old new r
payload_written bytes old new (Ok x) h = puts old new bytes h
payload_written bytes old new (Err e) h = record { keeps = h.keeps; cause = cause h.cause }
  where
    cause : (e ≡ Memory) ⊎ payloads.IsTooMany (length bytes) e → (e ≡ Memory) ⊎ (Lacks (written bytes) e ⊎ IsTooMany (length (written bytes)) e)
    cause (inl memory) = inl memory
    cause (inr many) = inr (inr (many.0, subst (λ (n : ℕ). 2 ^ 30 < n) (sym (written_size bytes)) many.1))

-- what isn't asked for isn't written
pub not_asked : (asked : Bool) (due : Due) (old : List ℕ) → asked ≡ false → written old ≡ written old ++ if_asked asked due
not_asked asked due old is = rw is (nothing old)

pub asked : (asked : Bool) (due : Due) (old new : List ℕ) (r : Result (Unit {0}) ModuleError) → asked ≡ true → Writes due old new r → Writes (if_asked asked due) old new r
asked is due old new r e h = rw e h

pub asked_payload : (is : Bool) (bytes old new : List ℕ) (r : Result (Unit {0}) ModuleError) → is ≡ true → payloads.Writes bytes old new r → Writes (if_asked is (written bytes)) old new r
asked_payload is bytes old new r e h = asked is (written bytes) old new r e (payload_written bytes old new r h)

-- a part is refused behind one that was written
pub refused_later : (old mid new : List ℕ) (a b : Due) (e : ModuleError) → written mid ≡ written old ++ a → Refused b mid new e → Refused (a ++ b) old new e
refused_later old mid new a b e h r = writes_on old mid new a b (Err e) h r

-- the types of functions, of any locals
pub functions_written : (look : Look) (slots : List (Option Function)) (ids order : List ℕ) (old new : List ℕ) (r : Result (Unit {0}) ModuleError) → ids ≡ order → Writes (function_types look slots ids) old new r
    → Writes (function_types look slots order) old new r
functions_written look slots ids order old new r is h = subst (λ (l : List ℕ). Writes (function_types look slots l) old new r) is h

-- ---- types

pub wrote_types : (t : Table) (emitted : EmittedTypes) (old new : List ℕ) (r : Result (Unit {0}) ModuleError) → AreEmitted t emitted → Writes (types emitted) old new r → OnOk r (WroteTypes t old new)
wrote_types t emitted old new (Ok x) are h = record { emitted = emitted; are = are; wrote = h }
wrote_types t emitted old new (Err e) are h = tt

-- ---- code

-- code, and what stands behind it with the numbers that it leaves
pub code_then : (a b : Due) (due : Indices → Due) (i j : Indices) (old mid more new : List ℕ) (r : Result (Unit {0}) ModuleError) → i ≡ j → written mid ≡ written old ++ a
    → written more ≡ written mid ++ b → Writes (due i) more new r → OnOk r (written new ≡ written old ++ (a ++ (b ++ due j)))
code_then a b due i j old mid more new (Ok x) is first second w =
    writes_on old mid new a (b ++ due j) (Ok x) first (writes_on mid more new b (due j) (Ok x) second (subst (λ (k : Indices). written new ≡ written more ++ due k) is w))
code_then a b due i j old mid more new (Err e) is first second w = tt

-- what stands behind a part begins so much further on
pub begins_behind : (place_of : ℕ → ℕ) (a : Due) (old mid : List ℕ) (begin : ℕ) (r : Result (Unit {0}) ModuleError) → written mid ≡ written old ++ a → begin ≡ place_of (length mid)
    → OnOk r (begin ≡ place_of (length old + length a))
begins_behind place_of a old mid begin (Ok x) first h = h ∙ ap place_of (size_is old mid a first)
begins_behind place_of a old mid begin (Err e) first h = tt
