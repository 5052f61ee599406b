-- What can't be written, and what stands behind a byte.
use Rattle.std.specs.Prelude.{ℕ, ◌≡◌, Option, None, List, [], ◌∷◌, ◌++◌, Result, Ok, Err, refl}
use Rattle.std.proofs.Common.{sym, subst}
use Rattle.walrus_forms.specs.declared.value.HeapType.{HeapType}
use Rattle.walrus_forms.specs.declared.value.HeapType.TheVariants.{Exact}
use Rattle.wasm_formats.specs.declared.fault.Form.TheVariants.{ExactType}
use Rattle.wasm_formats.specs.declared.fault.Space.{Space}
use Rattle.wasm_formats.specs.declared.fault.Space.TheVariants as spaces
use Rattle.wasm_grammar.specs.TypeWords.{heap_from}
use Rattle.walrus_errors.specs.declared.error.ModuleError.{ModuleError}
use Rattle.walrus_errors.specs.declared.error.ModuleError.TheVariants.{DeadReference, Unsupported}
use Rattle.walrus_emit_parts.specs.Due.{Due, written, Refused, Writes}
use Rattle.walrus_emit_parts.proofs.Lemmas.{lacks_it, refused_front, writes_on}
use Rattle.walrus_emit_due.specs.Values.{heap, index, signed_index}

pub lacks_index : (space : Space) (number : Option ℕ) (old : List ℕ) → number ≡ None → Refused (index space number) old old (DeadReference space)
lacks_index space number old none =
    subst (λ (o : Option ℕ). Refused (index space o) old old (DeadReference space)) (sym none) (lacks_it (DeadReference space) old old refl)

pub lacks_type : (number : Option ℕ) (old : List ℕ) → number ≡ None → Refused (signed_index number) old old (DeadReference spaces.«Type»)
lacks_type number old none =
    subst (λ (o : Option ℕ). Refused (signed_index o) old old (DeadReference spaces.«Type»)) (sym none) (lacks_it (DeadReference spaces.«Type») old old refl)

pub lacks_exact : (types : ℕ → Option ℕ) (ty : HeapType) (id : ℕ) (old : List ℕ) → ty ≡ Exact id → Refused (heap types (heap_from ty)) old old (Unsupported ExactType None)
lacks_exact types ty id old is =
    subst (λ (t : HeapType). Refused (heap types (heap_from t)) old old (Unsupported ExactType None)) (sym is) (lacks_it (Unsupported ExactType None) old old refl)

-- the second of three is refused
pub refused_second : (a b c : Due) (old mid new : List ℕ) (e : ModuleError) → written mid ≡ written old ++ a → Refused b mid new e → Refused (a ++ (b ++ c)) old new e
refused_second a b c old mid new e same h = writes_on old mid new a (b ++ c) (Err e) same (refused_front b c mid new e h)

-- behind a byte
pub byte_on : (byte : ℕ) (b : Due) (old mid new : List ℕ) (result : Result (Unit {0}) ModuleError) → written mid ≡ written old ++ written (byte ∷ []) → Writes b mid new result
    → Writes (Ok byte ∷ b) old new result
byte_on byte b old mid new result same h = writes_on old mid new (written (byte ∷ [])) b result same h

pub byte_refused : (byte : ℕ) (b c : Due) (old mid new : List ℕ) (e : ModuleError) → written mid ≡ written old ++ written (byte ∷ []) → Refused b mid new e
    → Refused (Ok byte ∷ (b ++ c)) old new e
byte_refused byte b c old mid new e same h = refused_second (written (byte ∷ [])) b c old mid new e same h
