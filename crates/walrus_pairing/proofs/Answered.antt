-- Lemmas: no plain operator is without an instruction.
use Rattle.std.specs.Prelude.{◌≡◌, ◌≢◌, ◌||◌, not, Bool, true, false, List, [], ◌∷◌, Option, Some, None, Ok, Err, refl}
use Rattle.std.specs.Option.{is_some, option_map}
use Rattle.std.proofs.Common.{subst}
use Rattle.wasm_ref_types.specs.wasm_reader.Floats.{seen_bits32, seen_bits64}
use Rattle.wasm_ref_types.specs.declared.value.ValType.{ValType as WrittenValue}
use Rattle.wasm_operators.specs.Items.{Types, Functions, Tables, Memories, Tags, Globals, ElementSegments, DataSegments, Locals}
use Rattle.wasm_operators.specs.declared.entry.Kind.{Kind}
use Rattle.wasm_operators.specs.declared.op_code.OpCode.{OpCode}
use Rattle.walrus_instr.specs.declared.instr.Value.TheVariants as constants
use Rattle.walrus_instr.specs.declared.instr.Instr.{Instr}
use Rattle.walrus_instr.specs.declared.instr.Instr.TheVariants as instrs
use Rattle.walrus_operators.specs.declared.immediates.Immediates.{Immediates}
use Rattle.walrus_operators.specs.declared.immediates.Immediates.TheVariants as imm
use Rattle.walrus_operators.specs.Immediates.{items_of, kind_is}
use Rattle.walrus_codes.specs.Access.{simd_at}
use Rattle.walrus_pairing.specs.declared.error.PairError.TheVariants as errors
use Rattle.walrus_pairing.specs.Looks.{Look, Or, ◌>>=◌, found}
use Rattle.walrus_pairing.specs.Types.{read_heap, read_value, named}
use Rattle.walrus_pairing.specs.Read.{at, no_immediates_at, byte_at, run_at, bits_at, name_at, names_at, counted_at, heap_at, arg_of, simd_access, access_at, of_bytes, select_at, of_items}
use Rattle.walrus_pairing.specs.Plain.{holds_labels, is_no_step}
use Rattle.walrus_pairing.specs.Laws.{PlainIsAnswered}
use Rattle.walrus_pairing.proofs.Rows.{table_holds}
use Rattle.walrus_pairing.proofs.Read.{Parts, no_parts, reads, plain_test, plain_passes}

-- there is an instruction, or a refusal
abbrev Told : Or (Option Instr) → Type 0
Told r = r ≢ Ok None

one : (o : Option Instr) → is_some o ≡ true → Told (Ok o)
one None is e = absurd cc
one (Some i) is e = absurd cc

-- behind another answer
behind : {A : Type 0} (r : Or A) (f : A → Or (Option Instr)) → ((x : A) → Told (f x)) → Told (r >>= f)
behind (Ok x) f later e = later x e
behind (Err x) f later e = absurd cc

module _ (look : Look) (code : OpCode) where
  of_types : (tys : List WrittenValue) → Told (select_at (look Types) tys)
  of_types [] e = absurd cc
  of_types (ty ∷ []) e = behind (read_value (look Types) ty) (λ v. Ok (Some (instrs.Select (Some v)))) (λ v f. absurd cc) e
  of_types (ty ∷ next ∷ tys) e = behind (named (look Types) (ty ∷ next ∷ tys)) (λ _. Err errors.Select) (λ u f. absurd cc) e

  answered : (x : Immediates) → holds_labels (kind_is x) ≡ false → ((p : Parts) → reads p (kind_is x) code ≡ true) → Told (of_items look code (items_of x))
  answered imm.Bare plain all e = one (no_immediates_at code) (all no_parts) e
  answered (imm.Tag n) plain all e = behind (found look Tags n) (λ id. Ok (name_at code Tags id)) (λ id. one (name_at code Tags id) (all (record no_parts { one = id }))) e
  answered (imm.Function n) plain all e = behind (found look Functions n) (λ id. Ok (name_at code Functions id)) (λ id. one (name_at code Functions id) (all (record no_parts { one = id }))) e
  answered (imm.Type n) plain all e = behind (found look Types n) (λ id. Ok (name_at code Types id)) (λ id. one (name_at code Types id) (all (record no_parts { one = id }))) e
  answered (imm.Local n) plain all e = behind (found look Locals n) (λ id. Ok (name_at code Locals id)) (λ id. one (name_at code Locals id) (all (record no_parts { one = id }))) e
  answered (imm.Global n) plain all e = behind (found look Globals n) (λ id. Ok (name_at code Globals id)) (λ id. one (name_at code Globals id) (all (record no_parts { one = id }))) e
  answered (imm.Table n) plain all e = behind (found look Tables n) (λ id. Ok (name_at code Tables id)) (λ id. one (name_at code Tables id) (all (record no_parts { one = id }))) e
  answered (imm.Memory n) plain all e = behind (found look Memories n) (λ id. Ok (name_at code Memories id)) (λ id. one (name_at code Memories id) (all (record no_parts { one = id }))) e
  answered (imm.Data n) plain all e = behind (found look DataSegments n) (λ id. Ok (name_at code DataSegments id)) (λ id. one (name_at code DataSegments id) (all (record no_parts { one = id }))) e
  answered (imm.Element n) plain all e = behind (found look ElementSegments n) (λ id. Ok (name_at code ElementSegments id)) (λ id. one (name_at code ElementSegments id) (all (record no_parts { one = id }))) e
  answered (imm.TypeTable m n) plain all e = behind (found look Types m) (λ a. found look Tables n >>= λ b. Ok (names_at code Types a Tables b))
      (λ a. behind (found look Tables n) (λ b. Ok (names_at code Types a Tables b)) (λ b. one (names_at code Types a Tables b) (all (record no_parts { one = a; other = b })))) e
  answered (imm.DataMemory m n) plain all e = behind (found look DataSegments m) (λ a. found look Memories n >>= λ b. Ok (names_at code DataSegments a Memories b))
      (λ a. behind (found look Memories n) (λ b. Ok (names_at code DataSegments a Memories b)) (λ b. one (names_at code DataSegments a Memories b) (all (record no_parts { one = a; other = b })))) e
  answered (imm.MemoryMemory m n) plain all e = behind (found look Memories m) (λ a. found look Memories n >>= λ b. Ok (names_at code Memories a Memories b))
      (λ a. behind (found look Memories n) (λ b. Ok (names_at code Memories a Memories b)) (λ b. one (names_at code Memories a Memories b) (all (record no_parts { one = a; other = b })))) e
  answered (imm.ElementTable m n) plain all e = behind (found look ElementSegments m) (λ a. found look Tables n >>= λ b. Ok (names_at code ElementSegments a Tables b))
      (λ a. behind (found look Tables n) (λ b. Ok (names_at code ElementSegments a Tables b)) (λ b. one (names_at code ElementSegments a Tables b) (all (record no_parts { one = a; other = b })))) e
  answered (imm.TableTable m n) plain all e = behind (found look Tables m) (λ a. found look Tables n >>= λ b. Ok (names_at code Tables a Tables b))
      (λ a. behind (found look Tables n) (λ b. Ok (names_at code Tables a Tables b)) (λ b. one (names_at code Tables a Tables b) (all (record no_parts { one = a; other = b })))) e
  answered (imm.TypeData m n) plain all e = behind (found look Types m) (λ a. found look DataSegments n >>= λ b. Ok (names_at code Types a DataSegments b))
      (λ a. behind (found look DataSegments n) (λ b. Ok (names_at code Types a DataSegments b)) (λ b. one (names_at code Types a DataSegments b) (all (record no_parts { one = a; other = b })))) e
  answered (imm.TypeElement m n) plain all e = behind (found look Types m) (λ a. found look ElementSegments n >>= λ b. Ok (names_at code Types a ElementSegments b))
      (λ a. behind (found look ElementSegments n) (λ b. Ok (names_at code Types a ElementSegments b)) (λ b. one (names_at code Types a ElementSegments b) (all (record no_parts { one = a; other = b })))) e
  answered (imm.TypeType m n) plain all e = behind (found look Types m) (λ a. found look Types n >>= λ b. Ok (names_at code Types a Types b))
      (λ a. behind (found look Types n) (λ b. Ok (names_at code Types a Types b)) (λ b. one (names_at code Types a Types b) (all (record no_parts { one = a; other = b })))) e
  answered (imm.TypeNumber m n) plain all e = behind (found look Types m) (λ ty. Ok (counted_at code ty n)) (λ ty. one (counted_at code ty n) (all (record no_parts { one = ty; other = n }))) e
  answered (imm.I32 z) plain all e = one (of_bytes (at 0x41 (instrs.Const (constants.I32 z)) ∷ []) code) (all (record no_parts { int = z })) e
  answered (imm.I64 z) plain all e = one (of_bytes (at 0x42 (instrs.Const (constants.I64 z)) ∷ []) code) (all (record no_parts { int = z })) e
  answered (imm.F32 x) plain all e = one (bits_at code 4 (seen_bits32 x)) (all (record no_parts { one = seen_bits32 x })) e
  answered (imm.F64 x) plain all e = one (bits_at code 8 (seen_bits64 x)) (all (record no_parts { one = seen_bits64 x })) e
  answered (imm.Vector bytes) plain all e = one (run_at code bytes) (all (record no_parts { bytes = bytes })) e
  answered (imm.Lane b) plain all e = one (byte_at code b) (all (record no_parts { one = b })) e
  answered imm.Zero plain all e = one (byte_at code 0) (all no_parts) e
  answered (imm.Heap ty) plain all e = behind (read_heap (look Types) ty) (λ heap. Ok (heap_at code heap)) (λ heap. one (heap_at code heap) (all (record no_parts { ty = heap }))) e
  answered (imm.Select tys) plain all e = of_types tys.items e
  answered (imm.Access a) plain all e = behind (found look Memories a.memory) (λ memory. arg_of a >>= λ arg. Ok (access_at code memory arg))
      (λ memory. behind (arg_of a) (λ arg. Ok (access_at code memory arg)) (λ arg. one (access_at code memory arg) (all (record no_parts { one = memory; arg = arg })))) e
  answered (imm.AccessLane a b) plain all e = behind (found look Memories a.memory) (λ memory. arg_of a >>= λ arg. Ok (option_map (simd_access memory arg) (simd_at code (Some b))))
      (λ memory. behind (arg_of a) (λ arg. Ok (option_map (simd_access memory arg) (simd_at code (Some b))))
      (λ arg. one (option_map (simd_access memory arg) (simd_at code (Some b))) (all (record no_parts { one = memory; other = b; arg = arg })))) e
  answered (imm.Block ty) plain all e = absurd cc
  answered (imm.TryTable ty cs) plain all e = absurd cc
  answered (imm.Label n) plain all e = absurd cc
  answered (imm.BrTable ns n) plain all e = absurd cc
  answered (imm.Cast b n from to) plain all e = absurd cc

-- ---- all

neither : (a b : Bool) → not (a || b) ≡ true → a ≡ false
neither true b e = absurd cc
neither false b e = refl

pub plain_is_answered : PlainIsAnswered
plain_is_answered look op entry listed plain kind =
    let labels : holds_labels (kind_is op.immediates) ≡ false = subst (λ (k : Kind). holds_labels k ≡ false) kind (neither (holds_labels entry.kind) (is_no_step entry.flow) plain) in
    answered look op.code op.immediates labels (λ p. subst (λ (k : Kind). reads p k op.code ≡ true) kind (passed p))
  where
    passed : (p : Parts) → reads p entry.kind op.code ≡ true
    passed p = (let w = table_holds (plain_test p) (plain_passes p) op.code.prefix op.code.number entry listed in (rw plain at w))
