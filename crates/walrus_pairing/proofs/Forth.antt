-- Lemmas: an operator that is read as an instruction is the one that is written for this.
use Rattle.std.specs.Prelude.{ℕ, ◌≡◌, ◌==◌, List, [], ◌∷◌, Some, refl}
use Rattle.std.proofs.Common.{inl, inr}
use Rattle.std.proofs.lemmas.Bool.{cases_Bool}
use Rattle.wasm_operators.specs.Items.{Space, Types, Functions, Tables, Memories, Tags, Globals, ElementSegments, DataSegments, Locals, Labels, Names, Number}
use Rattle.wasm_operators.specs.declared.op_code.OpCode.{OpCode}
use Rattle.wasm_operators.specs.Operators.{op_code}
use Rattle.walrus_instr.specs.declared.instr.Instr.{Instr}
use Rattle.walrus_instr.specs.declared.instr.Instr.TheVariants as instrs
use Rattle.walrus_codes.specs.Runs.{Run}
use Rattle.walrus_pairing.specs.Looks.{Look}
use Rattle.walrus_pairing.specs.Write.{op, operator_at}
use Rattle.walrus_pairing.specs.Read.{at, of_bytes, of_objects, of_bulks, name_at, names_at, counted_at}
use Rattle.walrus_pairing.proofs.RowsFound.{AllFit, prefix_found}

module _ (P : OpCode → Instr → Type 0) (code : OpCode) (i : Instr) where
  pub bytes_found : (rows : List (Run Instr)) → AllFit (λ n j. P (op_code 0 n) j) rows → of_bytes rows code ≡ Some i → P code i
  bytes_found rows fit e = elim (cases_Bool (code.prefix == 0)) [
    | inl is ↦ prefix_found P 0 rows fit code i is (rw is at e)
    | inr out ↦ absurd (let w = (rw out at e) in cc)
  ]

  pub objects_found : (rows objects : List (Run Instr)) → AllFit (λ n j. P (op_code 0 n) j) rows → AllFit (λ n j. P (op_code 0xfb n) j) objects → of_objects rows objects code ≡ Some i → P code i
  objects_found rows objects fit others e = elim (cases_Bool (code.prefix == 0xfb)) [
    | inl is ↦ prefix_found P 0xfb objects others code i is (rw is at e)
    | inr out ↦ bytes_found rows fit (rw out at e)
  ]

  pub bulks_found : (rows bulks : List (Run Instr)) → AllFit (λ n j. P (op_code 0 n) j) rows → AllFit (λ n j. P (op_code 0xfc n) j) bulks → of_bulks rows bulks code ≡ Some i → P code i
  bulks_found rows bulks fit others e = elim (cases_Bool (code.prefix == 0xfc)) [
    | inl is ↦ prefix_found P 0xfc bulks others code i is (rw is at e)
    | inr out ↦ bytes_found rows fit (rw out at e)
  ]

module _ (back : Look) where
  -- the instruction's operator has this code and this name
  abbrev pub HasName : Space → ℕ → OpCode → Instr → Type 0
  HasName space n code i = operator_at back i ≡ op code (Names space n ∷ [])

  pub name_found : (space : Space) (id n : ℕ) → back space id ≡ Some n → (code : OpCode) (i : Instr) → name_at code space id ≡ Some i → HasName space n code i
  unfolding operator_at
  name_found Types id n h code i e = objects_found (HasName Types n) code i (at 0x14 (instrs.CallRef id) ∷ at 0x15 (instrs.ReturnCallRef id) ∷ []) (at 0 (instrs.StructNew id) ∷ at 1 (instrs.StructNewDefault id) ∷ at 6 (instrs.ArrayNew id) ∷ at 7 (instrs.ArrayNewDefault id) ∷ at 11 (instrs.ArrayGet id) ∷ at 12 (instrs.ArrayGetS id) ∷ at 13 (instrs.ArrayGetU id) ∷ at 14 (instrs.ArraySet id) ∷ at 16 (instrs.ArrayFill id) ∷ []) ((rw h refl, tt), ((rw h refl, tt), tt))
      ((rw h refl, tt), ((rw h refl, tt), ((rw h refl, tt), ((rw h refl, tt), ((rw h refl, tt), ((rw h refl, tt), ((rw h refl, tt), ((rw h refl, tt), ((rw h refl, tt), tt))))))))) e
  name_found Functions id n h code i e = bytes_found (HasName Functions n) code i (at 0x10 (instrs.Call id) ∷ at 0x12 (instrs.ReturnCall id) ∷ at 0xd2 (instrs.RefFunc id) ∷ []) ((rw h refl, tt), ((rw h refl, tt), ((rw h refl, tt), tt))) e
  name_found Tables id n h code i e = bulks_found (HasName Tables n) code i (at 0x25 (instrs.TableGet id) ∷ at 0x26 (instrs.TableSet id) ∷ []) (at 15 (instrs.TableGrow id) ∷ at 16 (instrs.TableSize id) ∷ at 17 (instrs.TableFill id) ∷ []) ((rw h refl, tt), ((rw h refl, tt), tt)) ((rw h refl, tt), ((rw h refl, tt), ((rw h refl, tt), tt))) e
  name_found Memories id n h code i e = bulks_found (HasName Memories n) code i (at 0x3f (instrs.MemorySize id) ∷ at 0x40 (instrs.MemoryGrow id) ∷ []) (at 11 (instrs.MemoryFill id) ∷ []) ((rw h refl, tt), ((rw h refl, tt), tt)) ((rw h refl, tt), tt) e
  name_found Tags id n h code i e = bytes_found (HasName Tags n) code i (at 0x08 (instrs.Throw id) ∷ []) ((rw h refl, tt), tt) e
  name_found Globals id n h code i e = bytes_found (HasName Globals n) code i (at 0x23 (instrs.GlobalGet id) ∷ at 0x24 (instrs.GlobalSet id) ∷ []) ((rw h refl, tt), ((rw h refl, tt), tt)) e
  name_found ElementSegments id n h code i e = bulks_found (HasName ElementSegments n) code i [] (at 13 (instrs.ElemDrop id) ∷ []) tt ((rw h refl, tt), tt) e
  name_found DataSegments id n h code i e = bulks_found (HasName DataSegments n) code i [] (at 9 (instrs.DataDrop id) ∷ []) tt ((rw h refl, tt), tt) e
  name_found Locals id n h code i e = bytes_found (HasName Locals n) code i (at 0x20 (instrs.LocalGet id) ∷ at 0x21 (instrs.LocalSet id) ∷ at 0x22 (instrs.LocalTee id) ∷ []) ((rw h refl, tt), ((rw h refl, tt), ((rw h refl, tt), tt))) e
  name_found Labels id n h code i e = absurd cc

  -- its operator has this code and these two names, or this name and this number
  abbrev pub HasNames : Space → ℕ → Space → ℕ → OpCode → Instr → Type 0
  HasNames s m t n code i = operator_at back i ≡ op code (Names s m ∷ Names t n ∷ [])

  abbrev pub HasCount : ℕ → ℕ → OpCode → Instr → Type 0
  HasCount m count code i = operator_at back i ≡ op code (Names Types m ∷ Number count ∷ [])

  pub names_found : (s : Space) (a m : ℕ) → back s a ≡ Some m → (t : Space) (b n : ℕ) → back t b ≡ Some n → (code : OpCode) (i : Instr)
      → names_at code s a t b ≡ Some i → HasNames s m t n code i
  unfolding operator_at
  names_found Types a m g Tables b n h code i e = bytes_found (HasNames Types m Tables n) code i (at 0x11 (instrs.CallIndirect a b) ∷ at 0x13 (instrs.ReturnCallIndirect a b) ∷ []) ((rw (g, h) refl, tt), ((rw (g, h) refl, tt), tt)) e
  names_found DataSegments a m g Memories b n h code i e = bulks_found (HasNames DataSegments m Memories n) code i [] (at 8 (instrs.MemoryInit b a) ∷ []) tt ((rw (g, h) refl, tt), tt) e
  names_found Memories a m g Memories b n h code i e = bulks_found (HasNames Memories m Memories n) code i [] (at 10 (instrs.MemoryCopy b a) ∷ []) tt ((rw (g, h) refl, tt), tt) e
  names_found ElementSegments a m g Tables b n h code i e = bulks_found (HasNames ElementSegments m Tables n) code i [] (at 12 (instrs.TableInit b a) ∷ []) tt ((rw (g, h) refl, tt), tt) e
  names_found Tables a m g Tables b n h code i e = bulks_found (HasNames Tables m Tables n) code i [] (at 14 (instrs.TableCopy b a) ∷ []) tt ((rw (g, h) refl, tt), tt) e
  names_found Types a m g DataSegments b n h code i e = objects_found (HasNames Types m DataSegments n) code i [] (at 9 (instrs.ArrayNewData a b) ∷ at 18 (instrs.ArrayInitData a b) ∷ []) tt ((rw (g, h) refl, tt), ((rw (g, h) refl, tt), tt)) e
  names_found Types a m g ElementSegments b n h code i e = objects_found (HasNames Types m ElementSegments n) code i [] (at 10 (instrs.ArrayNewElem a b) ∷ at 19 (instrs.ArrayInitElem a b) ∷ []) tt ((rw (g, h) refl, tt), ((rw (g, h) refl, tt), tt)) e
  names_found Types a m g Types b n h code i e = objects_found (HasNames Types m Types n) code i [] (at 17 (instrs.ArrayCopy b a) ∷ []) tt ((rw (g, h) refl, tt), tt) e
  names_found _ a m g _ b n h code i e = absurd cc

  pub counted_found : (a m count : ℕ) → back Types a ≡ Some m → (code : OpCode) (i : Instr) → counted_at code a count ≡ Some i → HasCount m count code i
  unfolding operator_at
  counted_found a m count h code i e = objects_found (HasCount m count) code i []
      (at 2 (instrs.StructGet a count) ∷ at 3 (instrs.StructGetS a count) ∷ at 4 (instrs.StructGetU a count) ∷ at 5 (instrs.StructSet a count) ∷ at 8 (instrs.ArrayNewFixed a count) ∷ [])
      tt ((rw h refl, tt), ((rw h refl, tt), ((rw h refl, tt), ((rw h refl, tt), ((rw h refl, tt), tt))))) e
