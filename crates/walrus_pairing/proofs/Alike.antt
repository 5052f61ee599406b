-- Instructions that name the same: what a family writes of each of them is what is written with the code of its own.
use Rattle.std.proofs.Common.{ℕ, ◌≡◌, ◌⊎◌, inl, inr, refl}
use Rattle.walrus_operators.specs.wasm_operators.Items.{Types, Functions, Tables, Memories, Globals, Locals, ElementSegments, DataSegments}
use Rattle.walrus_codes.specs.walrus_instr.declared.instr.Instr.{Instr}
use Rattle.walrus_codes.specs.walrus_instr.declared.instr.Instr.TheVariants as instrs
use Rattle.walrus_pairing.specs.Looks.{Look}
use Rattle.walrus_pairing.specs.Spaces.{named_code}
use Rattle.walrus_pairing.specs.Write.{one, two, counted, variable, memory_op, object_op}

pub functions : (look : Look) (i : Instr) (func : ℕ) → (i ≡ instrs.Call func) ⊎ ((i ≡ instrs.ReturnCall func) ⊎ (i ≡ instrs.RefFunc func))
    → one look (named_code i) Functions func ≡ variable look i
functions look i func (inl e) = rw e refl
functions look i func (inr (inl e)) = rw e refl
functions look i func (inr (inr e)) = rw e refl

pub calls : (look : Look) (i : Instr) (ty table : ℕ) → (i ≡ instrs.CallIndirect ty table) ⊎ (i ≡ instrs.ReturnCallIndirect ty table)
    → two look (named_code i) Types ty Tables table ≡ variable look i
calls look i ty table (inl e) = rw e refl
calls look i ty table (inr e) = rw e refl

pub references : (look : Look) (i : Instr) (ty : ℕ) → (i ≡ instrs.CallRef ty) ⊎ (i ≡ instrs.ReturnCallRef ty) → one look (named_code i) Types ty ≡ variable look i
references look i ty (inl e) = rw e refl
references look i ty (inr e) = rw e refl

pub locals : (look : Look) (i : Instr) (local : ℕ) → (i ≡ instrs.LocalGet local) ⊎ ((i ≡ instrs.LocalSet local) ⊎ (i ≡ instrs.LocalTee local))
    → one look (named_code i) Locals local ≡ variable look i
locals look i local (inl e) = rw e refl
locals look i local (inr (inl e)) = rw e refl
locals look i local (inr (inr e)) = rw e refl

pub globals : (look : Look) (i : Instr) (global : ℕ) → (i ≡ instrs.GlobalGet global) ⊎ (i ≡ instrs.GlobalSet global) → one look (named_code i) Globals global ≡ variable look i
globals look i global (inl e) = rw e refl
globals look i global (inr e) = rw e refl

pub tables : (look : Look) (i : Instr) (table : ℕ)
    → (i ≡ instrs.TableGet table) ⊎ ((i ≡ instrs.TableSet table) ⊎ ((i ≡ instrs.TableGrow table) ⊎ ((i ≡ instrs.TableSize table) ⊎ (i ≡ instrs.TableFill table))))
    → one look (named_code i) Tables table ≡ variable look i
tables look i table (inl e) = rw e refl
tables look i table (inr (inl e)) = rw e refl
tables look i table (inr (inr (inl e))) = rw e refl
tables look i table (inr (inr (inr (inl e)))) = rw e refl
tables look i table (inr (inr (inr (inr e)))) = rw e refl

pub memories : (look : Look) (i : Instr) (memory : ℕ) → (i ≡ instrs.MemorySize memory) ⊎ ((i ≡ instrs.MemoryGrow memory) ⊎ (i ≡ instrs.MemoryFill memory))
    → one look (named_code i) Memories memory ≡ memory_op look i
memories look i memory (inl e) = rw e refl
memories look i memory (inr (inl e)) = rw e refl
memories look i memory (inr (inr e)) = rw e refl

pub types : (look : Look) (i : Instr) (ty : ℕ)
    → (i ≡ instrs.StructNew ty) ⊎ ((i ≡ instrs.StructNewDefault ty) ⊎ ((i ≡ instrs.ArrayNew ty) ⊎ ((i ≡ instrs.ArrayNewDefault ty)
    ⊎ ((i ≡ instrs.ArrayGet ty) ⊎ ((i ≡ instrs.ArrayGetS ty) ⊎ ((i ≡ instrs.ArrayGetU ty) ⊎ ((i ≡ instrs.ArraySet ty) ⊎ (i ≡ instrs.ArrayFill ty))))))))
    → one look (named_code i) Types ty ≡ object_op look i
types look i ty (inl e) = rw e refl
types look i ty (inr (inl e)) = rw e refl
types look i ty (inr (inr (inl e))) = rw e refl
types look i ty (inr (inr (inr (inl e)))) = rw e refl
types look i ty (inr (inr (inr (inr (inl e))))) = rw e refl
types look i ty (inr (inr (inr (inr (inr (inl e)))))) = rw e refl
types look i ty (inr (inr (inr (inr (inr (inr (inl e))))))) = rw e refl
types look i ty (inr (inr (inr (inr (inr (inr (inr (inl e)))))))) = rw e refl
types look i ty (inr (inr (inr (inr (inr (inr (inr (inr e)))))))) = rw e refl

pub fields : (look : Look) (i : Instr) (ty n : ℕ)
    → (i ≡ instrs.StructGet ty n) ⊎ ((i ≡ instrs.StructGetS ty n) ⊎ ((i ≡ instrs.StructGetU ty n) ⊎ ((i ≡ instrs.StructSet ty n) ⊎ (i ≡ instrs.ArrayNewFixed ty n))))
    → counted look (named_code i) Types ty n ≡ object_op look i
fields look i ty n (inl e) = rw e refl
fields look i ty n (inr (inl e)) = rw e refl
fields look i ty n (inr (inr (inl e))) = rw e refl
fields look i ty n (inr (inr (inr (inl e)))) = rw e refl
fields look i ty n (inr (inr (inr (inr e)))) = rw e refl

pub from_segments : (look : Look) (i : Instr) (ty segment : ℕ) → (i ≡ instrs.ArrayNewData ty segment) ⊎ (i ≡ instrs.ArrayInitData ty segment)
    → two look (named_code i) Types ty DataSegments segment ≡ object_op look i
from_segments look i ty segment (inl e) = rw e refl
from_segments look i ty segment (inr e) = rw e refl

pub from_elements : (look : Look) (i : Instr) (ty elem : ℕ) → (i ≡ instrs.ArrayNewElem ty elem) ⊎ (i ≡ instrs.ArrayInitElem ty elem)
    → two look (named_code i) Types ty ElementSegments elem ≡ object_op look i
from_elements look i ty elem (inl e) = rw e refl
from_elements look i ty elem (inr e) = rw e refl
