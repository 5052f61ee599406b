-- What a contract sees of a function that is built.
use Rattle.std.specs.Prelude.{◌≡◌, ℕ, List, [], ◌∷◌, None, slice_set}
use Rattle.std.specs.Borrow.{Lends, Fml, MutBor}
use Rattle.walrus_walks.specs.walrus_instr.declared.seq.InstrSeq.{InstrSeq}
use Rattle.walrus_walks.specs.walrus_instr.contracts.seq.InstrSeq.{the_row as seq_row}
use Rattle.walrus_walks.specs.walrus_forms.declared.value.ValType.{ValType}
use Rattle.walrus_walks.specs.walrus_forms.Kinds.{function_kind, entry_kind}
use Rattle.walrus_walks.specs.walrus_types.Pairs.{MergesBoth}
use Rattle.walrus_walks.specs.walrus_types.Table.{Table}
use Rattle.walrus_walks.specs.walrus_instr.declared.seq.InstrSeqType.{InstrSeqType}
use Rattle.walrus_walks.specs.walrus_instr.declared.seq.InstrSeqType.TheVariants.{MultiValue}
use Rattle.walrus_builder.specs.declared.function.FunctionBuilder.{FunctionBuilder}
use Rattle.walrus_builder.specs.contracts.seq_builder.InstrSeqBuilder.{the_row as builder_row}
use Rattle.walrus_builder.specs.contracts.function.FunctionBuilder.{the_row as function_row}
use Rattle.walrus_builder.specs.Built.{Building, contents, empty_seq}

-- the sequences by id
abbrev pub seqs_of : FunctionBuilder → List InstrSeq
seqs_of f = f.builder.seqs

-- a function of this type without a name, whose body is empty and has this block type
pub record IsOf (f : FunctionBuilder) (ty : ℕ) (entry : InstrSeqType) : Type 0 where
  pub type_is : f.ty ≡ ty
  pub unnamed : f.name ≡ None
  pub body : contents f.builder ≡ empty_seq 0 entry ∷ []

-- a function of the type that stands for these parameters and results, whose body's own block has the entry
-- type of the results; the two types were added where none was equal
pub record IsNew (params results : List ValType) (f : FunctionBuilder) (old new : Table) : Type 0 where
  pub entry : ℕ
  pub types_added : MergesBoth (function_kind params results) f.ty (entry_kind results) entry old new
  pub is_of : IsOf f f.ty (MultiValue entry)

-- once the borrow r ends, the function has the sequences written through r
abbrev pub lends_builder : MutBor FunctionBuilder → MutBor Building → Fml
lends_builder s r = Lends function_row builder_row s r (λ b. record s.now { builder = b })

-- once the borrow r ends, the function has at the id the sequence written through r
abbrev pub lends_seq_of : MutBor FunctionBuilder → ℕ → MutBor InstrSeq → Fml
lends_seq_of s id r = Lends function_row seq_row s r (λ seq. record s.now { builder = record s.now.builder { seqs = slice_set s.now.builder.seqs id seq } })
