-- Block types by their parts, as sequences hold them: each in one way.
use Rattle.std.specs.Prelude.{◌≡◌, ℕ, Bool, false, Option, Some, None}
use Rattle.walrus_types.specs.walrus_forms.declared.value.AbstractHeapType.{AbstractHeapType}
use Rattle.walrus_types.specs.walrus_forms.declared.value.AbstractHeapType.TheVariants.{Func}
use Rattle.walrus_types.specs.walrus_forms.declared.value.HeapType.{HeapType}
use Rattle.walrus_types.specs.walrus_forms.declared.value.HeapType.TheVariants as heaps
use Rattle.walrus_types.specs.walrus_forms.declared.value.ValType.{ValType}
use Rattle.walrus_types.specs.walrus_forms.declared.value.ValType.TheVariants as values
use Rattle.walrus_instr.specs.declared.seq.InstrSeqType.{InstrSeqType}
use Rattle.walrus_instr.specs.declared.seq.InstrSeqType.TheVariants.{Simple, MultiValue}
use Rattle.walrus_instr.specs.declared.seq_type.Form.{Form}
use Rattle.walrus_instr.specs.declared.seq_type.Form.TheVariants as forms
use Rattle.walrus_instr.specs.declared.seq_type.SeqType.TheInside.{Inside}

-- a form with nothing besides
abbrev pub bare : Form → Inside
bare form = record { id = 0; form = form; nullable = false; heap = Func }

abbrev reference : Bool → HeapType → InstrSeqType
reference nullable heap_type = Simple (Some (values.Ref (record { nullable = nullable; heap_type = heap_type })))

abbrev typed : Form → Bool → AbstractHeapType → ℕ → InstrSeqType
typed forms.Empty nullable heap id = Simple None
typed forms.I32 nullable heap id = Simple (Some values.I32)
typed forms.I64 nullable heap id = Simple (Some values.I64)
typed forms.F32 nullable heap id = Simple (Some values.F32)
typed forms.F64 nullable heap id = Simple (Some values.F64)
typed forms.V128 nullable heap id = Simple (Some values.V128)
typed forms.Abstract nullable heap id = reference nullable (heaps.Abstract heap)
typed forms.Shared nullable heap id = reference nullable (heaps.Shared heap)
typed forms.Concrete nullable heap id = reference nullable (heaps.Concrete id)
typed forms.Exact nullable heap id = reference nullable (heaps.Exact id)
typed forms.Function nullable heap id = MultiValue id

-- the block type of these parts
abbrev pub seq_type : Inside → InstrSeqType
seq_type a = typed a.form a.nullable a.heap a.id

abbrev reference_parts : Bool → HeapType → Inside
reference_parts nullable (heaps.Abstract heap) = record { id = 0; form = forms.Abstract; nullable = nullable; heap = heap }
reference_parts nullable (heaps.Shared heap) = record { id = 0; form = forms.Shared; nullable = nullable; heap = heap }
reference_parts nullable (heaps.Concrete id) = record { id = id; form = forms.Concrete; nullable = nullable; heap = Func }
reference_parts nullable (heaps.Exact id) = record { id = id; form = forms.Exact; nullable = nullable; heap = Func }

abbrev value_parts : ValType → Inside
value_parts values.I32 = bare forms.I32
value_parts values.I64 = bare forms.I64
value_parts values.F32 = bare forms.F32
value_parts values.F64 = bare forms.F64
value_parts values.V128 = bare forms.V128
value_parts (values.Ref ty) = reference_parts ty.nullable ty.heap_type

abbrev written_parts : Option ValType → Inside
written_parts None = bare forms.Empty
written_parts (Some ty) = value_parts ty

-- the parts by which a block type is held
abbrev pub parts : InstrSeqType → Inside
parts (Simple ty) = written_parts ty
parts (MultiValue id) = record { id = id; form = forms.Function; nullable = false; heap = Func }

-- those are the parts by which their block type is held
abbrev pub IsOwn : Inside → Type 0
IsOwn a = parts (seq_type a) ≡ a
