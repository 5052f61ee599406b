-- Reference types (Core Specification, types: reference types), as contracts see them.
use Rattle.std.specs.Prelude.{Bool, ◌==◌}
use Rattle.std.specs.Bool.{beq}
use Rattle.std.specs.declared.cmp.Ordering.{Ordering}
use Rattle.std.specs.Ordering.{on, nat_cmp, bool_cmp, then_cmp, eq_of_both}
use Rattle.wasm_ref_types.specs.declared.heap.HeapType.{HeapType}
use Rattle.wasm_ref_types.specs.Heaps.{heap_form, heap_kind, heap_number}

-- whether null is a value of the type, and what its other values point to
pub record Reference : Type 0 where
  pub nullable : Bool
  pub heap_type : HeapType

abbrev pub reference : Bool → HeapType → Reference
reference nullable heap_type = record { nullable = nullable; heap_type = heap_type }

-- those without null come first; then abstract types, concrete ones and exact ones; abstract ones that are not shared
-- before shared ones, and then in their order; the others by the kind of index, then by its number
abbrev pub reference_cmp : Reference → Reference → Ordering
reference_cmp =
    then_cmp (on (λ r. r.nullable) bool_cmp)
    (then_cmp (on (λ r. heap_form r.heap_type) nat_cmp)
    (then_cmp (on (λ r. heap_kind r.heap_type) nat_cmp) (on (λ r. heap_number r.heap_type) nat_cmp)))

abbrev pub reference_eq : Reference → Reference → Bool
reference_eq =
    eq_of_both (on (λ r. r.nullable) beq)
    (eq_of_both (on (λ r. heap_form r.heap_type) ◌==◌)
    (eq_of_both (on (λ r. heap_kind r.heap_type) ◌==◌) (on (λ r. heap_number r.heap_type) ◌==◌)))
