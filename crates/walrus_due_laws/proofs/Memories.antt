-- Lemmas: what is due for memories.
use Rattle.std.specs.Prelude.{ℕ, ◌+◌, ◌≡◌, Bool, true, false, ◌∷◌, ◌++◌, length, filter, Option, Some, None, refl}
use Rattle.std.specs.List.{filter_map}
use Rattle.std.specs.Option.{is_none, is_some, option_map}
use Rattle.wasm_formats.specs.declared.fault.Limited.TheVariants as limits_of
use Rattle.wasm_operators.specs.Bytes.{unsigned_bytes}
use Rattle.wasm_grammar.specs.Modules.{Memory}
use Rattle.wasm_grammar.specs.States.{nothing_yet}
use Rattle.wasm_sections.specs.Sections.{MemorySection}
use Rattle.wasm_module_bytes.specs.Due.{bit as bit_from, memory_from}
use Rattle.wasm_canonical.specs.Due.{entry, if_own, own_memory, section_if}
use Rattle.wasm_part.specs.Part.{renumbered_memory}
use Rattle.walrus_emit_due.specs.Values.{bit, limits, optional}
use Rattle.walrus_emit_due.specs.Own.{live, own_section}
use Rattle.walrus_emit_due.specs.Items.{memory, memory_flags}
use Rattle.walrus_due_laws.specs.Spelled.{SpelledAs, in_slots, spelled}
use Rattle.walrus_due_laws.specs.Memories.{MemoriesAreSpelled}
use Rattle.walrus_due_laws.proofs.Parts.{both, turned, within}
use Rattle.walrus_due_laws.proofs.Lists.{EntryAs, entries_as, own_each}
use Rattle.walrus_due_laws.proofs.Plain.{entry_plain, memory_bytes}
use Rattle.walrus_due_laws.proofs.Values.{limits_as, optional_as, optional_bytes}

flags_plain : (shared wide : Bool) (initial : ℕ) (maximum page : Option ℕ)
    → (bit 1 (is_some maximum) + bit 2 shared + bit 4 wide + bit 8 (is_some page)) ∷ (unsigned_bytes initial ++ optional_bytes maximum) ++ optional_bytes page
    ≡ memory_bytes ((bit_from 1 (is_some maximum) + bit_from 2 shared + bit_from 4 wide + bit_from 8 (is_some page), (initial, maximum)), page)
flags_plain false false initial None None = refl
flags_plain false false initial None (Some k) = refl
flags_plain false false initial (Some n) None = refl
flags_plain false false initial (Some n) (Some k) = refl
flags_plain false true initial None None = refl
flags_plain false true initial None (Some k) = refl
flags_plain false true initial (Some n) None = refl
flags_plain false true initial (Some n) (Some k) = refl
flags_plain true false initial None None = refl
flags_plain true false initial None (Some k) = refl
flags_plain true false initial (Some n) None = refl
flags_plain true false initial (Some n) (Some k) = refl
flags_plain true true initial None None = refl
flags_plain true true initial None (Some k) = refl
flags_plain true true initial (Some n) None = refl
flags_plain true true initial (Some n) (Some k) = refl

pub memory_as : (x : Memory) → SpelledAs (memory x) (memory_bytes (memory_from x))
memory_as x =
    let front = memory_flags x ∷ (unsigned_bytes x.initial ++ optional_bytes x.maximum) in
    turned (memory x) (front ++ optional_bytes x.page_size_log2) (memory_bytes (memory_from x)) (flags_plain x.shared x.wide x.initial x.maximum x.page_size_log2)
    (both (limits (memory_flags x) x.initial x.maximum) (optional x.page_size_log2) front (optional_bytes x.page_size_log2) (limits_as (memory_flags x) x.initial x.maximum) (optional_as x.page_size_log2))

entry_made_as : (brings : ℕ → ℕ) (x : Memory) (imported : Option ℕ) → EntryAs memory_bytes (is_none imported) (memory x) (if_own (option_map brings imported) (memory_from x))
entry_made_as brings x (Some n) = tt
entry_made_as brings x None = memory_as x

pub memories_spelled : MemoriesAreSpelled
memories_spelled features r brings slots =
    let own = λ (x : Memory). is_none x.imported in
    let entries = filter_map own_memory (in_slots (renumbered_memory r brings) slots) in
    within 100 (length (live slots)) limits_of.Memories (own_section 5 own memory slots) (spelled features (section_if MemorySection entries))
    (entries_as memory memory_bytes features 5 MemorySection (λ es. entry_plain features nothing_yet (entry (MemorySection es))) (filter own (live slots)) entries
    (own_each memory memory_bytes own own_memory (renumbered_memory r brings) refl (λ x. entry_made_as brings x x.imported) slots))
