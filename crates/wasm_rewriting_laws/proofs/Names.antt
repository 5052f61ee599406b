-- Lemmas: places don't show in the names that are read of a file.
use Rattle.std.specs.Prelude.{ℕ, zero, suc, ◌≡◌, ◌<◌, nat_lt, List, [], ◌∷◌, length, map, Option, Some, None, slice_get, refl, if◌then◌else◌}
use Rattle.std.specs.List.{flat_map}
use Rattle.std.proofs.Common.{ap}
use Rattle.walrus_forms.specs.Renaming.{at}
use Rattle.wasm_formats.specs.declared.fault.Space.{Space}
use Rattle.wasm_formats.specs.declared.fault.Space.TheVariants as spaces
use Rattle.wasm_formats.specs.Stops.{Index}
use Rattle.wasm_formats.specs.Bytes.{byte}
use Rattle.wasm_formats.specs.Joined.{after, checked}
use Rattle.wasm_formats.specs.Wholes.{u32}
use Rattle.wasm_grammar.specs.Modules.{Body, Custom, Function, Imported, Module, Origin, Own}
use Rattle.wasm_grammar.specs.States.{count_of}
use Rattle.wasm_grammar.specs.Values.{must}
use Rattle.wasm_body_grammar.specs.Codes.{param_count}
use Rattle.wasm_name_payloads.specs.Joined.{continued, led}
use Rattle.wasm_name_payloads.specs.Keepers.{Keeper, Kept}
use Rattle.wasm_name_payloads.specs.Names.{ALocal, Bearer, Given, ItemNames, LocalNames, ModuleName, Part, Skipped, body_locals, contents, counted, first_slot, function_locals, given, item_in, last_name, name_map, names_if, names_in, names_of, part_of, same_name, section_name, subsection, takes_some}
use Rattle.wasm_name_payloads.specs.Windows.{parts_of, window}
use Rattle.wasm_module_bytes.specs.Bytes.{origin_unplaced, slot_unplaced, without_places}
use Rattle.wasm_merged_modules.specs.Merged.{ids_of}
use Rattle.wasm_rewritten.specs.Customs.{name_read, stands_for}

-- ---- keepers that keep the same

module _ {A : Type 0} (k l : Keeper A) (takes : (bytes : List ℕ) (items : List A) → k.spells bytes items → 0 < length bytes)
    (others : (bytes : List ℕ) (items : List A) → l.spells bytes items → 0 < length bytes) (same : (bytes : List ℕ) → k.keeps bytes ≡ l.keeps bytes) where
  parts_same : (fuel : ℕ) (bytes : List ℕ) → parts_of k takes fuel bytes ≡ parts_of l others fuel bytes
  parts_same fuel [] = refl
  parts_same zero (b ∷ bytes) = refl
  parts_same (suc fuel) (b ∷ bytes) = let kept = same (b ∷ bytes) in λ i. continued (kept i).items (kept i).rest (λ bytes. parts_same fuel bytes i)

-- ---- counts

all_length : (fs : List (Option Function)) → length (map slot_unplaced fs) ≡ length fs
all_length [] = refl
all_length (o ∷ fs) = ap (λ (n : ℕ). suc n) (all_length fs)

module _ (m : Module) where
  counts_same : (space : Space) → count_of (without_places m) space ≡ count_of m space
  counts_same spaces.Function = all_length m.functions
  counts_same spaces.«Type» = refl
  counts_same spaces.Table = refl
  counts_same spaces.Memory = refl
  counts_same spaces.Tag = refl
  counts_same spaces.Global = refl
  counts_same spaces.Element = refl
  counts_same spaces.Data = refl
  counts_same spaces.Local = refl
  counts_same spaces.Label = refl

  origin_locals : (params : ℕ) (o : Origin Body) → body_locals params (origin_unplaced o) ≡ body_locals params o
  origin_locals params (Imported n) = refl
  origin_locals params (Own x) = refl

  slot_locals : (fs : List (Option Function)) (f : ℕ) → function_locals (without_places m) (first_slot (slice_get (map slot_unplaced fs) f)) ≡ function_locals m (first_slot (slice_get fs f))
  slot_locals [] f = refl
  slot_locals (None ∷ fs) zero = refl
  slot_locals (Some g ∷ fs) zero = origin_locals (param_count m g.ty) g.origin
  slot_locals (o ∷ fs) (suc f) = slot_locals fs f

  -- ---- names

  contents_same : (part : Part) (size : ℕ) → contents (without_places m) part size ≡ contents m part size
  contents_same ModuleName size = refl
  contents_same (ItemNames space) size = let count = counts_same space in λ i. window size (name_map (count i) (item_in space))
  contents_same LocalNames size =
      let long = all_length m.functions in
      λ i. window size (counted (led (checked u32 (λ f. must (nat_lt f (long i)) (Index spaces.Function))) (λ f. name_map (slot_locals m.functions f i) (ALocal f))))
  contents_same Skipped size = refl

  subsections_same : subsection (without_places m) ≡ subsection m
  subsections_same = λ i. led (after byte (λ _. u32)) (λ h. contents_same (part_of h.0) h.1 i)

  payloads_same : (bytes : List ℕ) → names_in (without_places m) bytes ≡ names_in m bytes
  payloads_same bytes =
      ap (λ (k : Kept Given). k.items)
      (parts_same (subsection (without_places m)) (subsection m) (takes_some (without_places m)) (takes_some m) (λ bytes i. (subsections_same i).keeps bytes) (length bytes) bytes)

  names_if_same : (c : Option Custom) → names_if (without_places m) c ≡ names_if m c
  names_if_same None = refl
  names_if_same (Some c) = ap (λ (names : List Given). if same_name c.name section_name then names else []) (payloads_same c.bytes)

  names_same : names_of (without_places m) ≡ names_of m
  names_same = λ i. flat_map (λ c. names_if_same c i) m.customs

  pub reads_same : (bearer : Bearer) → name_read (without_places m) bearer ≡ name_read m bearer
  reads_same bearer = ap (λ (names : List Given). last_name bearer None (map (λ (g : Given). given (stands_for (at (ids_of m.groups)) g.bearer) g.name) names)) names_same
