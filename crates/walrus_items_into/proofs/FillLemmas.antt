-- Lemmas: what the parts say of a new module, put together.
use Rattle.std.proofs.Common.{◌≡◌, ◌∙◌, ℕ, zero, suc, ◌+◌, Bool, true, false, List, [], ◌∷◌, ◌++◌, length, Option, None, Some, Result, Ok, Err, IfOk, refl, sym, ap, subst, arith}
use Rattle.std.specs.Bool.{OnFalse, OnTrue}
use Rattle.walrus_arena.specs.Arena.{Arena}
use Rattle.std.specs.List.{range_with_len}
use Rattle.walrus_read_laws.specs.walrus_tables_into.walrus_sections_into.walrus_instr.walrus_types.Table.{Table}
use Rattle.walrus_read_laws.specs.walrus_tables_into.walrus_sections_into.walrus_instr.walrus_types.Parsing.{AreBelow, parsed, unparsed}
use Rattle.walrus_module_bodies.specs.walrus_functions_into.walrus_types_into.Into.{no_types, with_types, TypesNameBelow, NewTypesStand}
use Rattle.walrus_module_bodies.specs.walrus_functions_into.Functions.{AreTyped, functions_from, with_functions}
use Rattle.walrus_module_bodies.specs.walrus_functions_into.Laws.{ReadFunctionsStand}
use Rattle.walrus_read_laws.specs.walrus_tables_into.walrus_sections_into.walrus_index_maps.Maps.{Ids, no_ids}
use Rattle.walrus_read_laws.specs.walrus_tables_into.walrus_sections_into.walrus_known_sections.declared.items.Function.{Function as ReadFunction}
use Rattle.walrus_read_laws.specs.walrus_tables_into.walrus_sections_into.walrus_known_sections.declared.sections.Sections.{Sections}
use Rattle.walrus_read_laws.specs.walrus_tables_into.walrus_sections_into.walrus_known_sections.State.{state_of}
use Rattle.walrus_read_laws.specs.walrus_tables_into.walrus_sections_into.Numbers.{upto}
use Rattle.walrus_module_bodies.specs.walrus_module_env.walrus_collections.walrus_module_items.declared.function.Function.{Function}
use Rattle.walrus_read_laws.specs.walrus_tables_into.walrus_sections_into.declared.error.IntoError.{IntoError}
use Rattle.walrus_read_laws.specs.walrus_tables_into.walrus_sections_into.Becomes.{look_of}
use Rattle.walrus_read_laws.specs.walrus_tables_into.walrus_sections_into.Slots.{Become, Filled, IsMemoryOf}
use Rattle.walrus_read_laws.specs.walrus_tables_into.walrus_sections_into.Imports.{IsImportOf}
use Rattle.walrus_read_laws.specs.walrus_tables_into.walrus_sections_into.Tags.{IsTagOf}
use Rattle.walrus_read_laws.specs.walrus_tables_into.walrus_sections_into.Exports.{IsExportOf, StartBecomes}
use Rattle.walrus_read_laws.specs.walrus_tables_into.walrus_sections_into.Segments.{AreHeld, IsHeldOf, IsSegmentOf}
use Rattle.walrus_read_laws.specs.walrus_tables_into.Tables.{IsTableOf}
use Rattle.walrus_read_laws.specs.walrus_tables_into.Globals.{IsGlobalOf}
use Rattle.walrus_read_laws.specs.walrus_tables_into.Elements.{IsElementOf}
use Rattle.walrus_read_laws.specs.walrus_tables_into.Customs.{IsCustomOf, plain}
use Rattle.walrus_read_laws.specs.walrus_tables_into.walrus_sections_into.walrus_known_sections.declared.items.Data.{Data as ReadData}
use Rattle.walrus_read_laws.specs.walrus_tables_into.walrus_sections_into.walrus_pairing.Looks.{Look}
use Rattle.walrus_module_bodies.specs.walrus_module_env.walrus_collections.walrus_module_items.declared.data.Data.{Data}
use Rattle.walrus_items_into.specs.Filled.{AreRead, IsFilledFrom, IsNew}
use Rattle.walrus_items_into.specs.Numbers.{AreNumbersOf, numbers_of, types_in, with_items}
use Rattle.walrus_items_into.specs.Spaces.{Spaces}

-- ---- what is asked

pub below : (s : Sections) → TypesNameBelow → AreRead s → AreBelow 0 s.types
below s law read = law read.0 read.1 (state_of s) read.3

-- each function names a type of the file
pub typed : (s : Sections) → TypesNameBelow → NewTypesStand → ReadFunctionsStand → AreRead s → AreTyped (types_in s).ids s.functions.items
typed s names stand functions read =
    (functions read.0 read.1 s (types_in s).ids (types_in s).table 0 read.3 (stand s.types (below s names read))).0

-- and so it does of the map
pub typed_there : (s : Sections) (i j : Ids) (t : Table) (reads : List ReadFunction) → i ≡ no_ids → t ≡ no_types → j ≡ with_types (parsed s.types (unparsed t)).ids i → reads ≡ s.functions.items
    → AreTyped (types_in s).ids s.functions.items → AreTyped j.types reads
typed_there s i j t reads none empty same whole h = rw (same, none, empty, whole) h

-- ---- numbers

one_more : (a n : ℕ) → range_with_len a (suc n) ≡ range_with_len a n ++ (a + n) ∷ []
one_more a zero = let e : a ≡ a + 0 = omega arith in ap (λ (m : ℕ). m ∷ []) e
one_more a (suc n) =
    let e : a + 1 + n ≡ a + suc n = omega arith in
    ap (λ (l : List ℕ). a ∷ l) (one_more (a + 1) n ∙ ap (λ (m : ℕ). range_with_len (a + 1) n ++ m ∷ []) e)

counted : (n : ℕ) → range_with_len 0 n ≡ upto n
counted zero = refl
counted (suc n) = let e : 0 + n ≡ n = omega arith in one_more 0 n ∙ ap (λ (m : ℕ). range_with_len 0 n ++ m ∷ []) e ∙ ap (λ (l : List ℕ). l ++ n ∷ []) (counted n)

-- the map behind types, functions and the other items
pub numbered : {A : Type 0} (s : Sections) (i j k l : Ids) (t : Table) (first : List A) → i ≡ no_ids → t ≡ no_types → first ≡ [] → j ≡ with_types (parsed s.types (unparsed t)).ids i
    → k ≡ with_functions (length first) (length s.functions.items) j → l ≡ with_items s k → l ≡ numbers_of s
numbered s i j k l t first none empty no_function types functions items =
    rw (items, functions, types, no_function, empty, none) (ap (λ (numbers : List ℕ). record (numbers_of s) { functions = numbers }) (counted (length s.functions.items)))

are_numbers : (s : Sections) (i : Ids) → i ≡ numbers_of s → AreNumbersOf s i
are_numbers s i e = e ∙ ap (λ (c : Bool). record (numbers_of s) { all_locals = c }) (sym (ap (λ (j : Ids). j.all_locals) e))

-- ---- all of it

-- what was added is what was read
pub over : {X Y : Type 0} {R : ℕ → X → Y → Type 0} {xs ys : List X} {old new : List (Option Y)} → ys ≡ xs → Filled R ys old new → Filled R xs old new
over {X} {Y} {R} {xs} {ys} {old} {new} e h = subst (λ (xs : List X). Filled R xs old new) e h

emptied : {X Y : Type 0} (R : ℕ → X → Y → Type 0) (xs : List X) (old new : List (Option Y)) → old ≡ [] → Filled R xs old new → Filled R xs [] new
emptied {X} {Y} R xs old new e h = subst (λ (slots : List (Option Y)). Filled R xs slots new) e h

-- ---- data segments, with their bytes or without

become_kept : (look : Look) (xs : List ReadData) (ys : List (Option Data)) (slot : ℕ) → Become (IsHeldOf true look) xs ys slot → Become (IsSegmentOf look) xs ys slot
become_kept look [] [] slot h = tt
become_kept look [] (y ∷ ys) slot h = absurd h
become_kept look (x ∷ xs) [] slot h = absurd h
become_kept look (x ∷ xs) (None ∷ ys) slot h = absurd h
become_kept look (x ∷ xs) (Some y ∷ ys) slot h = (subst (IsSegmentOf look slot x) (sym h.0.2) h.0.1, become_kept look xs ys (suc slot) h.1)

become_hollow : (look : Look) (xs : List ReadData) (ys : List (Option Data)) (slot : ℕ) → Become (IsHeldOf false look) xs ys slot → (zs : List (Option Data)) × Become (IsSegmentOf look) xs zs slot × AreHeld false zs ys
become_hollow look [] [] slot h = ([], tt, tt)
become_hollow look [] (y ∷ ys) slot h = absurd h
become_hollow look (x ∷ xs) [] slot h = absurd h
become_hollow look (x ∷ xs) (None ∷ ys) slot h = absurd h
become_hollow look (x ∷ xs) (Some y ∷ ys) slot h = let r = become_hollow look xs ys (suc slot) h.1 in (Some h.0.0 ∷ r.0, (h.0.1, r.1), (h.0.2, r.2))

-- where bytes are kept, what is held is what was read
pub on_kept : (keeps : Bool) (look : Look) (xs : List ReadData) (old new : List (Option Data)) (P : Type 0) → Filled (IsHeldOf keeps look) xs old new → (Filled (IsSegmentOf look) xs old new → P) → OnTrue keeps P
on_kept true look xs old new P h go = go (record { more = h.more; behind = h.behind; become = become_kept look xs h.more (length old) h.become })
on_kept false look xs old new P h go = tt

-- where they aren't, there is what would be held
pub on_hollow : (keeps : Bool) (look : Look) (xs : List ReadData) (old : List (Option Data)) (new : Arena Data) (P : Type 0) → old ≡ [] → Filled (IsHeldOf keeps look) xs old new.slots
    → ((full : Arena Data) → AreHeld false full.slots new.slots → Filled (IsSegmentOf look) xs old full.slots → P) → OnFalse keeps P
on_hollow true look xs old new P none h go = tt
on_hollow false look xs old new P none h go =
    let r = become_hollow look xs h.more (length old) h.become in
    let all : new.slots ≡ h.more = h.behind ∙ ap (λ (l : List (Option Data)). l ++ h.more) none in
    let full : Arena Data = record new { slots = r.0 } in
    go full (subst (AreHeld false r.0) (sym all) r.2) (record { more = r.0; behind = ap (λ (l : List (Option Data)). l ++ r.0) (sym none); become = r.1 })

functions_are : (reads all : List ReadFunction) (types others : List ℕ) (old new : List (Option Function)) → old ≡ [] → reads ≡ all → types ≡ others
    → new ≡ old ++ functions_from types (length old) reads → new ≡ functions_from others 0 all
functions_are reads all types others old new e whole same h = h ∙ rw (e, whole, same) refl

module _ {B : Type 0} (s : Sections) (i j k l : Ids) (old new : Spaces B) (fresh : IsNew i old) where
  pub filled : (reads : List ReadFunction) → reads ≡ s.functions.items
      → j ≡ with_types (parsed s.types (unparsed old.types)).ids i
      → new.types ≡ (parsed s.types (unparsed old.types)).table
      → new.functions.slots ≡ old.functions.slots ++ functions_from j.types (length old.functions.slots) reads
      → k ≡ with_functions (length old.functions.slots) (length reads) j
      → l ≡ with_items s k
      → Filled (IsImportOf (look_of l)) s.imports.items old.imports.slots new.imports.slots
      → Filled (IsTableOf (look_of l)) s.tables.items old.tables.slots new.tables.slots
      → Filled IsMemoryOf s.memories.items old.memories.slots new.memories.slots
      → Filled (IsTagOf (look_of l)) s.tags.items old.tags.slots new.tags.slots
      → Filled (IsGlobalOf (look_of l)) s.globals.items old.globals.slots new.globals.slots
      → Filled (IsExportOf (look_of l)) s.exports.items old.exports.slots new.exports.slots
      → Filled (IsElementOf (look_of l)) s.elements.items old.elements.slots new.elements.slots
      → Filled (IsSegmentOf (look_of l)) s.segments.items old.segments.slots new.segments.slots
      → Filled IsCustomOf (plain s.customs.items) old.customs.slots new.customs.slots
      → (begin : Option ℕ) → StartBecomes (look_of l) s.start begin → IsFilledFrom s begin l new
  filled reads whole types table functions numbers items imports tables memories tags globals exports elements segments customs begin start = record {
    numbers = are_numbers s l (numbered s i j k l old.types old.functions.slots fresh.numbers fresh.types fresh.functions types
        (numbers ∙ ap (λ (reads : List ReadFunction). with_functions (length old.functions.slots) (length reads) j) whole) items);
    types = table ∙ ap (λ (t : Table). (parsed s.types (unparsed t)).table) fresh.types;
    functions = functions_are reads s.functions.items j.types l.types old.functions.slots new.functions.slots fresh.functions whole
        (sym (ap (λ (m : Ids). m.types) items ∙ ap (λ (m : Ids). m.types) numbers)) functions;
    imports = emptied (IsImportOf (look_of l)) s.imports.items old.imports.slots new.imports.slots fresh.imports imports;
    tables = emptied (IsTableOf (look_of l)) s.tables.items old.tables.slots new.tables.slots fresh.tables tables;
    memories = emptied IsMemoryOf s.memories.items old.memories.slots new.memories.slots fresh.memories memories;
    tags = emptied (IsTagOf (look_of l)) s.tags.items old.tags.slots new.tags.slots fresh.tags tags;
    globals = emptied (IsGlobalOf (look_of l)) s.globals.items old.globals.slots new.globals.slots fresh.globals globals;
    exports = emptied (IsExportOf (look_of l)) s.exports.items old.exports.slots new.exports.slots fresh.exports exports;
    elements = emptied (IsElementOf (look_of l)) s.elements.items old.elements.slots new.elements.slots fresh.elements elements;
    segments = emptied (IsSegmentOf (look_of l)) s.segments.items old.segments.slots new.segments.slots fresh.segments segments;
    customs = emptied IsCustomOf (plain s.customs.items) old.customs.slots new.customs.slots fresh.customs customs;
    start = start;
  }

pub on_start : (P Q : Option ℕ → Type 0) (result : Result (Option ℕ) IntoError) → ((start : Option ℕ) → P start → Q start) → IfOk result P → IfOk result Q
on_start P Q (Ok start) h p = h start p
on_start P Q (Err e) h p = p
