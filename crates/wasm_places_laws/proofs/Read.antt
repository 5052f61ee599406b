-- Lemmas: the bytes that are due to a module read as it, each operator at the place where it begins.
use Rattle.std.specs.Prelude.{ℕ, suc, ◌+◌, ◌≡◌, ◌++◌, Bool, true, false, List, [], ◌∷◌, length, map, Option, Some, None, refl}
use Rattle.std.specs.List.{cons_option, filter_map}
use Rattle.std.specs.Option.{is_some}
use Rattle.std.proofs.Common.{ap, sym, ◌∙◌, subst, arith, eq-eqb}
use Rattle.wasm_features.specs.declared.WasmFeatures.{WasmFeatures}
use Rattle.wasm_grammar.specs.Modules.{Origin, Imported, Own, Body, Custom, Function, Module}
use Rattle.wasm_grammar.specs.States.{Chunk, State, nothing_yet}
use Rattle.wasm_body_grammar.specs.Rules.{Around}
use Rattle.wasm_body_grammar.specs.Codes.{coded, own_type, type_if_own, with_bodies}
use Rattle.wasm_sections.specs.Sections.{own_functions}
use Rattle.wasm_sections.specs.Modules.{FileEntry, has_all, has_bodies, has_data, state_of}
use Rattle.wasm_section_bytes.specs.Files.{IsElsewhere, file_bytes, file_placed, file_same, file_written, fold_placed}
use Rattle.wasm_module_bytes.specs.Bytes.{without_places}
use Rattle.wasm_modules.specs.Modules.{around, chunks_of, codes, module_of, same_of}
use Rattle.wasm_module_spellings.specs.Spelled.{ReadsIsSpelledAndRuled, SpellsCodes, SpellsModule}
use Rattle.wasm_ruled_modules.specs.Rules.{IsRuled, around_bodies, bare, bare_origin, bare_slot}
use Rattle.wasm_canonical.specs.Canonical.{first_customs, last_customs}
use Rattle.wasm_canonical.specs.Dense.{DueSectionsFill, LeavesModule, brought, count_of}
use Rattle.wasm_canonical.specs.Due.{bodies_due, counts_data}
use Rattle.wasm_canonical.specs.Formed.{DueSectionsAreFormed}
use Rattle.wasm_canonical.specs.Items.{SpelledItemsFit}
use Rattle.wasm_canonical.specs.Places.{PlacesAreNotRuled}
use Rattle.wasm_canonical.specs.Spelled.{OwnFunctionsHaveBodies, file_due}
use Rattle.wasm_places_laws.specs.Begun.{first_body, functions_begun, module_begun}
use Rattle.wasm_places_laws.specs.Read.{CanonicalAreReadAtPlaces, DueAreReadAtPlaces}
use Rattle.wasm_places_laws.proofs.Chunks.{bodies_stand, chunks_are, chunks_from, chunks_if}
use Rattle.wasm_places_laws.proofs.Dense.{count_same, dense_without, places_twice}
use Rattle.wasm_places_laws.proofs.Spelled.{codes_spelled, functions_filled, functions_same, own_bodies}

-- ---- what is there at the end

map_count : {A B : Type 0} (f : A → B) (xs : List A) → length (map f xs) ≡ length xs
map_count f [] = refl
map_count f (x ∷ xs) = ap (λ (n : ℕ). suc n) (map_count f xs)

bodies_there : (t : State) (bs : List (List ℕ)) → t.bodies ≡ chunks_if bs → own_functions t ≡ length bs → has_bodies t ≡ true
bodies_there t [] e n = subst (λ (o : Option (List Chunk)). has_bodies (record t { bodies = o }) ≡ true) (sym e) (eq-eqb (own_functions t) 0 n)
bodies_there t (b ∷ bs) e n = subst (λ (o : Option (List Chunk)). has_bodies (record t { bodies = o }) ≡ true) (sym e) refl

data_there : (t : State) (counted : Bool) (n : ℕ) → t.data_count ≡ count_of counted n → n ≡ length t.filled.segments → has_data t ≡ true
data_there t false n p e = subst (λ (o : Option ℕ). has_data (record t { data_count = o }) ≡ true) (sym p) refl
data_there t true n p e = subst (λ (o : Option ℕ). has_data (record t { data_count = o }) ≡ true) (sym p) (eq-eqb n (length t.filled.segments) e)

count_told : (counted : Bool) (n : ℕ) → is_some (count_of counted n) ≡ counted
count_told false n = refl
count_told true n = refl

types_bare : (fs : List (Option Function)) → filter_map own_type (map bare_slot fs) ≡ filter_map own_type fs
types_bare [] = refl
types_bare (None ∷ fs) = types_bare fs
types_bare (Some f ∷ fs) = (λ i. cons_option (own_bare f.origin i) (types_bare fs i))
  where
    own_bare : (o : Origin Body) → type_if_own f.ty (bare_origin o) ≡ type_if_own f.ty o
    own_bare (Imported n) = refl
    own_bare (Own x) = refl

-- ---- all of it

module _ (features : WasmFeatures) (counted : Bool) (first last : List Custom) (m : Module) (customs : m.customs ≡ map (λ (c : Custom). Some c) (first ++ last))
    (leaves : LeavesModule (bodies_due (around_bodies features counted m) m) counted first last m)
    (many : length m.functions ≡ (brought m).functions + length (bodies_due (around_bodies features counted m) m)) where
  abbrev a : Around
  a = around_bodies features counted m

  abbrev bodies : List (List ℕ)
  bodies = bodies_due a m

  abbrev x : FileEntry
  x = file_due features counted first last m

  abbrev t : State
  t = state_of (file_placed features x)

  abbrev ys : List Body
  ys = own_bodies (functions_begun a (first_body a m) m.functions)

  elsewhere_is : IsElsewhere features (state_of x) t
  elsewhere_is = fold_placed features nothing_yet nothing_yet x.1 refl

  filled_is : t.filled ≡ bare m
  filled_is = file_same features x ∙ leaves.filled ∙ ap (λ l. record (bare m) { customs = l }) (sym customs)

  count_is : t.data_count ≡ count_of counted (length m.segments)
  count_is = ap (λ (u : State). u.data_count) elsewhere_is ∙ leaves.counted_is

  stand_is : t.bodies ≡ chunks_if bodies
  stand_is = bodies_stand features bodies counted m first last

  chunks_is : chunks_of t.bodies ≡ chunks_from (first_body a m) bodies
  chunks_is = ap chunks_of stand_is ∙ chunks_are bodies

  own_is : own_functions t ≡ length bodies
  own_is =
      let functions : length t.filled.functions ≡ length m.functions = ap (λ (k : Module). length k.functions) filled_is ∙ map_count bare_slot m.functions in
      let imported : t.imported ≡ (brought m).functions = ap (λ (u : State). u.imported) elsewhere_is ∙ leaves.imported in
      omega (arith, functions, imported, many)

  told_is : is_some t.data_count ≡ counted
  told_is = ap (λ (o : Option ℕ). is_some o) count_is ∙ count_told counted (length m.segments)

  around_is : around features t ≡ a
  around_is = λ i. record { features = features; filled = filled_is i; same = same_of (filled_is i); counted = told_is i }

  complete_is : has_all (file_placed features x) ≡ true
  complete_is =
      let there = bodies_there t bodies stand_is own_is in
      let segments = data_there t counted (length m.segments) count_is (sym (ap (λ (k : Module). length k.segments) filled_is)) in
      rw (there, segments) refl

  codes_are : SpellsCodes a (coded a.filled (filter_map own_type m.functions) (chunks_from (first_body a m) bodies)) ys → SpellsCodes (around features t) (codes t) ys
  codes_are h =
      let placed = subst (λ (cs : List Chunk). SpellsCodes a (coded a.filled (filter_map own_type m.functions) cs) ys) (sym chunks_is) h in
      let bared = subst (λ (tys : List ℕ). SpellsCodes a (coded (bare m) tys (chunks_of t.bodies)) ys) (sym (types_bare m.functions)) placed in
      let there = subst (λ (k : Module). SpellsCodes a (coded k (filter_map own_type k.functions) (chunks_of t.bodies)) ys) (sym filled_is) bared in
      subst (λ (b : Around). SpellsCodes b (codes t) ys) (sym around_is) there

  joined_is : module_of t ys ≡ module_begun a m
  joined_is =
      ap (λ (k : Module). record k { functions = with_bodies k.functions ys }) filled_is
      ∙ ap (λ (fs : List (Option Function)). record m { functions = fs }) (functions_filled a (first_body a m) m.functions)

begun_same : (a : Around) (m : Module) → without_places (module_begun a m) ≡ without_places m
begun_same a m = ap (λ (fs : List (Option Function)). record m { functions = fs }) (functions_same a (first_body a m) m.functions)

pub due_read : ReadsIsSpelledAndRuled → DueSectionsFill → OwnFunctionsHaveBodies → DueSectionsAreFormed → PlacesAreNotRuled → DueAreReadAtPlaces
due_read reads fill own formed places features counted first last m dense ruled customs fits short =
    let a = around_bodies features counted m in
    let all = bodies_due a m in
    let leaves = fill all counted first last m dense in
    let many = own a m dense in
    let spelled : SpellsModule features (file_bytes features (file_due features counted first last m)) counted (module_begun a m) = record {
      entry = file_placed features (file_due features counted first last m);
      bodies = own_bodies (functions_begun a (first_body a m) m.functions);
      spelled = file_written features (file_due features counted first last m) fits.file;
      formed = formed features all counted first last m dense ruled fits.short many;
      complete = complete_is features counted first last m customs leaves many;
      coded = codes_are features counted first last m customs leaves many (codes_spelled a (first_body a m) m.functions ruled.bodies fits.bodies);
      told = told_is features counted first last m customs leaves many;
      joined = joined_is features counted first last m customs leaves many;
    } in
    reads.joins features (file_bytes features (file_due features counted first last m)) counted (module_begun a m) short spelled (places features counted m (module_begun a m) (begun_same a m) ruled)

pub canonical_read : DueAreReadAtPlaces → SpelledItemsFit → PlacesAreNotRuled → CanonicalAreReadAtPlaces
canonical_read read fits places features n dense ruled customs items short =
    let k = without_places n in
    let rules : IsRuled features (counts_data k) k = places features (counts_data k) n k (places_twice n) (subst (λ (b : Bool). IsRuled features b n) (sym (count_same n)) ruled) in
    let fit = fits features (counts_data k) (first_customs n) (last_customs n) k rules items.entries items.bodies items.not_long short in
    read features (counts_data k) (first_customs n) (last_customs n) k (dense_without n dense) rules customs fit short
