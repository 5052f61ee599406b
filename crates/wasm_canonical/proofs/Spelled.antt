-- Lemmas: the bytes that are due to a module spell it.
use Rattle.std.specs.Prelude.{ℕ, suc, ◌+◌, ◌≡◌, ◌++◌, Bool, true, false, List, [], ◌∷◌, length, map, Option, Some, None, refl}
use Rattle.std.specs.List.{cons_option, filter_map}
use Rattle.std.specs.Option.{is_some}
use Rattle.std.proofs.Common.{ap, sym, ◌∙◌, subst, arith, eq-eqb}
use Rattle.wasm_features.specs.declared.WasmFeatures.{WasmFeatures}
use Rattle.wasm_grammar.specs.Modules.{Origin, Imported, Own, Body, Custom, Function, Module}
use Rattle.wasm_grammar.specs.States.{Chunk, State, nothing_yet}
use Rattle.wasm_body_grammar.specs.Rules.{Around}
use Rattle.wasm_body_grammar.specs.Codes.{coded, own_type, type_if_own, with_bodies}
use Rattle.wasm_sections.specs.Sections.{own_functions}
use Rattle.wasm_sections.specs.Modules.{FileEntry, has_all, has_bodies, has_data, state_of}
use Rattle.wasm_section_bytes.specs.Files.{IsElsewhere, bodies_of, file_bodies, file_placed, file_same, file_written, fold_placed}
use Rattle.wasm_module_bytes.specs.Bytes.{slot_unplaced, without_places}
use Rattle.wasm_module_rules.specs.wasm_modules.Modules.{around, chunks_of, codes, module_of, same_of}
use Rattle.wasm_module_spellings.specs.Spelled.{SpellsCodes}
use Rattle.wasm_ruled_modules.specs.Rules.{around_bodies, bare, bare_origin, bare_slot}
use Rattle.wasm_canonical.specs.Due.{bodies_due}
use Rattle.wasm_canonical.specs.Dense.{DueSectionsFill, LeavesModule, bodies_if, brought, count_of}
use Rattle.wasm_canonical.specs.Bodies.{DueBodiesAreSpelled, bytes_of}
use Rattle.wasm_canonical.specs.Formed.{DueSectionsAreFormed}
use Rattle.wasm_canonical.specs.Spelled.{DueModulesAreSpelled, OwnFunctionsHaveBodies, file_due}

-- ---- what is there at the end

map_count : {A B : Type 0} (f : A → B) (xs : List A) → length (map f xs) ≡ length xs
map_count f [] = refl
map_count f (x ∷ xs) = ap (λ (n : ℕ). suc n) (map_count f xs)

chunks_are : (o : Option (List Chunk)) (bs : List (List ℕ)) → bodies_of o ≡ bodies_if bs → bytes_of (chunks_of o) ≡ bs
chunks_are None [] e = refl
chunks_are None (b ∷ bs) e = absurd cc
chunks_are (Some cs) [] e = absurd cc
chunks_are (Some cs) (b ∷ bs) e = some_is (bytes_of cs) (b ∷ bs) e
  where
    some_is : (x y : List (List ℕ)) → (let some : List (List ℕ) → Option (List (List ℕ)) = λ x. Some x in some x ≡ some y) → x ≡ y
    some_is x y e = cc

bodies_there : (t : State) (o : Option (List Chunk)) (bs : List (List ℕ)) → t.bodies ≡ o → bodies_of o ≡ bodies_if bs → own_functions t ≡ length bs → has_bodies t ≡ true
bodies_there t (Some cs) bs p q n = subst (λ (o : Option (List Chunk)). has_bodies (record t { bodies = o }) ≡ true) (sym p) refl
bodies_there t None (b ∷ bs) p q n = absurd cc
bodies_there t None [] p q n = subst (λ (o : Option (List Chunk)). has_bodies (record t { bodies = o }) ≡ true) (sym p) (eq-eqb (own_functions t) 0 n)

data_there : (t : State) (counted : Bool) (n : ℕ) → t.data_count ≡ count_of counted n → n ≡ length t.filled.segments → has_data t ≡ true
data_there t false n p e = subst (λ (o : Option ℕ). has_data (record t { data_count = o }) ≡ true) (sym p) refl
data_there t true n p e = subst (λ (o : Option ℕ). has_data (record t { data_count = o }) ≡ true) (sym p) (eq-eqb n (length t.filled.segments) e)

count_told : (counted : Bool) (n : ℕ) → is_some (count_of counted n) ≡ counted
count_told false n = refl
count_told true n = refl

types_bare : (fs : List (Option Function)) → filter_map own_type (map bare_slot fs) ≡ filter_map own_type fs
types_bare [] = refl
types_bare (None ∷ fs) = types_bare fs
types_bare (Some f ∷ fs) = (λ i. cons_option (own_bare f.origin i) (types_bare fs i))
  where
    own_bare : (o : Origin Body) → type_if_own f.ty (bare_origin o) ≡ type_if_own f.ty o
    own_bare (Imported n) = refl
    own_bare (Own x) = refl

-- ---- all of it

module _ (features : WasmFeatures) (counted : Bool) (first last : List Custom) (m : Module) (customs : m.customs ≡ map (λ (c : Custom). Some c) (first ++ last))
    (leaves : LeavesModule (bodies_due (around_bodies features counted m) m) counted first last m)
    (many : length m.functions ≡ (brought m).functions + length (bodies_due (around_bodies features counted m) m)) where
  abbrev a : Around
  a = around_bodies features counted m

  abbrev x : FileEntry
  x = file_due features counted first last m

  abbrev t : State
  t = state_of (file_placed features x)

  elsewhere_is : IsElsewhere features (state_of x) t
  elsewhere_is = fold_placed features nothing_yet nothing_yet x.1 refl

  filled_is : t.filled ≡ bare m
  filled_is = file_same features x ∙ leaves.filled ∙ ap (λ l. record (bare m) { customs = l }) (sym customs)

  count_is : t.data_count ≡ count_of counted (length m.segments)
  count_is = ap (λ (u : State). u.data_count) elsewhere_is ∙ leaves.counted_is

  bodies_are : bodies_of t.bodies ≡ bodies_if (bodies_due a m)
  bodies_are = file_bodies features x ∙ leaves.bodies_are

  own_is : own_functions t ≡ length (bodies_due a m)
  own_is =
      let functions : length t.filled.functions ≡ length m.functions = ap (λ (k : Module). length k.functions) filled_is ∙ map_count bare_slot m.functions in
      let imported : t.imported ≡ (brought m).functions = ap (λ (u : State). u.imported) elsewhere_is ∙ leaves.imported in
      omega (arith, functions, imported, many)

  told_is : is_some t.data_count ≡ counted
  told_is = ap (λ (o : Option ℕ). is_some o) count_is ∙ count_told counted (length m.segments)

  around_is : around features t ≡ a
  around_is = λ i. record { features = features; filled = filled_is i; same = same_of (filled_is i); counted = told_is i }

  complete_is : has_all (file_placed features x) ≡ true
  complete_is =
      let bodies = bodies_there t t.bodies (bodies_due a m) refl bodies_are own_is in
      let segments = data_there t counted (length m.segments) count_is (sym (ap (λ (k : Module). length k.segments) filled_is)) in
      rw (bodies, segments) refl

  codes_are : (ys : List Body) → SpellsCodes a (coded a.filled (filter_map own_type m.functions) (chunks_of t.bodies)) ys → SpellsCodes (around features t) (codes t) ys
  codes_are ys h =
      let bared = subst (λ (tys : List ℕ). SpellsCodes a (coded (bare m) tys (chunks_of t.bodies)) ys) (sym (types_bare m.functions)) h in
      let there = subst (λ (k : Module). SpellsCodes a (coded k (filter_map own_type k.functions) (chunks_of t.bodies)) ys) (sym filled_is) bared in
      subst (λ (b : Around). SpellsCodes b (codes t) ys) (sym around_is) there

  same_module : (ys : List Body) → map slot_unplaced (with_bodies (map bare_slot m.functions) ys) ≡ map slot_unplaced m.functions → without_places (module_of t ys) ≡ without_places m
  same_module ys h =
      ap (λ (k : Module). without_places (record k { functions = with_bodies k.functions ys })) filled_is ∙ ap (λ (fs : List (Option Function)). record m { functions = fs }) h

pub modules_spelled : DueSectionsFill → OwnFunctionsHaveBodies → DueBodiesAreSpelled → DueSectionsAreFormed → DueModulesAreSpelled
modules_spelled fill own codes_due formed features counted first last m dense ruled customs fits =
    let bodies = bodies_due (around_bodies features counted m) m in
    let leaves = fill bodies counted first last m dense in
    let many = own (around_bodies features counted m) m dense in
    let s = t features counted first last m customs leaves many in
    let chunks = chunks_are s.bodies bodies (bodies_are features counted first last m customs leaves many) in
    let all = codes_due (around_bodies features counted m) m.functions (chunks_of s.bodies) chunks ruled.bodies fits.bodies in (
      module_of s all.0,
      record {
        entry = file_placed features (file_due features counted first last m);
        bodies = all.0;
        spelled = file_written features (file_due features counted first last m) fits.file;
        formed = formed features bodies counted first last m dense ruled fits.short many;
        complete = complete_is features counted first last m customs leaves many;
        coded = codes_are features counted first last m customs leaves many all.0 all.1;
        told = told_is features counted first last m customs leaves many;
        joined = refl;
      },
      same_module features counted first last m customs leaves many all.0 all.2,
    )
