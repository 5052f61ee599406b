-- Lemmas: the body of a kept function of the file stands in what is written, in normal form and renamed.
use Rattle.std.specs.Prelude.{ℕ, zero, suc, ◌≡◌, true, List, [], ◌∷◌, map, Option, Some, None, slice_get, slice_index_or, refl}
use Rattle.std.specs.List.{AllByRecursion}
use Rattle.std.specs.Option.{option_map}
use Rattle.std.proofs.Common.{ap, sym, ◌∙◌}
use Rattle.walrus_forms.specs.Renaming.{at, renamed_value}
use Rattle.walrus_forms.specs.Records.{TypeGroup}
use Rattle.wasm_features.specs.declared.WasmFeatures.{WasmFeatures}
use Rattle.wasm_operators.specs.declared.block_type.BlockType.{BlockType}
use Rattle.wasm_operators.specs.Items.{Space, Types, Functions, Tables, Memories, Tags, Globals, ElementSegments, DataSegments, Locals, Labels}
use Rattle.wasm_operators.specs.Operators.{Seen}
use Rattle.wasm_operators.specs.Names.{Name, Renaming, operator_names, renamed_operator}
use Rattle.wasm_operators.specs.NameLaws.{after}
use Rattle.wasm_operators.specs.Renamed.{renames_twice}
use Rattle.wasm_grammar.specs.Modules.{Origin, Imported, Own, Placed, Body, Function, Module}
use Rattle.wasm_body_grammar.specs.Codes.{param_count}
use Rattle.wasm_body_grammar.specs.Rules.{Around}
use Rattle.wasm_ruled_modules.specs.Rules.{around_bodies}
use Rattle.wasm_normal_form.specs.Roles.{Placed as Text}
use Rattle.wasm_normal_form.specs.Bodies.{new_number, used_keys}
use Rattle.wasm_normal_form.specs.Normal.{normal_ops}
use Rattle.wasm_ruled_normal.specs.Normal.{located, text_of}
use Rattle.wasm_ruled_renamed.specs.Bodies.{with_numbers}
use Rattle.wasm_ruled_renamed.specs.Renamed.{renamed_placed}
use Rattle.wasm_run_names.specs.Picks.{block_pick}
use Rattle.wasm_normal_modules.specs.Modules.{by_types, normal_function, normal_origin}
use Rattle.wasm_normal_modules.specs.Numbered.{NamesDecide}
use Rattle.wasm_normal_modules.proofs.Slots.{slot_sent}
use Rattle.wasm_merged_modules.specs.Merged.{ids_of, merged_module}
use Rattle.wasm_module_bytes.specs.Bytes.{origin_unplaced, slot_unplaced, unplaced, without_places}
use Rattle.wasm_part.specs.Part.{IsIn, Plan, part, picked, renumbered_body, renumbered_function, renumbered_own, renumbered_placed}
use Rattle.wasm_run_laws.specs.wasm_runs.Modules.{body_of, own_body, program_of}
use Rattle.wasm_run_laws.specs.wasm_runs.Programs.{operators}
use Rattle.wasm_run_laws.specs.wasm_runs.Renamed.{within}
use Rattle.wasm_run_laws.specs.Stands.{normal_code, renamed_code}
use Rattle.wasm_run_laws.proofs.Nested.{normal_unplaced}
use Rattle.wasm_rewritten.specs.Runs.{maps_of, numbers_of, pick_in, slot_numbers}

-- ---- places don't show

ops_unplaced : (ops : List Placed) → map (λ (o : Placed). o.op) (map unplaced ops) ≡ map (λ (o : Placed). o.op) ops
ops_unplaced [] = refl
ops_unplaced (o ∷ ops) = ap (λ (x : List Seen). o.op ∷ x) (ops_unplaced ops)

own_unplaced : (x : Origin Body) → own_body (origin_unplaced x) ≡ own_body x
own_unplaced (Imported i) = refl
own_unplaced (Own x) = ap (λ (l : List Seen). Some l) (ops_unplaced x.operators)

slot_body : (o : Option Function) → body_of (slot_unplaced o) ≡ body_of o
slot_body None = refl
slot_body (Some f) = own_unplaced f.origin

at_slot : (fs : List (Option Function)) (k : ℕ) → slice_index_or (map slot_unplaced fs) k None ≡ slot_unplaced (slice_index_or fs k None)
at_slot [] k = refl
at_slot (x ∷ fs) zero = refl
at_slot (x ∷ fs) (suc k) = at_slot fs k

some_same : {A : Type 0} (x y : A) → (let some : A → Option A = λ x. Some x in some x ≡ some y) → x ≡ y
some_same x y e = cc

picked_at : {A : Type 0} (f : A → A) (ns : List ℕ) (xs : List (Option A)) (k n : ℕ) → slice_get ns k ≡ Some n → slice_index_or (picked f ns xs) k None ≡ option_map f (slice_index_or xs n None)
picked_at f [] xs k n e = absurd cc
picked_at f (m ∷ ns) xs zero n e = ap (λ (i : ℕ). option_map f (slice_index_or xs i None)) (some_same m n e)
picked_at f (m ∷ ns) xs (suc k) n e = picked_at f ns xs k n e

pub text_ops : (xs : List Placed) → operators (text_of xs) ≡ map (λ (o : Placed). o.op) xs
text_ops [] = refl
text_ops (o ∷ xs) = ap (λ (l : List Seen). o.op ∷ l) (text_ops xs)

pub normal_text : (pick : BlockType → BlockType) (xs : List Placed) → normal_code pick (map (λ (o : Placed). o.op) xs) ≡ operators (normal_ops pick (text_of xs))
normal_text pick xs = ap (normal_code pick) (sym (text_ops xs)) ∙ normal_unplaced pick (text_of xs)

module _ (decide : NamesDecide) (place : Option ℕ → ℕ) (features : WasmFeatures) (more : List TypeGroup) (file : Module) (p : Plan) (labels : (n : ℕ) → p.renames Labels n ≡ n) (locals : (n : ℕ) → p.renames Locals n ≡ n) where
  abbrev a : Around
  a = around_bodies features true file

  abbrev ids : ℕ → ℕ
  ids = at (ids_of file.groups)

  abbrev into : ℕ → Renaming
  into f = within (maps_of features file p) f

  abbrev first : (ℕ → ℕ) → Renaming
  first number = with_numbers number (by_types ids)

  module _ (f : ℕ) (number : ℕ → ℕ) (is : (n : ℕ) → (maps_of features file p).locals f n ≡ number n) where
    number_moved : (space : Space) (n : ℕ) → after p.renames (first number) space n ≡ into f space n
    number_moved Types n = refl
    number_moved Functions n = refl
    number_moved Tables n = refl
    number_moved Memories n = refl
    number_moved Tags n = refl
    number_moved Globals n = refl
    number_moved ElementSegments n = refl
    number_moved DataSegments n = refl
    number_moved Locals n = locals (number n) ∙ sym (is n)
    number_moved Labels n = labels n

    names_moved : (names : List Name) → AllByRecursion (λ (n : Name). after p.renames (first number) n.0 n.1 ≡ into f n.0 n.1) names
    names_moved [] = tt
    names_moved (n ∷ names) = (number_moved n.0 n.1, names_moved names)

    op_moved : (op : Seen) → renamed_operator p.renames (renamed_operator (first number) op) ≡ renamed_operator (into f) op
    op_moved op = renames_twice (first number) p.renames op ∙ decide (after p.renames (first number)) (into f) op (names_moved (operator_names op))

    ops_moved : (ops : List Text) → map (λ (o : Placed). o.op) (map (renumbered_placed p.renames) (map (renamed_placed (first number)) (map (located place) ops))) ≡ renamed_code (into f) (operators ops)
    ops_moved [] = refl
    ops_moved (o ∷ ops) =
        ap (λ (x : Seen). x ∷ map (λ (o : Placed). o.op) (map (renumbered_placed p.renames) (map (renamed_placed (first number)) (map (located place) ops)))) (op_moved o.op)
        ∙ ap (λ (l : List Seen). renamed_operator (into f) o.op ∷ l) (ops_moved ops)

  -- ---- a function's body

  abbrev Stood : ℕ → Origin Body → Origin Body → Type 0
  Stood f new old = own_body new ≡ option_map (λ ops. renamed_code (into f) (normal_code (pick_in features file) ops)) (own_body old)

  origin_stands : (f params : ℕ) (x : Origin Body) → ((n : ℕ) → (maps_of features file p).locals f n ≡ numbers_of a (by_types ids) params x n)
      → Stood f (renumbered_own p.renames p.brings (renumbered_body p.renames) (normal_origin place a ids params x)) x
  origin_stands f params (Imported i) is = refl
  origin_stands f params (Own x) is =
      let ops = normal_ops (block_pick a) (text_of x.operators) in
      let number : ℕ → ℕ = λ n. new_number params (used_keys params (map (renamed_value (by_types ids Types)) x.locals) ops) n in
      ap (λ (l : List Seen). Some l) (ops_moved f number is ops ∙ ap (renamed_code (into f)) (sym (normal_text (block_pick a) x.operators)))

  slot_stands : (f : ℕ) (o : Option Function) → ((n : ℕ) → (maps_of features file p).locals f n ≡ slot_numbers a (by_types ids) o n)
      → body_of (option_map (renumbered_function p.renames p.brings) (option_map (normal_function place a ids) o)) ≡ option_map (λ ops. renamed_code (into f) (normal_code (pick_in features file) ops)) (body_of o)
  slot_stands f None is = refl
  slot_stands f (Some fn) is = origin_stands f (param_count a.filled fn.ty) fn.origin is

  abbrev merged : Module
  merged = merged_module place features true more file

  pub there : (n : Module) → without_places n ≡ record (without_places (part p merged)) { customs = n.customs } → (f : ℕ) → IsIn p Functions f
      → (program_of n).body (p.renames Functions f) ≡ option_map (λ ops. renamed_code (into f) (normal_code (pick_in features file) ops)) ((program_of file).body f)
  there n whole f is =
      let k = p.renames Functions f in
      let own : List (Option Function) = (part p merged).functions in
      let one : body_of (slice_index_or n.functions k None) ≡ body_of (slice_index_or (map slot_unplaced n.functions) k None) =
      sym (ap body_of (at_slot n.functions k) ∙ slot_body (slice_index_or n.functions k None)) in
      let two : body_of (slice_index_or (map slot_unplaced n.functions) k None) ≡ body_of (slice_index_or (map slot_unplaced own) k None) =
      ap (λ (m : Module). body_of (slice_index_or m.functions k None)) whole in
      let three : body_of (slice_index_or (map slot_unplaced own) k None) ≡ body_of (slice_index_or own k None) =
      ap body_of (at_slot own k) ∙ slot_body (slice_index_or own k None) in
      let four : slice_index_or own k None ≡ option_map (renumbered_function p.renames p.brings) (slice_index_or merged.functions f None) =
      picked_at (renumbered_function p.renames p.brings) (p.listed Functions) merged.functions k f is in
      let five : slice_index_or merged.functions f None ≡ option_map (normal_function place a ids) (slice_index_or file.functions f None) =
      slot_sent (normal_function place a ids) file.functions f in
      one ∙ two ∙ three ∙ ap body_of (four ∙ ap (option_map (renumbered_function p.renames p.brings)) five) ∙ slot_stands f (slice_index_or file.functions f None) (λ n. refl)
