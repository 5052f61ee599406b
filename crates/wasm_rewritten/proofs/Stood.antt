-- Lemmas: what is written holds the kept functions of the file, in normal form and renamed.
use Rattle.std.specs.Prelude.{ℕ, ◌≡◌, ◌↔◌, Bool, IsTrue, true, List, [], ◌∷◌, map, Option, Some, None, slice_get, slice_index_or, refl}
use Rattle.std.specs.List.{AllByRecursion}
use Rattle.std.specs.Option.{option_map}
use Rattle.std.proofs.Common.{ap, sym, ◌∙◌, subst, inl, inr}
use Rattle.std.proofs.lemmas.Bool.{eq-eqb, eqb-true}
use Rattle.walrus_forms.specs.Renaming.{at, renamed_value}
use Rattle.wasm_features.specs.declared.WasmFeatures.{WasmFeatures}
use Rattle.wasm_formats.specs.declared.fault.Space.{Space as FileSpace}
use Rattle.wasm_formats.specs.declared.fault.Space.TheVariants as spaces
use Rattle.wasm_operators.specs.declared.block_type.BlockType.{BlockType}
use Rattle.wasm_operators.specs.declared.block_type.BlockType.TheVariants as blocks
use Rattle.wasm_operators.specs.Items.{Space, Types, Functions, Tables, Memories, Tags, Globals, ElementSegments, DataSegments, Locals, Labels}
use Rattle.wasm_operators.specs.Names.{Name, Renaming, operator_names}
use Rattle.wasm_operators.specs.Operators.{Seen}
use Rattle.wasm_grammar.specs.Modules.{Item, Origin, Imported, Own, Placed, Body, Function, Module}
use Rattle.wasm_body_grammar.specs.Codes.{param_count}
use Rattle.wasm_body_grammar.specs.Frames.{Plain}
use Rattle.wasm_body_grammar.specs.Rules.{Around}
use Rattle.wasm_ruled_modules.specs.wasm_module_rules.Linked.{Each}
use Rattle.wasm_ruled_modules.specs.Rules.{GroupsBelow, HasBody, OriginRuled, around_bodies, bare}
use Rattle.wasm_normal_form.specs.Bodies.{new_number, used_keys}
use Rattle.wasm_normal_form.specs.Normal.{normal_ops}
use Rattle.wasm_ruled_normal.specs.Normal.{NormalOperatorsAreRuled, text_of}
use Rattle.wasm_ruled_renamed.specs.Bodies.{with_numbers}
use Rattle.wasm_run_names.specs.Picks.{BlockTypesStand, block_pick}
use Rattle.wasm_normal_modules.specs.Modules.{by_types, normal_function, normal_origin}
use Rattle.wasm_normal_modules.specs.Numbered.{NamesDecide}
use Rattle.wasm_normal_modules.proofs.Slots.{slot_sent}
use Rattle.wasm_part.specs.Emitted.{EmittedTypesStand}
use Rattle.wasm_merged_modules.specs.Merged.{TypesAreMerged, ids_of}
use Rattle.wasm_references.specs.References.{Numbered}
use Rattle.wasm_part.specs.Part.{IsIn, Plan}
use Rattle.wasm_part.specs.Closed.{ItemIn, NumberIn}
use Rattle.wasm_part.specs.Kept.{HasKept}
use Rattle.wasm_part.proofs.Picked.{each_at}
use Rattle.wasm_part.specs.Seen.{file_seen}
use Rattle.wasm_run_laws.specs.wasm_runs.Modules.{body_of, own_body, program_of, signature_in}
use Rattle.wasm_run_laws.specs.wasm_runs.Programs.{operators}
use Rattle.wasm_run_laws.specs.wasm_runs.Renamed.{renamed_signature, within}
use Rattle.wasm_run_laws.specs.Stands.{PicksKeep, normal_code}
use Rattle.wasm_references.specs.Roots.{starts}
use Rattle.wasm_references.specs.Kept.{root}
use Rattle.wasm_rewritten.specs.Runs.{EntriesAreKept, KeptIsDecided, PicksKeepThrough, WrittenStandsNormal, is_number, maps_of, pick_in}
use Rattle.wasm_rewritten.proofs.There.{normal_text, there}
use Rattle.wasm_rewritten.proofs.Named.{ComesIn, OriginIn, SlotIn, export_in, names_in, names_kept, ops_before}
use Rattle.wasm_rewritten.proofs.Typed.{TypesThere, ops_there, ops_typed}

some_same : {A : Type 0} (x y : A) → (let some : A → Option A = λ x. Some x in some x ≡ some y) → x ≡ y
some_same x y e = cc

-- bodies don't show in block types
bare_signature : (m : Module) (ty : BlockType) → signature_in (bare m) ty ≡ signature_in m ty
bare_signature m blocks.Empty = refl
bare_signature m (blocks.Value ty) = refl
bare_signature m (blocks.Type k) = refl

-- ---- locals aside, a body's renaming is that of types

module _ (p : Plan) (number : ℕ → ℕ) (r : Renaming) where
  name_without : (space : Space) (n : ℕ) → NumberIn p space (with_numbers number r space n) → NumberIn p space (r space n)
  name_without Types n h = h
  name_without Functions n h = h
  name_without Tables n h = h
  name_without Memories n h = h
  name_without Tags n h = h
  name_without Globals n h = h
  name_without ElementSegments n h = h
  name_without DataSegments n h = h
  name_without Locals n h = tt
  name_without Labels n h = tt

  names_without : (names : List Name) → AllByRecursion (ComesIn p (with_numbers number r)) names → AllByRecursion (ComesIn p r) names
  names_without [] h = tt
  names_without (n ∷ names) h = (name_without n.0 n.1 h.0, names_without names h.1)

  ops_without : (ops : List Seen) → AllByRecursion (λ (o : Seen). AllByRecursion (ComesIn p (with_numbers number r)) (operator_names o)) ops → AllByRecursion (λ (o : Seen). AllByRecursion (ComesIn p r) (operator_names o)) ops
  ops_without [] h = tt
  ops_without (o ∷ ops) h = (names_without (operator_names o) h.0, ops_without ops h.1)

module _ (place : Option ℕ → ℕ) (features : WasmFeatures) (file : Module) (p : Plan) where
  abbrev a : Around
  a = around_bodies features true file

  abbrev ids : ℕ → ℕ
  ids = at (ids_of file.groups)

  abbrev pick : BlockType → BlockType
  pick = pick_in features file

  abbrev AllCome : List Seen → Type 0
  AllCome = AllByRecursion (λ (o : Seen). AllByRecursion (ComesIn p (by_types ids)) (operator_names o))

  -- what the normal form of a function's body names is in the part
  module _ (v : Numbered) (keep : Bool) (pushed : List Item) (kept : HasKept v keep pushed p) where
    origin_comes : (params : ℕ) (x : Origin Body) → OriginIn v keep pushed p kept (normal_origin place a ids params x) → (ops : List Seen) → own_body x ≡ Some ops → AllCome (normal_code pick ops)
    origin_comes params (Imported i) h ops e = absurd cc
    origin_comes params (Own x) h ops e =
        let text = normal_ops (block_pick a) (text_of x.operators) in
        let number : ℕ → ℕ = λ n. new_number params (used_keys params (map (renamed_value (by_types ids Types)) x.locals) text) n in
        let all = ops_without p number (by_types ids) (operators text) (ops_before p (with_numbers number (by_types ids)) place text h) in
        subst AllCome (sym (ap (normal_code pick) (sym (some_same (map (λ (o : Placed). o.op) x.operators) ops e)) ∙ normal_text pick x.operators)) all

    slot_comes : (o : Option Function) → SlotIn v keep pushed p kept (option_map (normal_function place a ids) o) → (ops : List Seen) → body_of o ≡ Some ops → AllCome (normal_code pick ops)
    slot_comes None h ops e = absurd cc
    slot_comes (Some f) h ops e = origin_comes (param_count a.filled f.ty) f.origin h ops e

  -- and its types are there
  module _ (normal : NormalOperatorsAreRuled) (below : GroupsBelow 0 file.groups) where
    origin_there : (params : ℕ) (x : Origin Body) → OriginRuled a params x → (ops : List Seen) → own_body x ≡ Some ops → AllByRecursion (TypesThere file) (normal_code pick ops)
    origin_there params (Imported i) h ops e = absurd cc
    origin_there params (Own x) h ops e =
        let text = normal_ops (block_pick a) (text_of x.operators) in
        let all = ops_there file features place _ (Plain ∷ []) text (normal place a _ x.operators below h.operators) in
        subst (AllByRecursion (TypesThere file)) (sym (ap (normal_code pick) (sym (some_same (map (λ (o : Placed). o.op) x.operators) ops e)) ∙ normal_text pick x.operators)) all

    slot_there : (f : ℕ) → Each (HasBody a) file.functions → (o : Option Function) → slice_index_or file.functions f None ≡ o → (ops : List Seen) → body_of o ≡ Some ops → AllByRecursion (TypesThere file) (normal_code pick ops)
    slot_there f h None at ops e = absurd cc
    slot_there f h (Some fn) at ops e = origin_there (param_count a.filled fn.ty) fn.origin (each_at (HasBody a) file.functions f fn h at) ops e

module _ (through : PicksKeepThrough) (decide : NamesDecide) (normal : NormalOperatorsAreRuled) (stand : BlockTypesStand) (merged : TypesAreMerged) (emitted : EmittedTypesStand) where
  pub stands_normal : WrittenStandsNormal
  stands_normal place keep features more file n t p s asked =
      let a = around_bodies features true file in
      let ids = at (ids_of file.groups) in
      let pick = pick_in features file in
      let v = file_seen place features more file in
      let w = s.writes in
      let types = (merged place features true more file asked.0.groups asked.1).0.retypes in
      let come : (f : ℕ) (ops : List Seen) → IsIn p Functions f → (program_of file).body f ≡ Some ops → AllByRecursion (λ (o : Seen). AllByRecursion (ComesIn p (by_types ids)) (operator_names o)) (normal_code pick ops)
      = λ f ops is e. slot_comes place features file p v keep [] w.kept (slice_index_or file.functions f None)
      (subst (SlotIn v keep [] p w.kept) (slot_sent (normal_function place a ids) file.functions f) (names_in v keep [] p w.kept f is)) ops e in
      record {
        there = λ f is. there decide place features more file p w.labels w.locals n s.whole f is;
        names = λ f ops is e. names_kept p (by_types ids) (λ n. refl) (normal_code pick ops) (come f ops is e);
        types = λ f ops is e.
            ops_typed stand emitted place features more file n t p w.indices w.emitted w.types w.index w.known s.whole types f (normal_code pick ops) (come f ops is e)
            (slot_there place features file p normal asked.0.groups f asked.0.bodies (slice_index_or file.functions f None) refl ops e);
        picks = λ f. picked f;
      }
    where
      picked : (f : ℕ) → PicksKeep (within (maps_of features file p) f) (pick_in features file) (signature_in file)
      picked f ty =
          let a = around_bodies features true file in
          let r = within (maps_of features file p) f in
          ap (renamed_signature r) (sym (bare_signature file (block_pick a ty))) ∙ through a r (p.renames Types) (λ n. refl) ty ∙ ap (renamed_signature r) (bare_signature file ty)

-- ---- entries

pub entries_kept : EntriesAreKept
entries_kept place keep features more file n t p s f (inl (e, x, is, space, number)) =
    let v = file_seen place features more file in
    let h = export_in v keep [] p s.writes.kept file refl e x is in
    subst (λ (k : ℕ). ItemIn p spaces.Function k) number (subst (λ (z : FileSpace). ItemIn p z x.item.number) space h)
entries_kept place keep features more file n t p s f (inr e) =
    let v = file_seen place features more file in s.writes.kept.has Functions f tt (inl (root (starts f e)))

pub number_is : (o : Option ℕ) (n : ℕ) → IsTrue (is_number o n) ↔ (o ≡ Some n)
number_is None n = (λ h. cc, λ e. cc)
number_is (Some k) n = (λ h. ap (λ (i : ℕ). Some i) (eqb-true k n h), λ e. eq-eqb k n (some_same k n e))

pub kept_decided : KeptIsDecided
kept_decided p f = number_is (slice_get (p.listed Functions) (p.renames Functions f)) f
