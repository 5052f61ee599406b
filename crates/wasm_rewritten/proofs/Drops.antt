-- Lemmas: rewriting again what was rewritten drops none of its items but types.
use Rattle.std.specs.Prelude.{ℕ, ◌≡◌, ◌<◌, Bool, true, false, List, [], ◌++◌, length, map, Option, Some, None, IsSome, slice_get, slice_index_or, refl}
use Rattle.std.specs.Option.{option_map}
use Rattle.std.proofs.Common.{ap, sym, ◌∙◌, subst, arith, inl, inr}
use Rattle.std.proofs.lemmas.Bool.{cases_lt}
use Rattle.std.proofs.lemmas.List.{length-map}
use Rattle.walrus_forms.specs.Renaming.{at}
use Rattle.walrus_types.specs.Table.{Table}
use Rattle.wasm_features.specs.declared.WasmFeatures.{WasmFeatures}
use Rattle.wasm_formats.specs.declared.fault.Space.{Space as FileSpace}
use Rattle.wasm_formats.specs.declared.fault.Space.TheVariants as spaces
use Rattle.wasm_operators.specs.Items.{Functions, Memories, DataSegments}
use Rattle.wasm_operators.specs.NameLaws.{NamesAreRenamed}
use Rattle.wasm_operators.specs.Operators.{Seen}
use Rattle.wasm_grammar.specs.Modules.{Item, Origin, Placed, Body, Function, Memory, Module}
use Rattle.wasm_grammar.specs.States.{count_of}
use Rattle.wasm_modules.specs.Laws.{ReadsOnce}
use Rattle.wasm_references.specs.References.{Numbered, item, slot}
use Rattle.wasm_references.specs.Kept.{IsFirstMemory, IsReached, IsSpared}
use Rattle.wasm_normal_form.specs.Laws.{NormalNests, TreeIsOne}
use Rattle.wasm_normal_modules.specs.Numbered.{NamesDecide}
use Rattle.wasm_normal_modules.proofs.Slots.{get_some}
use Rattle.wasm_ruled_modules.specs.Rules.{around_bodies}
use Rattle.wasm_merged_modules.specs.Merged.{ids_of, kept_of}
use Rattle.wasm_module_bytes.specs.Bytes.{slot_unplaced}
use Rattle.wasm_part.specs.Part.{IsIn, Plan, picked, renumbered_function, renumbered_item, renumbered_memory}
use Rattle.wasm_part.specs.Kept.{HasKept}
use Rattle.wasm_part.specs.Closed.{ItemIn}
use Rattle.wasm_part.specs.Handlers.{handler_groups}
use Rattle.wasm_part.specs.Seen.{file_seen, seen_as}
use Rattle.wasm_part.specs.Stands.{Stands}
use Rattle.wasm_part.proofs.Picked.{all_at, picked_at, slot_there, some_same}
use Rattle.wasm_run_laws.specs.wasm_runs.Modules.{body_of, own_body, program_of}
use Rattle.wasm_run_laws.specs.wasm_runs.Renamed.{within}
use Rattle.wasm_run_laws.specs.Stands.{normal_code, renamed_code}
use Rattle.wasm_rewritten.specs.Rewritten.{Rewritten, RewritingAgainDropsNothing, WrittenIsReached}
use Rattle.wasm_rewritten.specs.Runs.{is_number, maps_of, pick_in}
use Rattle.wasm_rewritten.proofs.Again.{BodiesAreNormal, still_reached}
use Rattle.wasm_rewritten.proofs.Named.{item_in}
use Rattle.wasm_rewritten.proofs.Reached.{found_at, reached_so}
use Rattle.wasm_rewritten.proofs.Stood.{number_is}
use Rattle.wasm_rewritten.proofs.There.{there}
use Rattle.wasm_rewritten.proofs.Twice.{IsNormalCode}

is_first_once : (m : Module) (k n : ℕ) → IsFirstMemory m k → IsFirstMemory m n → k ≡ n
is_first_once m k n h i = elim (cases_lt k n) [
  | inl lt ↦ absurd (i.first k lt h.there)
  | inr le ↦ elim (cases_lt n k) [
    | inl lt ↦ absurd (h.first n lt i.there)
    | inr other ↦ omega (arith, le, other)
  ]
]

module _ (decide : NamesDecide) (one : TreeIsOne) (nests : NormalNests) (renamed : NamesAreRenamed) (reads : ReadsOnce) (reached : WrittenIsReached) (place : Option ℕ → ℕ) (names producers keep : Bool)
    (features : WasmFeatures) (input once : List ℕ) (places : Option (List (ℕ × ℕ))) (w : Rewritten place names producers keep features input once places) where
  abbrev m : Module
  m = w.n

  abbrev old : Numbered
  old = file_seen place features (handler_groups w.file) w.file

  -- what is written at a place of a list
  listed_functions : length m.functions ≡ length (w.p.listed Functions)
  listed_functions =
      let all = picked (renumbered_function w.p.renames w.p.brings) (w.p.listed Functions) old.filled.functions in
      let texts : map slot_unplaced m.functions ≡ map slot_unplaced all = ap (λ (k : Module). k.functions) w.stands.whole in
      sym (length-map m.functions slot_unplaced) ∙ ap (λ (l : List (Option Function)). length l) texts ∙ length-map all slot_unplaced
      ∙ length-map (w.p.listed Functions) (λ (k : ℕ). option_map (renumbered_function w.p.renames w.p.brings) (slice_index_or old.filled.functions k None))

  -- each body is a normal form of the file, renamed
  bodies_are_normal : BodiesAreNormal m
  bodies_are_normal k f is x own =
      let writes = w.stands.writes in
      let lt = slot_there m.functions k f is in
      let many = listed_functions in
      let j = get_some (w.p.listed Functions) k (omega (arith, lt, many)) in
      let number : w.p.renames Functions j.0 ≡ k = writes.only Functions k j.0 tt j.1 in
      let has : IsIn w.p Functions j.0 = subst (λ (i : ℕ). slice_get (w.p.listed Functions) i ≡ Some j.0) (sym number) j.1 in
      let here : body_of (slot m.functions (w.p.renames Functions j.0)) ≡ Some (map (λ (o : Placed). o.op) x.operators) =
      ap (λ (i : ℕ). body_of (slot m.functions i)) number ∙ ap body_of is ∙ ap (λ (o : Origin Body). own_body o) own in
      go j.0 ((program_of w.file).body j.0)
      (sym (there decide place features (handler_groups w.file) w.file w.p writes.labels writes.locals m w.stands.whole j.0 has) ∙ here)
    where
      go : (j : ℕ) (o : Option (List Seen)) → option_map (λ ops. renamed_code (within (maps_of features w.file w.p) j) (normal_code (pick_in features w.file) ops)) o ≡ Some (map (λ (o : Placed). o.op) x.operators)
          → IsNormalCode (map (λ (o : Placed). o.op) x.operators)
      go j None e = absurd cc
      go j (Some ops) e = record {
        renaming = within (maps_of features w.file w.p) j;
        pick = pick_in features w.file;
        source = ops;
        is = sym (some_same (renamed_code (within (maps_of features w.file w.p) j) (normal_code (pick_in features w.file) ops)) (map (λ (o : Placed). o.op) x.operators) e);
      }

  -- what is reached in what was written
  old_reached : {y : Item} → IsReached old keep [] y → (y.space ≡ spaces.«Type» → ⊥) → IsReached (seen_as features m) keep [] (renumbered_item w.p.renames y)
  old_reached h no_type = reached_so features old keep w.p m w.stands.writes.kept renamed (λ k. refl) (λ k. refl) w.stands.whole h no_type

  -- ---- rewritten again

  module _ (n : Module) (t : Table) (p : Plan) (stands : Stands place keep features m n t p) where
    abbrev new : Numbered
    new = file_seen place features (handler_groups m) m

    kept : HasKept new keep [] p
    kept = stands.writes.kept

    carried : {y : Item} → IsReached (seen_as features m) keep [] y → (y.space ≡ spaces.«Type» → ⊥) → IsReached new keep [] y
    carried h no_type =
        still_reached renamed (at (ids_of m.groups)) one nests place (around_bodies features true m) features (kept_of m.groups ++ handler_groups m) keep m bodies_are_normal h no_type

    -- ---- memories: where the first is spared there is no other

    memories_are : m.memories ≡ picked (renumbered_memory w.p.renames w.p.brings) (w.p.listed Memories) old.filled.memories
    memories_are = ap (λ (k : Module). k.memories) w.stands.whole

    listed_memory : (i : ℕ) → i < length m.memories → (k : ℕ) × (slice_get (w.p.listed Memories) i ≡ Some k)
    listed_memory i lt =
        let many : length m.memories ≡ length (w.p.listed Memories) =
        ap (λ (l : List (Option Memory)). length l) memories_are ∙ length-map (w.p.listed Memories) (λ (k : ℕ). option_map (renumbered_memory w.p.renames w.p.brings) (slice_index_or old.filled.memories k None)) in
        get_some (w.p.listed Memories) i (omega (arith, lt, many))

    memory_there : (i k : ℕ) → slice_get (w.p.listed Memories) i ≡ Some k → IsSome (slot m.memories i)
    memory_there i k e =
        let x = found_at old.filled.memories k (all_at (λ (k : ℕ). IsSome (slice_index_or old.filled.memories k None)) (w.p.listed Memories) w.stands.writes.kept.there.memories i k e) in
        let is : slot m.memories i ≡ Some (renumbered_memory w.p.renames w.p.brings x.0) =
        ap (λ (l : List (Option Memory)). slot l i) memories_are ∙ picked_at (renumbered_memory w.p.renames w.p.brings) old.filled.memories (w.p.listed Memories) i k e
        ∙ ap (λ (o : Option Memory). option_map (renumbered_memory w.p.renames w.p.brings) o) x.1 in
        subst (λ (o : Option Memory). IsSome o) (sym is) refl

    module _ (i : ℕ) (lt : i < length m.memories) (k : ℕ) (at_i : slice_get (w.p.listed Memories) i ≡ Some k) (spared : IsSpared old keep [] (item spaces.Memory k)) where
      alone : (j : ℕ) → j < length m.memories → j ≡ i
      alone j less =
          let other = listed_memory j less in
          elim (w.stands.writes.kept.only Memories j other.0 tt other.1) [
            | inl h ↦ absurd (spared.no_memory other.0 h)
            | inr s ↦ (let same : other.0 ≡ k =
                ap (λ (y : Item). y.number) s.is ∙ is_first_once old.filled s.memory spared.memory s.first spared.first ∙ sym (ap (λ (y : Item). y.number) spared.is) in
                sym (w.stands.writes.only Memories j other.0 tt other.1) ∙ ap (λ (n : ℕ). w.p.renames Memories n) same ∙ w.stands.writes.only Memories i k tt at_i)
          ]

      spared_in : IsIn p Memories i
      spared_in = by (is_number (slice_get (p.listed Memories) (p.renames Memories i)) i) refl
        where
          there_below : (j : ℕ) → IsIn p Memories j → j < length m.memories
          there_below j has =
              let x = found_at m.memories j (all_at (λ (k : ℕ). IsSome (slice_index_or m.memories k None)) (p.listed Memories) kept.there.memories (p.renames Memories j) j has) in
              slot_there m.memories j x.0 x.1

          by : (b : Bool) → is_number (slice_get (p.listed Memories) (p.renames Memories i)) i ≡ b → IsIn p Memories i
          by true e = (number_is (slice_get (p.listed Memories) (p.renames Memories i)) i).0 e
          by false e = kept.has Memories i tt (inr (record {
            memory = i;
            is = refl;
            first = record {
              there = memory_there i k at_i;
              first = λ other less is. let x = found_at m.memories other is in let below = slot_there m.memories other x.0 x.1 in let same = alone other below in omega (arith, less, same);
            };
            segment = w.p.renames DataSegments spared.segment;
            has_data = carried (old_reached spared.has_data (λ e. cc)) (λ e. cc);
            no_memory = λ other h.
                let has = kept.has Memories other tt (inl h) in
                let here : IsIn p Memories i = subst (λ (n : ℕ). IsIn p Memories n) (alone other (there_below other has)) has in
                let yes = (number_is (slice_get (p.listed Memories) (p.renames Memories i)) i).1 here in cc;
          }))

    memory_in : (i : ℕ) → i < length m.memories → IsIn p Memories i
    memory_in i lt =
        let k = listed_memory i lt in
        elim (w.stands.writes.kept.only Memories i k.0 tt k.1) [
          | inl h ↦ subst (λ (n : ℕ). IsIn p Memories n) (w.stands.writes.only Memories i k.0 tt k.1) (kept.has Memories (w.p.renames Memories k.0) tt (inl (carried (old_reached h (λ e. cc)) (λ e. cc))))
          | inr s ↦ spared_in i lt k.0 k.1 s
        ]

    -- ---- each item

    reached_in : (space : FileSpace) (i : ℕ) → (space ≡ spaces.«Type» → ⊥) → (space ≡ spaces.Memory → ⊥) → i < count_of m space → ItemIn p space i
    reached_in space i no_type no_memory lt =
        item_in new keep [] p kept space i (inl (carried (reached place names producers keep features input once places w space i no_type no_memory lt) no_type))

    pub each_in : (space : FileSpace) (i : ℕ) → (space ≡ spaces.«Type» → ⊥) → i < count_of m space → ItemIn p space i
    each_in spaces.«Type» i no_type lt = absurd (no_type refl)
    each_in spaces.Memory i no_type lt = memory_in i lt
    each_in spaces.Function i no_type lt = reached_in spaces.Function i no_type (λ e. cc) lt
    each_in spaces.Table i no_type lt = reached_in spaces.Table i no_type (λ e. cc) lt
    each_in spaces.Tag i no_type lt = reached_in spaces.Tag i no_type (λ e. cc) lt
    each_in spaces.Global i no_type lt = reached_in spaces.Global i no_type (λ e. cc) lt
    each_in spaces.Element i no_type lt = reached_in spaces.Element i no_type (λ e. cc) lt
    each_in spaces.Data i no_type lt = reached_in spaces.Data i no_type (λ e. cc) lt
    each_in spaces.Local i no_type lt = tt
    each_in spaces.Label i no_type lt = tt

pub nothing_dropped : NamesDecide → TreeIsOne → NormalNests → NamesAreRenamed → ReadsOnce → WrittenIsReached → RewritingAgainDropsNothing
nothing_dropped decide one nests renamed reads reached place names producers keep features input once twice places others first second =
    let same = reads features once second.file first.n second.reads first.reads_again in (
      same,
      λ space i no_type lt.
          each_in decide one nests renamed reads reached place names producers keep features input once places first second.n second.t second.p
          (subst (λ (file : Module). Stands place keep features file second.n second.t second.p) same second.stands) space i no_type lt,
    )
