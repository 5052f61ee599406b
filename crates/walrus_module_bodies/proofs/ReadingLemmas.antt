-- Lemmas: a body that was read beside some type for each handler, and whose handlers were given theirs, is read.
use Rattle.std.proofs.Common.{◌≡◌, ◌∙◌, ℕ, ◌<◌, Bool, false, List, length, map, All, Ok, Option, refl, sym, ap, subst}
use Rattle.std.specs.Option.{option_and_then, option_map}
use Rattle.std.specs.Prelude.{slice_get}
use Rattle.walrus_arena.specs.Arena.{Arena, item_at}
use Rattle.wasm_reader.specs.Cursor.{Cursor, rest}
use Rattle.walrus_function_types.specs.Growth.{Grows}
use Rattle.walrus_index_maps.specs.Maps.{Ids}
use Rattle.walrus_body_trees.specs.Laws.{BodiesAreTrees}
use Rattle.walrus_module_env.specs.walrus_handler_types.Giving.{Gives, GivesTree}
use Rattle.walrus_module_env.proofs.walrus_handler_types.Growing.{lists_give}
use Rattle.walrus_module_env.specs.walrus_handler_types.walrus_handlers.Gathering.{AreHandlers, have_try, listed}
use Rattle.walrus_module_env.specs.walrus_handler_types.walrus_handler_laws.Handlers.{tree_ids}
use Rattle.walrus_module_env.specs.walrus_handler_types.walrus_handler_laws.declared.handler.Handler.{Handler}
use Rattle.walrus_module_env.specs.walrus_body_parser.walrus_body_steps.Picks.{ArePicks}
use Rattle.walrus_module_env.specs.walrus_body_parser.walrus_body_stack.walrus_body_nesting.Opens.{same}
use Rattle.wasm_features.specs.declared.WasmFeatures.{WasmFeatures}
use Rattle.walrus_module_env.specs.walrus_body_parser.walrus_body_rules.wasm_body_grammar.Bodies.{body, declared}
use Rattle.walrus_module_env.specs.walrus_body_parser.walrus_body_rules.wasm_body_grammar.Rules.{Around}
use Rattle.walrus_forms.specs.Renaming.{at, renamed_value}
use Rattle.walrus_module_env.specs.walrus_body_parser.walrus_body_rules.wasm_grammar.States.{types_of}
use Rattle.walrus_module_env.specs.walrus_body_parser.walrus_body_stack.wasm_normal_form.Normal.{normal}
use Rattle.walrus_module_env.specs.walrus_body_parser.walrus_body_stack.wasm_normal_form.Trees.{tree_of}
use Rattle.walrus_module_env.specs.walrus_handler_types.walrus_tree.Trees.{IsTree}
use Rattle.walrus_module_env.specs.walrus_body_parser.walrus_body_stack.walrus_builder.Built.{Seq, contents, seq_of}
use Rattle.walrus_module_env.specs.walrus_body_parser.walrus_body_stack.walrus_builder.Functions.{seqs_of}
use Rattle.walrus_module_env.specs.walrus_body_parser.walrus_body_stack.walrus_builder.declared.function.FunctionBuilder.{FunctionBuilder}
use Rattle.walrus_module_env.specs.walrus_body_parser.walrus_body_stack.walrus_instr.declared.seq.InstrSeq.{InstrSeq}
use Rattle.walrus_module_env.specs.walrus_body_parser.walrus_body_stack.walrus_instr.walrus_types.walrus_items.declared.local.Local.{Local}
use Rattle.walrus_module_env.specs.walrus_body_parser.walrus_body_stack.walrus_instr.walrus_types.Table.{Table}
use Rattle.walrus_module_env.specs.declared.env.ModuleEnv.{ModuleEnv}
use Rattle.walrus_module_env.specs.Around.{IsFiled, sight_in}
use Rattle.walrus_module_env.specs.Env.{tag_type_at}
use Rattle.walrus_module_env.specs.Filled.{AreFiled}
use Rattle.walrus_module_env.specs.Parsed.{PicksAreSeen}
use Rattle.walrus_module_env.specs.walrus_body_parser.wasm_operators.Operators.{Seen}
use Rattle.walrus_module_env.specs.walrus_body_parser.Points.{place_at, ops_from}
use Rattle.walrus_module_env.specs.walrus_collections.walrus_local_function.walrus_body_locals.Locals.{kept_ids, with_locals}
use Rattle.walrus_module_env.specs.walrus_collections.walrus_local_function.walrus_body_locals.Named.{kept_by}
use Rattle.walrus_module_env.specs.walrus_collections.walrus_module_items.declared.memory.Memory.{Memory}
use Rattle.walrus_module_env.specs.wasm_run_names.Picks.{block_pick}
use Rattle.walrus_module_bodies.specs.declared.file.FileEnv.{FileEnv}
use Rattle.walrus_module_bodies.specs.Envs.{IsEnv}
use Rattle.walrus_module_env.specs.Handled.{HandledBodiesStand}
use Rattle.walrus_module_bodies.specs.Reading.{GivesHandlers, IsBodyAside, IsHandledBody}

-- ---- the file is another environment's too

filed_in : (e f : ModuleEnv) (i : Ids) (function locals : ℕ) (features : WasmFeatures) (a : Around) → e.types.now ≡ f.types.now → e.memories.now ≡ f.memories.now → e.own_types ≡ f.own_types
    → e.has_data_count ≡ f.has_data_count → IsFiled e i function locals features a → IsFiled f i function locals features a
filed_in e f i function locals features a types memories own counted h = record {
  features_are = h.features_are;
  same_is = h.same_is;
  types_are = subst (λ (n : ℕ). AreFiled (types_of a.filled) i.types n f.types.now) own (subst (λ (t : Table). AreFiled (types_of a.filled) i.types e.own_types t) types h.types_are);
  functions_are = h.functions_are;
  tables_are = h.tables_are;
  memories_are = h.memories_are;
  tags_are = h.tags_are;
  globals_are = h.globals_are;
  elements_are = h.elements_are;
  segments_are = h.segments_are;
  locals_are = h.locals_are;
  wide_are = λ n. ap (λ (m : Arena Memory). option_map (λ (x : Memory). x.memory64) (option_and_then (item_at m) (slice_get i.memories n))) (sym memories) ∙ h.wide_are n;
  counted_is = sym counted ∙ h.counted_is;
}

-- with more locals of the function
more_locals : (e : ModuleEnv) (i : Ids) (function locals : ℕ) (features : WasmFeatures) (a : Around) (ids : List ℕ) → IsFiled e i function locals features a
    → IsFiled e (with_locals function ids i) function (length ((with_locals function ids i).locals function)) features a
more_locals e i function locals features a ids h = record {
  features_are = h.features_are;
  same_is = h.same_is;
  types_are = h.types_are;
  functions_are = h.functions_are;
  tables_are = h.tables_are;
  memories_are = h.memories_are;
  tags_are = h.tags_are;
  globals_are = h.globals_are;
  elements_are = h.elements_are;
  segments_are = h.segments_are;
  locals_are = refl;
  wide_are = h.wide_are;
  counted_is = h.counted_is;
}

-- ---- what was read

pub aside_tree : BodiesAreTrees → (e : ModuleEnv) (function params : ℕ) (old : Cursor) (i j : Ids) (ls ms : List Local) (b : List InstrSeq) → IsBodyAside e function params old i j ls ms (map seq_of b) → (a : Around)
    → IsFiled e i function params old.window.features a → All (λ x. x < 256) (rest old) → IsTree b 0
aside_tree trees e function params old i j ls ms b aside a filed small =
    let r = aside a filed in
    let found = (body a params (place_at e.code_start old)).found (rest old) ((r.place, r.runs), r.ops) small r.read in
    trees a params (place_at e.code_start old) (rest old) ((r.place, r.runs), r.ops) (small, found.0, found.1) r.sight b (r.stands same (λ ty. refl))

pub handled_read : HandledBodiesStand → PicksAreSeen → (file : FileEnv) (old new : Table) (function params : ℕ) (from : Cursor) (i j : Ids) (ls ms : List Local) (c : List Seq)
    → GivesHandlers file old new function params from i j ls ms c → IsHandledBody file old new function params from i j ls ms c
handled_read stand seen file old new function params from i j ls ms c h e f later at_e grows at_f a filed =
    let g = h.env in
    let is = h.env_is in
    let mine = filed_in e g i function params from.window.features a (at_e.types_are ∙ sym is.types_are) (at_e.memories_are ∙ sym is.memories_are) (at_e.own_are ∙ sym is.own_are) (at_e.counted_is ∙ sym is.counted_is) filed in
    let r = h.aside a mine in
    let ids : List ℕ = kept_ids (length ls) (kept_by i.all_locals params (length (declared r.runs)) (map (λ (x : ℕ × Seen). x.1) r.ops)) in
    let more = more_locals g i function params from.window.features a ids mine in
    let named = seen g (with_locals function ids i) function (length ((with_locals function ids i).locals function)) from.window.features a more in
    let picks = subst (λ (k : Ids). ArePicks (sight_in g function k) (block_pick a)) (sym r.adds.named) named in (
      record {
        place = r.place;
        runs = r.runs;
        ops = r.ops;
        read = subst (λ (n : ℕ). (body a params (place_at n from)).parse (rest from) ≡ Ok ((r.place, r.runs), r.ops)) (is.begins ∙ sym at_f.begins) r.read;
        stands = stand g f function j r.sight h.own h.tree c new (normal (block_pick a) (tree_of (ops_from r.place r.ops))) r.aside (r.stands (block_pick a) picks)
            (subst (λ (v : Table). GivesTree (tag_type_at g.tags.now) h.own h.tree v c new) (sym is.types_are) h.given)
            (record { types = subst (Grows new) (sym at_f.types_are) grows; own = at_f.own_are ∙ sym is.own_are; tags = at_f.tags_are ∙ sym is.tags_are });
      },
      r.counted,
      r.adds,
    )

-- handlers were told of a builder that was lent for reading, and were given their types in one that was lent for writing
module _ (tags : ℕ → Option ℕ) (x y z : FunctionBuilder) (to_y : y ≡ x) (to_z : z ≡ x) (t : IsTree (seqs_of x) 0) (told hs : List (Option Handler)) (same_are : hs ≡ told)
    (handlers : (t : IsTree (seqs_of y) 0) → AreHandlers tags (seqs_of y) (tree_ids t) told) where
  are_handlers : AreHandlers tags (seqs_of x) (tree_ids t) hs
  are_handlers = subst (AreHandlers tags (seqs_of x) (tree_ids t)) (sym same_are)
      (subst (λ (f : FunctionBuilder). (u : IsTree (seqs_of f) 0) → AreHandlers tags (seqs_of f) (tree_ids u) told) to_y handlers t)

  pub gives_handlers : (file : FileEnv) (g : ModuleEnv) (old new : Table) (function params : ℕ) (from : Cursor) (i j : Ids) (ls ms : List Local) (c : List Seq) → IsEnv file old g → tags ≡ tag_type_at g.tags.now
      → IsBodyAside g function params from i j ls ms (contents x.builder) → ((u : IsTree (seqs_of z) 0) → Gives (listed hs) (tree_ids u) (contents z.builder) old c new)
      → GivesHandlers file old new function params from i j ls ms c
  gives_handlers file g old new function params from i j ls ms c is tags_are aside gives = record {
    env = g;
    env_is = is;
    own = seqs_of x;
    tree = t;
    aside = aside;
    given = subst (λ (ts : ℕ → Option ℕ). GivesTree ts (seqs_of x) t old c new) tags_are
        (lists_give tags (seqs_of x) t hs old new c are_handlers (subst (λ (f : FunctionBuilder). (u : IsTree (seqs_of f) 0) → Gives (listed hs) (tree_ids u) (contents f.builder) old c new) to_z gives t));
  }

-- a tree is one in what was lent
pub lent_tree : (x z : FunctionBuilder) → z ≡ x → IsTree (seqs_of x) 0 → IsTree (seqs_of z) 0
lent_tree x z e t = subst (λ (f : FunctionBuilder). IsTree (seqs_of f) 0) (sym e) t

-- where no `try` was met, what was lent has none
pub lent_untried : (x y : FunctionBuilder) → y ≡ x → (any : Bool) → (any ≡ false → have_try (seqs_of x) ≡ false) → any ≡ false → have_try (seqs_of y) ≡ false
lent_untried x y e any h none = subst (λ (f : FunctionBuilder). have_try (seqs_of f) ≡ false) (sym e) (h none)
