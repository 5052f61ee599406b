-- Lemmas: types of handlers aside, a sight tells the same.
use Rattle.std.proofs.Common.{◌≡◌, ◌⊎◌, ◌∙◌, ℕ, Bool, List, length, Option, Some, None, Result, Ok, Err, IfOk, IfErr, OnOk, MatchResult, inl, inr, refl, sym, ap, subst}
use Rattle.std.specs.Option.{is_some}
use Rattle.wasm_reader.specs.Cursor.{Cursor, end_of, rest}
use Rattle.walrus_forms.specs.declared.value.ValType.{ValType}
use Rattle.walrus_index_maps.specs.Maps.{Ids}
use Rattle.walrus_module_env.specs.walrus_body_parser.walrus_body_steps.Picks.{ArePicks}
use Rattle.walrus_module_env.specs.walrus_body_parser.walrus_body_rules.wasm_body_grammar.wasm_formats.Stops.{Stop, TypeForm}
use Rattle.walrus_module_env.specs.walrus_body_parser.walrus_body_rules.Agreeing.{Sees}
use Rattle.walrus_module_env.specs.walrus_body_parser.walrus_body_rules.Rules.{has_wide, type_test}
use Rattle.walrus_module_env.specs.walrus_body_parser.walrus_body_rules.Sights.{Sight, block_of, function_block, look, room, written_block}
use Rattle.walrus_module_env.specs.walrus_body_parser.walrus_body_rules.wasm_body_grammar.Bodies.{body}
use Rattle.walrus_module_env.specs.walrus_body_parser.walrus_body_rules.wasm_body_grammar.Rules as grammar
use Rattle.walrus_module_env.specs.walrus_body_parser.walrus_body_rules.wasm_body_grammar.Rules.{Around}
use Rattle.walrus_module_env.specs.walrus_body_parser.walrus_body_rules.wasm_grammar.Values.{must}
use Rattle.walrus_module_env.specs.walrus_body_parser.wasm_operators.Items.{Space, Types, Functions, Tables, Memories, Tags, Globals, ElementSegments, DataSegments, Locals, Labels}
use Rattle.walrus_module_env.specs.walrus_body_parser.wasm_operators.declared.block_type.BlockType.{BlockType}
use Rattle.walrus_module_env.specs.walrus_body_parser.wasm_operators.declared.block_type.BlockType.TheVariants as blocks
use Rattle.walrus_module_env.specs.walrus_body_parser.walrus_body_stack.walrus_builder.Built.{Seq}
use Rattle.walrus_module_env.specs.walrus_body_parser.walrus_body_stack.walrus_instr.declared.seq.InstrSeqType.{InstrSeqType}
use Rattle.walrus_module_env.specs.walrus_body_parser.walrus_body_stack.walrus_instr.walrus_types.walrus_items.declared.local.Local.{Local}
use Rattle.walrus_module_env.specs.declared.env.ModuleEnv.{ModuleEnv}
use Rattle.walrus_module_env.specs.Around.{IsFiled, sight_in}
use Rattle.walrus_module_env.specs.Env.{is_wide_at, own_pick, params_at, results_at, tag_type_at}
use Rattle.walrus_module_env.specs.Parsed.{FilesAreSeen}
use Rattle.walrus_module_env.specs.walrus_body_parser.Points.{place_at}
use Rattle.walrus_module_env.specs.walrus_body_parser.walrus_body_stack.walrus_body_env.declared.error.BodyError.{BodyError}
use Rattle.walrus_module_env.specs.walrus_body_parser.walrus_body_stack.walrus_body_env.declared.error.BodyError.TheVariants.{Memory}
use Rattle.walrus_module_env.specs.walrus_collections.walrus_local_function.walrus_body_locals.Calls.{IsFaultOf}
use Rattle.walrus_module_env.specs.walrus_collections.walrus_local_function.walrus_function_parser.Parsed.{IsAround, Parses, Telling, seen_by}
use Rattle.walrus_module_env.specs.Handled.{SeesAside}
use Rattle.walrus_module_env.proofs.walrus_function_parser.Bodies.{declared_count, sees_more}
use Rattle.walrus_module_bodies.specs.Reading.{AddsRuns, IsBodyAside, IsBodyFault, IsReadAside}

-- the results of some ids aside too, where these change no block type
module _ (u : Sight) (r : ℕ → Option (List ValType)) (h : List ValType → List ValType → Option InstrSeqType) (alike : (id : ℕ) → block_of u (u.params id) (r id) ≡ block_of u (u.params id) (u.results id)) where
  abbrev v : Sight
  v = record u { results = r; handler_type = h }

  same_block : (ps rs : Option (List ValType)) → block_of v ps rs ≡ block_of u ps rs
  same_block None rs = refl
  same_block (Some ps) None = refl
  same_block (Some ps) (Some rs) = refl

  same_function : (o : Option ℕ) → function_block v o ≡ function_block u o
  same_function None = refl
  same_function (Some id) = same_block (u.params id) (r id) ∙ alike id

  same_written : (w : BlockType) → written_block v w ≡ written_block u w
  same_written blocks.Empty = refl
  same_written (blocks.Value ty) = refl
  same_written (blocks.Type n) = same_function (look u Types n)

  same_test : (o : Option ℕ) → type_test v o ≡ type_test u o
  same_test None = refl
  same_test (Some id) = ap (λ (b : Option InstrSeqType). must (is_some b) TypeForm) (same_function (Some id))

  same_wide : (o : Option ℕ) → has_wide v o ≡ has_wide u o
  same_wide None = refl
  same_wide (Some id) = refl

  pub sees_aside : (a : Around) (locals : ℕ) → Sees u a locals → Sees v a locals
  sees_aside a locals x = record {
    rooms = rooms;
    blocks = λ n. same_test (look u Types n) ∙ x.blocks n;
    wide = λ n. same_wide (look u Memories n) ∙ x.wide n;
    counted = x.counted;
  }
    where
      rooms : (labels : ℕ) (space : Space) → room v labels space ≡ grammar.room a locals labels space
      rooms labels Types = x.rooms labels Types
      rooms labels Functions = x.rooms labels Functions
      rooms labels Tables = x.rooms labels Tables
      rooms labels Memories = x.rooms labels Memories
      rooms labels Tags = x.rooms labels Tags
      rooms labels Globals = x.rooms labels Globals
      rooms labels ElementSegments = x.rooms labels ElementSegments
      rooms labels DataSegments = x.rooms labels DataSegments
      rooms labels Locals = x.rooms labels Locals
      rooms labels Labels = x.rooms labels Labels

  pub picks_aside : (pick : BlockType → BlockType) → ArePicks u pick → ArePicks v pick
  picks_aside pick alike ty = same_written (pick ty) ∙ alike ty ∙ sym (same_written ty)

-- a sight that answers as the module's does
pub one_aside : (e : ModuleEnv) (function : ℕ) (i : Ids) (params results : ℕ → Option (List ValType)) (block handler : List ValType → List ValType → Option InstrSeqType) (tag : ℕ → Option ℕ) (wide : ℕ → Bool) (counted : Bool)
    → params ≡ params_at e.types.now → results ≡ results_at e.types.now → block ≡ own_pick e.own_types e.types.now → tag ≡ tag_type_at e.tags.now → wide ≡ is_wide_at e.memories.now → counted ≡ e.has_data_count
    → SeesAside (record { ids = i; function = function; params = params; results = results; block_type = block; handler_type = handler; tag_type = tag; is_wide = wide; has_data_count = counted }) (sight_in e function i)
one_aside e function i params results block handler tag wide counted a b c d f g =
    λ k. record { ids = i; function = function; params = a k; results = b k; block_type = c k; handler_type = handler; tag_type = d k; is_wide = f k; has_data_count = g k }

module _ (seen : FilesAreSeen) (e : ModuleEnv) (function : ℕ) (i : Ids) (s : Sight) (aside : SeesAside s (sight_in e function i)) (params code : ℕ) (codes : code ≡ e.code_start) (old : Cursor) where
  around : (a : Around) → IsFiled e i function params old.window.features a → IsAround s old.window.features params a
  around a filed =
      let all = seen e i function params old.window.features a filed in
      subst (λ (x : Sight). IsAround x old.window.features params a) (sym aside) (record { features_are = all.features_are; sees = sees_aside (sight_in e function i) (results_at e.types.now) s.handler_type (λ id. refl) a params all.sees })

  later : (j : Ids) → SeesAside (seen_by s j) (sight_in e function j)
  later j = ap (λ (x : Sight). seen_by x j) aside

  pub aside_read : {V : Type 0} {told : Telling V} {entry : InstrSeqType} {ls ms : List Local} {v w : V} (j : Ids) (b : List Seq) → Parses s told params code old entry ls ms j v w b → IsBodyAside e function params old i j ls ms b
  aside_read {ls = ls} {ms = ms} j b p a filed = record {
    sight = seen_by s j;
    aside = later j;
    place = place_at code p.mid;
    runs = p.begins.declares.runs;
    ops = p.ops;
    read = subst (λ (n : ℕ). (body a params (place_at n old)).parse (rest old) ≡ Ok ((place_at code p.mid, p.begins.declares.runs), p.ops)) codes (p.read a (around a filed));
    counted =
        ap (λ (x : Sight). length (j.locals x.function)) (sym aside)
        ∙ (sees_more s a params p.begins.declares.runs p.begins.declares.kept _ _ j (around a filed).sees p.begins.declares.adds).rooms 0 Locals
        ∙ sym (declared_count p.begins.declares.runs params);
    adds = subst (λ (x : Sight). AddsRuns x.function params p.begins.declares.runs p.ops ls ms x.ids j) aside p.adds;
    stands = λ pick picks. p.stands pick (subst (λ (x : Sight). ArePicks x pick) (sym (later j)) (picks_aside (sight_in e function j) (results_at e.types.now) s.handler_type (λ id. refl) pick picks));
  }

-- the function's parameters are what its indices name
pub counted_read : (e : ModuleEnv) (function params : ℕ) (old : Cursor) (i j : Ids) (ls ms : List Local) (b : List Seq) → IsBodyAside e function (length (i.locals function)) old i j ls ms b → IsBodyAside e function params old i j ls ms b
counted_read e function params old i j ls ms b read a filed =
    let F : ℕ → Type 0 = λ n. IsFiled e i function n old.window.features a → IsReadAside e function n old i j ls ms b a in
    subst F filed.locals_are (read a) filed

pub counted_fault : (e : ModuleEnv) (function params : ℕ) (old : Cursor) (i : Ids) (fault : BodyError) → (fault ≡ Memory) ⊎ IsBodyFault e function (length (i.locals function)) old i fault
    → (fault ≡ Memory) ⊎ IsBodyFault e function params old i fault
counted_fault e function params old i fault (inl m) = inl m
counted_fault e function params old i fault (inr stops) =
    inr (λ a filed.
    let F : ℕ → Type 0 = λ n. IsFiled e i function n old.window.features a → (t : Stop) × ((body a n (place_at e.code_start old)).parse (rest old) ≡ Err t) × IsFaultOf (end_of old) t fault in
    subst F filed.locals_are (stops a) filed)

pub of_kept : {T E : Type 0} (P Q : Type 0) (r : Result T E) → MatchResult r (λ _. P) (λ _. Q) → OnOk r P
of_kept P Q (Ok x) p = p
of_kept P Q (Err e) p = tt

pub of_ok : {T E : Type 0} {P Q : T → Type 0} (r : Result T E) → ((x : T) → P x → Q x) → IfOk r P → IfOk r Q
of_ok (Ok x) f p = f x p
of_ok (Err e) f p = p

pub of_err : {T E : Type 0} {P Q : E → Type 0} (r : Result T E) → ((e : E) → P e → Q e) → IfErr r P → IfErr r Q
of_err (Ok x) f p = p
of_err (Err e) f p = f e p
