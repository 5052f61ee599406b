-- Lemmas: what was read of a body beside its module is what the file's grammar reads.
use Rattle.std.proofs.Common.{◌≡◌, ◌⊎◌, ◌∙◌, inl, inr, ℕ, List, Result, Ok, Err, IfOk, IfErr, sym, ap, subst}
use Rattle.wasm_reader.specs.Cursor.{Cursor}
use Rattle.walrus_forms.specs.Renaming.{at}
use Rattle.walrus_handler_types.specs.walrus_tree.walrus_builder.Built.{Seq}
use Rattle.walrus_index_maps.specs.Maps.{Ids}
use Rattle.walrus_body_env.specs.walrus_instr.declared.seq.InstrSeqType.{InstrSeqType}
use Rattle.walrus_types.specs.walrus_items.declared.local.Local.{Local}
use Rattle.walrus_functions_into.specs.walrus_collections.walrus_body_parser.Points.{place_at}
use Rattle.walrus_functions_into.specs.walrus_collections.walrus_local_function.walrus_body_locals.wasm_grammar.States.{types_of}
use Rattle.walrus_functions_into.specs.walrus_collections.walrus_local_function.walrus_body_locals.walrus_body_env.declared.error.BodyError.{BodyError}
use Rattle.walrus_functions_into.specs.walrus_collections.walrus_local_function.walrus_body_locals.walrus_body_env.declared.error.BodyError.TheVariants.{Memory}
use Rattle.walrus_functions_into.specs.walrus_collections.walrus_local_function.walrus_function_parser.Parsed.{Telling, Parses, IsCause}
use Rattle.walrus_functions_into.specs.walrus_collections.walrus_local_function.Refusals.{IsRefusal}
use Rattle.wasm_run_names.specs.Picks.{block_pick}
use Rattle.walrus_module_env.specs.declared.env.ModuleEnv.{ModuleEnv}
use Rattle.walrus_module_env.specs.Filled.{AreFiled}
use Rattle.walrus_module_env.specs.Around.{sight_in}
use Rattle.walrus_module_env.specs.Parsed.{IsBodyOfFile, IsFaultInFile, IsFaultOfFile}
use Rattle.walrus_module_env.proofs.AroundLemmas.{is_around, picks_are}

module _ {V : Type 0} (e : ModuleEnv) (function : ℕ) (i : Ids) (told : Telling V) (params : ℕ) (old : Cursor) where
  pub is_read : (entry : InstrSeqType) (ls ms : List Local) (j : Ids) (v w : V) (b : List Seq) → Parses (sight_in e function i) told params e.code_start old entry ls ms j v w b
      → IsBodyOfFile e function i told params old j b
  is_read entry ls ms j v w b p a h =
      let same : i.types ≡ j.types = sym (ap (λ (k : Ids). k.types) p.begins.declares.adds.named) in
      record {
        place = place_at e.code_start p.mid;
        runs = p.begins.declares.runs;
        ops = p.ops;
        read = p.read a (is_around e i function params old.window.features a h);
        stands = p.stands (block_pick a) (picks_are e function j a (h.same_is ∙ ap at same) (subst (λ (types : List ℕ). AreFiled (types_of a.filled) types e.own_types e.types.now) same h.types_are));
      }

  pub is_fault : (j : Ids) (fault : BodyError) → (fault ≡ Memory) ⊎ IsCause (sight_in e function i) told params e.code_start old j fault
      → (fault ≡ Memory) ⊎ IsFaultInFile e function i told params old j fault
  is_fault j fault (inl m) = inl m
  is_fault j fault (inr cause) = inr (λ a h. cause a (is_around e i function params old.window.features a h))

  pub is_refusal : (ls ms : List Local) (v w : V) (fault : BodyError) → IsRefusal (sight_in e function i) told params e.code_start old ls ms v w fault → IsFaultOfFile e function i told params old ls ms fault
  is_refusal ls ms v w fault r = record { met = r.met; left = r.left; stops = is_fault r.met fault r.stops }

pub of_ok : {T E : Type 0} (P Q : T → Type 0) (r : Result T E) → ((x : T) → P x → Q x) → IfOk r P → IfOk r Q
of_ok P Q (Ok x) f p = f x p
of_ok P Q (Err e) f p = p

pub of_err : {T E : Type 0} (P Q : E → Type 0) (r : Result T E) → ((e : E) → P e → Q e) → IfErr r P → IfErr r Q
of_err P Q (Ok x) f p = p
of_err P Q (Err e) f p = f e p
