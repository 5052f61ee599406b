-- Lemmas: what a module means whose locations were sent, its locals numbered function by function, is what it meant, but for places.
use Rattle.std.specs.Prelude.{ℕ, ◌≡◌, true, List, ◌++◌, map, Option, Some, None, refl}
use Rattle.std.specs.Option.{option_map}
use Rattle.std.proofs.Common.{ap, sym, subst}
use Rattle.wasm_merged_modules.specs.wasm_normal_modules.wasm_ruled_renamed.wasm_ruled_normal.wasm_normal_form.Locals.{Key}
use Rattle.wasm_merged_modules.specs.wasm_normal_modules.wasm_ruled_renamed.wasm_ruled_normal.wasm_normal_form.wasm_operators.wasm_features.declared.WasmFeatures.{WasmFeatures}
use Rattle.wasm_merged_modules.specs.wasm_normal_modules.wasm_ruled_renamed.wasm_ruled_normal.wasm_ruled_modules.wasm_module_rules.wasm_modules.wasm_body_grammar.wasm_grammar.Modules as grammar
use Rattle.wasm_merged_modules.specs.wasm_normal_modules.wasm_ruled_renamed.wasm_ruled_normal.wasm_ruled_modules.wasm_module_rules.wasm_modules.wasm_body_grammar.wasm_operators.NameLaws.{same}
use Rattle.wasm_merged_modules.specs.wasm_normal_modules.wasm_ruled_renamed.wasm_ruled_normal.wasm_ruled_modules.wasm_module_rules.wasm_modules.wasm_body_grammar.wasm_operators.Names.{Renaming, renamed_operator}
use Rattle.wasm_merged_modules.specs.wasm_normal_modules.wasm_ruled_renamed.Bodies.{with_numbers}
use Rattle.wasm_merged_modules.specs.wasm_normal_modules.wasm_ruled_renamed.Renamed.{renamed_placed}
use Rattle.walrus_types.specs.walrus_items.declared.local.Local.{Local as LocalItem}
use Rattle.walrus_parse_laws.specs.walrus_meaning.Bodies.{depth_of, local_ids, own_body}
use Rattle.walrus_parse_laws.specs.walrus_meaning.walrus_local_function.declared.local_function.LocalFunction.{LocalFunction}
use Rattle.walrus_parse_laws.specs.walrus_named_bodies.walrus_item_names.walrus_module.Parts.{Module, parts}
use Rattle.walrus_parse_laws.specs.walrus_named_bodies.walrus_item_names.walrus_module.declared.module.Module.{Module as Whole}
use Rattle.walrus_parse_laws.specs.walrus_named_bodies.walrus_item_names.walrus_module.walrus_module_items.declared.function.Function.{Function}
use Rattle.walrus_parse_laws.specs.walrus_named_bodies.walrus_item_names.walrus_module.walrus_module_items.declared.function.FunctionKind.{FunctionKind}
use Rattle.walrus_parse_laws.specs.walrus_named_bodies.walrus_item_names.walrus_module.walrus_module_items.declared.function.FunctionKind.TheVariants as kinds
use Rattle.walrus_parse_laws.specs.Means.{ReadModulesMeanFiles}
use Rattle.walrus_parse_laws.specs.walrus_named_bodies.Parsed.{read_features}
use Rattle.walrus_parse_gc_laws.proofs.LinkedLemmas.{sent_linked}
use Rattle.walrus_parse_gc_laws.proofs.MeaningLemmas.{Q, body_moves, sent_meaning, type_stays, used_stay}
use Rattle.walrus_parse_gc_laws.proofs.MovedRules.{moved_picked, moved_ruled}
use Rattle.walrus_parse_gc_laws.proofs.SentLemmas.{Answered, FunctionShifted, KindShifted, LocalShifted, SlotsShifted, functions_moved}
use Rattle.walrus_parse_gc_laws.proofs.ZipLemmas.{OptionZip, zip_map}
use Rattle.walrus_parse_gc_laws.specs.Moved.{BodyMoved, ModuleMoved, OperatorMoved, OriginMoved, SlotMoved}
use Rattle.walrus_parse_gc_laws.specs.Sent.{IsAnswer}
use Rattle.walrus_meaning.specs.walrus_linked.walrus_module.walrus_types.walrus_forms.walrus_arena.Arena.{Arena}
use Rattle.walrus_walks.specs.walrus_instr.declared.seq.InstrLocId.{InstrLocId}
use Rattle.walrus_parse_gc_laws.proofs.SentNames.{names_stay}
use Rattle.walrus_parse_gc_laws.specs.Numbered.{numbered, numbered_body, numbered_function, numbered_origin}
use Rattle.walrus_parse_gc_laws.specs.Ruled.{MeansRuled, ReadModulesMeanRuledOnes}
use Rattle.walrus_parse_gc_laws.specs.RuledSent.{ReadModulesAreHandedOn, SentModulesMeanRuledOnes}

module _ (P : ℕ → ℕ → Type 0) where
  renamed_moves : (r : Renaming) (x y : grammar.Body) → BodyMoved P x y → BodyMoved P (record { locals = x.locals; operators = map (renamed_placed r) x.operators }) (record { locals = y.locals; operators = map (renamed_placed r) y.operators })
  renamed_moves r x y z = record {
    locals = z.locals;
    operators = zip_map (OperatorMoved P) (OperatorMoved P) (renamed_placed r) (renamed_placed r) (λ o p h. record { op = ap (renamed_operator r) h.op; place = h.place }) x.operators y.operators z.operators;
  }

  numbered_moves : (ids js : List ℕ) → js ≡ ids → (x y : grammar.Body) → BodyMoved P x y → BodyMoved P (numbered_body ids x) (numbered_body js y)
  numbered_moves ids js e x y z = subst (λ (ks : List ℕ). BodyMoved P (numbered_body ids x) (numbered_body ks y)) (sym e) (renamed_moves (with_numbers (depth_of ids) same) x y z)

  local_moves : (locals : List LocalItem) (x y : LocalFunction) → LocalShifted (Q P) x y → BodyMoved P (numbered_body (local_ids locals x) (own_body locals x)) (numbered_body (local_ids locals y) (own_body locals y))
  local_moves locals x y h =
      numbered_moves (local_ids locals x) (local_ids locals y) (λ i. h.args i ++ map (λ (k : Key). k.1) (used_stay P x y h locals i)) (own_body locals x) (own_body locals y) (body_moves P x y h locals)

  origin_moves : (locals : List LocalItem) (kind after : FunctionKind) → KindShifted (Q P) kind after → OriginMoved P (numbered_origin locals kind) (numbered_origin locals after)
  origin_moves locals (kinds.Local local) after (new, is, moved) =
      subst (λ (k : FunctionKind). OriginMoved P (numbered_origin locals (kinds.Local local)) (numbered_origin locals k)) (sym is) (local_moves locals local new moved)
  origin_moves locals (kinds.Import imported) after is = subst (λ (k : FunctionKind). OriginMoved P (numbered_origin locals (kinds.Import imported)) (numbered_origin locals k)) (sym is) refl
  origin_moves locals (kinds.Uninitialized ty) after is =
      subst (λ (k : FunctionKind). OriginMoved P (numbered_origin locals (kinds.Uninitialized ty)) (numbered_origin locals k)) (sym is) (record { locals = refl; operators = tt })

  slot_moves : (locals : List LocalItem) (o p : Option Function) → OptionZip (FunctionShifted (Q P)) o p → SlotMoved P (option_map (numbered_function locals) o) (option_map (numbered_function locals) p)
  slot_moves locals None None z = tt
  slot_moves locals None (Some g) z = absurd z
  slot_moves locals (Some f) None z = absurd z
  slot_moves locals (Some f) (Some g) z = record { ty = type_stays P f.kind g.kind z.kind; origin = origin_moves locals f.kind g.kind z.kind }

  module _ (m : Module) (functions : Arena Function) (moved : SlotsShifted (Q P) m.funcs.slots functions.slots) where
    numbered_meaning : ModuleMoved P (numbered m) (numbered (record m { funcs = functions }))
    numbered_meaning = record {
      functions = zip_map (OptionZip (FunctionShifted (Q P))) (SlotMoved P) (option_map (numbered_function m.locals)) (option_map (numbered_function m.locals)) (slot_moves m.locals) m.funcs.slots functions.slots moved;
      rest = refl;
    }

  pub moved_means_ruled : {B : Type 0} (features : WasmFeatures) (m : Whole B) (functions : Arena Function) → SlotsShifted (Q P) m.funcs.slots functions.slots → MeansRuled features m → MeansRuled features (record m { funcs = functions })
  moved_means_ruled features m functions moved r =
      let n = numbered (record (parts m) { funcs = functions }) in
      let is = numbered_meaning (parts m) functions moved in
      record {
        rules = moved_ruled P features true (numbered (parts m)) n is r.rules;
        picked = moved_picked P features true (numbered (parts m)) n is r.picked;
        sized = record { tables = r.sized.tables; memories = r.sized.memories };
        customs = r.customs;
      }

module _ {F : Type 0} (step : F → ℕ → InstrLocId → F → Type 0) {B : Type 0} where
  pub sent_ruled : SentModulesMeanRuledOnes step B
  sent_ruled config f g m functions sent r = moved_means_ruled (IsAnswer step) (read_features config) m functions (functions_moved step f g m.funcs functions sent) r

  pub handed_on : ReadModulesMeanFiles B → ReadModulesMeanRuledOnes B → ReadModulesAreHandedOn step B
  handed_on files ruled config bytes m found f g functions small read sent =
      let file = files config bytes m found small read in
      record {
        linked = sent_linked step f g m functions sent file.2.linked;
        ruled = sent_ruled config f g m functions sent (ruled config bytes m found small read);
        file = file.0;
        reads = file.1;
        meant = file.2;
        moved = sent_meaning step f g m functions sent;
        names = names_stay (Answered step) m functions (functions_moved step f g m.funcs functions sent) config file.0 found file.2.names;
      }
