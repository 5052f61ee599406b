-- Lemmas: the numbers of the locals of a module that was read.
use Rattle.std.specs.Prelude.{List, [], ◌∷◌, ◌++◌, length, map, slice_get}
use Rattle.std.specs.List.{AllZip}
use Rattle.std.proofs.Common.{ap, ◌∙◌, subst}
use Rattle.wasm_body_grammar.specs.Rules.{Around}
use Rattle.wasm_body_grammar.specs.wasm_grammar.Modules as grammar
use Rattle.wasm_body_grammar.specs.wasm_operators.Items.{Locals}
use Rattle.walrus_parse_laws.specs.walrus_named_bodies.walrus_file_bodies.walrus_items_into.wasm_module_rules.wasm_modules.Modules.{around}
use Rattle.walrus_parse_laws.specs.walrus_meaning.walrus_local_function.walrus_body_locals.wasm_normal_form.Bodies.{new_number}
use Rattle.walrus_parse_laws.specs.walrus_meaning.walrus_local_function.walrus_body_locals.wasm_normal_form.Locals.{Key}
use Rattle.walrus_parse_laws.specs.walrus_named_bodies.walrus_file_bodies.Ready.{bodies_in}
use Rattle.walrus_parse_laws.specs.walrus_named_bodies.walrus_file_bodies.walrus_items_into.walrus_functions_into.declared.bodies.FunctionBody.{FunctionBody}
use Rattle.walrus_parse_laws.specs.walrus_meaning.walrus_body_writer.walrus_pairing.walrus_index_maps.Maps.{Ids}
use Rattle.walrus_parse_laws.specs.walrus_named_bodies.walrus_file_bodies.walrus_items_into.walrus_tables_into.walrus_sections_into.walrus_known_sections.State.{state_of}
use Rattle.walrus_parse_laws.specs.walrus_meaning.walrus_linked.Linked.{IsWhole}
use Rattle.walrus_parse_laws.specs.walrus_meaning.walrus_module.Parts.{Module, parts}
use Rattle.walrus_parse_laws.specs.walrus_meaning.walrus_linked.walrus_module_items.declared.function.FunctionKind.{FunctionKind}
use Rattle.walrus_parse_laws.specs.walrus_named_bodies.Parsed.{read_features}
use Rattle.walrus_parse_laws.specs.BodiesTexts.{naming}
use Rattle.walrus_parse_laws.specs.Whole.{AreWhole, ReadFunctionsAreWhole}
use Rattle.walrus_local_numbers.specs.Laws.{ArgumentsFirst, OthersFollow}
use Rattle.walrus_parse_laws.specs.Locals.{HasLocals, ReadBodiesHaveTheirLocals, keys_of}
use Rattle.walrus_parse_gc_laws.specs.Numbers.{HasNumbers, ReadBodiesHaveTheirNumbers, UsedLocalsAreMeant}
use Rattle.walrus_parse_gc_laws.proofs.NumbersPlaceLemmas.{has_place, once_of}

module _ (meant : UsedLocalsAreMeant) (first : ArgumentsFirst) (follow : OthersFollow) (m : Module) (found : Ids) (a : Around) (whole : AreWhole m) where
  body_has : (b : FunctionBody) (x : grammar.Body) → HasLocals m found a b x → HasNumbers m found a b x
  body_has b x h =
      let own = subst (λ (kind : FunctionKind). IsWhole m.types kind) h.kind (whole b.number h.function h.there) in
      record {
        function = h.function;
        there = h.there;
        local = h.local;
        kind = h.kind;
        locals = λ used are. ap (map (λ (k : Key). k.0)) (meant h.local m.locals used are) ∙ h.locals;
        numbers = λ used are before n kept.
            has_place first follow m.locals h.local.args.items used b.number before (once_of h.local.args.items own.0.distinct) (new_number (length h.local.args.items) (keys_of found a (length h.local.args.items) x) n) (naming found b.number Locals n)
            (ap (λ (ks : List Key). slice_get (h.local.args.items ++ map (λ (k : Key). k.1) ks) (new_number (length h.local.args.items) (keys_of found a (length h.local.args.items) x) n)) (meant h.local m.locals used are) ∙ h.numbers n kept);
      }

  all_have : (bs : List FunctionBody) (xs : List grammar.Body) → AllZip (HasLocals m found a) bs xs → AllZip (HasNumbers m found a) bs xs
  all_have [] [] h = tt
  all_have [] (x ∷ xs) h = absurd h
  all_have (b ∷ bs) [] h = absurd h
  all_have (b ∷ bs) (x ∷ xs) h = (body_has b x h.0, all_have bs xs h.1)

pub bodies_have : {B : Type 0} → ReadBodiesHaveTheirLocals B → ReadFunctionsAreWhole B → UsedLocalsAreMeant → ArgumentsFirst → OthersFollow → ReadBodiesHaveTheirNumbers B
bodies_have {B} have whole meant first follow config bytes m found small is =
    all_have meant first follow (parts m) found (around (read_features config) (state_of is.1.sections)) (whole config bytes m found small is) (bodies_in is.1.sections is.1.filled.functions) is.1.bodies (have config bytes m found small is)
