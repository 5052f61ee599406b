-- Lemmas: what is written for the bodies of a module that was read.
use Rattle.std.specs.Prelude.{ℕ, ◌≡◌, List, [], ◌∷◌, length, map, Option, Some, refl}
use Rattle.std.specs.List.{AllZip}
use Rattle.std.proofs.Common.{ap, sym, ◌∙◌, inr}
use Rattle.wasm_body_grammar.specs.Rules.{Around}
use Rattle.wasm_body_grammar.specs.wasm_grammar.Modules as grammar
use Rattle.wasm_body_grammar.specs.wasm_operators.NameLaws.{RenamesTwice, after}
use Rattle.wasm_body_grammar.specs.wasm_operators.Names.{Renaming}
use Rattle.wasm_body_grammar.specs.wasm_operators.Items.{Locals}
use Rattle.walrus_parse_laws.specs.walrus_named_bodies.walrus_file_bodies.walrus_items_into.wasm_module_rules.wasm_modules.Modules.{around}
use Rattle.walrus_parse_laws.specs.walrus_meaning.walrus_local_function.walrus_body_locals.wasm_normal_form.Bodies.{locals_named, new_number}
use Rattle.walrus_parse_laws.specs.walrus_meaning.walrus_local_function.walrus_body_locals.wasm_normal_form.Normal.{normal_ops}
use Rattle.walrus_parse_laws.specs.walrus_meaning.walrus_local_function.walrus_body_locals.wasm_normal_form.Roles.{Placed}
use Rattle.walrus_parse_laws.specs.walrus_named_bodies.walrus_file_bodies.walrus_items_into.walrus_module_env.wasm_run_names.Picks.{block_pick}
use Rattle.walrus_parse_laws.specs.walrus_named_bodies.walrus_file_bodies.Ready.{bodies_in}
use Rattle.walrus_parse_laws.specs.walrus_named_bodies.walrus_file_bodies.walrus_items_into.walrus_functions_into.declared.bodies.FunctionBody.{FunctionBody}
use Rattle.walrus_parse_laws.specs.walrus_meaning.walrus_body_writer.walrus_pairing.walrus_index_maps.Maps.{Ids}
use Rattle.walrus_parse_laws.specs.walrus_named_bodies.walrus_file_bodies.walrus_items_into.walrus_tables_into.walrus_sections_into.walrus_known_sections.State.{state_of}
use Rattle.walrus_parse_laws.specs.walrus_meaning.walrus_local_function.declared.local_function.LocalFunction.{LocalFunction}
use Rattle.walrus_parse_laws.specs.walrus_meaning.Bodies.{own_operators}
use Rattle.walrus_parse_laws.specs.walrus_meaning.walrus_module.Parts.{Module, parts}
use Rattle.walrus_parse_laws.specs.walrus_meaning.walrus_linked.walrus_module_items.declared.function.Function.{Function}
use Rattle.walrus_parse_laws.specs.walrus_meaning.walrus_linked.walrus_module_items.declared.function.FunctionKind.TheVariants as kinds
use Rattle.walrus_parse_laws.specs.walrus_named_bodies.Parsed.{read_features}
use Rattle.walrus_parse_laws.specs.walrus_body_trees.Laws.{meant, renamed}
use Rattle.walrus_parse_laws.specs.BodiesTexts.{MeansBody, ReadBodiesMeanTheirs, naming, text_of}
use Rattle.walrus_body_names.specs.walrus_pairing.Looks.{number_of}
use Rattle.walrus_body_laws.specs.EmissionLaws.{BodiesAreMeant, sent}
use Rattle.walrus_parse_laws.specs.Locals.{keys_of}
use Rattle.walrus_parse_gc_laws.specs.Numbers.{HasNumbers, ReadBodiesHaveTheirNumbers}
use Rattle.walrus_parse_gc_laws.specs.Texts.{WritesBody, ReadBodiesWriteTheirs}
use Rattle.walrus_parse_gc_laws.proofs.NumbersNameLemmas.{Comes, all_of, ops_are}

some_is : (f g : Function) → Some f ≡ Some g → f ≡ g
some_is f g e = cc

local_is : (x y : LocalFunction) → kinds.Local x ≡ kinds.Local y → x ≡ y
local_is x y e = cc

sent_are : (r : Renaming) (os : List grammar.Placed) → map (sent r) os ≡ map (renamed r) (map meant os)
sent_are r [] = refl
sent_are r (o ∷ os) = ap (λ (l : List Placed). sent r o ∷ l) (sent_are r os)

module _ (are_meant : BodiesAreMeant) (twice : RenamesTwice) (m : Module) (found : Ids) (a : Around) where
  body_writes : (b : FunctionBody) (x : grammar.Body) → HasNumbers m found a b x → MeansBody m found a b x → WritesBody m found a b x
  body_writes b x h k =
      let alike : k.function ≡ h.function = some_is k.function h.function (sym k.there ∙ h.there) in
      let one : k.local ≡ h.local = local_is k.local h.local (sym k.kind ∙ ap (λ (f : Function). f.kind) alike ∙ h.kind) in
      let operators : map meant (own_operators h.local) ≡ map (renamed (naming found b.number)) (normal_ops (block_pick a) (text_of x)) =
      ap (λ (l : LocalFunction). map meant (own_operators l)) (sym one) ∙ k.operators in
      record {
        function = h.function;
        there = h.there;
        local = h.local;
        kind = h.kind;
        written = λ used are before maps same r sends keeps w.
            are_meant r (number_of maps b.number) sends keeps h.local w ∙ sent_are r (own_operators h.local) ∙ ap (map (renamed r)) operators
            ∙ ops_are twice r (naming found b.number) (new_number (length h.local.args.items) (keys_of found a (length h.local.args.items) x)) (normal_ops (block_pick a) (text_of x))
            (all_of (Comes (after r (naming found b.number)) (new_number (length h.local.args.items) (keys_of found a (length h.local.args.items) x))) (locals_named (normal_ops (block_pick a) (text_of x)))
            (λ n named. sym (sends Locals (naming found b.number Locals n) (new_number (length h.local.args.items) (keys_of found a (length h.local.args.items) x) n)
            (ap (λ (numbers : ℕ → Option ℕ). numbers (naming found b.number Locals n)) same ∙ h.numbers used are before n (inr named)))));
      }

  pub all_write : (bs : List FunctionBody) (xs : List grammar.Body) → AllZip (HasNumbers m found a) bs xs → AllZip (MeansBody m found a) bs xs → AllZip (WritesBody m found a) bs xs
  all_write [] [] h k = tt
  all_write [] (x ∷ xs) h k = absurd h
  all_write (b ∷ bs) [] h k = absurd h
  all_write (b ∷ bs) (x ∷ xs) h k = (body_writes b x h.0 k.0, all_write bs xs h.1 k.1)

pub bodies_write : {B : Type 0} → ReadBodiesHaveTheirNumbers B → ReadBodiesMeanTheirs B → BodiesAreMeant → RenamesTwice → ReadBodiesWriteTheirs B
bodies_write {B} have mean are_meant twice config bytes m found small is =
    all_write are_meant twice (parts m) found (around (read_features config) (state_of is.1.sections)) (bodies_in is.1.sections is.1.filled.functions) is.1.bodies (have config bytes m found small is) (mean config bytes m found small is)
