-- Lemmas: the body that a function of a module that was read has.
use Rattle.std.specs.Prelude.{ℕ, ◌≡◌, ◌==◌, Bool, true, false, List, [], ◌∷◌, length, map, Some, None, refl, if◌then◌else◌}
use Rattle.std.specs.List.{AllZip}
use Rattle.std.proofs.Common.{ap, sym, ◌∙◌}
use Rattle.std.proofs.lemmas.Bool.{eqb-true}
use Rattle.walrus_named_bodies.specs.walrus_file_bodies.walrus_items_into.walrus_module_env.walrus_handler_types.walrus_body_steps.wasm_body_grammar.Rules.{Around}
use Rattle.walrus_named_bodies.specs.walrus_file_bodies.walrus_items_into.walrus_module_env.walrus_handler_types.walrus_body_steps.wasm_body_grammar.wasm_grammar.Modules as grammar
use Rattle.walrus_named_bodies.specs.walrus_file_bodies.walrus_items_into.walrus_module_env.walrus_handler_types.walrus_body_steps.wasm_body_grammar.wasm_grammar.walrus_forms.declared.value.ValType.{ValType}
use Rattle.walrus_named_bodies.specs.walrus_file_bodies.walrus_items_into.walrus_module_env.walrus_handler_types.walrus_body_steps.wasm_body_grammar.wasm_operators.Items.{Locals}
use Rattle.walrus_named_bodies.specs.walrus_file_bodies.walrus_items_into.walrus_module_env.walrus_handler_types.walrus_body_steps.wasm_body_grammar.wasm_operators.declared.block_type.BlockType.{BlockType}
use Rattle.walrus_arena.specs.Arena.{item_at}
use Rattle.walrus_named_bodies.specs.walrus_file_bodies.walrus_body_trees.Laws.{meant, place_at, renamed}
use Rattle.walrus_named_bodies.specs.walrus_file_bodies.walrus_items_into.walrus_functions_into.declared.bodies.FunctionBody.{FunctionBody}
use Rattle.walrus_named_bodies.specs.walrus_file_bodies.walrus_items_into.walrus_module_env.wasm_run_names.Picks.{block_pick}
use Rattle.walrus_named_bodies.specs.walrus_file_bodies.walrus_items_into.walrus_module_bodies.walrus_body_trees.walrus_meaning.Bodies.{local_ids, own_body, own_operators}
use Rattle.walrus_body_laws.specs.walrus_pairing.walrus_index_maps.Maps.{Ids}
use Rattle.walrus_named_bodies.specs.walrus_item_names.walrus_module.walrus_module_items.declared.function.Function.{Function}
use Rattle.walrus_named_bodies.specs.walrus_item_names.walrus_module.walrus_module_items.declared.function.FunctionKind.TheVariants as kinds
use Rattle.walrus_named_bodies.specs.walrus_file_bodies.walrus_items_into.walrus_module_bodies.walrus_body_trees.walrus_meaning.walrus_local_function.declared.local_function.LocalFunction.{LocalFunction}
use Rattle.walrus_named_bodies.specs.walrus_file_bodies.walrus_items_into.walrus_module_env.walrus_handler_types.walrus_body_steps.wasm_normal_form.Bodies.{used_keys}
use Rattle.walrus_named_bodies.specs.walrus_file_bodies.walrus_items_into.walrus_module_env.walrus_handler_types.walrus_body_steps.wasm_normal_form.Normal.{normal_ops}
use Rattle.walrus_named_bodies.specs.walrus_item_names.walrus_module.Parts.{Module}
use Rattle.walrus_parse_laws.specs.Locals.{HasLocals as HasOwn, kept_numbers, typed}
use Rattle.walrus_parse_laws.specs.BodiesTexts.{MeansBody, naming, text_of}
use Rattle.walrus_parse_laws.specs.Meant.{body_meant, located, place_of}
use Rattle.walrus_parse_laws.proofs.ListLemmas.{some_is}

local_is : (x y : LocalFunction) → kinds.Local x ≡ kinds.Local y → x ≡ y
local_is x y e = cc

-- ---- places

placed_at : (n : ℕ) → place_of (place_at n) ≡ n
placed_at n = go (n == 4294967295) refl
  where
    go : (b : Bool) → (n == 4294967295) ≡ b → place_of (if b then None else Some n) ≡ n
    go true e = sym (eqb-true n 4294967295 e)
    go false e = refl

all_located : (ops : List grammar.Placed) → map located (map meant ops) ≡ ops
all_located [] = refl
all_located (o ∷ ops) =
    ap (λ (n : ℕ). (let p : grammar.Placed = record { place = n; op = o.op } in p) ∷ map located (map meant ops)) (placed_at o.place)
    ∙ ap (λ (l : List grammar.Placed). o ∷ l) (all_located ops)

-- ---- a body

-- the function of a number has this body, and these ids for its locals, behind its arguments
pub record BodyOf (m : Module) (found : Ids) (pick : BlockType → BlockType) (file : grammar.Module) (n : ℕ) (x : grammar.Body) : Type 0 where
  pub function : Function
  pub there : item_at m.funcs n ≡ Some function
  pub local : LocalFunction
  pub kind : function.kind ≡ kinds.Local local
  pub body : own_body m.locals local ≡ body_meant found pick file n (length local.args.items) x
  pub ids : local_ids m.locals local
      ≡ map (naming found n Locals) (kept_numbers (length local.args.items) (used_keys (length local.args.items) (typed found x).locals (normal_ops pick (text_of x))))

body_is : (b : grammar.Body) (locals : List ValType) (operators : List grammar.Placed) → b.locals ≡ locals → b.operators ≡ operators → b ≡ record { locals = locals; operators = operators }
body_is b locals operators e f = λ i. record { locals = e i; operators = f i }

body_has : (m : Module) (found : Ids) (a : Around) (file : grammar.Module) (b : FunctionBody) (x : grammar.Body) → MeansBody m found a b x → HasOwn m found a b x → BodyOf m found (block_pick a) file b.number x
body_has m found a file b x k h =
    let alike : k.function ≡ h.function = some_is k.function h.function (sym k.there ∙ h.there) in
    let one : k.local ≡ h.local = local_is k.local h.local (sym k.kind ∙ ap (λ (f : Function). f.kind) alike ∙ h.kind) in
    let operators : own_operators h.local ≡ map located (map (renamed (naming found b.number)) (normal_ops (block_pick a) (text_of x))) =
    ap own_operators (sym one) ∙ sym (all_located (own_operators k.local)) ∙ ap (map located) k.operators in
    record {
      function = h.function;
      there = h.there;
      local = h.local;
      kind = h.kind;
      body = let meant_so : grammar.Body = body_meant found (block_pick a) file b.number (length h.local.args.items) x in body_is (own_body m.locals h.local) meant_so.locals meant_so.operators h.locals operators;
      ids = h.ids;
    }

pub all_have : (m : Module) (found : Ids) (a : Around) (file : grammar.Module) (bs : List FunctionBody) (xs : List grammar.Body) → AllZip (MeansBody m found a) bs xs → AllZip (HasOwn m found a) bs xs
    → AllZip (λ (b : FunctionBody) (x : grammar.Body). BodyOf m found (block_pick a) file b.number x) bs xs
all_have m found a file [] [] k h = tt
all_have m found a file [] (x ∷ xs) k h = absurd k
all_have m found a file (b ∷ bs) [] k h = absurd k
all_have m found a file (b ∷ bs) (x ∷ xs) k h = (body_has m found a file b x k.0 h.0, all_have m found a file bs xs k.1 h.1)
