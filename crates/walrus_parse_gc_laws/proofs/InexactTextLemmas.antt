-- Lemmas: what the handlers of a file's bodies take and give is inexact, where the file's types and bodies are.
use Rattle.std.proofs.Common.{subst}
use Rattle.std.specs.List.{AllByRecursion, flat_map}
use Rattle.std.specs.Option.{option_and_then, option_map}
use Rattle.std.specs.Prelude.{List, None, Option, Some, [], map, refl, slice_get, slice_index_or, suc, zero, ℕ, ◌++◌, ◌∷◌, ◌≡◌}
use Rattle.walrus_parse_laws.specs.walrus_pairing.walrus_forms.Forms.{ArrayForm, Form, FunctionForm, StructForm}
use Rattle.walrus_parse_laws.specs.walrus_pairing.walrus_forms.Kinds.{Kind}
use Rattle.walrus_parse_laws.specs.walrus_pairing.walrus_forms.Records.{TypeGroup}
use Rattle.walrus_parse_laws.specs.walrus_pairing.walrus_forms.declared.value.ValType.{ValType}
use Rattle.walrus_function_types.specs.FunctionTypes.{form_params, form_results}
use Rattle.walrus_parse_laws.specs.Added.{Signature}
use Rattle.walrus_parse_laws.specs.Files.{block_gives, bodies_handle, body_handles, opened_gives, part_handles, sent, tag_takes, text_handles, type_params, type_results}
use Rattle.walrus_parse_laws.specs.Handlers.{signature_of}
use Rattle.walrus_parse_gc_laws.proofs.TreeLemmas.{TreeIs, normal_is}
use Rattle.walrus_parse_gc_laws.proofs.ValueLemmas.{some_is, values_renamed}
use Rattle.walrus_parse_laws.specs.walrus_named_bodies.walrus_file_bodies.walrus_items_into.walrus_module_env.walrus_handler_types.walrus_body_steps.wasm_body_grammar.Codes.{Code, ReadsCodes}
use Rattle.walrus_parse_laws.specs.walrus_named_bodies.walrus_file_bodies.walrus_items_into.walrus_module_env.walrus_handler_types.walrus_body_steps.wasm_body_grammar.Rules.{Around}
use Rattle.walrus_parse_laws.specs.walrus_named_bodies.walrus_file_bodies.walrus_items_into.wasm_sections.wasm_grammar.Modules as grammar
use Rattle.walrus_parse_laws.specs.walrus_named_bodies.walrus_file_bodies.walrus_items_into.wasm_sections.wasm_grammar.States.{types_of}
use Rattle.walrus_parse_laws.specs.walrus_named_bodies.walrus_file_bodies.walrus_items_into.wasm_sections.wasm_grammar.TypeWords.{value_of}
use Rattle.walrus_parse_laws.specs.walrus_pairing.wasm_operators.Items.{Item, Names, Number, S32, S64, Bits, Byte, Bytes, Heap, Block, Access, ManyLabels, ManyValues, ManyClauses, Tags}
use Rattle.walrus_parse_laws.specs.walrus_pairing.wasm_operators.declared.block_type.BlockType.TheVariants as blocks
use Rattle.walrus_parse_laws.specs.walrus_pairing.wasm_operators.declared.block_type.BlockType.{BlockType}
use Rattle.wasm_inexact_modules.proofs.SpellLemmas.{told_inexact}
use Rattle.wasm_inexact_modules.specs.Inexact.{InexactBlock, InexactBody, InexactForm, InexactGroups, InexactItem, InexactKinds, InexactOperator, InexactValues, ReadBodiesAreInexact}
use Rattle.walrus_parse_laws.specs.walrus_named_bodies.walrus_file_bodies.walrus_items_into.walrus_module_env.walrus_handler_types.walrus_body_steps.wasm_normal_form.Trees.{Tree, Close, Arm, Skip, Run, Nest, tree_of}
use Rattle.walrus_parse_laws.specs.walrus_named_bodies.walrus_file_bodies.walrus_items_into.walrus_module_env.walrus_handler_types.walrus_body_steps.wasm_normal_form.Normal.{normal}
use Rattle.walrus_parse_laws.specs.walrus_named_bodies.walrus_file_bodies.walrus_items_into.walrus_module_env.walrus_handler_types.walrus_body_steps.wasm_normal_form.Roles.{placed}
use Rattle.walrus_parse_laws.specs.walrus_named_bodies.walrus_file_bodies.walrus_items_into.walrus_module_env.walrus_handler_types.walrus_body_steps.walrus_body_nesting.Opens.{same}
use Rattle.walrus_parse_laws.specs.walrus_named_bodies.walrus_file_bodies.walrus_items_into.walrus_module_env.walrus_body_parser.wasm_operators.Operators.{flow_of}
use Rattle.walrus_parse_laws.specs.walrus_named_bodies.walrus_file_bodies.walrus_items_into.walrus_module_env.walrus_body_parser.wasm_operators.declared.entry.Flow.TheVariants as flows
use Rattle.walrus_parse_laws.specs.walrus_named_bodies.walrus_file_bodies.walrus_items_into.walrus_module_env.walrus_body_parser.wasm_operators.declared.entry.Flow.{Flow}

-- what it takes and gives is inexact
abbrev pub InexactSignature : Signature → Type 0
InexactSignature s = InexactValues s.params × InexactValues s.results

abbrev pub InexactSignatures : List Signature → Type 0
InexactSignatures ss = AllByRecursion InexactSignature ss

-- the lists that there are are inexact
abbrev MaybeInexact : Option (List ValType) → Type 0
MaybeInexact None = Unit {0}
MaybeInexact (Some tys) = InexactValues tys

pub joined : {A : Type 0} (P : A → Type 0) (xs ys : List A) → AllByRecursion P xs → AllByRecursion P ys → AllByRecursion P (xs ++ ys)
joined P [] ys h k = k
joined P (x ∷ xs) ys h k = (h.0, joined P xs ys h.1 k)

of_form : (form : Form) → InexactForm form → MaybeInexact (form_params form) × MaybeInexact (form_results form)
of_form (FunctionForm params results) h = h
of_form (StructForm fields) h = (tt, tt)
of_form (ArrayForm field) h = (tt, tt)

kind_at : (kinds : List Kind) (n : ℕ) (k : Kind) → InexactKinds kinds → slice_get kinds n ≡ Some k → InexactForm k.form
kind_at [] n k h e = absurd cc
kind_at (x ∷ kinds) zero k h e = subst (λ (y : Kind). InexactForm y.form) (some_is x k e) h.0
kind_at (x ∷ kinds) (suc n) k h e = kind_at kinds n k h.1 e

signed : (ps rs : Option (List ValType)) → MaybeInexact ps → MaybeInexact rs → InexactSignatures (signature_of ps rs)
signed (Some ps) (Some rs) h k = ((h, k), tt)
signed (Some ps) None h k = tt
signed None (Some rs) h k = tt
signed None None h k = tt

module _ (types : List Kind) (tags : List (Option grammar.Tag)) (inexact : InexactKinds types) where
  params_so : (n : ℕ) → MaybeInexact (type_params types tags n)
  params_so n = go (slice_get types n) refl
    where
      go : (o : Option Kind) → slice_get types n ≡ o → MaybeInexact (option_and_then (λ (k : Kind). form_params k.form) o)
      go None e = tt
      go (Some k) e = (of_form k.form (kind_at types n k inexact e)).0

  results_so : (n : ℕ) → MaybeInexact (type_results types tags n)
  results_so n = go (slice_get types n) refl
    where
      go : (o : Option Kind) → slice_get types n ≡ o → MaybeInexact (option_and_then (λ (k : Kind). form_results k.form) o)
      go None e = tt
      go (Some k) e = (of_form k.form (kind_at types n k inexact e)).1

  takes_so : (n : ℕ) → MaybeInexact (tag_takes types tags n)
  takes_so n = go (slice_index_or tags n None)
    where
      go : (o : Option grammar.Tag) → MaybeInexact (option_and_then (λ (t : grammar.Tag). type_params types tags t.ty) o)
      go None = tt
      go (Some t) = params_so t.ty

  gives_so : (w : BlockType) → InexactBlock w → MaybeInexact (block_gives types tags w)
  gives_so blocks.Empty h = tt
  gives_so (blocks.Value ty) h = go (value_of ty) refl
    where
      go : (o : Option ValType) → value_of ty ≡ o → MaybeInexact (option_map (λ v. v ∷ []) o)
      go None e = tt
      go (Some v) e = (told_inexact ty v e h, tt)
  gives_so (blocks.Type n) h = results_so n

  opened_so : (items : List Item) → AllByRecursion InexactItem items → MaybeInexact (opened_gives types tags items)
  opened_so [] h = tt
  opened_so (Names space n ∷ items) h = tt
  opened_so (Number n ∷ items) h = tt
  opened_so (S32 z ∷ items) h = tt
  opened_so (S64 z ∷ items) h = tt
  opened_so (Bits size n ∷ items) h = tt
  opened_so (Byte b ∷ items) h = tt
  opened_so (Bytes run ∷ items) h = tt
  opened_so (Heap ty ∷ items) h = tt
  opened_so (Block w ∷ items) h = gives_so w h.0
  opened_so (Access a ∷ items) h = tt
  opened_so (ManyLabels ns ∷ items) h = tt
  opened_so (ManyValues tys ∷ items) h = tt
  opened_so (ManyClauses cs ∷ items) h = tt

  part_so : (results : Option (List ValType)) (flow : Option Flow) (items : List Item) → MaybeInexact results → InexactSignatures (part_handles types tags results flow items)
  part_so results (Some flows.Catch) (Names Tags n ∷ []) h = signed (tag_takes types tags n) results (takes_so n) h
  part_so results (Some flows.CatchAll) items h = signed (Some []) results tt h
  part_so results _ _ h = tt

  text_so : (results : Option (List ValType)) (t : Tree) → MaybeInexact results → TreeIs InexactOperator t → InexactSignatures (text_handles types tags results t)
  text_so results (Close o p) h c = tt
  text_so results (Arm o p t) h c = joined InexactSignature (part_handles types tags results (flow_of o.code) o.items) (text_handles types tags results t) (part_so results (flow_of o.code) o.items h) (text_so results t h c)
  text_so results (Skip o p t) h c = text_so results t h c
  text_so results (Run o p t) h c = text_so results t h c.1
  text_so results (Nest o p u t) h c =
      joined InexactSignature (text_handles types tags (opened_gives types tags o.items) u) (text_handles types tags results t) (text_so (opened_gives types tags o.items) u (opened_so o.items c.0) c.1) (text_so results t h c.2)

  bodies_so : (xs : List grammar.Body) → AllByRecursion InexactBody xs → InexactSignatures (flat_map (body_handles types tags) xs)
  bodies_so [] h = tt
  bodies_so (x ∷ xs) h = joined InexactSignature (body_handles types tags x) (flat_map (body_handles types tags) xs) (text_so None (normal same (tree_of (map (λ (o : grammar.Placed). placed o.op (Some o.place)) x.operators))) tt (normal_is InexactOperator x.operators h.0.1)) (bodies_so xs h.1)

pub all_kinds : (groups : List TypeGroup) → InexactGroups groups → InexactKinds (flat_map (λ (g : TypeGroup). g.kinds) groups)
all_kinds [] h = tt
all_kinds (g ∷ groups) h = joined (λ (k : Kind). InexactForm k.form) g.kinds (flat_map (λ (g : TypeGroup). g.kinds) groups) h.0 (all_kinds groups h.1)

pub handled_so : (file : grammar.Module) (xs : List grammar.Body) → InexactGroups file.groups → AllByRecursion InexactBody xs → InexactSignatures (bodies_handle file xs)
handled_so file xs h k = bodies_so (types_of file) file.tags (all_kinds file.groups h) xs k

-- each type sent to its id
pub sent_so : (r : ℕ → ℕ) (ss : List Signature) → InexactSignatures ss → InexactSignatures (map (sent r) ss)
sent_so r [] h = tt
sent_so r (s ∷ ss) h = ((values_renamed r s.params h.0.0, values_renamed r s.results h.0.1), sent_so r ss h.1)

-- bodies that read
pub codes_so : ReadBodiesAreInexact → (a : Around) (codes : List Code) (xs : List grammar.Body) → ReadsCodes a codes xs → AllByRecursion InexactBody xs
codes_so read a [] [] h = tt
codes_so read a [] (x ∷ xs) h = absurd h
codes_so read a (c ∷ codes) [] h = absurd h
codes_so read a (c ∷ codes) (x ∷ xs) h = (read a c.params c.chunk.place c.chunk.bytes x h.0, codes_so read a codes xs h.1)
