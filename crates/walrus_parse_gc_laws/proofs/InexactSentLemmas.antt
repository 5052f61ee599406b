-- Lemmas: a module whose locations were sent through a callback holds no exact heap type, where it held none.
use Rattle.std.proofs.Common.{subst, sym, ◌∙◌}
use Rattle.std.specs.List.{AllZip, flat_map}
use Rattle.std.specs.Prelude.{Contains, List, MatchOption, None, Option, Some, [], false, map, nat_eq, not, refl, slice_get, ℕ, ◌&&◌, ◌++◌, ◌||◌, ◌∷◌, ◌≡◌}
use Rattle.walrus_meaning.specs.walrus_linked.walrus_module.walrus_types.walrus_forms.walrus_arena.Arena.{Arena, item_at}
use Rattle.walrus_parse_laws.specs.walrus_named_bodies.walrus_file_bodies.walrus_items_into.walrus_module_env.walrus_handler_types.walrus_tree.walrus_builder.Functions.{seqs_of}
use Rattle.walrus_pass_laws.specs.walrus_exact.Exact.{block_exact, instr_exact, instrs_exact, seq_exact}
use Rattle.walrus_marks.specs.walrus_instr.declared.instr.Instr.{Instr}
use Rattle.walrus_marks.specs.walrus_instr.declared.seq.InstrLocId.{InstrLocId}
use Rattle.walrus_marks.specs.walrus_instr.declared.seq.InstrSeq.{InstrSeq}
use Rattle.walrus_locations.specs.Sent.{FunctionsSent}
use Rattle.walrus_marks.specs.Chains.{Chain, root, refers}
use Rattle.walrus_pass_laws.specs.walrus_references.walrus_module.Parts.{Module, parts}
use Rattle.walrus_parse_laws.specs.walrus_named_bodies.walrus_file_bodies.walrus_items_into.walrus_module_env.walrus_collections.walrus_module_items.declared.function.Function.{Function}
use Rattle.walrus_parse_laws.specs.walrus_named_bodies.walrus_file_bodies.walrus_items_into.walrus_module_env.walrus_collections.walrus_module_items.declared.function.FunctionKind.TheVariants.{Import, Local, Uninitialized}
use Rattle.walrus_parse_laws.specs.walrus_named_bodies.walrus_file_bodies.walrus_items_into.walrus_module_env.walrus_collections.walrus_module_items.declared.function.FunctionKind.{FunctionKind}
use Rattle.walrus_parse_gc_laws.proofs.ReadLemmas.{passed}
use Rattle.walrus_parse_gc_laws.proofs.ValueLemmas.{some_is}
use Rattle.walrus_parse_gc_laws.specs.Passed.{ReadModulesHaveNoExact, SentModulesPass}
use Rattle.walrus_parse_gc_laws.specs.Served.{SentModulesAreServed}
use Rattle.walrus_pass_laws.specs.walrus_references.References.{Holds, IsEntry, held, held_in}
use Rattle.walrus_pass_laws.specs.walrus_refusals.Written.{BodyHasNone, HasNoExact, HasNoExactIn, KindHasNone}
use Rattle.walrus_parse_laws.specs.walrus_named_bodies.walrus_file_bodies.walrus_items_into.walrus_tables_into.walrus_sections.walrus_roots.Items.{item}
use Rattle.walrus_parse_laws.specs.walrus_named_bodies.walrus_file_bodies.walrus_items_into.walrus_tables_into.walrus_sections.walrus_roots.declared.item.Item.{Item}
use Rattle.walrus_parse_gc_laws.proofs.SentLemmas.{Answered, FunctionShifted, KindShifted, functions_moved}
use Rattle.walrus_parse_gc_laws.proofs.ZipLemmas.{OptionZip, zip_at, zip_slots}
use Rattle.walrus_marks.specs.walrus_walks.Tree.{children}
use Rattle.walrus_parse_laws.specs.walrus_named_bodies.walrus_file_bodies.walrus_items_into.wasm_sections.wasm_grammar.wasm_formats.declared.fault.Space.TheVariants as spaces
use Rattle.walrus_parse_laws.specs.walrus_named_bodies.walrus_file_bodies.walrus_items_into.wasm_sections.wasm_grammar.wasm_formats.declared.fault.Space.{Space}

-- ---- the same instructions, at other places

abbrev SameInstrs : List (Instr × InstrLocId) → List (Instr × InstrLocId) → Type 0
SameInstrs is js = AllZip (λ (i j : Instr × InstrLocId). j.0 ≡ i.0) is js

same_instrs : {Q : Instr × InstrLocId → Instr × InstrLocId → Type 0} (is js : List (Instr × InstrLocId)) → AllZip Q is js → ((i j : Instr × InstrLocId) → Q i j → j.0 ≡ i.0) → SameInstrs is js
same_instrs [] [] z f = tt
same_instrs [] (j ∷ js) z f = absurd z
same_instrs (i ∷ is) [] z f = absurd z
same_instrs (i ∷ is) (j ∷ js) z f = (f i j z.0, same_instrs is js z.1 f)

held_same : (is js : List (Instr × InstrLocId)) → SameInstrs is js
    → flat_map (λ (i : Instr × InstrLocId). map (item spaces.Label) (children i.0)) js ≡ flat_map (λ (i : Instr × InstrLocId). map (item spaces.Label) (children i.0)) is
held_same [] [] z = refl
held_same [] (j ∷ js) z = absurd z
held_same (i ∷ is) [] z = absurd z
held_same (i ∷ is) (j ∷ js) z = λ k. map (item spaces.Label) (children (z.0 k)) ++ held_same is js z.1 k

exact_same : (is js : List (Instr × InstrLocId)) → SameInstrs is js → instrs_exact js ≡ instrs_exact is
exact_same [] [] z = refl
exact_same [] (j ∷ js) z = absurd z
exact_same (i ∷ is) [] z = absurd z
exact_same (i ∷ is) (j ∷ js) z = λ k. instr_exact (z.0 k) || exact_same is js z.1 k

-- ---- sequences

record Alike (s t : InstrSeq) : Type 0 where
  pub ty : t.ty ≡ s.ty
  pub instrs : SameInstrs s.instrs.items t.instrs.items

all_alike : {R : InstrSeq → InstrSeq → Type 0} (b c : List InstrSeq) → AllZip R b c → ((s t : InstrSeq) → R s t → Alike s t) → AllZip Alike b c
all_alike [] [] z f = tt
all_alike [] (t ∷ c) z f = absurd z
all_alike (s ∷ b) [] z f = absurd z
all_alike (s ∷ b) (t ∷ c) z f = (f s t z.0, all_alike b c z.1 f)

seq_same : (k : ℕ) (s t : InstrSeq) → Alike s t → seq_exact k t ≡ seq_exact k s
seq_same k s t z = λ i. (not (nat_eq k 0) && block_exact (z.ty i)) || exact_same s.instrs.items t.instrs.items z.instrs i

held_alike : (o p : Option InstrSeq) → OptionZip Alike o p → held p ≡ held o
held_alike None None z = refl
held_alike None (Some t) z = absurd z
held_alike (Some s) None z = absurd z
held_alike (Some s) (Some t) z = held_same s.instrs.items t.instrs.items z.instrs

module _ (b c : List InstrSeq) (z : AllZip Alike b c) where
  holds_before : (space : Space) (id : ℕ) (y : Item) → Contains (held_in c space id) y → Contains (held_in b space id) y
  holds_before spaces.Label id y h = subst (λ (items : List Item). Contains items y) (held_alike (slice_get b id) (slice_get c id) (zip_at Alike b c z id)) h
  holds_before _ id y h = h

  chains_before : (x : Item) → Chain IsEntry (Holds c) x → Chain IsEntry (Holds b) x
  chains_before x (root r) = root r
  chains_before y (refers {x} k r) = refers (chains_before x k) (holds_before x.space x.id y r)

  body_sent : BodyHasNone b → BodyHasNone c
  body_sent h k t reaches at = by (slice_get b k) (slice_get c k) refl at (zip_at Alike b c z k)
    where
      by : (o p : Option InstrSeq) → slice_get b k ≡ o → p ≡ Some t → OptionZip Alike o p → seq_exact k t ≡ false
      by None None is e y = absurd cc
      by None (Some u) is e y = absurd y
      by (Some s) None is e y = absurd y
      by (Some s) (Some u) is e y =
          subst (λ (x : InstrSeq). seq_exact k x ≡ false) (some_is u t e) (seq_same k s u y ∙ h k s (chains_before (item spaces.Label k) reaches) is)

-- ---- functions

module _ (P : InstrLocId → InstrLocId → Type 0) where
  kind_sent : (kind after : FunctionKind) → KindShifted P kind after → KindHasNone kind → KindHasNone after
  kind_sent (Local local) after (new, is, moved) h =
      let alike = all_alike (seqs_of local.builder) (seqs_of new.builder) moved.seqs (λ s t r. record { ty = r.ty; instrs = same_instrs s.instrs.items t.instrs.items r.instrs (λ i j q. q.0) }) in
      subst KindHasNone (sym is) (body_sent (seqs_of local.builder) (seqs_of new.builder) alike h)
  kind_sent (Import imported) after is h = subst KindHasNone (sym is) tt
  kind_sent (Uninitialized ty) after is h = subst KindHasNone (sym is) tt

  slot_sent : (o p : Option Function) → OptionZip (FunctionShifted P) o p → MatchOption o (Unit {0}) (λ (f : Function). KindHasNone f.kind) → MatchOption p (Unit {0}) (λ (f : Function). KindHasNone f.kind)
  slot_sent None None z h = tt
  slot_sent None (Some g) z h = absurd z
  slot_sent (Some f) None z h = absurd z
  slot_sent (Some f) (Some g) z h = kind_sent f.kind g.kind z.kind h

module _ {F : Type 0} (step : F → ℕ → InstrLocId → F → Type 0) where
  pub sent_none : (f g : F) (m : Module) (functions : Arena Function) → FunctionsSent step f m.funcs g functions → ((x : Item) → HasNoExact m x) → (x : Item) → HasNoExact (record m { funcs = functions }) x
  sent_none f g m functions sent none x = by_space x.space x.id
    where
      by_space : (space : Space) (id : ℕ) → HasNoExactIn (record m { funcs = functions }) space id
      by_space spaces.Function id =
          slot_sent (Answered step) (item_at m.funcs id) (item_at functions id) (zip_slots (FunctionShifted (Answered step)) m.funcs.slots functions.slots (functions_moved step f g m.funcs functions sent) id) (none (item spaces.Function id))
      by_space spaces.«Type» id = none (item spaces.«Type» id)
      by_space spaces.Table id = none (item spaces.Table id)
      by_space spaces.Memory id = tt
      by_space spaces.Tag id = tt
      by_space spaces.Global id = none (item spaces.Global id)
      by_space spaces.Element id = none (item spaces.Element id)
      by_space spaces.Data id = none (item spaces.Data id)
      by_space spaces.Local id = none (item spaces.Local id)
      by_space spaces.Label id = tt

  pub sent_pass : {B : Type 0} → SentModulesAreServed step B → ReadModulesHaveNoExact B → SentModulesPass step B
  sent_pass served none config bytes m found f g functions small is through pushed =
      passed (parts (record m { funcs = functions })) pushed (served config bytes m found f g functions small is through pushed) (sent_none f g (parts m) functions through (none config bytes m found small is))
