-- Lemmas: a module that was read isn't refused.
use Rattle.std.specs.Prelude.{ℕ, zero, suc, ◌≡◌, false, List, [], ◌∷◌, map, Option, Some, None, MatchOption, slice_index_or, refl}
use Rattle.std.specs.Option.{option_map}
use Rattle.std.proofs.Common.{ap, sym, ◌∙◌}
use Rattle.walrus_arena.specs.Arena.{item_at}
use Rattle.walrus_config.specs.declared.config.ModuleConfig.{ModuleConfig}
use Rattle.walrus_parse_laws.specs.walrus_named_bodies.walrus_file_bodies.walrus_items_into.walrus_module_env.walrus_handler_types.walrus_body_steps.walrus_body_nesting.wasm_formats.declared.fault.Space.{Space}
use Rattle.walrus_parse_laws.specs.walrus_named_bodies.walrus_file_bodies.walrus_items_into.walrus_module_env.walrus_handler_types.walrus_body_steps.walrus_body_nesting.wasm_formats.declared.fault.Space.TheVariants as spaces
use Rattle.walrus_parse_laws.proofs.WholeLemmas.{bare_same}
use Rattle.walrus_parse_laws.proofs.ListLemmas.{some_is}
use Rattle.walrus_parse_laws.specs.Linked.{ReadModulesAreLinked}
use Rattle.walrus_parse_laws.specs.walrus_meaning.walrus_linked.walrus_body_writer.walrus_pairing.Looks.{Look}
use Rattle.walrus_parse_laws.specs.walrus_meaning.walrus_linked.walrus_body_writer.walrus_pairing.walrus_index_maps.Maps.{Ids}
use Rattle.walrus_parse_laws.specs.walrus_meaning.walrus_linked.Linked.{IsLinked}
use Rattle.walrus_parse_laws.specs.walrus_meaning.walrus_linked.walrus_module_items.declared.global.Global.{Global}
use Rattle.walrus_parse_laws.specs.walrus_meaning.walrus_linked.walrus_module.Parts.{Module, parts}
use Rattle.walrus_parse_laws.specs.walrus_meaning.walrus_linked.walrus_module.declared.module.Module.{Module as Whole}
use Rattle.walrus_parse_laws.specs.walrus_named_bodies.Parsed.{IsReadAs}
use Rattle.walrus_parse_laws.specs.walrus_named_bodies.walrus_file_bodies.walrus_items_into.walrus_tables_into.Globals.{IsGlobalOf}
use Rattle.walrus_parse_laws.specs.walrus_named_bodies.walrus_file_bodies.walrus_items_into.walrus_tables_into.walrus_section_values.declared.globals.Global.{Global as ReadGlobal}
use Rattle.walrus_parse_laws.specs.walrus_named_bodies.walrus_file_bodies.walrus_items_into.walrus_tables_into.walrus_sections.walrus_roots.declared.item.Item.{Item}
use Rattle.walrus_parse_laws.specs.walrus_named_bodies.walrus_file_bodies.walrus_items_into.walrus_tables_into.walrus_sections_into.Becomes.{look_of}
use Rattle.walrus_parse_laws.specs.walrus_named_bodies.walrus_file_bodies.walrus_items_into.walrus_tables_into.walrus_sections_into.Slots.{Become, Filled}
use Rattle.walrus_parse_laws.specs.walrus_named_bodies.walrus_item_names.Holder.{Holder}
use Rattle.walrus_parse_laws.specs.walrus_named_bodies.walrus_item_names.Names.{bare_global}
use Rattle.walrus_pass_laws.specs.Served.{LinkedAreServed}
use Rattle.walrus_pass_laws.specs.walrus_refusals.Sound.{AllReached}
use Rattle.walrus_pass_laws.specs.walrus_refusals.Written.{IsUnshared, NamesNoLater, StaysInGroup}
use Rattle.walrus_parse_gc_laws.proofs.LinkedLemmas.{sent_linked}
use Rattle.walrus_walks.specs.walrus_instr.declared.seq.InstrLocId.{InstrLocId}
use Rattle.walrus_parse_gc_laws.specs.Served.{IsServed, ReadModulesAreServed, SentModulesAreServed}
use Rattle.walrus_parse_gc_laws.specs.Stays.{ReadTypesStayInGroups}

-- ---- item by item

module _ (m : Module) (types : (id : ℕ) → NamesNoLater m.types id) where
  stays_in : (space : Space) (id : ℕ) → StaysInGroup m (record { space = space; id = id })
  stays_in spaces.«Type» id = types id
  stays_in spaces.Function id = tt
  stays_in spaces.Table id = tt
  stays_in spaces.Memory id = tt
  stays_in spaces.Tag id = tt
  stays_in spaces.Global id = tt
  stays_in spaces.Element id = tt
  stays_in spaces.Data id = tt
  stays_in spaces.Local id = tt
  stays_in spaces.Label id = tt

module _ (m : Module) (globals : (id : ℕ) → MatchOption (item_at m.globals id) (Unit {0}) (λ (g : Global). g.shared ≡ false)) where
  unshared_in : (space : Space) (id : ℕ) → IsUnshared m (record { space = space; id = id })
  unshared_in spaces.«Type» id = tt
  unshared_in spaces.Function id = tt
  unshared_in spaces.Table id = tt
  unshared_in spaces.Memory id = tt
  unshared_in spaces.Tag id = tt
  unshared_in spaces.Global id = globals id
  unshared_in spaces.Element id = tt
  unshared_in spaces.Data id = tt
  unshared_in spaces.Local id = tt
  unshared_in spaces.Label id = tt

-- ---- globals of a file

filled_unshared : (look : Look) (xs : List ReadGlobal) (ys : List (Option Global)) (first : ℕ) → Become (IsGlobalOf look) xs ys first → (id : ℕ) (g : Global) → slice_index_or ys id None ≡ Some g → g.shared ≡ false
filled_unshared look xs [] first h id g e = absurd cc
filled_unshared look [] (y ∷ ys) first h id g e = absurd h
filled_unshared look (x ∷ xs) (None ∷ ys) first h id g e = absurd h
filled_unshared look (x ∷ xs) (Some y ∷ ys) first h zero g e = sym (ap (λ (z : Global). z.shared) (some_is y g e)) ∙ h.0.shared
filled_unshared look (x ∷ xs) (Some y ∷ ys) first h (suc id) g e = filled_unshared look xs ys (suc first) h.1 id g e

bare_unshared : (o p : Option Global) → option_map bare_global o ≡ option_map bare_global p → ((g : Global) → p ≡ Some g → g.shared ≡ false) → MatchOption o (Unit {0}) (λ (g : Global). g.shared ≡ false)
bare_unshared None p e h = tt
bare_unshared (Some x) None e h = absurd cc
bare_unshared (Some x) (Some y) e h = ap (λ (z : Global). z.shared) (some_is (bare_global x) (bare_global y) e) ∙ h y refl

all_unshared : (look : Look) (xs : List ReadGlobal) (old new : List (Option Global)) → map (option_map bare_global) new ≡ map (option_map bare_global) old → Filled (IsGlobalOf look) xs [] old
    → (id : ℕ) → MatchOption (slice_index_or new id None) (Unit {0}) (λ (g : Global). g.shared ≡ false)
all_unshared look xs old new bare filled id =
    bare_unshared (slice_index_or new id None) (slice_index_or old id None) (bare_same bare_global new old id bare)
    (λ g e. filled_unshared look xs filled.more 0 filled.become id g (ap (λ (l : List (Option Global)). slice_index_or l id None) (sym filled.behind) ∙ e))

served_so : (m : Module) → ((id : ℕ) → NamesNoLater m.types id) → ((id : ℕ) → MatchOption (item_at m.globals id) (Unit {0}) (λ (g : Global). g.shared ≡ false)) → IsLinked m → LinkedAreServed
    → (pushed : List Item) → IsServed m pushed
served_so m types globals linked served pushed =
    let h = served m pushed linked in
    let grouped : AllReached m pushed (StaysInGroup m) = λ x reached. stays_in m types x.space x.id in
    let unshared : AllReached m pushed (IsUnshared m) = λ x reached. unshared_in m globals x.space x.id in
    record {
      not_unlinked = h.not_unlinked;
      not_treeless = h.not_treeless;
      none_dead = λ live. (h.pushing_live live).none_dead grouped;
      sound = λ live inexact. record { linked = h.linked; trees = h.trees; live = (h.pushing_live live).live; grouped = grouped; unshared = unshared; inexact = inexact };
      memory_alone = λ live. (h.pushing_live live).memory_alone grouped unshared;
    }

-- ---- modules that were read

read_unshared : {B : Type 0} (config : ModuleConfig) (bytes : List ℕ) (m : Whole B) (found : Ids) → IsReadAs config bytes m found → (id : ℕ) → MatchOption (item_at m.globals id) (Unit {0}) (λ (g : Global). g.shared ≡ false)
read_unshared config bytes m found is =
    let read = is.1 in
    all_unshared (look_of read.numbers) read.sections.globals.items read.filled.globals.slots m.globals.slots (ap (λ (x : Holder). x.globals.slots) read.names.same) read.are_filled.globals

pub are_served : {B : Type 0} → ReadTypesStayInGroups B → ReadModulesAreLinked B → LinkedAreServed → ReadModulesAreServed B
are_served stay linked served config bytes m found small is =
    served_so (parts m) (stay config bytes m found small is) (read_unshared config bytes m found is) (linked config bytes m found small is) served

pub sent_are_served : {F : Type 0} (step : F → ℕ → InstrLocId → F → Type 0) {B : Type 0} → ReadTypesStayInGroups B → ReadModulesAreLinked B → LinkedAreServed → SentModulesAreServed step B
sent_are_served step stay linked served config bytes m found f g functions small is through =
    served_so (parts (record m { funcs = functions })) (stay config bytes m found small is) (read_unshared config bytes m found is)
    (sent_linked step f g m functions through (linked config bytes m found small is)) served
