-- Lemmas: the members of explicit groups of a module that was read are types that live.
use Rattle.std.specs.Prelude.{ℕ, zero, suc, ◌≡◌, Bool, true, false, List, [], ◌∷◌, map, Contains, Option, Some, None, MatchOption, refl}
use Rattle.std.specs.List.{AllByRecursion}
use Rattle.std.proofs.Common.{ap, sym, ◌∙◌, subst, arith}
use Rattle.walrus_named_bodies.specs.walrus_file_bodies.walrus_items_into.walrus_module_bodies.walrus_body_trees.walrus_meaning.walrus_linked.walrus_body_writer.walrus_pairing.wasm_operators.wasm_features.declared.WasmFeatures.{WasmFeatures}
use Rattle.walrus_forms.specs.Kinds.{Kind, entry_kind, function_kind}
use Rattle.walrus_forms.specs.Records.{TypeGroup}
use Rattle.walrus_forms.specs.Renaming.{at, renamed_kind}
use Rattle.walrus_forms.specs.declared.value.ValType.{ValType}
use Rattle.walrus_named_bodies.specs.walrus_file_bodies.walrus_items_into.walrus_module_env.walrus_handler_types.Giving.{Finds, FindsIf, Gives, GivesAt, block_results, caught}
use Rattle.walrus_named_bodies.specs.walrus_file_bodies.walrus_items_into.walrus_module_env.walrus_handler_types.walrus_handler_laws.Handlers.{told_by, tree_ids}
use Rattle.walrus_named_bodies.specs.walrus_file_bodies.walrus_items_into.walrus_module_env.walrus_handler_types.walrus_handler_laws.declared.handler.Handler.{Handler}
use Rattle.walrus_linked.proofs.GroupLemmas.{group_written, merged_written}
use Rattle.walrus_body_laws.specs.walrus_marks.walrus_instr.BlockTypes.{Makes, picked, short_form}
use Rattle.walrus_body_laws.specs.walrus_marks.walrus_instr.declared.seq.InstrSeqType.{InstrSeqType}
use Rattle.walrus_body_laws.specs.walrus_marks.walrus_instr.declared.seq.InstrSeqType.TheVariants.{MultiValue}
use Rattle.walrus_parse_laws.specs.FilledGroups.{AreDeclared}
use Rattle.walrus_named_bodies.specs.walrus_file_bodies.walrus_items_into.walrus_module_bodies.walrus_body_trees.walrus_meaning.walrus_linked.Linked.{GroupsAreWritten}
use Rattle.walrus_named_bodies.specs.walrus_file_bodies.walrus_items_into.walrus_module_bodies.walrus_body_trees.walrus_meaning.walrus_linked.walrus_module.walrus_builder.Built.{Seq, contents, seq_of}
use Rattle.walrus_named_bodies.specs.walrus_file_bodies.walrus_items_into.walrus_functions_into.walrus_types_into.Into.{no_types}
use Rattle.walrus_named_bodies.specs.walrus_file_bodies.walrus_items_into.walrus_functions_into.declared.bodies.FunctionBody.{FunctionBody}
use Rattle.walrus_named_bodies.specs.walrus_file_bodies.walrus_items_into.walrus_module_env.Env.{tag_type_at}
use Rattle.walrus_named_bodies.specs.walrus_file_bodies.walrus_module_bodies.Steps.{State, Steps}
use Rattle.walrus_named_bodies.specs.walrus_file_bodies.walrus_module_bodies.declared.file.FileEnv.{FileEnv}
use Rattle.walrus_types.specs.Parsing.{Parsed, added, known_ids, merged, parsed, parsed_group, unparsed, with_group}
use Rattle.walrus_types.specs.Table.{Merges, Table, equal_type}

abbrev Written : Table → Type 0
Written t = GroupsAreWritten t

-- ---- while bodies are read

made_written : (ps rs : List ValType) (ty : InstrSeqType) (t u : Table) → Makes ps rs ty t u → Written t → Written u
made_written ps rs ty t u makes h = by (short_form ps rs) makes
  where
    by : (o : Option InstrSeqType) → MatchOption o ((id : ℕ) × (ty ≡ MultiValue id) × Merges (function_kind ps rs) id t u) (λ short. (ty ≡ short) × (u ≡ t)) → Written u
    by None m = merged_written (function_kind ps rs) m.0 t u m.2 h
    by (Some short) e = subst Written (sym e.1) h

found_written : (ps rs : List ValType) (ty : InstrSeqType) (t u : Table) → Finds ps rs t ty u → Written t → Written u
found_written ps rs ty t u f h = by (picked ps rs t) f
  where
    by : (o : Option InstrSeqType) → MatchOption o (Makes ps rs ty t u) (λ found. (ty ≡ found) × (u ≡ t)) → Written u
    by None makes = made_written ps rs ty t u makes h
    by (Some found) e = subst Written (sym e.1) h

if_written : (o p : Option (List ValType)) (was ty : InstrSeqType) (t u : Table) → FindsIf o p was t ty u → Written t → Written u
if_written (Some ps) (Some rs) was ty t u f h = found_written ps rs ty t u f h
if_written (Some ps) None was ty t u f h = subst Written (sym f.1) h
if_written None (Some rs) was ty t u f h = subst Written (sym f.1) h
if_written None None was ty t u f h = subst Written (sym f.1) h

at_written : (k : ℕ) (x : Option Handler) (b c : List Seq) (t u : Table) → GivesAt k x b t c u → Written t → Written u
at_written k None b c t u (is, kept) h = subst Written (sym kept) h
at_written k (Some x) b c t u (y, found, ty, gives, is) h = if_written (caught t x.tag_type) (block_results t x.block) y.ty ty t u gives h

given_written : (told : ℕ → Option Handler) (ks : List ℕ) (b c : List Seq) (t v : Table) → Gives told ks b t c v → Written t → Written v
given_written told [] b c t v (is, kept) h = subst Written (sym kept) h
given_written told (k ∷ ks) b c t v (mid, u, one, rest) h = given_written told ks mid c u v rest (at_written k (told k) b mid t u one h)

pub steps_written : (file : FileEnv) (features : WasmFeatures) (bs : List FunctionBody) (old new : State) → Steps file features bs old new → GroupsAreWritten old.types → GroupsAreWritten new.types
steps_written file features [] old new e h = subst (λ (s : State). Written s.types) (sym e) h
steps_written file features (b ∷ bs) old new (mid, s, rest) h =
    let g = s.handled in
    let js = tree_ids g.tree in
    steps_written file features bs mid new rest (given_written (told_by (tag_type_at g.env.tags.now) g.own js) js (map seq_of g.own) (contents s.body.builder.builder) s.mid mid.types g.given
    (merged_written (entry_kind s.results) s.entry old.types s.mid s.entered h))

-- ---- the types of a file

-- none of these kinds is an entry type's
plain_in : (ks : List Kind) → AllByRecursion (λ (k : Kind). k.entry ≡ false) ks → (kind : Kind) → Contains ks kind → kind.entry ≡ false
plain_in [] h kind (i, less, at) = absurd (omega (arith, less))
plain_in (k ∷ ks) h kind (zero, less, at) = ap (λ (x : Kind). x.entry) (sym at) ∙ h.0
plain_in (k ∷ ks) h kind (suc i, less, at) = plain_in ks h.1 kind (i, omega (arith, less), at)

renamed_plain : (r : ℕ → ℕ) (ks : List Kind) → AllByRecursion (λ (k : Kind). k.entry ≡ false) ks → AllByRecursion (λ (k : Kind). k.entry ≡ false) (map (renamed_kind r) ks)
renamed_plain r [] h = tt
renamed_plain r (k ∷ ks) h = (h.0, renamed_plain r ks h.1)

with_written : (explicit : Bool) (kinds : List Kind) (t : Table) → AllByRecursion (λ (k : Kind). k.entry ≡ false) kinds → Written t → Written (with_group explicit kinds t)
with_written explicit kinds t plain = group_written explicit kinds t (with_group explicit kinds t) (record { types = refl; groups = refl }) (λ _. plain_in kinds plain)

one_written : (found : Option ℕ) (kind : Kind) (s : Parsed) → kind.entry ≡ false → Written s.table → Written (merged found kind s).table
one_written (Some id) kind s plain h = h
one_written None kind s plain h = with_written false (kind ∷ []) s.table (plain, tt) h

added_written : (explicit : Bool) (kinds : List Kind) (s : Parsed) → AllByRecursion (λ (k : Kind). k.entry ≡ false) kinds → Written s.table → Written (added explicit kinds s).table
added_written true kinds s plain h = with_written true kinds s.table plain h
added_written false [] s plain h = with_written true [] s.table plain h
added_written false (kind ∷ []) s plain h = one_written (equal_type kind s.table) kind s plain.0 h
added_written false (a ∷ b ∷ kinds) s plain h = with_written true (a ∷ b ∷ kinds) s.table plain h

all_written : (groups : List TypeGroup) (s : Parsed) → AreDeclared groups → Written s.table → Written (parsed groups s).table
all_written [] s plain h = h
all_written (g ∷ groups) s plain h =
    let r = at (known_ids g s) in
    all_written groups (parsed_group g s) plain.1 (added_written g.marked (map (renamed_kind r) g.kinds) s (renamed_plain r g.kinds plain.0) h)

pub file_written : (groups : List TypeGroup) → AreDeclared groups → GroupsAreWritten (parsed groups (unparsed no_types)).table
file_written groups plain = all_written groups (unparsed no_types) plain (λ place group at. absurd cc)
