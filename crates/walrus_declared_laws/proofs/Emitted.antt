-- Lemmas: what is declared of a module is added by its plan.
use Rattle.std.specs.Prelude.{ℕ, zero, suc, ◌≡◌, ◌+◌, ◌<◌, List, [], ◌∷◌, ◌++◌, length, map, Option, Some, None, slice_index_or, refl}
use Rattle.std.specs.List.{AllByRecursion}
use Rattle.std.specs.Option.{option_map}
use Rattle.std.proofs.Common.{inl, inr, ap, sym, subst, ◌∙◌, arith}
use Rattle.std.proofs.lemmas.List.{map-append}
use Rattle.walrus_arena.specs.Arena.{entries_from}
use Rattle.walrus_emit.specs.Left.{AddsDeclared}
use Rattle.walrus_items.specs.declared.local.Local.{Local}
use Rattle.walrus_meaning.specs.Meaning.{means, own_element, own_function}
use Rattle.walrus_meaning.specs.Bodies.{own_operators}
use Rattle.walrus_module.specs.Parts.{Module as Parts}
use Rattle.walrus_module_items.specs.declared.function.Function.{Function}
use Rattle.walrus_module_items.specs.declared.function.FunctionKind.{FunctionKind}
use Rattle.walrus_module_items.specs.declared.function.FunctionKind.TheVariants as kinds
use Rattle.walrus_parse_gc_laws.specs.Numbered.{numbered, numbered_function}
use Rattle.wasm_grammar.specs.Modules as grammar
use Rattle.wasm_import_links.specs.Links.{function_brought, slot_import}
use Rattle.wasm_normal_form.specs.Normal.{size}
use Rattle.wasm_normal_form.specs.Roles.{role, weight_of}
use Rattle.wasm_operators.specs.Items.{Space, Types, Functions, Tables, Memories, Tags, Globals, ElementSegments, DataSegments, Locals, Labels}
use Rattle.wasm_operators.specs.Names.{Renaming}
use Rattle.wasm_part.specs.Closed.{IsListed}
use Rattle.wasm_part.specs.Order.{InOrder, OwnBefore, brought_by, import_of, size_of, slot_size}
use Rattle.wasm_part.specs.Part.{Plan, part}
use Rattle.wasm_ruled_normal.specs.Normal.{text_of}
use Rattle.wasm_ruled_renamed.specs.Renamed.{renamed_placed}
use Rattle.walrus_declared_laws.specs.Added.{ListsLast, declared_element, declaring_plan, with_segment}
use Rattle.walrus_declared_laws.specs.Emitted.{EmissionsDeclare, IsDeclaredBy, living}
use Rattle.walrus_declared_laws.proofs.Added.{last_added, none_brought}

-- ---- the numbers of locals don't show in the order

size_renamed : (r : Renaming) (ops : List grammar.Placed) → size (text_of (map (renamed_placed r) ops)) ≡ size (text_of ops)
size_renamed r [] = refl
size_renamed r (o ∷ ops) = ap (λ (n : ℕ). weight_of (role o.op) + n) (size_renamed r ops)

module _ (locals : List Local) where
  brought_at : (f : Function) → function_brought (numbered_function locals f) ≡ function_brought (own_function locals f)
  brought_at f = by f.kind refl
    where
      by : (k : FunctionKind) → f.kind ≡ k → function_brought (numbered_function locals f) ≡ function_brought (own_function locals f)
      by (kinds.Import i) e = rw e refl
      by (kinds.Local local) e = rw e refl
      by (kinds.Uninitialized ty) e = rw e refl

  size_at : (f : Function) → slot_size (Some (numbered_function locals f)) ≡ slot_size (Some (own_function locals f))
  size_at f = by f.kind refl
    where
      by : (k : FunctionKind) → f.kind ≡ k → slot_size (Some (numbered_function locals f)) ≡ slot_size (Some (own_function locals f))
      by (kinds.Import i) e = rw e refl
      by (kinds.Local local) e = rw e (size_renamed _ (own_operators local))
      by (kinds.Uninitialized ty) e = rw e refl

  all_brought : (slots : List (Option Function)) → map (slot_import function_brought) (map (option_map (numbered_function locals)) slots) ≡ map (slot_import function_brought) (map (option_map (own_function locals)) slots)
  all_brought [] = refl
  all_brought (None ∷ slots) = ap (λ (l : List (Option ℕ)). None ∷ l) (all_brought slots)
  all_brought (Some f ∷ slots) =
      let first = brought_at f in
      let rest : map (slot_import function_brought) (map (option_map (numbered_function locals)) slots) ≡ map (slot_import function_brought) (map (option_map (own_function locals)) slots) = all_brought slots in
      λ i. first i ∷ rest i

  sizes : (slots : List (Option Function)) (n : ℕ) → slot_size (slice_index_or (map (option_map (numbered_function locals)) slots) n None) ≡ slot_size (slice_index_or (map (option_map (own_function locals)) slots) n None)
  sizes [] n = refl
  sizes (None ∷ slots) zero = refl
  sizes (Some f ∷ slots) zero = size_at f
  sizes (x ∷ slots) (suc n) = sizes slots n

module _ (m : Parts) (q : Plan) (o : InOrder (means m) q) where
  import_same : (space : Space) (n : ℕ) → import_of (numbered m) space n ≡ import_of (means m) space n
  import_same Types n = refl
  import_same Functions n = ap (λ (l : List (Option ℕ)). slice_index_or l n None) (all_brought m.locals m.funcs.slots)
  import_same Tables n = refl
  import_same Memories n = refl
  import_same Tags n = refl
  import_same Globals n = refl
  import_same ElementSegments n = refl
  import_same DataSegments n = refl
  import_same Locals n = refl
  import_same Labels n = refl

  size_same : (n : ℕ) → size_of (numbered m) n ≡ size_of (means m) n
  size_same n = sizes m.locals m.funcs.slots n

  all_same : (space : Space) (ns : List ℕ) → AllByRecursion (λ (n : ℕ). import_of (means m) space n ≡ None) ns → AllByRecursion (λ (n : ℕ). import_of (numbered m) space n ≡ None) ns
  all_same space [] all = tt
  all_same space (n ∷ ns) all = (import_same space n ∙ all.0, all_same space ns all.1)

  before_same : (space : Space) → IsListed space → (a b : ℕ) → OwnBefore (means m) space a b → OwnBefore (numbered m) space a b
  before_same Types is a b h = absurd is
  before_same Functions is a b h = elim h as (λ _. OwnBefore (numbered m) Functions a b) [
    | inl less ↦ inl (omega (arith, less, size_same a, size_same b))
    | inr same ↦ inr (size_same a ∙ same.0 ∙ sym (size_same b), same.1)
  ]
  before_same Tables is a b h = h
  before_same Memories is a b h = h
  before_same Tags is a b h = h
  before_same Globals is a b h = h
  before_same ElementSegments is a b h = h
  before_same DataSegments is a b h = h
  before_same Locals is a b h = absurd is
  before_same Labels is a b h = absurd is

  numbered_order : InOrder (numbered m) q
  numbered_order = record {
    imports = o.imports;
    brings = o.brings;
    own = o.own;
    listed = o.listed;
    are_own = λ space is. all_same space (o.own space) (o.are_own space is);
    ordered = λ space is i j a b before at_i at_j. before_same space is a b (o.ordered space is i j a b before at_i at_j);
  }

-- ---- the segment is the last

living_from : {A : Type 0} (k : ℕ) (slots : List (Option A)) (x : A) → map (λ (e : ℕ × A). e.0) (entries_from k (slots ++ Some x ∷ [])) ≡ map (λ (e : ℕ × A). e.0) (entries_from k slots) ++ (k + length slots) ∷ []
living_from k [] x = ap (λ (n : ℕ). n ∷ []) (let z : k ≡ k + 0 = omega arith in z)
living_from k (None ∷ slots) x = living_from (k + 1) slots x ∙ ap (λ (n : ℕ). map (λ (e : ℕ × _). e.0) (entries_from (k + 1) slots) ++ n ∷ []) (let z : k + 1 + length slots ≡ k + suc (length slots) = omega arith in z)
living_from k (Some y ∷ slots) x =
    ap (λ (l : List ℕ). k ∷ l) (living_from (k + 1) slots x ∙ ap (λ (n : ℕ). map (λ (e : ℕ × _). e.0) (entries_from (k + 1) slots) ++ n ∷ []) (let z : k + 1 + length slots ≡ k + suc (length slots) = omega arith in z))

living_below : {A : Type 0} (k total : ℕ) (slots : List (Option A)) → k + length slots ≡ total → AllByRecursion (λ (n : ℕ). n < total) (map (λ (e : ℕ × A). e.0) (entries_from k slots))
living_below k total [] e = tt
living_below k total (None ∷ slots) e = living_below (k + 1) total slots (omega (arith, e))
living_below k total (Some x ∷ slots) e = (omega (arith, e), living_below (k + 1) total slots (omega (arith, e)))

module _ (old new : Parts) (q : Plan) (no_more : q.declared ≡ []) (imports : List ℕ) (segments : q.listed ElementSegments ≡ brought_by (means new) ElementSegments imports ++ living (means new).elements) where
  unchanged : new ≡ old → IsDeclaredBy old new q q
  unchanged e = record {
    same = ap (λ (x : Parts). part q (numbered x)) e;
    ordered = λ o. subst (λ (x : Parts). InOrder (numbered x) q) e (numbered_order new q o);
  }

  module _ (n : ℕ) (ns : List ℕ) (rest : new ≡ record old { elements = new.elements }) (adds : AddsDeclared (n ∷ ns) old.elements new.elements) where
    elements_are : (means new).elements ≡ (means old).elements ++ Some (declared_element (n ∷ ns)) ∷ []
    elements_are =
        ap (map (option_map own_element)) adds.added
        ∙ map-append (option_map own_element) old.elements.slots _
        ∙ ap (λ (l : List ℕ). (means old).elements ++ (let o : Option grammar.Element = Some (declared_element l) in o) ∷ []) adds.holds

    numbered_are : numbered new ≡ with_segment (n ∷ ns) (numbered old)
    numbered_are = ap numbered rest ∙ ap (λ (l : List (Option grammar.Element)). record (numbered old) { elements = l }) elements_are

    lists : ListsLast q (numbered old) (living (means old).elements)
    lists = record {
      listed = segments ∙ ap (λ (l : List ℕ). l ++ living (means new).elements) (none_brought (means new) imports)
          ∙ ap (λ (l : List (Option grammar.Element)). living l) elements_are
          ∙ living_from 0 (means old).elements (declared_element (n ∷ ns))
          ∙ ap (λ (k : ℕ). living (means old).elements ++ k ∷ []) (let z : 0 + length (means old).elements ≡ length (means old).elements = omega arith in z);
      below = living_below 0 (length (means old).elements) (means old).elements (omega arith);
      none = no_more;
    }

    changed : IsDeclaredBy old new q (declaring_plan (living (means old).elements) (n ∷ ns) q)
    changed =
        let added = last_added q (numbered old) (living (means old).elements) (n ∷ ns) lists in
        record {
          same = ap (λ (x : grammar.Module). part q x) numbered_are ∙ added.same;
          ordered = λ o. added.ordered (subst (λ (x : grammar.Module). InOrder x q) numbered_are (numbered_order new q o));
        }

pub emissions_declare : EmissionsDeclare
emissions_declare old new [] d q no_more imports segments = unchanged old new q no_more imports segments d
emissions_declare old new (n ∷ ns) d q no_more imports segments = changed old new q no_more imports segments n ns d.0 d.1
