-- Lemmas: what a plan declares is kept.
use Rattle.std.specs.Prelude.{ℕ, ◌≡◌, Bool, List, [], ◌∷◌, Contains, Option, refl}
use Rattle.std.specs.List.{AllByRecursion}
use Rattle.std.proofs.Common.{ap, sym, subst, inl, inr}
use Rattle.walrus_forms.specs.declared.value.ValType.{ValType}
use Rattle.wasm_formats.specs.declared.fault.Space.{Space as FileSpace}
use Rattle.wasm_formats.specs.declared.fault.Space.TheVariants as spaces
use Rattle.wasm_operators.specs.declared.block_type.BlockType.{BlockType}
use Rattle.wasm_operators.specs.Items.{Functions, Globals}
use Rattle.wasm_operators.specs.Names.{operator_names}
use Rattle.wasm_operators.specs.Operators.{Seen}
use Rattle.wasm_grammar.specs.Modules.{Body, Expr, Function, Global, Imported, Item, Origin, Own, Placed}
use Rattle.wasm_references.specs.References.{Numbered, body_items, expr_items, function_items, global_items, item, named_by, names_items, no_locals, origin_items, value_items}
use Rattle.wasm_references.specs.Kept.{IsReached, Kept, refers}
use Rattle.wasm_part.specs.Kept.{HasKept}
use Rattle.wasm_part.specs.Order.{BodyRefers, HasDeclared, InitRefers, IsReference, Wants, body, init}
use Rattle.wasm_part.specs.Part.{Plan}
use Rattle.walrus_types.proofs.Places.{contains_has}
use Rattle.walrus_pass_laws.proofs.Sets.{In, contains_of, flat_in, in_left, in_of, in_right}
use Rattle.walrus_stands_laws.specs.Declared.{DeclaredAreKept}

-- ---- what a reference names

-- `ref.func` names its function
named_so : (locals : ℕ → Option ValType) (n : ℕ) (op : Seen) → IsReference n op → In (names_items locals (operator_names op)) (item spaces.Function n)
named_so locals n op is = subst (λ (o : Seen). In (names_items locals (operator_names o)) (item spaces.Function n)) (sym is) (inl refl)

body_named : (locals : ℕ → Option ValType) (parts : List BlockType) (n : ℕ) (o : Origin Body) → BodyRefers n o → In (origin_items (λ (b : Body). body_items locals b.operators parts) o) (item spaces.Function n)
body_named locals parts n (Imported i) h = absurd h
body_named locals parts n (Own x) h =
    in_left _ _ (item spaces.Function n) (flat_in (λ (o : Placed). names_items locals (operator_names o.op)) x.operators h.0 (item spaces.Function n) (in_of x.operators h.0 h.1) (named_so locals n h.0.op h.2))

init_named : (n : ℕ) (o : Origin Expr) → InitRefers n o → In (origin_items expr_items o) (item spaces.Function n)
init_named n (Imported i) h = absurd h
init_named n (Own e) h = flat_in (λ (op : Seen). names_items no_locals (operator_names op)) e h.0 (item spaces.Function n) (in_of e h.0 h.1) (named_so no_locals n h.0 h.2)

-- ---- what is declared

module _ (v : Numbered) (keep : Bool) (pushed : List Item) (p : Plan) (kept : HasKept v keep pushed (record p { declared = [] })) where
  -- what is kept is reached, memories aside
  reached : (space : FileSpace) (n : ℕ) → (space ≡ spaces.Memory → ⊥) → Kept v keep pushed (item space n) → IsReached v keep pushed (item space n)
  reached space n other (inl h) = h
  reached space n other (inr h) = absurd (other (ap (λ (i : Item). i.space) h.is))

  wants_kept : (n : ℕ) → Wants v.filled p n → Kept v keep pushed (item spaces.Function n)
  wants_kept n (body k f listed at h) =
      let here = contains_has (p.listed Functions) k listed in
      let r = reached spaces.Function k (λ e. absurd cc) (kept.only Functions here.0 k tt here.1) in
      let items : List Item = function_items (v.local_type k) (v.parts k) f in
      let named : Contains items (item spaces.Function n) = contains_of items (item spaces.Function n) (inr (body_named (v.local_type k) (v.parts k) n f.origin h)) in
      inl (refers r (subst (λ (o : Option Function). Contains (named_by (function_items (v.local_type k) (v.parts k)) o) (item spaces.Function n)) (sym at) named))
  wants_kept n (init k g listed at h) =
      let here = contains_has (p.listed Globals) k listed in
      let r = reached spaces.Global k (λ e. absurd cc) (kept.only Globals here.0 k tt here.1) in
      let named : Contains (global_items g) (item spaces.Function n) = contains_of (global_items g) (item spaces.Function n) (in_right (value_items g.ty) _ (item spaces.Function n) (init_named n g.origin h)) in
      inl (refers r (subst (λ (o : Option Global). Contains (named_by global_items o) (item spaces.Function n)) (sym at) named))

  each_kept : (ns : List ℕ) → ((n : ℕ) → Contains ns n → Kept v keep pushed (item spaces.Function n)) → AllByRecursion (λ n. Kept v keep pushed (item spaces.Function n)) ns
  each_kept [] h = tt
  each_kept (n ∷ ns) h = (h n (contains_of (n ∷ ns) n (inl refl)), each_kept ns (λ k c. h k (contains_of (n ∷ ns) k (inr (in_of ns k c)))))

  declared_kept : (nss : List (List ℕ)) → HasDeclared v.filled p nss → AllByRecursion (AllByRecursion (λ n. Kept v keep pushed (item spaces.Function n))) nss
  declared_kept [] h = tt
  declared_kept (ns ∷ []) h = (each_kept ns (λ n c. wants_kept n ((h.2 n).0 c).0), tt)
  declared_kept (ns ∷ ms ∷ nss) h = absurd h

  all_kept : HasDeclared v.filled p p.declared → HasKept v keep pushed p
  all_kept h = record {
    has = kept.has;
    only = kept.only;
    imports = kept.imports;
    import = kept.import;
    exports = kept.exports;
    there = record {
      imports = kept.there.imports;
      functions = kept.there.functions;
      tables = kept.there.tables;
      memories = kept.there.memories;
      tags = kept.there.tags;
      globals = kept.there.globals;
      exports = kept.there.exports;
      elements = kept.there.elements;
      segments = kept.there.segments;
    };
    declared = declared_kept p.declared h;
  }

pub declared_are_kept : DeclaredAreKept
declared_are_kept v keep pushed p kept h = all_kept v keep pushed p kept h
