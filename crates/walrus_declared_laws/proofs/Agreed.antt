-- Lemmas: modules that agree on what a plan lists have one order by it.
use Rattle.std.specs.Prelude.{ℕ, zero, suc, ◌≡◌, ◌+◌, ◌<◌, ◌⊎◌, Contains, List, [], ◌∷◌, ◌++◌, length, map, Option, Some, None, slice_get, slice_index_or, refl}
use Rattle.std.specs.List.{AllByRecursion, cons_option}
use Rattle.std.proofs.Common.{inl, inr, ap, sym, subst, ◌∙◌, arith}
use Rattle.std.proofs.lemmas.Option.{none-some, same_Some}
use Rattle.walrus_types.proofs.Places.{contains_has, right_at}
use Rattle.wasm_grammar.specs.Modules.{Import, Module}
use Rattle.wasm_import_links.specs.Links.{function_brought, global_brought, memory_brought, slot_import, table_brought, tag_brought}
use Rattle.wasm_operators.specs.Items.{Space, Types, Functions, Tables, Memories, Tags, Globals, ElementSegments, DataSegments, Locals, Labels}
use Rattle.wasm_part.specs.Agree.{AgreeOn, SlotsAgree}
use Rattle.wasm_part.specs.Closed.{IsListed}
use Rattle.wasm_part.specs.Order.{HasDeclared, Holds, InOrder, OwnBefore, Wants, brought_by, brought_to, import_of, size_of, slot_size}
use Rattle.wasm_part.specs.Part.{Plan}
use Rattle.walrus_declared_laws.specs.Agreed.{AgreeingModulesAreOrdered}

get_mapped : {X Y : Type 0} (f : X → Y) (xs : List X) (i : ℕ) (d : X) → slice_index_or (map f xs) i (f d) ≡ f (slice_index_or xs i d)
get_mapped f [] i d = refl
get_mapped f (x ∷ xs) zero d = refl
get_mapped f (x ∷ xs) (suc i) d = get_mapped f xs i d

all_at : (P : ℕ → Type 0) (ns : List ℕ) (i n : ℕ) → AllByRecursion P ns → slice_get ns i ≡ Some n → P n
all_at P [] i n all at = absurd (none-some n at)
all_at P (k ∷ ns) zero n all at = subst P (same_Some k n at) all.0
all_at P (k ∷ ns) (suc i) n all at = all_at P ns i n all.1 at

at_all : (P : ℕ → Type 0) (ns : List ℕ) → ((i n : ℕ) → slice_get ns i ≡ Some n → P n) → AllByRecursion P ns
at_all P [] each = tt
at_all P (k ∷ ns) each = (each 0 k refl, at_all P ns (λ i n at. each (suc i) n at))

module _ (p : Plan) (m k : Module) (agree : AgreeOn p m k) where
  -- imports bring the same
  brought_same : (space : Space) (ns : List ℕ) → SlotsAgree ns m.imports k.imports → brought_by m space ns ≡ brought_by k space ns
  brought_same space [] same = refl
  brought_same space (n ∷ ns) same =
      ap (λ (o : Option Import). cons_option (brought_to space o) (brought_by m space ns)) (same 0 n refl)
      ∙ ap (λ (l : List ℕ). cons_option (brought_to space (slice_index_or k.imports n None)) l) (brought_same space ns (λ i j at. same (suc i) j at))

  import_same : {A : Type 0} (f : A → Option ℕ) (xs ys : List (Option A)) (n : ℕ) → slice_index_or xs n None ≡ slice_index_or ys n None
      → slice_index_or (map (slot_import f) xs) n None ≡ slice_index_or (map (slot_import f) ys) n None
  import_same f xs ys n same = get_mapped (slot_import f) xs n None ∙ ap (slot_import f) same ∙ sym (get_mapped (slot_import f) ys n None)

  imports_same : (space : Space) (i n : ℕ) → slice_get (p.listed space) i ≡ Some n → import_of m space n ≡ import_of k space n
  imports_same Types i n at = refl
  imports_same Functions i n at = import_same function_brought m.functions k.functions n (agree.functions i n at)
  imports_same Tables i n at = import_same table_brought m.tables k.tables n (agree.tables i n at)
  imports_same Memories i n at = import_same memory_brought m.memories k.memories n (agree.memories i n at)
  imports_same Tags i n at = import_same tag_brought m.tags k.tags n (agree.tags i n at)
  imports_same Globals i n at = import_same global_brought m.globals k.globals n (agree.globals i n at)
  imports_same ElementSegments i n at = refl
  imports_same DataSegments i n at = refl
  imports_same Locals i n at = refl
  imports_same Labels i n at = refl

  size_same : (i n : ℕ) → slice_get (p.listed Functions) i ≡ Some n → size_of m n ≡ size_of k n
  size_same i n at = ap slot_size (agree.functions i n at)

  module _ (o : InOrder k p) where
    -- the module's own are listed
    own_at : (space : Space) → IsListed space → (i n : ℕ) → slice_get (o.own space) i ≡ Some n → (j : ℕ) × (slice_get (p.listed space) j ≡ Some n)
    own_at space is i n at =
        let b : List ℕ = brought_by k space p.imports in
        (length b + i, ap (λ (l : List ℕ). slice_get l (length b + i)) (o.listed space is) ∙ right_at b (o.own space) i (length b + i) n refl at)

    before_same : (space : Space) → IsListed space → (i j a b : ℕ) → slice_get (o.own space) i ≡ Some a → slice_get (o.own space) j ≡ Some b → OwnBefore k space a b → OwnBefore m space a b
    before_same Types is i j a b at_i at_j h = absurd is
    before_same Functions is i j a b at_i at_j h =
        let x = own_at Functions is i a at_i in
        let y = own_at Functions is j b at_j in
        let sa = size_same x.0 a x.1 in
        let sb = size_same y.0 b y.1 in
        elim h as (λ _. (size_of m b < size_of m a) ⊎ ((size_of m a ≡ size_of m b) × (a < b))) [
          | inl less ↦ inl (omega (arith, less, sa, sb))
          | inr same ↦ inr (sa ∙ same.0 ∙ sym sb, same.1)
        ]
    before_same Tables is i j a b at_i at_j h = h
    before_same Memories is i j a b at_i at_j h = h
    before_same Tags is i j a b at_i at_j h = h
    before_same Globals is i j a b at_i at_j h = h
    before_same ElementSegments is i j a b at_i at_j h = h
    before_same DataSegments is i j a b at_i at_j h = h
    before_same Locals is i j a b at_i at_j h = absurd is
    before_same Labels is i j a b at_i at_j h = absurd is

    in_order : InOrder m p
    in_order = record {
      imports = o.imports;
      brings = o.brings;
      own = o.own;
      listed = λ space is. o.listed space is ∙ sym (ap (λ (l : List ℕ). l ++ o.own space) (brought_same space p.imports agree.imports));
      are_own = λ space is.
          at_all (λ (n : ℕ). import_of m space n ≡ None) (o.own space) (λ i n at.
          let there = own_at space is i n at in
          imports_same space there.0 n there.1 ∙ all_at (λ (n : ℕ). import_of k space n ≡ None) (o.own space) i n (o.are_own space is) at);
      ordered = λ space is i j a b before at_i at_j. before_same space is i j a b at_i at_j (o.ordered space is i j a b before at_i at_j);
    }

  -- ---- declared functions

  slot_same : {A : Type 0} (ns : List ℕ) (xs ys : List (Option A)) → SlotsAgree ns xs ys → (n : ℕ) → Contains ns n → slice_index_or xs n None ≡ slice_index_or ys n None
  slot_same ns xs ys same n c = let h = contains_has ns n c in same h.0 n h.1

  wants_on : (n : ℕ) → Wants k p n → Wants m p n
  wants_on n (Wants.body j f c at h) = Wants.body j f c (slot_same (p.listed Functions) m.functions k.functions agree.functions j c ∙ at) h
  wants_on n (Wants.init j g c at h) = Wants.init j g c (slot_same (p.listed Globals) m.globals k.globals agree.globals j c ∙ at) h

  wants_back : (n : ℕ) → Wants m p n → Wants k p n
  wants_back n (Wants.body j f c at h) = Wants.body j f c (sym (slot_same (p.listed Functions) m.functions k.functions agree.functions j c) ∙ at) h
  wants_back n (Wants.init j g c at h) = Wants.init j g c (sym (slot_same (p.listed Globals) m.globals k.globals agree.globals j c) ∙ at) h

  holds_on : (n : ℕ) → Holds k p n → Holds m p n
  holds_on n (Holds.exported j e c at space number) = Holds.exported j e c (slot_same p.exports m.exports k.exports agree.exports j c ∙ at) space number
  holds_on n (Holds.segment j e c at h) = Holds.segment j e c (slot_same (p.listed ElementSegments) m.elements k.elements agree.elements j c ∙ at) h

  holds_back : (n : ℕ) → Holds m p n → Holds k p n
  holds_back n (Holds.exported j e c at space number) = Holds.exported j e c (sym (slot_same p.exports m.exports k.exports agree.exports j c) ∙ at) space number
  holds_back n (Holds.segment j e c at h) = Holds.segment j e c (sym (slot_same (p.listed ElementSegments) m.elements k.elements agree.elements j c) ∙ at) h

  declared_on : (nss : List (List ℕ)) → HasDeclared k p nss → HasDeclared m p nss
  declared_on [] h = λ n w. holds_on n (h n (wants_back n w))
  declared_on (ns ∷ []) h = (
    h.0,
    h.1,
    λ n. (
      λ c. (let w = (h.2 n).0 c in (wants_on n w.0, λ held. w.1 (holds_back n held))),
      λ w. (h.2 n).1 (wants_back n w.0, λ held. w.1 (holds_on n held)),
    ),
  )
  declared_on (ns ∷ ks ∷ nss) h = h

pub agreeing_ordered : AgreeingModulesAreOrdered
agreeing_ordered p m k agree = record { ordered = λ o. in_order p m k agree o; wants = wants_on p m k agree; declared = declared_on p m k agree }
