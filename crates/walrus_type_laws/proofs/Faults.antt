-- Where nothing is wrong with the groups of a table, their types name types that are written.
use Rattle.std.proofs.Common.{◌≡◌, ◌∙◌, ℕ, zero, suc, ◌+◌, inl, inr, Bool, true, false, List, [], ◌∷◌, ◌++◌, length, take, Option, Some, None, is_some, if◌then◌else◌, refl, sym, ap, subst, arith, length-append}
use Rattle.std.specs.Prelude.{nat_lt}
use Rattle.std.specs.List.{slice_get, flat_map, filter_map, cons_option}
use Rattle.std.specs.Option.{option_map_or, option_or, option_and_then}
use Rattle.std.proofs.lemmas.Option.{same_Some, none-some}
use Rattle.walrus_types.specs.declared.error.IrError.{IrError}
use Rattle.walrus_types.specs.declared.error.IrError.TheVariants.{Dead, EntryOnly, Later}
use Rattle.walrus_forms.specs.Kinds.{Kind, kind_names}
use Rattle.walrus_forms.proofs.RenamingLemmas.{In}
use Rattle.walrus_types.specs.Items.{Item, Group}
use Rattle.walrus_types.specs.Table.{Table, type_at}
use Rattle.walrus_types.specs.Emission.{shown_kind, written_kind, is_written, written_in, fault_at, first_fault, group_names, groups_fault}
use Rattle.walrus_types.proofs.Places.{start}

in_left : (xs ys : List ℕ) (m : ℕ) → In m xs → In m (xs ++ ys)
in_left [] ys m h = absurd h
in_left (x ∷ xs) ys m (inl e) = inl e
in_left (x ∷ xs) ys m (inr h) = inr (in_left xs ys m h)

in_right : (xs ys : List ℕ) (m : ℕ) → In m ys → In m (xs ++ ys)
in_right [] ys m h = h
in_right (x ∷ xs) ys m h = inr (in_right xs ys m h)

pub or_none : (a b : Option IrError) → option_or a b ≡ None → (a ≡ None) × (b ≡ None)
or_none None b e = (refl, e)
or_none (Some a) b e = absurd (none-some a (sym e))

first_none : (f : ℕ → Option IrError) (names : List ℕ) → first_fault f names ≡ None → (m : ℕ) → In m names → f m ≡ None
first_none f [] none m h = absurd h
first_none f (x ∷ names) none m (inl e) = ap f (sym e) ∙ (or_none (f x) (first_fault f names) none).0
first_none f (x ∷ names) none m (inr h) = first_none f names (or_none (f x) (first_fault f names) none).1 m h

in_more : (o : Option Kind) (kinds : List Kind) (m : ℕ) → In m (flat_map kind_names kinds) → In m (flat_map kind_names (cons_option o kinds))
in_more None kinds m h = h
in_more (Some k) kinds m h = in_right (kind_names k) (flat_map kind_names kinds) m h

in_names : (h : ℕ → Option Kind) (ids : List ℕ) (k id : ℕ) (x : Kind) (m : ℕ) → slice_get ids k ≡ Some id → h id ≡ Some x → In m (kind_names x) → In m (flat_map kind_names (filter_map h ids))
in_names h [] k id x m at is i = absurd (none-some id at)
in_names h (y ∷ ids) zero id x m at is i =
    let e : h y ≡ Some x = ap h (same_Some y id at) ∙ is in
    subst (λ (o : Option Kind). In m (flat_map kind_names (cons_option o (filter_map h ids)))) (sym e) (in_left (kind_names x) (flat_map kind_names (filter_map h ids)) m i)
in_names h (y ∷ ids) (suc k) id x m at is i = in_more (h y) (filter_map h ids) m (in_names h ids k id x m at is i)

tests : (entry b : Bool) (kind : Kind) → (if entry then Some EntryOnly else if b then None else Some Later) ≡ None → (is_some (if entry then None else Some kind) ≡ true) × (b ≡ true)
tests true b kind e = absurd (none-some EntryOnly (sym e))
tests false true kind e = (refl, refl)
tests false false kind e = absurd (none-some Later (sym e))

pub item_tests : (o : Option Item) (b : Bool) → option_map_or (λ item. if item.kind.entry then Some EntryOnly else if b then None else Some Later) o (Some Dead) ≡ None
    → (is_some (option_and_then (λ item. shown_kind item.kind) o) ≡ true) × (b ≡ true)
item_tests None b e = absurd (none-some Dead (sym e))
item_tests (Some item) b e = tests item.kind.entry b item.kind e

-- a name is written, and below the end of its group
pub names_written : (t : Table) (index : ℕ → ℕ) (first : ℕ) (gs : List Group) → groups_fault t index first gs ≡ None
    → (p k : ℕ) (g : Group) (id : ℕ) (x : Kind) (m : ℕ) → slice_get gs p ≡ Some g → slice_get g.types k ≡ Some id → written_kind t id ≡ Some x → In m (kind_names x)
    → (is_written t m ≡ true) × (nat_lt (index m) (first + start (written_in t) gs p + length (written_in t g)) ≡ true)
names_written t index first [] none p k g id x m at_p at_k is i = absurd (none-some g at_p)
names_written t index first (h ∷ gs) none zero k g id x m at_p at_k is i =
    let e : h ≡ g = same_Some h g at_p in
    let end : ℕ = first + length (written_in t h) in
    let none_here = (or_none (first_fault (fault_at t index end) (group_names t h)) (groups_fault t index end gs) none).0 in
    let here : slice_get h.types k ≡ Some id = ap (λ (w : Group). slice_get w.types k) e ∙ at_k in
    let good = item_tests (type_at t m) (nat_lt (index m) end) (first_none (fault_at t index end) (group_names t h) none_here m (in_names (written_kind t) h.types k id x m here is i)) in
    let n : end ≡ first + 0 + length (written_in t h) = omega arith in
    (good.0, ap (λ (w : Group). nat_lt (index m) (first + 0 + length (written_in t w))) (sym e) ∙ ap (λ (j : ℕ). nat_lt (index m) j) (sym n) ∙ good.1)
names_written t index first (h ∷ gs) none (suc p) k g id x m at_p at_k is i =
    let end : ℕ = first + length (written_in t h) in
    let rest = (or_none (first_fault (fault_at t index end) (group_names t h)) (groups_fault t index end gs) none).1 in
    let more = names_written t index end gs rest p k g id x m at_p at_k is i in
    let n : end + start (written_in t) gs p + length (written_in t g) ≡ first + start (written_in t) (h ∷ gs) (suc p) + length (written_in t g) =
    omega (arith, length-append (written_in t h) (flat_map (written_in t) (take p gs))) in
    (more.0, ap (λ (j : ℕ). nat_lt (index m) j) (sym n) ∙ more.1)
