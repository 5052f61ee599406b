-- Renamed kinds, and the names that they have.
use Rattle.std.proofs.Common.{◌≡◌, ◌∙◌, ℕ, suc, ◌<◌, ◌==◌, ◌||◌, ◌⊎◌, inl, inr, Bool, true, All, List, [], ◌∷◌, ◌++◌, map, Option, Some, None, IfSome, refl, sym, ap, arith, subst}
use Rattle.std.specs.List.{filter_map, cons_option, list_any}
use Rattle.std.specs.Option.{option_map, option_to_list}
use Rattle.std.proofs.lemmas.Bool.{eqb-true, eq-eqb, cases_Bool}
use Rattle.std.proofs.lemmas.List.{map-append}
use Rattle.walrus_forms.specs.declared.value.HeapType.{HeapType}
use Rattle.walrus_forms.specs.declared.value.HeapType.TheVariants.{Abstract, Shared, Concrete, Exact}
use Rattle.walrus_forms.specs.declared.value.RefType.{RefType}
use Rattle.walrus_forms.specs.declared.value.ValType.{ValType}
use Rattle.walrus_forms.specs.declared.value.ValType.TheVariants.{I32, I64, F32, F64, V128, Ref}
use Rattle.walrus_forms.specs.declared.value.StorageType.{StorageType}
use Rattle.walrus_forms.specs.declared.value.StorageType.TheVariants.{Val, I8, I16}
use Rattle.walrus_forms.specs.declared.value.FieldType.{FieldType}
use Rattle.walrus_forms.specs.Values.{unpacked, heap_name, value_name, field_name}
use Rattle.walrus_forms.specs.Forms.{Form, FunctionForm, StructForm, ArrayForm, form_names}
use Rattle.walrus_forms.specs.Kinds.{Kind, kind_names}
use Rattle.walrus_forms.specs.Renaming.{renamed_heap, renamed_value, renamed_storage, renamed_field, renamed_form, renamed_kind, FormBelow, KindBelow}

-- a number is one of the list
abbrev pub In : ℕ → List ℕ → Type 0
In m [] = ⊥
In m (x ∷ xs) = (x ≡ m) ⊎ In m xs

in-left : (xs ys : List ℕ) (m : ℕ) → In m xs → In m (xs ++ ys)
in-left [] ys m h = absurd h
in-left (x ∷ xs) ys m (inl e) = inl e
in-left (x ∷ xs) ys m (inr h) = inr (in-left xs ys m h)

in-right : (xs ys : List ℕ) (m : ℕ) → In m ys → In m (xs ++ ys)
in-right [] ys m h = h
in-right (x ∷ xs) ys m h = inr (in-right xs ys m h)

in-split : (xs ys : List ℕ) (m : ℕ) → In m (xs ++ ys) → In m xs ⊎ In m ys
in-split [] ys m h = inr h
in-split (x ∷ xs) ys m (inl e) = inl (inl e)
in-split (x ∷ xs) ys m (inr h) = elim (in-split xs ys m h) as (λ _. In m (x ∷ xs) ⊎ In m ys) [ inl i ↦ inl (inr i) | inr i ↦ inr i ]

in-option : (o : Option ℕ) (ys : List ℕ) (m : ℕ) → o ≡ Some m → In m (cons_option o ys)
in-option None ys m e = absurd cc
in-option (Some x) ys m e = let same : x ≡ m = cc in inl same

in-rest : (o : Option ℕ) (ys : List ℕ) (m : ℕ) → In m ys → In m (cons_option o ys)
in-rest None ys m h = h
in-rest (Some x) ys m h = inr h

in-cons : (o : Option ℕ) (ys : List ℕ) (m : ℕ) → In m (cons_option o ys) → (o ≡ Some m) ⊎ In m ys
in-cons None ys m h = inr h
in-cons (Some x) ys m (inl e) = inl (ap Some e)
in-cons (Some x) ys m (inr h) = inr h

in-one : (o : Option ℕ) (m : ℕ) → o ≡ Some m → In m (option_to_list o)
in-one None m e = absurd cc
in-one (Some x) m e = let same : x ≡ m = cc in inl same

of-one : (o : Option ℕ) (m : ℕ) → In m (option_to_list o) → o ≡ Some m
of-one None m h = absurd h
of-one (Some x) m (inl e) = ap Some e
of-one (Some x) m (inr h) = absurd h

-- what f gives of one of the list is one of what it gives of them
pub in-mapped : (f : ℕ → ℕ) (xs : List ℕ) (m : ℕ) → In m xs → In (f m) (map f xs)
in-mapped f [] m h = absurd h
in-mapped f (x ∷ xs) m (inl e) = inl (ap f e)
in-mapped f (x ∷ xs) m (inr h) = inr (in-mapped f xs m h)

pub of-mapped : (f : ℕ → ℕ) (xs : List ℕ) (y : ℕ) → In y (map f xs) → (m : ℕ) × In m xs × (f m ≡ y)
of-mapped f [] y h = absurd h
of-mapped f (x ∷ xs) y (inl e) = (x, inl refl, e)
of-mapped f (x ∷ xs) y (inr h) = let p = of-mapped f xs y h in (p.0, inr p.1, p.2)

-- the test whether a number is one of the list
pub in-any : (xs : List ℕ) (m : ℕ) → In m xs → list_any (λ x. x == m) xs ≡ true
in-any [] m h = absurd h
in-any (x ∷ xs) m (inl e) = ap (λ (b : Bool). b || list_any (λ x. x == m) xs) (eq-eqb x m e)
in-any (x ∷ xs) m (inr h) =
    elim (cases_Bool (x == m)) as (λ _. (x == m || list_any (λ x. x == m) xs) ≡ true) [
      | inl e ↦ ap (λ (b : Bool). b || list_any (λ x. x == m) xs) e
      | inr e ↦ ap (λ (b : Bool). b || list_any (λ x. x == m) xs) e ∙ in-any xs m h
    ]

pub any-in : (xs : List ℕ) (m : ℕ) → list_any (λ x. x == m) xs ≡ true → In m xs
any-in [] m e = absurd cc
any-in (x ∷ xs) m e =
    elim (cases_Bool (x == m)) as (λ _. (x ≡ m) ⊎ In m xs) [
      | inl h ↦ inl (eqb-true x m h)
      | inr h ↦ inr (any-in xs m (sym (ap (λ (b : Bool). b || list_any (λ x. x == m) xs) h) ∙ e))
    ]

-- two renamings that agree on the names of a kind
lists-agree : {X : Type 0} (h : X → Option ℕ) (F G : X → X) (f g : ℕ → ℕ) → ((x : X) → ((m : ℕ) → h x ≡ Some m → f m ≡ g m) → F x ≡ G x)
    → (xs : List X) → ((m : ℕ) → In m (filter_map h xs) → f m ≡ g m) → map F xs ≡ map G xs
lists-agree h F G f g each [] all = refl
lists-agree {X} h F G f g each (x ∷ xs) all =
    ap (λ (y : X). y ∷ map F xs) (each x (λ m e. all m (in-option (h x) (filter_map h xs) m e)))
    ∙ ap (λ (ys : List X). G x ∷ ys) (lists-agree h F G f g each xs (λ m i. all m (in-rest (h x) (filter_map h xs) m i)))

heaps-agree : (f g : ℕ → ℕ) (h : HeapType) → ((m : ℕ) → heap_name h ≡ Some m → f m ≡ g m) → renamed_heap f h ≡ renamed_heap g h
heaps-agree f g (Abstract ty) all = refl
heaps-agree f g (Shared ty) all = refl
heaps-agree f g (Concrete m) all = ap Concrete (all m refl)
heaps-agree f g (Exact m) all = ap Exact (all m refl)

values-agree : (f g : ℕ → ℕ) (v : ValType) → ((m : ℕ) → value_name v ≡ Some m → f m ≡ g m) → renamed_value f v ≡ renamed_value g v
values-agree f g I32 all = refl
values-agree f g I64 all = refl
values-agree f g F32 all = refl
values-agree f g F64 all = refl
values-agree f g V128 all = refl
values-agree f g (Ref r) all = ap (λ (h : HeapType). let t : RefType = record { nullable = r.nullable; heap_type = h } in Ref t) (heaps-agree f g r.heap_type all)

storages-agree : (f g : ℕ → ℕ) (s : StorageType) → ((m : ℕ) → value_name (unpacked s) ≡ Some m → f m ≡ g m) → renamed_storage f s ≡ renamed_storage g s
storages-agree f g (Val v) all = ap Val (values-agree f g v all)
storages-agree f g I8 all = refl
storages-agree f g I16 all = refl

fields-agree : (f g : ℕ → ℕ) (x : FieldType) → ((m : ℕ) → field_name x ≡ Some m → f m ≡ g m) → renamed_field f x ≡ renamed_field g x
fields-agree f g x all = ap (λ (s : StorageType). let t : FieldType = record { element_type = s; mutable = x.mutable } in t) (storages-agree f g x.element_type all)

forms-agree : (f g : ℕ → ℕ) (form : Form) → ((m : ℕ) → In m (form_names form) → f m ≡ g m) → renamed_form f form ≡ renamed_form g form
forms-agree f g (FunctionForm ps rs) all =
    ap (λ (vs : List ValType). FunctionForm vs (map (renamed_value f) rs))
    (lists-agree value_name (renamed_value f) (renamed_value g) f g (values-agree f g) ps (λ m i. all m (in-left (filter_map value_name ps) (filter_map value_name rs) m i)))
    ∙ ap (λ (vs : List ValType). FunctionForm (map (renamed_value g) ps) vs)
    (lists-agree value_name (renamed_value f) (renamed_value g) f g (values-agree f g) rs (λ m i. all m (in-right (filter_map value_name ps) (filter_map value_name rs) m i)))
forms-agree f g (StructForm fs) all = ap StructForm (lists-agree field_name (renamed_field f) (renamed_field g) f g (fields-agree f g) fs all)
forms-agree f g (ArrayForm x) all = ap ArrayForm (fields-agree f g x (λ m e. all m (in-one (field_name x) m e)))

options-agree : (f g : ℕ → ℕ) (o : Option ℕ) → ((m : ℕ) → In m (option_to_list o) → f m ≡ g m) → option_map f o ≡ option_map g o
options-agree f g None all = refl
options-agree f g (Some x) all = ap Some (all x (inl refl))

pub kinds-agree : (f g : ℕ → ℕ) (k : Kind) → ((m : ℕ) → In m (kind_names k) → f m ≡ g m) → renamed_kind f k ≡ renamed_kind g k
kinds-agree f g k all =
    ap (λ (x : Form). let j : Kind = record { form = x; final = k.final; supertype = option_map f k.supertype; entry = k.entry } in j)
    (forms-agree f g k.form (λ m i. all m (in-left (form_names k.form) (option_to_list k.supertype) m i)))
    ∙ ap (λ (o : Option ℕ). let j : Kind = record { form = renamed_form g k.form; final = k.final; supertype = o; entry = k.entry } in j)
    (options-agree f g k.supertype (λ m i. all m (in-right (form_names k.form) (option_to_list k.supertype) m i)))

-- a kind that is renamed twice
lists-twice : {X : Type 0} (F G H : X → X) → ((x : X) → G (F x) ≡ H x) → (xs : List X) → map G (map F xs) ≡ map H xs
lists-twice F G H each [] = refl
lists-twice {X} F G H each (x ∷ xs) = ap (λ (y : X). y ∷ map G (map F xs)) (each x) ∙ ap (λ (ys : List X). H x ∷ ys) (lists-twice F G H each xs)

heaps-twice : (f g : ℕ → ℕ) (h : HeapType) → renamed_heap g (renamed_heap f h) ≡ renamed_heap (λ m. g (f m)) h
heaps-twice f g (Abstract ty) = refl
heaps-twice f g (Shared ty) = refl
heaps-twice f g (Concrete m) = refl
heaps-twice f g (Exact m) = refl

values-twice : (f g : ℕ → ℕ) (v : ValType) → renamed_value g (renamed_value f v) ≡ renamed_value (λ m. g (f m)) v
values-twice f g I32 = refl
values-twice f g I64 = refl
values-twice f g F32 = refl
values-twice f g F64 = refl
values-twice f g V128 = refl
values-twice f g (Ref r) = ap (λ (h : HeapType). let t : RefType = record { nullable = r.nullable; heap_type = h } in Ref t) (heaps-twice f g r.heap_type)

storages-twice : (f g : ℕ → ℕ) (s : StorageType) → renamed_storage g (renamed_storage f s) ≡ renamed_storage (λ m. g (f m)) s
storages-twice f g (Val v) = ap Val (values-twice f g v)
storages-twice f g I8 = refl
storages-twice f g I16 = refl

fields-twice : (f g : ℕ → ℕ) (x : FieldType) → renamed_field g (renamed_field f x) ≡ renamed_field (λ m. g (f m)) x
fields-twice f g x = ap (λ (s : StorageType). let t : FieldType = record { element_type = s; mutable = x.mutable } in t) (storages-twice f g x.element_type)

forms-twice : (f g : ℕ → ℕ) (form : Form) → renamed_form g (renamed_form f form) ≡ renamed_form (λ m. g (f m)) form
forms-twice f g (FunctionForm ps rs) =
    ap (λ (vs : List ValType). FunctionForm vs (map (renamed_value g) (map (renamed_value f) rs))) (lists-twice (renamed_value f) (renamed_value g) (renamed_value (λ m. g (f m))) (values-twice f g) ps)
    ∙ ap (λ (vs : List ValType). FunctionForm (map (renamed_value (λ m. g (f m))) ps) vs) (lists-twice (renamed_value f) (renamed_value g) (renamed_value (λ m. g (f m))) (values-twice f g) rs)
forms-twice f g (StructForm fs) = ap StructForm (lists-twice (renamed_field f) (renamed_field g) (renamed_field (λ m. g (f m))) (fields-twice f g) fs)
forms-twice f g (ArrayForm x) = ap ArrayForm (fields-twice f g x)

options-twice : (f g : ℕ → ℕ) (o : Option ℕ) → option_map g (option_map f o) ≡ option_map (λ m. g (f m)) o
options-twice f g None = refl
options-twice f g (Some x) = refl

pub kinds-twice : (f g : ℕ → ℕ) (k : Kind) → renamed_kind g (renamed_kind f k) ≡ renamed_kind (λ m. g (f m)) k
kinds-twice f g k =
    ap (λ (x : Form). let j : Kind = record { form = x; final = k.final; supertype = option_map g (option_map f k.supertype); entry = k.entry } in j) (forms-twice f g k.form)
    ∙ ap (λ (o : Option ℕ). let j : Kind = record { form = renamed_form (λ m. g (f m)) k.form; final = k.final; supertype = o; entry = k.entry } in j) (options-twice f g k.supertype)

-- the names of a renamed kind
cons-map : (f : ℕ → ℕ) (o : Option ℕ) (ys : List ℕ) → cons_option (option_map f o) (map f ys) ≡ map f (cons_option o ys)
cons-map f None ys = refl
cons-map f (Some x) ys = refl

lists-names : {X : Type 0} (h : X → Option ℕ) (F : X → X) (f : ℕ → ℕ) → ((x : X) → h (F x) ≡ option_map f (h x)) → (xs : List X) → filter_map h (map F xs) ≡ map f (filter_map h xs)
lists-names h F f each [] = refl
lists-names h F f each (x ∷ xs) =
    ap (λ (o : Option ℕ). cons_option o (filter_map h (map F xs))) (each x)
    ∙ ap (λ (ys : List ℕ). cons_option (option_map f (h x)) ys) (lists-names h F f each xs) ∙ cons-map f (h x) (filter_map h xs)

heaps-names : (f : ℕ → ℕ) (h : HeapType) → heap_name (renamed_heap f h) ≡ option_map f (heap_name h)
heaps-names f (Abstract ty) = refl
heaps-names f (Shared ty) = refl
heaps-names f (Concrete m) = refl
heaps-names f (Exact m) = refl

values-names : (f : ℕ → ℕ) (v : ValType) → value_name (renamed_value f v) ≡ option_map f (value_name v)
values-names f I32 = refl
values-names f I64 = refl
values-names f F32 = refl
values-names f F64 = refl
values-names f V128 = refl
values-names f (Ref r) = heaps-names f r.heap_type

storages-names : (f : ℕ → ℕ) (s : StorageType) → value_name (unpacked (renamed_storage f s)) ≡ option_map f (value_name (unpacked s))
storages-names f (Val v) = values-names f v
storages-names f I8 = refl
storages-names f I16 = refl

fields-names : (f : ℕ → ℕ) (x : FieldType) → field_name (renamed_field f x) ≡ option_map f (field_name x)
fields-names f x = storages-names f x.element_type

list-map : (f : ℕ → ℕ) (o : Option ℕ) → option_to_list (option_map f o) ≡ map f (option_to_list o)
list-map f None = refl
list-map f (Some x) = refl

forms-names : (f : ℕ → ℕ) (form : Form) → form_names (renamed_form f form) ≡ map f (form_names form)
forms-names f (FunctionForm ps rs) =
    ap (λ (xs : List ℕ). xs ++ filter_map value_name (map (renamed_value f) rs)) (lists-names value_name (renamed_value f) f (values-names f) ps)
    ∙ ap (λ (xs : List ℕ). map f (filter_map value_name ps) ++ xs) (lists-names value_name (renamed_value f) f (values-names f) rs)
    ∙ sym (map-append f (filter_map value_name ps) (filter_map value_name rs))
forms-names f (StructForm fs) = lists-names field_name (renamed_field f) f (fields-names f) fs
forms-names f (ArrayForm x) = ap (λ (o : Option ℕ). option_to_list o) (fields-names f x) ∙ list-map f (field_name x)

pub kinds-names : (f : ℕ → ℕ) (k : Kind) → kind_names (renamed_kind f k) ≡ map f (kind_names k)
kinds-names f k =
    ap (λ (xs : List ℕ). xs ++ option_to_list (option_map f k.supertype)) (forms-names f k.form)
    ∙ ap (λ (xs : List ℕ). map f (form_names k.form) ++ xs) (list-map f k.supertype)
    ∙ sym (map-append f (form_names k.form) (option_to_list k.supertype))

-- each name of a kind whose names are below n is below n
if-below : (o : Option ℕ) (n m : ℕ) → IfSome o (λ name. name < n) → o ≡ Some m → m < n
if-below None n m h e = absurd cc
if-below (Some x) n m h e = let same : x ≡ m = cc in subst (λ (y : ℕ). y < n) same h

lists-below : {X : Type 0} (h : X → Option ℕ) (n : ℕ) (xs : List X) → All (λ x. IfSome (h x) (λ name. name < n)) xs → (m : ℕ) → In m (filter_map h xs) → m < n
lists-below h n [] all m i = absurd i
lists-below h n (x ∷ xs) all m i =
    elim (in-cons (h x) (filter_map h xs) m i) as (λ _. m < n) [
      | inl e ↦ if-below (h x) n m (all 0 x (omega arith)) e
      | inr r ↦ lists-below h n xs (λ k d less. all (suc k) d (omega arith)) m r
    ]

forms-below : (form : Form) (n : ℕ) → FormBelow n form → (m : ℕ) → In m (form_names form) → m < n
forms-below (FunctionForm ps rs) n b m i =
    elim (in-split (filter_map value_name ps) (filter_map value_name rs) m i) as (λ _. m < n) [
      | inl h ↦ lists-below value_name n ps b.0 m h
      | inr h ↦ lists-below value_name n rs b.1 m h
    ]
forms-below (StructForm fs) n b m i = lists-below field_name n fs b m i
forms-below (ArrayForm x) n b m i = if-below (field_name x) n m b (of-one (field_name x) m i)

pub kinds-below : (k : Kind) (n : ℕ) → KindBelow n k → (m : ℕ) → In m (kind_names k) → m < n
kinds-below k n b m i =
    elim (in-split (form_names k.form) (option_to_list k.supertype) m i) as (λ _. m < n) [
      | inl h ↦ forms-below k.form n b.0 m h
      | inr h ↦ if-below k.supertype n m b.1 (of-one k.supertype m h)
    ]
