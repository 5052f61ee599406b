-- Kinds, places and ids are totally ordered.
use Rattle.std.proofs.Common.{◌≡◌, ℕ, Bool, List, [], Option, Some, None, refl, sym, ap, subst, Ordering, Less, Equal, Greater}
use Rattle.std.specs.Ordering.{ordering_then, nat_cmp, then_cmp, on}
use Rattle.std.specs.Option.{option_cmp}
use Rattle.std.specs.Cmp.{IsTotalOrder, then_total, on_total, bool_cmp_total, nat_cmp_total}
use Rattle.std.specs.Cmp.Lexicographic.{slice_cmp, options_total, lists_total}
use Rattle.walrus_items.specs.walrus_forms.declared.value.ValType.{ValType}
use Rattle.walrus_items.specs.walrus_forms.declared.value.FieldType.{FieldType}
use Rattle.walrus_items.specs.walrus_forms.contracts.value.ValTypeOrd.TheImpl.{ghosts as value_ord}
use Rattle.walrus_items.specs.walrus_forms.contracts.value.ValTypeOrd.TheImpl.Laws as value_laws
use Rattle.walrus_items.specs.walrus_forms.contracts.value.FieldTypeOrd.TheImpl.{ghosts as field_ord}
use Rattle.walrus_items.specs.walrus_forms.contracts.value.FieldTypeOrd.TheImpl.Laws as field_laws
use Rattle.walrus_items.specs.walrus_forms.Forms.{Form, FunctionForm, StructForm, ArrayForm}
use Rattle.walrus_items.specs.walrus_forms.Kinds.{Kind}
use Rattle.walrus_items.specs.walrus_forms.Order.{form_cmp, kind_cmp}
use Rattle.walrus_type_index.specs.Places.{Hashed, place_at, place_cmp, id_cmp, hashed_cmp}

-- a form as a number and lists
record Code : Type 0 where
  tag : ℕ
  first : List ValType
  second : List ValType
  fields : List FieldType
  field : Option FieldType

code : Form → Code
code (FunctionForm ps rs) = record { tag = 0; first = ps; second = rs; fields = []; field = None }
code (StructForm fs) = record { tag = 1; first = []; second = []; fields = fs; field = None }
code (ArrayForm f) = record { tag = 2; first = []; second = []; fields = []; field = Some f }

code_cmp : Code → Code → Ordering
code_cmp = then_cmp (on (λ (c : Code). c.tag) nat_cmp) (then_cmp (on (λ (c : Code). c.first) (slice_cmp value_ord.cmp)) (then_cmp (on (λ (c : Code). c.second) (slice_cmp value_ord.cmp))
    (then_cmp (on (λ (c : Code). c.fields) (slice_cmp field_ord.cmp)) (on (λ (c : Code). c.field) (option_cmp field_ord.cmp)))))

values : IsTotalOrder (slice_cmp value_ord.cmp)
values = lists_total value_laws.total-law

fields : IsTotalOrder (slice_cmp field_ord.cmp)
fields = lists_total field_laws.total-law

codes : IsTotalOrder code_cmp
unfolding code_cmp
codes = then_total (on_total (λ (c : Code). c.tag) nat_cmp_total) (then_total (on_total (λ (c : Code). c.first) values) (then_total (on_total (λ (c : Code). c.second) values)
    (then_total (on_total (λ (c : Code). c.fields) fields) (on_total (λ (c : Code). c.field) (options_total field_laws.total-law)))))

then-equal : (o : Ordering) → ordering_then o Equal ≡ o
then-equal Less = refl
then-equal Equal = refl
then-equal Greater = refl

forms-coded : (a b : Form) → form_cmp a b ≡ code_cmp (code a) (code b)
unfolding code_cmp code
forms-coded (FunctionForm ps rs) (FunctionForm qs ss) = ap (ordering_then (slice_cmp value_ord.cmp ps qs)) (sym (then-equal (slice_cmp value_ord.cmp rs ss)))
forms-coded (FunctionForm ps rs) (StructForm fs) = refl
forms-coded (FunctionForm ps rs) (ArrayForm f) = refl
forms-coded (StructForm fs) (FunctionForm ps rs) = refl
forms-coded (StructForm fs) (StructForm gs) = sym (then-equal (slice_cmp field_ord.cmp fs gs))
forms-coded (StructForm fs) (ArrayForm f) = refl
forms-coded (ArrayForm f) (FunctionForm ps rs) = refl
forms-coded (ArrayForm f) (StructForm fs) = refl
forms-coded (ArrayForm f) (ArrayForm g) = refl

forms : IsTotalOrder form_cmp
forms = subst IsTotalOrder (λ i a b. sym (forms-coded a b) i) (on_total code codes)

pub kinds : IsTotalOrder kind_cmp
kinds = then_total (on_total (λ (k : Kind). k.form) forms) (then_total (on_total (λ (k : Kind). k.final) bool_cmp_total)
    (then_total (on_total (λ (k : Kind). k.supertype) (options_total nat_cmp_total)) (on_total (λ (k : Kind). k.entry) bool_cmp_total)))

pub places : IsTotalOrder place_cmp
places = then_total (on_total (λ (p : Option Kind × Bool). p.0) (options_total kinds)) (on_total (λ (p : Option Kind × Bool). p.1) bool_cmp_total)

pub ids : (ks : List (Option Kind)) → IsTotalOrder (id_cmp ks)
ids ks = then_total (on_total (place_at ks) places) nat_cmp_total

pub hashed_ids : (ks : List (Option Kind)) → IsTotalOrder (hashed_cmp ks)
hashed_ids ks = then_total (on_total (λ (x : Hashed). x.hash) nat_cmp_total) (on_total (λ (x : Hashed). x.id) (ids ks))

-- hashes and places
abbrev pub spot_cmp : ℕ × (Option Kind × Bool) → ℕ × (Option Kind × Bool) → Ordering
spot_cmp a b = ordering_then (nat_cmp a.0 b.0) (place_cmp a.1 b.1)

pub spots : IsTotalOrder spot_cmp
spots = then_total (on_total (λ (p : ℕ × (Option Kind × Bool)). p.0) nat_cmp_total) (on_total (λ (p : ℕ × (Option Kind × Bool)). p.1) places)
