-- Lemmas: a linked module that was written was ready, with the segment that was added.
use Rattle.std.specs.Prelude.{ℕ, zero, suc, ◌≡◌, ◌⊎◌, List, [], ◌∷◌, ◌++◌, length, Option, Some, None, slice_index_or, false, refl}
use Rattle.std.specs.List.{AllZip}
use Rattle.std.specs.declared.alloc.Global.{Global as Allocator}
use Rattle.std.specs.declared.vec.Vec.{Vec}
use Rattle.std.proofs.Common.{ap, sym, ◌∙◌, subst, inl, inr}
use Rattle.std.proofs.lemmas.Option.{none-some, same_Some}
use Rattle.wasm_formats.specs.declared.fault.Space.{Space as FileSpace}
use Rattle.wasm_formats.specs.declared.fault.Space.TheVariants as spaces
use Rattle.walrus_arena.specs.Arena.{Arena, entries}
use Rattle.walrus_index_maps.specs.Maps.{Indices}
use Rattle.walrus_module.specs.Items.{brought}
use Rattle.walrus_module.specs.Linking.{import_in}
use Rattle.walrus_module.specs.Parts.{parts, Module as Parts}
use Rattle.walrus_module.specs.declared.module.Module.{Module}
use Rattle.walrus_module.specs.walrus_collections.LookUps.{local_entries}
use Rattle.walrus_module_items.specs.declared.data.Data.{Data}
use Rattle.walrus_module_items.specs.declared.element.Element.{Element}
use Rattle.walrus_module_items.specs.declared.element.ElementItems.TheVariants.{Functions}
use Rattle.walrus_module_items.specs.declared.element.ElementKind.TheVariants.{Declared}
use Rattle.walrus_module_items.specs.declared.global.Global.{Global}
use Rattle.walrus_module_items.specs.declared.memory.Memory.{Memory}
use Rattle.walrus_module_items.specs.declared.table.Table.{Table}
use Rattle.walrus_module_items.specs.declared.tag.Tag.{Tag}
use Rattle.walrus_linked.specs.Linked.{IsLinked}
use Rattle.walrus_linked.specs.OwnIds.{HaveOwnIds}
use Rattle.walrus_emit_code.specs.Code.{code, facts_at}
use Rattle.walrus_emit_numbers.specs.Facts.{AreFacts}
use Rattle.walrus_emit_numbers.specs.Undeclared.{undeclared_of}
use Rattle.walrus_emit.specs.Left.{Declares}
use Rattle.walrus_emit.specs.Whole.{closing, numbers, opening, sections, standard, with_bodies}
use Rattle.walrus_emit.specs.Written.{IsWritten}
use Rattle.walrus_plan_laws.specs.Emissions.{IsBound, IsReady, ItemsHaveOwnIds}
use Rattle.walrus_plan_laws.specs.Written.{WrittenModulesAreReady}
use Rattle.walrus_plan_laws.proofs.Fits.{CanBe, back_of, front_of, sizes_fit}

-- ---- a segment that was added

-- the item of a list with one more is one of the list, or the last
added_at : {A : Type 0} (slots : List (Option A)) (x y : A) (n : ℕ) → slice_index_or (slots ++ Some x ∷ []) n None ≡ Some y → (slice_index_or slots n None ≡ Some y) ⊎ ((n ≡ length slots) × (x ≡ y))
added_at [] x y zero e = inr (refl, same_Some x y e)
added_at [] x y (suc n) e = absurd (none-some y e)
added_at (s ∷ slots) x y zero e = inl e
added_at {A} (s ∷ slots) x y (suc n) e = go (added_at slots x y n e)
  where
    go : (slice_index_or slots n None ≡ Some y) ⊎ ((n ≡ length slots) × (x ≡ y)) → (slice_index_or slots n None ≡ Some y) ⊎ ((suc n ≡ suc (length slots)) × (x ≡ y))
    go (inl there) = inl there
    go (inr last) = inr (ap (λ (k : ℕ). suc k) last.0, last.1)

-- all else is as it was
same_but : (functions : List ℕ) (a b : Parts) → Declares functions a b → b ≡ record a { elements = b.elements }
same_but [] a b e = subst (λ (x : Parts). b ≡ record x { elements = b.elements }) e refl
same_but (f ∷ functions) a b h = h.0

abbrev declared_by : ℕ → Vec ℕ Allocator → Element
declared_by id items = record { id = id; kind = Declared; items = Functions items; name = None }

own_elements : (functions : List ℕ) (a b : Parts) → Declares functions a b → HaveOwnIds (λ (e : Element). e.id) a.elements → HaveOwnIds (λ (e : Element). e.id) b.elements
own_elements [] a b e own = subst (λ (x : Parts). HaveOwnIds (λ (e : Element). e.id) x.elements) (sym e) own
own_elements (f ∷ functions) a b h own = λ id x at.
    go id x (added_at a.elements.slots (declared_by (length a.elements.slots) h.1.items) x id (sym (ap (λ (slots : List (Option Element)). slice_index_or slots id None) h.1.added) ∙ at))
  where
    go : (id : ℕ) (x : Element) → (slice_index_or a.elements.slots id None ≡ Some x) ⊎ ((id ≡ length a.elements.slots) × (declared_by (length a.elements.slots) h.1.items ≡ x)) → x.id ≡ id
    go id x (inl there) = own id x there
    go id x (inr last) = ap (λ (e : Element). e.id) (sym last.1) ∙ sym last.0

import_stays : (a : Parts) (elements : Arena Element) (space : FileSpace) (id : ℕ) → import_in (record a { elements = elements }) space id ≡ import_in a space id
import_stays a elements spaces.Function id = refl
import_stays a elements spaces.Table id = refl
import_stays a elements spaces.Memory id = refl
import_stays a elements spaces.Tag id = refl
import_stays a elements spaces.Global id = refl
import_stays a elements spaces.«Type» id = refl
import_stays a elements spaces.Element id = refl
import_stays a elements spaces.Data id = refl
import_stays a elements spaces.Local id = refl
import_stays a elements spaces.Label id = refl

bound_but : (a : Parts) (elements : Arena Element) → IsLinked a → IsBound (record a { elements = elements })
bound_but a elements linked = record {
  imports = λ i import e. import_stays a elements (brought import.kind).space (brought import.kind).id ∙ linked.imports i import e;
  imported = λ x i e. linked.imported x i (sym (import_stays a elements x.space x.id) ∙ e);
  whole = linked.whole;
}

-- ---- what was written

module _ {B : Type 0} (own_name : B → List ℕ) (contents : B → Indices → Option (List ℕ)) (old new : Module B) (bytes : List ℕ) (w : IsWritten own_name contents old new bytes) where
  same : parts new ≡ record (parts old) { elements = new.elements }
  same = same_but (undeclared_of old w.facts) (parts old) (parts new) w.declared

  abbrev input : Module B
  input = record new { customs = old.customs }

  abbrev by : Indices
  by = numbers input w.facts w.order w.emitted

  code_can : CanBe (code new.locals new.funcs by (facts_at w.facts w.order))
  code_can =
      let later = with_bodies input w.facts w.order by in
      let written_code = code new.locals new.funcs by (facts_at w.facts w.order) in
      let behind = closing input w.facts w.order w.emitted later in
      let all = front_of (standard own_name contents input w.facts w.order w.emitted by) (sections own_name contents false later new.customs) bytes (sym w.bytes_are) in
      let rest = back_of (opening own_name contents input w.facts w.order w.emitted by) (written_code ++ behind) all.0 all.1 in
      front_of written_code behind rest.0 rest.1

  known : AllZip AreFacts (local_entries (entries new.funcs)) w.facts
  known = subst (λ (p : Parts). AllZip AreFacts (local_entries (entries p.funcs)) w.facts) (sym same) w.known

  pub is_ready : IsLinked (parts old) → ItemsHaveOwnIds (parts old) → IsReady new w.facts w.order w.emitted
  is_ready linked ids = record {
    bound = subst IsBound (sym same) (bound_but (parts old) new.elements linked);
    ids = record {
      tables = subst (λ (p : Parts). HaveOwnIds (λ (t : Table). t.id) p.tables) (sym same) ids.tables;
      memories = subst (λ (p : Parts). HaveOwnIds (λ (x : Memory). x.id) p.memories) (sym same) ids.memories;
      tags = subst (λ (p : Parts). HaveOwnIds (λ (t : Tag). t.id) p.tags) (sym same) ids.tags;
      globals = subst (λ (p : Parts). HaveOwnIds (λ (g : Global). g.id) p.globals) (sym same) ids.globals;
      elements = own_elements (undeclared_of old w.facts) (parts old) (parts new) w.declared ids.elements;
      segments = subst (λ (p : Parts). HaveOwnIds (λ (d : Data). d.id) p.data_segments) (sym same) ids.segments;
    };
    known = known;
    fit = sizes_fit (parts new) w.facts w.order known w.ordered by code_can;
    sorted = w.ordered;
    types = w.types.ids;
  }

pub written_modules_are_ready : {B : Type 0} → WrittenModulesAreReady B
written_modules_are_ready own_name contents old new bytes w linked ids = is_ready own_name contents old new bytes w linked ids
