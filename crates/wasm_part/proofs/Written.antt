-- Lemmas: the kept part is ruled.
use Rattle.std.specs.Prelude.{ℕ, zero, suc, ◌≡◌, ◌<◌, true, List, [], ◌∷◌, length, filter, Option, Some, None, slice_get, slice_index_or, refl}
use Rattle.std.specs.Option.{option_map}
use Rattle.std.proofs.Common.{ap, sym, ◌∙◌, subst, arith}
use Rattle.walrus_forms.specs.Renaming.{renamed_kind}
use Rattle.wasm_operators.specs.Items.{Types, Globals}
use Rattle.wasm_operators.specs.Names.{Renaming}
use Rattle.wasm_grammar.specs.Modules.{Expr, Origin, Imported, Own, Global}
use Rattle.wasm_merged_modules.specs.Merged.{kinds_of}
use Rattle.wasm_ruled_modules.specs.Rules.{around_bodies, is_imported}
use Rattle.wasm_part.specs.Part.{IsIn, part, picked, renumbered_expr, renumbered_global, renumbered_own}
use Rattle.wasm_part.specs.Closed.{IsPlan, PartsAreRuled, Rise, TypeStands}
use Rattle.wasm_part.specs.Kept.{KeptIsClosed, PickedTypesServe}
use Rattle.wasm_part.specs.Emitted.{EmittedTypesStand, ReadBackTypesLead}
use Rattle.wasm_part.specs.Written.{KeptPartsAreRuled}

some_same : {A : Type 0} (x y : A) → (let some : A → Option A = λ x. Some x in some x ≡ some y) → x ≡ y
some_same x y e = cc

-- ---- imported globals stay in front

module _ (r : Renaming) (brings : ℕ → ℕ) where
  origin_stays : (g : Global) (o : Origin Expr) → is_imported (Some (record g { origin = renumbered_own r brings (renumbered_expr r) o })) ≡ is_imported (Some (record g { origin = o }))
  origin_stays g (Imported n) = refl
  origin_stays g (Own e) = refl

  imported_stays : (o : Option Global) → is_imported (option_map (renumbered_global r brings) o) ≡ is_imported o
  imported_stays None = refl
  imported_stays (Some g) = origin_stays g g.origin

  head_kept : (x : Option Global) (xs : List (Option Global)) → is_imported x ≡ true → length (filter is_imported (x ∷ xs)) ≡ suc (length (filter is_imported xs))
  head_kept x xs e = rw e refl

  front_kept : (globals : List (Option Global)) (count : ℕ) → ((n : ℕ) → n < count → is_imported (slice_index_or globals n None) ≡ true) → (ns : List ℕ) (j n : ℕ) → Rise ns → slice_get ns j ≡ Some n → n < count
      → j < length (filter is_imported (picked (renumbered_global r brings) ns globals))
  front_kept globals count first [] j n rise e lt = absurd cc
  front_kept globals count first (k ∷ ns) zero n rise e lt =
      let same : k ≡ n = some_same k n e in
      let many = head_kept (option_map (renumbered_global r brings) (slice_index_or globals k None)) (picked (renumbered_global r brings) ns globals) (imported_stays (slice_index_or globals k None) ∙ first k (omega (arith, same, lt))) in
      omega (arith, many)
  front_kept globals count first (k ∷ ns) (suc j) n rise e lt =
      let less : k < n = rise zero (suc j) k n (omega arith) refl e in
      let many = head_kept (option_map (renumbered_global r brings) (slice_index_or globals k None)) (picked (renumbered_global r brings) ns globals) (imported_stays (slice_index_or globals k None) ∙ first k (omega (arith, less, lt))) in
      let later = front_kept globals count first ns j n (λ a b c d before x y. rise (suc a) (suc b) c d (omega (arith, before)) x y) e lt in
      omega (arith, many, later)

module _ (emitted : EmittedTypesStand) (lead : ReadBackTypesLead) (closed : KeptIsClosed) (serve : PickedTypesServe) (ruled : PartsAreRuled) where
  kept_ruled : KeptPartsAreRuled
  kept_ruled features before counted v keep pushed t p w first bodies h =
      let m = v.filled in
      let written = emitted t p.groups w.indices w.emitted in
      let stands : (n : ℕ) → IsIn p Types n → TypeStands p m n = λ n is.
      let at = written.stand (p.renames Types n) n (subst (λ (l : List ℕ). slice_get l (p.renames Types n) ≡ Some n) w.types is) in record {
        kind = at.kind;
        is = w.known n at.kind at.is;
        stands = at.stands ∙ ap (λ (r : ℕ → ℕ). Some (renamed_kind r at.kind)) (sym w.index);
      } in
      let plan : IsPlan features counted p m = record {
        labels = w.labels;
        locals = w.locals;
        only = w.only;
        groups = written.below;
        types = stands;
        globals = w.globals;
        imported = λ n is lt. front_kept p.renames p.brings m.globals (length (filter is_imported m.globals)) first (p.listed Globals) (p.renames Globals n) n w.globals is lt;
        exports = w.exports;
      } in
      let picks = serve features before counted p m stands (lead (part p m) (length (kinds_of p.groups)) w.once) in
      ruled features before counted p m plan (closed v keep pushed p (around_bodies features before m) (around_bodies features counted (part p m)) w.kept picks bodies) h

pub kept_parts_ruled : EmittedTypesStand → ReadBackTypesLead → KeptIsClosed → PickedTypesServe → PartsAreRuled → KeptPartsAreRuled
kept_parts_ruled emitted lead closed serve ruled = kept_ruled emitted lead closed serve ruled
