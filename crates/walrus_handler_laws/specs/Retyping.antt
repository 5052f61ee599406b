-- What is left of a body whose handlers are given their types.
use Rattle.std.specs.Prelude.{◌≡◌, ℕ, List, [], Option, Some, None, slice_get}
use Rattle.walrus_body_steps.specs.walrus_body_nesting.wasm_normal_form.Trees.{Tree}
use Rattle.walrus_body_steps.specs.walrus_body_nesting.Stands.{StandsAs, total}
use Rattle.walrus_body_steps.specs.walrus_body_rules.walrus_forms.declared.value.ValType.{ValType}
use Rattle.walrus_body_steps.specs.walrus_body_rules.Sights.{Sight, results_of}
use Rattle.walrus_body_steps.specs.Meanings.{meaning}
use Rattle.walrus_tree.specs.walrus_builder.Built.{Seq}
use Rattle.walrus_tree.specs.walrus_walks.walrus_instr.declared.seq.InstrSeqType.{InstrSeqType}
use Rattle.walrus_handler_laws.specs.declared.handler.Handler.{Handler}
use Rattle.walrus_handler_laws.specs.Handlers.{TellsHandlers}

-- what the one sees the other sees so too; types of handlers aside, of which nothing is said
pub record Widens (s u : Sight) : Type 0 where
  pub ids : u.ids ≡ s.ids
  pub function : u.function ≡ s.function
  pub params : (id : ℕ) (tys : List ValType) → s.params id ≡ Some tys → u.params id ≡ Some tys
  pub results : (id : ℕ) (tys : List ValType) → s.results id ≡ Some tys → u.results id ≡ Some tys
  pub blocks : (params results : List ValType) (ty : InstrSeqType) → s.block_type params results ≡ Some ty → u.block_type params results ≡ Some ty
  pub tags : (tag ty : ℕ) → s.tag_type tag ≡ Some ty → u.tag_type tag ≡ Some ty

-- the parameters of a handler of a tag of this type, or of all tags
abbrev pub handler_params : Sight → Option ℕ → Option (List ValType)
handler_params s (Some tag) = s.params tag
handler_params s None = Some []

-- a sequence that was of the one type is of the other: if it is a handler whose tag and block were seen to have parameters and results, of
-- that which is seen for these now
abbrev pub IsTyped : Sight → Sight → Option Handler → InstrSeqType → InstrSeqType → Type 0
IsTyped s u (Some h) old new = (params results : List ValType) → handler_params s h.tag_type ≡ Some params → results_of s h.block ≡ Some results → u.handler_type params results ≡ Some new
IsTyped s u None old new = new ≡ old

abbrev pub with_type : InstrSeqType → Seq → Seq
with_type ty x = record x { ty = ty }

-- at most types are other ones: each handler's is what is seen for it now
abbrev pub AreTyped : Sight → Sight → (ℕ → Option Handler) → List Seq → List Seq → Type 0
AreTyped s u told b c = (j : ℕ) (x : Seq) → slice_get b j ≡ Some x → (ty : InstrSeqType) × (slice_get c j ≡ Some (with_type ty x)) × IsTyped s u (told j) x.ty ty

abbrev pub HandlersStand : Type 0
HandlersStand = (s u : Sight) (b c : List Seq) (js : List ℕ) (told : ℕ → Option Handler) (t : Tree) → Widens s u → TellsHandlers s.tag_type b js told → AreTyped s u told b c
    → total c ≡ total b → StandsAs (meaning s) b t → StandsAs (meaning u) c t
