-- Nothing lives in a module without items.
use Rattle.std.proofs.Common.{◌≡◌, ℕ, List, [], length, Option, Some, None, IsSome, slice_index_or, ap, subst, arith}
use Rattle.std.specs.Option.{option_and_then}
use Rattle.wasm_formats.specs.declared.fault.Space.{Space}
use Rattle.wasm_formats.specs.declared.fault.Space.TheVariants as spaces
use Rattle.walrus_module.specs.Parts.{Module}
use Rattle.walrus_module.specs.Items.{LivesIn, written}
use Rattle.walrus_linked.specs.Linked.{import_in}
use Rattle.walrus_linked.specs.Empty.{IsEmpty, EmptyIsLinked}

none_at : {T : Type 0} (slots : List (Option T)) (id : ℕ) → slots ≡ [] → slice_index_or slots id None ≡ None
none_at slots id e = ap (λ ss. slice_index_or ss id None) e

none_lives : {T : Type 0} (o : Option T) → o ≡ None → IsSome o → ⊥
none_lives {T} o e h = let F : Option T → Type 0 = λ v. IsSome v in let bad : F None = subst F e h in absurd cc

none_is_some : {T : Type 0} (o : Option T) (x : T) → o ≡ None → o ≡ Some x → ⊥
none_is_some o x e h = absurd cc

module _ (m : Module) (z : IsEmpty m) where
  none_lives_in : (s : Space) (id : ℕ) → LivesIn m s id → ⊥
  none_lives_in spaces.Function id h = none_lives _ (none_at m.funcs.slots id z.funcs) h
  none_lives_in spaces.Table id h = none_lives _ (none_at m.tables.slots id z.tables) h
  none_lives_in spaces.Memory id h = none_lives _ (none_at m.memories.slots id z.memories) h
  none_lives_in spaces.Tag id h = none_lives _ (none_at m.tags.slots id z.tags) h
  none_lives_in spaces.Global id h = none_lives _ (none_at m.globals.slots id z.globals) h
  none_lives_in spaces.Element id h = none_lives _ (none_at m.elements.slots id z.elements) h
  none_lives_in spaces.Data id h = none_lives _ (none_at m.data_segments.slots id z.data_segments) h
  none_lives_in spaces.Type id h = none_lives _ (ap written (none_at m.types.types id z.types)) h
  none_lives_in spaces.Local id h = let none : length m.locals ≡ 0 = ap length z.locals in absurd (omega (arith, h, none))
  none_lives_in spaces.Label id h = h

  no_import_in : (s : Space) (id i : ℕ) → import_in m s id ≡ Some i → ⊥
  no_import_in spaces.Function id i h = none_is_some _ i (ap (option_and_then _) (none_at m.funcs.slots id z.funcs)) h
  no_import_in spaces.Table id i h = none_is_some _ i (ap (option_and_then _) (none_at m.tables.slots id z.tables)) h
  no_import_in spaces.Memory id i h = none_is_some _ i (ap (option_and_then _) (none_at m.memories.slots id z.memories)) h
  no_import_in spaces.Tag id i h = none_is_some _ i (ap (option_and_then _) (none_at m.tags.slots id z.tags)) h
  no_import_in spaces.Global id i h = none_is_some _ i (ap (option_and_then _) (none_at m.globals.slots id z.globals)) h
  no_import_in spaces.Type id i h = absurd cc
  no_import_in spaces.Element id i h = absurd cc
  no_import_in spaces.Data id i h = absurd cc
  no_import_in spaces.Local id i h = absurd cc
  no_import_in spaces.Label id i h = absurd cc

pub empty_linked : EmptyIsLinked
empty_linked m z = record {
  imports = λ i import at. absurd (none_is_some _ import (none_at m.imports.slots i z.imports) at);
  imported = λ x i at. absurd (no_import_in m z x.space x.id i at);
  whole = λ f function at. absurd (none_is_some _ function (none_at m.funcs.slots f z.funcs) at);
  named = λ x y lives has. absurd (none_lives_in m z x.space x.id lives);
  grouped = λ place group at. absurd (none_is_some _ group (none_at m.types.groups place z.groups) at);
  exported = λ e export at. absurd (none_is_some _ export (none_at m.exports.slots e z.exports) at);
  started = λ f at. absurd (none_is_some m.start f z.start at);
}
