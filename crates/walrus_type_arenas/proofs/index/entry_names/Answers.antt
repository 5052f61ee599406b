use Rattle.std.proofs.Common.{◌∙◌, ℕ, List, sym, ap}
use Rattle.std.proofs.lemmas.List.{append-nil}
use Rattle.std.specs.Prelude.{◌==◌}
use Rattle.std.specs.List.{filter_map, list_any}
use Rattle.walrus_type_index.specs.walrus_items.walrus_forms.Values.{value_name}
use Rattle.walrus_type_arenas.proofs.index.entry_names.Goals as goal

pub returns : goal.returns
returns c =
    c.values_name.ensures ∙ ap (λ (names : List ℕ). list_any (λ name. name == c.args.id) names) (sym (append-nil (filter_map value_name c.args.results.now)))
