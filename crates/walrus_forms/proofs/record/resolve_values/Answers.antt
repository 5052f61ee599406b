use Rattle.std.proofs.Common.{◌≡◌, IfOk, List, length, subst}
use Rattle.walrus_forms.proofs.ListLemmas.{All-of_map}
use Rattle.walrus_forms.proofs.PlainLemmas.{map_plain}
use Rattle.walrus_forms.specs.Records.{value_of}
use Rattle.walrus_forms.specs.Renaming.{ValueBelow, at}
use Rattle.walrus_forms.specs.declared.value.ValType.{ValType}
use Rattle.walrus_forms.proofs.record.resolve_values.Goals as goal

pub push_value-requires-clause-names : goal.push_value-requires-clause-names
push_value-requires-clause-names c = All-of_map (ValueBelow (length c.args.ids.now)) value_of c.args.values.now c.loop-value.value-index _ c.loop-value-test.true c.requires

pub returns-then-not-has_ref : goal.returns-then-not-has_ref
returns-then-not-has_ref c =
    subst (λ (items : List ValType). IfOk c.resolve_plain.result (λ types. types.items ≡ items)) (map_plain (at c.args.ids.now) c.args.values.now cc) c.resolve_plain.ensures
