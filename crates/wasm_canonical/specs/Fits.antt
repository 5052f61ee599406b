-- A body that meets the rules is within the limits of the format where the types of its locals and its operators have spellings.
use Rattle.std.specs.Prelude.{List, length, Option}
use Rattle.std.specs.List.{AllByRecursion}
use Rattle.walrus_forms.specs.declared.value.ValType.{ValType}
use Rattle.wasm_grammar.specs.Modules.{Origin, Imported, Own, Body, Function}
use Rattle.wasm_grammar.specs.States.{types_of}
use Rattle.wasm_body_grammar.specs.Rules.{Around}
use Rattle.wasm_body_grammar.specs.Codes.{param_count}
use Rattle.wasm_grammar_bytes.specs.Values.{value_type_writer}
use Rattle.wasm_module_rules.specs.Linked.{Each}
use Rattle.wasm_ruled_modules.specs.Rules.{OriginRuled}
use Rattle.wasm_canonical.specs.Bodies.{OperatorsFit, OriginFits}

abbrev pub TypeFits : Around → ValType → Type 0
TypeFits a ty = (value_type_writer a.features (length (types_of a.filled))).fits ty

abbrev pub OriginSpelled : Around → Origin Body → Type 0
OriginSpelled a (Imported n) = Unit {0}
OriginSpelled a (Own x) = AllByRecursion (TypeFits a) x.locals × OperatorsFit a x.operators

abbrev pub RuledBodiesFit : Type 0
RuledBodiesFit = (a : Around) (fs : List (Option Function)) → Each (λ (f : Function). OriginRuled a (param_count a.filled f.ty) f.origin) fs → Each (λ (f : Function). OriginSpelled a f.origin) fs
    → Each (λ (f : Function). OriginFits a (param_count a.filled f.ty) f.origin) fs
