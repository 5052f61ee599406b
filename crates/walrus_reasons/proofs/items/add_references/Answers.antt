use Rattle.std.proofs.Common.{ℕ, sym, subst}
use Rattle.std.specs.Prelude.{OnOk}
use Rattle.std.proofs.lemmas.Result.{IfOk-weaker}
use Rattle.wasm_formats.specs.declared.fault.Space.{Space}
use Rattle.wasm_formats.specs.declared.fault.Space.TheVariants as spaces
use Rattle.walrus_used.specs.walrus_module.Parts.{parts}
use Rattle.walrus_used.specs.walrus_references.References.{RefersIn}
use Rattle.walrus_reasons.specs.Added.{Adds}
use Rattle.walrus_reasons.proofs.ItemLemmas.{memory_adds, table_adds}
use Rattle.walrus_reasons.proofs.items.add_references.Goals as goal

pub returns-in-Type : goal.returns-in-Type
returns-in-Type g c =
    let m = parts c.args.input.now in
    let x = c.args.item in
    let a = c.args.named.now.items in
    let b = c.add_type_at.new.named.items in
    let r = c.add_type_at.result in
    subst (λ (s : Space). OnOk r (Adds (RefersIn m s x.id) a b)) (sym c.in-Type.is)
    (subst (λ (id : ℕ). OnOk r (Adds (RefersIn m spaces.Type id) a b)) c.id.ensures c.add_type_at.ensures)

pub returns-in-Function : goal.returns-in-Function
returns-in-Function g c =
    let m = parts c.args.input.now in
    let x = c.args.item in
    let a = c.args.named.now.items in
    let b = c.add_function_at.new.named.items in
    let r = c.add_function_at.result in
    subst (λ (s : Space). OnOk r (Adds (RefersIn m s x.id) a b)) (sym c.in-Function.is)
    (subst (λ (id : ℕ). OnOk r (Adds (RefersIn m spaces.Function id) a b)) c.id-in-Function.ensures c.add_function_at.ensures)

pub returns-in-Table : goal.returns-in-Table
returns-in-Table g c =
    let m = parts c.args.input.now in
    let x = c.args.item in
    let a = c.args.named.now.items in
    let b = c.add_table_at.new.named.items in
    let r = c.add_table_at.result in
    subst (λ (s : Space). OnOk r (Adds (RefersIn m s x.id) a b)) (sym c.in-Table.is)
    (subst (λ (id : ℕ). OnOk r (Adds (RefersIn m spaces.Table id) a b)) c.id-in-Table.ensures (IfOk-weaker r _ (λ _. Adds (RefersIn m spaces.Table c.id-in-Table.result) a b) (λ _ h. table_adds m c.id-in-Table.result a b h) c.add_table_at.ensures))

pub returns-in-Memory : goal.returns-in-Memory
returns-in-Memory g c =
    let m = parts c.args.input.now in
    let x = c.args.item in
    let a = c.args.named.now.items in
    let b = c.add_memory_at.new.named.items in
    let r = c.add_memory_at.result in
    subst (λ (s : Space). OnOk r (Adds (RefersIn m s x.id) a b)) (sym c.in-Memory.is)
    (subst (λ (id : ℕ). OnOk r (Adds (RefersIn m spaces.Memory id) a b)) c.id-in-Memory.ensures (IfOk-weaker r _ (λ _. Adds (RefersIn m spaces.Memory c.id-in-Memory.result) a b) (λ _ h. memory_adds m c.id-in-Memory.result a b h) c.add_memory_at.ensures))
