use Rattle.std.proofs.Common.{rules, refl, subst, ◌≡◌, ℕ, List}
use Rattle.walrus_arena.specs.Arena.{with_item}
use Rattle.walrus_collections.specs.walrus_module_items.declared.function.Function.{Function}
use Rattle.walrus_collections.specs.walrus_module_items.declared.function.FunctionKind.TheVariants.{Local}
use Rattle.walrus_module.specs.Replaced.{IsBuilt, params_at, results_at}
use Rattle.walrus_module.proofs.ReplacedLemmas.{if_some}
use Rattle.walrus_module.proofs.module.Module.replace_imported_func.Goals as goal

pub returns-clause-replaced : goal.returns-clause-replaced
returns-clause-replaced g c =
    let t = c.args.self.now.types in
    let was = c.in-Import.old in
    let made = c.in_ok-local.local in
    let of_args : List ℕ → Type 0 = λ args. IsBuilt g.F.FnOnce c.args.build (params_at t was.ty) (results_at t was.ty) args made t c.build_like.new.types in
    let gives : Function → Type 0 = λ item. c.give_body.new.funcs ≡ with_item c.args.self.now.funcs c.args.function (record item { kind = Local made }) in
    record {
      was = was;
      item = c.get.result.now;
      item_is = c.get.ensures;
      was_is = c.in-Import.is;
      import = c.in-Some.import;
      import_is = search rules;
      made = made;
      built = subst of_args c.in_ok-args.ensures.ids c.in_ok-local.ensures.built;
      locals_are = c.in_ok-args.ensures.added;
      funcs_are = if_some gives _ c.get.result.now c.get.ensures c.give_body.ensures;
      imports_are = c.delete.ensures.deleted;
      rest = refl;
    }
