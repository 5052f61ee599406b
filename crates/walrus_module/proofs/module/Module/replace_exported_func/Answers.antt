use Rattle.std.proofs.Common.{rules, refl, subst, ◌≡◌, ℕ, List}
use Rattle.std.proofs.lemmas.List.Elements.{same_from_all_zip}
use Rattle.walrus_module.specs.Replaced.{IsBuilt, params_at, results_at}
use Rattle.walrus_module.proofs.ReplacedLemmas.{body_found}
use Rattle.walrus_module.proofs.module.Module.replace_exported_func.Goals as goal

pub returns-clause-replaced : goal.returns-clause-replaced
returns-clause-replaced g c =
    let t = c.args.self.now.types in
    let after = c.build_like.new.types in
    let made = c.in_ok-local.local in
    let was = c.in-Local.old in
    let of_type : ℕ → Type 0 = λ ty. IsBuilt g.F.FnOnce c.args.build (params_at t ty) (results_at t ty) c.in_ok-args.args.items made t after in
    let of_args : List ℕ → Type 0 = λ args. IsBuilt g.F.FnOnce c.args.build (params_at t was.builder.ty) (results_at t was.builder.ty) args made t after in
    let same_args : c.in_ok-args.args.items ≡ was.args.items = search (rules, same_from_all_zip) in
    record {
      was = was;
      was_is = body_found c.args.self.now.funcs c.args.function c.get.result.now was c.get.ensures c.in-Local.is;
      export = c.in-Some.export;
      export_is = search rules;
      exported = c.give_export.ensures.0;
      exported_is = c.give_export.ensures.1;
      made = made;
      built = subst of_args same_args (subst of_type c.ty-ty.ensures c.in_ok-local.ensures.built);
      given = c.in_ok-new.ensures.id;
      added = c.in_ok-new.ensures.added;
      exports_are = c.give_export.ensures.2;
      rest = refl;
    }
