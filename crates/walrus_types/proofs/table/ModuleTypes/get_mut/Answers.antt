use Rattle.std.proofs.Common.{◌∙◌, ℕ, Option, Some, List, map, slice_set, ap, sym, subst, refl}
use Rattle.std.specs.Option.{option_map}
use Rattle.std.proofs.lemmas.List.{map-set}
use Rattle.walrus_type_arenas.specs.walrus_type_index.walrus_items.Items.{Item, item_of, group_of}
use Rattle.walrus_type_arenas.specs.walrus_type_index.Ordered.{IsHeld}
use Rattle.walrus_type_arenas.specs.walrus_type_index.Places.{kinds_in}
use Rattle.walrus_type_arenas.specs.Table.{Table}
use Rattle.walrus_type_arenas.proofs.TableLemmas.{grouped-written, at-map}
use Rattle.walrus_type_arenas.proofs.DeleteLemmas.{live-inside}
use Rattle.walrus_type_arenas.proofs.IndexLemmas.{lives-seen, held-written}
use Rattle.walrus_types.proofs.table.ModuleTypes.get_mut.Goals as goal

pub lend-requires-clause-lives : goal.lend-requires-clause-lives
lend-requires-clause-lives c =
    lives-seen c.self.inside.types.slots c.args.id (live-inside c.self.inside.types.slots c.self.inside.groups.slots c.args.self.now c.args.id c.self.view_is c.requires)

pub invariant_of-self-lent : goal.invariant_of-self-lent
invariant_of-self-lent c = λ w.
    let slots = c.self.inside.types.slots in
    record {
      held = subst (λ (l : Option ℕ). IsHeld l c.lend.new.index (kinds_in (slice_set slots c.args.id (Some w)))) (sym c.lend.ensures.lent)
          (held-written slots c.lend.new.index c.args.id c.index_mut.result.now w c.index_mut.ensures.value c.lend.ensures.index);
      grouped = rw map-set (grouped-written _ _ _ c.args.id (item_of c.index_mut.result.now) (item_of w) c.self.invariant.grouped
          (at-map item_of slots c.args.id ∙ ap (option_map item_of) c.index_mut.ensures.value));
    }

pub returns : goal.returns
returns c =
    let types = c.self.inside.types.slots in
    rw (← c.self.view_is) (
      (refl, λ w. ap (λ (ts : List (Option Item)). let t : Table = record { types = ts; groups = map (option_map group_of) c.self.inside.groups.slots } in t) (map-set (option_map item_of) types c.args.id (Some w))),
      record { writes_back = tt; value = at-map item_of types c.args.id ∙ ap (option_map item_of) c.index_mut.ensures.value },
    )
