-- Each call keeps a table settled, and the ids of its types their own.
use Rattle.std.proofs.Common.{◌≡◌, ◌∙◌, ◌++◌, ◌∷◌, Bool, true, List, [], map, Option, sym, ap, subst}
use Rattle.std.proofs.lemmas.Option.{none-some}
use Rattle.std.proofs.lemmas.List.Elements.{All-nil, All-cons, All-head, All-tail}
use Rattle.walrus_forms.specs.Kinds.{Kind}
use Rattle.walrus_forms.specs.Records.{TypeGroup}
use Rattle.walrus_types.specs.declared.group.NewType.{NewType}
use Rattle.walrus_types.specs.Items.{Item, Group}
use Rattle.walrus_types.specs.Groups.{member_kind, new_items, AddsGroup}
use Rattle.walrus_types.specs.Table.{Table, next_id}
use Rattle.walrus_types.specs.TypeLaws.{AreGrouped}
use Rattle.walrus_types.specs.Merged.{TypesHaveOwnIds}
use Rattle.walrus_types.specs.Parsing.{with_group, unparsed}
use Rattle.walrus_types.proofs.Places.{map_at}
use Rattle.walrus_type_laws.specs.Ordinary.{IsOrdinary, AreOrdinary}
use Rattle.walrus_type_laws.specs.Edits.{Edit, IsSettled, SettledIsKept, OwnIdsAreKept}
use Rattle.walrus_type_laws.specs.Edits.Edit.{Stays, Adds, AddsBoth, AddsAll, Parses, ParsesPart, DeletesOne, DeletesAll, DeletesThese, Names}
use Rattle.walrus_type_laws.proofs.Grown.{Fits, Inner, PlainKinds, fits_marked, grown_inner, grown_own, merges_kept, parsed_kept}
use Rattle.walrus_type_laws.proofs.Deleted.{types_own, shrinks_settled, deletes_types, deletes_group_types, deletes_shrinks, deletes_group_shrinks, deletes_these_types, deletes_these_shrinks, names_shrinks, stays_shrinks}

-- the groups before a refused one
front : (before after : List TypeGroup) → AreOrdinary (before ++ after) → AreOrdinary before
front [] after all = All-nil IsOrdinary
front (g ∷ before) after all =
    All-cons IsOrdinary g before (All-head IsOrdinary g (before ++ after) all) (front before after (All-tail IsOrdinary g (before ++ after) all))

-- members of groups are no entry types
members_plain : (members : List NewType) → PlainKinds (map member_kind members)
members_plain members i kind is = let m = map_at member_kind members i kind is in ap (λ (k : Kind). k.entry) (sym m.2)

adds_is : (kinds : List Kind) (old new : Table) → AddsGroup true kinds old new → new ≡ with_group true kinds old
adds_is kinds old new adds =
    ap (λ (xs : List (Option Item)). let t : Table = record { types = xs; groups = new.groups } in t) adds.types
    ∙ ap (λ (gs : List (Option Group)). let t : Table = record { types = old.types ++ new_items (next_id old) kinds; groups = gs } in t) adds.groups

-- what each add of a group keeps is kept
module _ (P : Table → Type 0) (step : (explicit : Bool) (kinds : List Kind) (t : Table) → P t → Fits explicit kinds t → P (with_group explicit kinds t)) where
  all_kept : (members : List NewType) (old new : Table) → AddsGroup true (map member_kind members) old new → P old → P new
  all_kept members old new adds p =
      subst P (sym (adds_is (map member_kind members) old new adds)) (step true (map member_kind members) old p (fits_marked old (map member_kind members) (members_plain members)))

step_inner : (explicit : Bool) (kinds : List Kind) (t : Table) → Inner t → Fits explicit kinds t → Inner (with_group explicit kinds t)
step_inner explicit kinds t inner fits = grown_inner explicit kinds t inner fits

step_own : (explicit : Bool) (kinds : List Kind) (t : Table) → TypesHaveOwnIds t → Fits explicit kinds t → TypesHaveOwnIds (with_group explicit kinds t)
step_own explicit kinds t own fits = grown_own explicit kinds t own

inner_of : (t : Table) → AreGrouped t → IsSettled t → Inner t
inner_of t grouped settled = record { live = grouped.live; merged = settled.merged; single = settled.single }

settled_of : (t : Table) → Inner t → IsSettled t
settled_of t inner = record { merged = inner.merged; single = inner.single }

settled_kept : (old new : Table) → AreGrouped old → Edit old new → IsSettled old → IsSettled new
settled_kept old new grouped (Stays is) s = shrinks_settled old new (stays_shrinks old new is) s
settled_kept old new grouped (Adds kind id merges) s = settled_of new (merges_kept Inner step_inner kind id old new merges (inner_of old grouped s))
settled_kept old new grouped (AddsBoth first second id other both) s =
    settled_of new (merges_kept Inner step_inner second other both.between new both.second_merges (merges_kept Inner step_inner first id old both.between both.first_merges (inner_of old grouped s)))
settled_kept old new grouped (AddsAll members adds) s = settled_of new (all_kept Inner step_inner members old new adds (inner_of old grouped s))
settled_kept old new grouped (Parses groups ordinary is) s =
    settled_of new (subst Inner (sym is) (parsed_kept Inner step_inner groups (unparsed old) ordinary (inner_of old grouped s)))
settled_kept old new grouped (ParsesPart groups ordinary part) s =
    settled_of new (subst Inner (sym part.table)
    (parsed_kept Inner step_inner part.before (unparsed old) (front part.before (part.refused ∷ part.after) (subst AreOrdinary part.split ordinary)) (inner_of old grouped s)))
settled_kept old new grouped (DeletesOne id live deletes) s = shrinks_settled old new (deletes_shrinks old new grouped s id live deletes) s
settled_kept old new grouped (DeletesAll id live deletes) s = shrinks_settled old new (deletes_group_shrinks old new grouped id live deletes) s
settled_kept old new grouped (DeletesThese ids gone) s = shrinks_settled old new (deletes_these_shrinks old new s ids gone) s
settled_kept old new grouped (Names id x y live same_id same_kind is) s = shrinks_settled old new (names_shrinks old new id x y live same_id same_kind is) s

pub settled-law : SettledIsKept
settled-law = record {
  begins = record {
    merged = record {
      apart = λ place a b x y is is_b apart less is_a. absurd (none-some x is_a);
      entries = λ place g is id item c is_id entry. absurd (none-some item is_id);
    };
    single = λ place g is unmarked. absurd (none-some g is);
  };
  keeps = settled_kept;
}

own_kept : (old new : Table) → AreGrouped old → Edit old new → TypesHaveOwnIds old → TypesHaveOwnIds new
own_kept old new grouped (Stays is) own = types_own old new (stays_shrinks old new is).types own
own_kept old new grouped (Adds kind id merges) own = merges_kept TypesHaveOwnIds step_own kind id old new merges own
own_kept old new grouped (AddsBoth first second id other both) own =
    merges_kept TypesHaveOwnIds step_own second other both.between new both.second_merges (merges_kept TypesHaveOwnIds step_own first id old both.between both.first_merges own)
own_kept old new grouped (AddsAll members adds) own = all_kept TypesHaveOwnIds step_own members old new adds own
own_kept old new grouped (Parses groups ordinary is) own = subst TypesHaveOwnIds (sym is) (parsed_kept TypesHaveOwnIds step_own groups (unparsed old) ordinary own)
own_kept old new grouped (ParsesPart groups ordinary part) own =
    subst TypesHaveOwnIds (sym part.table)
    (parsed_kept TypesHaveOwnIds step_own part.before (unparsed old) (front part.before (part.refused ∷ part.after) (subst AreOrdinary part.split ordinary)) own)
own_kept old new grouped (DeletesOne id live deletes) own = types_own old new (deletes_types old new id deletes) own
own_kept old new grouped (DeletesAll id live deletes) own = types_own old new (deletes_group_types old new grouped id live deletes) own
own_kept old new grouped (DeletesThese ids gone) own = types_own old new (deletes_these_types old new ids gone) own
own_kept old new grouped (Names id x y live same_id same_kind is) own = types_own old new (names_shrinks old new id x y live same_id same_kind is).types own

pub own-law : OwnIdsAreKept
own-law = record { begins = λ id item is. absurd (none-some item is); keeps = own_kept }
