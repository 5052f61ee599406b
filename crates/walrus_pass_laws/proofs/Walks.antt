-- The items that walks name.
use Rattle.std.proofs.Common.{◌≡◌, ◌∙◌, List, [], ◌∷◌, ◌++◌, map, refl, sym, ap}
use Rattle.walrus_walks.specs.Events.{Event, StartOf, EndOf, Visits, NamesSeq, NamesLocal, NamesMemory, NamesTable, NamesGlobal, NamesFunction, NamesData, NamesType, NamesElement, NamesTag, Holds}
use Rattle.walrus_walks.specs.Walk.{body_walk}
use Rattle.walrus_marks.specs.Named.{event_items, items_of}
use Rattle.walrus_roots.specs.declared.item.Item.{Item}
use Rattle.walrus_meaning.specs.Told.{told_all}
use Rattle.walrus_pass_laws.specs.Instrs.{unlabelled}
use Rattle.walrus_pass_laws.specs.Bodies.{body_names, named_item, BodiesNameWhatIsTold, WalksNameItems}
use Rattle.walrus_pass_laws.proofs.Instrs.{out, out_append}
use Rattle.walrus_pass_laws.proofs.Sets.{same_eq, same_sym, same_trans, same_map, same_of, have_same, map_append}

event_named : (e : Event) → event_items e ≡ map named_item (out (e ∷ []))
event_named (NamesSeq id) = refl
event_named (NamesLocal id) = refl
event_named (NamesMemory id) = refl
event_named (NamesTable id) = refl
event_named (NamesGlobal id) = refl
event_named (NamesFunction id) = refl
event_named (NamesData id) = refl
event_named (NamesType id) = refl
event_named (NamesElement id) = refl
event_named (NamesTag id) = refl
event_named (StartOf seq) = refl
event_named (EndOf seq) = refl
event_named (Visits instr place) = refl
event_named (Holds value) = refl

events_named : (es : List Event) → items_of es ≡ map named_item (out es)
events_named [] = refl
events_named (e ∷ es) =
    ap (λ (l : List Item). l ++ items_of es) (event_named e)
    ∙ ap (λ (l : List Item). map named_item (out (e ∷ [])) ++ l) (events_named es)
    ∙ sym (map_append named_item (out (e ∷ [])) (out es))
    ∙ sym (ap (map named_item) (out_append (e ∷ []) es))

pub walks_named : BodiesNameWhatIsTold → WalksNameItems
walks_named told b tree =
    have_same _ _ (same_trans _ _ _ (same_eq _ _ (events_named (body_walk b 0))) (same_map named_item (unlabelled (told_all (body_walk b 0))) (unlabelled (body_names b)) (same_sym _ _ (same_of _ _ (told b tree)))))
