use Rattle.std.proofs.Common.{◌≡◌, ◌∙◌, ℕ, ◌+◌, false, All, List, [], ◌∷◌, ◌++◌, length, map, sym, ap, subst}
use Rattle.std.proofs.lemmas.List.Elements.{All-nil, All-cons}
use Rattle.walrus_forms.specs.declared.record.GroupRecord.{GroupRecord}
use Rattle.walrus_forms.specs.declared.record.TypeRecord.{TypeRecord}
use Rattle.walrus_forms.specs.Kinds.{Kind}
use Rattle.walrus_forms.specs.Records.{record_kind, type_group}
use Rattle.walrus_forms.specs.Renaming.{KindBelow}
use Rattle.walrus_types.specs.Parsing.{AreBelow}
use Rattle.walrus_builder_tests.proofs.tables.unmarked.pair.Goals as goal

pub returns : goal.returns
returns c =
    let a : Kind = record_kind c.array.result in
    let b : Kind = record_kind c.array-2.result in
    let types : c.push-2.new.self.items ≡ c.array.result ∷ c.array-2.result ∷ [] =
    c.in_ok-push-2.ensures.items ∙ ap (λ (l : List TypeRecord). l ++ c.array-2.result ∷ []) (c.in_ok-push.ensures.items ∙ ap (λ (l : List TypeRecord). l ++ c.array.result ∷ []) c.new-types.ensures.items) in
    let groups = c.in_ok-push-3.ensures.items ∙ ap (λ (l : List GroupRecord). l ++ record { marked = false; types = c.push-2.new.self } ∷ []) c.new-groups.ensures.items in
    subst (λ (l : List GroupRecord). AreBelow 0 (map type_group l)) (sym groups) (
      subst (λ (l : List TypeRecord). All (KindBelow (0 + length (map record_kind l))) (map record_kind l)) (sym types)
          (All-cons (KindBelow 2) a (b ∷ []) (c.array.ensures 2) (All-cons (KindBelow 2) b [] (c.array-2.ensures 2) (All-nil (KindBelow 2)))),
      tt,
    )
