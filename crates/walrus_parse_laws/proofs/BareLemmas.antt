-- Lemmas: what is seen of items without their names.
use Rattle.std.specs.Prelude.{◌≡◌, List, [], ◌∷◌, map, Option, Some, None, refl}
use Rattle.std.specs.Option.{option_map}
use Rattle.std.proofs.Common.{ap, sym, ◌∙◌}
use Rattle.walrus_arena.specs.Arena.{Arena}
use Rattle.walrus_named_bodies.specs.walrus_item_names.Called.{bare_items}
use Rattle.walrus_named_bodies.specs.walrus_file_bodies.walrus_items_into.walrus_module_bodies.walrus_body_trees.walrus_meaning.Meaning.{slots_of}

-- of each item the same is seen without its name
abbrev pub SeesBare : {A B : Type 0} → (A → B) → (A → A) → Type 0
SeesBare {A} see bare = (x : A) → see (bare x) ≡ see x

slot_seen : {A B : Type 0} (see : A → B) (bare : A → A) → SeesBare see bare → (slot : Option A) → option_map see (option_map bare slot) ≡ option_map see slot
slot_seen see bare keeps None = refl
slot_seen see bare keeps (Some x) = ap (λ y. Some y) (keeps x)

all_seen : {A B : Type 0} (see : A → B) (bare : A → A) → SeesBare see bare → (slots : List (Option A)) → map (option_map see) (map (option_map bare) slots) ≡ map (option_map see) slots
all_seen see bare keeps [] = refl
all_seen {A} {B} see bare keeps (slot ∷ slots) =
    ap (λ (o : Option B). o ∷ map (option_map see) (map (option_map bare) slots)) (slot_seen see bare keeps slot)
    ∙ ap (λ (l : List (Option B)). option_map see slot ∷ l) (all_seen see bare keeps slots)

-- so of collections that are the same without names
pub same_seen : {A B : Type 0} (see : A → B) (bare : A → A) → SeesBare see bare → (new old : Arena A) → bare_items bare new ≡ bare_items bare old → slots_of see new ≡ slots_of see old
same_seen {A} see bare keeps new old e =
    sym (all_seen see bare keeps new.slots) ∙ ap (λ (a : Arena A). slots_of see a) e ∙ all_seen see bare keeps old.slots
