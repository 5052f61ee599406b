-- What a contract sees of a type of a table and of a recursion group.
use Rattle.std.specs.Prelude.{ℕ, Bool, false, List, Option}
use Rattle.std.specs.Option.{option_map, option_map_or}
use Rattle.std.specs.Str.{bytes_eq}
use Rattle.std.specs.String.{string_bytes}
use Rattle.walrus_forms.specs.Forms.{form_of}
use Rattle.walrus_forms.specs.Kinds.{Kind}
use Rattle.walrus_items.specs.declared.subtype.Type.{«Type» as TypeItem}
use Rattle.walrus_items.specs.declared.subtype.RecGroup.{RecGroup}

abbrev pub kind_of : TypeItem → Kind
kind_of ty = record { form = form_of ty.kind; final = ty.is_final; supertype = ty.supertype; entry = ty.entry }

-- a type in a table: its id, its kind, and the bytes of its name
pub record Item : Type 0 where
  pub id : ℕ
  pub kind : Kind
  pub name : Option (List ℕ)

abbrev pub item_of : TypeItem → Item
item_of ty = record { id = ty.id; kind = kind_of ty; name = option_map string_bytes ty.name }

-- whether a type has this name
abbrev pub has_name : List ℕ → Item → Bool
has_name name item = option_map_or (λ bytes. bytes_eq bytes name) item.name false

-- a recursion group: whether it is written as one, and its members
pub record Group : Type 0 where
  pub explicit : Bool
  pub types : List ℕ

abbrev pub group_of : RecGroup → Group
group_of group = record { explicit = group.explicit; types = group.types.items }
