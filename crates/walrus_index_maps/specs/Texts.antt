-- The texts of what indices number.
use Rattle.std.specs.Prelude.{ℕ, List, codes}
use Rattle.walrus_index_maps.specs.declared.space.Space.{Space}
use Rattle.walrus_index_maps.specs.declared.space.Space.TheVariants as spaces

abbrev pub space_text : Space → List ℕ
space_text spaces.«Type» = codes "type"
space_text spaces.Function = codes "function"
space_text spaces.Table = codes "table"
space_text spaces.Memory = codes "memory"
space_text spaces.Tag = codes "tag"
space_text spaces.Global = codes "global"
space_text spaces.Element = codes "element"
space_text spaces.Data = codes "data"
space_text spaces.Local = codes "local"
space_text spaces.Label = codes "label"
