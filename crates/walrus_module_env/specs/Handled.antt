-- Bodies that were read beside some type for each handler of a legacy `try`, and whose handlers were given theirs.
use Rattle.std.specs.Prelude.{◌≡◌, ℕ, List, map}
use Rattle.walrus_function_types.specs.Growth.{Grows}
use Rattle.walrus_index_maps.specs.Maps.{Ids}
use Rattle.walrus_handler_types.specs.Giving.{GivesTree}
use Rattle.walrus_handler_types.specs.walrus_body_steps.Meanings.{meaning}
use Rattle.walrus_handler_types.specs.walrus_body_steps.walrus_body_nesting.wasm_normal_form.Trees.{Tree}
use Rattle.walrus_handler_types.specs.walrus_body_steps.walrus_body_nesting.Stands.{StandsAs}
use Rattle.walrus_handler_types.specs.walrus_body_steps.walrus_body_rules.Sights.{Sight}
use Rattle.walrus_handler_types.specs.walrus_tree.Trees.{IsTree}
use Rattle.walrus_handler_types.specs.walrus_tree.walrus_builder.Built.{Seq, seq_of}
use Rattle.walrus_handler_types.specs.walrus_tree.walrus_walks.walrus_instr.declared.seq.InstrSeq.{InstrSeq}
use Rattle.walrus_handler_types.specs.walrus_tree.walrus_walks.walrus_types.Table.{Table}
use Rattle.walrus_module_env.specs.declared.env.ModuleEnv.{ModuleEnv}
use Rattle.walrus_module_env.specs.Around.{sight_in}
use Rattle.walrus_module_env.specs.Env.{tag_type_at}

-- the one sight is the other, types of handlers aside
abbrev pub SeesAside : Sight → Sight → Type 0
SeesAside s u = s ≡ record u { handler_type = s.handler_type }

-- a module that had this table, now or later: its table may have grown, it has the same tags, and as many types of the file
pub record IsLater (e : ModuleEnv) (t : Table) (f : ModuleEnv) : Type 0 where
  pub types : Grows t f.types.now
  pub own : f.own_types ≡ e.own_types
  pub tags : f.tags.now ≡ e.tags.now

-- what stood as a body beside some types of handlers stands so in each later module, once the handlers of its tree were given their types
abbrev pub HandledBodiesStand : Type 0
HandledBodiesStand = (e f : ModuleEnv) (function : ℕ) (j : Ids) (s : Sight) (b : List InstrSeq) (t : IsTree b 0) (c : List Seq) (new : Table) (body : Tree)
    → SeesAside s (sight_in e function j) → StandsAs (meaning s) (map seq_of b) body → GivesTree (tag_type_at e.tags.now) b t e.types.now c new → IsLater e new f → StandsAs (meaning (sight_in f function j)) c body
