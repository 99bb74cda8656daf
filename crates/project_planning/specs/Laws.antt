-- What a plan over a store is: that of the compiler.
use Rattle.std.specs.Prelude.{ℕ, ◌≡◌, List}
use Rattle.cm_base.specs.Definitions.{Definitions}
use Rattle.cm_base.specs.Files.{Files}
use Rattle.cm_base.specs.declared.record.Def.{Def}
use Rattle.cm_description.specs.declared.loaded.Project.{Project}
use Rattle.bin_store.specs.GoodStore.{IsGoodStore}
use Rattle.project_planning.specs.Planning.{plain_plan, plan_over}

-- over a good store it is the compiler's, and that is asked for the unread sources alone
abbrev pub PlansAreTheCompilers : Type 0
PlansAreTheCompilers = (by : Definitions) (texts : List (List ℕ)) (files : Files) (project : Project) (defs : List Def)
    → IsGoodStore by texts files → plan_over by.skel files project defs ≡ plain_plan by.skel files project defs
