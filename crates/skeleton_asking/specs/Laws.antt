-- What skeletons over a store are: those of the compiler.
use Rattle.std.specs.Prelude.{ℕ, ◌≡◌, List, Result}
use Rattle.cm_base.specs.Definitions.{Definitions}
use Rattle.cm_base.specs.Files.{Files, HasNoStore}
use Rattle.cm_base.specs.declared.diag.Diag.{Diag}
use Rattle.cm_base.specs.declared.record.Skeleton.{Skeleton}
use Rattle.cm_description.specs.declared.loaded.Project.{Project}
use Rattle.bin_store.specs.GoodStore.{IsGoodStore}
use Rattle.skeleton_asking.specs.Skeletons.{plain_over, skeletons_of, skeletons_over}

-- over a good store they are the compiler's, with its first refusal, and it is asked for the unread ones alone
abbrev pub StoredAreTheCompilers : Type 0
StoredAreTheCompilers = (by : Definitions) (texts : List (List ℕ)) (files : Files) (project : Project)
    → IsGoodStore by texts files → skeletons_over by.skel files project ≡ plain_over by.skel files project

-- where no store was begun it is asked for every source, up to the first that it refuses
abbrev pub AllAreAsked : Type 0
AllAreAsked = (skel : List ℕ → List ℕ → Result Skeleton Diag) (files : Files) (project : Project)
    → HasNoStore files → skeletons_over skel files project ≡ skeletons_of skel project
